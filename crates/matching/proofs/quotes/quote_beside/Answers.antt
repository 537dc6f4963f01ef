use Rattle.matching.proofs.quotes.quote_beside.Goals as goal

pub returns : goal.returns
returns g c =
    let figures = rw (c.of.ensures.rows, c.of.ensures.ceiling, c.in_ok-weights.ensures.list) at c.quote.ensures in
    rw (c.in_ok-weights.ensures.passed, figures)
