use Rattle.std.proofs.Common.{rules}
use Rattle.house.proofs.state.House.quote.Goals as goal

pub returns-then-gap_too_large : goal.returns-then-gap_too_large
returns-then-gap_too_large g c =
    let own = rw (c.book-book.ensures.rows, c.book-book.ensures.ceiling, c.in_ok-weights.ensures.list) at c.quote-figures.ensures in
    search rules

pub returns : goal.returns
returns g c =
    let own = rw (c.book-book.ensures.rows, c.book-book.ensures.ceiling, c.in_ok-weights.ensures.list) at c.quote-figures.ensures in
    search rules
