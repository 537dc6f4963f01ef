use Rattle.std.proofs.Common.{◌≡◌, Err, sym, ◌∙◌, rules}
use Rattle.books.specs.State.{shape}
use Rattle.house.proofs.Clears.{judged-first, judged-ok, judged-err}
use Rattle.house.proofs.state.House.judge.Goals as goal

pub returns-in_err-weights-clause-value : goal.returns-in_err-weights-clause-value
returns-in_err-weights-clause-value g c =
    let same : c.from_residual.result ≡ Err c.in_err-weights.field-0.0 = search rules in
    same ∙ sym (judged-first g.C.Contract.meaning (shape c.args.self.now.books) c.args.fills.now c.args.weights.now c.in_err-weights.field-0.0 c.in_err-weights.ensures.refused)

pub returns-in_err-judge_figures-clause-value : goal.returns-in_err-judge_figures-clause-value
returns-in_err-judge_figures-clause-value g c =
    let same : c.from_residual-in_err-judge_figures.result ≡ Err c.in_err-judge_figures.field-0.0 = search rules in
    let own = rw (c.book.ensures.rows, c.book.ensures.ceiling, c.in_ok-weights.ensures.list) at c.appraise-figures.ensures.value in
    same ∙ sym (judged-err g.C.Contract.meaning (shape c.args.self.now.books) c.args.fills.now c.args.weights.now c.appraise-figures.result c.in_err-judge_figures.field-0.0 (sym own) c.in_ok-weights.ensures.passed (sym c.judge_figures.ensures ∙ c.in_err-judge_figures.was))

pub returns-clause-value : goal.returns-clause-value
returns-clause-value g c =
    let own = rw (c.book.ensures.rows, c.book.ensures.ceiling, c.in_ok-weights.ensures.list) at c.appraise-figures.ensures.value in
    sym (judged-ok g.C.Contract.meaning (shape c.args.self.now.books) c.args.fills.now c.args.weights.now c.appraise-figures.result (sym own) c.in_ok-weights.ensures.passed (sym c.judge_figures.ensures ∙ c.in_ok-judge_figures.was))
