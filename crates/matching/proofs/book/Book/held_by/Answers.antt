use Rattle.std.proofs.Common.{◌^◌, ◌∙◌, lit<, rules}
use Rattle.matching.specs.Rows.{held_in_row}
use Rattle.matching.proofs.Amounts.{narrow-fits, narrowed}
use Rattle.matching.proofs.book.Book.held_by.Goals as goal

pub overflow_cast-result : goal.overflow_cast-result
overflow_cast-result g c = narrow-fits _ _ (lit< tt) (c.sum.ensures.bound (2 ^ 49) (λ r z p. search rules))

pub returns : goal.returns
returns g c =
    narrowed _ _ (lit< tt) (c.sum.ensures.bound (2 ^ 49) (λ r z p. search rules)) ∙ c.sum.ensures.value (held_in_row g.C.Contract.meaning c.args.self.now.ceiling.value c.args.member) (λ r z p. search rules)
