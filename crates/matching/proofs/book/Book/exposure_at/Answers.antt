use Rattle.std.proofs.Common.{◌^◌, ◌∙◌, lit<, rules}
use Rattle.matching.specs.Figures.{row_owed, filled_lots}
use Rattle.matching.proofs.Amounts.{narrow-fits, narrowed, narrow-small}
use Rattle.matching.proofs.book.Book.exposure_at.Goals as goal

pub overflow_cast-result : goal.overflow_cast-result
overflow_cast-result g c = narrow-fits _ _ (lit< tt) (c.sum.ensures.bound (2 ^ 48) (λ r z p. search rules))

pub returns : goal.returns
returns g c = record {
  value = narrowed _ _ (lit< tt) (c.sum.ensures.bound (2 ^ 48) (λ r z p. search rules)) ∙ c.sum.ensures.value (row_owed g.C.Contract.meaning c.args.self.now.ceiling.value filled_lots c.args.price) (λ r z p. search rules);
  bound = narrow-small _ _ (lit< tt) (c.sum.ensures.bound (2 ^ 48) (λ r z p. search rules));
}
