use Rattle.std.proofs.Common.{◌^◌, lit<, lit≤, rules}
use Rattle.matching.proofs.Amounts.{small-back}
use Rattle.matching.proofs.book.Book.cash_taken.Goals as goal

pub returns-clause-bound : goal.returns-clause-bound
returns-clause-bound g c = small-back _ _ _ (lit≤ tt) (lit< tt) (c.sum.ensures.bound (2 ^ 96) (λ r z p. search rules))
