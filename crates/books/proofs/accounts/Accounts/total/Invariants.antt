use Rattle.std.proofs.Common.{◌^◌}
use Rattle.matching.proofs.Running.{Running}
use Rattle.books.proofs.accounts.Accounts.total.Given as goal

abbrev pub invariant-loop-account : goal.invariant-loop-account
invariant-loop-account l = Running (λ one. one.cash) (2 ^ 110) l.self.list l.account-index l.sum
