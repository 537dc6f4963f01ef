use Rattle.std.proofs.Common.{ℕ, ℤ}
use Rattle.matching.specs.declared.rows.Row.{Row}
use Rattle.books.specs.Money.{cash_in}
use Rattle.books.specs.Payments.{Brings}
use Rattle.books.proofs.Paying.{Paid}
use Rattle.books.proofs.payments.credit_members.Given as goal

abbrev pub invariant-loop-row : goal.invariant-loop-row
invariant-loop-row g l = (flow : Row g.row.C.Denot → ℤ) (size : ℕ) → Brings g.F.Fn l.amount flow size → Paid flow size l.book.rows.now (cash_in l.initial.accounts.list) l.row-index (cash_in l.accounts.list)
