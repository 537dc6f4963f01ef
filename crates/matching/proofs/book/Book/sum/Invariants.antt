use Rattle.std.specs.Fn.{FnReturnsAt}
use Rattle.matching.proofs.Running.{RunningOf}
use Rattle.matching.proofs.book.Book.sum.Given as goal

abbrev pub invariant-loop-row : goal.invariant-loop-row
invariant-loop-row g l = RunningOf (FnReturnsAt g.F.Fn l.figure) l.self.rows.now l.row-index l.sum
