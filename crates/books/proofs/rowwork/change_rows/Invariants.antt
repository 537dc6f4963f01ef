use Rattle.std.proofs.Common.{◌≡◌, ℕ, ◌≤◌, get_or}
use Rattle.matching.specs.declared.rows.Row.{Row}
use Rattle.books.specs.Rowwork.{Makes}
use Rattle.books.proofs.RowWalk.{walked}
use Rattle.books.proofs.rowwork.change_rows.Given as goal

-- the rows before i are done, and those from i on as they were
abbrev pub invariant-loop-i : goal.invariant-loop-i
invariant-loop-i g l =
    ((becomes : Row g.row.C.Denot → Row g.row.C.Denot) → Makes g.F.Fn l.change becomes → l.rows ≡ walked becomes l.i l.initial.rows)
    × ((k : ℕ) (d : Row g.row.C.Denot) → l.i ≤ k → get_or l.rows k d ≡ get_or l.initial.rows k d)
