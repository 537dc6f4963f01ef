-- The lines of a report, one behind another. Assumes nothing.
use Rattle.std.specs.Prelude.{List, ◌++◌, ℕ, ℤ, pos, codes}
use Rattle.books.specs.declared.answers.Cleared.{Cleared}
use Rattle.books.specs.Publishing.{line}

-- This stays shut until a proof opens it, since the places of a figure would otherwise fill every goal.
unfoldable pub line_of : List ℕ → ℤ → List ℕ
line_of name z = line name z

abbrev pub lines_of : Cleared → List ℕ
lines_of a = ((((line_of (codes "clearing") (pos a.clearing) ++ line_of (codes "net") a.net) ++ line_of (codes "reserve") a.reserve) ++ line_of (codes "worst") (pos a.worst)) ++ line_of (codes "gap") a.gap) ++ line_of (codes "weights") (pos a.weights)
