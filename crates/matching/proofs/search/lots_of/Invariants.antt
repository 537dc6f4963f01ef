use Rattle.std.proofs.Common.{◌≡◌, take}
use Rattle.matching.specs.Fills.{given}
use Rattle.matching.specs.Legs.{told_lots}
use Rattle.matching.proofs.search.lots_of.Given as given-here

abbrev pub invariant-loop-i : given-here.invariant-loop-i
invariant-loop-i g l = l.lots ≡ told_lots 256 (given l.fills) (take l.i l.rows)
