use Rattle.matching.specs.Legs.{listed, row_legs}
use Rattle.matching.proofs.Tries.{TryingLegs}
use Rattle.matching.proofs.legs.Legs.at_breakpoints.Given as goal

abbrev pub invariant-loop-row : goal.invariant-loop-row
invariant-loop-row g l =
    (goal.iterator-loop-row g).can_next l.row-iterator ×
    (goal.iterator-loop-row g).is_finite l.row-iterator ×
    TryingLegs g.C.Contract.meaning l.self.ceiling.value (listed l.self) (row_legs l.row-iterator.a.rest.now l.row-iterator.b.rest.now) l.best
