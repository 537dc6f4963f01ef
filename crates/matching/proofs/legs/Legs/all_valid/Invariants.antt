use Rattle.matching.specs.Legs.{ValidLeg, row_legs}
use Rattle.matching.proofs.Tries.{Asking}
use Rattle.matching.proofs.legs.Legs.all_valid.Given as goal

abbrev pub invariant-loop-row : goal.invariant-loop-row
invariant-loop-row g l =
    (goal.iterator-loop-row g).can_next l.row-iterator ×
    (goal.iterator-loop-row g).is_finite l.row-iterator ×
    Asking (ValidLeg g.C.Contract.meaning l.self.ceiling.value) (row_legs l.self.rows.now l.self.lots.now) (row_legs l.row-iterator.a.rest.now l.row-iterator.b.rest.now)
