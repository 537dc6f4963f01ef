use Rattle.std.proofs.Common.{◌^◌}
use Rattle.matching.specs.Legs.{leg_owed, listed, row_legs}
use Rattle.matching.proofs.Running.{Adding}
use Rattle.matching.proofs.legs.Legs.owe.Given as goal

abbrev pub invariant-loop-row : goal.invariant-loop-row
invariant-loop-row g l =
    (goal.iterator-loop-row g).can_next l.row-iterator ×
    (goal.iterator-loop-row g).is_finite l.row-iterator ×
    Adding (leg_owed g.C.Contract.meaning l.self.ceiling.value l.price) (2 ^ 96) 257 (listed l.self) (row_legs l.row-iterator.a.rest.now l.row-iterator.b.rest.now) l.sum
