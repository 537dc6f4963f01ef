use Rattle.matching.specs.Legs.{legs_owed, listed}
use Rattle.matching.proofs.Tries.{Trying}
use Rattle.matching.proofs.legs.Legs.tried_leg.Given as goal

abbrev pub invariant-loop-i : goal.invariant-loop-i
invariant-loop-i g l =
    Trying (legs_owed g.C.Contract.meaning l.self.ceiling.value (listed l.self)) l.self.ceiling.value (g.C.Contract.meaning.breakpoint l.self.ceiling.value l.l.contract) l.initial.best l.i l.best
