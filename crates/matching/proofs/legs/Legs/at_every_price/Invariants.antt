use Rattle.matching.specs.Legs.{legs_owed, listed}
use Rattle.matching.proofs.Tries.{Trying}
use Rattle.matching.proofs.legs.Legs.at_every_price.Given as goal

abbrev pub invariant-loop-price : goal.invariant-loop-price
invariant-loop-price g l = Trying (legs_owed g.C.Contract.meaning l.self.ceiling.value (listed l.self)) l.self.ceiling.value (λ k. k) l.initial.best l.price l.best
