use Rattle.books.proofs.Kept.{promise}
use Rattle.books.proofs.Soundness.{sound-opened}
use Rattle.house.proofs.Kept.{sealed}
use Rattle.house.proofs.state.House.open.Goals as goal

pub invariant_of-result : goal.invariant_of-result
invariant_of-result g c = record { sound = sealed _ _ c.new.ensures.value (sound-opened _ _ _ _) }

pub returns-clause-promise : goal.returns-clause-promise
returns-clause-promise g c = promise g.C.Contract.meaning g.met.C.Contract.rules
