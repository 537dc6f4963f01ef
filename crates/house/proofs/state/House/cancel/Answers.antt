use Rattle.books.proofs.Soundness.{sound-cancelled}
use Rattle.house.proofs.Kept.{house-sound, sealed}
use Rattle.house.proofs.state.House.cancel.Goals as goal

pub invariant_of-self : goal.invariant_of-self
invariant_of-self g c = record { sound = sealed _ _ c.cancel.ensures.value (sound-cancelled (house-sound c.args.self.now) c.in-Some.member.number c.args.order) }
