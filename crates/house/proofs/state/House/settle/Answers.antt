use Rattle.std.proofs.Common.{ap}
use Rattle.books.proofs.SoundClearing.{sound-settled}
use Rattle.house.proofs.Kept.{house-sound, sealed}
use Rattle.house.proofs.state.House.settle.Goals as goal

pub invariant_of-self : goal.invariant_of-self
invariant_of-self g c =
    let members = ap (λ t. t.members) c.settle.ensures.value in
    record { sound = sealed _ _ c.settle.ensures.value (sound-settled (house-sound c.args.self.now) g.C.Contract.meaning c.args.price c.if-self.false (rw (← members) c.settle.ensures.low) c.settle.ensures.owed) }
