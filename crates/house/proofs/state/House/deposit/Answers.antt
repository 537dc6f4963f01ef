use Rattle.std.proofs.Common.{sym, ◌∙◌}
use Rattle.books.proofs.Soundness.{sound-deposited}
use Rattle.house.proofs.Kept.{house-sound, sealed}
use Rattle.house.proofs.state.House.deposit.Goals as goal

pub invariant_of-self : goal.invariant_of-self
invariant_of-self g c = record { sound = sealed _ _ c.deposit.ensures.value (sound-deposited (house-sound c.args.self.now) c.in-Some.member.number c.args.amount c.in-Some.member.known (sym c.too_much.ensures ∙ c.if-too_much.false)) }
