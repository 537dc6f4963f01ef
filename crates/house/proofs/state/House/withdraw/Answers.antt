use Rattle.std.proofs.Common.{sym, ◌∙◌}
use Rattle.books.proofs.Soundness.{sound-withdrawn}
use Rattle.house.proofs.Kept.{house-sound, sealed}
use Rattle.house.proofs.state.House.withdraw.Goals as goal

pub invariant_of-self : goal.invariant_of-self
invariant_of-self g c = record { sound = sealed _ _ c.withdraw.ensures.value (sound-withdrawn (house-sound c.args.self.now) g.C.Contract.meaning c.in-Some.member.number c.args.amount c.in-Some.member.known (sym c.short_of.ensures ∙ c.if-short_of.false)) }
