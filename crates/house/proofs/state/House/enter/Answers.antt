use Rattle.std.proofs.Common.{◌≡◌, ◌<◌, ◌≤◌, sym, ◌∙◌, arith, length-take, rules}
use Rattle.std.proofs.lemmas.Grind.{common_steps}
use Rattle.books.specs.Calls.{max_price, max_number}
use Rattle.books.proofs.Soundness.{sound-entered}
use Rattle.house.proofs.Kept.{house-sound, sealed}
use Rattle.house.proofs.state.House.enter.Goals as goal

pub place-requires-clause-within : goal.place-requires-clause-within
place-requires-clause-within g c = omega (arith, c.in-Some-free_row.ensures.0, length-take 256 c.args.self.now.books.rows.now)

pub invariant_of-self : goal.invariant_of-self
invariant_of-self g c =
    let low : c.args.price ≤ max_price = omega arith in
    let next : c.args.self.now.books.orders < max_number = omega arith in
    record { sound = sealed _ _ c.place.ensures.value (sound-entered (house-sound c.args.self.now) c.in-Some-free_row.k c.in-Some.member.number c.args.side c.args.contract c.args.price c.args.lots c.in-Some.member.known low (sym c.is_lots.ensures ∙ c.if-not-is_lots.false) next) }

pub returns-clause-after : goal.returns-clause-after
returns-clause-after g c =
    let same : c.in-Some.member.number ≡ c.args.member = grind (arith, common_steps) in
    (c.in-Some-free_row.k, record { within = c.in-Some-free_row.ensures.0; unused = c.in-Some-free_row.ensures.1; after = search rules })
