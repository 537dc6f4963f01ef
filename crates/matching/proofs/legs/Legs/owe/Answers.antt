use Rattle.std.proofs.Common.{◌≡◌, ◌<◌, length, refl, arith, lit<, rules}
use mir.Syntax.{w128}
use Rattle.std.proofs.lemmas.Slice.Zip.{either_empty_from_Zip}
use Rattle.matching.specs.Legs.{row_legs}
use Rattle.matching.proofs.Amounts.{again}
use Rattle.matching.proofs.Places.{row_legs-few, row_legs-next, row_legs-done}
use Rattle.matching.proofs.Running.{adding-first, adding-more, adding-done}
use Rattle.matching.proofs.legs.Legs.owe.Goals as goal

pub loop-row-init : goal.loop-row-init
loop-row-init g c =
    let rows : c.into_iter-row-iterator.result.a.rest.now ≡ c.args.self.now.rows.now = search rules in
    let lots : c.into_iter-row-iterator.result.b.rest.now ≡ c.args.self.now.lots.now = search rules in
    let few : length (row_legs c.args.self.now.rows.now c.args.self.now.lots.now) < 257 = omega (arith, row_legs-few c.args.self.now.rows.now c.args.self.now.lots.now, c.args.self.now.few) in
    let same = again c.leg_owes-sum.result c.leg_owes-sum.type_inv in
    ((tt, tt), tt, rw (rows, lots, same) (adding-first _ few refl c.leg_owes-sum.ensures.value c.leg_owes-sum.ensures.bound))

pub loop-row-preserved : goal.loop-row-preserved
loop-row-preserved g c =
    let s = c.in-Some.ensures.steps in
    let next = row_legs-next _ _ _ _ _ _ c.with_lots.result s.0 s.1 c.with_lots.ensures in
    ((tt, tt), tt, adding-more w128 c.with_lots.result _ c.leg_owes-sum-in-loop-row.result c.loop-row.invariant.2 next (lit< tt) c.leg_owes-sum-in-loop-row.type_inv c.leg_owes-sum-in-loop-row.ensures.bound c.leg_owes-sum-in-loop-row.ensures.value)

pub returns-clause-value : goal.returns-clause-value
returns-clause-value g c = adding-done c.loop-row.invariant.2 (row_legs-done _ _ (either_empty_from_Zip c.loop-row.row-iterator c.next.new.self c.next.result c.in-None.is c.next.ensures.steps))
