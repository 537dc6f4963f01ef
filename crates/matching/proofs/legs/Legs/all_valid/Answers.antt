use Rattle.std.proofs.lemmas.Slice.Zip.{either_empty_from_Zip}
use Rattle.matching.proofs.Places.{row_legs-next, row_legs-done}
use Rattle.matching.proofs.Tries.{asking-more, asking-fails, asking-done}
use Rattle.matching.proofs.legs.Legs.all_valid.Goals as goal

pub returns-then-not-leg_valid : goal.returns-then-not-leg_valid
returns-then-not-leg_valid g c =
    let s = c.in-Some.ensures.steps in
    asking-fails _ _ _ c.loop-row.invariant.2 c.args.self.now.beside c.with_lots.result _ c.leg_valid.result (row_legs-next _ _ _ _ _ _ c.with_lots.result s.0 s.1 c.with_lots.ensures) c.leg_valid.ensures c.if-not-leg_valid.true

pub loop-row-preserved : goal.loop-row-preserved
loop-row-preserved g c =
    let s = c.in-Some.ensures.steps in
    ((tt, tt), tt, asking-more _ _ _ c.loop-row.invariant.2 c.with_lots.result _ c.leg_valid.result (row_legs-next _ _ _ _ _ _ c.with_lots.result s.0 s.1 c.with_lots.ensures) c.leg_valid.ensures c.if-not-leg_valid.false)

pub returns : goal.returns
returns g c =
    asking-done _ _ _ c.loop-row.invariant.2 c.args.self.now.beside c.leg_valid-2.result (row_legs-done _ _ (either_empty_from_Zip c.loop-row.row-iterator c.next.new.self c.next.result c.in-None.is c.next.ensures.steps)) c.leg_valid-2.ensures
