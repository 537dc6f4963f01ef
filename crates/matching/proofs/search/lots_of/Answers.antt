use Rattle.std.proofs.Common.{ap, ◌∙◌, take_all}
use Rattle.matching.specs.Fills.{given}
use Rattle.matching.specs.Legs.{told_lots}
use Rattle.matching.proofs.Places.{told-turn}
use Rattle.matching.proofs.search.lots_of.Goals as goal

pub loop-i-preserved : goal.loop-i-preserved
loop-i-preserved g c =
    told-turn 256 (given c.args.fills.now) c.args.rows.now c.loop-i.i c.index-rows-i.result c.given_lots.result c.loop-i.lots c.loop-i.invariant c.given_lots.ensures c.loop-i-test.true c.requires c.index-rows-i.is

pub returns : goal.returns
returns g c = c.loop-i.invariant ∙ ap (told_lots 256 (given c.args.fills.now)) (take_all _ _ c.loop-i-test.false)
