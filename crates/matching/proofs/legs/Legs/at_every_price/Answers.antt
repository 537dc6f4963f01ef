use Rattle.std.proofs.Common.{◌+◌, refl, ap, arith}
use Rattle.matching.specs.declared.search.Peak.{Peak}
use Rattle.matching.proofs.Tries.{trying-one, trying-more, all-tried}
use Rattle.matching.proofs.legs.Legs.at_every_price.Goals as goal

pub loop-price-init : goal.loop-price-init
loop-price-init g c = trying-one _ _ _ c.candidate-best.result c.candidate-best.ensures.stands (ap (λ (p : Peak). p.price) c.candidate-best.ensures.here)

pub loop-price-preserved : goal.loop-price-preserved
loop-price-preserved g c =
    trying-more _ _ _ c.candidate-best.result c.loop-price.price c.loop-price.best c.tried-best.result c.loop-price.price c.loop-price.invariant c.tried-best.ensures.improves c.tried-best.ensures.tries refl

pub tried-best-requires : goal.tried-best-requires
tried-best-requires g c = record { within = omega arith; stands = c.loop-price.invariant.improves.stands }

pub returns : goal.returns
returns g c = all-tried _ _ c.candidate-best.result c.loop-price.price c.loop-price.best c.loop-price.invariant (omega arith)

pub returns-2 : goal.returns-2
returns-2 g c =
    let last =
    trying-more _ _ _ c.candidate-best.result c.loop-price.price c.loop-price.best c.tried-best.result c.loop-price.price c.loop-price.invariant c.tried-best.ensures.improves c.tried-best.ensures.tries refl in
    all-tried _ _ c.candidate-best.result (c.loop-price.price + 1) c.tried-best.result last (omega arith)
