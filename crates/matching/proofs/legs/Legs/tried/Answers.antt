use Rattle.matching.proofs.Tries.{answer-improves, answer-tries}
use Rattle.matching.proofs.legs.Legs.tried.Goals as goal

pub returns : goal.returns
returns g c = record {
  improves = answer-improves _ _ c.args.best c.candidate.result c.better.result c.requires.stands c.candidate.ensures.stands c.better.ensures.value;
  tries = answer-tries _ _ c.args.best c.candidate.result c.better.result c.args.price c.requires.stands c.candidate.ensures.stands c.candidate.ensures.here c.better.ensures.value;
}
