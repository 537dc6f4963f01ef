use Rattle.matching.proofs.Duality.{best-within-gap}
use Rattle.matching.proofs.laws.best_within_gap.Goals as goal

pub returns : goal.returns
returns g c = best-within-gap g.C.Contract.meaning
