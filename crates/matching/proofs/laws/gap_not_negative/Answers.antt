use Rattle.matching.proofs.Duality.{gap-not-negative}
use Rattle.matching.proofs.laws.gap_not_negative.Goals as goal

pub returns : goal.returns
returns g c = gap-not-negative g.C.Contract.meaning
