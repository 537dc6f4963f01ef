use Rattle.matching.proofs.QuoteDuality.{bid-best-within-gap}
use Rattle.matching.proofs.laws.bid_best_within_gap.Goals as goal

pub returns : goal.returns
returns g c = bid-best-within-gap g.C.Contract.meaning
