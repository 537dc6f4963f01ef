use Rattle.matching.proofs.QuoteDuality.{quote-gaps-not-negative}
use Rattle.matching.proofs.laws.quote_gaps_not_negative.Goals as goal

pub returns : goal.returns
returns g c = quote-gaps-not-negative g.C.Contract.meaning
