use Rattle.matching.proofs.QuoteDuality.{ask-best-within-gap}
use Rattle.matching.proofs.laws.ask_best_within_gap.Goals as goal

pub returns : goal.returns
returns g c = ask-best-within-gap g.C.Contract.meaning
