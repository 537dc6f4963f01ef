use Rattle.matching.proofs.Peak.{worst-at-breakpoint}
use Rattle.matching.proofs.laws.worst_at_breakpoint.Goals as goal

pub returns : goal.returns
returns g c = worst-at-breakpoint g.C.Contract.meaning g.met.C.Contract.rules
