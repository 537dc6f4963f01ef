use Rattle.report.proofs.ReadBack.{figures-read-back}
use Rattle.report.proofs.laws.figures_read_back.Goals as goal

pub returns : goal.returns
returns c = figures-read-back
