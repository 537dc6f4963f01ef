use Rattle.std.proofs.Common.{◌∙◌}
use Rattle.trials.proofs.Table.{table}
use Rattle.trials.proofs.worked.worked_terms.Goals as goal

pub returns : goal.returns
returns c = record { trials = table c.worked_ceiling.ensures.table; house = c.exact_terms.ensures.house; ceiling = c.exact_terms.ensures.ceiling ∙ c.worked_ceiling.ensures.under; gap = c.exact_terms.ensures.gap }
