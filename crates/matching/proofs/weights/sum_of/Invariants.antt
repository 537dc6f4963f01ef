use Rattle.std.proofs.Common.{◌≡◌, ◌+◌, ◌*◌, ◌^◌, ◌≤◌, drop}
use Rattle.matching.specs.Weights.{weight_sum}
use Rattle.matching.proofs.weights.sum_of.Given as goal

abbrev pub invariant-loop-entry : goal.invariant-loop-entry
invariant-loop-entry l = (l.sum + weight_sum (drop l.entry-index l.list) ≡ weight_sum l.list) × (l.sum ≤ l.entry-index * 2 ^ 64)
