use Rattle.std.proofs.Common.{◌≡◌, ◌+◌, ◌*◌, ◌^◌, ◌≤◌, drop}
use Rattle.matching.specs.Weights.{weight_sum, value}
use Rattle.matching.proofs.weights.Weights.value.Given as goal

abbrev pub invariant-loop-entry : goal.invariant-loop-entry
invariant-loop-entry g l =
    (l.sum + value g.C.Contract.meaning l.ceiling.value (drop l.entry-index l.self.list.now) l.contract ≡ value g.C.Contract.meaning l.ceiling.value l.self.list.now l.contract) ×
    (l.sum + weight_sum (drop l.entry-index l.self.list.now) * 2 ^ 32 ≤ weight_sum l.self.list.now * 2 ^ 32)
