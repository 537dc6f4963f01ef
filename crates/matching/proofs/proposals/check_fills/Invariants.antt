use Rattle.std.proofs.Common.{◌≡◌, ◌-◌, length}
use Rattle.std.specs.List.{find, range_with_len}
use Rattle.matching.specs.Fills.{bad_fill, first_bad_fill}
use Rattle.matching.proofs.proposals.check_fills.Given as goal

abbrev pub invariant-loop-index : goal.invariant-loop-index
invariant-loop-index l = first_bad_fill l.fills ≡ find (bad_fill l.fills) (range_with_len l.index (length l.fills - l.index))
