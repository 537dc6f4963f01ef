use Rattle.std.proofs.Common.{◌≡◌, ◌≤◌, length, take, vec_items, vec_len, vec_capacity}
use Rattle.replay.specs.Desk.{InHand}
use Rattle.replay.specs.Seen.{state_of, seen}
use Rattle.replay.proofs.Running.{SoFar}
use Rattle.replay.proofs.replaying.replay.Given as goal

abbrev pub invariant-loop-call : goal.invariant-loop-call
invariant-loop-call g l =
    SoFar g.C.Contract.meaning (seen l.initial.keeper l.initial.others l.initial.page) (take l.call-index l.calls) (vec_items l.answers) (seen l.keeper l.others l.page) ×
    InHand (state_of l.keeper) l.keeper.own ×
    (vec_len l.answers ≡ l.call-index) ×
    (length l.calls ≤ vec_capacity l.answers)
