-- What the question standing leaves in the caller's list. Assumes nothing.
use Rattle.std.specs.Prelude.{◌≡◌, ℕ, List, ◌++◌, length, drop, Ok, Err, Result}
use Rattle.std.specs.List.Sorted.{IsPermutation}
use Rattle.books.specs.declared.refusals.Refusal.{Refusal}
use Rattle.books.specs.Questions.{standing_numbers}
use Rattle.books.specs.State.{State}
use Rattle.matching.specs.Rows.{house_rows}

-- The number of each standing order once, in some order, in front of the rest of the list as it was. A
-- refusal leaves the whole list.
abbrev pub ListsStanding : {C : Type 0} → State C → List ℕ → List ℕ → Result ℕ Refusal → Type 0
ListsStanding s before after (Ok n) = (ns : List ℕ) × IsPermutation (standing_numbers (house_rows s.rows)) ns × (after ≡ ns ++ drop (length ns) before)
ListsStanding s before after (Err r) = after ≡ before
