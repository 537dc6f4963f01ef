-- What a search for an unused row finds, and what a change makes of rows. Assumes nothing.
use Rattle.std.specs.Prelude.{◌≡◌, ℕ, ◌<◌, true, false, List, length, Some, None, Option, slice_index_or}
use Rattle.std.specs.Fn.{Shared, FnReturnsAt}
use denote.Ref.{Bor}
use Rattle.matching.specs.declared.rows.Row.{Row}
use Rattle.matching.specs.Rows.{used}
use Rattle.books.specs.Calls.{all_used}

-- some unused row, or none where every row is used
abbrev pub FreeRow : {C : Type 0} → List (Row C) → Option ℕ → Type 0
FreeRow {C} rows (Some k) = (k < length rows) × ((d : Row C) → used (slice_index_or rows k d) ≡ false) × (all_used rows ≡ false)
FreeRow rows None = all_used rows ≡ true

module _ {F C : Type 0} (calls : Shared F (Bor (Row C) × Unit {0}) (Row C)) (change : F) where
  -- the change may be made of a row
  abbrev pub Takes : Row C → Type 0
  Takes row = (shown : Bor (Row C)) → shown.now ≡ row → calls.pre change (shown, tt)

  -- it makes of each row what the function makes of it
  abbrev pub Makes : (Row C → Row C) → Type 0
  Makes becomes = (row made : Row C) → FnReturnsAt calls change row made → made ≡ becomes row
