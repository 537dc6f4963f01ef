-- What a payment row by row brings. Assumes nothing.
use Rattle.std.specs.Prelude.{◌≡◌, ℕ, ℤ}
use Rattle.std.specs.Fn.{Shared, FnReturnsAt}
use denote.Ref.{Bor}
use Rattle.matching.specs.declared.rows.Row.{Row}
use Rattle.matching.specs.Sums.{Small}

-- what is called for a row answers what flows to its member, and that is within a size
abbrev pub Brings : {F C : Type 0} → Shared F (Bor (Row C) × Unit {0}) ℤ → F → (Row C → ℤ) → ℕ → Type 0
Brings {F} {C} calls amount flow size = (row : Row C) (z : ℤ) → FnReturnsAt calls amount row z → (z ≡ flow row) × Small size z
