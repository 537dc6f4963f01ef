-- The limits of contracts, and which figures are ceilings. Assumes nothing.
use Rattle.std.specs.Prelude.{ℕ, ◌≤◌, cond, ◌&&◌, Some, None, Option, nat_le}

abbrev pub max_ceiling : ℕ
max_ceiling = 100000

abbrev pub max_breakpoints : ℕ
max_breakpoints = 8

-- in ticks for each lot
abbrev pub max_collateral : ℕ
max_collateral = 1000000

-- a ceiling lies from 1 to 100,000
abbrev pub IsCeiling : ℕ → Type 0
IsCeiling top = (1 ≤ top) × (top ≤ max_ceiling)

-- the figure of what was answered, if anything was
abbrev pub figure : {A : Type 0} → (A → ℕ) → Option A → Option ℕ
figure f (Some a) = Some (f a)
figure f None = None

-- the ceiling that a figure makes: itself, or none
abbrev pub offered_ceiling : ℕ → Option ℕ
offered_ceiling n = cond (nat_le 1 n && nat_le n max_ceiling) (Some n) None
