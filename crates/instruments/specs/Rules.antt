-- What every kind of contract must show of its meaning. Assumes nothing.
use Rattle.std.specs.Prelude.{◌≡◌, ℕ, ◌+◌, ◌-◌, ◌*◌, ◌<◌, ◌≤◌, ◌≢◌, Ok}
use Rattle.instruments.specs.Bounds.{IsCeiling, max_breakpoints, max_collateral}
use Rattle.instruments.specs.Meaning.{Meaning}

abbrev pub Valid : {C : Type 0} → Meaning C → ℕ → C → Type 0
Valid m top c = m.check top c ≡ Ok tt

-- a price strictly between 0 and the ceiling that is no breakpoint
pub record OffBreakpoints {C : Type 0} (m : Meaning C) (top : ℕ) (c : C) (s : ℕ) : Type 0 where
  pub above : 0 < s
  pub below : s < top
  pub off : (i : ℕ) → i < m.breakpoints top c → m.breakpoint top c i ≢ s

-- the rules for one valid contract under one ceiling
pub record KeepsRules {C : Type 0} (m : Meaning C) (top : ℕ) (c : C) : Type 0 where
  -- at each price up to the ceiling the payoff lies from 0 to the collateral
  pub covered : (s : ℕ) → s ≤ top → m.payoff top c s ≤ m.collateral top c
  pub bounded : m.collateral top c ≤ max_collateral
  pub few : m.breakpoints top c ≤ max_breakpoints
  pub inside : (i : ℕ) → i < m.breakpoints top c → m.breakpoint top c i ≤ top
  -- between breakpoints the payoff is straight
  pub straight : (s : ℕ) → OffBreakpoints m top c s → m.payoff top c (s - 1) + m.payoff top c (s + 1) ≡ 2 * m.payoff top c s

abbrev pub Rules : {C : Type 0} → Meaning C → Type 0
Rules {C} m = (top : ℕ) (c : C) → IsCeiling top → Valid m top c → KeepsRules m top c
