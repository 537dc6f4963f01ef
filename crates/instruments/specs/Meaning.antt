-- What a kind of contract says of each of its contracts under each ceiling. Assumes nothing.
use Rattle.std.specs.Prelude.{ℕ, Bool, cond, Result}
use Rattle.instruments.specs.declared.faults.Invalid.{Invalid}

-- Ok for a valid contract
abbrev pub Verdict : Type 0
Verdict = Result (Unit {0}) Invalid

-- The first argument of each is the ceiling. `payoff` is what one lot pays at a price, `collateral` what
-- the seller of one lot must have in hand, `breakpoints` how many there are, and `breakpoint` the one
-- at an index from 0.
pub record Meaning (C : Type 0) : Type 0 where
  pub check : ℕ → C → Verdict
  pub payoff : ℕ → C → ℕ → ℕ
  pub collateral : ℕ → C → ℕ
  pub breakpoints : ℕ → C → ℕ
  pub breakpoint : ℕ → C → ℕ → ℕ

-- a figure that is told only where a test holds, and is else 0
abbrev pub where_true : Bool → ℕ → ℕ
where_true test n = cond test n 0
