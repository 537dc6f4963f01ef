-- What pairs with a constant answer, said without the pair. Assumes nothing.
use Rattle.std.specs.Prelude.{ℕ, ◌+◌, ◌-◌, Bool, cond, ◌&&◌, Ok, Err, nat_le}
use Rattle.instruments.specs.declared.faults.Place.{Place}
use Rattle.instruments.specs.declared.faults.Place.TheVariants.{Whole, First, Second}
use Rattle.instruments.specs.declared.faults.Reason.TheVariants.{Collateral}
use Rattle.instruments.specs.Meaning.{Verdict}

-- a collateral above 1,000,000, in this place
abbrev pub too_much : Place → Verdict
too_much p = Err (record { reason = Collateral; place = p })

-- two constants: each at most 1,000,000, the first tested before the second, and then their sum
abbrev pub both_constant : ℕ → ℕ → Verdict
both_constant one other = cond (nat_le one 1000000) (cond (nat_le other 1000000) (cond (nat_le (one + other) 1000000) (Ok tt) (too_much Whole)) (too_much Second)) (too_much First)

-- a constant and a call within their limits
abbrev pub within : ℕ → ℕ → ℕ → Bool
within top amount strike = nat_le 1 strike && (nat_le strike top && nat_le (amount + (top - strike)) 1000000)

-- the amount, and what the price is above the strike: this minus stops at 0
abbrev pub constant_and_call : ℕ → ℕ → ℕ → ℕ → ℕ
constant_and_call top amount strike s = cond (within top amount strike && nat_le s top) (amount + (s - strike)) 0
