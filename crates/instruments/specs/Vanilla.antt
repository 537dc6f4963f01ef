-- The plain option. Assumes nothing.
use Rattle.std.specs.Prelude.{ℕ, ◌-◌, Bool, cond, ◌&&◌, Ok, Err, ◌==◌, nat_le}
use Rattle.instruments.specs.declared.faults.Reason.TheVariants.{Strike}
use Rattle.instruments.specs.declared.options.Vanilla.{Vanilla}
use Rattle.instruments.specs.declared.options.Vanilla.TheVariants.{Call, Put}
use Rattle.instruments.specs.Faults.{of_whole}
use Rattle.instruments.specs.Meaning.{Meaning, where_true}

abbrev pub strike_of : Vanilla → ℕ
strike_of (Call k) = k
strike_of (Put k) = k

-- the strike lies from 1 to the ceiling
abbrev pub vanilla_valid : ℕ → Vanilla → Bool
vanilla_valid top c = nat_le 1 (strike_of c) && nat_le (strike_of c) top

-- a call pays max(s − k, 0), a put max(k − s, 0): this minus stops at 0
abbrev pub vanilla_pays : Vanilla → ℕ → ℕ
vanilla_pays (Call k) s = s - k
vanilla_pays (Put k) s = k - s

-- the most that it pays: a call at the ceiling, a put at 0
abbrev pub vanilla_collateral : ℕ → Vanilla → ℕ
vanilla_collateral top (Call k) = top - k
vanilla_collateral top (Put k) = k

abbrev pub vanilla_meaning : Meaning Vanilla
vanilla_meaning = record {
  check = λ top c. cond (vanilla_valid top c) (Ok tt) (Err (of_whole Strike));
  payoff = λ top c s. where_true (vanilla_valid top c && nat_le s top) (vanilla_pays c s);
  collateral = λ top c. where_true (vanilla_valid top c) (vanilla_collateral top c);
  breakpoints = λ top c. where_true (vanilla_valid top c) 1;
  breakpoint = λ top c i. where_true (vanilla_valid top c && i == 0) (strike_of c);
}
