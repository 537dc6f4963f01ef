-- The spread between two edges. Assumes nothing.
use Rattle.std.specs.Prelude.{ℕ, ◌-◌, min, Bool, cond, ◌&&◌, Ok, Err, ◌==◌, nat_le, nat_lt}
use Rattle.instruments.specs.declared.faults.Reason.TheVariants.{Edges}
use Rattle.instruments.specs.declared.spreads.Spread.{Spread}
use Rattle.instruments.specs.declared.spreads.Spread.TheVariants.{Rising, Falling}
use Rattle.instruments.specs.Faults.{of_whole}
use Rattle.instruments.specs.Meaning.{Meaning, where_true}

abbrev pub low_of : Spread → ℕ
low_of (Rising low high) = low
low_of (Falling low high) = low

abbrev pub high_of : Spread → ℕ
high_of (Rising low high) = high
high_of (Falling low high) = high

-- the edges rise, and the higher one is at most the ceiling
abbrev pub spread_valid : ℕ → Spread → Bool
spread_valid top c = nat_lt (low_of c) (high_of c) && nat_le (high_of c) top

-- this minus stops at 0
abbrev pub spread_pays : Spread → ℕ → ℕ
spread_pays (Rising low high) s = min (s - low) (high - low)
spread_pays (Falling low high) s = min (high - s) (high - low)

abbrev pub spread_meaning : Meaning Spread
spread_meaning = record {
  check = λ top c. cond (spread_valid top c) (Ok tt) (Err (of_whole Edges));
  payoff = λ top c s. where_true (spread_valid top c && nat_le s top) (spread_pays c s);
  collateral = λ top c. where_true (spread_valid top c) (high_of c - low_of c);
  breakpoints = λ top c. where_true (spread_valid top c) 2;
  breakpoint = λ top c i. where_true (spread_valid top c) (cond (i == 0) (low_of c) (where_true (i == 1) (high_of c)));
}
