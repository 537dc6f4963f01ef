-- The pair: one contract of each of two kinds, held together. Assumes nothing.
use Rattle.std.specs.Prelude.{ℕ, ◌+◌, ◌-◌, Bool, cond, ◌&&◌, is_ok, Ok, Err, nat_le, nat_lt}
use Rattle.instruments.specs.declared.faults.Reason.TheVariants.{Breakpoints, Collateral}
use Rattle.instruments.specs.declared.faults.Place.{Place}
use Rattle.instruments.specs.declared.faults.Place.TheVariants.{First, Second}
use Rattle.instruments.specs.declared.pairs.Pair.{Pair}
use Rattle.instruments.specs.Bounds.{max_breakpoints, max_collateral}
use Rattle.instruments.specs.Faults.{of_whole, placed}
use Rattle.instruments.specs.Meaning.{Meaning, Verdict, where_true}

-- A part's fault comes before whatever follows, under the part's own place in the pair: so the place
-- that is told is the outermost pair's.
abbrev pub part_first : Place → Verdict → Verdict → Verdict
part_first p (Ok u) next = next
part_first p (Err f) next = Err (placed p f)

module _ {A B : Type 0} (a : Meaning A) (b : Meaning B) where
  abbrev pub both_breakpoints : ℕ → Pair A B → ℕ
  both_breakpoints top c = a.breakpoints top c.first + b.breakpoints top c.second

  abbrev pub both_collateral : ℕ → Pair A B → ℕ
  both_collateral top c = a.collateral top c.first + b.collateral top c.second

  abbrev pub both_limits : ℕ → Pair A B → Verdict
  both_limits top c = cond (nat_le (both_breakpoints top c) max_breakpoints) (cond (nat_le (both_collateral top c) max_collateral) (Ok tt) (Err (of_whole Collateral))) (Err (of_whole Breakpoints))

  abbrev pub pair_check : ℕ → Pair A B → Verdict
  pair_check top c = part_first First (a.check top c.first) (part_first Second (b.check top c.second) (both_limits top c))

  abbrev pub pair_valid : ℕ → Pair A B → Bool
  pair_valid top c = is_ok (pair_check top c)

  -- the first part's breakpoints, then the second's
  abbrev pub either_breakpoint : ℕ → Pair A B → ℕ → ℕ
  either_breakpoint top c i = cond (nat_lt i (a.breakpoints top c.first)) (a.breakpoint top c.first i) (b.breakpoint top c.second (i - a.breakpoints top c.first))

  abbrev pub pair_meaning : Meaning (Pair A B)
  pair_meaning = record {
    check = pair_check;
    payoff = λ top c s. where_true (pair_valid top c && nat_le s top) (a.payoff top c.first s + b.payoff top c.second s);
    collateral = λ top c. where_true (pair_valid top c) (both_collateral top c);
    breakpoints = λ top c. where_true (pair_valid top c) (both_breakpoints top c);
    breakpoint = λ top c i. where_true (pair_valid top c && nat_lt i (both_breakpoints top c)) (either_breakpoint top c i);
  }
