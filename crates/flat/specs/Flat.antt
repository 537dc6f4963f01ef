-- The constant: it pays the same amount at every price up to the ceiling. Assumes nothing.
use Rattle.std.specs.Prelude.{Bool, cond, ◌&&◌, Ok, Err, nat_le}
use Rattle.instruments.specs.declared.faults.Reason.TheVariants.{Collateral}
use Rattle.instruments.specs.Bounds.{max_collateral}
use Rattle.instruments.specs.Faults.{of_whole}
use Rattle.instruments.specs.Meaning.{Meaning, where_true}
use Rattle.flat.specs.declared.constant.Flat.{Flat}

-- the amount is at most what a collateral may be
abbrev pub flat_valid : Flat → Bool
flat_valid c = nat_le c.amount max_collateral

abbrev pub flat_meaning : Meaning Flat
flat_meaning = record {
  check = λ top c. cond (flat_valid c) (Ok tt) (Err (of_whole Collateral));
  payoff = λ top c s. where_true (flat_valid c && nat_le s top) c.amount;
  collateral = λ top c. where_true (flat_valid c) c.amount;
  breakpoints = λ top c. 0;
  breakpoint = λ top c i. 0;
}
