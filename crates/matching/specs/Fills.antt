-- A list of fills: what it gives each order, and when it is refused. Assumes nothing.
use Rattle.std.specs.Prelude.{ℕ, ◌-◌, Bool, cond, not, ◌&&◌, ◌||◌, List, length, Some, None, Ok, Err, Option, Result, ◌==◌, nat_le, nat_lt, slice_index_or}
use Rattle.std.specs.List.{list_any, find, range_with_len}
use Rattle.matching.specs.declared.proposals.BadFill.{BadFill}
use Rattle.matching.specs.declared.proposals.Fill.{Fill}
use Rattle.matching.specs.declared.proposals.FillFault.{FillFault}
use Rattle.matching.specs.declared.proposals.FillFault.TheVariants.{NotStanding, AboveOpen}
use Rattle.matching.specs.declared.rows.Row.{Row}
use Rattle.matching.specs.Rows.{standing}

-- the first fill of the order with a number
abbrev pub fill_for : List Fill → ℕ → Option Fill
fill_for fills number = find (λ f. f.order == number) fills

abbrev pub lots_in : Option Fill → ℕ
lots_in (Some f) = f.lots
lots_in None = 0

-- the lots that a list gives the order with a number; 0 where it does not name the order
abbrev pub lots_for : List Fill → ℕ → ℕ
lots_for fills number = lots_in (fill_for fills number)

-- the lots that it gives the order in a row: only a standing order gets any
abbrev pub given : {C : Type 0} → List Fill → Row C → ℕ
given fills r = cond (standing r) (lots_for fills r.order) 0

-- the fill at an index
abbrev pub fill_at : List Fill → ℕ → Fill
fill_at fills i = slice_index_or fills i (record { order = 0; lots = 0 })

-- a fill of no lots, or one whose order number is not above the one before
abbrev pub bad_fill : List Fill → ℕ → Bool
bad_fill fills i = (fill_at fills i).lots == 0 || (nat_lt 0 i && nat_le (fill_at fills i).order (fill_at fills (i - 1)).order)

abbrev pub refused_at : Option ℕ → Result (Unit {0}) BadFill
refused_at (Some i) = Err (record { index = i })
refused_at None = Ok tt

abbrev pub first_bad_fill : List Fill → Option ℕ
first_bad_fill fills = find (bad_fill fills) (range_with_len 0 (length fills))

-- the list is refused with the first such index
abbrev pub fills_verdict : List Fill → Result (Unit {0}) BadFill
fills_verdict fills = refused_at (first_bad_fill fills)

-- does a row hold the standing order with this number?
abbrev pub holds_order : {C : Type 0} → ℕ → Row C → Bool
holds_order number r = standing r && r.order == number

abbrev pub stands : {C : Type 0} → List (Row C) → ℕ → Bool
stands rows number = list_any (holds_order number) rows

-- does a fill ask for more than the open lots of the order that it names?
abbrev pub exceeds_row : {C : Type 0} → Fill → Row C → Bool
exceeds_row f r = holds_order f.order r && nat_lt r.«open» f.lots

abbrev pub exceeds : {C : Type 0} → List (Row C) → Fill → Bool
exceeds rows f = list_any (exceeds_row f) rows

-- the first fill whose order does not stand, and the first above open lots
abbrev pub first_not_standing : {C : Type 0} → List (Row C) → List Fill → Option Fill
first_not_standing rows fills = find (λ f. not (stands rows f.order)) fills

abbrev pub first_above_open : {C : Type 0} → List (Row C) → List Fill → Option Fill
first_above_open rows fills = find (exceeds rows) fills

abbrev pub above_verdict : Option Fill → Result (Unit {0}) FillFault
above_verdict (Some f) = Err (AboveOpen f.order)
above_verdict None = Ok tt

abbrev pub standing_verdict : Option Fill → Result (Unit {0}) FillFault → Result (Unit {0}) FillFault
standing_verdict (Some f) next = Err (NotStanding f.order)
standing_verdict None next = next

-- Against the rows: an order that does not stand is told before any fill above open lots.
abbrev pub orders_verdict : {C : Type 0} → List (Row C) → List Fill → Result (Unit {0}) FillFault
orders_verdict rows fills = standing_verdict (first_not_standing rows fills) (above_verdict (first_above_open rows fills))
