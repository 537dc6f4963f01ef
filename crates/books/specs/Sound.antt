-- What every state of a house keeps, whatever the kind of its contracts: enough for exact arithmetic in
-- every call. Assumes nothing.
use Rattle.std.specs.Prelude.{◌≡◌, ℕ, ◌+◌, ◌*◌, ◌^◌, Bool, true, cond, not, ◌&&◌, ◌||◌, length, pos, int_le, nat_le}
use Rattle.std.specs.List.{list_all}
use Rattle.matching.specs.declared.rows.Row.{Row}
use Rattle.matching.specs.Rows.{house_rows, used}
use Rattle.books.specs.Calls.{max_cash, max_lots, max_number, max_price}
use Rattle.books.specs.Money.{at_least, within, is_member}
use Rattle.books.specs.State.{State, all_cash}

-- a row has few lots, and where it is used its member and its price are in their ranges
abbrev pub row_fine : {C : Type 0} → Row C → Bool
row_fine r = nat_le (r.«open» + r.filled) max_lots && (not (used r) || (is_member r.member && nat_le r.price max_price))

-- One clearing, or the settlement, takes at most 2 ^ 56 from an account. That nobody is below zero
-- depends on the kind of the contracts, and is the promise over whole runs.
abbrev pub floor : {C : Type 0} → State C → ℕ
floor s = (s.latest.clearing + cond s.closed 1 0) * 2 ^ 56

abbrev pub rows_fine : {C : Type 0} → State C → Bool
rows_fine s = list_all row_fine (house_rows s.rows)

abbrev pub members_fine : {C : Type 0} → State C → Bool
members_fine s = list_all (at_least (floor s)) s.members

abbrev pub cash_fine : {C : Type 0} → State C → Bool
cash_fine s = at_least (floor s) s.cash

abbrev pub total_fine : {C : Type 0} → State C → Bool
total_fine s = int_le (all_cash s) (pos max_cash)

abbrev pub reserve_fine : {C : Type 0} → State C → Bool
reserve_fine s = within (s.latest.clearing * 2 ^ 105) s.reserve

abbrev pub numbers_fine : {C : Type 0} → State C → Bool
numbers_fine s = nat_le s.orders max_number && nat_le s.latest.clearing max_number

pub record Sound {C : Type 0} (s : State C) : Type 0 where
  pub sized : length s.members ≡ 64
  pub rows : rows_fine s ≡ true
  pub members : members_fine s ≡ true
  pub cash : cash_fine s ≡ true
  pub all : total_fine s ≡ true
  pub reserve : reserve_fine s ≡ true
  pub numbers : numbers_fine s ≡ true
