-- The state of a house. Assumes nothing.
use Rattle.std.specs.Prelude.{ℕ, Bool, false, List, ◌++◌, map, take, drop, replicate, ℤ, pos, ◌+ℤ◌}
use Rattle.books.specs.declared.answers.Cleared.{Cleared}
use Rattle.books.specs.declared.ledger.Books.{Books}
use Rattle.matching.specs.declared.rows.Row.{Row}
use Rattle.matching.specs.Sums.{total}

-- `members` has the cash of the members 1 to 64, in this order; `orders` is the last order number, and
-- `latest` what the latest clearing answered, with number 0 before the first; `report` says that its
-- report is owed.
pub record State (C : Type 0) : Type 0 where
  pub number : ℕ
  pub top : ℕ
  pub allowed : ℕ
  pub members : List ℤ
  pub cash : ℤ
  pub reserve : ℤ
  pub orders : ℕ
  pub latest : Cleared
  pub report : Bool
  pub closed : Bool
  pub rows : List (Row C)

-- the state that the books of a house hold
abbrev pub shape : {C : Type 0} → Books C → State C
shape b = record {
  number = b.terms.house;
  top = b.terms.ceiling.value;
  allowed = b.terms.gap;
  members = map (λ a. a.cash) b.accounts.list;
  cash = b.cash;
  reserve = b.reserve;
  orders = b.orders;
  latest = b.latest;
  report = b.report;
  closed = b.closed;
  rows = b.rows.now;
}

-- all cash together, the members' and the house's
abbrev pub all_cash : {C : Type 0} → State C → ℤ
all_cash s = total (λ z. z) s.members +ℤ s.cash

-- what a function makes of each of the house's rows; later rows stay as they are
abbrev pub over_house : {C : Type 0} → (Row C → Row C) → List (Row C) → List (Row C)
over_house f rows = map f (take 256 rows) ++ drop 256 rows

abbrev pub with_lots : {C : Type 0} → Row C → ℕ → ℕ → Row C
with_lots r open' filled' = record { order = r.order; member = r.member; side = r.side; contract = r.contract; price = r.price; «open» = open'; filled = filled' }

-- a row without lots; its other figures stay
abbrev pub emptied : {C : Type 0} → Row C → Row C
emptied r = with_lots r 0 0

-- before the first clearing
abbrev pub no_clearing : Cleared
no_clearing = record { clearing = 0; net = pos 0; reserve = pos 0; worst = 0; gap = pos 0; weights = 0 }

-- a new house
abbrev pub opened : {C : Type 0} → ℕ → ℕ → ℕ → List (Row C) → State C
opened n top gap rows = record {
  number = n;
  top = top;
  allowed = gap;
  members = replicate 64 (pos 0);
  cash = pos 0;
  reserve = pos 0;
  orders = 0;
  latest = no_clearing;
  report = false;
  closed = false;
  rows = over_house emptied rows;
}
