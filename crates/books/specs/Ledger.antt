-- The ledger: what an auditor can work out from the calls, their arguments and their answers alone. It
-- never looks at the state of a house. Assumes nothing.
use Rattle.std.specs.Prelude.{ℕ, List, [], ◌∷◌, map, replicate, ℤ, pos, ◌+ℤ◌, ◌-ℤ◌, neg_ℤ, Ok, Err, Result}
use Rattle.books.specs.declared.answers.Balance.{Balance}
use Rattle.books.specs.declared.answers.Cleared.{Cleared}
use Rattle.books.specs.declared.answers.Standing.{Standing}
use Rattle.books.specs.declared.refusals.Refusal.{Refusal}
use Rattle.instruments.specs.Meaning.{Meaning}
use Rattle.matching.specs.declared.proposals.Fill.{Fill}
use Rattle.matching.specs.declared.proposals.Weight.{Weight}
use Rattle.matching.specs.declared.rows.Row.{Row}
use Rattle.matching.specs.declared.rows.Side.{Side}
use Rattle.matching.specs.Figures.{row_cash, cash_now, exposure}
use Rattle.matching.specs.Fills.{given}
use Rattle.books.specs.Calls.{new_order, cancelled}
use Rattle.books.specs.Clearing.{booked}
use Rattle.books.specs.Money.{credited, moved, share}
use Rattle.books.specs.Settling.{paid_out}

-- one call, with its arguments and what it answered. A publish has the token's two numbers and the page.
pub data Event (C : Type 0) : Type 0 where
  deposit : ℕ → ℕ → Result (Unit {0}) Refusal → Event C
  withdraw : ℕ → ℕ → Result (Unit {0}) Refusal → Event C
  fund : ℕ → Result (Unit {0}) Refusal → Event C
  take : ℕ → Result (Unit {0}) Refusal → Event C
  enter : ℕ → Side → C → ℕ → ℕ → Result ℕ Refusal → Event C
  cancel : ℕ → ℕ → Result (Unit {0}) Refusal → Event C
  clear : List Fill → List Weight → Result Cleared Refusal → Event C
  publish : ℕ → ℕ → List ℕ → Result ℕ Refusal → Event C
  settle : ℕ → Result (Unit {0}) Refusal → Event C
  account : ℕ → Result Balance Refusal → Event C
  house : Standing → Event C

-- the cash of the 64 members and of the house, and the orders under their numbers
pub record Ledger (C : Type 0) : Type 0 where
  pub members : List ℤ
  pub cash : ℤ
  pub orders : List (Row C)

abbrev pub new_ledger : {C : Type 0} → Ledger C
new_ledger = record { members = replicate 64 (pos 0); cash = pos 0; orders = [] }

-- a clearing: buyers pay and sellers receive, and the fills move from open to filled
abbrev pub cleared_ledger : {C : Type 0} → List Fill → Ledger C → Ledger C
cleared_ledger fills l = record {
  members = moved (λ n. neg_ℤ (share (row_cash (given fills)) l.orders n)) l.members;
  cash = l.cash +ℤ cash_now l.orders (given fills);
  orders = map (booked fills) l.orders;
}

-- a settlement at a price: every filled lot is paid, and no order is left
abbrev pub settled_ledger : {C : Type 0} → Meaning C → ℕ → ℕ → Ledger C → Ledger C
settled_ledger m top price l = record {
  members = moved (paid_out m top price l.orders) l.members;
  cash = l.cash -ℤ exposure m top l.orders price;
  orders = [];
}

-- what one call does to the ledger: refused calls, publish and the questions leave it
abbrev pub entry : {C : Type 0} → Meaning C → ℕ → Event C → Ledger C → Ledger C
entry m top (deposit n amount (Ok u)) l = record { members = credited l.members n (pos amount); cash = l.cash; orders = l.orders }
entry m top (deposit n amount (Err r)) l = l
entry m top (withdraw n amount (Ok u)) l = record { members = credited l.members n (neg_ℤ (pos amount)); cash = l.cash; orders = l.orders }
entry m top (withdraw n amount (Err r)) l = l
entry m top (fund amount (Ok u)) l = record { members = l.members; cash = l.cash +ℤ pos amount; orders = l.orders }
entry m top (fund amount (Err r)) l = l
entry m top (take amount (Ok u)) l = record { members = l.members; cash = l.cash -ℤ pos amount; orders = l.orders }
entry m top (take amount (Err r)) l = l
entry m top (enter n side c price lots (Ok number)) l = record { members = l.members; cash = l.cash; orders = new_order number n side c price lots ∷ l.orders }
entry m top (enter n side c price lots (Err r)) l = l
entry m top (cancel n number (Ok u)) l = record { members = l.members; cash = l.cash; orders = map (cancelled n number) l.orders }
entry m top (cancel n number (Err r)) l = l
entry m top (clear fills ws (Ok a)) l = cleared_ledger fills l
entry m top (clear fills ws (Err r)) l = l
entry m top (publish h k page r) l = l
entry m top (settle price (Ok u)) l = settled_ledger m top price l
entry m top (settle price (Err r)) l = l
entry m top (account n r) l = l
entry m top (house a) l = l

-- the ledger after a list of calls, the latest first
abbrev pub ledger : {C : Type 0} → Meaning C → ℕ → List (Event C) → Ledger C
ledger m top [] = new_ledger
ledger m top (e ∷ es) = entry m top e (ledger m top es)
