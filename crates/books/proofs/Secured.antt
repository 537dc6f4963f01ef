-- What holds of a house and of the ledger's orders after every call, and what one call must show. Assumes nothing.
use Rattle.std.proofs.Common.{◌≡◌, ℕ, ◌≤◌, true, List, length, pos, ◌+ℤ◌, ◌-ℤ◌, ◌≤ℤ◌, refl, arith}
use Rattle.std.proofs.lemmas.Int.{ints}
use Rattle.std.specs.List.{AllByRecursion}
use Rattle.instruments.specs.Bounds.{IsCeiling}
use Rattle.instruments.specs.Meaning.{Meaning}
use Rattle.instruments.specs.Rules.{Rules, Valid}
use Rattle.matching.specs.declared.rows.Row.{Row}
use Rattle.matching.specs.Figures.{exposure}
use Rattle.matching.specs.Rows.{house_rows, held}
use Rattle.books.specs.Ledger.{Event, Ledger, entry, settled_ledger}
use Rattle.books.specs.Money.{is_member, cash_of}
use Rattle.books.specs.Promise.{Solvent, Told, brought}
use Rattle.books.specs.Settling.{paid_out}
use Rattle.books.specs.State.{State, all_cash}
use Rattle.books.proofs.Alike.{Alike}
use Rattle.books.proofs.Covering.{held-covers}
use Rattle.books.proofs.MoneyMoved.{cash-moved}

-- the ledger that has the accounts of a house
abbrev pub audited : {C : Type 0} → State C → List (Row C) → Ledger C
audited s orders = record { members = s.members; cash = s.cash; orders = orders }

-- Each member has what its orders hold, the reserve is at least what the house owes at any price, and
-- the house has its reserve.
pub record Secured {C : Type 0} (m : Meaning C) (s : State C) (orders : List (Row C)) : Type 0 where
  pub ceiling : IsCeiling s.top
  pub alike : Alike (house_rows s.rows) orders
  pub count : length s.members ≡ 64
  pub valid : AllByRecursion (λ r. Valid m s.top r.contract) orders
  pub owned : AllByRecursion (λ r. is_member r.member ≡ true) orders
  pub numbered : AllByRecursion (λ r. r.order ≤ s.orders) orders
  pub backed : (n : ℕ) → is_member n ≡ true → held m s.top orders n ≤ℤ cash_of s.members n
  pub exposed : (price : ℕ) → price ≤ s.top → exposure m s.top orders price ≤ℤ s.reserve
  pub reserved : s.reserve ≤ℤ s.cash
  pub funded : pos 0 ≤ℤ s.cash

-- One call e takes a secured house s to a secured house s', in step with the ledger.
pub record Step {C : Type 0} (m : Meaning C) (e : Event C) (s : State C) (orders : List (Row C)) (s' : State C) : Type 0 where
  pub after : List (Row C)
  pub same_top : s'.top ≡ s.top
  pub in_step : entry m s.top e (audited s orders) ≡ audited s' after
  pub secured : Secured m s' after
  pub conserved : all_cash s' ≡ brought e +ℤ all_cash s
  pub told : Told m s.top e (audited s orders)

module _ {C : Type 0} (m : Meaning C) (s : State C) (orders : List (Row C)) (secured : Secured m s orders) where
  -- a call that leaves the house and the ledger as they were
  pub unchanged : (e : Event C) → entry m s.top e (audited s orders) ≡ audited s orders → brought e ≡ pos 0 → Told m s.top e (audited s orders) → Step m e s orders s
  unchanged e same nothing told = record { after = orders; same_top = refl; in_step = same; secured = secured; conserved = omega (arith, ints, nothing); told = told }

  module _ (rules : Rules m) (price : ℕ) (under : price ≤ s.top) where
    pub members-solvent : (n : ℕ) → is_member n ≡ true → pos 0 ≤ℤ cash_of (settled_ledger m s.top price (audited s orders)).members n
    members-solvent n one =
        let covers = held-covers m s.top price n rules secured.ceiling under orders secured.valid in
        omega (arith, ints, cash-moved (paid_out m s.top price orders) s.members n secured.count one, covers, secured.backed n one)

    pub house-solvent : pos 0 ≤ℤ (s.cash -ℤ exposure m s.top orders price)
    house-solvent = omega (arith, ints, secured.exposed price under, secured.reserved)

  pub solvent : Rules m → Solvent m s.top (audited s orders)
  solvent rules = record { members = members-solvent rules; house = house-solvent rules }
