-- The promise over every run, in the auditor's words: of the ledger alone. Assumes nothing.
use Rattle.std.specs.Prelude.{◌≡◌, ℕ, ◌≤◌, true, List, [], ◌∷◌, ℤ, pos, ◌+ℤ◌, ◌-ℤ◌, ◌*ℤ◌, ◌≤ℤ◌, Ok, Err}
use Rattle.instruments.specs.Bounds.{IsCeiling}
use Rattle.instruments.specs.Meaning.{Meaning}
use Rattle.matching.specs.declared.proposals.Weight.{Weight}
use Rattle.matching.specs.declared.rows.Row.{Row}
use Rattle.matching.specs.Figures.{net, gap}
use Rattle.matching.specs.Fills.{given}
use Rattle.matching.specs.Laws.{WithinOpen}
use Rattle.matching.specs.Sums.{total}
use Rattle.matching.specs.Weights.{weight_sum}
use Rattle.books.specs.Ledger.{Event, deposit, withdraw, fund, take, enter, cancel, clear, publish, settle, account, house, Ledger, ledger, settled_ledger}
use Rattle.books.specs.Money.{is_member, cash_of}
use Rattle.books.specs.Runs.{Run}
use Rattle.books.specs.State.{State}

-- Solvent: whichever whole price from 0 to the ceiling the index is fixed at, once all payoffs of the
-- filled lots are paid, no member and not the house has less than zero.
pub record Solvent {C : Type 0} (m : Meaning C) (top : ℕ) (l : Ledger C) : Type 0 where
  pub members : (price : ℕ) → price ≤ top → (n : ℕ) → is_member n ≡ true → pos 0 ≤ℤ cash_of (settled_ledger m top price l).members n
  pub house : (price : ℕ) → price ≤ top → pos 0 ≤ℤ (settled_ledger m top price l).cash

-- what accepted deposit and fund brought in, less what accepted withdraw and take carried out
abbrev pub brought : {C : Type 0} → Event C → ℤ
brought (deposit n amount (Ok u)) = pos amount
brought (deposit n amount (Err r)) = pos 0
brought (withdraw n amount (Ok u)) = pos 0 -ℤ pos amount
brought (withdraw n amount (Err r)) = pos 0
brought (fund amount (Ok u)) = pos amount
brought (fund amount (Err r)) = pos 0
brought (take amount (Ok u)) = pos 0 -ℤ pos amount
brought (take amount (Err r)) = pos 0
brought (enter n side c price lots r) = pos 0
brought (cancel n number r) = pos 0
brought (clear fills ws r) = pos 0
brought (publish h k page r) = pos 0
brought (settle price r) = pos 0
brought (account n r) = pos 0
brought (house a) = pos 0

-- Conserved: no tick is made or lost.
abbrev pub Conserved : {C : Type 0} → List (Event C) → Ledger C → Type 0
Conserved es l = (total (λ z. z) l.members +ℤ l.cash) ≡ total brought es

-- Best within the gap: an accepted clear answered its proposal's own net and gap, counted over the
-- orders that stood just before it, and no rival matching of these, in d equal parts of lots for any d,
-- nets more than that net plus that gap divided by the sum of the weights.
pub record Best {C : Type 0} (m : Meaning C) (top : ℕ) (orders : List (Row C)) (lots : Row C → ℕ) (ws : List Weight) (told-net told-gap : ℤ) : Type 0 where
  pub own_net : told-net ≡ net m top orders lots
  pub own_gap : told-gap ≡ gap m top ws orders lots
  pub no_better : (d : ℕ) → 1 ≤ d → (rival : Row C → ℕ) → WithinOpen d orders rival → (pos (weight_sum ws) *ℤ net m top orders rival) ≤ℤ (pos d *ℤ ((pos (weight_sum ws) *ℤ told-net) +ℤ told-gap))

-- what the latest call told is true of the ledger just before it
abbrev pub Told : {C : Type 0} → Meaning C → ℕ → Event C → Ledger C → Type 0
Told m top (clear fills ws (Ok a)) l = Best m top l.orders (given fills) ws a.net a.gap
Told m top (account n (Ok b)) l = b.cash ≡ cash_of l.members n
Told m top (house a) l = a.cash ≡ l.cash
Told m top (clear fills ws (Err r)) l = Unit {0}
Told m top (account n (Err r)) l = Unit {0}
Told m top (deposit n amount r) l = Unit {0}
Told m top (withdraw n amount r) l = Unit {0}
Told m top (fund amount r) l = Unit {0}
Told m top (take amount r) l = Unit {0}
Told m top (enter n side c price lots r) l = Unit {0}
Told m top (cancel n number r) l = Unit {0}
Told m top (publish h k page r) l = Unit {0}
Told m top (settle price r) l = Unit {0}

pub record Holds {C : Type 0} (m : Meaning C) (top : ℕ) (es : List (Event C)) : Type 0 where
  pub solvent : Solvent m top (ledger m top es)
  pub conserved : Conserved es (ledger m top es)

-- after every prefix of the calls
abbrev pub Kept : {C : Type 0} → Meaning C → ℕ → List (Event C) → Type 0
Kept m top [] = Holds m top []
Kept m top (e ∷ es) = Holds m top (e ∷ es) × Told m top e (ledger m top es) × Kept m top es

-- for all terms, rows and calls
abbrev pub Promise : {C : Type 0} → Meaning C → Type 0
Promise {C} m = (number top allowed : ℕ) → IsCeiling top → (rows : List (Row C)) (es : List (Event C)) (s : State C) → Run m number top allowed rows es s → Kept m top es
