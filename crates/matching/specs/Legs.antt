-- What the search goes over: places that hold a leg or none, and what they owe together. Assumes nothing.
use Rattle.std.specs.Prelude.{ℕ, ◌-◌, ◌*◌, ◌<◌, cond, List, [], ◌∷◌, ◌++◌, map, length, replicate, ℤ, pos, ◌+ℤ◌, Some, None, Option, nat_lt}
use Rattle.instruments.specs.Meaning.{Meaning}
use Rattle.instruments.specs.Rules.{Valid}
use Rattle.matching.specs.declared.legs.Leg.{Leg}
use Rattle.matching.specs.declared.legs.Legs.{Legs}
use Rattle.matching.specs.declared.quotes.Request.{Request}
use Rattle.matching.specs.declared.quotes.Request.TheVariants.{Bid, Ask}
use Rattle.matching.specs.declared.rows.Row.{Row}
use Rattle.matching.specs.declared.rows.Side.{Side}
use Rattle.matching.specs.declared.rows.Side.TheVariants.{Buy, Sell}
use Rattle.matching.specs.Figures.{owed}
use Rattle.matching.specs.Rows.{signed}
use Rattle.matching.specs.Sums.{total, AsGood}

abbrev pub leg_owed : {C : Type 0} → Meaning C → ℕ → ℕ → Option (Leg C) → ℤ
leg_owed m top s (Some l) = signed l.side (m.payoff top l.contract s * l.lots)
leg_owed m top s None = pos 0

abbrev pub legs_owed : {C : Type 0} → Meaning C → ℕ → List (Option (Leg C)) → ℕ → ℤ
legs_owed m top legs s = total (leg_owed m top s) legs

module _ {C : Type 0} (m : Meaning C) (top : ℕ) where
  abbrev pub ValidLeg : Option (Leg C) → Type 0
  ValidLeg (Some l) = Valid m top l.contract
  ValidLeg None = Unit {0}

  -- p is as good as each breakpoint of the leg
  abbrev pub GoodLeg : (ℕ → ℤ) → ℕ → Option (Leg C) → Type 0
  GoodLeg f p (Some l) = (i : ℕ) → i < m.breakpoints top l.contract → AsGood f p (m.breakpoint top l.contract i)
  GoodLeg f p None = Unit {0}

-- a row as a leg: one of no lots is none
abbrev pub leg_with : {C : Type 0} → Row C → ℕ → Option (Leg C)
leg_with r n = cond (nat_lt 0 n) (Some (record { contract = r.contract; side = r.side; lots = n })) None

abbrev pub as_leg : {C : Type 0} → (Row C → ℕ) → Row C → Option (Leg C)
as_leg lots r = leg_with r (lots r)

-- each row with its lots
abbrev pub row_legs : {C : Type 0} → List (Row C) → List ℕ → List (Option (Leg C))
row_legs [] lots = []
row_legs (r ∷ rows) [] = []
row_legs (r ∷ rows) (n ∷ lots) = leg_with r n ∷ row_legs rows lots

-- the places: one for the leg beside the rows, and one for each row
abbrev pub listed : {C : Type 0} → Legs C → List (Option (Leg C))
listed legs = legs.beside ∷ row_legs legs.rows.now legs.lots.now

-- what the legs owe together at each price
abbrev pub owes : {C : Type 0} → Meaning C → Legs C → ℕ → ℤ
owes m legs = legs_owed m legs.ceiling.value (listed legs)

-- the lots of each row in a list of n, and 0 past the rows
abbrev pub told_lots : {C : Type 0} → ℕ → (Row C → ℕ) → List (Row C) → List ℕ
told_lots n lots rows = map lots rows ++ replicate (n - length rows) 0

-- what rows owe at a price with the lots of each, and a leg beside them
abbrev pub owed_with : {C : Type 0} → Meaning C → ℕ → List (Row C) → (Row C → ℕ) → Option (Leg C) → ℕ → ℤ
owed_with m top rows lots beside s = owed m top rows lots s +ℤ leg_owed m top s beside

-- the side on which a contract that is quoted stands beside the orders: someone sells what the house bids for
abbrev pub request_side : Request → Side
request_side Bid = Sell
request_side Ask = Buy
