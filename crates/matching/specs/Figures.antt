-- The figures of a matching. Each takes the rows and a quantity: how many lots, or parts of lots, the
-- order in a row is filled by. So the lots of a list of fills, the lots filled before, and the parts of
-- a rival matching share one cash, one owed and one net. Assumes nothing.
use Rattle.std.specs.Prelude.{ℕ, ◌-◌, ◌*◌, List, ℤ, pos, ◌-ℤ◌, ◌*ℤ◌}
use Rattle.instruments.specs.Meaning.{Meaning}
use Rattle.matching.specs.declared.proposals.Weight.{Weight}
use Rattle.matching.specs.declared.rows.Row.{Row}
use Rattle.matching.specs.declared.rows.Side.{Side}
use Rattle.matching.specs.declared.rows.Side.TheVariants.{Buy, Sell}
use Rattle.matching.specs.Rows.{signed}
use Rattle.matching.specs.Sums.{total, largest, lowest}
use Rattle.matching.specs.Weights.{value, weight_sum}

-- what the house takes in now: the price of each lot, from buys, less the same of sells
abbrev pub row_cash : {C : Type 0} → (Row C → ℕ) → Row C → ℤ
row_cash lots r = signed r.side (r.price * lots r)

abbrev pub cash_now : {C : Type 0} → List (Row C) → (Row C → ℕ) → ℤ
cash_now rows lots = total (row_cash lots) rows

-- what the order in a row adds to what the house owes where the index is fixed at a price
abbrev pub row_owed : {C : Type 0} → Meaning C → ℕ → (Row C → ℕ) → ℕ → Row C → ℤ
row_owed m top lots s r = signed r.side (m.payoff top r.contract s * lots r)

module _ {C : Type 0} (m : Meaning C) (top : ℕ) (rows : List (Row C)) (lots : Row C → ℕ) where
  -- what the house owes at a price: the payoffs of buys, less those of sells
  abbrev pub owed : ℕ → ℤ
  owed s = total (row_owed m top lots s) rows

  -- the largest owed at any whole price from 0 to the ceiling; it may be negative
  abbrev pub reserve : ℤ
  reserve = largest owed top

  -- the lowest price where the reserve is reached
  abbrev pub worst_price : ℕ
  worst_price = lowest owed top

  abbrev pub net : ℤ
  net = cash_now rows lots -ℤ reserve

abbrev pub filled_lots : {C : Type 0} → Row C → ℕ
filled_lots r = r.filled

-- what all filled lots owe at a price
abbrev pub exposure : {C : Type 0} → Meaning C → ℕ → List (Row C) → ℕ → ℤ
exposure m top rows s = owed m top rows filled_lots s

module _ {C : Type 0} (m : Meaning C) (top : ℕ) (ws : List Weight) where
  -- by how much a lot's price, counted W times, betters its value: for a buy above it, for a sell
  -- below it, and else by nothing, since this minus stops at 0
  abbrev pub advantage : Row C → Side → ℕ
  advantage r Buy = weight_sum ws * r.price - value m top ws r.contract
  advantage r Sell = value m top ws r.contract - weight_sum ws * r.price

  -- The sum over all standing orders, filled or not: a row with no open lots adds nothing.
  abbrev pub row_bound : Row C → ℤ
  row_bound r = pos (r.«open» * advantage r r.side)

  abbrev pub bound : List (Row C) → ℤ
  bound rows = total row_bound rows

  -- by how much another matching could be better at most, counted W times
  abbrev pub gap : List (Row C) → (Row C → ℕ) → ℤ
  gap rows lots = bound rows -ℤ (pos (weight_sum ws) *ℤ net m top rows lots)
