-- The rows of a house, and which of them are orders. Assumes nothing.
use Rattle.std.specs.Prelude.{ℕ, ◌+◌, ◌*◌, Bool, cond, ◌||◌, List, take, ℤ, pos, neg_ℤ, ◌==◌, nat_lt}
use Rattle.matching.specs.declared.rows.Row.{Row}
use Rattle.matching.specs.declared.rows.Side.{Side}
use Rattle.matching.specs.declared.rows.Side.TheVariants.{Buy, Sell}
use Rattle.instruments.specs.Meaning.{Meaning}
use Rattle.matching.specs.Sums.{total}

-- the first 256 rows that are lent belong to the house, and no other row is read
abbrev pub house_rows : {C : Type 0} → List (Row C) → List (Row C)
house_rows rows = take 256 rows

-- an order stands while it has open lots
abbrev pub standing : {C : Type 0} → Row C → Bool
standing r = nat_lt 0 r.«open»

-- a row is used while it has open or filled lots
abbrev pub used : {C : Type 0} → Row C → Bool
used r = nat_lt 0 r.«open» || nat_lt 0 r.filled

-- what is counted for a buy counts against for a sell
abbrev pub signed : Side → ℕ → ℤ
signed Buy n = pos n
signed Sell n = neg_ℤ (pos n)

-- What an order ties up: a buy the price of its open lots, a sell the collateral of its open and filled
-- lots until they are settled.
abbrev pub hold : {C : Type 0} → Meaning C → ℕ → Row C → Side → ℕ
hold m top r Buy = r.price * r.«open»
hold m top r Sell = m.collateral top r.contract * (r.«open» + r.filled)

abbrev pub held_in_row : {C : Type 0} → Meaning C → ℕ → ℕ → Row C → ℤ
held_in_row m top member r = cond (r.member == member) (pos (hold m top r r.side)) (pos 0)

-- held by a member: the sum over the rows that are its own
abbrev pub held : {C : Type 0} → Meaning C → ℕ → List (Row C) → ℕ → ℤ
held m top rows member = total (held_in_row m top member) rows
