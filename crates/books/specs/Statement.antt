-- What one clearing moves, as it stands on a statement of account: a member pays for the lots that it
-- buys, is paid for those that it sells, and the house stands between them. Assumes nothing.
use Rattle.std.specs.Prelude.{◌≡◌, ℕ, ◌*◌, true, List, ℤ, pos, ◌+ℤ◌, ◌-ℤ◌}
use Rattle.matching.specs.declared.proposals.Fill.{Fill}
use Rattle.matching.specs.declared.rows.Row.{Row}
use Rattle.matching.specs.declared.rows.Side.{Side}
use Rattle.matching.specs.declared.rows.Side.TheVariants.{Buy, Sell}
use Rattle.matching.specs.Fills.{given}
use Rattle.matching.specs.Rows.{house_rows}
use Rattle.matching.specs.Sums.{total}
use Rattle.books.specs.Money.{is_member, cash_of, share}
use Rattle.books.specs.State.{State, all_cash}

module _ {C : Type 0} (fills : List Fill) where
  -- the price of the lots that an order is given, if it buys, and if it sells
  abbrev pub bought : Row C → Side → ℤ
  bought r Buy = pos (r.price * given fills r)
  bought r Sell = pos 0

  abbrev pub sold : Row C → Side → ℤ
  sold r Buy = pos 0
  sold r Sell = pos (r.price * given fills r)

  -- what a member pays for all that it buys, and gets for all that it sells
  abbrev pub pays : List (Row C) → ℕ → ℤ
  pays rows n = share (λ r. bought r r.side) rows n

  abbrev pub gets : List (Row C) → ℕ → ℤ
  gets rows n = share (λ r. sold r r.side) rows n

-- s' is s after the money of one clearing has moved, and no tick is made or lost
pub record Statement {C : Type 0} (fills : List Fill) (s s' : State C) : Type 0 where
  pub member : (n : ℕ) → is_member n ≡ true → cash_of s'.members n ≡ (cash_of s.members n -ℤ pays fills (house_rows s.rows) n) +ℤ gets fills (house_rows s.rows) n
  pub house : s'.cash ≡ (s.cash +ℤ total (λ r. bought fills r r.side) (house_rows s.rows)) -ℤ total (λ r. sold fills r r.side) (house_rows s.rows)
  pub conserved : all_cash s' ≡ all_cash s
