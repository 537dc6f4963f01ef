-- clear: what it answers, and the state that it leaves. Assumes nothing.
use Rattle.std.specs.Prelude.{◌+◌, ◌-◌, ◌*◌, Bool, true, ◌&&◌, List, [], ◌∷◌, ℤ, pos, ◌+ℤ◌, neg_ℤ, Option, Result, int_lt, nat_le}
use Rattle.books.specs.declared.answers.Cleared.{Cleared}
use Rattle.books.specs.declared.refusals.Refusal.{Refusal}
use Rattle.books.specs.declared.refusals.Refusal.TheVariants.{Closed, ReportOwed, NetBelowZero, GapTooLarge, HouseShort, NumbersUsedUp}
use Rattle.instruments.specs.Meaning.{Meaning}
use Rattle.matching.specs.declared.proposals.Fill.{Fill}
use Rattle.matching.specs.declared.proposals.Weight.{Weight}
use Rattle.matching.specs.declared.rows.Row.{Row}
use Rattle.matching.specs.declared.appraisal.Appraisal.{Appraisal}
use Rattle.matching.specs.Appraisal.{appraisal}
use Rattle.matching.specs.Figures.{row_cash, cash_now, reserve, worst_price, net, gap}
use Rattle.matching.specs.Fills.{given, fills_verdict, orders_verdict}
use Rattle.matching.specs.Rows.{house_rows}
use Rattle.matching.specs.Weights.{weight_sum, weights_verdict}
use Rattle.books.specs.Calls.{max_number, max_lots}
use Rattle.books.specs.Money.{moved, share}
use Rattle.books.specs.Refusals.{tested, fails_if, fills_test, weights_test, orders_test, left_by}
use Rattle.books.specs.State.{State, over_house, with_lots}

module _ {C : Type 0} (m : Meaning C) (s : State C) (fills : List Fill) (ws : List Weight) where
  abbrev pub orders_now : List (Row C)
  orders_now = house_rows s.rows

  -- what a clearing answers; its number is one above the last
  abbrev pub cleared : Cleared
  cleared = record {
    clearing = s.latest.clearing + 1;
    net = net m s.top orders_now (given fills);
    reserve = reserve m s.top orders_now (given fills);
    worst = worst_price m s.top orders_now (given fills);
    gap = gap m s.top ws orders_now (given fills);
    weights = weight_sum ws;
  }

  -- the tests alone, with the figures that they look at
  abbrev pub clear_tests : List (Option Refusal)
  clear_tests =
      fills_test (fills_verdict fills) ∷
      (weights_test (weights_verdict s.top ws) ∷
      (fails_if s.closed Closed ∷
      (fails_if s.report ReportOwed ∷
      (orders_test (orders_verdict orders_now fills) ∷
      (fails_if (int_lt cleared.net (pos 0)) NetBelowZero ∷
      (fails_if (int_lt (pos (s.allowed * weight_sum ws)) cleared.gap) GapTooLarge ∷
      (fails_if (int_lt (s.cash +ℤ cash_now orders_now (given fills)) (pos 0)) HouseShort ∷
      (fails_if (nat_le max_number s.latest.clearing) NumbersUsedUp ∷ []))))))))

  abbrev pub clear_tested : Result Appraisal Refusal
  clear_tested = tested clear_tests (appraisal m s.top ws orders_now fills)

  abbrev pub clear_answer : Result Cleared Refusal
  clear_answer = tested clear_tests cleared

-- the fills move from open to filled
abbrev pub booked : {C : Type 0} → List Fill → Row C → Row C
booked fills r = with_lots r (r.«open» - given fills r) (r.filled + given fills r)

-- the row has the lots that it is given, and few enough for a row
abbrev pub bookable : {C : Type 0} → List Fill → Row C → Bool
bookable fills r = nat_le (given fills r) r.«open» && nat_le (r.«open» + r.filled) max_lots

-- buyers pay price × fill, and sellers receive it
abbrev pub paid_members : {C : Type 0} → State C → List Fill → List ℤ
paid_members s fills = moved (λ n. neg_ℤ (share (row_cash (given fills)) (house_rows s.rows) n)) s.members

-- a clearing booked with the cash that it takes in and with what it answers; a report is owed
abbrev pub booked_with : {C : Type 0} → State C → List Fill → ℤ → Cleared → State C
booked_with s fills cash a = record {
  number = s.number;
  top = s.top;
  allowed = s.allowed;
  members = paid_members s fills;
  cash = s.cash +ℤ cash;
  reserve = s.reserve +ℤ a.reserve;
  orders = s.orders;
  latest = a;
  report = true;
  closed = s.closed;
  rows = over_house (booked fills) s.rows;
}

-- The house's cash rises by cash now, and its reserve by the matching's.
abbrev pub booked_state : {C : Type 0} → Meaning C → State C → List Fill → List Weight → State C
booked_state m s fills ws = booked_with s fills (cash_now (house_rows s.rows) (given fills)) (cleared m s fills ws)

abbrev pub clear_after : {C : Type 0} → Meaning C → State C → List Fill → List Weight → State C
clear_after m s fills ws = left_by (clear_answer m s fills ws) (booked_state m s fills ws) s
