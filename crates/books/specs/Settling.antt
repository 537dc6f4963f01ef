-- settle: what it answers, and the state that it leaves. Assumes nothing.
use Rattle.std.specs.Prelude.{ℕ, true, List, [], ◌∷◌, ℤ, pos, ◌-ℤ◌, Result, nat_lt}
use Rattle.books.specs.declared.refusals.Refusal.{Refusal}
use Rattle.books.specs.declared.refusals.Refusal.TheVariants.{Price, Closed, ReportOwed}
use Rattle.instruments.specs.Meaning.{Meaning}
use Rattle.matching.specs.declared.rows.Row.{Row}
use Rattle.matching.specs.Figures.{row_owed, filled_lots, exposure}
use Rattle.matching.specs.Rows.{house_rows}
use Rattle.books.specs.Money.{moved, share}
use Rattle.books.specs.Refusals.{tested, fails_if, left_by}
use Rattle.books.specs.State.{State, over_house, emptied}

-- Each filled buy is paid its payoff by the house, and each filled sell pays it.
abbrev pub paid_out : {C : Type 0} → Meaning C → ℕ → ℕ → List (Row C) → ℕ → ℤ
paid_out m top price rows n = share (row_owed m top filled_lots price) rows n

abbrev pub settle_answer : {C : Type 0} → State C → ℕ → Result (Unit {0}) Refusal
settle_answer s price = tested (fails_if (nat_lt s.top price) Price ∷ (fails_if s.closed Closed ∷ (fails_if s.report ReportOwed ∷ []))) tt

abbrev pub settled : {C : Type 0} → Meaning C → State C → ℕ → State C
settled m s price = record {
  number = s.number;
  top = s.top;
  allowed = s.allowed;
  members = moved (paid_out m s.top price (house_rows s.rows)) s.members;
  cash = s.cash -ℤ exposure m s.top (house_rows s.rows) price;
  reserve = pos 0;
  orders = s.orders;
  latest = s.latest;
  report = s.report;
  closed = true;
  rows = over_house emptied s.rows;
}

abbrev pub settle_after : {C : Type 0} → Meaning C → State C → ℕ → State C
settle_after m s price = left_by (settle_answer s price) (settled m s price) s
