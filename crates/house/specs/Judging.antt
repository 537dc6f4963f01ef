-- The tests of a clearing in two parts: what is asked of the proposal and the house, and what of the figures. Assumes nothing.
use Rattle.std.specs.Prelude.{ℕ, ◌*◌, List, [], ◌∷◌, pos, ◌+ℤ◌, Option, Result, int_lt, nat_le}
use Rattle.books.specs.declared.answers.Cleared.{Cleared}
use Rattle.books.specs.declared.refusals.Refusal.{Refusal}
use Rattle.books.specs.declared.refusals.Refusal.TheVariants.{Closed, ReportOwed, NetBelowZero, GapTooLarge, HouseShort, NumbersUsedUp}
use Rattle.matching.specs.declared.appraisal.Appraisal.{Appraisal}
use Rattle.matching.specs.declared.proposals.Fill.{Fill}
use Rattle.matching.specs.declared.proposals.Weight.{Weight}
use Rattle.matching.specs.Fills.{fills_verdict, orders_verdict}
use Rattle.matching.specs.Rows.{house_rows}
use Rattle.matching.specs.Weights.{weights_verdict}
use Rattle.books.specs.Calls.{max_number}
use Rattle.books.specs.Refusals.{tested, fails_if, fills_test, weights_test, orders_test}
use Rattle.books.specs.State.{State}

abbrev pub proposal_tests : {C : Type 0} → State C → List Fill → List Weight → List (Option Refusal)
proposal_tests s fills ws = fills_test (fills_verdict fills) ∷ (weights_test (weights_verdict s.top ws) ∷ (fails_if s.closed Closed ∷ (fails_if s.report ReportOwed ∷ (orders_test (orders_verdict (house_rows s.rows) fills) ∷ []))))

-- whether the proposal is admitted, or else the first test that it fails
abbrev pub admission : {C : Type 0} → State C → List Fill → List Weight → Result (Unit {0}) Refusal
admission s fills ws = tested (proposal_tests s fills ws) tt

abbrev pub figure_tests : {C : Type 0} → State C → Appraisal → List (Option Refusal)
figure_tests s a = fails_if (int_lt a.net (pos 0)) NetBelowZero ∷ (fails_if (int_lt (pos (s.allowed * a.weights)) a.gap) GapTooLarge ∷ (fails_if (int_lt (s.cash +ℤ a.cash) (pos 0)) HouseShort ∷ (fails_if (nat_le max_number s.latest.clearing) NumbersUsedUp ∷ [])))

-- what a clearing with a number answers
abbrev pub cleared_as : ℕ → Appraisal → Cleared
cleared_as n a = record { clearing = n; net = a.net; reserve = a.reserve; worst = a.worst; gap = a.gap; weights = a.weights }
