-- A proposal that passes all tests: what that says, part by part. Assumes nothing.
use Rattle.std.proofs.Common.{◌≡◌, ℕ, ◌+◌, ◌≤◌, Bool, true, false, leb, List, [], ◌∷◌, ◌++◌, ℤ, pos, ◌+ℤ◌, Some, None, Ok, Err, Option, Result, sym, refl, ap, ◌∙◌, subst, arith}
use lib.Signed.{lt_z}
use Rattle.std.proofs.lemmas.Bool.Decides.{nat_tests}
use Rattle.std.specs.List.{AllByRecursion}
use Rattle.instruments.specs.Meaning.{Meaning}
use Rattle.matching.specs.declared.appraisal.Appraisal.{Appraisal}
use Rattle.matching.specs.declared.proposals.Fill.{Fill}
use Rattle.matching.specs.declared.proposals.FillFault.{FillFault}
use Rattle.matching.specs.declared.proposals.Weight.{Weight}
use Rattle.matching.specs.Appraisal.{appraisal}
use Rattle.matching.specs.Figures.{cash_now}
use Rattle.matching.specs.Fills.{given, orders_verdict}
use Rattle.matching.specs.Rows.{house_rows}
use Rattle.books.specs.declared.answers.Cleared.{Cleared}
use Rattle.books.specs.declared.refusals.Refusal.{Refusal}
use Rattle.books.specs.Calls.{max_number}
use Rattle.books.specs.Clearing.{cleared, clear_tests, clear_tested, clear_answer, clear_after, booked_with, booked_state}
use Rattle.books.specs.Refusals.{tested, fails_if, orders_test, left_by}
use Rattle.books.specs.State.{State}
use Rattle.house.specs.Judging.{proposal_tests, figure_tests, cleared_as}

clash : {A : Type 0} → ◌≡◌ {A = ℕ} 0 1 → A
clash e = absurd (omega arith)

-- an answer says that every test passed, and what was answered
tested-ok : {A : Type 0} (tests : List (Option Refusal)) (a b : A) → tested tests a ≡ Ok b → AllByRecursion (λ t. t ≡ None) tests × (a ≡ b)
tested-ok [] a b e = (tt, cc)
tested-ok (Some r ∷ tests) a b e = clash (cc)
tested-ok (None ∷ tests) a b e = let rest = tested-ok tests a b e in ((refl, rest.0), rest.1)

tested-pass : {A : Type 0} (tests : List (Option Refusal)) (a : A) → AllByRecursion (λ t. t ≡ None) tests → tested tests a ≡ Ok a
tested-pass [] a all = refl
tested-pass (Some r ∷ tests) a all = let e = all.0 in clash (cc)
tested-pass (None ∷ tests) a all = tested-pass tests a all.1

-- a refusal is the same whatever would have been answered
pub tested-err : {A B : Type 0} (tests : List (Option Refusal)) (a : A) (b : B) (r : Refusal) → tested tests a ≡ Err r → tested tests b ≡ Err r
tested-err [] a b r e = clash (cc)
tested-err (Some q ∷ tests) a b r e = cc
tested-err (None ∷ tests) a b r e = tested-err tests a b r e

-- tests that nothing is answered for
abbrev pub admitted : List (Option Refusal) → Result (Unit {0}) Refusal
admitted tests = tested tests tt

-- one list of tests after another
pub first-fails : {A : Type 0} (ps qs : List (Option Refusal)) (a : A) (r : Refusal) → admitted ps ≡ Err r → tested (ps ++ qs) a ≡ Err r
first-fails [] qs a r e = clash (cc)
first-fails (Some q ∷ ps) qs a r e = cc
first-fails (None ∷ ps) qs a r e = first-fails ps qs a r e

pub then_next : {A : Type 0} (ps qs : List (Option Refusal)) (a : A) → admitted ps ≡ Ok tt → tested (ps ++ qs) a ≡ tested qs a
then_next [] qs a e = refl
then_next (Some q ∷ ps) qs a e = clash (cc)
then_next (None ∷ ps) qs a e = then_next ps qs a e

pub next-fails : {A : Type 0} (qs : List (Option Refusal)) (a : A) (r : Refusal) → admitted qs ≡ Err r → tested qs a ≡ Err r
next-fails qs a r e = tested-err qs tt a r e

pub next-passes : {A : Type 0} (qs : List (Option Refusal)) (a : A) → admitted qs ≡ Ok tt → tested qs a ≡ Ok a
next-passes qs a e = tested-pass qs a (tested-ok qs tt tt e).0

open-test : (t : Bool) (r : Refusal) → fails_if t r ≡ None → t ≡ false
open-test true r e = clash (cc)
open-test false r e = refl

stands : (v : Result (Unit {0}) FillFault) → orders_test v ≡ None → v ≡ Ok tt
stands (Ok u) e = refl
stands (Err f) e = clash (cc)

pub record Passed {C : Type 0} (m : Meaning C) (s : State C) (fills : List Fill) (ws : List Weight) (a : Appraisal) : Type 0 where
  pub same : a ≡ appraisal m s.top ws (house_rows s.rows) fills
  pub answer : clear_answer m s fills ws ≡ Ok (cleared m s fills ws)
  pub after : clear_after m s fills ws ≡ booked_state m s fills ws
  pub orders : orders_verdict (house_rows s.rows) fills ≡ Ok tt
  pub enough : lt_z (s.cash +ℤ a.cash) (pos 0) ≡ false
  pub number : s.latest.clearing + 1 ≤ max_number

pub passed : {C : Type 0} (m : Meaning C) (s : State C) (fills : List Fill) (ws : List Weight) (a : Appraisal) → clear_tested m s fills ws ≡ Ok a → Passed m s fills ws a
passed m s fills ws a e =
    let parts = tested-ok (clear_tests m s fills ws) (appraisal m s.top ws (house_rows s.rows) fills) a e in
    let answer : clear_answer m s fills ws ≡ Ok (cleared m s fills ws) = tested-pass (clear_tests m s fills ws) (cleared m s fills ws) parts.0 in
    record {
      same = sym parts.1;
      answer = answer;
      after = ap (λ r. left_by r (booked_state m s fills ws) s) answer;
      orders = stands (orders_verdict (house_rows s.rows) fills) parts.0.1.1.1.1.0;
      enough = rw (← parts.1) (open-test (lt_z (s.cash +ℤ cash_now (house_rows s.rows) (given fills)) (pos 0)) _ parts.0.1.1.1.1.1.1.1.0);
      number = let room = open-test (leb max_number s.latest.clearing) _ parts.0.1.1.1.1.1.1.1.1.0 in grind (arith, nat_tests);
    }

-- a refused clear answers and leaves what its definition says
pub record Turned {C : Type 0} (m : Meaning C) (s : State C) (fills : List Fill) (ws : List Weight) (r : Refusal) : Type 0 where
  pub answer : clear_answer m s fills ws ≡ Err r
  pub after : clear_after m s fills ws ≡ s

pub turned : {C : Type 0} (m : Meaning C) (s : State C) (fills : List Fill) (ws : List Weight) (r : Refusal) → clear_tested m s fills ws ≡ Err r → Turned m s fills ws r
turned m s fills ws r e =
    let answer : clear_answer m s fills ws ≡ Err r = tested-err (clear_tests m s fills ws) (appraisal m s.top ws (house_rows s.rows) fills) (cleared m s fills ws) r e in
    record { answer = answer; after = ap (λ a. left_by a (booked_state m s fills ws) s) answer }

-- what is booked with the figures of a proposal that passed is the clearing's state
pub booked-same : {C : Type 0} (m : Meaning C) (s : State C) (fills : List Fill) (ws : List Weight) (a : Appraisal) (cash : ℤ) (answer : Cleared) → a ≡ appraisal m s.top ws (house_rows s.rows) fills → cash ≡ a.cash → answer ≡ cleared_as (s.latest.clearing + 1) a → booked_with s fills cash answer ≡ booked_state m s fills ws
booked-same m s fills ws a cash answer same e f = ap (λ z. booked_with s fills z answer) e ∙ (ap (booked_with s fills a.cash) f ∙ ap (λ b. booked_with s fills b.cash (cleared_as (s.latest.clearing + 1) b)) same)

pub cleared-same : {C : Type 0} (m : Meaning C) (s : State C) (fills : List Fill) (ws : List Weight) (a : Appraisal) (answer : Cleared) → a ≡ appraisal m s.top ws (house_rows s.rows) fills → answer ≡ cleared_as (s.latest.clearing + 1) a → answer ≡ cleared m s fills ws
cleared-same m s fills ws a answer same f = f ∙ ap (cleared_as (s.latest.clearing + 1)) same

-- the two parts of the tests, one after the other
module _ {C : Type 0} (m : Meaning C) (s : State C) (fills : List Fill) (ws : List Weight) where
  abbrev own_figures : Appraisal
  own_figures = appraisal m s.top ws (house_rows s.rows) fills

  pub judged-first : (r : Refusal) → admitted (proposal_tests s fills ws) ≡ Err r → clear_tested m s fills ws ≡ Err r
  judged-first r e = first-fails (proposal_tests s fills ws) (figure_tests s own_figures) own_figures r e

  pub judged-ok : (a : Appraisal) → own_figures ≡ a → admitted (proposal_tests s fills ws) ≡ Ok tt → admitted (figure_tests s a) ≡ Ok tt → clear_tested m s fills ws ≡ Ok a
  judged-ok a same pass figs = subst (λ (b : Appraisal). admitted (figure_tests s b) ≡ Ok tt → clear_tested m s fills ws ≡ Ok b) same (λ h. then_next (proposal_tests s fills ws) (figure_tests s own_figures) own_figures pass ∙ next-passes (figure_tests s own_figures) own_figures h) figs

  pub judged-err : (a : Appraisal) (r : Refusal) → own_figures ≡ a → admitted (proposal_tests s fills ws) ≡ Ok tt → admitted (figure_tests s a) ≡ Err r → clear_tested m s fills ws ≡ Err r
  judged-err a r same pass figs = subst (λ (b : Appraisal). admitted (figure_tests s b) ≡ Err r → clear_tested m s fills ws ≡ Err r) same (λ h. then_next (proposal_tests s fills ws) (figure_tests s own_figures) own_figures pass ∙ next-fails (figure_tests s own_figures) own_figures r h) figs
