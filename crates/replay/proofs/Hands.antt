-- The token in hand: what a clearing and a publish leave of it. Assumes nothing.
use Rattle.std.proofs.Common.{◌≡◌, ℕ, ◌+◌, false, List, [], ◌∷◌, Some, None, Ok, Err, Option, Result, refl, ap, ◌∙◌, arith}
use Rattle.instruments.specs.Meaning.{Meaning}
use Rattle.matching.specs.declared.proposals.Fill.{Fill}
use Rattle.matching.specs.declared.proposals.Weight.{Weight}
use Rattle.books.specs.declared.answers.Cleared.{Cleared}
use Rattle.books.specs.declared.refusals.Refusal.{Refusal}
use Rattle.books.specs.Clearing.{cleared, clear_tests, clear_answer}
use Rattle.books.specs.Refusals.{tested, left_by}
use Rattle.books.specs.Publishing.{publish_answer, publish_page, publish_after}
use Rattle.books.specs.State.{State}
use Rattle.house.specs.declared.token.ReportToken.{ReportToken}
use Rattle.replay.specs.Desk.{desk, state_with, page_with, if_spent, own_after_clear}

clash : {A : Type 0} → ◌≡◌ {A = ℕ} 0 1 → A
clash e = absurd (omega arith)

-- what is answered is what would be answered where every test passes
pub answered : {A : Type 0} (tests : List (Option Refusal)) (a b : A) → Ok b ≡ tested tests a → b ≡ a
answered [] a b e = cc
answered (Some r ∷ tests) a b e = clash (cc)
answered (None ∷ tests) a b e = answered tests a b e

left-ok : {A S : Type 0} (r : Result A Refusal) (a : A) (after before : S) → Ok a ≡ r → after ≡ left_by r after before
left-ok (Ok b) a after before e = refl
left-ok (Err q) a after before e = clash (cc)

pub token-comes : {C : Type 0} (m : Meaning C) (s : State C) (fills : List Fill) (ws : List Weight) (a : Cleared) (t : ReportToken) (own : Option ReportToken) → Ok a ≡ clear_answer m s fills ws → t ≡ record { house = s.number; clearing = a.clearing; spent = false } → Some t ≡ own_after_clear m s fills ws own
token-comes m s fills ws a t own e is =
    let same = answered (clear_tests m s fills ws) (cleared m s fills ws) a e in
    ap Some (is ∙ ap (λ (b : Cleared). record { house = s.number; clearing = b.clearing; spent = false }) same) ∙
    left-ok (clear_answer m s fills ws) a (Some (record { house = s.number; clearing = s.latest.clearing + 1; spent = false })) own e

pub desk-same : {C : Type 0} {s s' : State C} {own own' : Option ReportToken} {others others' : List (Option ReportToken)} {page page' : List ℕ} → s ≡ s' → own ≡ own' → others ≡ others' → page ≡ page' → desk s own others page ≡ desk s' own' others' page'
desk-same e f g h = rw (e, f, g, h) refl

module _ {C : Type 0} (s : State C) (page : List ℕ) (b : Option ReportToken) (t : ReportToken) (is : b ≡ Some t) where
  pub state-some : (s' : State C) → s' ≡ publish_after s t.house t.clearing page → s' ≡ state_with b s page
  state-some s' e = rw is e

  pub page-some : (page' : List ℕ) → page' ≡ publish_page s t.house t.clearing page → page' ≡ page_with b s page
  page-some page' e = rw is e

  pub spent_some : {A : Type 0} (n : ℕ) (spent kept : A) → Ok n ≡ publish_answer s t.house t.clearing page → spent ≡ if_spent b s page spent kept
  spent_some n spent kept e = rw (is, ← e)

  pub kept-some : {A : Type 0} (q : Refusal) (spent kept : A) → Err q ≡ publish_answer s t.house t.clearing page → kept ≡ if_spent b s page spent kept
  kept-some q spent kept e = rw (is, ← e)
