-- The house's own token stays in hand just while its report is owed, whatever is called. Assumes nothing.
use Rattle.std.proofs.Common.{◌≡◌, ℕ, ◌+◌, true, false, ◌&&◌, eqb, List, Some, None, Ok, Err, Option, Result, refl, ap, ◌∙◌}
use Rattle.std.proofs.lemmas.Bool.{eq-eqb}
use Rattle.instruments.specs.Meaning.{Meaning}
use Rattle.matching.specs.declared.proposals.Fill.{Fill}
use Rattle.matching.specs.declared.proposals.Weight.{Weight}
use Rattle.matching.specs.declared.rows.Side.{Side}
use Rattle.books.specs.declared.answers.Cleared.{Cleared}
use Rattle.books.specs.declared.refusals.Refusal.{Refusal}
use Rattle.books.specs.Calls.{deposit_answer, withdraw_answer, fund_answer, take_answer, cancel_answer, enter_answer, Entered}
use Rattle.books.specs.Clearing.{clear_answer, clear_after, booked_state}
use Rattle.books.specs.Publishing.{publish_answer, published}
use Rattle.books.specs.Refusals.{left_by}
use Rattle.books.specs.Settling.{settle_answer}
use Rattle.books.specs.State.{State}
use Rattle.house.specs.declared.token.ReportToken.{ReportToken}
use Rattle.replay.specs.declared.calls.Call.{Call}
use Rattle.replay.specs.declared.calls.Call.TheVariants.{Deposit, Withdraw, Fund, Take, Enter, Cancel, Clear, Publish, PublishOther, Settle, Account, House}
use Rattle.replay.specs.Desk.{Desk, InHand, Leaves, state_with, if_spent, own_after_clear, token_at}

-- what the token is for is the same in two states
record SameReport {C : Type 0} (s s' : State C) : Type 0 where
  number : s'.number ≡ s.number
  latest : s'.latest ≡ s.latest
  report : s'.report ≡ s.report

module _ {C : Type 0} where
  hand-same : (s s' : State C) (own : Option ReportToken) → SameReport s s' → InHand s own → InHand s' own
  hand-same s s' None same h = same.report ∙ h
  hand-same s s' (Some t) same h = rw (same.report, same.number, same.latest) h

  -- a call that was refused, or changed nothing of the report
  hand-left : {A : Type 0} (r : Result A Refusal) (after s : State C) (own : Option ReportToken) → SameReport s after → InHand s own → InHand (left_by r after s) own
  hand-left (Ok a) after s own same h = hand-same s after own same h
  hand-left (Err q) after s own same h = h

  same-as : (s s' : State C) → s' ≡ s → SameReport s s'
  same-as s s' e = record { number = ap (λ t. t.number) e; latest = ap (λ t. t.latest) e; report = ap (λ t. t.report) e }

  same-entered : (m : Meaning C) (s s' : State C) (n : ℕ) (side : Side) (c : C) (price lots : ℕ) (a : Result ℕ Refusal) → Entered m s s' n side c price lots a → SameReport s s'
  same-entered m s s' n side c price lots (Ok number) entered =
      let e = entered.1.after in
      record { number = ap (λ t. t.number) e; latest = ap (λ t. t.latest) e; report = ap (λ t. t.report) e }
  same-entered m s s' n side c price lots (Err q) e = same-as s s' e

  -- a publish with any token: where it is accepted, no report is owed any more
  hand-published : (b : Option ReportToken) (s : State C) (page : List ℕ) (own : Option ReportToken) → InHand s own → InHand (state_with b s page) (if_spent b s page None own)
  hand-published None s page own h = h
  hand-published (Some t) s page own h = by_answer (publish_answer s t.house t.clearing page)
    where
      by_answer : (a : Result ℕ Refusal) → InHand (left_by a (published s) s) (left_by a None own)
      by_answer (Ok n) = refl
      by_answer (Err q) = h

  -- a clearing owes its report, and its token is the one that comes
  hand-cleared : (m : Meaning C) (s : State C) (fills : List Fill) (ws : List Weight) (own : Option ReportToken) → InHand s own → InHand (clear_after m s fills ws) (own_after_clear m s fills ws own)
  hand-cleared m s fills ws own h = by_answer (clear_answer m s fills ws)
    where
      both : (x y : ℕ) → (eqb x x && eqb y y) ≡ true
      both x y = rw (eq-eqb x x refl, eq-eqb y y refl)

      by_answer : (a : Result Cleared Refusal) → InHand (left_by a (booked_state m s fills ws) s) (left_by a (Some (record { house = s.number; clearing = s.latest.clearing + 1; spent = false })) own)
      by_answer (Ok a) = both s.number (s.latest.clearing + 1)
      by_answer (Err q) = h

  pub keeps-hand : (m : Meaning C) (call : Call C) (d d' : Desk C) → Leaves m call d d' → InHand d.state d.own → InHand d'.state d'.own
  keeps-hand m (Deposit n amount) d d' e h = rw e (hand-left (deposit_answer d.state n amount) _ d.state d.own (record { number = refl; latest = refl; report = refl }) h)
  keeps-hand m (Withdraw n amount) d d' e h = rw e (hand-left (withdraw_answer m d.state n amount) _ d.state d.own (record { number = refl; latest = refl; report = refl }) h)
  keeps-hand m (Fund amount) d d' e h = rw e (hand-left (fund_answer d.state amount) _ d.state d.own (record { number = refl; latest = refl; report = refl }) h)
  keeps-hand m (Take amount) d d' e h = rw e (hand-left (take_answer d.state amount) _ d.state d.own (record { number = refl; latest = refl; report = refl }) h)
  keeps-hand m (Enter n side c price lots) d d' e h =
      let kept = hand-same d.state d'.state d.own (same-entered m d.state d'.state n side c price lots (enter_answer m d.state n side c price lots) e.0) h in
      let same : d'.own ≡ d.own = ap (λ (x : Desk C). x.own) e.1 in
      rw same kept
  keeps-hand m (Cancel n order) d d' e h = rw e (hand-left (cancel_answer d.state n order) _ d.state d.own (record { number = refl; latest = refl; report = refl }) h)
  keeps-hand m (Clear fills ws) d d' e h = rw e (hand-cleared m d.state fills.now ws.now d.own h)
  keeps-hand m Publish d d' e h = rw e (hand-published d.own d.state d.page d.own h)
  keeps-hand m (PublishOther place) d d' e h = rw e (hand-published (token_at d.others place) d.state d.page d.own h)
  keeps-hand m (Settle price) d d' e h = rw e (hand-left (settle_answer d.state price) _ d.state d.own (record { number = refl; latest = refl; report = refl }) h)
  keeps-hand m (Account n) d d' e h = rw e h
  keeps-hand m House d d' e h = rw e h
