-- What is at hand while a list of calls is made, and what one call answers and leaves of it. Every answer
-- and every state is the one that the call's own contract names. Assumes nothing.
use Rattle.std.specs.Prelude.{◌≡◌, ℕ, ◌+◌, true, false, List, [], ◌∷◌, Some, None, Option, slice_index_or, slice_set}
use Rattle.instruments.specs.Meaning.{Meaning}
use Rattle.matching.specs.declared.proposals.Fill.{Fill}
use Rattle.matching.specs.declared.proposals.Weight.{Weight}
use Rattle.books.specs.Calls.{deposit_answer, deposit_after, withdraw_answer, withdraw_after, fund_answer, fund_after, take_answer, take_after, enter_answer, Entered, cancel_answer, cancel_after}
use Rattle.books.specs.Clearing.{clear_answer, clear_after}
use Rattle.books.specs.Ledger.{Event}
use Rattle.books.specs.Ledger as did
use Rattle.books.specs.Publishing.{is_owed, publish_answer, publish_page, publish_after}
use Rattle.books.specs.Questions.{account_answer, house_answer}
use Rattle.books.specs.Refusals.{left_by}
use Rattle.books.specs.Settling.{settle_answer, settle_after}
use Rattle.books.specs.State.{State}
use Rattle.house.specs.declared.token.ReportToken.{ReportToken}
use Rattle.replay.specs.declared.calls.Answer.{Answer}
use Rattle.replay.specs.declared.calls.Answer.TheVariants as told
use Rattle.replay.specs.declared.calls.Call.{Call}
use Rattle.replay.specs.declared.calls.Call.TheVariants.{Deposit, Withdraw, Fund, Take, Enter, Cancel, Clear, Publish, PublishOther, Settle, Account, House}

-- the house's state; the token of the report that it owes, and the tokens that are lent; and the page
pub record Desk (C : Type 0) : Type 0 where
  pub state : State C
  pub own : Option ReportToken
  pub others : List (Option ReportToken)
  pub page : List ℕ

abbrev pub desk : {C : Type 0} → State C → Option ReportToken → List (Option ReportToken) → List ℕ → Desk C
desk s own others page = record { state = s; own = own; others = others; page = page }

abbrev pub with_state : {C : Type 0} → Desk C → State C → Desk C
with_state d s = desk s d.own d.others d.page

-- The house's own token is in hand just while its report is owed.
abbrev pub InHand : {C : Type 0} → State C → Option ReportToken → Type 0
InHand s None = s.report ≡ false
InHand s (Some t) = is_owed s t.house t.clearing ≡ true

-- ---- a publish with the token that is brought, if there is one
abbrev pub told_with : {C : Type 0} → Option ReportToken → State C → List ℕ → Answer
told_with None s page = told.NoToken
told_with (Some t) s page = told.Published (publish_answer s t.house t.clearing page)

abbrev pub state_with : {C : Type 0} → Option ReportToken → State C → List ℕ → State C
state_with None s page = s
state_with (Some t) s page = publish_after s t.house t.clearing page

abbrev pub page_with : {C : Type 0} → Option ReportToken → State C → List ℕ → List ℕ
page_with None s page = page
page_with (Some t) s page = publish_page s t.house t.clearing page

-- what there is once the token is spent, and what there is while it is not
abbrev pub if_spent : {C A : Type 0} → Option ReportToken → State C → List ℕ → A → A → A
if_spent None s page spent kept = kept
if_spent (Some t) s page spent kept = left_by (publish_answer s t.house t.clearing page) spent kept

abbrev pub publishing : {C : Type 0} → Option ReportToken → State C → List ℕ → List (Event C)
publishing None s page = []
publishing (Some t) s page = did.publish t.house t.clearing page (publish_answer s t.house t.clearing page) ∷ []

-- A report that is published is owed no more, so its own token is not in hand any longer. Where another
-- token with the same two numbers was spent for it, the own one takes that token's place.
abbrev pub published_desk : {C : Type 0} → Option ReportToken → List (Option ReportToken) → Desk C → Desk C
published_desk brought others' d = desk (state_with brought d.state d.page) (if_spent brought d.state d.page None d.own) (if_spent brought d.state d.page others' d.others) (page_with brought d.state d.page)

abbrev pub token_at : List (Option ReportToken) → ℕ → Option ReportToken
token_at others place = slice_index_or others place None

module _ {C : Type 0} (m : Meaning C) where
  -- the token of a clearing comes into hand
  abbrev pub own_after_clear : State C → List Fill → List Weight → Option ReportToken → Option ReportToken
  own_after_clear s fills ws own = left_by (clear_answer m s fills ws) (Some (record { house = s.number; clearing = s.latest.clearing + 1; spent = false })) own

  -- what a call answers
  abbrev pub answer_to : Call C → Desk C → Answer
  answer_to (Deposit n amount) d = told.Done (deposit_answer d.state n amount)
  answer_to (Withdraw n amount) d = told.Done (withdraw_answer m d.state n amount)
  answer_to (Fund amount) d = told.Done (fund_answer d.state amount)
  answer_to (Take amount) d = told.Done (take_answer d.state amount)
  answer_to (Enter n side c price lots) d = told.Entered (enter_answer m d.state n side c price lots)
  answer_to (Cancel n order) d = told.Done (cancel_answer d.state n order)
  answer_to (Clear fills ws) d = told.Cleared (clear_answer m d.state fills.now ws.now)
  answer_to Publish d = told_with d.own d.state d.page
  answer_to (PublishOther place) d = told_with (token_at d.others place) d.state d.page
  answer_to (Settle price) d = told.Done (settle_answer d.state price)
  answer_to (Account n) d = told.Account (account_answer m d.state n)
  answer_to House d = told.House (house_answer d.state)

  -- what an auditor notes of it; a publish without a token is no call
  abbrev pub noted : Call C → Desk C → List (Event C)
  noted (Deposit n amount) d = did.deposit n amount (deposit_answer d.state n amount) ∷ []
  noted (Withdraw n amount) d = did.withdraw n amount (withdraw_answer m d.state n amount) ∷ []
  noted (Fund amount) d = did.fund amount (fund_answer d.state amount) ∷ []
  noted (Take amount) d = did.take amount (take_answer d.state amount) ∷ []
  noted (Enter n side c price lots) d = did.enter n side c price lots (enter_answer m d.state n side c price lots) ∷ []
  noted (Cancel n order) d = did.cancel n order (cancel_answer d.state n order) ∷ []
  noted (Clear fills ws) d = did.clear fills.now ws.now (clear_answer m d.state fills.now ws.now) ∷ []
  noted Publish d = publishing d.own d.state d.page
  noted (PublishOther place) d = publishing (token_at d.others place) d.state d.page
  noted (Settle price) d = did.settle price (settle_answer d.state price) ∷ []
  noted (Account n) d = did.account n (account_answer m d.state n) ∷ []
  noted House d = did.house (house_answer d.state) ∷ []

  -- what it leaves; only the row of a new order is left free
  abbrev pub Leaves : Call C → Desk C → Desk C → Type 0
  Leaves (Deposit n amount) d d' = d' ≡ with_state d (deposit_after d.state n amount)
  Leaves (Withdraw n amount) d d' = d' ≡ with_state d (withdraw_after m d.state n amount)
  Leaves (Fund amount) d d' = d' ≡ with_state d (fund_after d.state amount)
  Leaves (Take amount) d d' = d' ≡ with_state d (take_after d.state amount)
  Leaves (Enter n side c price lots) d d' = Entered m d.state d'.state n side c price lots (enter_answer m d.state n side c price lots) × (d' ≡ with_state d d'.state)
  Leaves (Cancel n order) d d' = d' ≡ with_state d (cancel_after d.state n order)
  Leaves (Clear fills ws) d d' = d' ≡ desk (clear_after m d.state fills.now ws.now) (own_after_clear d.state fills.now ws.now d.own) d.others d.page
  Leaves Publish d d' = d' ≡ published_desk d.own d.others d
  Leaves (PublishOther place) d d' = d' ≡ published_desk (token_at d.others place) (slice_set d.others place d.own) d
  Leaves (Settle price) d d' = d' ≡ with_state d (settle_after m d.state price)
  Leaves (Account n) d d' = d' ≡ d
  Leaves House d d' = d' ≡ d
