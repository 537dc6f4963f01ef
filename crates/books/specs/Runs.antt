-- The runs of a house: from a new one on, any calls in any number and order, each answering and leaving
-- what its definition says. Assumes nothing.
use Rattle.std.specs.Prelude.{ℕ, List, [], ◌∷◌}
use Rattle.instruments.specs.Meaning.{Meaning}
use Rattle.matching.specs.declared.proposals.Fill.{Fill}
use Rattle.matching.specs.declared.proposals.Weight.{Weight}
use Rattle.matching.specs.declared.rows.Row.{Row}
use Rattle.matching.specs.declared.rows.Side.{Side}
use Rattle.books.specs.Calls.{deposit_answer, deposit_after, withdraw_answer, withdraw_after, fund_answer, fund_after, take_answer, take_after, enter_answer, Entered, cancel_answer, cancel_after}
use Rattle.books.specs.Clearing.{clear_answer, clear_after}
use Rattle.books.specs.Ledger.{Event}
use Rattle.books.specs.Ledger as did
use Rattle.books.specs.Publishing.{publish_answer, publish_after}
use Rattle.books.specs.Questions.{account_answer, house_answer}
use Rattle.books.specs.Settling.{settle_answer, settle_after}
use Rattle.books.specs.State.{State, opened}

-- Run .. es s: the calls es, the latest first, led from a new house to the state s. A publish may bring
-- any token, of this house or of another.
pub data Run {C : Type 0} (m : Meaning C) (number top allowed : ℕ) (rows : List (Row C)) : List (Event C) → State C → Type 0 where
  new : Run m number top allowed rows [] (opened number top allowed rows)
  deposit : {es : List (Event C)} {s : State C} (n amount : ℕ) → Run m number top allowed rows es s → Run m number top allowed rows (did.deposit n amount (deposit_answer s n amount) ∷ es) (deposit_after s n amount)
  withdraw : {es : List (Event C)} {s : State C} (n amount : ℕ) → Run m number top allowed rows es s → Run m number top allowed rows (did.withdraw n amount (withdraw_answer m s n amount) ∷ es) (withdraw_after m s n amount)
  fund : {es : List (Event C)} {s : State C} (amount : ℕ) → Run m number top allowed rows es s → Run m number top allowed rows (did.fund amount (fund_answer s amount) ∷ es) (fund_after s amount)
  take : {es : List (Event C)} {s : State C} (amount : ℕ) → Run m number top allowed rows es s → Run m number top allowed rows (did.take amount (take_answer s amount) ∷ es) (take_after s amount)
  enter : {es : List (Event C)} {s : State C} (n : ℕ) (side : Side) (c : C) (price lots : ℕ) (s' : State C) → Entered m s s' n side c price lots (enter_answer m s n side c price lots) → Run m number top allowed rows es s → Run m number top allowed rows (did.enter n side c price lots (enter_answer m s n side c price lots) ∷ es) s'
  cancel : {es : List (Event C)} {s : State C} (n order : ℕ) → Run m number top allowed rows es s → Run m number top allowed rows (did.cancel n order (cancel_answer s n order) ∷ es) (cancel_after s n order)
  clear : {es : List (Event C)} {s : State C} (fills : List Fill) (ws : List Weight) → Run m number top allowed rows es s → Run m number top allowed rows (did.clear fills ws (clear_answer m s fills ws) ∷ es) (clear_after m s fills ws)
  publish : {es : List (Event C)} {s : State C} (house clearing : ℕ) (page : List ℕ) → Run m number top allowed rows es s → Run m number top allowed rows (did.publish house clearing page (publish_answer s house clearing page) ∷ es) (publish_after s house clearing page)
  settle : {es : List (Event C)} {s : State C} (price : ℕ) → Run m number top allowed rows es s → Run m number top allowed rows (did.settle price (settle_answer s price) ∷ es) (settle_after m s price)
  account : {es : List (Event C)} {s : State C} (n : ℕ) → Run m number top allowed rows es s → Run m number top allowed rows (did.account n (account_answer m s n) ∷ es) s
  house : {es : List (Event C)} {s : State C} → Run m number top allowed rows es s → Run m number top allowed rows (did.house (house_answer s) ∷ es) s
