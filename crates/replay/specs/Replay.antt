-- A whole list of calls, and the promise of it. Assumes nothing.
use Rattle.std.specs.Prelude.{◌≡◌, ℕ, List, [], ◌∷◌, ◌++◌, None, Ok, Err, Option, Result}
use Rattle.instruments.specs.Meaning.{Meaning}
use Rattle.matching.specs.declared.rows.Row.{Row}
use Rattle.books.specs.Ledger.{Event}
use Rattle.books.specs.Promise.{Kept}
use Rattle.books.specs.Runs.{Run}
use Rattle.books.specs.State.{State, opened}
use Rattle.house.specs.declared.token.ReportToken.{ReportToken}
use Rattle.replay.specs.declared.calls.Answer.{Answer}
use Rattle.replay.specs.declared.calls.Call.{Call}
use Rattle.replay.specs.Desk.{Desk, desk, answer_to, noted, Leaves}

-- Replay m d calls answers past d': the calls, in their order, were made from d on and led to d', each
-- answering as recorded; an auditor noted `past`, the latest first.
pub data Replay {C : Type 0} (m : Meaning C) (begun : Desk C) : List (Call C) → List Answer → List (Event C) → Desk C → Type 0 where
  none : Replay m begun [] [] [] begun
  next : {calls : List (Call C)} {answers : List Answer} {past : List (Event C)} {d : Desk C} (call : Call C) (d' : Desk C) → Leaves m call d d' → Replay m begun calls answers past d → Replay m begun (calls ++ (call ∷ [])) (answers ++ (answer_to m call d ∷ [])) (noted m call d ++ past) d'

-- a new house, with the tokens and the page that are lent
abbrev pub begun : {C : Type 0} → ℕ → ℕ → ℕ → List (Row C) → List (Option ReportToken) → List ℕ → Desk C
begun number top allowed rows others page = desk (opened number top allowed rows) None others page

-- What an auditor noted of the calls is a run of the house, and the promise is kept after each of them.
-- The caller's tokens and page are as the last call left them.
pub record Replayed {C : Type 0} (m : Meaning C) (number top allowed : ℕ) (calls : List (Call C)) (answers : List Answer) (rows : List (Row C)) (others others' : List (Option ReportToken)) (page page' : List ℕ) : Type 0 where
  pub past : List (Event C)
  pub state : State C
  pub own : Option ReportToken
  pub made : Replay m (begun number top allowed rows others page) calls answers past (desk state own others' page')
  pub run : Run m number top allowed rows past state
  pub kept : Kept m top past

-- where there was no memory for the answers, nothing is changed
abbrev pub Untouched : {A E C : Type 0} → Result A E → List (Row C) → List (Row C) → List (Option ReportToken) → List (Option ReportToken) → List ℕ → List ℕ → Type 0
Untouched (Ok a) rows rows' others others' page page' = Unit {0}
Untouched (Err e) rows rows' others others' page page' = (rows' ≡ rows) × (others' ≡ others) × (page' ≡ page)
