-- What an auditor notes of a list of calls is a run of the house. Assumes nothing.
use Rattle.std.proofs.Common.{◌≡◌, ℕ, List, [], ◌∷◌, ◌++◌, Some, None, Option, subst}
use Rattle.instruments.specs.Bounds.{IsCeiling}
use Rattle.instruments.specs.Meaning.{Meaning}
use Rattle.instruments.specs.Rules.{Rules}
use Rattle.matching.specs.declared.rows.Row.{Row}
use Rattle.books.specs.Ledger.{Event}
use Rattle.books.specs.Runs.{Run}
use Rattle.books.specs.Runs as run
use Rattle.books.specs.State.{State, opened}
use Rattle.books.proofs.Kept.{promise}
use Rattle.house.specs.declared.token.ReportToken.{ReportToken}
use Rattle.replay.specs.declared.calls.Answer.{Answer}
use Rattle.replay.specs.declared.calls.Call.{Call}
use Rattle.replay.specs.declared.calls.Call.TheVariants.{Deposit, Withdraw, Fund, Take, Enter, Cancel, Clear, Publish, PublishOther, Settle, Account, House}
use Rattle.replay.specs.Desk.{Desk, desk, answer_to, Leaves, noted, state_with, publishing, token_at}
use Rattle.replay.specs.Replay.{Replay, none, next, begun, Replayed}

module _ {C : Type 0} (m : Meaning C) (number top allowed : ℕ) (rows : List (Row C)) where
  abbrev Runs : List (Event C) → State C → Type 0
  Runs es s = Run m number top allowed rows es s

  publish-runs : (b : Option ReportToken) (es : List (Event C)) (s : State C) (page : List ℕ) → Runs es s → Runs (publishing b s page ++ es) (state_with b s page)
  publish-runs None es s page r = r
  publish-runs (Some t) es s page r = run.publish t.house t.clearing page r

  one_more : (call : Call C) (es : List (Event C)) (d d' : Desk C) → Leaves m call d d' → Runs es d.state → Runs (noted m call d ++ es) d'.state
  one_more (Deposit n amount) es d d' e r = rw e (run.deposit n amount r)
  one_more (Withdraw n amount) es d d' e r = rw e (run.withdraw n amount r)
  one_more (Fund amount) es d d' e r = rw e (run.fund amount r)
  one_more (Take amount) es d d' e r = rw e (run.take amount r)
  one_more (Enter n side c price lots) es d d' e r = run.enter n side c price lots d'.state e.0 r
  one_more (Cancel n order) es d d' e r = rw e (run.cancel n order r)
  one_more (Clear fills ws) es d d' e r = rw e (run.clear fills.now ws.now r)
  one_more Publish es d d' e r = rw e (publish-runs d.own es d.state d.page r)
  one_more (PublishOther place) es d d' e r = rw e (publish-runs (token_at d.others place) es d.state d.page r)
  one_more (Settle price) es d d' e r = rw e (run.settle price r)
  one_more (Account n) es d d' e r = rw e (run.account n r)
  one_more House es d d' e r = rw e (run.house r)

  pub replay-runs : (d₀ : Desk C) → Runs [] d₀.state → {calls : List (Call C)} {answers : List Answer} {past : List (Event C)} {d : Desk C} → Replay m d₀ calls answers past d → Runs past d.state
  replay-runs d₀ start none = start
  replay-runs d₀ start (next {past = past} {d = d} call d' leaves before) = one_more call past d d' leaves (replay-runs d₀ start before)

-- the calls that were made so far, whatever an auditor noted of them
pub record SoFar {C : Type 0} (m : Meaning C) (d₀ : Desk C) (calls : List (Call C)) (answers : List Answer) (d : Desk C) : Type 0 where
  pub past : List (Event C)
  pub made : Replay m d₀ calls answers past d

pub so-far-none : {C : Type 0} (m : Meaning C) (d₀ : Desk C) (answers : List Answer) → answers ≡ [] → SoFar m d₀ [] answers d₀
so-far-none m d₀ answers e = rw e (record { past = []; made = none })

pub so-far-next : {C : Type 0} (m : Meaning C) (d₀ d d' : Desk C) (calls calls' : List (Call C)) (answers answers' : List Answer) (call : Call C) (a : Answer) → SoFar m d₀ calls answers d → a ≡ answer_to m call d → Leaves m call d d' → calls' ≡ calls ++ (call ∷ []) → answers' ≡ answers ++ (a ∷ []) → SoFar m d₀ calls' answers' d'
so-far-next m d₀ d d' calls calls' answers answers' call a far e leaves f g = rw (f, g, e) (record { past = noted m call d ++ far.past; made = next call d' leaves far.made })

-- the whole list, from a new house on, with the promise
pub all_made : {C : Type 0} (m : Meaning C) → Rules m → (number top allowed : ℕ) → IsCeiling top → (calls : List (Call C)) (answers : List Answer) (rows : List (Row C)) (others others' : List (Option ReportToken)) (page page' : List ℕ) (s₀ s : State C) (own₀ own : Option ReportToken) → s₀ ≡ opened number top allowed rows → own₀ ≡ None → SoFar m (desk s₀ own₀ others page) calls answers (desk s own others' page') → Replayed m number top allowed calls answers rows others others' page page'
all_made {C} m rules number top allowed ceiling calls answers rows others others' page page' s₀ s own₀ own e f far =
    let start : desk s₀ own₀ others page ≡ begun number top allowed rows others page = rw (e, f) in
    let made : Replay m (begun number top allowed rows others page) calls answers far.past (desk s own others' page') = subst (λ (d₀ : Desk C). Replay m d₀ calls answers far.past (desk s own others' page')) start far.made in
    let runs = replay-runs m number top allowed rows (begun number top allowed rows others page) run.new made in
    record { past = far.past; state = s; own = own; made = made; run = runs; kept = promise m rules number top allowed ceiling rows far.past s runs }
