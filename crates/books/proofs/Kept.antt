-- The promise holds of every run: each call is a step from a secured house to a secured house. Assumes nothing.
use Rattle.std.proofs.Common.{◌≡◌, ℕ, ◌-◌, not, ltb, List, [], ◌∷◌, length, pos, ◌+ℤ◌, Ok, Err, refl, ◌∙◌, subst, arith}
use Rattle.std.proofs.lemmas.List.{get_or-replicate}
use Rattle.std.proofs.lemmas.Int.{ints}
use Rattle.instruments.specs.Bounds.{IsCeiling}
use Rattle.instruments.specs.Meaning.{Meaning}
use Rattle.instruments.specs.Rules.{Rules}
use Rattle.matching.specs.declared.rows.Row.{Row}
use Rattle.matching.specs.Rows.{house_rows, held}
use Rattle.matching.specs.Sums.{total}
use Rattle.books.specs.declared.refusals.Refusal.TheVariants.{Member, WrongToken, PageTooShort}
use Rattle.books.specs.Ledger.{Event, Ledger, entry, ledger}
use Rattle.books.specs.Ledger as did
use Rattle.books.specs.Money.{is_member, cash_of}
use Rattle.books.specs.Promise.{Solvent, Told, Holds, Kept, Promise, brought}
use Rattle.books.specs.Publishing.{publish_answer, publish_after, published, is_owed, report_text}
use Rattle.books.specs.Questions.{account_answer, house_answer}
use Rattle.books.specs.Refusals.{fails_if, left_by}
use Rattle.books.specs.Runs.{Run, new, deposit, withdraw, fund, take, enter, cancel, clear, publish, settle, account, house}
use Rattle.books.specs.State.{State, opened, all_cash}
use Rattle.books.proofs.ClearStep.{clear_step}
use Rattle.books.proofs.HouseRows.{alike-emptied}
use Rattle.books.proofs.MoneyMoved.{member-low, member-high}
use Rattle.books.proofs.MoneySteps.{deposit-step, withdraw-step, fund-step, take_step}
use Rattle.books.proofs.OrderSteps.{enter_step, cancel-step}
use Rattle.books.proofs.Passing.{answered}
use Rattle.books.proofs.SettleStep.{settle_step}
use Rattle.books.proofs.Secured.{Secured, Step, audited, unchanged, solvent}

module _ {C : Type 0} (m : Meaning C) (s : State C) (orders : List (Row C)) (secured : Secured m s orders) where
  published-secured : Secured m (published s) orders
  published-secured =
      record {
        ceiling = secured.ceiling;
        alike = secured.alike;
        count = secured.count;
        valid = secured.valid;
        owned = secured.owned;
        numbered = secured.numbered;
        backed = secured.backed;
        exposed = secured.exposed;
        reserved = secured.reserved;
        funded = secured.funded;
      }

  publish-step : (h k : ℕ) (page : List ℕ) → Step m (did.publish h k page (publish_answer s h k page)) s orders (publish_after s h k page)
  publish-step h k page =
      answered (λ a. Step m (did.publish h k page a) s orders (left_by a (published s) s))
      (fails_if (not (is_owed s h k)) WrongToken ∷ (fails_if (ltb (length page) (length (report_text s.latest))) PageTooShort ∷ []))
      (length (report_text s.latest))
      (λ r. unchanged m s orders secured (did.publish h k page (Err r)) refl refl tt)
      (λ passed. record { after = orders; same_top = refl; in_step = refl; secured = published-secured; conserved = omega (arith, ints); told = tt })

  account-step : (n : ℕ) → Step m (did.account n (account_answer m s n)) s orders s
  account-step n =
      answered (λ a. Step m (did.account n a) s orders s) (fails_if (not (is_member n)) Member ∷ [])
      (record { cash = cash_of s.members n; held = held m s.top (house_rows s.rows) n })
      (λ r. unchanged m s orders secured (did.account n (Err r)) refl refl tt)
      (λ passed. unchanged m s orders secured (did.account n (Ok (record { cash = cash_of s.members n; held = held m s.top (house_rows s.rows) n }))) refl refl refl)

  house-step : Step m (did.house (house_answer s)) s orders s
  house-step = unchanged m s orders secured (did.house (house_answer s)) refl refl refl

-- after the calls es: a secured house, the ledger of its accounts, and the promise kept so far
record Carried {C : Type 0} (m : Meaning C) (top : ℕ) (es : List (Event C)) (s : State C) : Type 0 where
  orders : List (Row C)
  same_top : s.top ≡ top
  same_ledger : ledger m top es ≡ audited s orders
  secured : Secured m s orders
  kept : Kept m top es

module _ {C : Type 0} (m : Meaning C) (rules : Rules m) where
  holds-last : (top : ℕ) (es : List (Event C)) → Kept m top es → Holds m top es
  holds-last top [] kept = kept
  holds-last top (e ∷ es) kept = kept.0

  opened-secured : (number top allowed : ℕ) → IsCeiling top → (rows : List (Row C)) → Secured m (opened number top allowed rows) []
  opened-secured number top allowed ceiling rows =
      record {
        ceiling = ceiling;
        alike = alike-emptied rows;
        count = refl;
        valid = tt;
        owned = tt;
        numbered = tt;
        backed = λ n one. let low = member-low n one in let high = member-high n one in omega (arith, ints, get_or-replicate 64 (n - 1) (pos 0) (pos 0) (omega arith));
        exposed = λ price under. omega (arith, ints);
        reserved = omega (arith, ints);
        funded = omega (arith, ints);
      }

  module _ (top : ℕ) where
    -- what a step shows of the house's ceiling and accounts, said of the ledger
    carry : (es : List (Event C)) (e : Event C) (s s' : State C) (c : Carried m top es s) → Step m e s c.orders s' → Carried m top (e ∷ es) s'
    carry es e s s' c step =
        let at_top = c.same_top in
        let in_step : ledger m top (e ∷ es) ≡ audited s' step.after = rw c.same_ledger (subst (λ t. entry m t e (audited s c.orders) ≡ audited s' step.after) at_top step.in_step) in
        let before : all_cash s ≡ total brought es = subst (λ (l : Ledger C). (total (λ z. z) l.members +ℤ l.cash) ≡ total brought es) c.same_ledger (holds-last top es c.kept).conserved in
        let conserved : all_cash s' ≡ total brought (e ∷ es) = omega (arith, ints, step.conserved, before) in
        let is-solvent : Solvent m top (audited s' step.after) = subst (λ t. Solvent m t (audited s' step.after)) (step.same_top ∙ at_top) (solvent m s' step.after step.secured rules) in
        let told : Told m top e (ledger m top es) = rw c.same_ledger (subst (λ t. Told m t e (audited s c.orders)) at_top step.told) in
        let holds : Holds m top (e ∷ es) = record { solvent = rw in_step is-solvent; conserved = rw in_step conserved } in
        record { orders = step.after; same_top = step.same_top ∙ at_top; same_ledger = in_step; secured = step.secured; kept = (holds, told, c.kept) }

    module _ (number allowed : ℕ) (ceiling : IsCeiling top) (rows : List (Row C)) where
      carried : {es : List (Event C)} {s : State C} → Run m number top allowed rows es s → Carried m top es s
      carried new =
          let start = opened number top allowed rows in
          let secured = opened-secured number top allowed ceiling rows in
          record { orders = []; same_top = refl; same_ledger = refl; secured = secured; kept = record { solvent = solvent m start [] secured rules; conserved = refl } }
      carried (deposit {es} {s} n amount run) = let c = carried run in carry es _ s _ c (deposit-step m s c.orders c.secured n amount)
      carried (withdraw {es} {s} n amount run) = let c = carried run in carry es _ s _ c (withdraw-step m s c.orders c.secured n amount)
      carried (fund {es} {s} amount run) = let c = carried run in carry es _ s _ c (fund-step m s c.orders c.secured amount)
      carried (take {es} {s} amount run) = let c = carried run in carry es _ s _ c (take_step m s c.orders c.secured amount)
      carried (enter {es} {s} n side c price lots s' entered run) = let d = carried run in carry es _ s s' d (enter_step m s d.orders d.secured n side c price lots s' entered)
      carried (cancel {es} {s} n order run) = let c = carried run in carry es _ s _ c (cancel-step m s c.orders c.secured n order)
      carried (clear {es} {s} fills ws run) = let c = carried run in carry es _ s _ c (clear_step m s c.orders c.secured fills ws)
      carried (publish {es} {s} h k page run) = let c = carried run in carry es _ s _ c (publish-step m s c.orders c.secured h k page)
      carried (settle {es} {s} price run) = let c = carried run in carry es _ s _ c (settle_step m s c.orders c.secured price rules)
      carried (account {es} {s} n run) = let c = carried run in carry es _ s s c (account-step m s c.orders c.secured n)
      carried (house {es} {s} run) = let c = carried run in carry es _ s s c (house-step m s c.orders c.secured)

pub promise : {C : Type 0} (m : Meaning C) → Rules m → Promise m
promise m rules number top allowed ceiling rows es s run = (carried m rules top number allowed ceiling rows run).kept
