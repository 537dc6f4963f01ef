-- enter and cancel keep a house secured. Assumes nothing.
use Rattle.std.proofs.Common.{◌≡◌, ℕ, ◌+◌, ◌<◌, ◌≤◌, true, not, ltb, leb, List, [], ◌∷◌, map, pos, ◌≤ℤ◌, Ok, Err, refl, subst, ⊎_elim, arith}
use Rattle.std.specs.List.{AllByRecursion, list_any}
use Rattle.std.proofs.ByRecursion.{All-weaker}
use Rattle.std.proofs.lemmas.Int.{ints}
use Rattle.std.proofs.lemmas.Bool.{not-false, cases_eq, eq-eqb}
use Rattle.std.proofs.lemmas.Bool.Decides.{nat_tests}
use Rattle.instruments.specs.Meaning.{Meaning}
use Rattle.instruments.specs.Rules.{Valid}
use Rattle.matching.specs.declared.rows.Row.{Row}
use Rattle.matching.specs.declared.rows.Side.{Side}
use Rattle.matching.specs.declared.rows.Side.TheVariants.{Buy, Sell}
use Rattle.matching.specs.Rows.{house_rows, hold, held, held_in_row}
use Rattle.books.specs.declared.refusals.Refusal.TheVariants.{Member, LimitPrice, Lots, Closed, FreeCash, RowsFull, NotStanding, NumbersUsedUp}
use Rattle.books.specs.Calls.{enter_answer, Entered, TakesRow, entered_at, new_order, new_hold, free_cash, all_used, max_price, max_number, is_lots, cancel_answer, cancel_after, cancelled, own_standing, with_rows, short_of}
use Rattle.books.specs.Ledger as did
use Rattle.books.specs.Money.{is_member, cash_of}
use Rattle.books.specs.Refusals.{fails_if, contract_test, left_by}
use Rattle.books.specs.State.{State, over_house}
use Rattle.books.proofs.Alike.{held-alike, alike-map, alike_set, signed-none}
use Rattle.books.proofs.Cancelling.{cancelled-unused, all-cancelled, held-cancelled, exposure-cancelled}
use Rattle.books.proofs.HouseRows.{house-over, house-set}
use Rattle.books.proofs.Passing.{answered, not-failed, at_least, contract-passed}
use Rattle.books.proofs.Secured.{Secured, Step, unchanged}

new-held : {C : Type 0} (m : Meaning C) (top number n : ℕ) (side : Side) (c : C) (price lots : ℕ) → hold m top (new_order number n side c price lots) side ≡ new_hold m top side c price lots
new-held m top number n Buy c price lots = refl
new-held m top number n Sell c price lots = omega arith

module _ {C : Type 0} (m : Meaning C) (s : State C) (orders : List (Row C)) (secured : Secured m s orders) where
  module _ (n : ℕ) (side : Side) (c : C) (price lots : ℕ) (one : is_member n ≡ true) (valid : Valid m s.top c) (enough : pos (new_hold m s.top side c price lots) ≤ℤ free_cash m s n) where
    abbrev order : Row C
    order = new_order (s.orders + 1) n side c price lots

    -- the free cash of its member backs the new order
    backed-more : (k : ℕ) → is_member k ≡ true → held m s.top (order ∷ orders) k ≤ℤ cash_of s.members k
    backed-more k other =
        let hold-is = new-held m s.top (s.orders + 1) n side c price lots in
        ⊎_elim
        (λ (e : n ≡ k).
        let own : held_in_row m s.top n order ≡ pos (new_hold m s.top side c price lots) = rw (eq-eqb n n refl, hold-is) in
        let here : held m s.top (order ∷ orders) n ≤ℤ cash_of s.members n = omega (arith, ints, own, enough, held-alike m s.top (house_rows s.rows) orders secured.alike n) in
        subst (λ j. held m s.top (order ∷ orders) j ≤ℤ cash_of s.members j) e here)
        (λ (e : n ≡ k → ⊥).
        let none : held_in_row m s.top k order ≡ pos 0 = grind (arith, nat_tests) in
        omega (arith, ints, secured.backed k other))
        (cases_eq n k)

    entered-secured : (s' : State C) (k : ℕ) → TakesRow s s' k n side c price lots → Secured m (entered_at s k n side c price lots) (order ∷ orders)
    entered-secured s' k takes =
        record {
          ceiling = secured.ceiling;
          alike = rw (house-set s.rows k order) (alike_set (house_rows s.rows) orders k order secured.alike takes.within (takes.unused order));
          count = secured.count;
          valid = (valid, secured.valid);
          owned = (one, secured.owned);
          numbered = (omega arith, All-weaker (λ r. r.order ≤ s.orders) (λ r. r.order ≤ s.orders + 1) (λ r low. omega arith) orders secured.numbered);
          backed = backed-more;
          exposed = λ at under. omega (arith, ints, signed-none side (m.payoff s.top c at) 0 refl, secured.exposed at under);
          reserved = secured.reserved;
          funded = secured.funded;
        }

    entered-step : (s' : State C) (k : ℕ) → TakesRow s s' k n side c price lots → Step m (did.enter n side c price lots (Ok (s.orders + 1))) s orders s'
    entered-step s' k takes =
        rw takes.after (record {
          after = order ∷ orders;
          same_top = refl;
          in_step = refl;
          secured = entered-secured s' k takes;
          conserved = omega (arith, ints);
          told = tt;
        })

  -- a new order's number is above all of the ledger's
  pub entered-above : AllByRecursion (λ r. r.order < s.orders + 1) orders
  entered-above = All-weaker (λ r. r.order ≤ s.orders) (λ r. r.order < s.orders + 1) (λ r low. omega arith) orders secured.numbered

  pub enter_step : (n : ℕ) (side : Side) (c : C) (price lots : ℕ) (s' : State C) → Entered m s s' n side c price lots (enter_answer m s n side c price lots) → Step m (did.enter n side c price lots (enter_answer m s n side c price lots)) s orders s'
  enter_step n side c price lots s' =
      answered (λ a. Entered m s s' n side c price lots a → Step m (did.enter n side c price lots a) s orders s')
      (fails_if (not (is_member n)) Member ∷
      (contract_test (m.check s.top c) ∷
      (fails_if (ltb max_price price) LimitPrice ∷
      (fails_if (not (is_lots lots)) Lots ∷
      (fails_if s.closed Closed ∷
      (fails_if (short_of m s n (new_hold m s.top side c price lots)) FreeCash ∷
      (fails_if (all_used (house_rows s.rows)) RowsFull ∷
      (fails_if (leb max_number s.orders) NumbersUsedUp ∷ []))))))))
      (s.orders + 1)
      (λ r same. rw same (unchanged m s orders secured (did.enter n side c price lots (Err r)) refl refl tt))
      (λ passed entered.
      let one = not-false (is_member n) (not-failed (not (is_member n)) Member passed.0) in
      let enough = at_least (free_cash m s n) (pos (new_hold m s.top side c price lots)) FreeCash passed.1.1.1.1.1.0 in
      entered-step n side c price lots one (contract-passed (m.check s.top c) passed.1.0) enough s' entered.0 entered.1)

  cancelled-secured : (n number : ℕ) → Secured m (with_rows s s.orders (over_house (cancelled n number) s.rows)) (map (cancelled n number) orders)
  cancelled-secured n number =
      record {
        ceiling = secured.ceiling;
        alike = rw (house-over (cancelled n number) s.rows) (alike-map (cancelled n number) (cancelled-unused n number) (house_rows s.rows) orders secured.alike);
        count = secured.count;
        valid = all-cancelled n number (λ r. Valid m s.top r.contract) (λ r v. v) orders secured.valid;
        owned = all-cancelled n number (λ r. is_member r.member ≡ true) (λ r v. v) orders secured.owned;
        numbered = all-cancelled n number (λ r. r.order ≤ s.orders) (λ r v. v) orders secured.numbered;
        backed = λ k one. omega (arith, ints, held-cancelled n number m s.top k orders, secured.backed k one);
        exposed = λ at under. omega (arith, ints, exposure-cancelled n number m s.top orders at, secured.exposed at under);
        reserved = secured.reserved;
        funded = secured.funded;
      }

  pub cancel-step : (n number : ℕ) → Step m (did.cancel n number (cancel_answer s n number)) s orders (cancel_after s n number)
  cancel-step n number =
      answered (λ a. Step m (did.cancel n number a) s orders (left_by a (with_rows s s.orders (over_house (cancelled n number) s.rows)) s))
      (fails_if (not (is_member n)) Member ∷ (fails_if s.closed Closed ∷ (fails_if (not (list_any (own_standing n number) (house_rows s.rows))) (NotStanding number) ∷ []))) tt
      (λ r. unchanged m s orders secured (did.cancel n number (Err r)) refl refl tt)
      (λ passed.
      record {
        after = map (cancelled n number) orders;
        same_top = refl;
        in_step = refl;
        secured = cancelled-secured n number;
        conserved = omega (arith, ints);
        told = tt;
      })
