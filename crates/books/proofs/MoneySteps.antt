-- deposit, withdraw, fund and take keep a house secured. Assumes nothing.
use Rattle.std.proofs.Common.{◌≡◌, ℕ, true, not, List, [], ◌∷◌, ℤ, pos, ◌+ℤ◌, ◌-ℤ◌, neg_ℤ, ◌≤ℤ◌, Err, refl, ◌∙◌, arith}
use Rattle.std.proofs.lemmas.Int.{ints, clamps}
use Rattle.std.proofs.lemmas.Bool.{not-false}
use Rattle.std.specs.Int.{int_max}
use Rattle.instruments.specs.Meaning.{Meaning}
use Rattle.matching.specs.declared.rows.Row.{Row}
use Rattle.matching.specs.Rows.{house_rows, held}
use Rattle.books.specs.declared.refusals.Refusal.TheVariants.{Member, Amount, Closed, FreeCash, TotalCash, HouseShort}
use Rattle.books.specs.Calls.{deposit_answer, deposit_after, withdraw_answer, withdraw_after, fund_answer, fund_after, take_answer, take_after, with_members, with_cash, free_cash, is_amount, too_much, short_of, house_short_of}
use Rattle.books.specs.Ledger as did
use Rattle.books.specs.Money.{is_member, cash_of, credited}
use Rattle.books.specs.Refusals.{fails_if, left_by}
use Rattle.books.specs.State.{State}
use Rattle.books.proofs.Alike.{held-alike}
use Rattle.books.proofs.MoneyMoved.{length-credited, credited-covers, total-credited}
use Rattle.books.proofs.Passing.{answered, not-failed, at_least}
use Rattle.books.proofs.Secured.{Secured, Step, unchanged}

module _ {C : Type 0} (m : Meaning C) (s : State C) (orders : List (Row C)) (secured : Secured m s orders) where
  -- one member credited, by more or less than 0, so that its orders are still backed
  credited-secured : (n : ℕ) (z : ℤ) → is_member n ≡ true → held m s.top orders n ≤ℤ (cash_of s.members n +ℤ z) → Secured m (with_members s (credited s.members n z)) orders
  credited-secured n z one enough =
      record {
        ceiling = secured.ceiling;
        alike = secured.alike;
        count = length-credited s.members n z ∙ secured.count;
        valid = secured.valid;
        owned = secured.owned;
        numbered = secured.numbered;
        backed = credited-covers (held m s.top orders) s.members n z secured.count one secured.backed enough;
        exposed = secured.exposed;
        reserved = secured.reserved;
        funded = secured.funded;
      }

  cash-secured : (z : ℤ) → s.reserve ≤ℤ z → pos 0 ≤ℤ z → Secured m (with_cash s z) orders
  cash-secured z enough some =
      record {
        ceiling = secured.ceiling;
        alike = secured.alike;
        count = secured.count;
        valid = secured.valid;
        owned = secured.owned;
        numbered = secured.numbered;
        backed = secured.backed;
        exposed = secured.exposed;
        reserved = enough;
        funded = some;
      }

  pub deposit-step : (n amount : ℕ) → Step m (did.deposit n amount (deposit_answer s n amount)) s orders (deposit_after s n amount)
  deposit-step n amount =
      answered (λ a. Step m (did.deposit n amount a) s orders (left_by a (with_members s (credited s.members n (pos amount))) s))
      (fails_if (not (is_member n)) Member ∷ (fails_if (not (is_amount amount)) Amount ∷ (fails_if s.closed Closed ∷ (fails_if (too_much s amount) TotalCash ∷ [])))) tt
      (λ r. unchanged m s orders secured (did.deposit n amount (Err r)) refl refl tt)
      (λ passed.
      let one = not-false (is_member n) (not-failed (not (is_member n)) Member passed.0) in
      record {
        after = orders;
        same_top = refl;
        in_step = refl;
        secured = credited-secured n (pos amount) one (omega (arith, ints, secured.backed n one));
        conserved = omega (arith, ints, total-credited s.members n (pos amount) secured.count one);
        told = tt;
      })

  pub withdraw-step : (n amount : ℕ) → Step m (did.withdraw n amount (withdraw_answer m s n amount)) s orders (withdraw_after m s n amount)
  withdraw-step n amount =
      answered (λ a. Step m (did.withdraw n amount a) s orders (left_by a (with_members s (credited s.members n (neg_ℤ (pos amount)))) s))
      (fails_if (not (is_member n)) Member ∷ (fails_if (not (is_amount amount)) Amount ∷ (fails_if (short_of m s n amount) FreeCash ∷ []))) tt
      (λ r. unchanged m s orders secured (did.withdraw n amount (Err r)) refl refl tt)
      (λ passed.
      let one = not-false (is_member n) (not-failed (not (is_member n)) Member passed.0) in
      let free = at_least (free_cash m s n) (pos amount) FreeCash passed.1.1.0 in
      record {
        after = orders;
        same_top = refl;
        in_step = refl;
        secured = credited-secured n (neg_ℤ (pos amount)) one (omega (arith, ints, free, held-alike m s.top (house_rows s.rows) orders secured.alike n));
        conserved = omega (arith, ints, total-credited s.members n (neg_ℤ (pos amount)) secured.count one);
        told = tt;
      })

  pub fund-step : (amount : ℕ) → Step m (did.fund amount (fund_answer s amount)) s orders (fund_after s amount)
  fund-step amount =
      answered (λ a. Step m (did.fund amount a) s orders (left_by a (with_cash s (s.cash +ℤ pos amount)) s))
      (fails_if (not (is_amount amount)) Amount ∷ (fails_if s.closed Closed ∷ (fails_if (too_much s amount) TotalCash ∷ []))) tt
      (λ r. unchanged m s orders secured (did.fund amount (Err r)) refl refl tt)
      (λ passed.
      record {
        after = orders;
        same_top = refl;
        in_step = refl;
        secured = cash-secured (s.cash +ℤ pos amount) (omega (arith, ints, secured.reserved)) (omega (arith, ints, secured.funded));
        conserved = omega (arith, ints);
        told = tt;
      })

  pub take_step : (amount : ℕ) → Step m (did.take amount (take_answer s amount)) s orders (take_after s amount)
  take_step amount =
      answered (λ a. Step m (did.take amount a) s orders (left_by a (with_cash s (s.cash -ℤ pos amount)) s))
      (fails_if (not (is_amount amount)) Amount ∷ (fails_if (house_short_of s amount) HouseShort ∷ [])) tt
      (λ r. unchanged m s orders secured (did.take amount (Err r)) refl refl tt)
      (λ passed.
      let spare = at_least (s.cash -ℤ int_max (pos 0) s.reserve) (pos amount) HouseShort passed.1.0 in
      record {
        after = orders;
        same_top = refl;
        in_step = refl;
        secured = cash-secured (s.cash -ℤ pos amount) (omega (arith, ints, clamps, spare)) (omega (arith, ints, clamps, spare));
        conserved = omega (arith, ints);
        told = tt;
      })
