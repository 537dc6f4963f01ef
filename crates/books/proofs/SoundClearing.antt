-- A clearing and the settlement keep what every state of a house keeps. Assumes nothing.
use Rattle.std.proofs.Common.{◌≡◌, ℕ, ◌+◌, ◌-◌, ◌*◌, ◌^◌, ◌≤◌, true, false, leb, ◌⊎◌, List, [], ◌∷◌, length, ℤ, pos, ◌+ℤ◌, ◌-ℤ◌, neg_ℤ, Ok, ap, ◌∙◌, subst, inl, inr, ⊎_elim, mul-le-mul, arith, length-take}
use lib.Signed.{lt_z}
use Rattle.std.proofs.ByRecursion.{All-weaker}
use Rattle.std.proofs.lemmas.Int.{ints}
use Rattle.std.proofs.lemmas.Bool.{and_parts, and_from, cases_Bool, le-leb}
use Rattle.std.proofs.lemmas.Bool.Decides.{nat_tests}
use Rattle.std.specs.List.{AllByRecursion, list_all}
use Rattle.instruments.specs.Meaning.{Meaning}
use Rattle.matching.specs.declared.proposals.Fill.{Fill}
use Rattle.matching.specs.declared.rows.Row.{Row}
use Rattle.matching.specs.declared.rows.Side.{Side}
use Rattle.matching.specs.declared.rows.Side.TheVariants.{Buy, Sell}
use Rattle.matching.specs.Figures.{row_cash, row_owed, cash_now, filled_lots, exposure}
use Rattle.matching.specs.Fills.{given, orders_verdict}
use Rattle.matching.specs.Rows.{house_rows, used, signed}
use Rattle.matching.specs.Sums.{Small}
use Rattle.matching.proofs.Running.{small-sum, small-more}
use Rattle.books.specs.declared.answers.Cleared.{Cleared}
use Rattle.books.specs.Calls.{max_lots, max_number, max_price}
use Rattle.books.specs.Clearing.{booked, bookable, booked_with}
use Rattle.books.specs.Money.{is_member, moved, share, at_least}
use Rattle.books.specs.Refusals.{orders_test}
use Rattle.books.specs.Settling.{paid_out, settled}
use Rattle.books.specs.Sound.{Sound, floor, row_fine}
use Rattle.books.specs.State.{State, with_lots}
use Rattle.books.proofs.Alike.{no-filled, given-none, cash-skips, owed-skips}
use Rattle.books.proofs.Balances.{Owned, total-paid, total-debited, debited-low}
use Rattle.books.proofs.MoneyMoved.{length_moved}
use Rattle.books.proofs.Proposed.{fills-within}
use Rattle.books.proofs.Soundness.{total-from, rows-over, rows-emptied, all-high, each-fine, reserve-within}
use Rattle.books.proofs.Within.{every_from_all, leZ-true, true-leZ, not-below, above-none, within-from, small-none}

all_both : {A : Type 0} (P Q : A → Type 0) (xs : List A) → AllByRecursion P xs → AllByRecursion Q xs → AllByRecursion (λ x. P x × Q x) xs
all_both P Q [] p q = tt
all_both P Q (x ∷ xs) p q = ((p.0, q.0), all_both P Q xs p.1 q.1)

signed-small : (side : Side) (n b : ℕ) → n ≤ b → Small b (signed side n)
signed-small Buy n b few = record { low = omega (arith, ints); high = omega (arith, ints) }
signed-small Sell n b few = record { low = omega (arith, ints); high = omega (arith, ints) }

module _ {C : Type 0} where
  -- a row is a member's, or has no lots
  owned-or : (r : Row C) → row_fine r ≡ true → (is_member r.member ≡ true) ⊎ (used r ≡ false)
  owned-or r e = grind (arith, nat_tests)

  booked-lots : (g : ℕ) (r : Row C) → row_fine r ≡ true → g ≤ r.«open» → row_fine (with_lots r (r.«open» - g) (r.filled + g)) ≡ true
  booked-lots g r e few = grind (arith, nat_tests)

  -- at most 1,000 lots at a price of at most 1,000,000
  priced : (r : Row C) (g : ℕ) → row_fine r ≡ true → used r ≡ true → g ≤ r.«open» → r.price * g ≤ max_price * max_lots
  priced r g e is few =
      let low : r.price ≤ max_price = grind (arith, nat_tests) in
      let most : g ≤ max_lots = grind (arith, nat_tests) in
      mul-le-mul low most

  module _ (fills : List Fill) where
    abbrev pub Fillable : Row C → Type 0
    Fillable r = (row_fine r ≡ true) × (given fills r ≤ r.«open»)

    fillable-bookable : (r : Row C) → Fillable r → bookable fills r ≡ true
    fillable-bookable r ok = and_from (leb (given fills r) r.«open») (leb (r.«open» + r.filled) max_lots) (le-leb (given fills r) r.«open» ok.1) (and_parts (leb (r.«open» + r.filled) max_lots) _ ok.0).0

    booked-fine : (r : Row C) → Fillable r → row_fine (booked fills r) ≡ true
    booked-fine r ok = booked-lots (given fills r) r ok.0 ok.1

    pub cash-owned : (r : Row C) → Fillable r → Owned (row_cash (given fills)) r
    cash-owned r ok = ⊎_elim inl (λ unused. inr (cash-skips (given fills) (given-none fills) r unused)) (owned-or r ok.0)

    cash-small : (r : Row C) → Fillable r → Small (2 ^ 48) (row_cash (given fills) r)
    cash-small r ok =
        ⊎_elim
        (λ (is : used r ≡ true). signed-small r.side (r.price * given fills r) (2 ^ 48) (omega (arith, priced r (given fills r) ok.0 is ok.1)))
        (λ (unused : used r ≡ false). rw (cash-skips (given fills) (given-none fills) r unused) (small-none (2 ^ 48)))
        (cases_Bool (used r))

  owed-owned : (m : Meaning C) (top price : ℕ) (r : Row C) → row_fine r ≡ true → Owned (row_owed m top filled_lots price) r
  owed-owned m top price r e = ⊎_elim inl (λ unused. inr (owed-skips m top filled_lots price no-filled r unused)) (owned-or r e)

  module _ {s : State C} (ok : Sound s) where
    module _ (fills : List Fill) (passed : orders_verdict (house_rows s.rows) fills ≡ Ok tt) where
      pub rows-fillable : AllByRecursion (Fillable fills) (house_rows s.rows)
      rows-fillable = all_both (λ r. row_fine r ≡ true) (λ r. given fills r ≤ r.«open») (house_rows s.rows) (each-fine ok) (fills-within fills (house_rows s.rows) (ap orders_test passed))

      pub bookable-from : list_all (bookable fills) (house_rows s.rows) ≡ true
      bookable-from = every_from_all (bookable fills) (house_rows s.rows) (All-weaker (Fillable fills) (λ r. bookable fills r ≡ true) (fillable-bookable fills) (house_rows s.rows) rows-fillable)

      pub sound-booked : (cash : ℤ) (a : Cleared) → cash ≡ cash_now (house_rows s.rows) (given fills) → lt_z (s.cash +ℤ cash) (pos 0) ≡ false → Small (257 * 2 ^ 96) a.reserve → a.clearing ≡ s.latest.clearing + 1 → a.clearing ≤ max_number → Sound (booked_with s fills cash a)
      sound-booked cash a taken enough most next number =
          let rows = house_rows s.rows in
          let flow : Row C → ℤ = row_cash (given fills) in
          let paid : ℕ → ℤ = λ n. neg_ℤ (share flow rows n) in
          let now : ℤ = s.cash +ℤ cash in
          let each : (P : Row C → Type 0) → ((r : Row C) → Fillable fills r → P r) → AllByRecursion P rows = λ P step. All-weaker (Fillable fills) P step rows rows-fillable in
          let few : length rows ≤ 256 = omega (arith, length-take 256 s.rows) in
          let lower : floor s + 256 * 2 ^ 48 ≡ floor (booked_with s fills cash a) = omega arith in
          record {
            sized = length_moved paid s.members ∙ ok.sized;
            rows = rows-over (booked fills) s.rows (each (λ r. row_fine (booked fills r) ≡ true) (booked-fine fills));
            members = subst (λ (b : ℕ). list_all (at_least b) (moved paid s.members) ≡ true) lower (debited-low flow (2 ^ 48) 256 (floor s) rows (each (λ r. Small (2 ^ 48) (flow r)) (cash-small fills)) few s.members ok.members);
            cash = above-none (floor (booked_with s fills cash a)) now (not-below now (pos 0) enough);
            all = total-from (moved paid s.members) now (omega (arith, ints, all-high ok, total-debited flow rows (each (Owned flow) (cash-owned fills)) s.members ok.sized));
            reserve =
                within-from (a.clearing * 2 ^ 105) (s.reserve +ℤ a.reserve)
                (small-more (s.latest.clearing * 2 ^ 105 + 257 * 2 ^ 96) (a.clearing * 2 ^ 105) (s.reserve +ℤ a.reserve) (omega arith) (small-sum (s.latest.clearing * 2 ^ 105) (257 * 2 ^ 96) s.reserve a.reserve (reserve-within ok) most));
            numbers = let before = ok.numbers in grind (arith, nat_tests);
          }

    module _ (m : Meaning C) where
      pub sound-settled : (price : ℕ) → s.closed ≡ false → list_all (at_least (floor s + 2 ^ 56)) (moved (paid_out m s.top price (house_rows s.rows)) s.members) ≡ true → Small (2 ^ 56) (exposure m s.top (house_rows s.rows) price) → Sound (settled m s price)
      sound-settled price opened enough most =
          let rows = house_rows s.rows in
          let flow : Row C → ℤ = row_owed m s.top filled_lots price in
          let now : ℤ = s.cash -ℤ exposure m s.top rows price in
          let lower : floor s + 2 ^ 56 ≡ floor (settled m s price) = rw opened (omega arith) in
          record {
            sized = length_moved (paid_out m s.top price rows) s.members ∙ ok.sized;
            rows = rows-emptied s.rows;
            members = subst (λ (b : ℕ). list_all (at_least b) (moved (paid_out m s.top price rows) s.members) ≡ true) lower enough;
            cash = true-leZ (neg_ℤ (pos (floor (settled m s price)))) now (omega (arith, ints, leZ-true (neg_ℤ (pos (floor s))) s.cash ok.cash, lower, most.high));
            all = total-from (moved (paid_out m s.top price rows) s.members) now (omega (arith, ints, all-high ok, total-paid flow rows (All-weaker (λ r. row_fine r ≡ true) (Owned flow) (owed-owned m s.top price) rows (each-fine ok)) s.members ok.sized));
            reserve = within-from (s.latest.clearing * 2 ^ 105) (pos 0) (small-none (s.latest.clearing * 2 ^ 105));
            numbers = ok.numbers;
          }
