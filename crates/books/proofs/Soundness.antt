-- Each call but a clearing and the settlement keeps what every state of a house keeps. Assumes nothing.
use Rattle.std.proofs.Common.{◌≡◌, ℕ, ◌+◌, ◌-◌, ◌*◌, ◌^◌, ◌<◌, ◌≤◌, true, false, List, [], ◌∷◌, map, set, ℤ, pos, ◌+ℤ◌, ◌-ℤ◌, neg_ℤ, ◌≤ℤ◌, refl, ◌∙◌, arith}
use lib.Signed.{le_z}
use Rattle.std.proofs.ByRecursion.{All-map, All-weaker}
use Rattle.std.proofs.lemmas.Int.{ints, clamps}
use Rattle.std.proofs.lemmas.Bool.Decides.{nat_tests}
use Rattle.std.specs.Int.{int_max}
use Rattle.std.specs.List.{AllByRecursion, list_all}
use Rattle.instruments.specs.Meaning.{Meaning}
use Rattle.matching.specs.declared.rows.Row.{Row}
use Rattle.matching.specs.declared.rows.Side.{Side}
use Rattle.matching.specs.Rows.{house_rows, held, held_in_row}
use Rattle.matching.specs.Sums.{total, Small}
use Rattle.books.specs.Calls.{max_cash, max_number, max_price, is_lots, too_much, free_cash, with_members, with_cash, with_rows, new_order, entered_at, cancelled, short_of, house_short_of}
use Rattle.books.specs.Money.{is_member, cash_of, credited, at_least}
use Rattle.books.specs.Sound.{Sound, floor, row_fine}
use Rattle.books.specs.State.{State, all_cash, opened, over_house, emptied}
use Rattle.books.proofs.HouseRows.{house-over, house-set}
use Rattle.books.proofs.MoneyMoved.{length-credited, total-credited}
use Rattle.books.proofs.Sums.{total-not-below}
use Rattle.books.proofs.Within.{every-at, every_set, all_from_every, every_from_all, every-credited, leZ-true, true-leZ, not-below, above, above-none, small-from}

all-holds : {A : Type 0} (P : A → Type 0) → ((x : A) → P x) → (xs : List A) → AllByRecursion P xs
all-holds P each [] = tt
all-holds P each (x ∷ xs) = (each x, all-holds P each xs)

pub total-from : (members : List ℤ) (cash : ℤ) → (total (λ z. z) members +ℤ cash) ≤ℤ pos max_cash → le_z (total (λ z. z) members +ℤ cash) (pos max_cash) ≡ true
total-from members cash h = true-leZ (total (λ z. z) members +ℤ cash) (pos max_cash) h

module _ {C : Type 0} where
  -- ---- rows
  -- a change of each row of the house's
  pub rows-over : (f : Row C → Row C) (rows : List (Row C)) → AllByRecursion (λ r. row_fine (f r) ≡ true) (house_rows rows) → list_all row_fine (house_rows (over_house f rows)) ≡ true
  rows-over f rows each = rw (house-over f rows) (every_from_all row_fine (map f (house_rows rows)) (All-map (λ r. row_fine r ≡ true) f (house_rows rows) each))

  pub rows-emptied : (rows : List (Row C)) → list_all row_fine (house_rows (over_house emptied rows)) ≡ true
  rows-emptied rows = rows-over emptied rows (all-holds (λ r. row_fine (emptied r) ≡ true) (λ r. refl) (house_rows rows))

  new-fine : (number n : ℕ) (side : Side) (c : C) (price lots : ℕ) → is_member n ≡ true → price ≤ max_price → is_lots lots ≡ true → row_fine (new_order number n side c price lots) ≡ true
  new-fine number n side c price lots one low few = grind (arith, nat_tests)

  cancelled-fine : (n number : ℕ) (r : Row C) → row_fine r ≡ true → row_fine (cancelled n number r) ≡ true
  cancelled-fine n number r e = grind (arith, nat_tests)

  -- ---- the changes
  pub sound-opened : (number top allowed : ℕ) (rows : List (Row C)) → Sound (opened number top allowed rows)
  sound-opened number top allowed rows = record { sized = refl; rows = rows-emptied rows; members = refl; cash = refl; all = refl; reserve = refl; numbers = refl }

  module _ {s : State C} (ok : Sound s) where
    pub all-high : all_cash s ≤ℤ pos max_cash
    all-high = leZ-true (all_cash s) (pos max_cash) ok.all

    pub each-fine : AllByRecursion (λ r. row_fine r ≡ true) (house_rows s.rows)
    each-fine = all_from_every row_fine (house_rows s.rows) ok.rows

    member-above : (n : ℕ) → at_least (floor s) (cash_of s.members n) ≡ true
    member-above n = every-at (at_least (floor s)) (pos 0) (above-none (floor s) (pos 0) (omega (arith, ints))) s.members (n - 1) ok.members

    pub sound-deposited : (n amount : ℕ) → is_member n ≡ true → too_much s amount ≡ false → Sound (with_members s (credited s.members n (pos amount)))
    sound-deposited n amount one few = record {
      sized = length-credited s.members n (pos amount) ∙ ok.sized;
      rows = ok.rows;
      members = every-credited (at_least (floor s)) s.members n (pos amount) ok.members (above (floor s) (cash_of s.members n) (cash_of s.members n +ℤ pos amount) (member-above n) (omega (arith, ints)));
      cash = ok.cash;
      all = total-from (credited s.members n (pos amount)) s.cash (let more = total-credited s.members n (pos amount) ok.sized one in let under = not-below (pos max_cash) (all_cash s +ℤ pos amount) few in omega (arith, ints));
      reserve = ok.reserve;
      numbers = ok.numbers;
    }

    pub sound-funded : (amount : ℕ) → too_much s amount ≡ false → Sound (with_cash s (s.cash +ℤ pos amount))
    sound-funded amount few = record {
      sized = ok.sized;
      rows = ok.rows;
      members = ok.members;
      cash = above (floor s) s.cash (s.cash +ℤ pos amount) ok.cash (omega (arith, ints));
      all = total-from s.members (s.cash +ℤ pos amount) (let under = not-below (pos max_cash) (all_cash s +ℤ pos amount) few in omega (arith, ints));
      reserve = ok.reserve;
      numbers = ok.numbers;
    }

    pub sound-withdrawn : (m : Meaning C) (n amount : ℕ) → is_member n ≡ true → short_of m s n amount ≡ false → Sound (with_members s (credited s.members n (neg_ℤ (pos amount))))
    sound-withdrawn m n amount one free =
        let covered = not-below (free_cash m s n) (pos amount) free in
        let holds : pos 0 ≤ℤ held m s.top (house_rows s.rows) n = total-not-below (held_in_row m s.top n) (λ r. grind (arith, ints, nat_tests)) (house_rows s.rows) in
        record {
          sized = length-credited s.members n (neg_ℤ (pos amount)) ∙ ok.sized;
          rows = ok.rows;
          members = every-credited (at_least (floor s)) s.members n (neg_ℤ (pos amount)) ok.members (above-none (floor s) (cash_of s.members n +ℤ neg_ℤ (pos amount)) (omega (arith, ints)));
          cash = ok.cash;
          all = total-from (credited s.members n (neg_ℤ (pos amount))) s.cash (let less = total-credited s.members n (neg_ℤ (pos amount)) ok.sized one in omega (arith, ints, all-high));
          reserve = ok.reserve;
          numbers = ok.numbers;
        }

    pub sound-taken : (amount : ℕ) → house_short_of s amount ≡ false → Sound (with_cash s (s.cash -ℤ pos amount))
    sound-taken amount free =
        let covered = not-below (s.cash -ℤ int_max (pos 0) s.reserve) (pos amount) free in
        record {
          sized = ok.sized;
          rows = ok.rows;
          members = ok.members;
          cash = above-none (floor s) (s.cash -ℤ pos amount) (omega (arith, ints, clamps));
          all = total-from s.members (s.cash -ℤ pos amount) (omega (arith, ints, all-high));
          reserve = ok.reserve;
          numbers = ok.numbers;
        }

    -- past the end of the rows nothing is placed
    pub sound-placed : (k : ℕ) (r : Row C) → row_fine r ≡ true → s.orders < max_number → Sound (with_rows s (s.orders + 1) (set s.rows k r))
    sound-placed k r fine number =
        record {
          sized = ok.sized;
          rows = rw (house-set s.rows k r) (every_set row_fine (house_rows s.rows) k r ok.rows fine);
          members = ok.members;
          cash = ok.cash;
          all = ok.all;
          reserve = ok.reserve;
          numbers = let before = ok.numbers in grind (arith, nat_tests);
        }

    pub sound-entered : (k n : ℕ) (side : Side) (c : C) (price lots : ℕ) → is_member n ≡ true → price ≤ max_price → is_lots lots ≡ true → s.orders < max_number → Sound (entered_at s k n side c price lots)
    sound-entered k n side c price lots one low few number = sound-placed k (new_order (s.orders + 1) n side c price lots) (new-fine (s.orders + 1) n side c price lots one low few) number

    pub sound-cancelled : (n number : ℕ) → Sound (with_rows s s.orders (over_house (cancelled n number) s.rows))
    sound-cancelled n number = record { sized = ok.sized; rows = rows-over (cancelled n number) s.rows (All-weaker (λ r. row_fine r ≡ true) (λ r. row_fine (cancelled n number r) ≡ true) (cancelled-fine n number) (house_rows s.rows) each-fine); members = ok.members; cash = ok.cash; all = ok.all; reserve = ok.reserve; numbers = ok.numbers }

    -- ---- what the figures are within
    pub reserve-within : Small (s.latest.clearing * 2 ^ 105) s.reserve
    reserve-within = small-from (s.latest.clearing * 2 ^ 105) s.reserve ok.reserve
