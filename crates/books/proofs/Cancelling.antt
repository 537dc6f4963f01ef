-- What a cancel does to the sums over the rows: holds fall, and filled lots stay. Assumes nothing.
use Rattle.std.proofs.Common.{◌≡◌, ℕ, ◌≤◌, true, false, cond, List, [], ◌∷◌, map, ℤ, ◌≤ℤ◌, refl, ◌∙◌, arith}
use Rattle.std.proofs.lemmas.Int.{ints}
use Rattle.std.proofs.lemmas.Bool.Decides.{nat_tests}
use Rattle.std.specs.List.{AllByRecursion}
use Rattle.instruments.specs.Meaning.{Meaning}
use Rattle.matching.specs.declared.rows.Row.{Row}
use Rattle.matching.specs.declared.rows.Side.{Side}
use Rattle.matching.specs.declared.rows.Side.TheVariants.{Buy, Sell}
use Rattle.matching.specs.Figures.{row_owed, filled_lots, exposure}
use Rattle.matching.specs.Rows.{used, hold, held, held_in_row}
use Rattle.books.specs.Calls.{cancelled, own_standing}
use Rattle.books.specs.State.{with_lots}
use Rattle.books.proofs.Alike.{no-filled}
use Rattle.books.proofs.Sums.{total-map, total-same, total-below}

all_of : {A : Type 0} (P : A → Type 0) → ((x : A) → P x) → (xs : List A) → AllByRecursion P xs
all_of P each [] = tt
all_of P each (x ∷ xs) = (each x, all_of P each xs)

-- a cancel empties the open lots of some rows and leaves the others
module _ {C : Type 0} (n number : ℕ) where
  -- so what it does to a row is one of two things
  either-row : (P : Row C → Type 0) (r : Row C) → P (with_lots r 0 r.filled) → P r → P (cancelled n number r)
  either-row P r gone here = elim (own_standing n number r) as (λ b. P (cond b (with_lots r 0 r.filled) r)) [ true ↦ gone | false ↦ here ]

  pub cancelled-unused : (r : Row C) → used r ≡ false → used (cancelled n number r) ≡ false
  cancelled-unused r unused = either-row (λ x. used x ≡ false) r (rw (no-filled r unused)) unused

  -- what holds of a row whatever its open lots holds after
  pub all-cancelled : (P : Row C → Type 0) → ((r : Row C) → P r → P (with_lots r 0 r.filled)) → (rows : List (Row C)) → AllByRecursion P rows → AllByRecursion P (map (cancelled n number) rows)
  all-cancelled P stays [] each = tt
  all-cancelled P stays (r ∷ rows) each = (either-row P r (stays r each.0) each.0, all-cancelled P stays rows each.1)

  module _ (m : Meaning C) (top : ℕ) where
    order-cancelled : (r : Row C) (side : Side) → hold m top (with_lots r 0 r.filled) side ≤ hold m top r side
    order-cancelled r Buy = omega arith
    order-cancelled r Sell = omega arith

    row-cancelled : (k : ℕ) (r : Row C) → held_in_row m top k (cancelled n number r) ≤ℤ held_in_row m top k r
    row-cancelled k r = either-row (λ x. held_in_row m top k x ≤ℤ held_in_row m top k r) r (let own = order-cancelled r r.side in grind (arith, ints, nat_tests)) (omega (arith, ints))

    pub held-cancelled : (k : ℕ) (rows : List (Row C)) → held m top (map (cancelled n number) rows) k ≤ℤ held m top rows k
    held-cancelled k rows =
        let after : Row C → ℤ = λ r. held_in_row m top k (cancelled n number r) in
        omega (arith, ints, total-map (held_in_row m top k) (cancelled n number) rows, total-below after (held_in_row m top k) rows (all_of (λ r. after r ≤ℤ held_in_row m top k r) (row-cancelled k) rows))

    pub exposure-cancelled : (rows : List (Row C)) (s : ℕ) → exposure m top (map (cancelled n number) rows) s ≡ exposure m top rows s
    exposure-cancelled rows s =
        let owed-by : Row C → ℤ = row_owed m top filled_lots s in
        total-map owed-by (cancelled n number) rows ∙ total-same (λ r. owed-by (cancelled n number r)) owed-by (λ r. either-row (λ x. owed-by x ≡ owed-by r) r refl refl) rows
