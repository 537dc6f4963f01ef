-- What a change of the rows is on the rows of the house. Assumes nothing.
use Rattle.std.proofs.Common.{◌≡◌, ℕ, zero, suc, List, [], ◌∷◌, ◌++◌, map, take, drop, set, refl, ap, ◌∙◌}
use Rattle.matching.specs.declared.rows.Row.{Row}
use Rattle.matching.specs.Rows.{house_rows}
use Rattle.matching.specs.Sums.{total}
use Rattle.matching.proofs.Totals.{total-none}
use Rattle.books.specs.State.{over_house, emptied}
use Rattle.books.proofs.Alike.{Alike}
use Rattle.books.proofs.Sums.{total-map}

module _ {A : Type 0} where
  take-changed : (f : A → A) (n : ℕ) (xs : List A) → take n (map f (take n xs) ++ drop n xs) ≡ map f (take n xs)
  take-changed f zero xs = refl
  take-changed f (suc n) [] = refl
  take-changed f (suc n) (x ∷ xs) = ap (λ ys. f x ∷ ys) (take-changed f n xs)

  take-of-set : (n k : ℕ) (xs : List A) (x : A) → take n (set xs k x) ≡ set (take n xs) k x
  take-of-set zero k xs x = refl
  take-of-set (suc n) k [] x = refl
  take-of-set (suc n) zero (y ∷ ys) x = refl
  take-of-set (suc n) (suc k) (y ∷ ys) x = ap (λ zs. y ∷ zs) (take-of-set n k ys x)

module _ {C : Type 0} where
  pub house-over : (f : Row C → Row C) (rows : List (Row C)) → house_rows (over_house f rows) ≡ map f (house_rows rows)
  house-over f rows = take-changed f 256 rows

  pub house-set : (rows : List (Row C)) (k : ℕ) (r : Row C) → house_rows (set rows k r) ≡ set (house_rows rows) k r
  house-set rows k r = take-of-set 256 k rows r

  -- emptied rows are like no orders
  pub alike-emptied : (rows : List (Row C)) → Alike (house_rows (over_house emptied rows)) []
  alike-emptied rows f skips = ap (total f) (house-over emptied rows) ∙ total-map f emptied (house_rows rows) ∙ total-none (λ r. f (emptied r)) (λ r. skips (emptied r) refl) (house_rows rows)
