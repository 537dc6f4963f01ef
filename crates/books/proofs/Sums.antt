-- Sums over a list: what a change of the list or of its terms does to them. Assumes nothing.
use Rattle.std.proofs.Common.{◌≡◌, ℕ, zero, suc, ◌<◌, List, [], ◌∷◌, map, length, get_or, set, ℤ, pos, ◌+ℤ◌, neg_ℤ, ◌≤ℤ◌, refl, ap, arith}
use Rattle.std.proofs.lemmas.Int.{ints}
use Rattle.std.specs.List.{AllByRecursion}
use Rattle.matching.proofs.Totals.{total-linear}
use Rattle.matching.specs.Sums.{total}

module _ {A : Type 0} where
  pub total-map : {B : Type 0} (f : B → ℤ) (g : A → B) (xs : List A) → total f (map g xs) ≡ total (λ x. f (g x)) xs
  total-map f g [] = refl
  total-map f g (x ∷ xs) = ap (λ z. f (g x) +ℤ z) (total-map f g xs)

  -- the terms of h are those of f and g together
  pub total-plus : (f g h : A → ℤ) → ((x : A) → h x ≡ f x +ℤ g x) → (xs : List A) → total h xs ≡ total f xs +ℤ total g xs
  total-plus f g h each xs = omega (arith, ints, total-linear 1 h f g (λ x. omega (arith, ints, each x)) xs)

  pub total-same : (f g : A → ℤ) → ((x : A) → f x ≡ g x) → (xs : List A) → total f xs ≡ total g xs
  total-same f g each [] = refl
  total-same f g each (x ∷ xs) = omega (arith, ints, each x, total-same f g each xs)

  pub total-negative : (f : A → ℤ) (xs : List A) → total (λ x. neg_ℤ (f x)) xs ≡ neg_ℤ (total f xs)
  total-negative f [] = refl
  total-negative f (x ∷ xs) = omega (arith, ints, total-negative f xs)

  pub total-below : (f g : A → ℤ) (xs : List A) → AllByRecursion (λ x. f x ≤ℤ g x) xs → total f xs ≤ℤ total g xs
  total-below f g [] each = omega (arith, ints)
  total-below f g (x ∷ xs) each = omega (arith, ints, each.0, total-below f g xs each.1)

  pub total-not-below : (f : A → ℤ) → ((x : A) → pos 0 ≤ℤ f x) → (xs : List A) → pos 0 ≤ℤ total f xs
  total-not-below f each [] = omega (arith, ints)
  total-not-below f each (x ∷ xs) = omega (arith, ints, each x, total-not-below f each xs)

  -- one element changed: what it was goes, and what it is comes
  pub total-set : (f : A → ℤ) (xs : List A) (k : ℕ) (x d : A) → k < length xs → total f (set xs k x) +ℤ f (get_or xs k d) ≡ total f xs +ℤ f x
  total-set f [] k x d within = absurd (omega arith)
  total-set f (y ∷ ys) zero x d within = omega (arith, ints)
  total-set f (y ∷ ys) (suc k) x d within = omega (arith, ints, total-set f ys k x d (omega arith))
