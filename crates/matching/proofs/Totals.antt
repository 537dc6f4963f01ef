-- Sums over a list. All induction on sums stands here. Assumes nothing.
use Rattle.std.proofs.Common.{◌≡◌, ℕ, ◌+◌, ◌<◌, List, [], ◌∷◌, ◌++◌, length, get_or, take, ℤ, pos, ◌+ℤ◌, ◌*ℤ◌, ◌≤ℤ◌, sym, refl, ap, ◌∙◌, arith}
use lib.IntN.{+ℤ_assoc, +ℤ_idl, +ℤ_idr}
use Rattle.std.proofs.lemmas.List.{take_more}
use Rattle.std.proofs.lemmas.Int.{ints}
use Rattle.std.specs.List.{AllByRecursion}
use Rattle.matching.proofs.Integers.{times-sum}
use Rattle.matching.specs.Sums.{total}

module _ {A : Type 0} (f : A → ℤ) where
  pub total-append : (xs ys : List A) → total f (xs ++ ys) ≡ total f xs +ℤ total f ys
  total-append [] ys = sym (+ℤ_idl (total f ys))
  total-append (x ∷ xs) ys = ap (λ z. f x +ℤ z) (total-append xs ys) ∙ sym (+ℤ_assoc (f x) (total f xs) (total f ys))

  pub total-push : (xs : List A) (x : A) → total f (xs ++ (x ∷ [])) ≡ total f xs +ℤ f x
  total-push xs x = total-append xs (x ∷ []) ∙ ap (λ z. total f xs +ℤ z) (+ℤ_idr (f x))

  -- one element more of xs
  pub total-more : (xs : List A) (i : ℕ) (x : A) → i < length xs → x ≡ get_or xs i x → total f (take (i + 1) xs) ≡ total f (take i xs) +ℤ f x
  total-more xs i x within read =
      ap (total f) (take_more xs i x within ∙ ap (λ y. take i xs ++ (y ∷ [])) (sym read)) ∙ total-push (take i xs) x

module _ {A : Type 0} where
  pub total-none : (f : A → ℤ) → ((x : A) → f x ≡ pos 0) → (xs : List A) → total f xs ≡ pos 0
  total-none f each [] = refl
  total-none f each (x ∷ xs) = omega (arith, ints, each x, total-none f each xs)

  -- what is a times one term and another at each element is so of the sums
  pub total-linear : (a : ℕ) (h f g : A → ℤ) → ((x : A) → h x ≡ (pos a *ℤ f x) +ℤ g x) → (xs : List A) → total h xs ≡ (pos a *ℤ total f xs) +ℤ total g xs
  total-linear a h f g each [] = omega (arith, ints)
  total-linear a h f g each (x ∷ xs) = omega (arith, ints, each x, total-linear a h f g each xs, times-sum a (f x) (total f xs))

  -- and so is what is at most such a sum
  pub total_at_most : (a b : ℕ) (f g h : A → ℤ) (xs : List A) → AllByRecursion (λ x. (pos a *ℤ f x) ≤ℤ ((pos b *ℤ g x) +ℤ h x)) xs → (pos a *ℤ total f xs) ≤ℤ ((pos b *ℤ total g xs) +ℤ total h xs)
  total_at_most a b f g h [] each = omega (arith, ints)
  total_at_most a b f g h (x ∷ xs) each = omega (arith, ints, each.0, total_at_most a b f g h xs each.1, times-sum a (f x) (total f xs), times-sum b (g x) (total g xs))
