-- Sums over a list, and the largest value over whole prices. Assumes nothing.
use Rattle.std.specs.Prelude.{◌≡◌, ℕ, zero, suc, ◌≤◌, ◌⊎◌, cond, List, [], ◌∷◌, ℤ, pos, ◌+ℤ◌, neg_ℤ, ◌≤ℤ◌, ◌<ℤ◌, int_lt}

-- the sum of f over the list
abbrev pub total : {A : Type 0} → (A → ℤ) → List A → ℤ
total f [] = pos 0
total f (x ∷ xs) = f x +ℤ total f xs

-- the largest value of f at any whole place from 0 to top
abbrev pub largest : (ℕ → ℤ) → ℕ → ℤ
largest f zero = f zero
largest f (suc n) = cond (int_lt (largest f n) (f (suc n))) (f (suc n)) (largest f n)

-- the lowest place from 0 to top where that value is reached
abbrev pub lowest : (ℕ → ℤ) → ℕ → ℕ
lowest f zero = zero
lowest f (suc n) = cond (int_lt (largest f n) (f (suc n))) (suc n) (lowest f n)

-- p is at least as good a candidate for the lowest place with the largest value as s
abbrev pub AsGood : (ℕ → ℤ) → ℕ → ℕ → Type 0
AsGood f p s = (f s <ℤ f p) ⊎ ((f s ≡ f p) × (p ≤ s))

-- from −n to n: what keeps a running sum within its type
pub record Small (n : ℕ) (z : ℤ) : Type 0 where
  pub low : neg_ℤ (pos n) ≤ℤ z
  pub high : z ≤ℤ pos n
