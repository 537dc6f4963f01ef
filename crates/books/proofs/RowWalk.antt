-- A loop that rewrites the rows one by one. Assumes nothing.
use Rattle.std.proofs.Common.{◌≡◌, ℕ, zero, suc, ◌+◌, ◌<◌, ◌≤◌, min, List, [], ◌∷◌, ◌++◌, map, length, get_or, take, drop, set, ap, ⊎_elim, add-one, arith, take_all}
use Rattle.std.proofs.lemmas.List.{drop_all}
use Rattle.std.proofs.lemmas.Bool.{cases_lt}

module _ {A : Type 0} (f : A → A) where
  -- the first i rows are done, and the others as they were
  abbrev pub walked : ℕ → List A → List A
  walked i xs = map f (take i xs) ++ drop i xs

  -- what is written back is what was read, changed
  walked-suc : (i : ℕ) (xs : List A) (x : A) → i < length xs → x ≡ get_or xs i x → set (walked i xs) i (f x) ≡ walked (suc i) xs
  walked-suc i [] x h e = absurd (omega arith)
  walked-suc zero (y ∷ ys) x h e = ap (λ z. f z ∷ ys) e
  walked-suc (suc i) (y ∷ ys) x h e = ap (λ zs. f y ∷ zs) (walked-suc i ys x (omega arith) e)

  pub walked_set : (i : ℕ) (xs : List A) (x : A) → i < length xs → x ≡ get_or xs i x → set (walked i xs) i (f x) ≡ walked (i + 1) xs
  walked_set i xs x within read = rw add-one (walked-suc i xs x within read)

  -- as many rows as there are, or k of them
  pub walked_all : (n k : ℕ) (xs : List A) → n ≡ min (length xs) k → walked n xs ≡ walked k xs
  walked_all n k xs e =
      ⊎_elim
      (λ h. let low : length xs ≤ n = omega arith in let high : length xs ≤ k = omega arith in rw (take_all n xs low, drop_all n xs low, take_all k xs high, drop_all k xs high))
      (λ h. let same : n ≡ k = omega arith in ap (λ i. walked i xs) same)
      (cases_lt (length xs) k)
