-- The first unused row is a free row, and where there is none every row is used. Assumes nothing.
use Rattle.std.proofs.Common.{◌≡◌, ℕ, Bool, false, not, List, [], ◌∷◌, get_or, Some, None, Option, refl, ap, arith}
use Rattle.std.specs.List.{list_any, position}
use Rattle.std.proofs.lemmas.List.Quantifiers.{position-Some}
use Rattle.std.proofs.lemmas.List.Folds.{list_any_at}
use Rattle.std.proofs.lemmas.Bool.{not-true}
use Rattle.matching.specs.declared.rows.Row.{Row}
use Rattle.matching.specs.Rows.{used}
use Rattle.books.specs.Rowwork.{FreeRow}

none-any : {A : Type 0} (test : A → Bool) (xs : List A) → position test xs ≡ None → list_any test xs ≡ false
none-any test [] none = refl
none-any test (x ∷ xs) none = grind (arith, none-any test xs)

module _ {C : Type 0} where
  free_at : (rows : List (Row C)) (found : Option ℕ) → position (λ row. not (used row)) rows ≡ found → FreeRow rows found
  free_at rows None e = ap not (none-any (λ row. not (used row)) rows e)
  free_at [] (Some k) e = cc
  free_at (row ∷ rows) (Some k) e =
      let test = λ (row : Row C). not (used row) in
      let there = position-Some test (row ∷ rows) k row e in
      (there.0, (λ d. not-true (used (get_or (row ∷ rows) k d)) (position-Some test (row ∷ rows) k d e).1), ap not (list_any_at test (row ∷ rows) k row there.0 there.1))

  pub free-first : (rows : List (Row C)) → FreeRow rows (position (λ row. not (used row)) rows)
  free-first rows = free_at rows _ refl
