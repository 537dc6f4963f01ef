-- The places of the search: what stands in each, and what they owe together. Assumes nothing.
use Rattle.std.proofs.Common.{◌≡◌, ℕ, suc, ◌+◌, ◌-◌, ◌<◌, ◌≤◌, List, [], ◌∷◌, ◌++◌, map, length, get_or, take, set, replicate, ◌+ℤ◌, Option, ◌⊎◌, ⊎_elim, sym, refl, ap, ◌∙◌, append_assoc, arith}
use lib.ListN.{length-map}
use Rattle.std.proofs.lemmas.Int.{ints}
use Rattle.std.proofs.lemmas.List.{length-take-le, map_more, set_at}
use Rattle.instruments.specs.Meaning.{Meaning}
use Rattle.matching.specs.declared.legs.Leg.{Leg}
use Rattle.matching.specs.declared.rows.Row.{Row}
use Rattle.matching.specs.Figures.{owed}
use Rattle.matching.specs.Legs.{leg_owed, legs_owed, leg_with, as_leg, row_legs, told_lots}
use Rattle.matching.proofs.Peak.{owed-as-legs}

module _ {C : Type 0} (n : ℕ) (lots : Row C → ℕ) (rows : List (Row C)) where
  -- the next row's lots go into the first place that is free
  told_more : (i : ℕ) (r : Row C) → i < length rows → length rows ≤ n → r ≡ get_or rows i r → set (told_lots n lots (take i rows)) i (lots r) ≡ told_lots n lots (take (i + 1) rows)
  told_more i r within few read =
      let front = map lots (take i rows) in
      let count = length-take-le i rows (omega arith) in
      let after = length-take-le (i + 1) rows (omega arith) in
      let before : n - length (take i rows) ≡ suc (n - suc i) = omega arith in
      let left : n - length (take (i + 1) rows) ≡ n - suc i = omega arith in
      let more : map lots (take (i + 1) rows) ≡ front ++ lots r ∷ [] = map_more lots rows i r within ∙ ap (λ x. front ++ lots x ∷ []) (sym read) in
      ap (λ k. set (front ++ replicate k 0) i (lots r)) before ∙ set_at front 0 (replicate (n - suc i) 0) (lots r) i (length-map (take i rows) lots ∙ count) ∙ sym (append_assoc front (lots r ∷ []) (replicate (n - suc i) 0)) ∙ rw (more, left)

  -- a turn of the loop: what a call told of the row goes into the list so far
  pub told-turn : (i : ℕ) (r : Row C) (found : ℕ) (so_far : List ℕ) → so_far ≡ told_lots n lots (take i rows) → found ≡ lots r → i < length rows → length rows ≤ n → r ≡ get_or rows i r → set so_far i found ≡ told_lots n lots (take (i + 1) rows)
  told-turn i r found so_far before is within few read = rw (before, is) (told_more i r within few read)

module _ {C : Type 0} where
  -- no more than there are rows
  pub row_legs-few : (rows : List (Row C)) (lots : List ℕ) → length (row_legs rows lots) ≤ length rows
  row_legs-few [] lots = omega arith
  row_legs-few (r ∷ rows) [] = omega arith
  row_legs-few (r ∷ rows) (n ∷ lots) = let rest = row_legs-few rows lots in omega arith

  -- as both lists run out: the next leg, and none once one of them is empty
  pub row_legs-next : (rows rows' : List (Row C)) (lots lots' : List ℕ) (r : Row C) (n : ℕ) (leg : Option (Leg C)) → rows ≡ r ∷ rows' → lots ≡ n ∷ lots' → leg ≡ leg_with r n → row_legs rows lots ≡ leg ∷ row_legs rows' lots'
  row_legs-next rows rows' lots lots' r n leg here there is = rw (here, there, is) refl

  pub row_legs-done : (rows : List (Row C)) (lots : List ℕ) → (rows ≡ []) ⊎ (lots ≡ []) → row_legs rows lots ≡ []
  row_legs-done [] lots none = refl
  row_legs-done (r ∷ rows) [] none = refl
  row_legs-done (r ∷ rows) (n ∷ lots) none = ⊎_elim (λ e. absurd (cc)) (λ e. absurd (cc)) none

  -- the lots that were found row by row
  row_legs-told : (lots : Row C → ℕ) (rows : List (Row C)) (rest : List ℕ) → row_legs rows (map lots rows ++ rest) ≡ map (as_leg lots) rows
  row_legs-told lots [] rest = refl
  row_legs-told lots (r ∷ rows) rest = ap (λ legs. as_leg lots r ∷ legs) (row_legs-told lots rows rest)

  -- what they owe: the rows with the lots of each, and what stands beside them
  pub listed-owe : (m : Meaning C) (top s : ℕ) (lots : Row C → ℕ) (rows : List (Row C)) (n : ℕ) (beside : Option (Leg C)) → legs_owed m top (beside ∷ row_legs rows (told_lots n lots rows)) s ≡ owed m top rows lots s +ℤ leg_owed m top s beside
  listed-owe m top s lots rows n beside =
      let told = ap (λ legs. legs_owed m top legs s) (row_legs-told lots rows (replicate (n - length rows) 0)) in
      omega (arith, ints, told, owed-as-legs m top rows lots s)
