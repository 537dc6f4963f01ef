-- Loops that go over the rows and tell the standing orders. Assumes nothing.
use Rattle.std.proofs.Common.{count_by, filter, ◌≡◌, ℕ, suc, ◌+◌, ◌<◌, ◌≤◌, true, false, List, [], ◌∷◌, ◌++◌, length, get_or, take, drop, set, sym, ap, ◌∙◌, add-zero, zero-add, arith, take-append-drop}
use Rattle.std.proofs.lemmas.List.{length-map, append_assoc, at_drop_more, at_drop_all, take_more_set, drop-set-lt}
use Rattle.std.proofs.lemmas.List.Sums.{length-filter}
use Rattle.matching.specs.declared.rows.Row.{Row}
use Rattle.matching.specs.Rows.{standing}
use Rattle.books.specs.Questions.{standing_numbers}

module _ {C : Type 0} (rows : List (Row C)) (i : ℕ) (r : Row C) where
  -- the row at i, and then what is left
  numbers-here : i < length rows → r ≡ get_or rows i r → standing_numbers (drop i rows) ≡ standing_numbers (r ∷ drop (i + 1) rows)
  numbers-here within read = at_drop_more standing_numbers rows i r within ∙ ap (λ x. standing_numbers (x ∷ drop (i + 1) rows)) (sym read)

  pub numbers_more : i < length rows → r ≡ get_or rows i r → standing r ≡ true → standing_numbers (drop i rows) ≡ r.order ∷ standing_numbers (drop (i + 1) rows)
  numbers_more within read stands = numbers-here within read ∙ rw stands

  pub numbers-same : i < length rows → r ≡ get_or rows i r → standing r ≡ false → standing_numbers (drop i rows) ≡ standing_numbers (drop (i + 1) rows)
  numbers-same within read idle = numbers-here within read ∙ rw idle

pub numbers-end : {C : Type 0} (rows : List (Row C)) (i : ℕ) → length rows ≤ i → standing_numbers (drop i rows) ≡ []
numbers-end rows i done = at_drop_all standing_numbers rows i done

-- as many numbers as standing orders
pub numbers_counted : {C : Type 0} (rows : List (Row C)) → length (standing_numbers rows) ≡ count_by standing rows
numbers_counted rows = length-map (filter standing rows) (λ r. r.order) ∙ length-filter standing rows

-- the list once ns are written behind its first n
abbrev pub written : ℕ → List ℕ → List ℕ → List ℕ
written n ns list = take n list ++ (ns ++ drop (n + length ns) list)

pub written-more : (n o : ℕ) (ns list : List ℕ) → n < length list → written (n + 1) ns (set list n o) ≡ written n (o ∷ ns) list
written-more n o ns list within =
    let past : n < n + 1 + length ns = omega arith in
    let same : n + 1 + length ns ≡ n + suc (length ns) = omega arith in
    rw (take_more_set list n o within, drop-set-lt (n + 1 + length ns) list n o past, append_assoc, same)

pub written_none : (n : ℕ) (list : List ℕ) → written n [] list ≡ list
written_none n list = rw (add-zero n) (take-append-drop n list)

pub written-first : (ns list : List ℕ) → written 0 ns list ≡ ns ++ drop (length ns) list
written-first ns list = rw (zero-add (length ns))
