use Rattle.std.proofs.Common.{◌≡◌, ℕ, ◌≤◌, min, List, length, take, sym, ap, ◌∙◌, ⊎_elim, arith, take_all}
use Rattle.std.proofs.lemmas.Bool.{cases_lt}
use Rattle.matching.proofs.rows.house_rows.Goals as goal

-- a front that is at least as long as the list is the whole list
front : {A : Type 0} (n k : ℕ) (xs : List A) → n ≡ min (length xs) k → take n xs ≡ take k xs
front n k xs e =
    ⊎_elim
    (λ h. let low : length xs ≤ n = omega arith in let high : length xs ≤ k = omega arith in take_all n xs low ∙ sym (take_all k xs high))
    (λ h. let same : n ≡ k = omega arith in ap (λ i. take i xs) same)
    (cases_lt (length xs) k)

pub returns-clause-value : goal.returns-clause-value
returns-clause-value g c = front _ 256 c.args.rows.now c.min-count.ensures
