-- What the report writes of a figure reads back as the figure. Assumes nothing.
use Rattle.std.proofs.Common.{◌≡◌, ℕ, zero, suc, ◌+◌, ◌-◌, ◌*◌, ◌/◌, ◌%◌, ◌^◌, ◌<◌, ◌≤◌, eqb, List, [], ◌∷◌, ◌++◌, ℤ, pos, negsuc, neg_ℤ, nat_abs, sym, refl, ap, ◌∙◌, subst, ⊎_elim, arith, lit<}
use Rattle.std.proofs.ByRecursion.{All-push}
use Rattle.std.proofs.lemmas.List.{length_push, get_or_append_left}
use Rattle.std.proofs.lemmas.Bool.{cases_lt, cond-false, ne_eqb}
use Rattle.books.specs.Publishing.{decimal, figure_text}
use Rattle.report.specs.Reading.{read_on, read_figure, IsDigit, Plain, FiguresReadBack}
use Rattle.report.proofs.Places.{decimal-one, decimal-more, tenth-under}

read-push : (n : ℕ) (ds : List ℕ) (c : ℕ) → read_on n (ds ++ (c ∷ [])) ≡ read_on n ds * 10 + (c - 48)
read-push n [] c = refl
read-push n (d ∷ ds) c = read-push (n * 10 + (d - 48)) ds c

plain-one : (n : ℕ) → n < 10 → Plain n ((48 + n) ∷ [])
plain-one n h = record { figures = ((omega arith, omega arith), tt); some = omega arith; value = omega arith; first = λ e. omega arith }

-- a digit more
plain_push : (n : ℕ) (ds : List ℕ) → 10 ≤ n → Plain (n / 10) ds → Plain n (ds ++ ((48 + n % 10) ∷ []))
plain_push n ds high p = record {
  figures = All-push IsDigit ds (48 + n % 10) p.figures (omega arith, omega arith);
  some = rw length_push (omega arith);
  value = read-push 0 ds (48 + n % 10) ∙ omega (arith, p.value);
  first = λ e. let z : n / 10 ≡ 0 = p.first (sym (get_or_append_left ds _ 0 0 p.some) ∙ e) in omega arith;
}

plain-decimal : (k n : ℕ) → n < 10 ^ suc k → Plain n (decimal (suc k) n)
plain-decimal zero n h = let low : n < 10 = omega arith in subst (Plain n) (sym (decimal-one 0 n low)) (plain-one n low)
plain-decimal (suc k) n h =
    ⊎_elim
    (λ low. subst (Plain n) (sym (decimal-one (suc k) n low)) (plain-one n low))
    (λ high. subst (Plain n) (sym (decimal-more (suc k) n high)) (plain_push n (decimal (suc k) (n / 10)) high (plain-decimal k (n / 10) (tenth-under (suc k) n h))))
    (cases_lt n 10)

-- digits alone have no minus in front
reads_plain : (n : ℕ) (ds : List ℕ) → Plain n ds → read_figure ds ≡ pos n
reads_plain n [] p = absurd (omega (arith, p.some))
reads_plain n (c ∷ cs) p =
    cond-false (eqb c 45) _ _ (ne_eqb c 45 (λ e. omega (arith, p.figures.0.0))) ∙ ap pos p.value

reads-minus : (n : ℕ) (ds : List ℕ) → Plain (suc n) ds → read_figure (45 ∷ ds) ≡ negsuc n
reads-minus n ds p = ap (λ m. neg_ℤ (pos m)) p.value

reads-back : (z : ℤ) → nat_abs z < 10 ^ 39 → read_figure (figure_text z) ≡ z
reads-back (pos n) h = reads_plain n (decimal 39 n) (plain-decimal 38 n h)
reads-back (negsuc n) h = reads-minus n (decimal 39 (suc n)) (plain-decimal 38 (suc n) h)

pub figures-read-back : FiguresReadBack
figures-read-back = record { enough = lit< tt; plain = plain-decimal 38; back = reads-back }
