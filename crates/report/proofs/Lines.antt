-- The lines, written one behind another, are the report. Assumes nothing.
use Rattle.std.proofs.Common.{◌≡◌, ℕ, ltb, List, [], ◌∷◌, ◌++◌, ℤ, pos, negsuc, nat_abs, codes, sym, refl, ap, ◌∙◌, append_assoc, arith}
use Rattle.std.proofs.lemmas.Bool.{cond-false, le-ltb}
use Rattle.books.specs.declared.answers.Cleared.{Cleared}
use Rattle.books.specs.Publishing.{decimal, figure_text, report_text}
use Rattle.report.specs.Adding.{digits, sign_of, with_figure}
use Rattle.report.specs.Lines.{line_of, lines_of}

figure-is : (z : ℤ) → figure_text z ≡ sign_of z ++ digits (nat_abs z)
unfolding digits
figure-is (pos n) = ap (λ sign. sign ++ decimal 39 n) (sym (cond-false (ltb n 0) _ _ (le-ltb n 0 (omega arith))))
figure-is (negsuc n) = refl

-- whatever its parts are, a line is put behind the text as a whole
regroup : (t name sign ds : List ℕ) → ((((t ++ name) ++ (61 ∷ [])) ++ sign) ++ ds) ++ (10 ∷ []) ≡ t ++ (name ++ (61 ∷ ((sign ++ ds) ++ (10 ∷ []))))
regroup t name sign ds = simp append_assoc

pub line-behind : (t name : List ℕ) (z : ℤ) → with_figure ((t ++ name) ++ (61 ∷ [])) z ++ (10 ∷ []) ≡ t ++ line_of name z
unfolding line_of
line-behind t name z = regroup t name (sign_of z) (digits (nat_abs z)) ∙ ap (λ ds. t ++ (name ++ (61 ∷ (ds ++ (10 ∷ []))))) (sym (figure-is z))

six : (a b c d e f : List ℕ) → ((((a ++ b) ++ c) ++ d) ++ e) ++ f ≡ a ++ (b ++ (c ++ (d ++ (e ++ f))))
six a b c d e f = simp append_assoc

pub lines_are : (a : Cleared) → lines_of a ≡ report_text a
unfolding line_of
lines_are a = six (line_of (codes "clearing") (pos a.clearing)) (line_of (codes "net") a.net) (line_of (codes "reserve") a.reserve) (line_of (codes "worst") (pos a.worst)) (line_of (codes "gap") a.gap) (line_of (codes "weights") (pos a.weights))
