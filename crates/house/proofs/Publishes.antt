-- What a publish answers and leaves once its token is the one for the report owed. Assumes nothing.
use Rattle.std.proofs.Common.{◌≡◌, ℕ, Bool, true, false, cond, not, ltb, List, [], ◌∷◌, ◌++◌, length, drop, Some, None, Ok, Err, Result, sym, refl, ap, ◌∙◌, arith}
use Rattle.books.specs.declared.refusals.Refusal.{Refusal}
use Rattle.books.specs.declared.refusals.Refusal.TheVariants.{WrongToken, PageTooShort}
use Rattle.books.specs.Publishing.{report_text, is_owed, publish_answer, publish_page, publish_after, published}
use Rattle.books.specs.Refusals.{tested, fails_if, left_by}
use Rattle.books.specs.State.{State}
use Rattle.report.specs.Writing.{written, page_after}

-- the two tests, by what they say
tests : Bool → Bool → ℕ → Result ℕ Refusal
tests owed short n = tested (fails_if (not owed) WrongToken ∷ (fails_if short PageTooShort ∷ [])) n

refused : (owed short : Bool) (n : ℕ) → owed ≡ true → cond short None (Some n) ≡ None → tests owed short n ≡ Err PageTooShort
unfolding tests
refused true true n e h = refl
refused true false n e h = let z : ◌≡◌ {A = ℕ} 0 1 = cc in absurd (omega arith)
refused false short n e h = let z : ◌≡◌ {A = ℕ} 0 1 = cc in absurd (omega arith)

accepted : (owed short : Bool) (n k : ℕ) → owed ≡ true → cond short None (Some n) ≡ Some k → tests owed short n ≡ Ok k
unfolding tests
accepted true true n k e h = let z : ◌≡◌ {A = ℕ} 0 1 = cc in absurd (omega arith)
accepted true false n k e h = let same : n ≡ k = cc in ap Ok same
accepted false short n k e h = let z : ◌≡◌ {A = ℕ} 0 1 = cc in absurd (omega arith)

kept : {A : Type 0} (short : Bool) (n : ℕ) (a b : A) → cond short None (Some n) ≡ None → cond short a b ≡ a
kept true n a b h = refl
kept false n a b h = let z : ◌≡◌ {A = ℕ} 0 1 = cc in absurd (omega arith)

put : {A : Type 0} (short : Bool) (n k : ℕ) (a b : A) → cond short None (Some n) ≡ Some k → cond short a b ≡ b
put true n k a b h = let z : ◌≡◌ {A = ℕ} 0 1 = cc in absurd (omega arith)
put false n k a b h = refl

pub record Ends {C : Type 0} (s : State C) (h k : ℕ) (blank full : List ℕ) (r : Result ℕ Refusal) (s' : State C) : Type 0 where
  pub answer : r ≡ publish_answer s h k blank
  pub page : full ≡ publish_page s h k blank
  pub after : s' ≡ publish_after s h k blank

module _ {C : Type 0} (s : State C) (h k : ℕ) (page page' : List ℕ) (owed : is_owed s h k ≡ true) (put_on : page' ≡ page_after s.latest page) where
  pub page-short : None ≡ written s.latest page → Ends s h k page page' (Err PageTooShort) s
  unfolding written page_after tests
  page-short e =
      let text = report_text s.latest in
      let short = ltb (length page) (length text) in
      let answer : publish_answer s h k page ≡ Err PageTooShort = refused (is_owed s h k) short (length text) owed (sym e) in
      record {
        answer = sym answer;
        page = put_on ∙ kept short (length text) page (text ++ drop (length text) page) (sym e) ∙ sym (ap (λ r. left_by r (text ++ drop (length text) page) page) answer);
        after = sym (ap (λ r. left_by r (published s) s) answer);
      }

  pub page-written : (n : ℕ) → Some n ≡ written s.latest page → Ends s h k page page' (Ok n) (published s)
  unfolding written page_after tests
  page-written n e =
      let text = report_text s.latest in
      let short = ltb (length page) (length text) in
      let answer : publish_answer s h k page ≡ Ok n = accepted (is_owed s h k) short (length text) n owed (sym e) in
      record {
        answer = sym answer;
        page = put_on ∙ put short (length text) n page (text ++ drop (length text) page) (sym e) ∙ sym (ap (λ r. left_by r (text ++ drop (length text) page) page) answer);
        after = sym (ap (λ r. left_by r (published s) s) answer);
      }
