-- A page of 285 bytes takes every report, so the token that a clearing just made is never refused on it. Assumes nothing.
use Rattle.std.proofs.Common.{◌≡◌, ℕ, suc, ◌+◌, ◌≤◌, Bool, true, false, not, ◌&&◌, eqb, ltb, List, [], ◌∷◌, ◌++◌, length, ℤ, pos, negsuc, Some, None, Ok, Err, codes, Option, Result, refl, ap, ◌∙◌, arith, length-append}
use Rattle.std.proofs.lemmas.Bool.{le-ltb, eq-eqb}
use Rattle.instruments.specs.Meaning.{Meaning}
use Rattle.matching.specs.declared.proposals.Fill.{Fill}
use Rattle.matching.specs.declared.proposals.Weight.{Weight}
use Rattle.books.specs.declared.answers.Cleared.{Cleared}
use Rattle.books.specs.declared.refusals.Refusal.{Refusal}
use Rattle.books.specs.declared.refusals.Refusal.TheVariants.{Price, Closed, ReportOwed, WrongToken, PageTooShort}
use Rattle.books.specs.Clearing.{cleared, clear_tests, clear_answer, clear_after, booked_state}
use Rattle.books.specs.Publishing.{figure_text, line, report_text, is_owed, publish_answer, publish_after, published}
use Rattle.books.specs.Refusals.{tested, fails_if, left_by}
use Rattle.books.specs.Settling.{settled, settle_after}
use Rattle.books.specs.State.{State}
use Rattle.report.proofs.Places.{decimal-short}

-- ---- the longest report
figure-few : (z : ℤ) → length (figure_text z) ≤ 40
figure-few (pos n) = let few = decimal-short 39 n in omega arith
figure-few (negsuc n) = let few = decimal-short 39 (suc n) in omega arith

line-adds : (name figure : List ℕ) (b : ℕ) → length figure ≤ 40 → length name + 42 ≤ b → length (name ++ (61 ∷ (figure ++ (10 ∷ [])))) ≤ b
line-adds name figure b few fits = rw (length-append, length-append) (omega arith)

six-fit : (a b c d e f : List ℕ) → length a ≤ 50 → length b ≤ 45 → length c ≤ 49 → length d ≤ 47 → length e ≤ 45 → length f ≤ 49 → length (a ++ (b ++ (c ++ (d ++ (e ++ f))))) ≤ 285
six-fit a b c d e f ha hb hc hd he hf = rw (length-append, length-append, length-append, length-append, length-append) (omega arith)

line-few : (name : List ℕ) (z : ℤ) (b : ℕ) → length name + 42 ≤ b → length (line name z) ≤ b
line-few name z b fits = line-adds name (figure_text z) b (figure-few z) fits

pub report-fits : (a : Cleared) → length (report_text a) ≤ 285
report-fits a =
    six-fit
    (line (codes "clearing") (pos a.clearing))
    (line (codes "net") a.net)
    (line (codes "reserve") a.reserve)
    (line (codes "worst") (pos a.worst))
    (line (codes "gap") a.gap)
    (line (codes "weights") (pos a.weights))
    (line-few (codes "clearing") (pos a.clearing) 50 (omega arith))
    (line-few (codes "net") a.net 45 (omega arith))
    (line-few (codes "reserve") a.reserve 49 (omega arith))
    (line-few (codes "worst") (pos a.worst) 47 (omega arith))
    (line-few (codes "gap") a.gap 45 (omega arith))
    (line-few (codes "weights") (pos a.weights) 49 (omega arith))

-- ---- answers
clash : {A : Type 0} → ◌≡◌ {A = ℕ} 0 1 → A
clash e = absurd (omega arith)

-- what is answered is what would be answered where every test passes
answered : {A : Type 0} (tests : List (Option Refusal)) (a b : A) → Ok b ≡ tested tests a → b ≡ a
answered [] a b e = cc
answered (Some r ∷ tests) a b e = clash (cc)
answered (None ∷ tests) a b e = answered tests a b e

-- an answer leaves the state after it
left_after : {A S : Type 0} (r : Result A Refusal) (a : A) (after before : S) → Ok a ≡ r → left_by r after before ≡ after
left_after (Ok b) a after before e = refl
left_after (Err q) a after before e = clash (cc)

-- ---- the token
two-pass : (owed short : Bool) (n : ℕ) (r : Refusal) → owed ≡ true → short ≡ false → Err r ≡ tested (fails_if (not owed) WrongToken ∷ (fails_if short PageTooShort ∷ [])) n → ⊥
two-pass true true n r e f h = clash (cc)
two-pass true false n r e f h = clash (cc)
two-pass false short n r e f h = clash (cc)

all_three : (report one two : Bool) → report ≡ true → one ≡ true → two ≡ true → (report && (one && two)) ≡ true
all_three true true true e f g = refl
all_three true true false e f g = g
all_three true false two e f g = f
all_three false one two e f g = e

-- the state that a clearing leaves owes the report of that clearing
owed-after : {C : Type 0} (m : Meaning C) (s : State C) (fills : List Fill) (ws : List Weight) (a : Cleared) (h k : ℕ) → Ok a ≡ clear_answer m s fills ws → h ≡ s.number → k ≡ a.clearing → is_owed (booked_state m s fills ws) h k ≡ true
owed-after m s fills ws a h k e number clearing =
    let same = answered (clear_tests m s fills ws) (cleared m s fills ws) a e in
    all_three true (eqb h s.number) (eqb k (cleared m s fills ws).clearing) refl (eq-eqb h s.number number) (eq-eqb k (cleared m s fills ws).clearing (clearing ∙ ap (λ b. b.clearing) same))

-- a token for the report that is owed is never refused on a page that takes every report
pub owed-taken : {C : Type 0} (s : State C) (h k : ℕ) (page : List ℕ) (r : Refusal) → is_owed s h k ≡ true → 285 ≤ length page → Err r ≡ publish_answer s h k page → ⊥
owed-taken s h k page r owed room refused =
    let text = report_text s.latest in
    two-pass (is_owed s h k) (ltb (length page) (length text)) (length text) r owed (le-ltb (length page) (length text) (omega (arith, report-fits s.latest))) refused

pub never-refused : {C : Type 0} (m : Meaning C) (s s' : State C) (fills : List Fill) (ws : List Weight) (a : Cleared) (h k : ℕ) (page : List ℕ) (r : Refusal) → Ok a ≡ clear_answer m s fills ws → s' ≡ clear_after m s fills ws → h ≡ s.number → k ≡ a.clearing → 285 ≤ length page → Err r ≡ publish_answer s' h k page → ⊥
never-refused m s s' fills ws a h k page r e after number clearing room refused =
    let booked = after ∙ left_after (clear_answer m s fills ws) a (booked_state m s fills ws) s e in
    owed-taken s' h k page r (ap (λ t. is_owed t h k) booked ∙ owed-after m s fills ws a h k e number clearing) room refused

-- a refusal leaves the state before it
left-before : {A S : Type 0} (r : Result A Refusal) (q : Refusal) (after before : S) → Err q ≡ r → left_by r after before ≡ before
left-before (Ok b) q after before e = clash (cc)
left-before (Err p) q after before e = refl

-- after a publish that was refused, the report of the clearing is owed as before
pub still-owed : {C : Type 0} (m : Meaning C) (s s' s'' : State C) (fills : List Fill) (ws : List Weight) (h k : ℕ) (page : List ℕ) (r : Refusal) → s' ≡ clear_after m s fills ws → s'' ≡ publish_after s' h k page → Err r ≡ publish_answer s' h k page → s'' ≡ clear_after m s fills ws
still-owed m s s' s'' fills ws h k page r after later refused = later ∙ left-before (publish_answer s' h k page) r (published s') s' refused ∙ after

three-refuse : {A S : Type 0} (high closed owed : Bool) (a : A) (after before : S) → owed ≡ true → left_by (tested (fails_if high Price ∷ (fails_if closed Closed ∷ (fails_if owed ReportOwed ∷ []))) a) after before ≡ before
three-refuse true closed owed a after before e = refl
three-refuse false true owed a after before e = refl
three-refuse false false true a after before e = refl
three-refuse false false false a after before e = clash (cc)

-- and a house that owes it does not settle
pub not-settled : {C : Type 0} (m : Meaning C) (s s' s'' : State C) (fills : List Fill) (ws : List Weight) (a : Cleared) (price : ℕ) → Ok a ≡ clear_answer m s fills ws → s' ≡ clear_after m s fills ws → s'' ≡ settle_after m s' price → s'' ≡ clear_after m s fills ws
not-settled m s s' s'' fills ws a price e after later =
    let booked = after ∙ left_after (clear_answer m s fills ws) a (booked_state m s fills ws) s e in
    let owes : s'.report ≡ true = ap (λ t. t.report) booked in
    later ∙ three-refuse (ltb s'.top price) s'.closed s'.report tt (settled m s' price) s' owes ∙ after

-- a publish answers the length of a report
pub report-length : {C : Type 0} (s : State C) (h k : ℕ) (page : List ℕ) (n : ℕ) → Ok n ≡ publish_answer s h k page → n ≤ 285
report-length s h k page n e =
    let same : n ≡ length (report_text s.latest) = answered (fails_if (not (is_owed s h k)) WrongToken ∷ (fails_if (ltb (length page) (length (report_text s.latest))) PageTooShort ∷ [])) (length (report_text s.latest)) n e in
    omega (arith, same, report-fits s.latest)
