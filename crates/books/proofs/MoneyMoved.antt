-- The accounts after money moved: what each has, and how far that is from what it had. Assumes nothing.
use Rattle.std.proofs.Common.{◌≡◌, ℕ, zero, suc, ◌+◌, ◌-◌, ◌<◌, ◌≤◌, Bool, true, cond, eqb, List, [], ◌∷◌, length, get_or, ℤ, pos, ◌+ℤ◌, neg_ℤ, ◌≤ℤ◌, refl, ap, ◌∙◌, ⊎_elim, arith, length-set}
use lib.IntN.{+ℤ_idr}
use Rattle.std.proofs.lemmas.List.{get_or-set_same, get_or-set_other}
use Rattle.std.proofs.lemmas.Int.{ints}
use Rattle.std.proofs.lemmas.Bool.{and_parts, and_from, cases_eq}
use Rattle.std.proofs.lemmas.Bool.Decides.{nat_tests}
use Rattle.std.specs.List.{list_all}
use Rattle.matching.specs.Sums.{total, Small}
use Rattle.matching.proofs.Running.{small-sum, small-more}
use Rattle.books.specs.Money.{is_member, cash_of, credited, moved_from, moved, at_least, within}
use Rattle.books.proofs.Sums.{total-set}
use Rattle.books.proofs.Within.{leZ-true, true-leZ, small-from, within-from}

pub member-low : (n : ℕ) → is_member n ≡ true → 1 ≤ n
member-low n one = grind (arith, nat_tests)

pub member-high : (n : ℕ) → is_member n ≡ true → n ≤ 64
member-high n one = grind (arith, nat_tests)

pub member-from : (n : ℕ) → 1 ≤ n → n ≤ 64 → is_member n ≡ true
member-from n low high = grind (arith, nat_tests)

-- ---- one account credited
pub length-credited : (members : List ℤ) (n : ℕ) (z : ℤ) → length (credited members n z) ≡ length members
length-credited members n z = length-set members (n - 1) (cash_of members n +ℤ z)

pub cash-credited : (members : List ℤ) (n k : ℕ) (z : ℤ) → length members ≡ 64 → is_member n ≡ true → is_member k ≡ true → cash_of (credited members n z) k ≡ cash_of members k +ℤ cond (eqb n k) z (pos 0)
cash-credited members n k z count one other =
    let low = member-low n one in
    let high = member-high n one in
    let low' = member-low k other in
    ⊎_elim
    (λ (e : n ≡ k).
    let here : cond (eqb n k) z (pos 0) ≡ z = grind (arith, nat_tests) in
    rw (here, ← e) (get_or-set_same members (n - 1) (cash_of members n +ℤ z) (pos 0) (omega arith)))
    (λ (e : n ≡ k → ⊥).
    let here : cond (eqb n k) z (pos 0) ≡ pos 0 = grind (arith, nat_tests) in
    let apart : (k - 1 ≡ n - 1) → ⊥ = λ same. e (omega arith) in
    omega (arith, ints, get_or-set_other members (n - 1) (k - 1) (cash_of members n +ℤ z) (pos 0) apart))
    (cases_eq n k)

-- what each member had covered is still covered where the one credited has enough
pub credited-covers : (need : ℕ → ℤ) (members : List ℤ) (n : ℕ) (z : ℤ) → length members ≡ 64 → is_member n ≡ true → ((k : ℕ) → is_member k ≡ true → need k ≤ℤ cash_of members k) → need n ≤ℤ (cash_of members n +ℤ z) → (k : ℕ) → is_member k ≡ true → need k ≤ℤ cash_of (credited members n z) k
credited-covers need members n z count one before here k other =
    let after = cash-credited members n k z count one other in
    ⊎_elim
    (λ (e : n ≡ k).
    let hit : cond (eqb n k) z (pos 0) ≡ z = grind (arith, nat_tests) in
    let own : need k ≤ℤ (cash_of members k +ℤ z) = rw e at here in
    omega (arith, ints))
    (λ (e : n ≡ k → ⊥).
    let miss : cond (eqb n k) z (pos 0) ≡ pos 0 = grind (arith, nat_tests) in
    omega (arith, ints, before k other))
    (cases_eq n k)

pub total-credited : (members : List ℤ) (n : ℕ) (z : ℤ) → length members ≡ 64 → is_member n ≡ true → total (λ x. x) (credited members n z) ≡ total (λ x. x) members +ℤ z
total-credited members n z count one =
    let low = member-low n one in
    let high = member-high n one in
    omega (arith, ints, total-set (λ x. x) members (n - 1) (cash_of members n +ℤ z) (pos 0) (omega arith))

-- ---- all accounts moved
length-moved_from : (k : ℕ) (f : ℕ → ℤ) (members : List ℤ) → length (moved_from k f members) ≡ length members
length-moved_from k f [] = refl
length-moved_from k f (c ∷ cs) = ap suc (length-moved_from (suc k) f cs)

pub length_moved : (f : ℕ → ℤ) (members : List ℤ) → length (moved f members) ≡ length members
length_moved f members = length-moved_from 1 f members

moved_from-at : (k i : ℕ) (f : ℕ → ℤ) (members : List ℤ) → i < length members → get_or (moved_from k f members) i (pos 0) ≡ get_or members i (pos 0) +ℤ f (k + i)
moved_from-at k i f [] within = absurd (omega arith)
moved_from-at k zero f (c ∷ cs) within = let e : k + 0 ≡ k = omega arith in rw e
moved_from-at k (suc i) f (c ∷ cs) within = let e : k + suc i ≡ suc k + i = omega arith in rw e (moved_from-at (suc k) i f cs (omega arith))

pub cash-moved : (f : ℕ → ℤ) (members : List ℤ) (n : ℕ) → length members ≡ 64 → is_member n ≡ true → cash_of (moved f members) n ≡ cash_of members n +ℤ f n
cash-moved f members n count one =
    let low = member-low n one in
    let high = member-high n one in
    let at : 1 + (n - 1) ≡ n = omega arith in
    moved_from-at 1 (n - 1) f members (omega arith) ∙ ap (λ k. cash_of members n +ℤ f k) at

-- only the amounts of the members that there are count
pub moved_same : (f g : ℕ → ℤ) (n : ℕ) (members : List ℤ) → ((k : ℕ) → n ≤ k → k < n + length members → f k ≡ g k) → moved_from n f members ≡ moved_from n g members
moved_same f g n [] same = refl
moved_same f g n (c ∷ cs) same =
    ap (λ z. (c +ℤ z) ∷ moved_from (suc n) f cs) (same n (omega arith) (omega arith)) ∙
    ap (λ zs. (c +ℤ g n) ∷ zs) (moved_same f g (suc n) cs (λ k low high. same k (omega arith) (omega arith)))

module _ (f : ℕ → ℤ) where
  pub moved_none : ((n : ℕ) → f n ≡ pos 0) → (n : ℕ) (members : List ℤ) → moved_from n f members ≡ members
  moved_none none n [] = refl
  moved_none none n (c ∷ cs) = ap (λ z. z ∷ moved_from (suc n) f cs) (ap (λ z. c +ℤ z) (none n) ∙ +ℤ_idr c) ∙ ap (λ zs. c ∷ zs) (moved_none none (suc n) cs)

  -- a test that holds of each before, and of each after what an amount makes of it
  pub moved-every : (test test' : ℤ → Bool) → ((z : ℤ) (n : ℕ) → test z ≡ true → test' (z +ℤ f n) ≡ true) → (n : ℕ) (members : List ℤ) → list_all test members ≡ true → list_all test' (moved_from n f members) ≡ true
  moved-every test test' step n [] e = refl
  moved-every test test' step n (c ∷ cs) e =
      let parts = and_parts (test c) (list_all test cs) e in
      and_from (test' (c +ℤ f n)) (list_all test' (moved_from (suc n) f cs)) (step c n parts.0) (moved-every test test' step (suc n) cs parts.1)

  -- small amounts keep small accounts small, and leave no account far below what it was
  pub moved-within : (a b t : ℕ) → a + b ≤ t → ((n : ℕ) → Small b (f n)) → (members : List ℤ) → list_all (within a) members ≡ true → list_all (within t) (moved f members) ≡ true
  moved-within a b t room each members e =
      moved-every (within a) (within t) (λ z n h. within-from t (z +ℤ f n) (small-more (a + b) t (z +ℤ f n) room (small-sum a b z (f n) (small-from a z h) (each n)))) 1 members e

  pub moved-low : (a b : ℕ) → ((n : ℕ) → Small b (f n)) → (members : List ℤ) → list_all (at_least a) members ≡ true → list_all (at_least (a + b)) (moved f members) ≡ true
  moved-low a b each members e =
      moved-every (at_least a) (at_least (a + b)) (λ z n h. true-leZ (neg_ℤ (pos (a + b))) (z +ℤ f n) (low z (f n) (leZ-true (neg_ℤ (pos a)) z h) (each n).low)) 1 members e
    where
      low : (x y : ℤ) → neg_ℤ (pos a) ≤ℤ x → neg_ℤ (pos b) ≤ℤ y → neg_ℤ (pos (a + b)) ≤ℤ (x +ℤ y)
      low x y p q = omega (arith, ints)
