-- Tests of every account, and what keeps a figure within its type. Assumes nothing.
use Rattle.std.proofs.Common.{◌≡◌, ℕ, zero, suc, ◌+◌, ◌-◌, ◌*◌, ◌^◌, ◌<◌, ◌≤◌, Bool, true, false, List, [], ◌∷◌, length, get_or, set, ℤ, pos, ◌+ℤ◌, neg_ℤ, ◌≤ℤ◌, sym, refl, subst, suc-mul, arith, SFits, to_z, of_z}
use lib.Signed.{le_z, lt_z, mag}
use mir.Syntax.{Width}
use mir.Val.{hbits}
use Rattle.std.proofs.lemmas.Int.{ints, to_z-of_z}
use Rattle.std.proofs.lemmas.Bool.{and_parts, and_from}
use Rattle.std.proofs.lemmas.List.Elements.{All-set, All-weaker, All-from_recursion, recursion_from_All}
use Rattle.std.proofs.lemmas.List.Sums.{AllPass-from_list_all, list_all-from_AllPass}
use Rattle.std.specs.List.{AllByRecursion, list_all}
use Rattle.matching.specs.Sums.{total, Small}
use Rattle.matching.proofs.Running.{small-more}
use Rattle.books.specs.Money.{cash_of, credited, at_least, within}

module _ {A : Type 0} (test : A → Bool) where
  -- at an index past the end it is the default that has to pass
  pub every-at : (d : A) → test d ≡ true → (xs : List A) (i : ℕ) → list_all test xs ≡ true → test (get_or xs i d) ≡ true
  every-at d else [] i e = else
  every-at d else (x ∷ xs) zero e = (and_parts (test x) (list_all test xs) e).0
  every-at d else (x ∷ xs) (suc i) e = every-at d else xs i (and_parts (test x) (list_all test xs) e).1

  pub every_set : (xs : List A) (i : ℕ) (x : A) → list_all test xs ≡ true → test x ≡ true → list_all test (set xs i x) ≡ true
  every_set xs i x e h = list_all-from_AllPass test (set xs i x) (All-set (λ y. test y ≡ true) xs i x h (AllPass-from_list_all test xs e))

  -- what a test tells of an element, another test may tell too
  pub every_more : (test' : A → Bool) → ((x : A) → test x ≡ true → test' x ≡ true) → (xs : List A) → list_all test xs ≡ true → list_all test' xs ≡ true
  every_more test' more xs e = list_all-from_AllPass test' xs (All-weaker (λ x. test x ≡ true) (λ x. test' x ≡ true) more xs (AllPass-from_list_all test xs e))

  -- the same, said of each element by itself
  pub all_from_every : (xs : List A) → list_all test xs ≡ true → AllByRecursion (λ x. test x ≡ true) xs
  all_from_every xs e = recursion_from_All (λ x. test x ≡ true) xs (AllPass-from_list_all test xs e)

  pub every_from_all : (xs : List A) → AllByRecursion (λ x. test x ≡ true) xs → list_all test xs ≡ true
  every_from_all xs each = list_all-from_AllPass test xs (All-from_recursion (λ x. test x ≡ true) xs each)

-- a credit changes one account only
pub every-credited : (test : ℤ → Bool) (members : List ℤ) (n : ℕ) (z : ℤ) → list_all test members ≡ true → test (cash_of members n +ℤ z) ≡ true → list_all test (credited members n z) ≡ true
every-credited test members n z e h = every_set test members (n - 1) (cash_of members n +ℤ z) e h

pub leZ-true : (a b : ℤ) → le_z a b ≡ true → a ≤ℤ b
leZ-true a b e = grind (arith, ints)

pub true-leZ : (a b : ℤ) → a ≤ℤ b → le_z a b ≡ true
true-leZ a b h = grind (arith, ints)

pub not-below : (a b : ℤ) → lt_z a b ≡ false → b ≤ℤ a
not-below a b e = grind (arith, ints)

-- what is above an account that is at least −b is so too, and so is what is not below zero
pub above : (b : ℕ) (y z : ℤ) → at_least b y ≡ true → y ≤ℤ z → at_least b z ≡ true
above b y z e h = true-leZ (neg_ℤ (pos b)) z (let low = leZ-true (neg_ℤ (pos b)) y e in omega (arith, ints))

pub above-none : (b : ℕ) (z : ℤ) → pos 0 ≤ℤ z → at_least b z ≡ true
above-none b z h = true-leZ (neg_ℤ (pos b)) z (omega (arith, ints))

pub small-from : (b : ℕ) (z : ℤ) → within b z ≡ true → Small b z
small-from b z e =
    let parts = and_parts (at_least b z) (le_z z (pos b)) e in
    record { low = leZ-true (neg_ℤ (pos b)) z parts.0; high = leZ-true z (pos b) parts.1 }

pub within-from : (b : ℕ) (z : ℤ) → Small b z → within b z ≡ true
within-from b z s = and_from (at_least b z) (le_z z (pos b)) (true-leZ (neg_ℤ (pos b)) z s.low) (true-leZ z (pos b) s.high)

pub small-negative : (b : ℕ) (z : ℤ) → Small b z → Small b (neg_ℤ z)
small-negative b z s = record { low = omega (arith, ints, s.high); high = omega (arith, ints, s.low) }

pub small-none : (b : ℕ) → Small b (pos 0)
small-none b = record { low = omega (arith, ints); high = omega (arith, ints) }

-- what is small enough fits its type
pub small-fits : (w : Width) (b : ℕ) (z : ℤ) → b < 2 ^ hbits w → Small b z → SFits w z
small-fits w b z h s = omega (arith, ints, s.low, s.high)

-- a call's argument goes to bits and back, and stays as small
pub small-passed : (w : Width) (a b : ℕ) (z : ℤ) → mag z < 2 ^ hbits w → a ≤ b → Small a z → Small b (to_z w (of_z w z))
small-passed w a b z ok h s = rw (to_z-of_z w z (record { sfits = ok })) (small-more a b z h s)

-- past the end of the list there is nothing, which is small too
pub small_at : (b : ℕ) (members : List ℤ) (i : ℕ) → list_all (within b) members ≡ true → Small b (get_or members i (pos 0))
small_at b members i e = small-from b (get_or members i (pos 0)) (every-at (within b) (pos 0) (within-from b (pos 0) (small-none b)) members i e)

-- No account has much more than all have together, where none is far below zero.

pub low-total : (a : ℕ) (members : List ℤ) → list_all (at_least a) members ≡ true → neg_ℤ (pos (length members * a)) ≤ℤ total (λ z. z) members
low-total a [] e = omega (arith, ints)
low-total a (c ∷ cs) e =
    let parts = and_parts (at_least a c) (list_all (at_least a) cs) e in
    omega (arith, ints, leZ-true (neg_ℤ (pos a)) c parts.0, low-total a cs parts.1, suc-mul (length cs) a)

pub within-total : (a t : ℕ) (members : List ℤ) → list_all (at_least a) members ≡ true → total (λ z. z) members ≤ℤ pos t → list_all (within (t + length members * a)) members ≡ true
within-total a t [] e h = refl
within-total a t (c ∷ cs) e h =
    let parts = and_parts (at_least a c) (list_all (at_least a) cs) e in
    let low = leZ-true (neg_ℤ (pos a)) c parts.0 in
    let rest = low-total a cs parts.1 in
    let same : t + suc (length cs) * a ≡ (t + a) + length cs * a = omega (arith, suc-mul (length cs) a) in
    subst (λ (k : ℕ). list_all (within k) (c ∷ cs) ≡ true) (sym same)
    (and_from (within ((t + a) + length cs * a) c) (list_all (within ((t + a) + length cs * a)) cs)
    (within-from ((t + a) + length cs * a) c (record { low = omega (arith, ints); high = omega (arith, ints) }))
    (within-total a (t + a) cs parts.1 (omega (arith, ints))))
