-- What the accounts have together, and what is left of it where money moves. Assumes nothing.
use Rattle.std.proofs.Common.{◌≡◌, ℕ, zero, suc, ◌+◌, ◌*◌, ◌<◌, ◌≤◌, Bool, true, false, cond, eqb, ◌⊎◌, List, [], ◌∷◌, length, ℤ, pos, ◌+ℤ◌, neg_ℤ, sym, refl, ap, ◌∙◌, inl, inr, ⊎_elim, mul-le-mul_right, suc-mul, arith}
use Rattle.std.proofs.ByRecursion.{All-weaker}
use Rattle.std.proofs.lemmas.Int.{ints}
use Rattle.std.proofs.lemmas.Bool.{cases_eq, cond_both}
use Rattle.std.specs.List.{AllByRecursion, list_all}
use Rattle.matching.specs.declared.rows.Row.{Row}
use Rattle.matching.specs.Sums.{total, Small}
use Rattle.matching.proofs.Running.{small-sum, small-more}
use Rattle.matching.proofs.Totals.{total-none}
use Rattle.books.specs.Money.{is_member, moved, moved_from, share, at_least}
use Rattle.books.proofs.MoneyMoved.{member-low, member-high, moved_same, moved-low}
use Rattle.books.proofs.Paying.{for_one, for-same, for-other, for-small}
use Rattle.books.proofs.Sums.{total-plus, total-same, total-negative}
use Rattle.books.proofs.Within.{small-none, small-negative}

share-negative : {C : Type 0} (f : Row C → ℤ) (rows : List (Row C)) (n : ℕ) → share (λ r. neg_ℤ (f r)) rows n ≡ neg_ℤ (share f rows n)
share-negative f rows n =
    total-same (λ r. cond (eqb r.member n) (neg_ℤ (f r)) (pos 0)) (λ r. neg_ℤ (cond (eqb r.member n) (f r) (pos 0))) (λ r. turned (eqb r.member n) (f r)) rows ∙
    total-negative (λ r. cond (eqb r.member n) (f r) (pos 0)) rows
  where
    turned : (b : Bool) (z : ℤ) → cond b (neg_ℤ z) (pos 0) ≡ neg_ℤ (cond b z (pos 0))
    turned true z = refl
    turned false z = refl

-- what is credited negative is debited
pub moved-negative : {C : Type 0} (f : Row C → ℤ) (rows : List (Row C)) (members : List ℤ) → moved (share (λ r. neg_ℤ (f r)) rows) members ≡ moved (λ n. neg_ℤ (share f rows n)) members
moved-negative f rows members = moved_same (share (λ r. neg_ℤ (f r)) rows) (λ n. neg_ℤ (share f rows n)) 1 members (λ n low high. share-negative f rows n)

-- k whole numbers, from n on
unfoldable numbers : ℕ → ℕ → List ℕ
numbers n zero = []
numbers n (suc k) = n ∷ numbers (suc n) k

-- what each member gets adds up
total-moved : (f : ℕ → ℤ) (n : ℕ) (members : List ℤ) → total (λ c. c) (moved_from n f members) ≡ total (λ c. c) members +ℤ total f (numbers n (length members))
unfolding numbers
total-moved f n [] = refl
total-moved f n (c ∷ cs) = omega (arith, ints, total-moved f (suc n) cs)

for_one-past : (n : ℕ) (z : ℤ) (m k : ℕ) → n < m → total (for_one n z) (numbers m k) ≡ pos 0
unfolding numbers
for_one-past n z m zero h = refl
for_one-past n z m (suc k) h = omega (arith, ints, for-other n m z (λ e. omega arith), for_one-past n z (suc m) k (omega arith))

for_one-once : (n : ℕ) (z : ℤ) (m k : ℕ) → m ≤ n → n < m + k → total (for_one n z) (numbers m k) ≡ z
unfolding numbers
for_one-once n z m zero low high = absurd (omega arith)
for_one-once n z m (suc k) low high =
    ⊎_elim
    (λ e. omega (arith, ints, ap (for_one n z) e, for-same n z, for_one-past n z (suc m) k (omega arith)))
    (λ e. omega (arith, ints, for-other n m z (λ s. e (sym s)), for_one-once n z (suc m) k (omega arith) (omega arith)))
    (cases_eq m n)

-- an amount for one is the whole, if it is a member or there is nothing
for_one-all : (n : ℕ) (z : ℤ) → (is_member n ≡ true) ⊎ (z ≡ pos 0) → total (for_one n z) (numbers 1 64) ≡ z
for_one-all n z =
    ⊎_elim
    (λ e. for_one-once n z 1 64 (member-low n e) (let high = member-high n e in omega arith))
    (λ e. total-none (for_one n z) (λ k. cond_both (eqb n k) z (pos 0) (λ y. y ≡ pos 0) (λ h. e) (λ h. refl)) (numbers 1 64) ∙ sym e)

module _ {C : Type 0} (f : Row C → ℤ) where
  -- a row through which anything flows is a member's
  abbrev pub Owned : Row C → Type 0
  Owned r = (is_member r.member ≡ true) ⊎ (f r ≡ pos 0)

  pub all-owned : (rows : List (Row C)) → AllByRecursion (λ r. is_member r.member ≡ true) rows → AllByRecursion Owned rows
  all-owned rows each = All-weaker (λ r. is_member r.member ≡ true) Owned (λ r one. inl one) rows each

  -- the members' shares add up to what flows
  total-shares : (rows : List (Row C)) → AllByRecursion Owned rows → total (share f rows) (numbers 1 64) ≡ total f rows
  total-shares [] each = total-none (share f []) (λ n. refl) (numbers 1 64)
  total-shares (r ∷ rows) each =
      total-plus (for_one r.member (f r)) (share f rows) (share f (r ∷ rows)) (λ n. refl) (numbers 1 64) ∙
      ap (λ z. z +ℤ total (share f rows) (numbers 1 64)) (for_one-all r.member (f r) each.0) ∙
      ap (λ z. f r +ℤ z) (total-shares rows each.1)

  -- so the accounts' sum changes by just what flows
  pub total-paid : (rows : List (Row C)) → AllByRecursion Owned rows → (members : List ℤ) → length members ≡ 64 → total (λ c. c) (moved (share f rows) members) ≡ total (λ c. c) members +ℤ total f rows
  total-paid rows each members all =
      total-moved (share f rows) 1 members ∙ ap (λ k. total (λ c. c) members +ℤ total (share f rows) (numbers 1 k)) all ∙ ap (λ z. total (λ c. c) members +ℤ z) (total-shares rows each)

  -- a member's share is small, where what flows through each row is
  pub share-small : (b : ℕ) (rows : List (Row C)) → AllByRecursion (λ r. Small b (f r)) rows → (n : ℕ) → Small (length rows * b) (share f rows n)
  share-small b [] each n = small-none (0 * b)
  share-small b (r ∷ rows) each n =
      small-more (b + length rows * b) (suc (length rows) * b) (share f (r ∷ rows) n) (omega (arith, suc-mul (length rows) b)) (small-sum b (length rows * b) (for_one r.member (f r) n) (share f rows n) (for-small b r.member n (f r) each.0) (share-small b rows each.1 n))

  -- so no account is debited much
  pub debited-low : (b n a : ℕ) (rows : List (Row C)) → AllByRecursion (λ r. Small b (f r)) rows → length rows ≤ n → (members : List ℤ) → list_all (at_least a) members ≡ true → list_all (at_least (a + n * b)) (moved (λ k. neg_ℤ (share f rows k)) members) ≡ true
  debited-low b n a rows each few members h =
      moved-low (λ k. neg_ℤ (share f rows k)) a (n * b) (λ k. small-negative (n * b) (share f rows k) (small-more (length rows * b) (n * b) (share f rows k) (mul-le-mul_right b few) (share-small b rows each k))) members h

pub total-debited : {C : Type 0} (f : Row C → ℤ) (rows : List (Row C)) → AllByRecursion (Owned f) rows → (members : List ℤ) → length members ≡ 64 → total (λ c. c) (moved (λ n. neg_ℤ (share f rows n)) members) ≡ total (λ c. c) members +ℤ neg_ℤ (total f rows)
total-debited f rows each members all =
    ap (total (λ c. c)) (sym (moved-negative f rows members)) ∙
    total-paid (λ r. neg_ℤ (f r)) rows (All-weaker (Owned f) (Owned (λ r. neg_ℤ (f r))) (λ r. ⊎_elim inl (λ s. inr (ap neg_ℤ s))) rows each) members all ∙
    ap (λ z. total (λ c. c) members +ℤ z) (total-negative f rows)
