-- Products of a whole number with an integer. Assumes nothing.
use Rattle.std.proofs.Common.{◌≡◌, ℕ, ◌+◌, ◌*◌, ℤ, pos, ◌+ℤ◌, ◌-ℤ◌, ◌*ℤ◌, neg_ℤ, ◌≤ℤ◌, ap, ◌∙◌, mul-le-mul_left, arith}
use borrow.Author.Differences.{ints, sum_is_lem, neg_is, le_out}

pub times-sum : (n : ℕ) (a b : ℤ) → pos n *ℤ (a +ℤ b) ≡ (pos n *ℤ a) +ℤ (pos n *ℤ b)
times-sum n a b = let times = ap (λ (x : ℕ). n * x) (sum_is_lem a b) in omega (arith, ints)

pub times-negative : (n : ℕ) (a : ℤ) → pos n *ℤ neg_ℤ a ≡ neg_ℤ (pos n *ℤ a)
times-negative n a =
    let up-times = ap (λ (x : ℕ). n * x) (neg_is a).0 in
    let down-times = ap (λ (x : ℕ). n * x) (neg_is a).1 in
    omega (arith, ints)

pub times-difference : (n : ℕ) (a b : ℤ) → pos n *ℤ (a -ℤ b) ≡ (pos n *ℤ a) -ℤ (pos n *ℤ b)
times-difference n a b = times-sum n a (neg_ℤ b) ∙ ap (λ z. (pos n *ℤ a) +ℤ z) (times-negative n b)

pub times-at-most : (n : ℕ) (a b : ℤ) → a ≤ℤ b → (pos n *ℤ a) ≤ℤ (pos n *ℤ b)
times-at-most n a b low = let times = mul-le-mul_left n (le_out a b low) in omega (arith, ints)

pub sum-times : (m n : ℕ) (a : ℤ) → pos (m + n) *ℤ a ≡ (pos m *ℤ a) +ℤ (pos n *ℤ a)
sum-times m n a = omega (arith, ints)
