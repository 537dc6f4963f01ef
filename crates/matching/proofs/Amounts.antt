-- Amounts of 128 bits that stay within their type. Assumes nothing.
use Rattle.std.proofs.Common.{◌≡◌, ℕ, ◌+◌, ◌*◌, ◌^◌, ◌<◌, ◌≤◌, ℤ, pos, ◌-ℤ◌, ◌*ℤ◌, neg_ℤ, mul-le-mul_right, arith, SFits, to_z, of_z}
use lib.Signed.{mag}
use mir.Syntax.{w64, w128}
use mir.Val.{hbits}
use Rattle.std.proofs.lemmas.Int.{ints, to_z-of_z}
use Rattle.matching.specs.Sums.{Small}
use Rattle.matching.proofs.Integers.{times-at-most, times-negative}
use Rattle.matching.proofs.Running.{small-more}

-- an amount that is passed or returned goes to bits and back
abbrev pub back : ℤ → ℤ
back z = to_z w128 (of_z w128 z)

abbrev pub Fitting : ℤ → Type 0
Fitting z = mag z < 2 ^ hbits w128

pub again : (z : ℤ) → Fitting z → back z ≡ z
again z ok = to_z-of_z w128 z (record { sfits = ok })

pub small-fits : (n : ℕ) (z : ℤ) → n < 2 ^ hbits w128 → Small n z → Fitting z
small-fits n z low small = let fits : SFits w128 z = omega (arith, ints, small.low, small.high) in fits.sfits

pub small-back : (n k : ℕ) (z : ℤ) → n ≤ k → n < 2 ^ hbits w128 → Small n z → Small k (back z)
small-back n k z h low small = rw (again z (small-fits n z low small)) (small-more n k z h small)

pub times-small : (n a b : ℕ) (z : ℤ) → n ≤ a → Small b z → Small (a * b) (pos n *ℤ z)
times-small n a b z few small =
    let more = mul-le-mul_right {m = n} {n = a} b few in
    record {
      low = omega (arith, ints, more, times-at-most n (neg_ℤ (pos b)) z small.low, times-negative n (pos b));
      high = omega (arith, ints, more, times-at-most n z (pos b) small.high);
    }

-- the difference of two fits where they are small together
pub difference-fits : (a b : ℕ) (x y : ℤ) → a + b < 2 ^ hbits w128 → Small a x → Small b y → Fitting (x -ℤ y)
difference-fits a b x y low p q = small-fits (a + b) (x -ℤ y) low (record { low = omega (arith, ints, p.low, q.high); high = omega (arith, ints, p.high, q.low) })

-- a product of two that went to bits and back
pub times-back : (n : ℕ) (x z : ℤ) → Fitting x → Fitting z → x ≡ pos n → (back x *ℤ back z) ≡ pos n *ℤ z
times-back n x z x-ok z-ok is = rw (again x x-ok, again z z-ok, is)

-- an amount that is narrowed once it is known to be small
narrow-same : (n : ℕ) (z : ℤ) → n < 2 ^ hbits w64 → Small n z → back z ≡ z
narrow-same n z low small = again z (small-fits n z (omega arith) small)

pub narrow-fits : (n : ℕ) (z : ℤ) → n < 2 ^ hbits w64 → Small n z → SFits w64 (back z)
narrow-fits n z low small = rw (narrow-same n z low small) (omega (arith, ints, small.low, small.high))

pub narrowed : (n : ℕ) (z : ℤ) → n < 2 ^ hbits w64 → Small n z → to_z w64 (of_z w64 (back z)) ≡ z
narrowed n z low small = rw (narrow-same n z low small) (to_z-of_z w64 z (omega (arith, ints, small.low, small.high)))

pub narrow-small : (n : ℕ) (z : ℤ) → n < 2 ^ hbits w64 → Small n z → Small n (to_z w64 (of_z w64 (back z)))
narrow-small n z low small = rw (narrowed n z low small) small
