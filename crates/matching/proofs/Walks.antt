-- A loop that counts up until a test holds. Assumes nothing.
use Rattle.std.proofs.Common.{◌≡◌, ℕ, suc, ◌+◌, ◌-◌, ◌<◌, Bool, cond, Some, arith}
use Rattle.std.specs.List.{find, range_with_len}

-- among the indices from i to n either i is the first, or the search goes on above it
pub find_next : (test : ℕ → Bool) (i n : ℕ) → i < n → find test (range_with_len i (n - i)) ≡ cond (test i) (Some i) (find test (range_with_len (i + 1) (n - (i + 1))))
find_next test i n within = let split : n - i ≡ suc (n - (i + 1)) = omega arith in rw split
