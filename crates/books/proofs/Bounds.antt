-- In a sound state every figure is far within its type. Assumes nothing.
use Rattle.std.proofs.Common.{◌≡◌, ℕ, ◌+◌, ◌-◌, ◌*◌, ◌^◌, ◌≤◌, true, length, ℤ, pos, ◌+ℤ◌, neg_ℤ, ◌≤ℤ◌, arith, SFits, lit<}
use mir.Syntax.{w128}
use Rattle.std.proofs.lemmas.Int.{ints}
use Rattle.std.proofs.lemmas.Bool.Decides.{nat_tests}
use Rattle.std.specs.List.{list_all}
use Rattle.matching.specs.Sums.{total, Small}
use Rattle.matching.proofs.Running.{small-more, small-sum}
use Rattle.books.specs.Calls.{max_cash}
use Rattle.books.specs.Money.{within, cash_of}
use Rattle.books.specs.Sound.{Sound, floor}
use Rattle.books.specs.State.{State, all_cash}
use Rattle.books.proofs.Within.{leZ-true, small-from, within-from, every_more, small_at, small-fits, low-total, within-total}

module _ {C : Type 0} {s : State C} (ok : Sound s) where
  -- there are fewer than 2 ^ 20 clearings, and one settlement
  floor-low : floor s ≤ 2 ^ 77
  floor-low = let few : s.latest.clearing ≤ 999999 = grind (arith, nat_tests) in grind (arith, nat_tests)

  cash-low : neg_ℤ (pos (2 ^ 77)) ≤ℤ s.cash
  cash-low = let h : neg_ℤ (pos (floor s)) ≤ℤ s.cash = leZ-true (neg_ℤ (pos (floor s))) s.cash ok.cash in omega (arith, ints, floor-low)

  members-low : neg_ℤ (pos (64 * 2 ^ 77)) ≤ℤ total (λ z. z) s.members
  members-low =
      let low = low-total (floor s) s.members ok.members in
      let many : length s.members * floor s ≤ 64 * 2 ^ 77 = rw ok.sized (omega (arith, floor-low)) in
      omega (arith, ints, low, many)

  -- what one side has is the limit less what the other is short of at most
  all-high : (total (λ z. z) s.members +ℤ s.cash) ≤ℤ pos max_cash
  all-high = leZ-true (all_cash s) (pos max_cash) ok.all

  pub cash-small : Small (2 ^ 90) s.cash
  cash-small = record { low = omega (arith, ints, cash-low); high = omega (arith, ints, all-high, members-low) }

  pub total-small : Small (2 ^ 90) (total (λ z. z) s.members)
  total-small = record { low = omega (arith, ints, members-low); high = omega (arith, ints, all-high, cash-low) }

  pub members-small : (b : ℕ) → 2 ^ 90 ≤ b → list_all (within b) s.members ≡ true
  members-small b wide =
      let high : total (λ z. z) s.members ≤ℤ pos (2 ^ 78) = omega (arith, ints, all-high, cash-low) in
      let many : length s.members * floor s ≤ 64 * 2 ^ 77 = rw ok.sized (omega (arith, floor-low)) in
      every_more (within (2 ^ 78 + length s.members * floor s)) (within b) (λ z h. within-from b z (small-more (2 ^ 78 + length s.members * floor s) b z (omega arith) (small-from (2 ^ 78 + length s.members * floor s) z h))) s.members (within-total (floor s) (2 ^ 78) s.members ok.members high)

  pub member-small : (b n : ℕ) → 2 ^ 90 ≤ b → Small b (cash_of s.members n)
  member-small b n wide = small_at b s.members (n - 1) (members-small b wide)

  pub reserve-small : Small (2 ^ 126) s.reserve
  reserve-small =
      let few : s.latest.clearing ≤ 999999 = let h = ok.numbers in grind (arith, nat_tests) in
      small-more (s.latest.clearing * 2 ^ 105) (2 ^ 126) s.reserve (omega arith) (small-from (s.latest.clearing * 2 ^ 105) s.reserve ok.reserve)

  -- what a clearing and a settlement add to the house's cash and reserve keeps within the type
  pub cash-fits : (change : ℤ) → Small (2 ^ 106) change → SFits w128 (s.cash +ℤ change)
  cash-fits change few = small-fits w128 (2 ^ 90 + 2 ^ 106) (s.cash +ℤ change) (lit< tt) (small-sum (2 ^ 90) (2 ^ 106) s.cash change cash-small few)

  pub reserve-fits : (change : ℤ) → Small (2 ^ 106) change → SFits w128 (s.reserve +ℤ change)
  reserve-fits change few = small-fits w128 (2 ^ 126 + 2 ^ 106) (s.reserve +ℤ change) (lit< tt) (small-sum (2 ^ 126) (2 ^ 106) s.reserve change reserve-small few)
