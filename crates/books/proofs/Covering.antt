-- What a member's orders hold covers what its filled lots pay at any price. Assumes nothing.
use Rattle.std.proofs.Common.{ℕ, ◌*◌, ◌≤◌, cond, eqb, List, ℤ, pos, ◌+ℤ◌, ◌≤ℤ◌, refl, mul-le-mul_right, arith}
use Rattle.std.proofs.ByRecursion.{All-weaker}
use Rattle.std.proofs.lemmas.Int.{ints}
use Rattle.std.proofs.lemmas.Bool.Decides.{nat_tests}
use Rattle.std.specs.List.{AllByRecursion}
use Rattle.instruments.specs.Bounds.{IsCeiling}
use Rattle.instruments.specs.Meaning.{Meaning}
use Rattle.instruments.specs.Rules.{Rules, Valid}
use Rattle.matching.proofs.Totals.{total-none}
use Rattle.matching.specs.declared.rows.Row.{Row}
use Rattle.matching.specs.declared.rows.Side.{Side}
use Rattle.matching.specs.declared.rows.Side.TheVariants.{Buy, Sell}
use Rattle.matching.specs.Figures.{row_owed, filled_lots}
use Rattle.matching.specs.Rows.{signed, hold, held, held_in_row}
use Rattle.books.specs.Settling.{paid_out}
use Rattle.books.proofs.Sums.{total-plus, total-below}

module _ {C : Type 0} (m : Meaning C) (top price n : ℕ) where
  order-covered : (r : Row C) (side : Side) → m.payoff top r.contract price ≤ m.collateral top r.contract → pos 0 ≤ℤ (pos (hold m top r side) +ℤ signed side (m.payoff top r.contract price * r.filled))
  order-covered r Buy low = omega (arith, ints)
  order-covered r Sell low = omega (arith, ints, mul-le-mul_right r.filled low)

  abbrev paid_in_row : Row C → ℤ
  paid_in_row r = cond (eqb r.member n) (row_owed m top filled_lots price r) (pos 0)

  row-covered : (r : Row C) → m.payoff top r.contract price ≤ m.collateral top r.contract → pos 0 ≤ℤ (held_in_row m top n r +ℤ paid_in_row r)
  row-covered r low = let own = order-covered r r.side low in grind (arith, ints, nat_tests)

  pub held-covers : Rules m → IsCeiling top → price ≤ top → (orders : List (Row C)) → AllByRecursion (λ r. Valid m top r.contract) orders → pos 0 ≤ℤ (held m top orders n +ℤ paid_out m top price orders n)
  held-covers rules ceiling under orders valid =
      let both : Row C → ℤ = λ r. held_in_row m top n r +ℤ paid_in_row r in
      let each = All-weaker (λ r. Valid m top r.contract) (λ r. pos 0 ≤ℤ both r) (λ r v. row-covered r ((rules top r.contract ceiling v).covered price under)) orders valid in
      omega (arith, ints, total-below (λ r. pos 0) both orders each, total-none {A = Row C} (λ r. pos 0) (λ r. refl) orders, total-plus (held_in_row m top n) paid_in_row both (λ r. refl) orders)
