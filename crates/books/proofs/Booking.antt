-- What booking the fills of a clearing does to the sums over the rows. Assumes nothing.
use Rattle.std.proofs.Common.{◌≡◌, ℕ, ◌+◌, ◌-◌, ◌*◌, ◌≤◌, false, cond, eqb, List, map, ℤ, pos, ◌+ℤ◌, ◌≤ℤ◌, refl, ap, ◌∙◌, arith}
use Rattle.std.proofs.ByRecursion.{All-weaker}
use Rattle.std.proofs.lemmas.Int.{ints}
use Rattle.std.proofs.lemmas.Bool.Decides.{nat_tests}
use Rattle.std.specs.List.{AllByRecursion}
use Rattle.instruments.specs.Meaning.{Meaning}
use Rattle.matching.specs.declared.proposals.Fill.{Fill}
use Rattle.matching.specs.declared.rows.Row.{Row}
use Rattle.matching.specs.declared.rows.Side.{Side}
use Rattle.matching.specs.declared.rows.Side.TheVariants.{Buy, Sell}
use Rattle.matching.specs.Figures.{row_cash, row_owed, owed, filled_lots, exposure}
use Rattle.matching.specs.Fills.{given}
use Rattle.matching.specs.Rows.{used, signed, hold, held, held_in_row}
use Rattle.books.specs.Clearing.{booked}
use Rattle.books.specs.Money.{share}
use Rattle.books.proofs.Alike.{no-open, no-filled}
use Rattle.books.proofs.Sums.{total-map, total-plus, total-below}

-- lots that are paid now are no longer held for
split-open : (p o g : ℕ) → g ≤ o → p * (o - g) + p * g ≡ p * o
split-open p o g few =
    let back : (o - g) + g ≡ o = omega arith in
    let times = ap (λ (x : ℕ). p * x) back in
    omega arith

signed-plus : (side : Side) (p a b : ℕ) → signed side (p * (a + b)) ≡ signed side (p * a) +ℤ signed side (p * b)
signed-plus Buy p a b = omega (arith, ints)
signed-plus Sell p a b = omega (arith, ints)

module _ {C : Type 0} (m : Meaning C) (top : ℕ) (fills : List Fill) where
  order-booked : (r : Row C) (side : Side) → given fills r ≤ r.«open» → (pos (hold m top (booked fills r) side) +ℤ signed side (r.price * given fills r)) ≤ℤ pos (hold m top r side)
  order-booked r Buy few = omega (arith, ints, split-open r.price r.«open» (given fills r) few)
  order-booked r Sell few =
      let same : (r.«open» - given fills r) + (r.filled + given fills r) ≡ r.«open» + r.filled = omega arith in
      rw same (omega (arith, ints))

  module _ (n : ℕ) where
    abbrev flow_in_row : Row C → ℤ
    flow_in_row r = cond (eqb r.member n) (row_cash (given fills) r) (pos 0)

    row-booked : (r : Row C) → given fills r ≤ r.«open» → (held_in_row m top n (booked fills r) +ℤ flow_in_row r) ≤ℤ held_in_row m top n r
    row-booked r few = let own = order-booked r r.side few in grind (arith, ints, nat_tests)

    -- a member's hold falls by at least what it pays
    pub held-booked : (rows : List (Row C)) → AllByRecursion (λ r. given fills r ≤ r.«open») rows → (held m top (map (booked fills) rows) n +ℤ share (row_cash (given fills)) rows n) ≤ℤ held m top rows n
    held-booked rows few =
        let after : Row C → ℤ = λ r. held_in_row m top n (booked fills r) in
        let both : Row C → ℤ = λ r. after r +ℤ flow_in_row r in
        let each = All-weaker (λ r. given fills r ≤ r.«open») (λ r. both r ≤ℤ held_in_row m top n r) row-booked rows few in
        omega (arith, ints, total-map (held_in_row m top n) (booked fills) rows, total-plus after flow_in_row both (λ r. refl) rows, total-below both (held_in_row m top n) rows each)

  -- the exposure grows by what the fills owe
  pub exposure-booked : (rows : List (Row C)) (s : ℕ) → exposure m top (map (booked fills) rows) s ≡ exposure m top rows s +ℤ owed m top rows (given fills) s
  exposure-booked rows s =
      total-map (row_owed m top filled_lots s) (booked fills) rows
      ∙ total-plus (row_owed m top filled_lots s) (row_owed m top (given fills) s) (λ r. row_owed m top filled_lots s (booked fills r)) (λ r. signed-plus r.side (m.payoff top r.contract s) r.filled (given fills r)) rows

pub booked-unused : {C : Type 0} (fills : List Fill) (r : Row C) → used r ≡ false → used (booked fills r) ≡ false
booked-unused fills r unused = rw (no-open r unused, no-filled r unused)
