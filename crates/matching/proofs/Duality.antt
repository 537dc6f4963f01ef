-- No rival is better than the test by weights allows. Assumes nothing.
use Rattle.std.proofs.Common.{◌≡◌, ℕ, ◌+◌, ◌-◌, ◌*◌, ◌≤◌, List, [], ◌∷◌, ℤ, pos, ◌+ℤ◌, ◌*ℤ◌, ◌≤ℤ◌, sym, ap, ◌∙◌, mul-le-mul_right, mul-le-mul_left, arith}
use Rattle.std.proofs.ByRecursion.{All-weaker}
use Rattle.std.proofs.lemmas.Int.{ints}
use Rattle.instruments.specs.Meaning.{Meaning}
use Rattle.matching.specs.declared.proposals.Weight.{Weight}
use Rattle.matching.specs.declared.rows.Row.{Row}
use Rattle.matching.specs.declared.rows.Side.{Side}
use Rattle.matching.specs.declared.rows.Side.TheVariants.{Buy, Sell}
use Rattle.matching.specs.Figures.{cash_now, owed, reserve, net, advantage, bound, gap}
use Rattle.matching.specs.Laws.{WithinOpen, UnderCeiling, BestWithinGap, GapNotNegative}
use Rattle.matching.specs.Rows.{signed}
use Rattle.matching.specs.Sums.{total, largest}
use Rattle.matching.specs.Weights.{weight_sum, value}
use Rattle.matching.proofs.Integers.{times-sum, times-negative, times-difference, times-at-most, sum-times}
use Rattle.matching.proofs.Lowest.{at-most-largest}
use Rattle.matching.proofs.Totals.{total-none, total-linear, total_at_most}

-- what a figure of the price comes to where each price counts with its weight
abbrev pub weighted : List Weight → (ℕ → ℤ) → ℤ
weighted ws f = total (λ w. pos w.weight *ℤ f w.price) ws

-- it is at most W times the figure's largest value
pub weighted-at-most : (f : ℕ → ℤ) (top : ℕ) (ws : List Weight) → UnderCeiling top ws → weighted ws f ≤ℤ (pos (weight_sum ws) *ℤ largest f top)
weighted-at-most f top [] under = omega (arith, ints)
weighted-at-most f top (w ∷ ws) under =
    omega
    (arith, ints, times-at-most w.weight (f w.price) (largest f top) (at-most-largest f top w.price under.0), weighted-at-most f top ws under.1, sum-times w.weight (weight_sum ws) (largest f top))

pub weighted-sum : (f g : ℕ → ℤ) (ws : List Weight) → weighted ws (λ s. f s +ℤ g s) ≡ weighted ws f +ℤ weighted ws g
weighted-sum f g ws =
    let at : (ℕ → ℤ) → Weight → ℤ = λ h w. pos w.weight *ℤ h w.price in
    let each : (w : Weight) → at (λ s. f s +ℤ g s) w ≡ (pos 1 *ℤ at f w) +ℤ at g w =
    λ w. omega (arith, ints, times-sum w.weight (f w.price) (g w.price)) in
    omega (arith, ints, total-linear 1 (at (λ s. f s +ℤ g s)) (at f) (at g) each ws)

signed-none : (side : Side) (q : ℕ) → signed side (0 * q) ≡ pos 0
signed-none Buy q = omega (arith, ints)
signed-none Sell q = omega (arith, ints)

-- one more price, at which a lot pays p and which counts k times
signed-more : (side : Side) (k p v q : ℕ) → signed side ((k * p + v) * q) ≡ (pos k *ℤ signed side (p * q)) +ℤ signed side (v * q)
signed-more Buy k p v q = omega (arith, ints)
signed-more Sell k p v q = omega (arith, ints, times-negative k (pos (p * q)))

-- x is at most y and an advantage a; q parts, of which d make one lot, are at most the o open lots
gain-within : (x y a q d o : ℕ) → x ≤ a + y → q ≤ d * o → x * q ≤ d * (o * a) + y * q
gain-within x y a q d o gain few = omega (arith, mul-le-mul_right q gain, mul-le-mul_left a few)

module _ {C : Type 0} (m : Meaning C) (top : ℕ) where
  -- what q lots of one contract pay, where each price counts with its weight, is their value
  pub weighted-contract : (ws : List Weight) (side : Side) (c : C) (q : ℕ) → weighted ws (λ s. signed side (m.payoff top c s * q)) ≡ signed side (value m top ws c * q)
  weighted-contract [] side c q = sym (signed-none side q)
  weighted-contract (w ∷ ws) side c q =
      let p = m.payoff top c w.price in
      ap (λ z. (pos w.weight *ℤ signed side (p * q)) +ℤ z) (weighted-contract ws side c q) ∙ sym (signed-more side w.weight p (value m top ws c) q)

  module _ (lots : Row C → ℕ) where
    -- what one order pays now, what it is owed at a price, and what that is worth under the weights
    abbrev paid_by : Row C → ℤ
    paid_by r = signed r.side (r.price * lots r)

    abbrev owed_to : ℕ → Row C → ℤ
    owed_to s r = signed r.side (m.payoff top r.contract s * lots r)

    abbrev worth_to : List Weight → Row C → ℤ
    worth_to ws r = signed r.side (value m top ws r.contract * lots r)

    abbrev pub worth : List Weight → List (Row C) → ℤ
    worth ws rows = total (worth_to ws) rows

    pub weighted-owed : (ws : List Weight) (rows : List (Row C)) → weighted ws (owed m top rows lots) ≡ worth ws rows
    weighted-owed [] rows = sym (total-none (worth_to []) (λ r. signed-none r.side (lots r)) rows)
    weighted-owed (w ∷ ws) rows =
        let more : (r : Row C) → worth_to (w ∷ ws) r ≡ (pos w.weight *ℤ owed_to w.price r) +ℤ worth_to ws r =
        λ r. signed-more r.side w.weight (m.payoff top r.contract w.price) (value m top ws r.contract) (lots r) in
        ap (λ z. (pos w.weight *ℤ owed m top rows lots w.price) +ℤ z) (weighted-owed ws rows) ∙ sym (total-linear w.weight (worth_to (w ∷ ws)) (owed_to w.price) (worth_to ws) more rows)

  module _ (ws : List Weight) where
    -- an order's part of the bound
    abbrev bettered_by : Row C → ℤ
    bettered_by r = pos (r.«open» * advantage m top ws r r.side)

    -- what an order brings in, counted W times, is within d times its part of the bound and what it is worth
    order-within : (d q : ℕ) (r : Row C) (side : Side) → q ≤ d * r.«open» → (pos (weight_sum ws) *ℤ signed side (r.price * q)) ≤ℤ ((pos d *ℤ pos (r.«open» * advantage m top ws r side)) +ℤ signed side (value m top ws r.contract * q))
    order-within d q r Buy few =
        let v = value m top ws r.contract in
        let p = weight_sum ws * r.price in
        omega (arith, ints, gain-within p v (p - v) q d r.«open» (omega arith) few)
    order-within d q r Sell few =
        let v = value m top ws r.contract in
        let p = weight_sum ws * r.price in
        omega (arith, ints, gain-within v p (v - p) q d r.«open» (omega arith) few, times-negative (weight_sum ws) (pos (r.price * q)))

    module _ (rows : List (Row C)) (lots : Row C → ℕ) (d : ℕ) where
      -- and so of all orders together
      pub cash-within : WithinOpen d rows lots → (pos (weight_sum ws) *ℤ cash_now rows lots) ≤ℤ ((pos d *ℤ bound m top ws rows) +ℤ worth lots ws rows)
      cash-within few =
          total_at_most (weight_sum ws) d (paid_by lots) bettered_by (worth_to lots ws) rows
          (All-weaker (λ r. lots r ≤ d * r.«open») (λ r. (pos (weight_sum ws) *ℤ paid_by lots r) ≤ℤ ((pos d *ℤ bettered_by r) +ℤ worth_to lots ws r)) (λ r low. order-within d (lots r) r r.side low) rows few)

      -- The figure is what is owed at each price, for the orders and for what stands beside them. Its
      -- largest value, counted W times, is at least the cash and what stands beside, less d times the bound.
      pub covered : UnderCeiling top ws → WithinOpen d rows lots → (figure : ℕ → ℤ) (beside : ℤ) → weighted ws figure ≡ worth lots ws rows +ℤ beside → ((pos (weight_sum ws) *ℤ cash_now rows lots) +ℤ beside) ≤ℤ ((pos d *ℤ bound m top ws rows) +ℤ (pos (weight_sum ws) *ℤ largest figure top))
      covered under few figure beside same = omega (arith, ints, weighted-at-most figure top ws under, cash-within few)

pub best-within-gap : {C : Type 0} (m : Meaning C) → BestWithinGap m
best-within-gap m top ws rows lots rival d under some few =
    let W = weight_sum ws in
    let back : (pos W *ℤ net m top rows lots) +ℤ gap m top ws rows lots ≡ bound m top ws rows = omega (arith, ints) in
    let cover = covered m top ws rows rival d under few (owed m top rows rival) (pos 0) (omega (arith, ints, weighted-owed m top rival ws rows)) in
    rw back (omega (arith, ints, times-difference W (cash_now rows rival) (reserve m top rows rival)))

-- the matching is a rival of itself, in whole lots
pub gap-not-negative : {C : Type 0} (m : Meaning C) → GapNotNegative m
gap-not-negative m top ws rows lots under few =
    let own = best-within-gap m top ws rows lots lots 1 under (omega arith) few in
    omega (arith, ints)
