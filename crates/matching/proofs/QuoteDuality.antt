-- No rival quotes better than the test by weights allows. Assumes nothing.
use Rattle.std.proofs.Common.{◌≡◌, ℕ, ◌*◌, List, ℤ, pos, ◌+ℤ◌, ◌-ℤ◌, ◌*ℤ◌, ◌≤ℤ◌, one-mul, arith}
use Rattle.std.proofs.lemmas.Int.{ints}
use Rattle.instruments.specs.Meaning.{Meaning}
use Rattle.matching.specs.declared.proposals.Weight.{Weight}
use Rattle.matching.specs.declared.quotes.Request.TheVariants.{Bid, Ask}
use Rattle.matching.specs.declared.rows.Row.{Row}
use Rattle.matching.specs.declared.rows.Side.{Side}
use Rattle.matching.specs.declared.rows.Side.TheVariants.{Buy, Sell}
use Rattle.matching.specs.Figures.{cash_now, owed, bound}
use Rattle.matching.specs.Laws.{WithinOpen, UnderCeiling}
use Rattle.matching.specs.QuoteLaws.{BidBestWithinGap, AskBestWithinGap, QuoteGapsNotNegative}
use Rattle.matching.specs.Quotes.{quote_reserve, premium, quote_gap}
use Rattle.matching.specs.Rows.{signed}
use Rattle.matching.specs.Sums.{largest}
use Rattle.matching.specs.Weights.{weight_sum, value}
use Rattle.matching.proofs.Duality.{weighted-sum, weighted-contract, weighted-owed, covered}
use Rattle.matching.proofs.Integers.{times-sum, times-difference}

-- a contract beside the matching, bought by the house or sold
covered-beside : {C : Type 0} (m : Meaning C) (top : ℕ) (ws : List Weight) (rows : List (Row C)) (lots : Row C → ℕ) (d : ℕ) (c : C) (t : ℕ) (side : Side) → UnderCeiling top ws → WithinOpen d rows lots → ((pos (weight_sum ws) *ℤ cash_now rows lots) +ℤ signed side (value m top ws c * t)) ≤ℤ ((pos d *ℤ bound m top ws rows) +ℤ (pos (weight_sum ws) *ℤ largest (λ s. owed m top rows lots s +ℤ signed side (m.payoff top c s * t)) top))
covered-beside m top ws rows lots d c t side under few =
    let beside : ℕ → ℤ = λ s. signed side (m.payoff top c s * t) in
    covered m top ws rows lots d under few (λ s. owed m top rows lots s +ℤ beside s) (signed side (value m top ws c * t))
    (omega (arith, ints, weighted-sum (owed m top rows lots) beside ws, weighted-owed m top lots ws rows, weighted-contract m top ws side c t))

pub bid-best-within-gap : {C : Type 0} (m : Meaning C) → BidBestWithinGap m
bid-best-within-gap m top ws rows lots rival d c t under some few =
    let W = weight_sum ws in
    let v = value m top ws c in
    let back : (pos W *ℤ premium m top rows lots c t Bid) +ℤ quote_gap m top rows lots c t ws Bid ≡ bound m top ws rows +ℤ pos (t * v) = omega (arith, ints) in
    rw back (omega (arith, ints, covered-beside m top ws rows rival d c (d * t) Sell under few, times-sum d (bound m top ws rows) (pos (t * v)), times-difference W (cash_now rows rival) (quote_reserve m top rows rival c (d * t) Bid)))

pub ask-best-within-gap : {C : Type 0} (m : Meaning C) → AskBestWithinGap m
ask-best-within-gap m top ws rows lots rival d c t under some few =
    let W = weight_sum ws in
    let v = value m top ws c in
    let back : (pos W *ℤ premium m top rows lots c t Ask) -ℤ quote_gap m top rows lots c t ws Ask ≡ pos (t * v) -ℤ bound m top ws rows = omega (arith, ints) in
    rw back (omega (arith, ints, covered-beside m top ws rows rival d c (d * t) Buy under few, times-difference d (pos (t * v)) (bound m top ws rows), times-difference W (quote_reserve m top rows rival c (d * t) Ask) (cash_now rows rival)))

-- the matching is a rival of itself, in whole lots
pub quote-gaps-not-negative : {C : Type 0} (m : Meaning C) → QuoteGapsNotNegative m
quote-gaps-not-negative m top ws rows lots c t Bid under few =
    let own = rw (one-mul t) at (bid-best-within-gap m top ws rows lots lots 1 c t under (omega arith) few) in
    omega (arith, ints)
quote-gaps-not-negative m top ws rows lots c t Ask under few =
    let own = rw (one-mul t) at (ask-best-within-gap m top ws rows lots lots 1 c t under (omega arith) few) in
    omega (arith, ints)
