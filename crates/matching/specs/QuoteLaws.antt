-- What holds of every quote and of what a rival matching would quote. Assumes nothing.
use Rattle.std.specs.Prelude.{ℕ, ◌*◌, ◌≤◌, List, pos, ◌+ℤ◌, ◌-ℤ◌, ◌*ℤ◌, ◌≤ℤ◌}
use Rattle.instruments.specs.Meaning.{Meaning}
use Rattle.matching.specs.declared.proposals.Weight.{Weight}
use Rattle.matching.specs.declared.quotes.Request.{Request}
use Rattle.matching.specs.declared.quotes.Request.TheVariants.{Bid, Ask}
use Rattle.matching.specs.declared.rows.Row.{Row}
use Rattle.matching.specs.Laws.{WithinOpen, UnderCeiling}
use Rattle.matching.specs.Quotes.{premium, quote_gap}
use Rattle.matching.specs.Weights.{weight_sum}

-- Best within the gap, for a bid: a rival fills whole parts, d of them to a lot, of the same orders, with
-- d × t parts of the contract beside it. What it could pay, in d-ths and counted W times, is at most d
-- times W × premium + gap.
abbrev pub BidBestWithinGap : {C : Type 0} → Meaning C → Type 0
BidBestWithinGap {C} m =
    (top : ℕ) (ws : List Weight) (rows : List (Row C)) (lots rival : Row C → ℕ) (d : ℕ) (c : C) (t : ℕ) →
    UnderCeiling top ws → 1 ≤ d → WithinOpen d rows rival →
    (pos (weight_sum ws) *ℤ premium m top rows rival c (d * t) Bid) ≤ℤ (pos d *ℤ ((pos (weight_sum ws) *ℤ premium m top rows lots c t Bid) +ℤ quote_gap m top rows lots c t ws Bid))

-- And for an ask: the least that such a rival could take is at least d times W × premium − gap.
abbrev pub AskBestWithinGap : {C : Type 0} → Meaning C → Type 0
AskBestWithinGap {C} m =
    (top : ℕ) (ws : List Weight) (rows : List (Row C)) (lots rival : Row C → ℕ) (d : ℕ) (c : C) (t : ℕ) →
    UnderCeiling top ws → 1 ≤ d → WithinOpen d rows rival →
    (pos d *ℤ ((pos (weight_sum ws) *ℤ premium m top rows lots c t Ask) -ℤ quote_gap m top rows lots c t ws Ask)) ≤ℤ (pos (weight_sum ws) *ℤ premium m top rows rival c (d * t) Ask)

-- a quote beside a matching within the open lots never has a gap below 0
abbrev pub QuoteGapsNotNegative : {C : Type 0} → Meaning C → Type 0
QuoteGapsNotNegative {C} m =
    (top : ℕ) (ws : List Weight) (rows : List (Row C)) (lots : Row C → ℕ) (c : C) (t : ℕ) (side : Request) →
    UnderCeiling top ws → WithinOpen 1 rows lots → pos 0 ≤ℤ quote_gap m top rows lots c t ws side
