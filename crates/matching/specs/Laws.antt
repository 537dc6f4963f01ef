-- What holds of every book, proposal and rival. Assumes nothing.
use Rattle.std.specs.Prelude.{◌≡◌, ℕ, ◌*◌, ◌<◌, ◌≤◌, ◌⊎◌, List, pos, ◌+ℤ◌, ◌*ℤ◌, ◌≤ℤ◌}
use Rattle.std.specs.List.{ContainsAt, AllByRecursion}
use Rattle.instruments.specs.Bounds.{IsCeiling}
use Rattle.instruments.specs.Meaning.{Meaning}
use Rattle.instruments.specs.Rules.{Valid}
use Rattle.matching.specs.declared.proposals.Weight.{Weight}
use Rattle.matching.specs.declared.rows.Row.{Row}
use Rattle.matching.specs.Figures.{net, worst_price, gap}
use Rattle.matching.specs.Weights.{weight_sum}

-- each order's quantity is at most d times its open lots
abbrev pub WithinOpen : {C : Type 0} → ℕ → List (Row C) → (Row C → ℕ) → Type 0
WithinOpen d rows lots = AllByRecursion (λ r. lots r ≤ d * r.«open») rows

-- each weight lies at a price up to the ceiling
abbrev pub UnderCeiling : ℕ → List Weight → Type 0
UnderCeiling top ws = AllByRecursion (λ w. w.price ≤ top) ws

-- Best within the gap: a rival fills whole parts, d of them to a lot, of the same orders. Its net, in
-- d-ths and counted W times, is at most d times W × net + gap.
abbrev pub BestWithinGap : {C : Type 0} → Meaning C → Type 0
BestWithinGap {C} m =
    (top : ℕ) (ws : List Weight) (rows : List (Row C)) (lots rival : Row C → ℕ) (d : ℕ) →
    UnderCeiling top ws → 1 ≤ d → WithinOpen d rows rival →
    (pos (weight_sum ws) *ℤ net m top rows rival) ≤ℤ (pos d *ℤ ((pos (weight_sum ws) *ℤ net m top rows lots) +ℤ gap m top ws rows lots))

-- a matching within the open lots never has a gap below 0
abbrev pub GapNotNegative : {C : Type 0} → Meaning C → Type 0
GapNotNegative {C} m =
    (top : ℕ) (ws : List Weight) (rows : List (Row C)) (lots : Row C → ℕ) →
    UnderCeiling top ws → WithinOpen 1 rows lots → pos 0 ≤ℤ gap m top ws rows lots

-- a price where a contract that is filled has a breakpoint
pub record FilledBreakpoint {C : Type 0} (m : Meaning C) (top : ℕ) (rows : List (Row C)) (lots : Row C → ℕ) (s : ℕ) : Type 0 where
  pub row : Row C
  pub among : ContainsAt rows row
  pub some : 0 < lots row
  pub index : ℕ
  pub counted : index < m.breakpoints top row.contract
  pub here : m.breakpoint top row.contract index ≡ s

-- The worst price is 0, the ceiling, or a breakpoint of a filled contract, where all of these are valid.
abbrev pub WorstAtBreakpoint : {C : Type 0} → Meaning C → Type 0
WorstAtBreakpoint {C} m =
    (top : ℕ) (rows : List (Row C)) (lots : Row C → ℕ) → IsCeiling top →
    AllByRecursion (λ r. 0 < lots r → Valid m top r.contract) rows →
    let s = worst_price m top rows lots in
    (s ≡ 0) ⊎ (s ≡ top) ⊎ FilledBreakpoint m top rows lots s
