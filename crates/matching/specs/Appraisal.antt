-- What the test of a proposal looks at, told together. Assumes nothing.
use Rattle.std.specs.Prelude.{ℕ, ◌*◌, ◌^◌, List}
use Rattle.instruments.specs.Meaning.{Meaning}
use Rattle.matching.specs.declared.appraisal.Appraisal.{Appraisal}
use Rattle.matching.specs.declared.proposals.Fill.{Fill}
use Rattle.matching.specs.declared.proposals.Weight.{Weight}
use Rattle.matching.specs.declared.rows.Row.{Row}
use Rattle.matching.specs.Figures.{cash_now, reserve, worst_price, net, gap}
use Rattle.matching.specs.Fills.{given}
use Rattle.matching.specs.Sums.{Small}
use Rattle.matching.specs.Weights.{weight_sum}

-- the figures of the matching that a list of fills makes of the rows
abbrev pub appraisal : {C : Type 0} → Meaning C → ℕ → List Weight → List (Row C) → List Fill → Appraisal
appraisal m top ws rows fills = record {
  cash = cash_now rows (given fills);
  reserve = reserve m top rows (given fills);
  worst = worst_price m top rows (given fills);
  net = net m top rows (given fills);
  gap = gap m top ws rows (given fills);
  weights = weight_sum ws;
}

-- what keeps the money of a house within its type
pub record WithinType (a : Appraisal) : Type 0 where
  pub cash : Small (2 ^ 106) a.cash
  pub reserve : Small (257 * 2 ^ 96) a.reserve
  pub net : Small (2 ^ 106) a.net
