-- What one more contract would be quoted at, bid or asked, beside a matching. Assumes nothing.
use Rattle.std.specs.Prelude.{ℕ, ◌*◌, List, ℤ, pos, ◌+ℤ◌, ◌-ℤ◌, ◌*ℤ◌}
use Rattle.instruments.specs.Meaning.{Meaning}
use Rattle.matching.specs.declared.proposals.Weight.{Weight}
use Rattle.matching.specs.declared.quotes.Quote.{Quote}
use Rattle.matching.specs.declared.quotes.Request.{Request}
use Rattle.matching.specs.declared.quotes.Request.TheVariants.{Bid, Ask}
use Rattle.matching.specs.declared.rows.Row.{Row}
use Rattle.matching.specs.Figures.{cash_now, owed, bound}
use Rattle.matching.specs.Sums.{largest, lowest}
use Rattle.matching.specs.Weights.{value, weight_sum}

-- the most that can be paid for a bid, the least that can be taken for an ask
abbrev pub premium_of : Request → ℤ → ℤ → ℤ
premium_of Bid cash reserve = cash -ℤ reserve
premium_of Ask cash reserve = reserve -ℤ cash

-- from the bound, what the lots are worth, and the premium counted W times
abbrev pub gap_of : Request → ℤ → ℤ → ℤ → ℤ
gap_of Bid bound worth premium = (bound +ℤ worth) -ℤ premium
gap_of Ask bound worth premium = (premium +ℤ bound) -ℤ worth

module _ {C : Type 0} (m : Meaning C) (top : ℕ) (rows : List (Row C)) (lots : Row C → ℕ) (c : C) (t : ℕ) where
  -- The house would buy what is bid for, so its payoff comes in; it would sell what is asked for.
  abbrev pub owed_beside : Request → ℕ → ℤ
  owed_beside Bid s = owed m top rows lots s -ℤ pos (m.payoff top c s * t)
  owed_beside Ask s = owed m top rows lots s +ℤ pos (m.payoff top c s * t)

  abbrev pub quote_reserve : Request → ℤ
  quote_reserve side = largest (owed_beside side) top

  abbrev pub quote_worst : Request → ℕ
  quote_worst side = lowest (owed_beside side) top

  abbrev pub premium : Request → ℤ
  premium side = premium_of side (cash_now rows lots) (quote_reserve side)

  abbrev pub quote_gap : List Weight → Request → ℤ
  quote_gap ws side = gap_of side (bound m top ws rows) (pos (t * value m top ws c)) (pos (weight_sum ws) *ℤ premium side)

  -- the whole answer
  abbrev pub quoted : List Weight → Request → Quote
  quoted ws side = record {
    premium = premium side;
    reserve = quote_reserve side;
    worst = quote_worst side;
    gap = quote_gap ws side;
    weights = weight_sum ws;
  }
