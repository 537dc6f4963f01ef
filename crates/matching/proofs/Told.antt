-- The answers that are made of figures by weights. Assumes nothing.
use Rattle.std.proofs.Common.{◌≡◌, ℕ, ◌*◌, List, ℤ, pos, ◌-ℤ◌, ◌*ℤ◌}
use Rattle.instruments.specs.Meaning.{Meaning}
use Rattle.matching.specs.declared.proposals.Fill.{Fill}
use Rattle.matching.specs.declared.proposals.Weight.{Weight}
use Rattle.matching.specs.declared.quotes.Request.{Request}
use Rattle.matching.specs.declared.rows.Row.{Row}
use Rattle.matching.specs.declared.search.Peak.{Peak}
use Rattle.matching.specs.Appraisal.{appraisal}
use Rattle.matching.specs.Figures.{cash_now, reserve, worst_price, bound}
use Rattle.matching.specs.Fills.{given}
use Rattle.matching.specs.Quotes.{premium_of, gap_of, quote_reserve, quote_worst, quoted}
use Rattle.matching.specs.Weights.{weight_sum, value}
use Rattle.matching.proofs.Amounts.{back, Fitting, again}

-- The answers as the code finds them, one figure from the others. Each figure fits its type, so that it comes
-- back as it was.
module _ {C : Type 0} (m : Meaning C) (top : ℕ) (ws : List Weight) (w : ℕ) (summed : weight_sum ws ≡ w) (rows : List (Row C)) where
  pub appraised : (fills : List Fill) (cash net bound' counted gap : ℤ) (p : Peak) → Fitting cash → Fitting net → Fitting bound' → Fitting counted → Fitting gap → Fitting p.owed →
      cash ≡ cash_now rows (given fills) → p.owed ≡ reserve m top rows (given fills) → p.price ≡ worst_price m top rows (given fills) → bound' ≡ bound m top ws rows →
      net ≡ back cash -ℤ back p.owed → counted ≡ pos w *ℤ back net → gap ≡ back bound' -ℤ back counted →
      record { cash = back cash; reserve = back p.owed; worst = p.price; net = back net; gap = back gap; weights = w } ≡ appraisal m top ws rows fills
  appraised fills cash net bound' counted gap p f₁ f₂ f₃ f₄ f₅ f₆ cash-is owed-is price-is bound-is net-is counted_is gap_is =
      rw (again gap f₅, gap_is, again bound' f₃, again counted f₄, counted_is, again net f₂, net-is, again cash f₁, again p.owed f₆, cash-is, owed-is, price-is, bound-is, ← summed)

  pub quoted-so : (lots : Row C → ℕ) (c : C) (t : ℕ) (side : Request) (each : ℕ) (cash premium bound' worth counted gap : ℤ) (p : Peak) → Fitting cash → Fitting premium → Fitting bound' → Fitting worth → Fitting counted → Fitting gap → Fitting p.owed →
      cash ≡ cash_now rows lots → p.owed ≡ quote_reserve m top rows lots c t side → p.price ≡ quote_worst m top rows lots c t side → bound' ≡ bound m top ws rows → each ≡ value m top ws c → worth ≡ pos (t * each) →
      premium ≡ premium_of side (back cash) (back p.owed) → counted ≡ pos w *ℤ back premium → gap ≡ gap_of side (back bound') (back worth) (back counted) →
      record { premium = back premium; reserve = back p.owed; worst = p.price; gap = back gap; weights = w } ≡ quoted m top rows lots c t ws side
  quoted-so lots c t side each cash premium bound' worth counted gap p f₁ f₂ f₃ f₄ f₅ f₆ f₇ cash-is owed-is price-is bound-is each-is worth-is premium-is counted_is gap_is =
      rw (again gap f₆, gap_is, again bound' f₃, again worth f₄, again counted f₅, counted_is, again premium f₂, premium-is, again cash f₁, again p.owed f₇, worth-is, each-is, cash-is, owed-is, price-is, bound-is, ← summed)
