-- A loop over a list of weights: from an index on the next entry is still to come, and the rest after it,
-- or nothing where the list ends. Assumes nothing.
use Rattle.std.proofs.Common.{◌≡◌, ℕ, ◌+◌, ◌*◌, ◌<◌, ◌≤◌, List, length, get_or, drop}
use Rattle.std.proofs.lemmas.List.{at_drop_more, at_drop_all}
use Rattle.instruments.specs.Meaning.{Meaning}
use Rattle.matching.specs.declared.proposals.Weight.{Weight}
use Rattle.matching.specs.Weights.{weight_sum, value}

module _ (ws : List Weight) (i : ℕ) where
  abbrev pub entry : Weight
  entry = get_or ws i (record { price = 0; weight = 0 })

  pub weight_sum_next : i < length ws → weight_sum (drop i ws) ≡ entry.weight + weight_sum (drop (i + 1) ws)
  weight_sum_next within = at_drop_more weight_sum ws i (record { price = 0; weight = 0 }) within

  pub weight_sum_past : length ws ≤ i → weight_sum (drop i ws) ≡ 0
  weight_sum_past past = at_drop_all weight_sum ws i past

  module _ {C : Type 0} (m : Meaning C) (top : ℕ) (c : C) where
    pub value_next : i < length ws → value m top (drop i ws) c ≡ entry.weight * m.payoff top c entry.price + value m top (drop (i + 1) ws) c
    value_next within = at_drop_more (λ vs. value m top vs c) ws i (record { price = 0; weight = 0 }) within

    pub value_past : length ws ≤ i → value m top (drop i ws) c ≡ 0
    value_past past = at_drop_all (λ vs. value m top vs c) ws i past

pub ruleset weighing = (weight_sum_next, weight_sum_past, value_next, value_past)
