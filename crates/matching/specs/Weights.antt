-- A list of weights: their sum, what a contract is worth under them, and when the list is refused. Assumes nothing.
use Rattle.std.specs.Prelude.{ℕ, ◌+◌, ◌*◌, Bool, cond, ◌||◌, List, [], ◌∷◌, length, Some, None, Ok, Err, Option, Result, ◌==◌, nat_lt, position}
use Rattle.instruments.specs.Meaning.{Meaning}
use Rattle.matching.specs.declared.proposals.Weight.{Weight}
use Rattle.matching.specs.declared.proposals.WeightFault.{WeightFault}
use Rattle.matching.specs.declared.proposals.WeightFault.TheVariants.{Count, Entry, Sum}

abbrev pub max_weights : ℕ
max_weights = 512

-- of one weight, and of their sum
abbrev pub max_weight : ℕ
max_weight = 1000000

-- W, the sum of the weights
abbrev pub weight_sum : List Weight → ℕ
weight_sum [] = 0
weight_sum (w ∷ ws) = w.weight + weight_sum ws

-- a contract's value: its payoff at each price, counted with the weight there
abbrev pub value : {C : Type 0} → Meaning C → ℕ → List Weight → C → ℕ
value m top [] c = 0
value m top (w ∷ ws) c = w.weight * m.payoff top c w.price + value m top ws c

-- a price above the ceiling, or a weight above the limit
abbrev pub bad_weight : ℕ → Weight → Bool
bad_weight top w = nat_lt top w.price || nat_lt max_weight w.weight

abbrev pub first_bad : ℕ → List Weight → Option ℕ
first_bad top ws = position (bad_weight top) ws

abbrev pub sum_verdict : List Weight → Result (Unit {0}) WeightFault
sum_verdict ws = cond (weight_sum ws == 0 || nat_lt max_weight (weight_sum ws)) (Err (Sum (length ws))) (Ok tt)

abbrev pub entry_verdict : Option ℕ → Result (Unit {0}) WeightFault → Result (Unit {0}) WeightFault
entry_verdict (Some i) next = Err (Entry i)
entry_verdict None next = next

-- First how many there are, then the first bad entry, then the sum.
abbrev pub weights_verdict : ℕ → List Weight → Result (Unit {0}) WeightFault
weights_verdict top ws = cond (length ws == 0 || nat_lt max_weights (length ws)) (Err (Count (length ws))) (entry_verdict (first_bad top ws) (sum_verdict ws))

-- a figure that is told only where the weights pass
abbrev pub where_passed : {A : Type 0} → Result (Unit {0}) WeightFault → A → Result A WeightFault
where_passed (Ok u) a = Ok a
where_passed (Err f) a = Err f

abbrev pub by_weights : {A : Type 0} → ℕ → List Weight → A → Result A WeightFault
by_weights top ws a = where_passed (weights_verdict top ws) a
