-- The table of worked books: what the definitions answer, all under the ceiling 200. Assumes nothing.
use Rattle.std.specs.Prelude.{◌≡◌, ℕ, List, [], ◌∷◌, ◌++◌, map, replicate, ℤ, pos, neg_ℤ, Ok, Err, Result}
use Rattle.instruments.specs.declared.options.Vanilla.{Vanilla}
use Rattle.instruments.specs.declared.options.Vanilla.TheVariants.{Call, Put}
use Rattle.instruments.specs.Vanilla.{vanilla_meaning}
use Rattle.instruments.specs.Worked.{table_ceiling}
use Rattle.matching.specs.declared.appraisal.Appraisal.{Appraisal}
use Rattle.matching.specs.declared.proposals.BadFill.{BadFill}
use Rattle.matching.specs.declared.proposals.Fill.{Fill}
use Rattle.matching.specs.declared.proposals.FillFault.{FillFault}
use Rattle.matching.specs.declared.proposals.FillFault.TheVariants.{NotStanding, AboveOpen}
use Rattle.matching.specs.declared.proposals.Weight.{Weight}
use Rattle.matching.specs.declared.proposals.WeightFault.{WeightFault}
use Rattle.matching.specs.declared.proposals.WeightFault.TheVariants.{Count, Entry, Sum}
use Rattle.matching.specs.declared.quotes.Quote.{Quote}
use Rattle.matching.specs.declared.quotes.Request.{Request}
use Rattle.matching.specs.declared.quotes.Request.TheVariants.{Bid, Ask}
use Rattle.matching.specs.declared.rows.Row.{Row}
use Rattle.matching.specs.declared.rows.Side.{Side}
use Rattle.matching.specs.declared.rows.Side.TheVariants.{Buy, Sell}
use Rattle.matching.specs.Appraisal.{appraisal}
use Rattle.matching.specs.Figures.{owed, exposure, bound}
use Rattle.matching.specs.Fills.{given, fills_verdict, orders_verdict}
use Rattle.matching.specs.Quotes.{quoted}
use Rattle.matching.specs.Rows.{house_rows, held}
use Rattle.matching.specs.Weights.{value, weights_verdict, by_weights}

-- an order of the member with the same number, with its open and its filled lots
abbrev pub order : ℕ → Side → Vanilla → ℕ → ℕ → ℕ → Row Vanilla
order n side c price open-lots filled_lots = record { order = n; member = n; side = side; contract = c; price = price; «open» = open-lots; filled = filled_lots }

abbrev pub fill : ℕ → ℕ → Fill
fill n lots = record { order = n; lots = lots }

abbrev pub weigh : ℕ → ℕ → Weight
weigh price weight = record { price = price; weight = weight }

-- four orders with these open and filled lots each
abbrev pub first_orders : ℕ → ℕ → List (Row Vanilla)
first_orders o f = order 1 Buy (Call 110) 9 o f ∷ order 2 Buy (Put 150) 42 o f ∷ order 3 Sell (Call 150) 1 o f ∷ order 4 Sell (Put 110) 6 o f ∷ []

abbrev pub first_book : List (Row Vanilla)
first_book = first_orders 1 0

abbrev pub second_book : List (Row Vanilla)
second_book = order 1 Buy (Call 160) 14 1 0 ∷ order 2 Buy (Put 80) 1 1 0 ∷ order 3 Sell (Call 80) 74 1 0 ∷ order 4 Sell (Put 160) 19 1 0 ∷ []

abbrev pub all_four : List Fill
all_four = fill 1 1 ∷ fill 2 1 ∷ fill 3 1 ∷ fill 4 1 ∷ []

abbrev pub first_weights : List Weight
first_weights = weigh 90 3 ∷ weigh 110 6 ∷ weigh 170 1 ∷ []

abbrev pub second_weights : List Weight
second_weights = weigh 128 1 ∷ weigh 132 26 ∷ weigh 200 13 ∷ []

-- an unused row, with figures that would tell
abbrev pub stale : Row Vanilla
stale = record { order = 1; member = 1; side = Sell; contract = Put 200; price = 4000000000; «open» = 0; filled = 0 }

-- the columns of the table
abbrev pub judged : List (Row Vanilla) → List Fill → List Weight → Appraisal
judged rows fills ws = appraisal vanilla_meaning table_ceiling ws (house_rows rows) fills

abbrev pub figures : ℤ → ℤ → ℕ → ℤ → ℤ → ℕ → Appraisal
figures cash reserve worst net gap weights = record { cash = cash; reserve = reserve; worst = worst; net = net; gap = gap; weights = weights }

abbrev pub bounded : List (Row Vanilla) → List Weight → ℤ
bounded rows ws = bound vanilla_meaning table_ceiling ws (house_rows rows)

abbrev pub owed_over : List (Row Vanilla) → List Fill → List ℕ → List ℤ
owed_over rows fills prices = map (owed vanilla_meaning table_ceiling (house_rows rows) (given fills)) prices

abbrev pub exposed_over : List (Row Vanilla) → List ℕ → List ℤ
exposed_over rows prices = map (exposure vanilla_meaning table_ceiling (house_rows rows)) prices

abbrev pub held_over : List (Row Vanilla) → List ℕ → List ℤ
held_over rows members = map (held vanilla_meaning table_ceiling (house_rows rows)) members

abbrev pub quote_of : List (Row Vanilla) → List Fill → Vanilla → ℕ → List Weight → Request → Quote
quote_of rows fills c t ws side = quoted vanilla_meaning table_ceiling (house_rows rows) (given fills) c t ws side

abbrev pub quote_figures : ℤ → ℤ → ℕ → ℤ → ℕ → Quote
quote_figures premium reserve worst gap weights = record { premium = premium; reserve = reserve; worst = worst; gap = gap; weights = weights }

abbrev pub weighed : List Weight → Result (Unit {0}) WeightFault
weighed ws = weights_verdict table_ceiling ws

abbrev pub ordered : List (Row Vanilla) → List Fill → Result (Unit {0}) FillFault
ordered rows fills = orders_verdict (house_rows rows) fills

pub record WorkedMatchings : Type 0 where
  pub all_filled : judged first_book all_four first_weights ≡ figures (pos 44) (pos 40) 0 (pos 4) (pos 0) 10
  pub all_bound : bounded first_book first_weights ≡ pos 40
  pub values : map (value vanilla_meaning table_ceiling first_weights) (Call 110 ∷ Put 150 ∷ Call 150 ∷ Put 110 ∷ []) ≡ 60 ∷ 420 ∷ 20 ∷ 60 ∷ []
  pub owes : owed_over first_book all_four (0 ∷ 110 ∷ 130 ∷ 200 ∷ 201 ∷ []) ≡ pos 40 ∷ pos 40 ∷ pos 40 ∷ pos 40 ∷ pos 0 ∷ []
  -- one weight
  pub one_weight : judged first_book all_four (weigh 100 1 ∷ []) ≡ figures (pos 44) (pos 40) 0 (pos 4) (pos 9) 1
  pub one_weight_bound : bounded first_book (weigh 100 1 ∷ []) ≡ pos 13
  -- no fills: the bound is over all standing orders, filled or not
  pub none_filled : judged first_book [] first_weights ≡ figures (pos 0) (pos 0) 0 (pos 0) (pos 40) 10
  -- the worst price is the ceiling, then the lowest of many, then between two strikes
  pub first_filled : judged first_book (fill 1 1 ∷ []) first_weights ≡ figures (pos 9) (pos 90) 200 (neg_ℤ (pos 81)) (pos 850) 10
  pub calls_filled : judged first_book (fill 1 1 ∷ fill 3 1 ∷ []) first_weights ≡ figures (pos 8) (pos 40) 150 (neg_ℤ (pos 32)) (pos 360) 10
  pub sells_filled : judged first_book (fill 3 1 ∷ fill 4 1 ∷ []) first_weights ≡ figures (neg_ℤ (pos 7)) (pos 0) 110 (neg_ℤ (pos 7)) (pos 110) 10
  -- a reserve below 0
  pub second_filled : judged second_book all_four second_weights ≡ figures (neg_ℤ (pos 78)) (neg_ℤ (pos 80)) 0 (pos 2) (pos 0) 40
  -- several lots, and lots filled before: these count for nothing
  pub five_lots : judged (first_orders 5 7) (fill 1 5 ∷ fill 2 5 ∷ fill 3 5 ∷ fill 4 5 ∷ []) first_weights ≡ figures (pos 220) (pos 200) 0 (pos 20) (pos 0) 10
  -- neither an unused row nor a row past the first 256 is an order
  pub with_stale : judged (stale ∷ first_book) all_four first_weights ≡ figures (pos 44) (pos 40) 0 (pos 4) (pos 0) 10
  pub past_rows : judged (replicate 256 stale ++ first_book) all_four first_weights ≡ figures (pos 0) (pos 0) 0 (pos 0) (pos 0) 10

pub record WorkedHoldings : Type 0 where
  pub standing : held_over first_book (0 ∷ 1 ∷ 2 ∷ 3 ∷ 4 ∷ 5 ∷ []) ≡ pos 0 ∷ pos 9 ∷ pos 42 ∷ pos 50 ∷ pos 110 ∷ pos 0 ∷ []
  -- a filled buy holds nothing, and a filled sell its collateral
  pub filled : held_over (first_orders 0 1) (1 ∷ 2 ∷ 3 ∷ 4 ∷ []) ≡ pos 0 ∷ pos 0 ∷ pos 50 ∷ pos 110 ∷ []
  pub partly : held_over (first_orders 2 3) (1 ∷ 2 ∷ 3 ∷ 4 ∷ []) ≡ pos 18 ∷ pos 84 ∷ pos 250 ∷ pos 550 ∷ []
  pub unused : held_over (stale ∷ []) (1 ∷ []) ≡ pos 0 ∷ []
  -- exposure is over filled lots alone
  pub none_exposed : exposed_over first_book (0 ∷ 200 ∷ []) ≡ pos 0 ∷ pos 0 ∷ []
  pub all_exposed : exposed_over (first_orders 1 2) (0 ∷ 130 ∷ 200 ∷ 201 ∷ []) ≡ pos 80 ∷ pos 80 ∷ pos 80 ∷ pos 0 ∷ []
  pub one_exposed : exposed_over (order 4 Sell (Put 110) 6 0 3 ∷ []) (0 ∷ 109 ∷ 110 ∷ []) ≡ neg_ℤ (pos 330) ∷ neg_ℤ (pos 3) ∷ pos 0 ∷ []
  -- an order that is not named, or does not stand, is given nothing; one that is named in several rows, in each
  pub given_lots : map (given (fill 1 7 ∷ fill 3 5 ∷ [])) first_book ≡ 7 ∷ 0 ∷ 5 ∷ 0 ∷ []
  pub given_filled : map (given (fill 1 7 ∷ fill 3 5 ∷ [])) (stale ∷ first_orders 0 1) ≡ 0 ∷ 0 ∷ 0 ∷ 0 ∷ 0 ∷ []
  pub given_twice : map (given (fill 1 7 ∷ [])) (order 1 Buy (Call 110) 9 8 0 ∷ order 1 Sell (Put 110) 6 9 0 ∷ []) ≡ 7 ∷ 7 ∷ []

pub record WorkedQuotes : Type 0 where
  pub empty_ask : quote_of [] [] (Call 110) 1 (weigh 200 1 ∷ []) Ask ≡ quote_figures (pos 90) (pos 90) 200 (pos 0) 1
  pub empty_bid : quote_of [] [] (Call 110) 1 (weigh 0 1 ∷ []) Bid ≡ quote_figures (pos 0) (pos 0) 0 (pos 0) 1
  -- beside a matching, and beside none
  pub ask_beside : quote_of first_book all_four (Call 110) 2 first_weights Ask ≡ quote_figures (pos 176) (pos 220) 200 (pos 1680) 10
  pub bid_beside : quote_of first_book all_four (Put 110) 2 first_weights Bid ≡ quote_figures (pos 4) (pos 40) 110 (pos 120) 10
  pub bid_alone : quote_of first_book [] (Call 150) 3 first_weights Bid ≡ quote_figures (pos 0) (pos 0) 0 (pos 100) 10
  pub no_lots : quote_of first_book all_four (Put 110) 0 first_weights Bid ≡ quote_figures (pos 4) (pos 40) 0 (pos 0) 10

abbrev pub bad_at : ℕ → Result (Unit {0}) BadFill
bad_at i = Err (record { index = i })

pub record WorkedRefusals : Type 0 where
  -- fills: the first index of no lots, or of a number that does not rise
  pub fills_pass : map fills_verdict ([] ∷ all_four ∷ (fill 0 1 ∷ []) ∷ []) ≡ Ok tt ∷ Ok tt ∷ Ok tt ∷ []
  pub fills-fail :
      map fills_verdict ((fill 1 0 ∷ []) ∷ (fill 1 1 ∷ fill 2 0 ∷ []) ∷ (fill 2 1 ∷ fill 2 1 ∷ []) ∷ (fill 1 1 ∷ fill 3 1 ∷ fill 2 1 ∷ fill 4 0 ∷ []) ∷ []) ≡ bad_at 0 ∷ bad_at 1 ∷ bad_at 1 ∷ bad_at 2 ∷ []
  -- against the rows: an order that does not stand before any fill above open lots
  pub orders_pass : map (ordered first_book) ([] ∷ all_four ∷ []) ≡ Ok tt ∷ Ok tt ∷ []
  pub not_standing : map (ordered first_book) ((fill 0 1 ∷ []) ∷ (fill 1 2 ∷ fill 5 1 ∷ fill 6 1 ∷ []) ∷ []) ≡ Err (NotStanding 0) ∷ Err (NotStanding 5) ∷ []
  pub not_standing_filled : ordered (stale ∷ first_orders 0 1) all_four ≡ Err (NotStanding 1)
  pub above_open : map (ordered first_book) ((fill 1 1 ∷ fill 2 2 ∷ fill 3 2 ∷ []) ∷ (fill 4 2 ∷ []) ∷ []) ≡ Err (AboveOpen 2) ∷ Err (AboveOpen 4) ∷ []
  pub above_open_twice : ordered (order 1 Buy (Call 110) 9 3 0 ∷ order 1 Sell (Put 110) 6 1 0 ∷ []) (fill 1 2 ∷ []) ≡ Err (AboveOpen 1)
  -- weights: how many, then the first bad entry, then their sum
  pub weights-pass :
      map weighed (first_weights ∷ (weigh 200 1000000 ∷ []) ∷ (weigh 200 999999 ∷ weigh 0 0 ∷ weigh 200 1 ∷ []) ∷ []) ≡ Ok tt ∷ Ok tt ∷ Ok tt ∷ []
  pub counts_fail : map weighed ([] ∷ replicate 513 (weigh 201 0) ∷ []) ≡ Err (Count 0) ∷ Err (Count 513) ∷ []
  pub entries-fail :
      map weighed ((weigh 201 1 ∷ []) ∷ (weigh 0 1000001 ∷ []) ∷ (weigh 0 0 ∷ weigh 200 0 ∷ weigh 201 0 ∷ weigh 0 1000001 ∷ []) ∷ []) ≡ Err (Entry 0) ∷ Err (Entry 0) ∷ Err (Entry 2) ∷ []
  pub sums_fail : map weighed ((weigh 100 0 ∷ weigh 0 0 ∷ []) ∷ (weigh 100 1000000 ∷ weigh 100 1 ∷ weigh 0 0 ∷ []) ∷ []) ≡ Err (Sum 2) ∷ Err (Sum 3) ∷ []
  -- a figure by weights is told only for weights that pass
  pub figure_told : by_weights table_ceiling first_weights (bounded first_book first_weights) ≡ Ok (pos 40)
  pub figure_refused : by_weights table_ceiling [] (bounded first_book []) ≡ Err (Count 0)

pub record WorkedBooks : Type 0 where
  pub matchings : WorkedMatchings
  pub holdings : WorkedHoldings
  pub quotes : WorkedQuotes
  pub refusals : WorkedRefusals
