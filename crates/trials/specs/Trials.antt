-- The table of worked trials: what the definitions answer in houses of options mixed with spreads, from
-- the opening to the settlement, all under the ceiling 200 and with one lot to an order. Assumes nothing.
use Rattle.std.specs.Prelude.{◌≡◌, ℕ, suc, Bool, true, false, List, [], ◌∷◌, ◌++◌, map, reverse, replicate, ℤ, pos, neg_ℤ, Ok, Err, codes, Result}
use Rattle.either.specs.declared.Either.{Either}
use Rattle.either.specs.declared.Either.TheVariants.{Left, Right}
use Rattle.instruments.specs.declared.options.Vanilla.{Vanilla}
use Rattle.instruments.specs.declared.options.Vanilla.TheVariants.{Call, Put}
use Rattle.instruments.specs.declared.spreads.Spread.{Spread}
use Rattle.instruments.specs.declared.spreads.Spread.TheVariants.{Rising}
use Rattle.instruments.specs.Meaning.{Meaning}
use Rattle.instruments.specs.Worked.{table_ceiling, pays, collateral_of, two, straddle, option_or_spread, WorkedPayoffs}
use Rattle.matching.specs.declared.appraisal.Appraisal.{Appraisal}
use Rattle.matching.specs.declared.proposals.Fill.{Fill}
use Rattle.matching.specs.declared.proposals.Weight.{Weight}
use Rattle.matching.specs.declared.quotes.Request.TheVariants.{Bid, Ask}
use Rattle.matching.specs.declared.rows.Row.{Row}
use Rattle.matching.specs.declared.rows.Side.TheVariants.{Buy, Sell}
use Rattle.matching.specs.Appraisal.{appraisal}
use Rattle.matching.specs.Figures.{bound}
use Rattle.matching.specs.Rows.{house_rows}
use Rattle.matching.specs.WorkedBooks.{fill, weigh, first_orders, first_book, second_book, all_four, first_weights, second_weights, figures, quote_figures, WorkedBooks}
use Rattle.books.specs.declared.answers.Balance.{Balance}
use Rattle.books.specs.declared.answers.Cleared.{Cleared}
use Rattle.books.specs.declared.answers.Standing.{Standing}
use Rattle.books.specs.declared.refusals.Refusal.{Refusal}
use Rattle.books.specs.declared.refusals.Refusal.TheVariants.{Price, ReportOwed, FreeCash, RowsFull, NetBelowZero, GapTooLarge, HouseShort}
use Rattle.books.specs.Calls.{deposit_answer, deposit_after, fund_answer, fund_after, take_answer, enter_answer, entered_at}
use Rattle.books.specs.Clearing.{clear_answer, clear_after}
use Rattle.books.specs.Ledger.{Event}
use Rattle.books.specs.Ledger as did
use Rattle.books.specs.Money.{cash_of}
use Rattle.books.specs.Publishing.{report_text, publish_answer, publish_after, publish_page}
use Rattle.books.specs.Quoting.{quote_answer}
use Rattle.books.specs.Refusals.{number_of}
use Rattle.books.specs.Runs.{Run}
use Rattle.books.specs.Settling.{settle_answer, settle_after}
use Rattle.books.specs.State.{State, with_lots, no_clearing, opened}

-- ---- the houses of the table
abbrev pub Traded : Type 0
Traded = Either Vanilla Spread

abbrev pub traded : Meaning Traded
traded = option_or_spread

-- a row of options as a row of this kind
abbrev pub as_traded : Row Vanilla → Row Traded
as_traded r = record { order = r.order; member = r.member; side = r.side; contract = Left r.contract; price = r.price; «open» = r.«open»; filled = r.filled }

-- four rows are lent; they have lots from before, which opening a house takes away
abbrev pub lent : List (Row Traded)
lent = map as_traded (first_orders 3 2)

abbrev pub unused : List (Row Traded)
unused = map as_traded (first_orders 0 0)

-- by the allowed gap
abbrev pub new_house : ℕ → State Traded
new_house gap = opened 1 table_ceiling gap lent

-- ---- calls one after another
-- the members from n on deposit an amount each
abbrev pub deposit_answers : State Traded → ℕ → List ℕ → List (Result (Unit {0}) Refusal)
deposit_answers s n [] = []
deposit_answers s n (a ∷ rest) = deposit_answer s n a ∷ deposit_answers (deposit_after s n a) (suc n) rest

abbrev pub deposits_after : State Traded → ℕ → List ℕ → State Traded
deposits_after s n [] = s
deposits_after s n (a ∷ rest) = deposits_after (deposit_after s n a) (suc n) rest

-- the options of a book are entered, each into the next row from k on: the rows before it are used by then
abbrev pub enter_answers : State Traded → ℕ → List (Row Vanilla) → List (Result ℕ Refusal)
enter_answers s k [] = []
enter_answers s k (r ∷ rest) = enter_answer traded s r.member r.side (Left r.contract) r.price r.«open» ∷ enter_answers (entered_at s k r.member r.side (Left r.contract) r.price r.«open») (suc k) rest

abbrev pub all_entered : State Traded → ℕ → List (Row Vanilla) → State Traded
all_entered s k [] = s
all_entered s k (r ∷ rest) = all_entered (entered_at s k r.member r.side (Left r.contract) r.price r.«open») (suc k) rest

-- ---- the states that the calls lead to
-- the cash of the members 1 to 4; all others have none
abbrev pub only_four : ℕ → ℕ → ℕ → ℕ → List ℤ
only_four a b c d = (pos a ∷ pos b ∷ pos c ∷ pos d ∷ []) ++ replicate 60 (pos 0)

-- before the first clearing, by the allowed gap, the members' cash, the house's, the last order number and the rows
abbrev pub before_clearing : ℕ → List ℤ → ℕ → ℕ → List (Row Traded) → State Traded
before_clearing gap members cash orders rows = record { number = 1; top = table_ceiling; allowed = gap; members = members; cash = pos cash; reserve = pos 0; orders = orders; latest = no_clearing; report = false; closed = false; rows = rows }

abbrev pub first_paid_in : ℕ → State Traded
first_paid_in gap = before_clearing gap (only_four 9 42 50 110) 0 0 unused

abbrev pub first_standing : ℕ → State Traded
first_standing gap = before_clearing gap (only_four 9 42 50 110) 0 4 (map as_traded first_book)

-- what a first clearing answers
abbrev pub told : ℤ → ℤ → ℕ → ℤ → ℕ → Cleared
told net reserve worst gap weights = record { clearing = 1; net = net; reserve = reserve; worst = worst; gap = gap; weights = weights }

abbrev pub first_told : Cleared
first_told = told (pos 4) (pos 40) 0 (pos 0) 10

abbrev pub weight_100 : List Weight
weight_100 = weigh 100 1 ∷ []

abbrev pub told_by_weight_100 : Cleared
told_by_weight_100 = told (pos 4) (pos 40) 0 (pos 9) 1

abbrev pub second_told : Cleared
second_told = told (pos 2) (neg_ℤ (pos 80)) 0 (pos 0) 40

-- all four orders filled and paid for, by the allowed gap and what the clearing answered
abbrev pub all_filled_at : ℕ → Cleared → State Traded
all_filled_at gap answer = record { number = 1; top = table_ceiling; allowed = gap; members = only_four 0 0 51 116; cash = pos 44; reserve = pos 40; orders = 4; latest = answer; report = true; closed = false; rows = map as_traded (first_orders 0 1) }

abbrev pub first_cleared : State Traded
first_cleared = all_filled_at 0 first_told

abbrev pub first_published : State Traded
first_published = record { number = 1; top = table_ceiling; allowed = 0; members = only_four 0 0 51 116; cash = pos 44; reserve = pos 40; orders = 4; latest = first_told; report = false; closed = false; rows = map as_traded (first_orders 0 1) }

abbrev pub first_settled : State Traded
first_settled = record { number = 1; top = table_ceiling; allowed = 0; members = only_four 0 150 51 6; cash = pos 4; reserve = pos 0; orders = 4; latest = first_told; report = false; closed = true; rows = unused }

abbrev pub second_paid_in : State Traded
second_paid_in = before_clearing 0 (only_four 14 1 120 160) 0 0 unused

-- by what was paid into the house
abbrev pub second_standing : ℕ → State Traded
second_standing cash = before_clearing 0 (only_four 14 1 120 160) cash 4 (map as_traded second_book)

abbrev pub second_cleared : State Traded
second_cleared = record { number = 1; top = table_ceiling; allowed = 0; members = only_four 0 0 194 179; cash = pos 0; reserve = neg_ℤ (pos 80); orders = 4; latest = second_told; report = true; closed = false; rows = map (λ r. as_traded (with_lots r 0 1)) second_book }

-- ---- the columns of the table
-- the figures of a matching of the orders in a state
abbrev pub judged_in : State Traded → List Fill → List Weight → Appraisal
judged_in s fills ws = appraisal traded s.top ws (house_rows s.rows) fills

abbrev pub bound_in : State Traded → List Weight → ℤ
bound_in s ws = bound traded s.top ws (house_rows s.rows)

abbrev pub page : List ℕ
page = replicate 60 0

abbrev pub first_report : List ℕ
first_report = codes "clearing=1" ++ (10 ∷ codes "net=4" ++ (10 ∷ codes "reserve=40" ++ (10 ∷ codes "worst=0" ++ (10 ∷ codes "gap=0" ++ (10 ∷ codes "weights=10" ++ (10 ∷ []))))))

abbrev pub has : ℕ → ℕ → Balance
has cash held = record { cash = pos cash; held = pos held }

abbrev pub house_has : ℕ → ℕ → ℕ → Bool → Standing
house_has cash reserve clearings owed = record { cash = pos cash; reserve = pos reserve; clearings = clearings; report_owed = owed }

-- ---- the table
pub record TrialContracts : Type 0 where
  pub call_110_pays : pays traded (Left (Call 110)) (110 ∷ 130 ∷ []) ≡ 0 ∷ 20 ∷ []
  pub rising_spread_pays : pays traded (Right (Rising 100 120)) (90 ∷ 110 ∷ 130 ∷ []) ≡ 0 ∷ 10 ∷ 20 ∷ []
  pub call_and_put_pay : pays two straddle (0 ∷ 100 ∷ 200 ∷ []) ≡ 100 ∷ 0 ∷ 100 ∷ []
  pub call_and_put_collateral : collateral_of two straddle ≡ 200

pub record TrialNumbers : Type 0 where
  pub price : number_of Price ≡ 17
  pub report_owed : number_of ReportOwed ≡ 41
  pub free_cash : number_of FreeCash ≡ 42
  pub rows_full : number_of RowsFull ≡ 43
  pub net_below_zero : number_of NetBelowZero ≡ 47
  pub gap_too_large : number_of GapTooLarge ≡ 48
  pub house_short : number_of HouseShort ≡ 49

-- Four members pay in, and each enters an order that holds all of it. The allowed gap changes nothing here.
pub record TrialFirstOrders (gap : ℕ) : Type 0 where
  pub deposits_accepted : deposit_answers (new_house gap) 1 (9 ∷ 42 ∷ 50 ∷ 110 ∷ []) ≡ Ok tt ∷ Ok tt ∷ Ok tt ∷ Ok tt ∷ []
  pub deposits_lead : deposits_after (new_house gap) 1 (9 ∷ 42 ∷ 50 ∷ 110 ∷ []) ≡ first_paid_in gap
  pub orders_numbered : enter_answers (first_paid_in gap) 0 first_book ≡ Ok 1 ∷ Ok 2 ∷ Ok 3 ∷ Ok 4 ∷ []
  pub orders_lead : all_entered (first_paid_in gap) 0 first_book ≡ first_standing gap
  -- a put of collateral 110 wants that much free cash, and a fifth order a fifth row
  pub too_little_cash : enter_answer traded (deposit_after (new_house gap) 4 109) 4 Sell (Left (Put 110)) 6 1 ≡ Err FreeCash
  pub no_fifth_row : enter_answer traded (first_standing gap) 5 Buy (Left (Call 110)) 0 1 ≡ Err RowsFull

pub record TrialFirstClearing : Type 0 where
  -- all orders filled
  pub all_filled : judged_in (first_standing 0) all_four first_weights ≡ figures (pos 44) (pos 40) 0 (pos 4) (pos 0) 10
  pub all_bound : bound_in (first_standing 0) first_weights ≡ pos 40
  pub all_cleared : clear_answer traded (first_standing 0) all_four first_weights ≡ Ok first_told
  pub all_leads : clear_after traded (first_standing 0) all_four first_weights ≡ first_cleared
  -- the same with one weight: the gap is 9, so what is allowed decides
  pub by_weight_100 : judged_in (first_standing 8) all_four weight_100 ≡ figures (pos 44) (pos 40) 0 (pos 4) (pos 9) 1
  pub weight_100_bound : bound_in (first_standing 8) weight_100 ≡ pos 13
  pub gap_8_allowed : clear_answer traded (first_standing 8) all_four weight_100 ≡ Err GapTooLarge
  pub gap_9_allowed : clear_answer traded (first_standing 9) all_four weight_100 ≡ Ok told_by_weight_100
  pub gap_9_leads : clear_after traded (first_standing 9) all_four weight_100 ≡ all_filled_at 9 told_by_weight_100
  -- no fills, and then only the first order filled
  pub none_filled : judged_in (first_standing 0) [] first_weights ≡ figures (pos 0) (pos 0) 0 (pos 0) (pos 40) 10
  pub none_cleared : clear_answer traded (first_standing 0) [] first_weights ≡ Err GapTooLarge
  pub first_filled : judged_in (first_standing 0) (fill 1 1 ∷ []) first_weights ≡ figures (pos 9) (pos 90) 200 (neg_ℤ (pos 81)) (pos 850) 10
  pub first_alone : clear_answer traded (first_standing 0) (fill 1 1 ∷ []) first_weights ≡ Err NetBelowZero

-- the report, and the settlement
pub record TrialFirstSettlement : Type 0 where
  pub take_5 : take_answer first_cleared 5 ≡ Err HouseShort
  pub take_4 : take_answer first_cleared 4 ≡ Ok tt
  pub report_first : settle_answer first_cleared 0 ≡ Err ReportOwed
  pub report_reads : report_text first_cleared.latest ≡ first_report
  pub report_told : publish_answer first_cleared 1 1 page ≡ Ok 53
  pub report_written : publish_page first_cleared 1 1 page ≡ first_report ++ replicate 7 0
  pub report_leads : publish_after first_cleared 1 1 page ≡ first_published
  pub above_ceiling : settle_answer first_published 201 ≡ Err Price
  pub settled_at_0 : settle_answer first_published 0 ≡ Ok tt
  pub settlement_leads : settle_after traded first_published 0 ≡ first_settled
  pub members_end : map (cash_of first_settled.members) (1 ∷ 2 ∷ 3 ∷ 4 ∷ []) ≡ pos 0 ∷ pos 150 ∷ pos 51 ∷ pos 6 ∷ []
  pub house_ends : first_settled.cash ≡ pos 4

-- a reserve below zero: the house pays 78 at once, so it has to have them
pub record TrialSecondBook : Type 0 where
  pub deposits_accepted : deposit_answers (new_house 0) 1 (14 ∷ 1 ∷ 120 ∷ 160 ∷ []) ≡ Ok tt ∷ Ok tt ∷ Ok tt ∷ Ok tt ∷ []
  pub deposits_lead : deposits_after (new_house 0) 1 (14 ∷ 1 ∷ 120 ∷ 160 ∷ []) ≡ second_paid_in
  pub orders_numbered : enter_answers second_paid_in 0 second_book ≡ Ok 1 ∷ Ok 2 ∷ Ok 3 ∷ Ok 4 ∷ []
  pub orders_lead : all_entered second_paid_in 0 second_book ≡ second_standing 0
  pub funds_accepted : map (fund_answer (second_standing 0)) (77 ∷ 78 ∷ []) ≡ Ok tt ∷ Ok tt ∷ []
  pub funds_lead : map (fund_after (second_standing 0)) (77 ∷ 78 ∷ []) ≡ second_standing 77 ∷ second_standing 78 ∷ []
  pub all_filled : judged_in (second_standing 77) all_four second_weights ≡ figures (neg_ℤ (pos 78)) (neg_ℤ (pos 80)) 0 (pos 2) (pos 0) 40
  pub all_bound : bound_in (second_standing 77) second_weights ≡ pos 80
  pub house_has_77 : clear_answer traded (second_standing 77) all_four second_weights ≡ Err HouseShort
  pub house_has_78 : clear_answer traded (second_standing 78) all_four second_weights ≡ Ok second_told
  pub all_leads : clear_after traded (second_standing 78) all_four second_weights ≡ second_cleared

-- no orders
pub record TrialQuotes : Type 0 where
  pub ask_call_110 : quote_answer traded (new_house 0) (Left (Call 110)) Ask 1 [] (weigh 200 1 ∷ []) ≡ Ok (quote_figures (pos 90) (pos 90) 200 (pos 0) 1)
  pub bid_call_110 : quote_answer traded (new_house 0) (Left (Call 110)) Bid 1 [] (weigh 0 1 ∷ []) ≡ Ok (quote_figures (pos 0) (pos 0) 0 (pos 0) 1)

-- ---- the same, call by call, as runs of a house: so the promise over all runs is about these calls too
-- the calls in their order, which a run has latest first
abbrev pub Day : ℕ → List (Event Traded) → State Traded → Type 0
Day gap calls s = Run traded 1 table_ceiling gap lent (reverse calls) s

abbrev pub first_calls : List (Event Traded)
first_calls =
    did.deposit 1 9 (Ok tt) ∷
    did.deposit 2 42 (Ok tt) ∷
    did.deposit 3 50 (Ok tt) ∷
    did.deposit 4 110 (Ok tt) ∷
    did.enter 1 Buy (Left (Call 110)) 9 1 (Ok 1) ∷
    did.enter 2 Buy (Left (Put 150)) 42 1 (Ok 2) ∷
    did.enter 3 Sell (Left (Call 150)) 1 1 (Ok 3) ∷
    did.enter 4 Sell (Left (Put 110)) 6 1 (Ok 4) ∷ []

abbrev pub calls_to_settlement : List (Event Traded)
calls_to_settlement =
    did.clear [] first_weights (Err GapTooLarge) ∷
    did.clear (fill 1 1 ∷ []) first_weights (Err NetBelowZero) ∷
    did.clear all_four first_weights (Ok first_told) ∷
    did.house (house_has 44 40 1 true) ∷
    did.take 5 (Err HouseShort) ∷
    did.settle 0 (Err ReportOwed) ∷
    did.publish 1 1 page (Ok 53) ∷
    did.settle 0 (Ok tt) ∷
    did.account 1 (Ok (has 0 0)) ∷
    did.account 2 (Ok (has 150 0)) ∷
    did.account 3 (Ok (has 51 0)) ∷
    did.account 4 (Ok (has 6 0)) ∷
    did.house (house_has 4 0 1 false) ∷ []

abbrev pub second_calls : List (Event Traded)
second_calls =
    did.deposit 1 14 (Ok tt) ∷
    did.deposit 2 1 (Ok tt) ∷
    did.deposit 3 120 (Ok tt) ∷
    did.deposit 4 160 (Ok tt) ∷
    did.enter 1 Buy (Left (Call 160)) 14 1 (Ok 1) ∷
    did.enter 2 Buy (Left (Put 80)) 1 1 (Ok 2) ∷
    did.enter 3 Sell (Left (Call 80)) 74 1 (Ok 3) ∷
    did.enter 4 Sell (Left (Put 160)) 19 1 (Ok 4) ∷
    did.fund 77 (Ok tt) ∷
    did.clear all_four second_weights (Err HouseShort) ∷
    did.fund 1 (Ok tt) ∷
    did.clear all_four second_weights (Ok second_told) ∷ []

pub record TrialDays : Type 0 where
  pub first_orders_run : (gap : ℕ) → Day gap first_calls (first_standing gap)
  pub first_book_runs : Day 0 (first_calls ++ calls_to_settlement) first_settled
  pub gap_8_runs : Day 8 (first_calls ++ (did.clear all_four weight_100 (Err GapTooLarge) ∷ [])) (first_standing 8)
  pub gap_9_runs : Day 9 (first_calls ++ (did.clear all_four weight_100 (Ok told_by_weight_100) ∷ [])) (all_filled_at 9 told_by_weight_100)
  pub second_book_runs : Day 0 second_calls second_cleared

pub record Trials : Type 0 where
  pub contracts : TrialContracts
  pub numbers : TrialNumbers
  pub first_orders : (gap : ℕ) → TrialFirstOrders gap
  pub first_clearing : TrialFirstClearing
  pub first_settlement : TrialFirstSettlement
  pub second_book : TrialSecondBook
  pub quotes : TrialQuotes
  pub days : TrialDays
  -- the tables below this one: more of contracts alone, and of matchings alone
  pub all_contracts : WorkedPayoffs
  pub all_books : WorkedBooks
