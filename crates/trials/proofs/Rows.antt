-- The rows of the table that are equations: each computes. Assumes nothing.
use Rattle.std.proofs.Common.{ℕ, refl}
use Rattle.trials.specs.Trials.{TrialContracts, TrialNumbers, TrialFirstOrders, TrialFirstClearing, TrialFirstSettlement, TrialSecondBook, TrialQuotes}

pub contracts : TrialContracts
contracts = record { call_110_pays = refl; rising_spread_pays = refl; call_and_put_pay = refl; call_and_put_collateral = refl }

pub numbers : TrialNumbers
numbers = record { price = refl; report_owed = refl; free_cash = refl; rows_full = refl; net_below_zero = refl; gap_too_large = refl; house_short = refl }

pub first_orders : (gap : ℕ) → TrialFirstOrders gap
first_orders gap = record { deposits_accepted = refl; deposits_lead = refl; orders_numbered = refl; orders_lead = refl; too_little_cash = refl; no_fifth_row = refl }

pub first_clearing : TrialFirstClearing
first_clearing = record { all_filled = refl; all_bound = refl; all_cleared = refl; all_leads = refl; by_weight_100 = refl; weight_100_bound = refl; gap_8_allowed = refl; gap_9_allowed = refl; gap_9_leads = refl; none_filled = refl; none_cleared = refl; first_filled = refl; first_alone = refl }

pub first_settlement : TrialFirstSettlement
first_settlement = record { take_5 = refl; take_4 = refl; report_first = refl; report_reads = refl; report_told = refl; report_written = refl; report_leads = refl; above_ceiling = refl; settled_at_0 = refl; settlement_leads = refl; members_end = refl; house_ends = refl }

pub second_book : TrialSecondBook
second_book = record { deposits_accepted = refl; deposits_lead = refl; orders_numbered = refl; orders_lead = refl; funds_accepted = refl; funds_lead = refl; all_filled = refl; all_bound = refl; house_has_77 = refl; house_has_78 = refl; all_leads = refl }

pub quotes : TrialQuotes
quotes = record { ask_call_110 = refl; bid_call_110 = refl }
