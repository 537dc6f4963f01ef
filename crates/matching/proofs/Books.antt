-- The table of worked books: each row computes. Assumes nothing.
use Rattle.std.proofs.Common.{refl}
use Rattle.matching.specs.WorkedBooks.{WorkedMatchings, WorkedHoldings, WorkedQuotes, WorkedRefusals, WorkedBooks}

matchings : WorkedMatchings
matchings = record { all_filled = refl; all_bound = refl; values = refl; owes = refl; one_weight = refl; one_weight_bound = refl; none_filled = refl; first_filled = refl; calls_filled = refl; sells_filled = refl; second_filled = refl; five_lots = refl; with_stale = refl; past_rows = refl }

holdings : WorkedHoldings
holdings = record { standing = refl; filled = refl; partly = refl; unused = refl; none_exposed = refl; all_exposed = refl; one_exposed = refl; given_lots = refl; given_filled = refl; given_twice = refl }

quotes : WorkedQuotes
quotes = record { empty_ask = refl; empty_bid = refl; ask_beside = refl; bid_beside = refl; bid_alone = refl; no_lots = refl }

refusals : WorkedRefusals
refusals = record { fills_pass = refl; fills-fail = refl; orders_pass = refl; not_standing = refl; not_standing_filled = refl; above_open = refl; above_open_twice = refl; weights-pass = refl; counts_fail = refl; entries-fail = refl; sums_fail = refl; figure_told = refl; figure_refused = refl }

pub books : WorkedBooks
books = record { matchings = matchings; holdings = holdings; quotes = quotes; refusals = refusals }
