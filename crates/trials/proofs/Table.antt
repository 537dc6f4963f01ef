-- The table of worked trials, put together. Assumes nothing.
use Rattle.instruments.specs.Worked.{WorkedPayoffs}
use Rattle.matching.proofs.Books.{books}
use Rattle.trials.specs.Trials.{Trials}
use Rattle.trials.proofs.Days.{days}
use Rattle.trials.proofs.Rows as rows

-- the table of contracts is handed in, since it comes with the ceiling
pub table : WorkedPayoffs → Trials
table payoffs = record { contracts = rows.contracts; numbers = rows.numbers; first_orders = rows.first_orders; first_clearing = rows.first_clearing; first_settlement = rows.first_settlement; second_book = rows.second_book; quotes = rows.quotes; days = days; all_contracts = payoffs; all_books = books }
