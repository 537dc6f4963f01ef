use Rattle.std.proofs.Common.{subst, sym}
use Rattle.matching.specs.Rows.{house_rows}
use Rattle.books.specs.Rowwork.{FreeRow}
use Rattle.books.proofs.Free.{free-first}
use Rattle.books.proofs.ledger.Books.free_row.Goals as goal

pub returns : goal.returns
returns g c = subst (FreeRow (house_rows c.args.self.now.rows.now)) (sym c.first_unused.ensures) (free-first (house_rows c.args.self.now.rows.now))
