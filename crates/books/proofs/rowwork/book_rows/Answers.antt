use Rattle.std.proofs.Common.{rules}
use Rattle.books.specs.Clearing.{booked}
use Rattle.books.proofs.rowwork.book_rows.Goals as goal

pub returns : goal.returns
returns g c = c.change_rows.ensures (booked c.args.fills.now) (λ row made call. search rules)
