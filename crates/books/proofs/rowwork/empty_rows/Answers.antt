use Rattle.std.proofs.Common.{rules}
use Rattle.books.specs.State.{emptied}
use Rattle.books.proofs.rowwork.empty_rows.Goals as goal

pub returns : goal.returns
returns g c = c.change_rows.ensures emptied (λ row made call. search rules)
