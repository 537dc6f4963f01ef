use Rattle.std.proofs.Common.{rules}
use Rattle.books.specs.Calls.{cancelled}
use Rattle.books.proofs.rowwork.cancel_rows.Goals as goal

pub returns : goal.returns
returns g c = c.change_rows.ensures (cancelled c.args.member c.args.number) (λ row made call. search rules)
