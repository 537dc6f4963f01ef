use Rattle.std.proofs.Common.{rules}
use Rattle.books.proofs.Bounds.{cash-fits}
use Rattle.books.proofs.ledger.Books.runs_short.Goals as goal

pub overflow_add-result : goal.overflow_add-result
overflow_add-result g c = let fits = cash-fits c.requires.sound c.args.change c.requires.change in search rules

pub returns : goal.returns
returns g c = let fits = cash-fits c.requires.sound c.args.change c.requires.change in search rules
