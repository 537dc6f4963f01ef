use Rattle.std.proofs.Common.{rules}
use Rattle.books.proofs.Bounds.{cash-small}
use Rattle.books.proofs.ledger.Books.take.Goals as goal

pub overflow_sub-self : goal.overflow_sub-self
overflow_sub-self g c = let near = cash-small c.requires in search rules

pub returns-clause-value : goal.returns-clause-value
returns-clause-value g c = let near = cash-small c.requires in search rules
