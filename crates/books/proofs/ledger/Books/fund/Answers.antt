use Rattle.std.proofs.Common.{rules}
use Rattle.books.proofs.Bounds.{cash-small}
use Rattle.books.proofs.ledger.Books.fund.Goals as goal

pub overflow_add-self : goal.overflow_add-self
overflow_add-self g c = let near = cash-small c.requires in search rules

pub returns-clause-value : goal.returns-clause-value
returns-clause-value g c = let near = cash-small c.requires in search rules
