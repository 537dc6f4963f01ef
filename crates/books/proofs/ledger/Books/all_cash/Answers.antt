use Rattle.std.proofs.Common.{◌^◌, lit≤, rules}
use Rattle.books.proofs.Bounds.{cash-small, total-small, members-small}
use Rattle.books.proofs.ledger.Books.all_cash.Goals as goal

pub total-requires : goal.total-requires
total-requires g c = members-small c.requires (2 ^ 110) (lit≤ tt)

pub overflow_add-result : goal.overflow_add-result
overflow_add-result g c = let near = cash-small c.requires in let members = total-small c.requires in search rules

pub returns : goal.returns
returns g c = let near = cash-small c.requires in let members = total-small c.requires in search rules
