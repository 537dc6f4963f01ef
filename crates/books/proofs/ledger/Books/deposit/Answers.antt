use Rattle.std.proofs.Common.{◌^◌, lit≤}
use Rattle.books.proofs.Bounds.{member-small}
use Rattle.books.proofs.ledger.Books.deposit.Goals as goal

pub credit-requires-clause-had : goal.credit-requires-clause-had
credit-requires-clause-had g c = member-small c.requires.sound (2 ^ 120) c.args.member.number (lit≤ tt)
