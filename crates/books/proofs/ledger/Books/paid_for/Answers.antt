use Rattle.std.proofs.Common.{◌^◌, lit≤}
use Rattle.books.proofs.Bounds.{members-small}
use Rattle.books.proofs.ledger.Books.paid_for.Goals as goal

pub pay_for_fills-requires : goal.pay_for_fills-requires
pay_for_fills-requires g c = members-small c.requires (2 ^ 100) (lit≤ tt)
