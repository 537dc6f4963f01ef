use Rattle.std.proofs.Common.{◌^◌, lit≤}
use Rattle.books.proofs.Bounds.{members-small}
use Rattle.books.proofs.ledger.Books.paid_out.Goals as goal

pub pay_out-requires : goal.pay_out-requires
pay_out-requires g c = members-small c.requires (2 ^ 100) (lit≤ tt)
