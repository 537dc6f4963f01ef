use Rattle.matching.proofs.Books.{books}
use Rattle.matching.proofs.worked.worked_orders.Goals as goal

pub returns : goal.returns
returns c = record { table = books; orders = rw (c.one_lot.ensures, c.one_lot-2.ensures, c.one_lot-3.ensures, c.one_lot-4.ensures) }
