use Rattle.std.proofs.Common.{arith}
use Rattle.std.proofs.lemmas.Int.{ints, clamps}
use Rattle.books.proofs.Bounds.{cash-small, reserve-small}
use Rattle.books.proofs.ledger.Books.house_short_of.Goals as goal

pub returns : goal.returns
returns g c = let near = cash-small c.requires in let kept = reserve-small c.requires in grind (arith, ints, clamps)
