use Rattle.std.proofs.Common.{refl}
use Rattle.matching.proofs.Reserves.{highest-with}
use Rattle.matching.proofs.book.Book.peak_beside.Goals as goal

pub returns : goal.returns
returns g c =
    highest-with g.C.Contract.meaning _ _ _ c.peak.result c.args.self.now.rows.now c.lots_of-lots.result 256 c.args.beside refl c.lots_of-lots.ensures c.peak.ensures
