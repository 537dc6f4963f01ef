use Rattle.matching.specs.Fills.{given}
use Rattle.matching.proofs.Reserves.{highest-beside}
use Rattle.matching.proofs.book.Book.reserve_beside.Goals as goal

pub returns : goal.returns
returns g c =
    let high = highest-beside g.C.Contract.meaning c.args.self.now.ceiling.value c.args.self.now.rows.now (given c.args.fills.now) c.peak_beside.result c.args.asked.contract c.args.asked.lots c.args.asked.request c.side_of.result c.side_of.ensures c.peak_beside.ensures in
    record { owed = high.owed; price = high.price; bound = high.small }
