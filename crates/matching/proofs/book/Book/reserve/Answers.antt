use Rattle.std.proofs.Common.{sym, arith}
use Rattle.std.proofs.lemmas.Int.{ints}
use Rattle.matching.specs.Figures.{owed}
use Rattle.matching.specs.Fills.{given}
use Rattle.matching.proofs.Lowest.{largest-zero, lowest-zero}
use Rattle.matching.proofs.Reserves.{highest-alone, no-fills}
use Rattle.matching.proofs.book.Book.reserve.Goals as goal

pub returns-then-is_empty : goal.returns-then-is_empty
returns-then-is_empty g c =
    let m = g.C.Contract.meaning in
    let top = c.args.self.now.ceiling.value in
    let rows = c.args.self.now.rows.now in
    let fills = c.args.fills.now in
    let flat = no-fills m top fills (sym c.if-is_empty.ensures) rows in
    record {
      owed = sym (largest-zero (owed m top rows (given fills)) top flat);
      price = sym (lowest-zero (owed m top rows (given fills)) top flat);
      bound = record { low = omega (arith, ints); high = omega (arith, ints) };
    }

pub returns : goal.returns
returns g c =
    let high = highest-alone g.C.Contract.meaning c.args.self.now.ceiling.value c.args.self.now.rows.now (given c.args.fills.now) c.peak_beside.result c.peak_beside.ensures in
    record { owed = high.owed; price = high.price; bound = high.small }
