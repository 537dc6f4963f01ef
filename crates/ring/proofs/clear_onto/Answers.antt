use Rattle.std.proofs.Common.{ap}
use Rattle.books.specs.State.{shape}
use Rattle.house.proofs.Owed.{never-refused, report-length}
use Rattle.ring.proofs.clear_onto.Goals as goal

pub unreachable-requires : goal.unreachable-requires
unreachable-requires g c =
    let made = c.in_ok-token.ensures in
    never-refused
    g.C.Contract.meaning
    (shape c.args.house.now.books)
    (shape c.clear.new.self.books)
    c.args.fills.now
    c.args.weights.now
    c.in_ok-token.field-0-0
    c.in_ok-token.token.house
    c.in_ok-token.token.clearing
    c.args.page.now
    c.in-Err.field-0-1
    made.answer
    made.after
    (ap (λ t. t.house) made.token)
    (ap (λ t. t.clearing) made.token)
    c.requires
    c.in-Err.ensures.answer

pub returns : goal.returns
returns g c = report-length (shape c.clear.new.self.books) c.in_ok-token.token.house c.in_ok-token.token.clearing c.args.page.now c.in-Ok.length c.in-Ok.ensures.answer
