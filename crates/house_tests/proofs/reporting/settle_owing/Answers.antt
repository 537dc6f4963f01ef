use Rattle.std.proofs.Common.{ap}
use Rattle.books.specs.State.{shape}
use Rattle.house.proofs.Owed.{never-refused, not-settled}
use Rattle.house_tests.proofs.reporting.settle_owing.Goals as goal

pub unreachable-requires : goal.unreachable-requires
unreachable-requires g c =
    let made = c.in_ok-token.ensures in
    never-refused
    g.C.Contract.meaning
    (shape c.args.house.now.books)
    (shape c.settle.new.self.books)
    c.args.fills.now
    c.args.weights.now
    c.in_ok-token.field-0-0
    c.in_ok-token.token.house
    c.in_ok-token.token.clearing
    c.args.page.now
    c.in-Err.field-0-1
    made.answer
    (not-settled g.C.Contract.meaning (shape c.args.house.now.books) (shape c.clear.new.self.books) (shape c.settle.new.self.books) c.args.fills.now c.args.weights.now c.in_ok-token.field-0-0 0 made.answer made.after c.settle.ensures.after)
    (ap (λ t. t.house) made.token)
    (ap (λ t. t.clearing) made.token)
    c.requires
    c.in-Err.ensures.answer
