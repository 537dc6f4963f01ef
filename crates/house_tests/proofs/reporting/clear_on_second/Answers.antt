use Rattle.std.proofs.Common.{ap, ◌∙◌}
use Rattle.books.specs.State.{shape}
use Rattle.house.proofs.Owed.{never-refused, still-owed}
use Rattle.house_tests.proofs.reporting.clear_on_second.Goals as goal

pub unreachable-requires : goal.unreachable-requires
unreachable-requires g c =
    let made = c.in_ok-token.ensures in
    let handed = c.in-Err.ensures in
    never-refused
    g.C.Contract.meaning
    (shape c.args.house.now.books)
    (shape c.publish.new.self.books)
    c.args.fills.now
    c.args.weights.now
    c.in_ok-token.field-0-0
    c.in-Err.back.house
    c.in-Err.back.clearing
    c.args.second.now
    c.in-Err-publish.field-0-1
    made.answer
    (still-owed g.C.Contract.meaning (shape c.args.house.now.books) (shape c.clear.new.self.books) (shape c.publish.new.self.books) c.args.fills.now c.args.weights.now c.in_ok-token.token.house c.in_ok-token.token.clearing c.args.first.now c.in-Err.refusal made.after handed.after handed.answer)
    (ap (λ t. t.house) handed.back ∙ ap (λ t. t.house) made.token)
    (ap (λ t. t.clearing) handed.back ∙ ap (λ t. t.clearing) made.token)
    c.requires
    c.in-Err-publish.ensures.answer
