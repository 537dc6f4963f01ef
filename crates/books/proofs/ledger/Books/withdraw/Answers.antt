use Rattle.std.proofs.Common.{◌^◌, pos, neg_ℤ, lit≤, arith, rules, SFits}
use mir.Syntax.{w128}
use Rattle.std.proofs.lemmas.Int.{ints}
use Rattle.books.proofs.Bounds.{member-small}
use Rattle.books.proofs.ledger.Books.withdraw.Goals as goal

pub credit-requires-clause-had : goal.credit-requires-clause-had
credit-requires-clause-had g c = member-small c.requires.sound (2 ^ 120) c.args.member.number (lit≤ tt)

pub returns-clause-value : goal.returns-clause-value
returns-clause-value g c =
    let fits : SFits w128 (neg_ℤ (pos c.args.amount)) = omega (arith, ints) in
    search rules
