use Rattle.std.proofs.Common.{◌^◌, ◌-ℤ◌, lit≤, rules, SFits}
use mir.Syntax.{w128}
use Rattle.books.proofs.Bounds.{member-small}
use Rattle.books.proofs.ledger.Books.short_of.Goals as goal

pub overflow_sub-result : goal.overflow_sub-result
overflow_sub-result g c = let near = member-small c.requires.sound (2 ^ 100) c.args.member.number (lit≤ tt) in search rules

pub returns : goal.returns
returns g c =
    let near = member-small c.requires.sound (2 ^ 100) c.args.member.number (lit≤ tt) in
    let fits : SFits w128 (c.cash_of.result -ℤ c.from.result) = search rules in
    search rules
