use Rattle.std.proofs.Common.{rules, ◌-ℤ◌, SFits}
use mir.Syntax.{w128}
use Rattle.books.proofs.Bounds.{cash-small}
use Rattle.books.proofs.ledger.Books.settle.Goals as goal

pub overflow_sub-self : goal.overflow_sub-self
overflow_sub-self g c = let near = cash-small c.requires in search rules

pub returns-clause-value : goal.returns-clause-value
returns-clause-value g c =
    let near = cash-small c.requires in
    let fits : SFits w128 (c.args.self.now.cash -ℤ c.from.result) = search rules in
    search rules
