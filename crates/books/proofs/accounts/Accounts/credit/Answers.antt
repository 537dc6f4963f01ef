use Rattle.std.proofs.Common.{◌-◌, get_or, pos, ◌+ℤ◌, ap, ◌∙◌}
use mir.Syntax.{w128}
use Rattle.std.proofs.lemmas.Int.{to_z-of_z}
use Rattle.books.proofs.Paying.{credit-at}
use Rattle.books.proofs.accounts.Accounts.credit.Goals as goal

pub returns : goal.returns
returns c =
    let at = c.args.member.number - 1 in
    credit-at c.args.self.now.list at c.credit.new.self c.args.amount (c.credit.ensures ∙ ap (λ z. (get_or c.args.self.now.list at (record { cash = pos 0 })).cash +ℤ z) (to_z-of_z w128 c.args.amount c.ranges.amount))
