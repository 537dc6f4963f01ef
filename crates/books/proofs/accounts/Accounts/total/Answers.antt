use Rattle.std.proofs.Common.{◌^◌, ◌<◌, length, get_or, pos, sym, refl, ◌∙◌, arith, lit<}
use mir.Syntax.{w128}
use Rattle.std.proofs.lemmas.List.{get_or_default}
use Rattle.matching.proofs.Running.{running-all, turn-fits, turn-again}
use Rattle.books.proofs.Within.{small-fits}
use Rattle.books.proofs.Paying.{account-small}
use Rattle.books.proofs.Sums.{total-map}
use Rattle.books.proofs.accounts.Accounts.total.Goals as goal

pub overflow_add-sum : goal.overflow_add-sum
overflow_add-sum c =
    let small = account-small (2 ^ 110) c.args.self.now.list c.loop-account.account-index c.requires in
    turn-fits w128 64 (get_or c.args.self.now.list c.loop-account.account-index (record { cash = pos 0 })).cash c.loop-account.invariant (omega arith) (lit< tt) (small-fits w128 (2 ^ 110) _ (lit< tt) small).sfits small

pub loop-account-preserved : goal.loop-account-preserved
loop-account-preserved c =
    let small = account-small (2 ^ 110) c.args.self.now.list c.loop-account.account-index c.requires in
    let there : c.loop-account.account-index < length c.args.self.now.list = omega (arith, c.args.self.now.counted) in
    turn-again w128 64 (get_or c.args.self.now.list c.loop-account.account-index (record { cash = pos 0 })).cash c.loop-account.invariant (omega arith) (lit< tt) (small-fits w128 (2 ^ 110) _ (lit< tt) small).sfits small (get_or c.args.self.now.list c.loop-account.account-index (record { cash = pos 0 })) there (get_or_default _ _ _ _ there) refl

pub returns : goal.returns
returns c =
    running-all _ _ _ _ _ c.loop-account.invariant (omega (arith, c.args.self.now.counted)) ∙ sym (total-map (λ z. z) (λ one. one.cash) c.args.self.now.list)
