use Rattle.std.proofs.Common.{◌^◌, refl, arith, lit<}
use mir.Syntax.{w128}
use Rattle.std.proofs.lemmas.Fn.{says_at}
use Rattle.matching.proofs.Running.{told-none, told-turn-fits, told-turn-again, told-all, told-within}
use Rattle.matching.proofs.book.Book.sum.Goals as goal

pub loop-row-init : goal.loop-row-init
loop-row-init g c = told-none _

pub overflow_add-sum : goal.overflow_add-sum
overflow_add-sum g c =
    told-turn-fits w128 256 (2 ^ 96) c.row-item.result c.figure-sum.result c.loop-row.invariant (says_at g.F.Fn c.figure-sum.ensures refl) (omega (arith, c.args.self.now.few)) (lit< tt) c.figure-sum.type_inv c.requires.small

pub loop-row-preserved : goal.loop-row-preserved
loop-row-preserved g c =
    told-turn-again w128 256 (2 ^ 96) c.row-item.result c.figure-sum.result c.loop-row.invariant (says_at g.F.Fn c.figure-sum.ensures refl) (omega (arith, c.args.self.now.few)) (lit< tt) c.figure-sum.type_inv c.requires.small c.loop-row-test.true c.row-item.is

pub returns : goal.returns
returns g c = record {
  value = told-all _ _ _ c.loop-row.invariant c.loop-row-test.false;
  bound = told-within _ _ 256 _ c.loop-row.invariant (omega (arith, c.args.self.now.few));
}
