use Rattle.std.proofs.Common.{◌^◌, refl, arith, lit≤}
use mir.Syntax.{w128}
use Rattle.std.proofs.lemmas.Fn.{says_at}
use Rattle.books.proofs.Within.{small-passed}
use Rattle.books.proofs.Paying.{paid-none, paid-within, paid-low, paid-turn, paid-all, counted-cash}
use Rattle.books.proofs.payments.credit_members.Goals as goal

pub loop-row-init : goal.loop-row-init
loop-row-init g c = λ flow size brings. paid-none flow size _ _

pub credit_if_member-requires : goal.credit_if_member-requires
credit_if_member-requires g c =
    let flow = c.requires.small.0 in
    let brings = c.requires.small.1 in
    record {
      had = paid-within flow (2 ^ 96) _ _ (2 ^ 100) _ 256 (2 ^ 120) _ (c.loop-row.invariant flow (2 ^ 96) brings) (omega arith) (lit≤ tt) c.requires.had;
      small = small-passed w128 (2 ^ 96) (2 ^ 120) c.amount.result c.amount.type_inv (lit≤ tt) (brings c.row-item.result c.amount.result (says_at g.F.Fn c.amount.ensures refl)).1;
    }

pub loop-row-preserved : goal.loop-row-preserved
loop-row-preserved g c = λ flow size brings.
    let here = brings c.row-item.result c.amount.result (says_at g.F.Fn c.amount.ensures refl) in
    paid-turn w128 _ c.amount.result c.row-item.result (c.loop-row.invariant flow size brings) (counted-cash c.args.accounts.now.list c.args.accounts.now.counted) c.amount.type_inv here.1 c.loop-row-test.true c.row-item.is here.0 c.credit_if_member.ensures

pub returns : goal.returns
returns g c = record {
  value = λ flow size brings. paid-all flow size _ _ _ _ (c.loop-row.invariant flow size brings) c.loop-row-test.false;
  low = λ flow size b brings e. paid-low flow size _ _ b _ 256 _ (c.loop-row.invariant flow size brings) (omega arith) e;
}
