use Rattle.std.proofs.Common.{◌^◌, lit<, lit≤, refl}
use Rattle.matching.proofs.Amounts.{small-fits, small-back, difference-fits}
use Rattle.matching.proofs.Told.{appraised}
use Rattle.matching.proofs.book.Book.appraise.Goals as goal

pub less-net-requires : goal.less-net-requires
less-net-requires g c = record {
  amount = small-back _ _ c.cash_taken-cash.result (lit≤ tt) (lit< tt) c.cash_taken-cash.ensures.bound;
  other = small-back _ _ c.reserve-peak.result.owed (lit≤ tt) (lit< tt) c.reserve-peak.ensures.bound;
}

pub counted-requires : goal.counted-requires
counted-requires g c = small-back _ _ c.less-net.result (lit≤ tt) (lit< tt) c.less-net.ensures.bound

pub returns : goal.returns
returns g c =
    let gap-fits =
    difference-fits _ _ _ _ (lit< tt) (small-back _ (2 ^ 76) c.bound-bound.result (lit≤ tt) (lit< tt) c.bound-bound.ensures.bound) (small-back _ (2 ^ 126) c.counted.result (lit≤ tt) (lit< tt) c.counted.ensures.bound) in
    record {
      value = appraised g.C.Contract.meaning c.args.self.now.ceiling.value c.args.weights.now.list.now c.args.weights.now.sum c.args.weights.now.summed c.args.self.now.rows.now c.args.fills.now c.cash_taken-cash.result c.less-net.result c.bound-bound.result c.counted.result _ c.reserve-peak.result c.cash_taken-cash.type_inv c.less-net.type_inv c.bound-bound.type_inv c.counted.type_inv gap-fits (small-fits _ _ (lit< tt) c.reserve-peak.ensures.bound) c.cash_taken-cash.ensures.value c.reserve-peak.ensures.owed c.reserve-peak.ensures.price c.bound-bound.ensures.value c.less-net.ensures.value c.counted.ensures.value refl;
      bound = record {
        cash = small-back _ _ c.cash_taken-cash.result (lit≤ tt) (lit< tt) c.cash_taken-cash.ensures.bound;
        reserve = small-back _ _ c.reserve-peak.result.owed (lit≤ tt) (lit< tt) c.reserve-peak.ensures.bound;
        net = small-back _ _ c.less-net.result (lit≤ tt) (lit< tt) c.less-net.ensures.bound;
      };
    }
