use Rattle.std.proofs.Common.{lit<, lit≤}
use Rattle.matching.specs.Fills.{given}
use Rattle.matching.proofs.Amounts.{small-fits, small-back}
use Rattle.matching.proofs.Told.{quoted-so}
use Rattle.matching.proofs.book.Book.quote.Goals as goal

pub premium_for-premium-requires : goal.premium_for-premium-requires
premium_for-premium-requires g c = record {
  cash = small-back _ _ c.cash_taken-cash.result (lit≤ tt) (lit< tt) c.cash_taken-cash.ensures.bound;
  reserve = small-back _ _ c.reserve_beside-peak.result.owed (lit≤ tt) (lit< tt) c.reserve_beside-peak.ensures.bound;
}

pub counted-requires : goal.counted-requires
counted-requires g c = small-back _ _ c.premium_for-premium.result (lit≤ tt) (lit< tt) c.premium_for-premium.ensures.bound

pub returns : goal.returns
returns g c =
    quoted-so g.C.Contract.meaning c.args.self.now.ceiling.value c.args.weights.now.list.now c.args.weights.now.sum c.args.weights.now.summed c.args.self.now.rows.now (given c.args.fills.now) c.args.asked.contract c.args.asked.lots c.args.asked.request c.value-value.result c.cash_taken-cash.result c.premium_for-premium.result c.bound-bound.result c.lots_worth.result c.counted.result c.gap_for.result c.reserve_beside-peak.result c.cash_taken-cash.type_inv c.premium_for-premium.type_inv c.bound-bound.type_inv c.lots_worth.type_inv c.counted.type_inv c.gap_for.type_inv (small-fits _ _ (lit< tt) c.reserve_beside-peak.ensures.bound) c.cash_taken-cash.ensures.value c.reserve_beside-peak.ensures.owed c.reserve_beside-peak.ensures.price c.bound-bound.ensures.value c.value-value.ensures.value c.lots_worth.ensures.value c.premium_for-premium.ensures.value c.counted.ensures.value c.gap_for.ensures
