use Rattle.std.proofs.Common.{◌≡◌, ◌*◌, ◌^◌, ◌<◌, pos, ◌*ℤ◌, lit<, lit≤, to_z, of_z}
use lib.Signed.{mag}
use mir.Syntax.{w128}
use Rattle.matching.specs.Sums.{Small}
use Rattle.matching.proofs.Amounts.{again, small-fits, small-back, times-small, times-back}
use Rattle.matching.proofs.weights.Weights.counted.Goals as goal

same : (c : goal.After-from) → (to_z w128 (of_z w128 c.from.result) *ℤ to_z w128 (of_z w128 c.args.amount)) ≡ pos c.args.self.now.sum *ℤ c.args.amount
same c = times-back c.args.self.now.sum c.from.result c.args.amount c.from.type_inv c.ranges.amount.sfits c.from.ensures

small : (c : goal.After-from) → Small (1000000 * 2 ^ 106) (pos c.args.self.now.sum *ℤ c.args.amount)
small c = times-small c.args.self.now.sum 1000000 (2 ^ 106) c.args.amount c.args.self.now.few c.requires

fits : (c : goal.After-from) → mag (pos c.args.self.now.sum *ℤ c.args.amount) < 2 ^ 127
fits c = small-fits _ _ (lit< tt) (small c)

pub overflow_mul-result : goal.overflow_mul-result
overflow_mul-result c = rw (same c) (record { sfits = fits c })

pub returns : goal.returns
returns c = rw (same c) (record { value = again _ (fits c); bound = small-back _ _ _ (lit≤ tt) (lit< tt) (small c) })
