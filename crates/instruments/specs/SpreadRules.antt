-- The spread keeps the rules. Assumes nothing.
use Rattle.std.proofs.Common.{arith}
use Rattle.std.proofs.lemmas.Bool.Decides.{nat_tests}
use Rattle.instruments.specs.declared.spreads.Spread.TheVariants.{Rising, Falling}
use Rattle.instruments.specs.Rules.{Rules}
use Rattle.instruments.specs.Spread.{spread_meaning}

pub spread-rules : Rules spread_meaning
spread-rules top (Rising low high) ceil valid = record {
  covered = λ s within. grind (arith, nat_tests);
  bounded = grind (arith, nat_tests);
  few = grind (arith, nat_tests);
  inside = λ i within. grind (arith, nat_tests);
  straight = λ s at. let low-off = at.off 0 in let high-off = at.off 1 in grind (arith, nat_tests);
}
spread-rules top (Falling low high) ceil valid = record {
  covered = λ s within. grind (arith, nat_tests);
  bounded = grind (arith, nat_tests);
  few = grind (arith, nat_tests);
  inside = λ i within. grind (arith, nat_tests);
  straight = λ s at. let low-off = at.off 0 in let high-off = at.off 1 in grind (arith, nat_tests);
}
