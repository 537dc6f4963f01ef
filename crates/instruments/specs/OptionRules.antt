-- The plain option keeps the rules. Assumes nothing.
use Rattle.std.proofs.Common.{arith}
use Rattle.std.proofs.lemmas.Bool.Decides.{nat_tests}
use Rattle.instruments.specs.declared.options.Vanilla.TheVariants.{Call, Put}
use Rattle.instruments.specs.Rules.{Rules}
use Rattle.instruments.specs.Vanilla.{vanilla_meaning}

pub vanilla-rules : Rules vanilla_meaning
vanilla-rules top (Call k) ceil valid = record {
  covered = λ s low. grind (arith, nat_tests);
  bounded = grind (arith, nat_tests);
  few = grind (arith, nat_tests);
  inside = λ i low. grind (arith, nat_tests);
  straight = λ s at. let k_off = at.off 0 in grind (arith, nat_tests);
}
vanilla-rules top (Put k) ceil valid = record {
  covered = λ s low. grind (arith, nat_tests);
  bounded = grind (arith, nat_tests);
  few = grind (arith, nat_tests);
  inside = λ i low. grind (arith, nat_tests);
  straight = λ s at. let k_off = at.off 0 in grind (arith, nat_tests);
}
