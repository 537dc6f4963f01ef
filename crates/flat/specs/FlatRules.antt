-- The constant keeps the rules. Assumes nothing.
use Rattle.std.proofs.Common.{arith}
use Rattle.std.proofs.lemmas.Bool.Decides.{nat_tests}
use Rattle.instruments.specs.Rules.{Rules}
use Rattle.flat.specs.Flat.{flat_meaning}

pub flat-rules : Rules flat_meaning
flat-rules top c ceil valid = record {
  covered = λ s within. grind (arith, nat_tests);
  bounded = grind (arith, nat_tests);
  few = grind (arith, nat_tests);
  inside = λ i within. grind (arith, nat_tests);
  straight = λ s at. grind (arith, nat_tests);
}
