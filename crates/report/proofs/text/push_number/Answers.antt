use Rattle.std.proofs.Common.{ap, ◌∙◌, length, arith}
use Rattle.std.proofs.lemmas.List.{length-append}
use Rattle.report.specs.Adding.{digits}
use Rattle.report.proofs.Figures.{digits-short}
use Rattle.report.proofs.text.push_number.Goals as goal

pub push_digits-requires : goal.push_digits-requires
push_digits-requires c = omega (arith, digits-short c.args.n)

pub returns-clause-few : goal.returns-clause-few
returns-clause-few c = omega (arith, ap length c.push_digits.ensures ∙ length-append c.args.text.now.bytes (digits c.args.n), digits-short c.args.n)
