use Rattle.std.proofs.Common.{◌≡◌, ◌+◌, ◌/◌, ◌%◌, ◌<◌, [], ◌∷◌, ◌++◌, length, sym, ap, ◌∙◌, arith, rules}
use Rattle.std.proofs.lemmas.List.{append_assoc, length-append}
use Rattle.std.proofs.lemmas.Str.{encode_ascii}
use Rattle.report.specs.Adding.{digits}
use Rattle.report.proofs.Figures.{digits-one, digits_step, digits-longer}
use Rattle.report.proofs.text.+push_digits.Goals as goal
use Rattle.report.proofs.text.+push_digits.Goals.{then-n-ge10, else-n-ge10}

pub push_digits-requires : goal.push_digits-requires
push_digits-requires t c = (search rules, omega (arith, digits-longer c.args.n c.if-n-ge10.true (omega arith)))

pub push-requires : goal.push-requires
push-requires t c =
    let byte : c.from.result < 128 = omega (arith, c.from.ensures, c.last_digit.ensures) in
    let one = ap length (encode_ascii c.from.result byte) in
    elim c.if-n-ge10.branch [
      | then-n-ge10 w ↦ (search rules, omega (arith, one, ap (λ t. length t.bytes) w.text-is, ap length w.push_digits.ensures ∙ length-append c.args.text.now.bytes (digits (c.args.n / 10)), digits-longer c.args.n w.if-n-ge10.true (omega arith)))
      | else-n-ge10 w ↦ (search rules, omega (arith, one, ap (λ t. length t.bytes) w.text-is, ap length (digits-one c.args.n w.if-n-ge10.false)))
    ]

pub returns : goal.returns
returns t c =
    let before = c.args.text.now.bytes in
    let last = (48 + c.args.n % 10) ∷ [] in
    let digit = c.from.ensures ∙ c.last_digit.ensures in
    let byte : c.from.result < 128 = omega (arith, digit) in
    let now-bytes = c.push.ensures.ascii byte ∙ ap (λ d. c.if-n-ge10.text.bytes ++ (d ∷ [])) digit in
    elim c.if-n-ge10.branch [
      | then-n-ge10 w ↦ now-bytes ∙ ap (λ t. t.bytes ++ last) w.text-is ∙ ap (λ ds. ds ++ last) w.push_digits.ensures ∙ append_assoc before (digits (c.args.n / 10)) last ∙ ap (λ ds. before ++ ds) (sym (digits_step c.args.n w.if-n-ge10.true (omega arith)))
      | else-n-ge10 w ↦
          let same : c.args.n % 10 ≡ c.args.n = omega (arith, w.if-n-ge10.false) in
          now-bytes ∙ ap (λ t. t.bytes ++ last) w.text-is ∙ ap (λ d. before ++ ((48 + d) ∷ [])) same ∙ ap (λ ds. before ++ ds) (sym (digits-one c.args.n w.if-n-ge10.false))
    ]
