-- The text of a figure that fits 128 bits. Assumes nothing.
use Rattle.std.proofs.Common.{◌≡◌, ℕ, ◌+◌, ◌/◌, ◌%◌, ◌^◌, ◌<◌, ◌≤◌, [], ◌∷◌, ◌++◌, length, ap, ◌∙◌, arith}
use Rattle.std.proofs.lemmas.List.{length_push}
use Rattle.report.specs.Adding.{digits}
use Rattle.report.proofs.Places.{decimal-one, decimal_step, decimal-short}

pub digits-one : (n : ℕ) → n < 10 → digits n ≡ (48 + n) ∷ []
unfolding digits
digits-one n h = decimal-one 38 n h

-- 39 places hold all of a number of 128 bits, so the digits before the last are those of a tenth
pub digits_step : (n : ℕ) → 10 ≤ n → n < 2 ^ 128 → digits n ≡ digits (n / 10) ++ ((48 + n % 10) ∷ [])
unfolding digits
digits_step n high h = decimal_step 37 n high (omega arith)

pub digits-longer : (n : ℕ) → 10 ≤ n → n < 2 ^ 128 → length (digits n) ≡ length (digits (n / 10)) + 1
digits-longer n high h = ap length (digits_step n high h) ∙ length_push (digits (n / 10)) (48 + n % 10)

pub digits-short : (n : ℕ) → length (digits n) ≤ 39
unfolding digits
digits-short n = decimal-short 39 n
