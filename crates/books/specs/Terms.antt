-- Which figures are terms. Assumes nothing.
use Rattle.std.specs.Prelude.{ℕ, Bool, not, ◌&&◌, [], ◌∷◌, Ok, Err, Result, nat_le}
use Rattle.books.specs.declared.refusals.Refusal.{Refusal}
use Rattle.books.specs.declared.refusals.Refusal.TheVariants as refused
use Rattle.books.specs.declared.terms.Terms.{Terms}
use Rattle.instruments.specs.Bounds.{max_ceiling}
use Rattle.books.specs.Refusals.{tested, fails_if}

-- a house number, a ceiling and an allowed gap
pub record Figures : Type 0 where
  pub house : ℕ
  pub ceiling : ℕ
  pub gap : ℕ

abbrev pub are_terms : ℕ → ℕ → ℕ → Bool
are_terms house ceiling gap = nat_le house 65535 && (nat_le 1 ceiling && (nat_le ceiling max_ceiling && nat_le gap 1000000000))

abbrev pub terms_answer : ℕ → ℕ → ℕ → Result Figures Refusal
terms_answer house ceiling gap = tested (fails_if (not (are_terms house ceiling gap)) refused.Terms ∷ []) (record { house = house; ceiling = ceiling; gap = gap })

-- the figures of the terms that were answered, if any were
abbrev pub told_terms : Result Terms Refusal → Result Figures Refusal
told_terms (Ok t) = Ok (record { house = t.house; ceiling = t.ceiling.value; gap = t.gap })
told_terms (Err r) = Err r
