-- A reader of figures in base ten, and the law that it reads what the report writes. Assumes nothing.
use Rattle.std.specs.Prelude.{◌≡◌, ℕ, ◌+◌, ◌-◌, ◌*◌, ◌^◌, ◌<◌, ◌≤◌, cond, List, [], ◌∷◌, length, ℤ, pos, neg_ℤ, ◌==◌, slice_index_or, unsigned_abs}
use Rattle.std.specs.List.{AllByRecursion}
use Rattle.books.specs.Publishing.{decimal, figure_text}

-- the number n, with these digits behind it
abbrev pub read_on : ℕ → List ℕ → ℕ
read_on n [] = n
read_on n (c ∷ cs) = read_on (n * 10 + (c - 48)) cs

-- a figure that has a minus in front, or none
abbrev pub read_figure : List ℕ → ℤ
read_figure [] = pos 0
read_figure (c ∷ cs) = cond (c == 45) (neg_ℤ (pos (read_on 0 cs))) (pos (read_on 0 (c ∷ cs)))

abbrev pub IsDigit : ℕ → Type 0
IsDigit c = (48 ≤ c) × (c ≤ 57)

-- a number in base ten: digits alone, one at least, that read as the number, and 0 is first only in 0
pub record Plain (n : ℕ) (ds : List ℕ) : Type 0 where
  pub figures : AllByRecursion IsDigit ds
  pub some : 0 < length ds
  pub value : read_on 0 ds ≡ n
  pub first : slice_index_or ds 0 0 ≡ 48 → n ≡ 0

-- The 39 places cut nothing off a number of 128 bits.
pub record FiguresReadBack : Type 0 where
  pub enough : 2 ^ 128 < 10 ^ 39
  pub plain : (n : ℕ) → n < 10 ^ 39 → Plain n (decimal 39 n)
  pub back : (z : ℤ) → unsigned_abs z < 10 ^ 39 → read_figure (figure_text z) ≡ z
