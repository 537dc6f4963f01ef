-- What the steps of writing a figure add to a text. Assumes nothing.
use Rattle.std.specs.Prelude.{ℕ, cond, List, [], ◌∷◌, ◌++◌, ℤ, pos, int_lt, unsigned_abs}
use Rattle.books.specs.Publishing.{decimal}

-- 39 places are enough for 128 bits. This stays shut until a proof opens it, since the places would
-- otherwise fill every goal.
unfoldable pub digits : ℕ → List ℕ
digits n = decimal 39 n

abbrev pub sign_of : ℤ → List ℕ
sign_of z = cond (int_lt z (pos 0)) (45 ∷ []) []

-- a text, and a figure behind it
abbrev pub with_figure : List ℕ → ℤ → List ℕ
with_figure t z = (t ++ sign_of z) ++ digits (unsigned_abs z)
