-- What the search keeps while it tries one price after another. Assumes nothing.
use Rattle.std.specs.Prelude.{◌≡◌, ℕ, ◌*◌, ◌^◌, ◌≤◌, cond, ℤ, int_lt, nat_lt}
use Rattle.matching.specs.declared.search.Peak.{Peak}
use Rattle.matching.specs.Sums.{AsGood, largest, lowest, Small}

-- of two, the one with the larger owed, and at equal owed the one with the lower price
abbrev pub better_of : Peak → Peak → Peak
better_of a b = cond (int_lt a.owed b.owed) b (cond (int_lt b.owed a.owed) a (cond (nat_lt b.price a.price) b a))

-- what is owed at a price
abbrev pub at_price : (ℕ → ℤ) → ℕ → Peak
at_price f s = record { owed = f s; price = s }

-- The figure f says what is owed at each price.
module _ (f : ℕ → ℤ) (top : ℕ) where
  -- a price up to the ceiling, with what is owed there
  pub record Candidate (p : Peak) : Type 0 where
    pub within : p.price ≤ top
    pub owes : p.owed ≡ f p.price
    pub small : Small (257 * 2 ^ 96) p.owed

  -- a candidate that is as good as the one before
  pub record Improves (old p : Peak) : Type 0 where
    pub stands : Candidate p
    pub keeps : AsGood f p.price old.price

  -- the most that is owed, and the lowest price where it is
  pub record Highest (p : Peak) : Type 0 where
    pub owed : p.owed ≡ largest f top
    pub price : p.price ≡ lowest f top
    pub small : Small (257 * 2 ^ 96) p.owed
