-- What the peaks of the search are: the reserve, and the reserve of a quote. Assumes nothing.
use Rattle.std.proofs.Common.{◌≡◌, ℕ, true, eqb, List, [], ◌∷◌, length, pos, Some, None, Option, refl, ap, ◌∙◌, mul-zero}
use lib.IntN.{+ℤ_idr}
use Rattle.std.proofs.lemmas.List.{nil_from_length}
use Rattle.std.proofs.lemmas.Bool.{eqb-true, cond_both}
use Rattle.instruments.specs.Meaning.{Meaning}
use Rattle.matching.specs.declared.legs.Leg.{Leg}
use Rattle.matching.specs.declared.proposals.Fill.{Fill}
use Rattle.matching.specs.declared.quotes.Request.{Request}
use Rattle.matching.specs.declared.quotes.Request.TheVariants.{Bid, Ask}
use Rattle.matching.specs.declared.rows.Row.{Row}
use Rattle.matching.specs.declared.rows.Side.{Side}
use Rattle.matching.specs.declared.rows.Side.TheVariants.{Buy, Sell}
use Rattle.matching.specs.declared.search.Peak.{Peak}
use Rattle.matching.specs.Candidates.{Highest}
use Rattle.matching.specs.Figures.{owed, row_owed}
use Rattle.matching.specs.Fills.{given}
use Rattle.matching.specs.Legs.{legs_owed, row_legs, told_lots, owed_with, request_side}
use Rattle.matching.specs.Quotes.{owed_beside}
use Rattle.matching.specs.Rows.{signed, standing}
use Rattle.matching.proofs.Places.{listed-owe}
use Rattle.matching.proofs.Totals.{total-none}
use Rattle.matching.proofs.Tries.{highest-same}

module _ {C : Type 0} (m : Meaning C) (top : ℕ) (rows : List (Row C)) (lots : Row C → ℕ) (p : Peak) where
  -- the rows as a call lent them, with the lots that another call told
  pub highest-with : (lent : List (Row C)) (told : List ℕ) (n : ℕ) (beside : Option (Leg C)) → lent ≡ rows → told ≡ told_lots n lots lent → Highest (legs_owed m top (beside ∷ row_legs lent told)) top p → Highest (owed_with m top rows lots beside) top p
  highest-with lent told n beside same counted high =
      highest-same _ _ top p (λ s. ap (λ ns. legs_owed m top (beside ∷ row_legs lent ns) s) counted ∙ listed-owe m top s lots lent n beside ∙ ap (λ rs. owed_with m top rs lots beside s) same) high

  -- with nothing beside the rows
  pub highest-alone : Highest (owed_with m top rows lots None) top p → Highest (owed m top rows lots) top p
  highest-alone high = highest-same _ _ top p (λ s. +ℤ_idr (owed m top rows lots s)) high

  -- with what is quoted beside them
  beside_same : (c : C) (t : ℕ) (request : Request) (s : ℕ) → owed_with m top rows lots (Some (record { contract = c; side = request_side request; lots = t })) s ≡ owed_beside m top rows lots c t request s
  beside_same c t Bid s = refl
  beside_same c t Ask s = refl

  pub highest-beside : (c : C) (t : ℕ) (request : Request) (side : Side) → side ≡ request_side request → Highest (owed_with m top rows lots (Some (record { contract = c; side = side; lots = t }))) top p → Highest (owed_beside m top rows lots c t request) top p
  highest-beside c t request side is high = highest-same _ _ top p (beside_same c t request) (rw is at high)

-- no fills: each row is given nothing, and nothing is owed at any price
module _ {C : Type 0} (m : Meaning C) (top : ℕ) where
  given-none : (r : Row C) → given [] r ≡ 0
  given-none r = cond_both (standing r) 0 0 (λ n. n ≡ 0) (λ e. refl) (λ e. refl)

  none-owed : (side : Side) → signed side 0 ≡ pos 0
  none-owed Buy = refl
  none-owed Sell = refl

  row-owes-none : (s : ℕ) (r : Row C) → row_owed m top (given []) s r ≡ pos 0
  row-owes-none s r = rw (given-none r, mul-zero) (none-owed r.side)

  pub no-fills : (fills : List Fill) → eqb (length fills) 0 ≡ true → (rows : List (Row C)) (s : ℕ) → owed m top rows (given fills) s ≡ pos 0
  no-fills fills empty rows s =
      let none : fills ≡ [] = nil_from_length fills (eqb-true _ _ empty) in
      ap (λ fs. owed m top rows (given fs) s) none ∙ total-none (row_owed m top (given []) s) (row-owes-none s) rows
