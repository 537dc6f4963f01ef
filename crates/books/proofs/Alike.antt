-- The rows of a house and the orders of the ledger differ in their order and by rows without lots. So any sum that counts nothing for an unused row is the same over both. Assumes nothing.
use Rattle.std.proofs.Common.{◌≡◌, ℕ, ◌*◌, ◌<◌, false, cond, eqb, List, ◌∷◌, map, length, get_or, set, ℤ, pos, sym, ◌∙◌, arith}
use Rattle.std.proofs.lemmas.Int.{ints}
use Rattle.std.proofs.lemmas.Bool.Decides.{nat_tests}
use Rattle.instruments.specs.Meaning.{Meaning}
use Rattle.matching.proofs.Lowest.{largest-same}
use Rattle.matching.specs.declared.proposals.Fill.{Fill}
use Rattle.matching.specs.declared.proposals.Weight.{Weight}
use Rattle.matching.specs.declared.rows.Row.{Row}
use Rattle.matching.specs.declared.rows.Side.{Side}
use Rattle.matching.specs.declared.rows.Side.TheVariants.{Buy, Sell}
use Rattle.matching.specs.Figures.{row_cash, row_owed, cash_now, owed, reserve, net, filled_lots, exposure, row_bound, gap}
use Rattle.matching.specs.Fills.{given}
use Rattle.matching.specs.Rows.{used, signed, hold, held, held_in_row}
use Rattle.matching.specs.Sums.{total}
use Rattle.books.specs.Money.{share}
use Rattle.books.proofs.Sums.{total-map, total-set}

pub signed-none : (side : Side) (a q : ℕ) → q ≡ 0 → signed side (a * q) ≡ pos 0
signed-none Buy a q none = rw none (omega (arith, ints))
signed-none Sell a q none = rw none (omega (arith, ints))

module _ {C : Type 0} where
  -- f counts nothing for a row without lots
  abbrev pub SkipsUnused : (Row C → ℤ) → Type 0
  SkipsUnused f = (r : Row C) → used r ≡ false → f r ≡ pos 0

  abbrev pub Alike : List (Row C) → List (Row C) → Type 0
  Alike rows orders = (f : Row C → ℤ) → SkipsUnused f → total f rows ≡ total f orders

  -- a row's quantity that is 0 on a row without lots
  abbrev pub NoneUnused : (Row C → ℕ) → Type 0
  NoneUnused lots = (r : Row C) → used r ≡ false → lots r ≡ 0

  pub no-open : (r : Row C) → used r ≡ false → r.«open» ≡ 0
  no-open r unused = grind (arith, nat_tests)

  pub no-filled : (r : Row C) → used r ≡ false → r.filled ≡ 0
  no-filled r unused = grind (arith, nat_tests)

  pub given-none : (fills : List Fill) → NoneUnused (given fills)
  given-none fills r unused = let none = no-open r unused in grind (arith, nat_tests)

  hold-none : (m : Meaning C) (top : ℕ) (r : Row C) (side : Side) → used r ≡ false → hold m top r side ≡ 0
  hold-none m top r Buy unused = rw (no-open r unused) (omega arith)
  hold-none m top r Sell unused = rw (no-open r unused, no-filled r unused) (omega arith)

  -- ---- the figures that count nothing for an unused row
  pub held-skips : (m : Meaning C) (top n : ℕ) → SkipsUnused (held_in_row m top n)
  held-skips m top n r unused = rw (hold-none m top r r.side unused) (grind (arith, nat_tests))

  pub cash-skips : (lots : Row C → ℕ) → NoneUnused lots → SkipsUnused (row_cash lots)
  cash-skips lots none r unused = signed-none r.side r.price (lots r) (none r unused)

  pub owed-skips : (m : Meaning C) (top : ℕ) (lots : Row C → ℕ) (s : ℕ) → NoneUnused lots → SkipsUnused (row_owed m top lots s)
  owed-skips m top lots s none r unused = signed-none r.side (m.payoff top r.contract s) (lots r) (none r unused)

  pub bound-skips : (m : Meaning C) (top : ℕ) (ws : List Weight) → SkipsUnused (row_bound m top ws)
  bound-skips m top ws r unused = rw (no-open r unused) (omega (arith, ints))

  pub share-skips : (flow : Row C → ℤ) (n : ℕ) → SkipsUnused flow → SkipsUnused (λ r. cond (eqb r.member n) (flow r) (pos 0))
  share-skips flow n skips r unused = rw (skips r unused) (grind (arith, nat_tests))

  -- ---- so they are the same over both lists
  module _ (m : Meaning C) (top : ℕ) (rows orders : List (Row C)) (alike : Alike rows orders) where
    pub held-alike : (n : ℕ) → held m top rows n ≡ held m top orders n
    held-alike n = alike (held_in_row m top n) (held-skips m top n)

    pub exposure-alike : (s : ℕ) → exposure m top rows s ≡ exposure m top orders s
    exposure-alike s = alike (row_owed m top filled_lots s) (owed-skips m top filled_lots s no-filled)

    pub share-alike : (flow : Row C → ℤ) → SkipsUnused flow → (n : ℕ) → share flow rows n ≡ share flow orders n
    share-alike flow skips n = alike (λ r. cond (eqb r.member n) (flow r) (pos 0)) (share-skips flow n skips)

    module _ (lots : Row C → ℕ) (none : NoneUnused lots) where
      pub cash-alike : cash_now rows lots ≡ cash_now orders lots
      cash-alike = alike (row_cash lots) (cash-skips lots none)

      pub owed-alike : (s : ℕ) → owed m top rows lots s ≡ owed m top orders lots s
      owed-alike s = alike (row_owed m top lots s) (owed-skips m top lots s none)

      pub reserve-alike : reserve m top rows lots ≡ reserve m top orders lots
      reserve-alike = largest-same (owed m top rows lots) (owed m top orders lots) top (λ s h. owed-alike s)

      pub net-alike : net m top rows lots ≡ net m top orders lots
      net-alike = omega (arith, ints, cash-alike, reserve-alike)

      pub gap-alike : (ws : List Weight) → gap m top ws rows lots ≡ gap m top ws orders lots
      gap-alike ws = rw (net-alike, alike (row_bound m top ws) (bound-skips m top ws))

  -- ---- what keeps two lists alike
  -- a change of each row that brings no row without lots to life
  pub alike-map : (g : Row C → Row C) → ((r : Row C) → used r ≡ false → used (g r) ≡ false) → (rows orders : List (Row C)) → Alike rows orders → Alike (map g rows) (map g orders)
  alike-map g stays rows orders alike f skips = total-map f g rows ∙ alike (λ r. f (g r)) (λ r unused. skips (g r) (stays r unused)) ∙ sym (total-map f g orders)

  -- an order put where none was
  pub alike_set : (rows orders : List (Row C)) (k : ℕ) (r : Row C) → Alike rows orders → k < length rows → used (get_or rows k r) ≡ false → Alike (set rows k r) (r ∷ orders)
  alike_set rows orders k r alike within free f skips = omega (arith, ints, total-set f rows k r r within, skips (get_or rows k r) free, alike f skips)
