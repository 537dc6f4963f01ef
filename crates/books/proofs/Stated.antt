-- What the accounts show after a clearing is what a statement of account says. Assumes nothing.
use Rattle.std.proofs.Common.{◌≡◌, ℕ, ◌*◌, Bool, true, false, cond, eqb, List, [], ◌∷◌, ℤ, pos, ◌-ℤ◌, neg_ℤ, Ok, refl, arith}
use Rattle.std.proofs.ByRecursion.{All-weaker}
use Rattle.std.proofs.lemmas.Int.{ints}
use Rattle.instruments.specs.Meaning.{Meaning}
use Rattle.matching.specs.declared.proposals.Fill.{Fill}
use Rattle.matching.specs.declared.proposals.Weight.{Weight}
use Rattle.matching.specs.declared.rows.Row.{Row}
use Rattle.matching.specs.declared.rows.Side.{Side}
use Rattle.matching.specs.declared.rows.Side.TheVariants.{Buy, Sell}
use Rattle.matching.specs.Figures.{row_cash, cash_now}
use Rattle.matching.specs.Fills.{given, orders_verdict}
use Rattle.matching.specs.Rows.{house_rows, signed}
use Rattle.matching.specs.Sums.{total}
use Rattle.books.specs.Clearing.{booked_state}
use Rattle.books.specs.Money.{share}
use Rattle.books.specs.Sound.{Sound}
use Rattle.books.specs.State.{State}
use Rattle.books.specs.Statement.{bought, sold, pays, gets, Statement}
use Rattle.books.proofs.Balances.{Owned, total-debited}
use Rattle.books.proofs.MoneyMoved.{cash-moved}
use Rattle.books.proofs.SoundClearing.{rows-fillable, cash-owned, Fillable}

own-parts : (mine : Bool) (z a b : ℤ) → z ≡ a -ℤ b → cond mine z (pos 0) ≡ cond mine a (pos 0) -ℤ cond mine b (pos 0)
own-parts true z a b e = e
own-parts false z a b e = refl

module _ {C : Type 0} (fills : List Fill) where
  -- an order buys or sells, and its cash is the one or the other
  row-parts : (r : Row C) (side : Side) → signed side (r.price * given fills r) ≡ bought fills r side -ℤ sold fills r side
  row-parts r Buy = omega (arith, ints)
  row-parts r Sell = omega (arith, ints)

  cash-parts : (rows : List (Row C)) → cash_now rows (given fills) ≡ total (λ r. bought fills r r.side) rows -ℤ total (λ r. sold fills r r.side) rows
  cash-parts [] = refl
  cash-parts (r ∷ rows) = omega (arith, ints, row-parts r r.side, cash-parts rows)

  share-parts : (rows : List (Row C)) (n : ℕ) → share (row_cash (given fills)) rows n ≡ pays fills rows n -ℤ gets fills rows n
  share-parts [] n = refl
  share-parts (r ∷ rows) n =
      omega (arith, ints, own-parts (eqb r.member n) (row_cash (given fills) r) (bought fills r r.side) (sold fills r r.side) (row-parts r r.side), share-parts rows n)

pub stated : {C : Type 0} {s : State C} (ok : Sound s) (m : Meaning C) (fills : List Fill) (ws : List Weight) → orders_verdict (house_rows s.rows) fills ≡ Ok tt → Statement fills s (booked_state m s fills ws)
stated {C} {s} ok m fills ws passed =
    let rows = house_rows s.rows in
    let flow : Row C → ℤ = row_cash (given fills) in
    let paid : ℕ → ℤ = λ n. neg_ℤ (share flow rows n) in
    record {
      member = λ n one. omega (arith, ints, cash-moved paid s.members n ok.sized one, share-parts fills rows n);
      house = omega (arith, ints, cash-parts fills rows);
      conserved = omega (arith, ints, total-debited flow rows (All-weaker (Fillable fills) (Owned flow) (cash-owned fills) rows (rows-fillable ok fills passed)) s.members ok.sized);
    }
