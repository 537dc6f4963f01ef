-- clear keeps a house secured, and tells its net and a gap that no rival passes. Assumes nothing.
use Rattle.std.proofs.Common.{◌≡◌, ℕ, ◌*◌, ◌≤◌, true, leb, List, [], ◌∷◌, map, ℤ, pos, ◌+ℤ◌, neg_ℤ, ◌≤ℤ◌, Err, refl, ◌∙◌, arith}
use lib.Signed.{lt_z}
use Rattle.std.proofs.ByRecursion.{All-map}
use Rattle.std.proofs.lemmas.Int.{ints}
use Rattle.std.specs.List.{AllByRecursion}
use Rattle.instruments.specs.Meaning.{Meaning}
use Rattle.instruments.specs.Rules.{Valid}
use Rattle.matching.proofs.Duality.{best-within-gap}
use Rattle.matching.proofs.Lowest.{at-most-largest}
use Rattle.matching.specs.declared.proposals.Fill.{Fill}
use Rattle.matching.specs.declared.proposals.Weight.{Weight}
use Rattle.matching.specs.declared.rows.Row.{Row}
use Rattle.matching.specs.Figures.{row_cash, cash_now, owed, net, gap, exposure}
use Rattle.matching.specs.Fills.{given, fills_verdict, orders_verdict}
use Rattle.matching.specs.Laws.{UnderCeiling}
use Rattle.matching.specs.Rows.{house_rows, held}
use Rattle.matching.specs.Weights.{weight_sum, weights_verdict}
use Rattle.books.specs.declared.refusals.Refusal.TheVariants.{Closed, ReportOwed, NetBelowZero, GapTooLarge, HouseShort, NumbersUsedUp}
use Rattle.books.specs.Calls.{max_number}
use Rattle.books.specs.Clearing.{cleared, clear_answer, clear_after, booked, booked_state}
use Rattle.books.specs.Ledger.{cleared_ledger}
use Rattle.books.specs.Ledger as did
use Rattle.books.specs.Money.{is_member, cash_of, moved, share}
use Rattle.books.specs.Promise.{Best}
use Rattle.books.specs.Refusals.{fails_if, fills_test, weights_test, orders_test, left_by}
use Rattle.books.specs.State.{State, all_cash}
use Rattle.books.proofs.Alike.{Alike, alike-map, given-none, cash-skips, held-alike, share-alike, cash-alike, owed-alike, net-alike, gap-alike}
use Rattle.books.proofs.Balances.{all-owned, total-debited}
use Rattle.books.proofs.Booking.{booked-unused, held-booked, exposure-booked}
use Rattle.books.proofs.HouseRows.{house-over}
use Rattle.books.proofs.MoneyMoved.{length_moved, cash-moved, moved_same}
use Rattle.books.proofs.Passing.{answered, at_least}
use Rattle.books.proofs.Proposed.{fills-within, weights-under}
use Rattle.books.proofs.Secured.{Secured, Step, audited, unchanged}

module _ {C : Type 0} (m : Meaning C) (s : State C) (orders : List (Row C)) (secured : Secured m s orders) (fills : List Fill) (ws : List Weight) where
  abbrev rows : List (Row C)
  rows = house_rows s.rows

  abbrev lots : Row C → ℕ
  lots = given fills

  alike-after : Alike (house_rows (booked_state m s fills ws).rows) (map (booked fills) orders)
  alike-after = rw (house-over (booked fills) s.rows) (alike-map (booked fills) (booked-unused fills) rows orders secured.alike)

  cash-same : cash_now rows lots ≡ cash_now orders lots
  cash-same = cash-alike m s.top rows orders secured.alike lots (given-none fills)

  -- the members pay the same whether it is counted over the rows or over the ledger's orders
  moved-alike : moved (λ n. neg_ℤ (share (row_cash lots) orders n)) s.members ≡ moved (λ n. neg_ℤ (share (row_cash lots) rows n)) s.members
  moved-alike = moved_same (λ n. neg_ℤ (share (row_cash lots) orders n)) (λ n. neg_ℤ (share (row_cash lots) rows n)) 1 s.members (λ n low high. rw (share-alike m s.top rows orders secured.alike (row_cash lots) (cash-skips lots (given-none fills)) n))

  in-step-after : cleared_ledger fills (audited s orders) ≡ audited (booked_state m s fills ws) (map (booked fills) orders)
  in-step-after = rw (moved-alike, cash-same)

  conserved-after : all_cash (booked_state m s fills ws) ≡ all_cash s
  conserved-after = rw (← moved-alike) (omega (arith, ints, cash-same, total-debited (row_cash lots) orders (all-owned (row_cash lots) orders secured.owned) s.members secured.count))

  -- a hold falls by at least what its member pays
  backed-after : AllByRecursion (λ r. lots r ≤ r.«open») rows → (n : ℕ) → is_member n ≡ true → held m s.top (map (booked fills) orders) n ≤ℤ cash_of (booked_state m s fills ws).members n
  backed-after few n one =
      let paid : ℕ → ℤ = λ k. neg_ℤ (share (row_cash lots) rows k) in
      let after = held-alike m s.top (map (booked fills) rows) (map (booked fills) orders) (alike-map (booked fills) (booked-unused fills) rows orders secured.alike) n in
      let before = held-alike m s.top rows orders secured.alike n in
      omega (arith, ints, after, before, cash-moved paid s.members n secured.count one, held-booked m s.top fills n rows few, secured.backed n one)

  -- what is owed grows by what the fills owe, which is at most the matching's reserve
  exposed-after : (price : ℕ) → price ≤ s.top → exposure m s.top (map (booked fills) orders) price ≤ℤ (booked_state m s fills ws).reserve
  exposed-after price under =
      omega (arith, ints, exposure-booked m s.top fills orders price, owed-alike m s.top rows orders secured.alike lots (given-none fills) price, at-most-largest (owed m s.top rows lots) s.top price under, secured.exposed price under)

  booked-secured : AllByRecursion (λ r. lots r ≤ r.«open») rows → pos 0 ≤ℤ net m s.top rows lots → pos 0 ≤ℤ (s.cash +ℤ cash_now rows lots) → Secured m (booked_state m s fills ws) (map (booked fills) orders)
  booked-secured few gains pays =
      record {
        ceiling = secured.ceiling;
        alike = alike-after;
        count = length_moved (λ n. neg_ℤ (share (row_cash lots) rows n)) s.members ∙ secured.count;
        valid = All-map (λ r. Valid m s.top r.contract) (booked fills) orders secured.valid;
        owned = All-map (λ r. is_member r.member ≡ true) (booked fills) orders secured.owned;
        numbered = All-map (λ r. r.order ≤ s.orders) (booked fills) orders secured.numbered;
        backed = backed-after few;
        exposed = exposed-after;
        reserved = omega (arith, ints, gains, secured.reserved);
        funded = pays;
      }

  best : UnderCeiling s.top ws → Best m s.top orders lots ws (net m s.top rows lots) (gap m s.top ws rows lots)
  best under =
      let same-net = net-alike m s.top rows orders secured.alike lots (given-none fills) in
      let same_gap = gap-alike m s.top rows orders secured.alike lots (given-none fills) ws in
      record {
        own_net = same-net;
        own_gap = same_gap;
        no_better = λ d some rival few. rw (same_gap, same-net) (best-within-gap m s.top ws orders lots rival d under some few);
      }

  pub clear_step : Step m (did.clear fills ws (clear_answer m s fills ws)) s orders (clear_after m s fills ws)
  clear_step =
      answered (λ a. Step m (did.clear fills ws a) s orders (left_by a (booked_state m s fills ws) s))
      (fills_test (fills_verdict fills) ∷
      (weights_test (weights_verdict s.top ws) ∷
      (fails_if s.closed Closed ∷
      (fails_if s.report ReportOwed ∷
      (orders_test (orders_verdict rows fills) ∷
      (fails_if (lt_z (cleared m s fills ws).net (pos 0)) NetBelowZero ∷
      (fails_if (lt_z (pos (s.allowed * weight_sum ws)) (cleared m s fills ws).gap) GapTooLarge ∷
      (fails_if (lt_z (s.cash +ℤ cash_now rows lots) (pos 0)) HouseShort ∷
      (fails_if (leb max_number s.latest.clearing) NumbersUsedUp ∷ [])))))))))
      (cleared m s fills ws)
      (λ r. unchanged m s orders secured (did.clear fills ws (Err r)) refl refl tt)
      (λ passed.
      record {
        after = map (booked fills) orders;
        same_top = refl;
        in_step = in-step-after;
        secured =
            booked-secured (fills-within fills rows passed.1.1.1.1.0)
            (at_least (net m s.top rows lots) (pos 0) NetBelowZero passed.1.1.1.1.1.0)
            (at_least (s.cash +ℤ cash_now rows lots) (pos 0) HouseShort passed.1.1.1.1.1.1.1.0);
        conserved = omega (arith, ints, conserved-after);
        told = best (weights-under s.top ws passed.1.0);
      })
