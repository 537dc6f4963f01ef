-- settle pays every filled lot and leaves a secured house with no orders. Assumes nothing.
use Rattle.std.proofs.Common.{◌≡◌, ℕ, ◌≤◌, ltb, List, [], ◌∷◌, ℤ, pos, ◌-ℤ◌, ◌≤ℤ◌, Err, refl, ◌∙◌, arith}
use Rattle.std.proofs.lemmas.Int.{ints}
use Rattle.std.proofs.lemmas.Bool.{ltb-false}
use Rattle.instruments.specs.Meaning.{Meaning}
use Rattle.instruments.specs.Rules.{Rules}
use Rattle.matching.specs.declared.rows.Row.{Row}
use Rattle.matching.specs.Figures.{row_owed, filled_lots, exposure}
use Rattle.matching.specs.Rows.{house_rows}
use Rattle.books.specs.declared.refusals.Refusal.TheVariants.{Price, Closed, ReportOwed}
use Rattle.books.specs.Ledger.{settled_ledger}
use Rattle.books.specs.Ledger as did
use Rattle.books.specs.Money.{moved}
use Rattle.books.specs.Refusals.{fails_if, left_by}
use Rattle.books.specs.Settling.{paid_out, settle_answer, settle_after, settled}
use Rattle.books.specs.State.{State, all_cash}
use Rattle.books.proofs.Alike.{owed-skips, no-filled, share-alike, exposure-alike}
use Rattle.books.proofs.Balances.{all-owned, total-paid}
use Rattle.books.proofs.HouseRows.{alike-emptied}
use Rattle.books.proofs.MoneyMoved.{length_moved, moved_same}
use Rattle.books.proofs.Passing.{answered, not-failed}
use Rattle.books.proofs.Secured.{Secured, Step, audited, unchanged, members-solvent, house-solvent}

module _ {C : Type 0} (m : Meaning C) (s : State C) (orders : List (Row C)) (secured : Secured m s orders) (price : ℕ) where
  abbrev rows : List (Row C)
  rows = house_rows s.rows

  exposure-same : exposure m s.top rows price ≡ exposure m s.top orders price
  exposure-same = exposure-alike m s.top rows orders secured.alike price

  -- the members are paid the same whether it is counted over the rows or over the ledger's orders
  moved-alike : moved (paid_out m s.top price orders) s.members ≡ moved (paid_out m s.top price rows) s.members
  moved-alike =
      moved_same (paid_out m s.top price orders) (paid_out m s.top price rows) 1 s.members
      (λ n low high. rw (share-alike m s.top rows orders secured.alike (row_owed m s.top filled_lots price) (owed-skips m s.top filled_lots price no-filled) n))

  in-step-after : settled_ledger m s.top price (audited s orders) ≡ audited (settled m s price) []
  in-step-after = rw (moved-alike, exposure-same)

  conserved-after : all_cash (settled m s price) ≡ all_cash s
  conserved-after =
      let flow : Row C → ℤ = row_owed m s.top filled_lots price in
      rw (← moved-alike) (omega (arith, ints, exposure-same, total-paid flow orders (all-owned flow orders secured.owned) s.members secured.count))

  settled-secured : Rules m → price ≤ s.top → Secured m (settled m s price) []
  settled-secured rules under =
      let paid : pos 0 ≤ℤ (s.cash -ℤ exposure m s.top rows price) = rw exposure-same (house-solvent m s orders secured rules price under) in
      record {
        ceiling = secured.ceiling;
        alike = alike-emptied s.rows;
        count = length_moved (paid_out m s.top price rows) s.members ∙ secured.count;
        valid = tt;
        owned = tt;
        numbered = tt;
        backed = λ n one. rw (← moved-alike) (members-solvent m s orders secured rules price under n one);
        exposed = λ at low. omega (arith, ints);
        reserved = paid;
        funded = paid;
      }

  pub settle_step : Rules m → Step m (did.settle price (settle_answer s price)) s orders (settle_after m s price)
  settle_step rules =
      answered (λ a. Step m (did.settle price a) s orders (left_by a (settled m s price) s))
      (fails_if (ltb s.top price) Price ∷ (fails_if s.closed Closed ∷ (fails_if s.report ReportOwed ∷ []))) tt
      (λ r. unchanged m s orders secured (did.settle price (Err r)) refl refl tt)
      (λ passed.
      record {
        after = [];
        same_top = refl;
        in_step = in-step-after;
        secured = settled-secured rules (ltb-false s.top price (not-failed (ltb s.top price) Price passed.0));
        conserved = omega (arith, ints, conserved-after);
        told = tt;
      })
