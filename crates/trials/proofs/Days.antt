-- The two books as runs: each call is one step, and what it answers computes. Assumes nothing.
use Rattle.std.proofs.Common.{◌≡◌, ℕ, List, [], ◌∷◌, Ok, Err, Result, refl, subst, lit<}
use Rattle.either.specs.declared.Either.TheVariants.{Left}
use Rattle.instruments.specs.declared.options.Vanilla.TheVariants.{Call, Put}
use Rattle.instruments.specs.Worked.{table_ceiling}
use Rattle.matching.specs.declared.proposals.Fill.{Fill}
use Rattle.matching.specs.declared.proposals.Weight.{Weight}
use Rattle.matching.specs.declared.rows.Side.TheVariants.{Buy, Sell}
use Rattle.matching.specs.WorkedBooks.{fill, all_four, first_weights, second_weights}
use Rattle.books.specs.declared.answers.Cleared.{Cleared}
use Rattle.books.specs.declared.refusals.Refusal.{Refusal}
use Rattle.books.specs.declared.refusals.Refusal.TheVariants.{NetBelowZero, GapTooLarge, HouseShort}
use Rattle.books.specs.Calls.{deposit_after, entered_at}
use Rattle.books.specs.Clearing.{clear_answer, clear_after, booked_state}
use Rattle.books.specs.Ledger.{Event}
use Rattle.books.specs.Ledger as did
use Rattle.books.specs.Refusals.{left_by}
use Rattle.books.specs.Runs.{Run}
use Rattle.books.specs.Runs as run
use Rattle.books.specs.State.{State}
use Rattle.trials.specs.Trials.{Traded, traded, lent, first_told, weight_100, told_by_weight_100, second_told, page, new_house, first_paid_in, first_standing, first_cleared, first_published, first_settled, second_paid_in, second_standing, Day, first_calls, TrialDays}
use Rattle.trials.proofs.Rows.{first_clearing, second_book}

abbrev Led : ℕ → List (Event Traded) → State Traded → Type 0
Led gap es s = Run traded 1 table_ceiling gap lent es s

-- A clearing by the equations for its answer and for what it leaves. They are computed once for the table,
-- and a step that compares them anew runs out of memory.
refused : {gap : ℕ} {es : List (Event Traded)} {s : State Traded} (fills : List Fill) (ws : List Weight) (r : Refusal) → clear_answer traded s fills ws ≡ Err r → Led gap es s → Led gap (did.clear fills ws (Err r) ∷ es) s
refused {gap} {es} {s} fills ws r e before =
    let P : Result Cleared Refusal → Type 0 = λ a. Led gap (did.clear fills ws a ∷ es) (left_by a (booked_state traded s fills ws) s) in
    subst P e (run.clear fills ws before)

accepted : {gap : ℕ} {es : List (Event Traded)} {s s' : State Traded} (fills : List Fill) (ws : List Weight) (a : Cleared) → clear_answer traded s fills ws ≡ Ok a → clear_after traded s fills ws ≡ s' → Led gap es s → Led gap (did.clear fills ws (Ok a) ∷ es) s'
accepted {gap} {es} {s} fills ws a e leads before =
    let P : Result Cleared Refusal → Type 0 = λ b. Led gap (did.clear fills ws b ∷ es) (clear_after traded s fills ws) in
    let Q : State Traded → Type 0 = λ t. Led gap (did.clear fills ws (Ok a) ∷ es) t in
    subst Q leads (subst P e (run.clear fills ws before))

-- the states in the middle of the deposits and of the orders
module _ (gap : ℕ) where
  abbrev one_paid : State Traded
  one_paid = deposit_after (new_house gap) 1 9

  abbrev two_paid : State Traded
  two_paid = deposit_after one_paid 2 42

  abbrev three_paid : State Traded
  three_paid = deposit_after two_paid 3 50

  abbrev one_entered : State Traded
  one_entered = entered_at (first_paid_in gap) 0 1 Buy (Left (Call 110)) 9 1

  abbrev two_entered : State Traded
  two_entered = entered_at one_entered 1 2 Buy (Left (Put 150)) 42 1

  abbrev three_entered : State Traded
  three_entered = entered_at two_entered 2 3 Sell (Left (Call 150)) 1 1

  first_orders_run : Day gap first_calls (first_standing gap)
  first_orders_run =
      run.enter {s = three_entered} 4 Sell (Left (Put 110)) 6 1 (first_standing gap) (3, record { within = lit< tt; unused = λ d. refl; after = refl })
      (run.enter {s = two_entered} 3 Sell (Left (Call 150)) 1 1 three_entered (2, record { within = lit< tt; unused = λ d. refl; after = refl })
      (run.enter {s = one_entered} 2 Buy (Left (Put 150)) 42 1 two_entered (1, record { within = lit< tt; unused = λ d. refl; after = refl })
      (run.enter {s = first_paid_in gap} 1 Buy (Left (Call 110)) 9 1 one_entered (0, record { within = lit< tt; unused = λ d. refl; after = refl })
      (run.deposit {s = three_paid} 4 110
      (run.deposit {s = two_paid} 3 50
      (run.deposit {s = one_paid} 2 42
      (run.deposit {s = new_house gap} 1 9 run.new)))))))

-- the same for the second book
abbrev one_paid_2 : State Traded
one_paid_2 = deposit_after (new_house 0) 1 14

abbrev two_paid_2 : State Traded
two_paid_2 = deposit_after one_paid_2 2 1

abbrev three_paid_2 : State Traded
three_paid_2 = deposit_after two_paid_2 3 120

abbrev one_entered_2 : State Traded
one_entered_2 = entered_at second_paid_in 0 1 Buy (Left (Call 160)) 14 1

abbrev two_entered_2 : State Traded
two_entered_2 = entered_at one_entered_2 1 2 Buy (Left (Put 80)) 1 1

abbrev three_entered_2 : State Traded
three_entered_2 = entered_at two_entered_2 2 3 Sell (Left (Call 80)) 74 1

pub days : TrialDays
days = record {
  first_orders_run = first_orders_run;
  first_book_runs =
      run.house {s = first_settled}
      (run.account {s = first_settled} 4
      (run.account {s = first_settled} 3
      (run.account {s = first_settled} 2
      (run.account {s = first_settled} 1
      (run.settle {s = first_published} 0
      (run.publish {s = first_cleared} 1 1 page
      (run.settle {s = first_cleared} 0
      (run.take {s = first_cleared} 5
      (run.house {s = first_cleared}
      (accepted {s = first_standing 0} all_four first_weights first_told first_clearing.all_cleared first_clearing.all_leads
      (refused {s = first_standing 0} (fill 1 1 ∷ []) first_weights NetBelowZero first_clearing.first_alone
      (refused {s = first_standing 0} [] first_weights GapTooLarge first_clearing.none_cleared
      (first_orders_run 0)))))))))))));
  gap_8_runs = refused {s = first_standing 8} all_four weight_100 GapTooLarge first_clearing.gap_8_allowed (first_orders_run 8);
  gap_9_runs = accepted {s = first_standing 9} all_four weight_100 told_by_weight_100 first_clearing.gap_9_allowed first_clearing.gap_9_leads (first_orders_run 9);
  second_book_runs =
      accepted {s = second_standing 78} all_four second_weights second_told second_book.house_has_78 second_book.all_leads
      (run.fund {s = second_standing 77} 1
      (refused {s = second_standing 77} all_four second_weights HouseShort second_book.house_has_77
      (run.fund {s = second_standing 0} 77
      (run.enter {s = three_entered_2} 4 Sell (Left (Put 160)) 19 1 (second_standing 0) (3, record { within = lit< tt; unused = λ d. refl; after = refl })
      (run.enter {s = two_entered_2} 3 Sell (Left (Call 80)) 74 1 three_entered_2 (2, record { within = lit< tt; unused = λ d. refl; after = refl })
      (run.enter {s = one_entered_2} 2 Buy (Left (Put 80)) 1 1 two_entered_2 (1, record { within = lit< tt; unused = λ d. refl; after = refl })
      (run.enter {s = second_paid_in} 1 Buy (Left (Call 160)) 14 1 one_entered_2 (0, record { within = lit< tt; unused = λ d. refl; after = refl })
      (run.deposit {s = three_paid_2} 4 160
      (run.deposit {s = two_paid_2} 3 120
      (run.deposit {s = one_paid_2} 2 1
      (run.deposit {s = new_house 0} 1 14 run.new)))))))))));
}
