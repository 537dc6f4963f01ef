-- quote: what it answers. It changes nothing. Assumes nothing.
use Rattle.std.specs.Prelude.{ℕ, ◌*◌, not, List, [], ◌∷◌, pos, Result, int_lt}
use Rattle.books.specs.declared.refusals.Refusal.{Refusal}
use Rattle.books.specs.declared.refusals.Refusal.TheVariants.{Lots, Closed, GapTooLarge}
use Rattle.instruments.specs.Meaning.{Meaning}
use Rattle.matching.specs.declared.proposals.Fill.{Fill}
use Rattle.matching.specs.declared.proposals.Weight.{Weight}
use Rattle.matching.specs.declared.quotes.Quote.{Quote}
use Rattle.matching.specs.declared.quotes.Request.{Request}
use Rattle.matching.specs.Fills.{given, fills_verdict, orders_verdict}
use Rattle.matching.specs.Quotes.{quoted}
use Rattle.matching.specs.Rows.{house_rows}
use Rattle.matching.specs.Weights.{weight_sum, weights_verdict}
use Rattle.books.specs.Calls.{is_lots}
use Rattle.books.specs.Refusals.{tested, fails_if, contract_test, fills_test, weights_test, orders_test}
use Rattle.books.specs.State.{State}

module _ {C : Type 0} (m : Meaning C) (s : State C) (c : C) (side : Request) (t : ℕ) (fills : List Fill) (ws : List Weight) where
  -- the figures of the quote, beside the standing orders
  abbrev pub quote_figures : Quote
  quote_figures = quoted m s.top (house_rows s.rows) (given fills) c t ws side

  abbrev pub quote_answer : Result Quote Refusal
  quote_answer =
      tested
      (contract_test (m.check s.top c) ∷
      (fails_if (not (is_lots t)) Lots ∷
      (fills_test (fills_verdict fills) ∷
      (weights_test (weights_verdict s.top ws) ∷
      (fails_if s.closed Closed ∷
      (orders_test (orders_verdict (house_rows s.rows) fills) ∷
      (fails_if (int_lt (pos (s.allowed * weight_sum ws)) quote_figures.gap) GapTooLarge ∷ [])))))))
      quote_figures
