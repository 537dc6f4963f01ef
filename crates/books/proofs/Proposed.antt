-- What a proposal has passed when its fills and weights were not refused. Assumes nothing.
use Rattle.std.proofs.Common.{◌≡◌, ℕ, ◌+◌, ◌≤◌, Bool, true, false, cond, ◌||◌, eqb, ltb, List, [], ◌∷◌, length, Some, None, Err, Option, Result, sym, refl, ◌∙◌, arith}
use Rattle.std.proofs.ByRecursion.{All-weaker}
use Rattle.std.proofs.lemmas.Bool.Decides.{nat_tests}
use Rattle.std.proofs.lemmas.Iterator.Adapters.{position_from-zero}
use Rattle.std.specs.List.{AllByRecursion, find, position, position_from}
use Rattle.matching.specs.declared.proposals.Fill.{Fill}
use Rattle.matching.specs.declared.proposals.Weight.{Weight}
use Rattle.matching.specs.declared.proposals.WeightFault.{WeightFault}
use Rattle.matching.specs.declared.proposals.WeightFault.TheVariants.{Count}
use Rattle.matching.specs.declared.rows.Row.{Row}
use Rattle.matching.specs.Fills.{lots_for, given, standing_verdict, above_verdict, orders_verdict, first_not_standing, first_above_open, exceeds, exceeds_row}
use Rattle.matching.specs.Laws.{UnderCeiling}
use Rattle.matching.specs.Rows.{standing}
use Rattle.matching.specs.Weights.{max_weights, bad_weight, first_bad, entry_verdict, weights_verdict, sum_verdict}
use Rattle.books.specs.Refusals.{orders_test, weights_test}

-- where a search goes on past an element, the test fails at it
goes_on : {A : Type 0} (b : Bool) (x : A) (rest : Option A) → cond b (Some x) rest ≡ None → (b ≡ false) × (rest ≡ None)
goes_on true x rest none = (cc, cc)
goes_on false x rest none = (refl, none)

module _ {A : Type 0} (test : A → Bool) where
  -- where nothing is found, the test fails at each element
  find_none : (xs : List A) → find test xs ≡ None → AllByRecursion (λ x. test x ≡ false) xs
  find_none [] none = tt
  find_none (x ∷ xs) none = let parts = goes_on (test x) x (find test xs) none in (parts.0, find_none xs parts.1)

  position_from_none : (xs : List A) (i : ℕ) → position_from test i xs ≡ None → AllByRecursion (λ x. test x ≡ false) xs
  position_from_none [] i none = tt
  position_from_none (x ∷ xs) i none = let parts = goes_on (test x) i (position_from test (i + 1) xs) none in (parts.0, position_from_none xs (i + 1) parts.1)

  position_none : (xs : List A) → position test xs ≡ None → AllByRecursion (λ x. test x ≡ false) xs
  position_none xs none = position_from_none xs 0 (sym (position_from-zero test xs) ∙ none)

-- ---- fills
not-above : (a b : Option Fill) → orders_test (standing_verdict a (above_verdict b)) ≡ None → b ≡ None
not-above (Some f) b passed = cc
not-above None (Some f) passed = cc
not-above None None passed = refl

module _ {C : Type 0} where
  lots-within : (fills : List Fill) (r : Row C) → standing r ≡ true → AllByRecursion (λ f. exceeds_row f r ≡ false) fills → lots_for fills r.order ≤ r.«open»
  lots-within [] r stands none = omega arith
  lots-within (f ∷ fills) r stands none = let here = none.0 in let rest = lots-within fills r stands none.1 in grind (arith, nat_tests)

  given-within : (fills : List Fill) (r : Row C) → AllByRecursion (λ f. exceeds_row f r ≡ false) fills → given fills r ≤ r.«open»
  given-within fills r none = let low : standing r ≡ true → lots_for fills r.order ≤ r.«open» = λ stands. lots-within fills r stands none in grind (arith, nat_tests)

  all-within : (fills : List Fill) (rows : List (Row C)) → AllByRecursion (λ f. exceeds rows f ≡ false) fills → AllByRecursion (λ r. given fills r ≤ r.«open») rows
  all-within fills [] none = tt
  all-within fills (r ∷ rows) none =
      (given-within fills r (All-weaker (λ f. exceeds (r ∷ rows) f ≡ false) (λ f. exceeds_row f r ≡ false) (λ f h. grind arith) fills none), all-within fills rows (All-weaker (λ f. exceeds (r ∷ rows) f ≡ false) (λ f. exceeds rows f ≡ false) (λ f h. grind arith) fills none))

  -- no fill is above the open lots of its order
  pub fills-within : (fills : List Fill) (rows : List (Row C)) → orders_test (orders_verdict rows fills) ≡ None → AllByRecursion (λ r. given fills r ≤ r.«open») rows
  fills-within fills rows passed =
      all-within fills rows (find_none (exceeds rows) fills (not-above (first_not_standing rows fills) (first_above_open rows fills) passed))

-- ---- weights
not-bad : (refused : Bool) (f : WeightFault) (o : Option ℕ) (next : Result (Unit {0}) WeightFault) → weights_test (cond refused (Err f) (entry_verdict o next)) ≡ None → o ≡ None
not-bad true f o next passed = cc
not-bad false f (Some i) next passed = cc
not-bad false f None next passed = refl

-- each weight lies at a price up to the ceiling
pub weights-under : (top : ℕ) (ws : List Weight) → weights_test (weights_verdict top ws) ≡ None → UnderCeiling top ws
weights-under top ws passed =
    let none = not-bad (eqb (length ws) 0 || ltb max_weights (length ws)) (Count (length ws)) (first_bad top ws) (sum_verdict ws) passed in
    All-weaker (λ w. bad_weight top w ≡ false) (λ w. w.price ≤ top) (λ w fine. grind (arith, nat_tests)) ws (position_none (bad_weight top) ws none)
