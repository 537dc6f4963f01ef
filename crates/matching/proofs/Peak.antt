-- Where legs, or the filled rows of a book, owe the most: 0, the ceiling or a breakpoint. Assumes nothing.
use Rattle.std.proofs.Common.{◌≡◌, ℕ, zero, suc, ◌+◌, ◌-◌, ◌*◌, ◌<◌, ◌≤◌, ltb, ◌⊎◌, List, [], ◌∷◌, map, ℤ, pos, ◌+ℤ◌, Some, None, Option, sym, refl, ap, ◌∙◌, inl, inr, ⊎_elim, add-mul, mul-zero, arith}
use Rattle.std.proofs.ByRecursion.{All-weaker, All-map, has_append_right}
use Rattle.std.proofs.lemmas.Int.{ints}
use Rattle.std.proofs.lemmas.Bool.{cases_lt, cases_eq, cond_both, ltb-true}
use Rattle.std.proofs.lemmas.Bool.Decides.{nat_tests}
use Rattle.std.specs.List.{ContainsAt, AllByRecursion}
use Rattle.instruments.specs.Bounds.{IsCeiling}
use Rattle.instruments.specs.Meaning.{Meaning}
use Rattle.instruments.specs.Rules.{Rules, Valid}
use Rattle.matching.proofs.Lowest.{peak-law, lowest-at-end}
use Rattle.matching.specs.declared.rows.Row.{Row}
use Rattle.matching.specs.declared.rows.Side.{Side}
use Rattle.matching.specs.declared.rows.Side.TheVariants.{Buy, Sell}
use Rattle.matching.specs.declared.legs.Leg.{Leg}
use Rattle.matching.specs.Figures.{owed, worst_price}
use Rattle.matching.specs.Laws.{WorstAtBreakpoint}
use Rattle.matching.specs.Legs.{leg_owed, legs_owed, ValidLeg, GoodLeg, as_leg}
use Rattle.matching.specs.Rows.{signed}
use Rattle.matching.specs.Sums.{AsGood, lowest}

signed-twice : (side : Side) (x y z : ℕ) → x + y ≡ z + z → (signed side x +ℤ signed side y) ≡ (signed side z +ℤ signed side z)
signed-twice Buy x y z e = omega (arith, ints)
signed-twice Sell x y z e = omega (arith, ints)

module _ {C : Type 0} (m : Meaning C) (top : ℕ) where
  -- s is no breakpoint of the leg
  abbrev pub OffLeg : ℕ → Option (Leg C) → Type 0
  OffLeg s (Some l) = (i : ℕ) → i < m.breakpoints top l.contract → m.breakpoint top l.contract i ≡ s → ⊥
  OffLeg s None = Unit {0}

  -- p is as good as each breakpoint of the leg: so where it is not as good, there is none
  off-where-worse : (f : ℕ → ℤ) (p s : ℕ) → (AsGood f p s → ⊥) → (leg : Option (Leg C)) → GoodLeg m top f p leg → OffLeg s leg
  off-where-worse f p s worse (Some l) good = λ i low e. worse (rw e at (good i low))
  off-where-worse f p s worse None good = tt

module _ {C : Type 0} (m : Meaning C) (rules : Rules m) (top : ℕ) (ceil : IsCeiling top) where
  leg-straight : (s : ℕ) → 0 < s → s < top → (leg : Option (Leg C)) → ValidLeg m top leg → OffLeg m top s leg → (leg_owed m top (s - 1) leg +ℤ leg_owed m top (s + 1) leg) ≡ (leg_owed m top s leg +ℤ leg_owed m top s leg)
  leg-straight s above below (Some l) valid off =
      let pays : ℕ → ℕ = m.payoff top l.contract in
      let one = (rules top l.contract ceil valid).straight s (record { above = above; below = below; off = off }) in
      let twice : pays (s - 1) + pays (s + 1) ≡ pays s + pays s = omega arith in
      signed-twice l.side _ _ _ (sym (add-mul (pays (s - 1)) (pays (s + 1)) l.lots) ∙ ap (λ x. x * l.lots) twice ∙ add-mul (pays s) (pays s) l.lots)
  leg-straight s above below None valid off = refl

  pub legs-straight : (s : ℕ) → 0 < s → s < top → (legs : List (Option (Leg C))) → AllByRecursion (ValidLeg m top) legs → AllByRecursion (OffLeg m top s) legs → (legs_owed m top legs (s - 1) +ℤ legs_owed m top legs (s + 1)) ≡ (legs_owed m top legs s +ℤ legs_owed m top legs s)
  legs-straight s above below [] valid off = refl
  legs-straight s above below (leg ∷ legs) valid off =
      let here = leg-straight s above below leg valid.0 off.0 in
      let rest = legs-straight s above below legs valid.1 off.1 in
      omega (arith, ints)

  -- What is as good as both ends and each breakpoint of the legs is their lowest worst price. The knots are the
  -- places that p is as good as: elsewhere no leg breaks, so that the legs are straight.
  pub legs-peak : (legs : List (Option (Leg C))) → AllByRecursion (ValidLeg m top) legs → (p : ℕ) → p ≤ top → AsGood (legs_owed m top legs) p 0 → AsGood (legs_owed m top legs) p top → AllByRecursion (GoodLeg m top (legs_owed m top legs) p) legs → p ≡ lowest (legs_owed m top legs) top
  legs-peak legs valid p within start end good =
      let f : ℕ → ℤ = legs_owed m top legs in
      peak-law f top p (AsGood f p) (λ s above below worse. legs-straight s above below legs valid (All-weaker (GoodLeg m top f p) (OffLeg m top s) (off-where-worse m top f p s worse) legs good)) within start end (λ s good. good)

-- The search for a breakpoint at s, first over the indexes of one contract and then over a list, so that its answer
-- can be told by cases.
abbrev PlaceBelow : (ℕ → ℕ) → ℕ → ℕ → Type 0
PlaceBelow g s n = (i : ℕ) × (i < n) × (g i ≡ s)

abbrev NoneBelow : (ℕ → ℕ) → ℕ → ℕ → Type 0
NoneBelow g s n = (i : ℕ) → i < n → g i ≡ s → ⊥

place-more : (g : ℕ → ℕ) (s n : ℕ) → PlaceBelow g s n ⊎ NoneBelow g s n → (g n ≡ s) ⊎ (g n ≡ s → ⊥) → PlaceBelow g s (suc n) ⊎ NoneBelow g s (suc n)
place-more g s n (inl found) last = inl (found.0, omega arith, found.2)
place-more g s n (inr none) (inl e) = inl (n, omega arith, e)
place-more g s n (inr none) (inr not_last) =
    inr (λ i low e. ⊎_elim (λ h. none i h e) (λ h. let last : i ≡ n = omega arith in not_last (rw last at e)) (cases_lt i n))

place-or-none : (g : ℕ → ℕ) (s n : ℕ) → PlaceBelow g s n ⊎ NoneBelow g s n
place-or-none g s zero = inr (λ i low e. omega arith)
place-or-none g s (suc n) = place-more g s n (place-or-none g s n) (cases_eq (g n) s)

module _ {X : Type 0} (P Q : X → Type 0) where
  abbrev SomeIn : List X → Type 0
  SomeIn xs = (x : X) × ContainsAt xs x × P x

  some_more : (x : X) (xs : List X) → P x ⊎ Q x → SomeIn xs ⊎ AllByRecursion Q xs → SomeIn (x ∷ xs) ⊎ AllByRecursion Q (x ∷ xs)
  some_more x xs (inl p) rest = inl (x, (0, omega arith, λ d. refl), p)
  some_more x xs (inr q) (inl found) = inl (found.0, has_append_right (x ∷ []) xs found.0 found.1, found.2)
  some_more x xs (inr q) (inr all) = inr (q, all)

  some-or-all : ((x : X) → P x ⊎ Q x) → (xs : List X) → SomeIn xs ⊎ AllByRecursion Q xs
  some-or-all each [] = inr tt
  some-or-all each (x ∷ xs) = some_more x xs (each x) (some-or-all each xs)

signed-none : (side : Side) → signed side 0 ≡ pos 0
signed-none Buy = refl
signed-none Sell = refl

module _ {C : Type 0} (m : Meaning C) (top : ℕ) where
  row-as_leg : (lots : Row C → ℕ) (s : ℕ) (r : Row C) → signed r.side (m.payoff top r.contract s * lots r) ≡ leg_owed m top s (as_leg lots r)
  row-as_leg lots s r =
      cond_both
      (ltb 0 (lots r)) _ _
      (λ o. signed r.side (m.payoff top r.contract s * lots r) ≡ leg_owed m top s o)
      (λ e. refl)
      (λ e. let none : lots r ≡ 0 = grind (arith, nat_tests) in rw (none, mul-zero) (signed-none r.side))

  pub owed-as-legs : (rows : List (Row C)) (lots : Row C → ℕ) (s : ℕ) → owed m top rows lots s ≡ legs_owed m top (map (as_leg lots) rows) s
  owed-as-legs [] lots s = refl
  owed-as-legs (r ∷ rows) lots s = let here = row-as_leg lots s r in let rest = owed-as-legs rows lots s in omega (arith, ints)

  -- the row is filled, and its contract has a breakpoint at s
  abbrev BreaksAt : (Row C → ℕ) → ℕ → Row C → Type 0
  BreaksAt lots s r = (0 < lots r) × PlaceBelow (m.breakpoint top r.contract) s (m.breakpoints top r.contract)

  breaks-or-off : (lots : Row C → ℕ) (s : ℕ) (r : Row C) → BreaksAt lots s r ⊎ OffLeg m top s (as_leg lots r)
  breaks-or-off lots s r =
      cond_both
      (ltb 0 (lots r)) _ _
      (λ o. BreaksAt lots s r ⊎ OffLeg m top s o)
      (λ e. ⊎_elim (λ found. inl (ltb-true 0 (lots r) e, found)) (λ none. inr none) (place-or-none (m.breakpoint top r.contract) s (m.breakpoints top r.contract)))
      (λ e. inr tt)

  valid-leg : (lots : Row C → ℕ) (r : Row C) → (0 < lots r → Valid m top r.contract) → ValidLeg m top (as_leg lots r)
  valid-leg lots r valid = cond_both (ltb 0 (lots r)) _ _ (ValidLeg m top) (λ e. valid (ltb-true 0 (lots r) e)) (λ e. tt)

-- what the rows owe is straight where no filled row breaks
owed-straight : {C : Type 0} (m : Meaning C) → Rules m → (top : ℕ) → IsCeiling top → (rows : List (Row C)) (lots : Row C → ℕ) → AllByRecursion (λ r. 0 < lots r → Valid m top r.contract) rows → (s : ℕ) → 0 < s → s < top → AllByRecursion (λ r. OffLeg m top s (as_leg lots r)) rows → (owed m top rows lots (s - 1) +ℤ owed m top rows lots (s + 1)) ≡ (owed m top rows lots s +ℤ owed m top rows lots s)
owed-straight m rules top ceil rows lots valid s above below off =
    let valid-legs = All-map (ValidLeg m top) (as_leg lots) rows (All-weaker (λ r. 0 < lots r → Valid m top r.contract) (λ r. ValidLeg m top (as_leg lots r)) (valid-leg m top lots) rows valid) in
    let same = owed-as-legs m top rows lots in
    rw
    (same (s - 1), same (s + 1), same s)
    (legs-straight m rules top ceil s above below (map (as_leg lots) rows) valid-legs (All-map (OffLeg m top s) (as_leg lots) rows off))

-- either a filled row breaks at the worst price, or what the rows owe is straight there, and it is an end
pub worst-at-breakpoint : {C : Type 0} (m : Meaning C) → Rules m → WorstAtBreakpoint m
worst-at-breakpoint m rules top rows lots ceil valid =
    let s = worst_price m top rows lots in
    ⊎_elim
    (λ found. inr (inr (record { row = found.0; among = found.1; some = found.2.0; index = found.2.1.0; counted = found.2.1.1; here = found.2.1.2 })))
    (λ off. ⊎_elim (λ e. inl e) (λ e. inr (inl e)) (lowest-at-end (owed m top rows lots) top (λ above below. owed-straight m rules top ceil rows lots valid s above below off)))
    (some-or-all (BreaksAt m top lots s) (λ r. OffLeg m top s (as_leg lots r)) (breaks-or-off m top lots s) rows)
