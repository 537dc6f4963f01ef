-- The search from one candidate to the next: what is kept, and what the last one is. Assumes nothing.
use Rattle.std.proofs.Common.{◌≡◌, ℕ, ◌+◌, ◌*◌, ◌^◌, ◌<◌, ◌≤◌, Bool, true, false, ltb, List, [], ◌∷◌, ℤ, ◌<ℤ◌, Some, None, Decides, Option, sym, refl, ap, ◌∙◌, inl, inr, arith, to_z, of_z, below_more}
use lib.Signed.{lt_z, mag}
use mir.Syntax.{w128}
use mir.Val.{hbits}
use Rattle.std.proofs.lemmas.Int.{ints, to_z-of_z}
use Rattle.std.proofs.lemmas.Bool.{false≢true, cond_both, ltb-true, ltb-false}
use Rattle.std.specs.List.{AllByRecursion}
use Rattle.instruments.specs.Bounds.{IsCeiling}
use Rattle.instruments.specs.Meaning.{Meaning}
use Rattle.instruments.specs.Rules.{Rules, Valid}
use Rattle.matching.specs.declared.legs.Leg.{Leg}
use Rattle.matching.specs.declared.search.Peak.{Peak}
use Rattle.matching.specs.Candidates.{better_of, at_price, Candidate, Improves, Highest}
use Rattle.matching.specs.Legs.{legs_owed, ValidLeg, GoodLeg}
use Rattle.matching.specs.Sums.{AsGood, lowest, Small}
use Rattle.matching.proofs.Peak.{legs-peak}
use Rattle.matching.proofs.Lowest.{largest-at-lowest, largest-same, lowest-is, lowest-same, as-good-self, as-good-trans}

lower : (x y : ℤ) → lt_z x y ≡ true → x <ℤ y
lower x y e = grind (arith, ints)

level : (x y : ℤ) → lt_z x y ≡ false → lt_z y x ≡ false → x ≡ y
level x y e h = grind (arith, ints)

-- one of the two, with the reason
better-cases : (P : Peak → Type 0) (a b : Peak) → (a.owed <ℤ b.owed → P b) → (b.owed <ℤ a.owed → P a) → (a.owed ≡ b.owed → b.price < a.price → P b) → (a.owed ≡ b.owed → a.price ≤ b.price → P a) → P (better_of a b)
better-cases P a b more less nearer farther =
    cond_both (lt_z a.owed b.owed) _ _ P
    (λ e. more (lower _ _ e))
    (λ e. cond_both (lt_z b.owed a.owed) _ _ P
    (λ h. less (lower _ _ h))
    (λ h. cond_both (ltb b.price a.price) _ _ P
    (λ k. nearer (level _ _ e h) (ltb-true _ _ k))
    (λ k. farther (level _ _ e h) (ltb-false _ _ k))))

module _ (f : ℕ → ℤ) (top : ℕ) where
  as-good-above : (p q : Peak) → Candidate f top p → Candidate f top q → q.owed <ℤ p.owed → AsGood f p.price q.price
  as-good-above p q here there more = inl (rw (here.owes, there.owes) at more)

  as-good-level : (p q : Peak) → Candidate f top p → Candidate f top q → q.owed ≡ p.owed → p.price ≤ q.price → AsGood f p.price q.price
  as-good-level p q here there same low = inr (sym there.owes ∙ same ∙ here.owes, low)

  -- the better of two candidates is as good as each of them
  better-improves : (a b : Peak) → Candidate f top a → Candidate f top b → Improves f top a (better_of a b)
  better-improves a b here there =
      better-cases (Improves f top a) a b
      (λ h. record { stands = there; keeps = as-good-above b a there here h })
      (λ h. record { stands = here; keeps = as-good-self f a.price })
      (λ e h. record { stands = there; keeps = as-good-level b a there here e (omega arith) })
      (λ e h. record { stands = here; keeps = as-good-self f a.price })

  better-tries : (a b : Peak) → Candidate f top a → Candidate f top b → AsGood f (better_of a b).price b.price
  better-tries a b here there =
      better-cases (λ p. AsGood f p.price b.price) a b
      (λ h. as-good-self f b.price)
      (λ h. as-good-above a b here there h)
      (λ e h. as-good-self f b.price)
      (λ e h. as-good-level a b here there (sym e) h)

  -- the same of what a call answered for the better of two
  pub answer-improves : (a b r : Peak) → Candidate f top a → Candidate f top b → r ≡ better_of a b → Improves f top a r
  answer-improves a b r here there is = rw is (better-improves a b here there)

  pub answer-tries : (a b r : Peak) (price : ℕ) → Candidate f top a → Candidate f top b → b ≡ at_price f price → r ≡ better_of a b → AsGood f r.price price
  answer-tries a b r price here there at is = rw (is, ← ap (λ (q : Peak). q.price) at) (better-tries a b here there)

  pub improves-self : (a : Peak) → Candidate f top a → Improves f top a a
  improves-self a here = record { stands = here; keeps = as-good-self f a.price }

  pub improves-more : (a b p : Peak) → Improves f top a b → Improves f top b p → Improves f top a p
  improves-more a b p first next = record { stands = next.stands; keeps = as-good-trans f p.price b.price a.price next.keeps first.keeps }

  -- what a call answered, as the checker has it: to bits and back
  -- what a call answered for a price, as a candidate
  module _ (r : Peak) (z : ℤ) (s price : ℕ) (ok : mag z < 2 ^ hbits w128) (owes : z ≡ f s) (same : s ≡ price) (made : r ≡ record { owed = to_z w128 (of_z w128 z); price = price }) where
    owes-there : to_z w128 (of_z w128 z) ≡ f price
    owes-there = to_z-of_z w128 z (record { sfits = ok }) ∙ owes ∙ ap f same

    pub candidate-here : r ≡ at_price f price
    candidate-here = made ∙ ap (λ v. record { owed = v; price = price }) owes-there

    pub candidate-at : Small (257 * 2 ^ 96) z → price ≤ top → Candidate f top r
    candidate-at small within = rw made (record { within = within; owes = owes-there; small = rw (to_z-of_z w128 z (record { sfits = ok })) small })

  -- the better of the two ends is as good as each
  pub record Ends (p : Peak) : Type 0 where
    pub within : p.price ≤ top
    pub owes : p.owed ≡ f p.price
    pub start : AsGood f p.price 0
    pub end : AsGood f p.price top

  pub ends : Ends (better_of (at_price f 0) (at_price f top))
  ends =
      better-cases Ends (at_price f 0) (at_price f top)
      (λ more. record { within = omega arith; owes = refl; start = inl more; end = as-good-self f top })
      (λ less. record { within = omega arith; owes = refl; start = as-good-self f 0; end = inl less })
      (λ same near. record { within = omega arith; owes = refl; start = inr (same, omega arith); end = as-good-self f top })
      (λ same far. record { within = omega arith; owes = refl; start = as-good-self f 0; end = inr (sym same, omega arith) })

  -- After i points, from a candidate old: the best is as good as each of them, and as the old.
  pub record Trying (points : ℕ → ℕ) (old : Peak) (i : ℕ) (best : Peak) : Type 0 where
    pub improves : Improves f top old best
    pub tried : (k : ℕ) → k < i → AsGood f best.price (points k)

  module _ (points : ℕ → ℕ) where
    pub trying-none : (old : Peak) → Candidate f top old → Trying points old 0 old
    trying-none old here = record { improves = improves-self old here; tried = λ k low. absurd (omega arith) }

    pub trying-more : (old : Peak) (i : ℕ) (best next : Peak) (point : ℕ) → Trying points old i best → Improves f top best next → AsGood f next.price point → point ≡ points i → Trying points old (i + 1) next
    trying-more old i best next point before more here is = record {
      improves = improves-more old best next before.improves more;
      tried = below_more (λ k. AsGood f next.price (points k)) i (λ k low. as-good-trans f next.price best.price (points k) more.keeps (before.tried k low)) (rw is at here);
    }

    -- the start is the first point itself
    pub trying-one : (old : Peak) → Candidate f top old → old.price ≡ points 0 → Trying points old 1 old
    trying-one old here is = trying-more old 0 old old old.price (trying-none old here) (improves-self old here) (as-good-self f old.price) is

  pub highest-at : (p : Peak) → Candidate f top p → p.price ≡ lowest f top → Highest f top p
  highest-at p here is = record { owed = here.owes ∙ ap f is ∙ largest-at-lowest f top; price = is; small = here.small }

  -- every price has been tried
  pub all-tried : (old : Peak) (i : ℕ) (best : Peak) → Trying (λ k. k) old i best → top < i → Highest f top best
  all-tried old i best done past =
      let here = done.improves.stands in
      highest-at best here (lowest-is f top best.price here.within (λ s low. done.tried s (omega arith)))

-- figures that agree have one peak
pub highest-same : (f g : ℕ → ℤ) (top : ℕ) (p : Peak) → ((s : ℕ) → f s ≡ g s) → Highest f top p → Highest g top p
highest-same f g top p same high = record {
  owed = high.owed ∙ largest-same f g top (λ s low. same s);
  price = high.price ∙ lowest-same f g top (λ s low. same s);
  small = high.small;
}

-- A loop that asks of each element of a list whether P holds of it, as the list runs out.
pub record Asking {X : Type 0} (P : X → Type 0) (all rest : List X) : Type 0 where
  pub onward : AllByRecursion P rest → AllByRecursion P all
  pub back : AllByRecursion P all → AllByRecursion P rest

module _ {X : Type 0} (P : X → Type 0) (all rest : List X) (asking : Asking P all rest) where
  pub asking-more : (x : X) (rest' : List X) (b : Bool) → rest ≡ x ∷ rest' → Decides b (P x) → b ≡ true → Asking P all rest'
  asking-more x rest' b is decides holds = record {
    onward = λ h. asking.onward (rw is (decides.0 holds, h));
    back = λ h. let here : AllByRecursion P (x ∷ rest') = rw is at (asking.back h) in here.1;
  }

  -- one element fails, or the last has been asked; what stands beside the list is asked for itself
  pub asking-fails : (first x : X) (rest' : List X) (b : Bool) → rest ≡ x ∷ rest' → Decides b (P x) → b ≡ false → Decides false (AllByRecursion P (first ∷ all))
  asking-fails first x rest' b is decides fails =
      (λ e. absurd (false≢true e), λ h. let here : AllByRecursion P (x ∷ rest') = rw is at (asking.back h.1) in sym fails ∙ decides.1 here.0)

  pub asking-done : (first : X) (b : Bool) → rest ≡ [] → Decides b (P first) → Decides b (AllByRecursion P (first ∷ all))
  asking-done first b none decides = (λ e. (decides.0 e, asking.onward (rw none tt)), λ h. decides.1 h.0)

-- one leg, which is valid under the ceiling
module _ {C : Type 0} (m : Meaning C) (top : ℕ) (leg : Option (Leg C)) (l : Leg C) (is : leg ≡ Some l) where
  valid-there : ValidLeg m top leg → Valid m top l.contract
  valid-there valid = rw is at valid

  -- its breakpoints lie under the ceiling
  pub breakpoint-within : Rules m → IsCeiling top → ValidLeg m top leg → (n i j point : ℕ) → n ≡ m.breakpoints top l.contract → i < n → j ≡ i → point ≡ m.breakpoint top l.contract j → point ≤ top
  breakpoint-within rules ceil valid n i j point count low same at_j =
      rw (at_j, same) ((rules top l.contract ceil (valid-there valid)).inside i (omega arith))

  -- all of them have been tried
  pub leg-tried : (f : ℕ → ℤ) (old : Peak) (i : ℕ) (best : Peak) (n : ℕ) → Trying f top (m.breakpoint top l.contract) old i best → n ≡ m.breakpoints top l.contract → n ≤ i → GoodLeg m top f best.price leg
  leg-tried f old i best n done count all = rw is (λ k low. done.tried k (omega arith))

-- The best so far after the ends and the first i legs.
pub record TryingLegs {C : Type 0} (m : Meaning C) (top : ℕ) (legs rest : List (Option (Leg C))) (best : Peak) : Type 0 where
  pub stands : Candidate (legs_owed m top legs) top best
  pub start : AsGood (legs_owed m top legs) best.price 0
  pub end : AsGood (legs_owed m top legs) best.price top
  pub valid : AllByRecursion (ValidLeg m top) rest
  pub tried : (p : ℕ) → AsGood (legs_owed m top legs) p best.price → AllByRecursion (GoodLeg m top (legs_owed m top legs) p) rest → AllByRecursion (GoodLeg m top (legs_owed m top legs) p) legs

module _ {C : Type 0} (m : Meaning C) (top : ℕ) where
  still-good : (f : ℕ → ℤ) (p q : ℕ) → AsGood f q p → (leg : Option (Leg C)) → GoodLeg m top f p leg → GoodLeg m top f q leg
  still-good f p q keeps (Some l) good = λ i low. as-good-trans f q p (m.breakpoint top l.contract i) keeps (good i low)
  still-good f p q keeps None good = tt

  module _ (legs : List (Option (Leg C))) where
    -- from the two ends
    pub trying-legs-none : (best : Peak) → best ≡ better_of (at_price (legs_owed m top legs) 0) (at_price (legs_owed m top legs) top) → Small (257 * 2 ^ 96) best.owed → AllByRecursion (ValidLeg m top) legs → TryingLegs m top legs legs best
    trying-legs-none best is small valid =
        let both : Ends (legs_owed m top legs) top best = rw is (ends (legs_owed m top legs) top) in
        record {
          stands = record { within = both.within; owes = both.owes; small = small };
          start = both.start;
          end = both.end;
          valid = valid;
          tried = λ p keeps good. good;
        }

    -- one leg more
    module _ (rest rest' : List (Option (Leg C))) (leg : Option (Leg C)) (best : Peak) (before : TryingLegs m top legs rest best) (is : rest ≡ leg ∷ rest') where
      first-valid : AllByRecursion (ValidLeg m top) (leg ∷ rest')
      first-valid = rw is at before.valid

      pub next-valid : ValidLeg m top leg
      next-valid = first-valid.0

      pub trying-legs-more : (next : Peak) → Improves (legs_owed m top legs) top best next → GoodLeg m top (legs_owed m top legs) next.price leg → TryingLegs m top legs rest' next
      trying-legs-more next more good =
          let f : ℕ → ℤ = legs_owed m top legs in
          let q = next.price in
          record {
            stands = more.stands;
            start = as-good-trans f q best.price 0 more.keeps before.start;
            end = as-good-trans f q best.price top more.keeps before.end;
            valid = first-valid.1;
            tried = λ p keeps all. before.tried p (as-good-trans f p q best.price keeps more.keeps) (rw is (still-good f q p keeps leg good, all));
          }

    pub legs-tried : Rules m → IsCeiling top → AllByRecursion (ValidLeg m top) legs → (rest : List (Option (Leg C))) (best : Peak) → TryingLegs m top legs rest best → rest ≡ [] → Highest (legs_owed m top legs) top best
    legs-tried rules ceil valid rest best done none =
        let f : ℕ → ℤ = legs_owed m top legs in
        let good = done.tried best.price (as-good-self f best.price) (rw none tt) in
        highest-at f top best done.stands (legs-peak m rules top ceil legs valid best.price done.stands.within done.start done.end good)
