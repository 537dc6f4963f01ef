-- A pair keeps the rules where both of its kinds do. Assumes nothing.
use Rattle.std.specs.Prelude.{◌≡◌, ℕ, ◌+◌, ◌-◌, ◌<◌, ◌≤◌, Bool, true, false, ◌&&◌, is_ok, Ok, Err, nat_lt, refl}
use Rattle.std.proofs.Common.{◌∙◌, arith, ⊎_elim}
use Rattle.std.proofs.lemmas.Bool.{cases_lt}
use Rattle.std.proofs.lemmas.Bool.Decides.{nat_tests}
use Rattle.instruments.specs.declared.faults.Place.{Place}
use Rattle.instruments.specs.declared.pairs.Pair.{Pair}
use Rattle.instruments.specs.Bounds.{IsCeiling, max_breakpoints, max_collateral}
use Rattle.instruments.specs.Meaning.{Meaning, Verdict, where_true}
use Rattle.instruments.specs.Pair.{part_first, both_breakpoints, both_collateral, both_limits, pair_check, pair_valid, pair_meaning}
use Rattle.instruments.specs.Rules.{Rules, Valid, OffBreakpoints}

-- what is told to be valid has a valid part, and what follows it is valid too
part_first-ok : (p : Place) (part next : Verdict) → part_first p part next ≡ Ok tt → (part ≡ Ok tt) × (next ≡ Ok tt)
part_first-ok p (Ok u) next told = (refl, told)
part_first-ok p (Err f) next told = let apart : ◌≡◌ {A = ℕ} 0 1 = cc in absurd (omega arith)

pub record Parts {A B : Type 0} (a : Meaning A) (b : Meaning B) (top : ℕ) (c : Pair A B) : Type 0 where
  pub one : Valid a top c.first
  pub other : Valid b top c.second
  pub few : both_breakpoints a b top c ≤ max_breakpoints
  pub bounded : both_collateral a b top c ≤ max_collateral
  pub tested : pair_valid a b top c ≡ true

-- a valid pair has valid parts, and together they are within the limits
pub pair_parts : {A B : Type 0} (a : Meaning A) (b : Meaning B) (top : ℕ) (c : Pair A B) → pair_check a b top c ≡ Ok tt → Parts a b top c
pair_parts a b top c told =
    let p = part_first-ok _ (a.check top c.first) _ told in
    let q = part_first-ok _ (b.check top c.second) _ p.1 in
    record {
      one = p.0;
      other = q.0;
      few = let h : both_limits a b top c ≡ Ok tt = q.1 in grind (arith, nat_tests);
      bounded = let h : both_limits a b top c ≡ Ok tt = q.1 in grind (arith, nat_tests);
      tested = rw told;
    }

-- both tests passed, the figure is told
told-where : (ok test : Bool) (n : ℕ) → ok ≡ true → test ≡ true → where_true (ok && test) n ≡ n
told-where true true n p q = refl
told-where false test n p q = let apart : ◌≡◌ {A = ℕ} 0 1 = cc in absurd (omega arith)
told-where true false n p q = let apart : ◌≡◌ {A = ℕ} 0 1 = cc in absurd (omega arith)

module _ {A B : Type 0} (a : Meaning A) (b : Meaning B) (top : ℕ) (c : Pair A B) (parts : Parts a b top c) where
  -- a valid pair pays the sum
  pays-both : (s : ℕ) → s ≤ top → (pair_meaning a b).payoff top c s ≡ a.payoff top c.first s + b.payoff top c.second s
  pays-both s within = told-where _ _ _ parts.tested (grind (arith, nat_tests))

  collateral-both : (pair_meaning a b).collateral top c ≡ both_collateral a b top c
  collateral-both = rw parts.tested

  breakpoints-both : (pair_meaning a b).breakpoints top c ≡ both_breakpoints a b top c
  breakpoints-both = rw parts.tested

  -- the first part's breakpoints come first
  breakpoint-first : (i : ℕ) → i < a.breakpoints top c.first → (pair_meaning a b).breakpoint top c i ≡ a.breakpoint top c.first i
  breakpoint-first i low =
      let here : nat_lt i (a.breakpoints top c.first) ≡ true = grind (arith, nat_tests) in
      told-where _ _ _ parts.tested (grind (arith, nat_tests)) ∙ rw here

  -- and the second's follow them
  breakpoint-second : (i : ℕ) → a.breakpoints top c.first ≤ i → i < both_breakpoints a b top c → (pair_meaning a b).breakpoint top c i ≡ b.breakpoint top c.second (i - a.breakpoints top c.first)
  breakpoint-second i past low =
      let there : nat_lt i (a.breakpoints top c.first) ≡ false = grind (arith, nat_tests) in
      told-where _ _ _ parts.tested (grind (arith, nat_tests)) ∙ rw there

  -- a price that is no breakpoint of the pair is none of either part
  off-first : (s : ℕ) → OffBreakpoints (pair_meaning a b) top c s → OffBreakpoints a top c.first s
  off-first s at = record {
    above = at.above;
    below = at.below;
    off = λ i low e. at.off i (rw breakpoints-both (omega arith)) (breakpoint-first i low ∙ e);
  }

  off-second : (s : ℕ) → OffBreakpoints (pair_meaning a b) top c s → OffBreakpoints b top c.second s
  off-second s at = record {
    above = at.above;
    below = at.below;
    off = λ i low e.
        let n = a.breakpoints top c.first in
        let back : (n + i) - n ≡ i = omega arith in
        at.off (n + i) (rw breakpoints-both (omega arith)) (breakpoint-second (n + i) (omega arith) (omega arith) ∙ rw back e);
  }

pub pair-rules : {A B : Type 0} (a : Meaning A) (b : Meaning B) → Rules a → Rules b → Rules (pair_meaning a b)
pair-rules a b ra rb top c ceil valid =
    let parts = pair_parts a b top c valid in
    let one = ra top c.first ceil parts.one in
    let other = rb top c.second ceil parts.other in
    let n = a.breakpoints top c.first in
    record {
      covered = λ s within. rw (pays-both a b top c parts s within, collateral-both a b top c parts) (omega (arith, one.covered s within, other.covered s within));
      bounded = rw (collateral-both a b top c parts) parts.bounded;
      few = rw (breakpoints-both a b top c parts) parts.few;
      inside = λ i within.
          let low : i < both_breakpoints a b top c = rw (breakpoints-both a b top c parts) at within in
          ⊎_elim
          (λ h. rw (breakpoint-first a b top c parts i h) (one.inside i h))
          (λ h. rw (breakpoint-second a b top c parts i h low) (other.inside (i - n) (omega arith)))
          (cases_lt i n);
      straight = λ s at.
          omega
          (arith, pays-both a b top c parts s (omega (arith, at.below)), pays-both a b top c parts (s - 1) (omega (arith, at.below)), pays-both a b top c parts (s + 1) (omega (arith, at.below)), one.straight s (off-first a b top c parts s at), other.straight s (off-second a b top c parts s at));
    }

ok-told : (v : Verdict) → is_ok v ≡ true → v ≡ Ok tt
ok-told (Ok u) told = refl
ok-told (Err f) told = let apart : ◌≡◌ {A = ℕ} 0 1 = cc in absurd (omega arith)

-- what the parts of a valid pair pay together is within the limit on collateral
pub both-pay-within : {A B : Type 0} (a : Meaning A) (b : Meaning B) → Rules a → Rules b → (top : ℕ) (c : Pair A B) → IsCeiling top → pair_valid a b top c ≡ true → (s : ℕ) → s ≤ top → a.payoff top c.first s + b.payoff top c.second s ≤ max_collateral
both-pay-within a b ra rb top c ceil ok s within =
    let parts = pair_parts a b top c (ok-told _ ok) in
    omega (arith, (ra top c.first ceil parts.one).covered s within, (rb top c.second ceil parts.other).covered s within, parts.bounded)
