-- The largest value of a function over whole places, and the lowest place that reaches it. Assumes nothing.
use Rattle.std.proofs.Common.{◌≡◌, ℕ, zero, suc, ◌+◌, ◌-◌, ◌<◌, ◌≤◌, ◌⊎◌, ℤ, pos, ◌+ℤ◌, ◌≤ℤ◌, ◌<ℤ◌, sym, refl, ◌∙◌, inr, ⊎_elim, arith}
use Rattle.std.proofs.lemmas.Int.{ints}
use Rattle.std.proofs.lemmas.Bool.{cases_lt, cases_eq}
use Rattle.matching.specs.Sums.{largest, lowest, AsGood}

module _ (f : ℕ → ℤ) where
  pub lowest-within : (top : ℕ) → lowest f top ≤ top
  lowest-within zero = omega arith
  lowest-within (suc n) = let ih = lowest-within n in grind (arith, ints)

  pub largest-at-lowest : (top : ℕ) → f (lowest f top) ≡ largest f top
  largest-at-lowest zero = refl
  largest-at-lowest (suc n) = let ih = largest-at-lowest n in grind (arith, ints)

  pub at-most-largest : (top s : ℕ) → s ≤ top → f s ≤ℤ largest f top
  at-most-largest zero s within = let here : s ≡ 0 = omega arith in rw here (omega (arith, ints))
  at-most-largest (suc n) s within =
      ⊎_elim
      (λ (h : s < suc n). let ih = at-most-largest n s (omega arith) in grind (arith, ints))
      (λ (h : suc n ≤ s). let here : s ≡ suc n = omega arith in rw here (grind (arith, ints)))
      (cases_lt s (suc n))

  pub below-lowest : (top s : ℕ) → s < lowest f top → f s <ℤ largest f top
  below-lowest zero s low = absurd (omega arith)
  below-lowest (suc n) s low =
      let bound : s ≤ n → f s ≤ℤ largest f n = at-most-largest n s in
      let ih : s < lowest f n → f s <ℤ largest f n = below-lowest n s in
      grind (arith, ints)

  pub as-good-self : (p : ℕ) → AsGood f p p
  as-good-self p = inr (refl, omega arith)

  pub as-good-trans : (p q s : ℕ) → AsGood f p q → AsGood f q s → AsGood f p s
  as-good-trans p q s a b = grind (arith, ints)

  -- what is as good as the lowest place is that place
  as-good-lowest : (top p : ℕ) → p ≤ top → AsGood f p (lowest f top) → p ≡ lowest f top
  as-good-lowest top p within good =
      let reached = largest-at-lowest top in
      let most = at-most-largest top p within in
      let before : p < lowest f top → f p <ℤ largest f top = below-lowest top p in
      grind (arith, ints)

  pub lowest-is : (top p : ℕ) → p ≤ top → ((s : ℕ) → s ≤ top → AsGood f p s) → p ≡ lowest f top
  lowest-is top p within good = as-good-lowest top p within (good (lowest f top) (lowest-within top))

  -- Between the ends f bends at its lowest place: it is lower one place before, and no higher one place after. So
  -- a lowest place where f is straight is an end.
  pub lowest-at-end : (top : ℕ) → (0 < lowest f top → lowest f top < top → (f (lowest f top - 1) +ℤ f (lowest f top + 1)) ≡ (f (lowest f top) +ℤ f (lowest f top))) → (lowest f top ≡ 0) ⊎ (lowest f top ≡ top)
  lowest-at-end top straight =
      let reached = largest-at-lowest top in
      let inside = lowest-within top in
      let before : 0 < lowest f top → f (lowest f top - 1) <ℤ largest f top = λ h. below-lowest top (lowest f top - 1) (omega arith) in
      let after : lowest f top < top → f (lowest f top + 1) ≤ℤ largest f top = λ h. at-most-largest top (lowest f top + 1) (omega arith) in
      grind (arith, ints)

  -- Where f is straight at every place between the ends but the knots, the ends and the knots hold the lowest
  -- place: so what is as good as each of them is that place.
  pub peak-law : (top p : ℕ) (Knot : ℕ → Type 0) → ((s : ℕ) → 0 < s → s < top → (Knot s → ⊥) → (f (s - 1) +ℤ f (s + 1)) ≡ (f s +ℤ f s)) → p ≤ top → AsGood f p 0 → AsGood f p top → ((s : ℕ) → Knot s → AsGood f p s) → p ≡ lowest f top
  peak-law top p Knot straight within start end knots =
      let m = lowest f top in
      let found : AsGood f p m → p ≡ m = as-good-lowest top p within in
      let ends : (p ≡ m → ⊥) → (m ≡ 0) ⊎ (m ≡ top) = λ apart. lowest-at-end top (λ above below. straight m above below (λ k. apart (found (knots m k)))) in
      ⊎_elim (λ e. e) (λ apart. ⊎_elim (λ e. found (rw e start)) (λ e. found (rw e end)) (ends apart)) (cases_eq p m)

  pub largest-zero : (top : ℕ) → ((s : ℕ) → f s ≡ pos 0) → largest f top ≡ pos 0
  largest-zero top flat = sym (largest-at-lowest top) ∙ flat (lowest f top)

  pub lowest-zero : (top : ℕ) → ((s : ℕ) → f s ≡ pos 0) → lowest f top ≡ 0
  lowest-zero top flat = sym (lowest-is top 0 (omega arith) (λ s h. inr (flat s ∙ sym (flat 0), omega arith)))

-- functions that agree up to the top have one largest value and one lowest place
module _ (f g : ℕ → ℤ) where
  pub largest-same : (top : ℕ) → ((s : ℕ) → s ≤ top → f s ≡ g s) → largest f top ≡ largest g top
  largest-same zero same = same 0 (omega arith)
  largest-same (suc n) same =
      let ih = largest-same n (λ s h. same s (omega arith)) in
      let here = same (suc n) (omega arith) in
      simp (ih, here)

  pub lowest-same : (top : ℕ) → ((s : ℕ) → s ≤ top → f s ≡ g s) → lowest f top ≡ lowest g top
  lowest-same zero same = refl
  lowest-same (suc n) same =
      let most = largest-same n (λ s h. same s (omega arith)) in
      let ih = lowest-same n (λ s h. same s (omega arith)) in
      let here = same (suc n) (omega arith) in
      simp (most, ih, here)
