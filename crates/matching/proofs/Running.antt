-- A loop that adds up a figure of each element: what it keeps from turn to turn. Assumes nothing.
use Rattle.std.proofs.Common.{◌≡◌, ℕ, ◌+◌, ◌-◌, ◌*◌, ◌^◌, ◌<◌, ◌≤◌, List, [], ◌∷◌, length, get_or, take, ℤ, pos, ◌+ℤ◌, sym, refl, ap, ◌∙◌, mul-le-mul_right, add-mul, one-mul, arith, take_all, SFits, to_z, of_z}
use lib.Signed.{mag}
use mir.Syntax.{Width}
use mir.Val.{hbits}
use Rattle.std.proofs.lemmas.Int.{ints, to_z-of_z}
use Rattle.matching.specs.Sums.{total, Small}
use Rattle.matching.proofs.Totals.{total-more}

pub small-sum : (a b : ℕ) (x y : ℤ) → Small a x → Small b y → Small (a + b) (x +ℤ y)
small-sum a b x y p q = record { low = omega (arith, ints, p.low, q.low); high = omega (arith, ints, p.high, q.high) }

pub small-more : (a b : ℕ) (x : ℤ) → a ≤ b → Small a x → Small b x
small-more a b x h p = record { low = omega (arith, ints, p.low); high = omega (arith, ints, p.high) }

-- a sum of i terms and one more is as small as n of them
pub small-turn : (b i n : ℕ) (sum z : ℤ) → Small (i * b) sum → Small b z → i < n → Small (n * b) (sum +ℤ z)
small-turn b i n sum z small q h =
    small-more (i * b + b) (n * b) (sum +ℤ z) (omega (arith, mul-le-mul_right {m = i + 1} {n = n} b (omega arith), add-mul i 1 b, one-mul b)) (small-sum (i * b) b sum z small q)

-- after i elements the sum is theirs, and at most i times as large as one can be
pub record Running {A : Type 0} (f : A → ℤ) (b : ℕ) (xs : List A) (i : ℕ) (sum : ℤ) : Type 0 where
  pub far : i ≤ length xs
  pub summed : sum ≡ total f (take i xs)
  pub small : Small (i * b) sum

module _ {A : Type 0} (f : A → ℤ) (b : ℕ) (xs : List A) where
  pub running-small : (i n : ℕ) (sum z : ℤ) → Running f b xs i sum → Small b z → i < n → Small (n * b) (sum +ℤ z)
  running-small i n sum z r q h = small-turn b i n sum z r.small q h

  pub running_more : (i : ℕ) (sum sum' z : ℤ) (x : A) → Running f b xs i sum → i < length xs → x ≡ get_or xs i x → z ≡ f x → Small b z → sum' ≡ sum +ℤ z → Running f b xs (i + 1) sum'
  running_more i sum sum' z x r within read is q step = record {
    far = omega arith;
    summed = step ∙ ap (λ s. s +ℤ z) r.summed ∙ ap (λ v. total f (take i xs) +ℤ v) is ∙ sym (total-more f xs i x within read);
    small = rw step (running-small i (i + 1) sum z r q (omega arith));
  }

  pub running-all : (i : ℕ) (sum : ℤ) → Running f b xs i sum → length xs ≤ i → sum ≡ total f xs
  running-all i sum r done = r.summed ∙ ap (total f) (take_all i xs done)

-- One turn of the loop, as the checker has it: what is added was a call's answer z, so it went to bits
-- and back, and so does the new sum.
module _ {A : Type 0} {f : A → ℤ} {b : ℕ} {xs : List A} (w : Width) (n : ℕ) {i : ℕ} {sum : ℤ} (z : ℤ) (r : Running f b xs i sum) (few : i < n) (narrow : n * b < 2 ^ hbits w) (ok : mag z < 2 ^ hbits w) (q : Small b z) where
  kept_small : Small (n * b) (sum +ℤ z)
  kept_small = running-small f b xs i n sum z r q few

  small-fits : SFits w (sum +ℤ z)
  small-fits = omega (arith, ints, kept_small.low, kept_small.high)

  same-again : to_z w (of_z w z) ≡ z
  same-again = to_z-of_z w z (record { sfits = ok })

  pub turn-fits : SFits w (sum +ℤ to_z w (of_z w z))
  turn-fits = rw same-again small-fits

  pub turn-again : (x : A) → i < length xs → x ≡ get_or xs i x → z ≡ f x → Running f b xs (i + 1) (to_z w (of_z w (sum +ℤ to_z w (of_z w z))))
  turn-again x within read is =
      running_more f b xs i sum _ z x r within read is q (rw same-again (to_z-of_z w (sum +ℤ z) small-fits))

-- The same of what a closure answers: it is told of each element by a relation alone, and where that is a function,
-- the sum is of what it gives.
abbrev pub Gives : {A : Type 0} → (A → ℤ → Type 0) → (A → ℤ) → Type 0
Gives {A} answers f = (x : A) (z : ℤ) → answers x z → z ≡ f x

pub record RunningOf {A : Type 0} (answers : A → ℤ → Type 0) (xs : List A) (i : ℕ) (sum : ℤ) : Type 0 where
  pub far : i ≤ length xs
  pub summed : (f : A → ℤ) → Gives answers f → sum ≡ total f (take i xs)
  pub small : (b : ℕ) → ((x : A) (z : ℤ) → answers x z → Small b z) → Small (i * b) sum

module _ {A : Type 0} {answers : A → ℤ → Type 0} {xs : List A} (w : Width) (n b : ℕ) {i : ℕ} {sum : ℤ} (x : A) (z : ℤ) (r : RunningOf answers xs i sum) (says : answers x z) (few : i < n) (narrow : n * b < 2 ^ hbits w) (ok : mag z < 2 ^ hbits w) (each : (x : A) (z : ℤ) → answers x z → Small b z) where
  told_small : Small (n * b) (sum +ℤ z)
  told_small = small-turn b i n sum z (r.small b each) (each x z says) few

  told-fits : SFits w (sum +ℤ z)
  told-fits = omega (arith, ints, told_small.low, told_small.high)

  told-same : to_z w (of_z w z) ≡ z
  told-same = to_z-of_z w z (record { sfits = ok })

  pub told-turn-fits : SFits w (sum +ℤ to_z w (of_z w z))
  told-turn-fits = rw told-same told-fits

  told-step : to_z w (of_z w (sum +ℤ to_z w (of_z w z))) ≡ sum +ℤ z
  told-step = rw told-same (to_z-of_z w (sum +ℤ z) told-fits)

  pub told-turn-again : i < length xs → x ≡ get_or xs i x → RunningOf answers xs (i + 1) (to_z w (of_z w (sum +ℤ to_z w (of_z w z))))
  told-turn-again within read = record {
    far = omega arith;
    summed = λ f gives. told-step ∙ ap (λ s. s +ℤ z) (r.summed f gives) ∙ ap (λ v. total f (take i xs) +ℤ v) (gives x z says) ∙ sym (total-more f xs i x within read);
    small = λ b each. rw told-step (small-turn b i (i + 1) sum z (r.small b each) (each x z says) (omega arith));
  }

-- no element yet
pub told-none : {A : Type 0} {answers : A → ℤ → Type 0} (xs : List A) → RunningOf answers xs 0 (pos 0)
told-none xs = record { far = omega arith; summed = λ f gives. refl; small = λ b each. record { low = omega (arith, ints); high = omega (arith, ints) } }

-- all of them
pub told-all : {A : Type 0} {answers : A → ℤ → Type 0} (xs : List A) (i : ℕ) (sum : ℤ) → RunningOf answers xs i sum → length xs ≤ i → (f : A → ℤ) → Gives answers f → sum ≡ total f xs
told-all xs i sum r done f gives = r.summed f gives ∙ ap (total f) (take_all i xs done)

pub told-within : {A : Type 0} {answers : A → ℤ → Type 0} (xs : List A) (i n : ℕ) (sum : ℤ) → RunningOf answers xs i sum → i ≤ n → (b : ℕ) → ((x : A) (z : ℤ) → answers x z → Small b z) → Small (n * b) sum
told-within xs i n sum r h b each = small-more (i * b) (n * b) sum (mul-le-mul_right b h) (r.small b each)

-- A loop that adds up a figure of each element as a list runs out: what is left of it, and the sum of what went before,
-- in a list of at most n.
pub record Adding {A : Type 0} (f : A → ℤ) (b n : ℕ) (all rest : List A) (sum : ℤ) : Type 0 where
  pub few : length rest ≤ n
  pub summed : sum +ℤ total f rest ≡ total f all
  pub small : Small ((n - length rest) * b) sum

module _ {A : Type 0} {f : A → ℤ} {b n : ℕ} {all rest : List A} {sum : ℤ} where
  -- the first element, where the list has no more than n
  pub adding-first : (x : A) → length rest < n → all ≡ x ∷ rest → sum ≡ f x → Small b sum → Adding f b n all rest sum
  adding-first x few is here q = record {
    few = omega arith;
    summed = rw (is, here) refl;
    small = small-more b ((n - length rest) * b) sum (omega (arith, mul-le-mul_right {m = 1} {n = n - length rest} b (omega arith), one-mul b)) q;
  }

  pub adding-done : Adding f b n all rest sum → rest ≡ [] → sum ≡ total f all
  adding-done r none = omega (arith, ints, r.summed, ap (total f) none)

  -- one turn, with what is added as a call's answer z
  module _ (w : Width) (x : A) (rest' : List A) (z : ℤ) (r : Adding f b n all rest sum) (is : rest ≡ x ∷ rest') (narrow : n * b < 2 ^ hbits w) (ok : mag z < 2 ^ hbits w) (q : Small b z) where
    shorter : length rest ≡ length rest' + 1
    shorter = rw is (omega arith)

    added_small : Small ((n - length rest') * b) (sum +ℤ z)
    added_small = let few = r.few in let more = shorter in small-turn b (n - length rest) (n - length rest') sum z r.small q (omega arith)

    added-fits : SFits w (sum +ℤ z)
    added-fits =
        let whole = small-more ((n - length rest') * b) (n * b) (sum +ℤ z) (mul-le-mul_right b (omega arith)) added_small in
        omega (arith, ints, whole.low, whole.high)

    z-same : to_z w (of_z w z) ≡ z
    z-same = to_z-of_z w z (record { sfits = ok })

    pub adding-more : z ≡ f x → Adding f b n all rest' (to_z w (of_z w (sum +ℤ to_z w (of_z w z))))
    adding-more here =
        let step : to_z w (of_z w (sum +ℤ to_z w (of_z w z))) ≡ sum +ℤ z = rw z-same (to_z-of_z w (sum +ℤ z) added-fits) in
        let total-is : total f rest ≡ f x +ℤ total f rest' = ap (total f) is in
        record {
          few = let few = r.few in let more = shorter in omega arith;
          summed = rw step (omega (arith, ints, r.summed, total-is, here));
          small = rw step added_small;
        }
