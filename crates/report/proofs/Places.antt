-- The places of a number in base ten. Assumes nothing.
use Rattle.std.proofs.Common.{◌≡◌, ℕ, zero, suc, ◌+◌, ◌*◌, ◌/◌, ◌%◌, ◌^◌, ◌<◌, ◌≤◌, ltb, [], ◌∷◌, ◌++◌, length, sym, ap, ◌∙◌, ⊎_elim, pow-suc, arith}
use Rattle.std.proofs.lemmas.List.{length_push}
use Rattle.std.proofs.lemmas.Bool.{cases_lt, cond-true, cond-false, lt-ltb, le-ltb}
use Rattle.books.specs.Publishing.{decimal}

-- one digit is the whole text of a number below ten
pub decimal-one : (k n : ℕ) → n < 10 → decimal (suc k) n ≡ (48 + n) ∷ []
decimal-one k n h = cond-true (ltb n 10) _ _ (lt-ltb n 10 h)

pub decimal-more : (k n : ℕ) → 10 ≤ n → decimal (suc k) n ≡ decimal k (n / 10) ++ ((48 + n % 10) ∷ [])
decimal-more k n h = cond-false (ltb n 10) _ _ (le-ltb n 10 h)

-- a tenth has a place less
pub tenth-under : (k n : ℕ) → n < 10 ^ suc k → n / 10 < 10 ^ k
tenth-under k n h = let e : 10 ^ suc k ≡ 10 ^ k * 10 = pow-suc 10 k in omega arith

-- a place more changes nothing where the places suffice
pub decimal-turns : (k n : ℕ) → n < 10 ^ suc k → decimal (suc k) n ≡ decimal (suc (suc k)) n
decimal-turns zero n h = decimal-one 0 n (omega arith) ∙ sym (decimal-one 1 n (omega arith))
decimal-turns (suc k) n h =
    ⊎_elim
    (λ low. decimal-one (suc k) n low ∙ sym (decimal-one (suc (suc k)) n low))
    (λ high. decimal-more (suc k) n high ∙ ap (λ ds. ds ++ ((48 + n % 10) ∷ [])) (decimal-turns k (n / 10) (tenth-under (suc k) n h)) ∙ sym (decimal-more (suc (suc k)) n high))
    (cases_lt n 10)

pub decimal_step : (k n : ℕ) → 10 ≤ n → n < 10 ^ suc (suc k) → decimal (suc (suc k)) n ≡ decimal (suc (suc k)) (n / 10) ++ ((48 + n % 10) ∷ [])
decimal_step k n high h = decimal-more (suc k) n high ∙ ap (λ ds. ds ++ ((48 + n % 10) ∷ [])) (decimal-turns k (n / 10) (tenth-under (suc k) n h))

pub decimal-short : (k n : ℕ) → length (decimal k n) ≤ k
decimal-short zero n = omega arith
decimal-short (suc k) n =
    ⊎_elim
    (λ low. rw (decimal-one k n low) (omega arith))
    (λ high. rw (decimal-more k n high, length_push) (omega (arith, decimal-short k (n / 10))))
    (cases_lt n 10)
