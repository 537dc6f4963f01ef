-- Credits made row by row, and what the accounts have after each. Assumes nothing.
use Rattle.std.proofs.Common.{◌≡◌, ℕ, zero, suc, ◌+◌, ◌-◌, ◌*◌, ◌^◌, ◌<◌, ◌≤◌, true, false, cond, eqb, List, [], ◌∷◌, map, length, get_or, take, set, ℤ, pos, ◌+ℤ◌, sym, refl, ap, ◌∙◌, ⊎_elim, add-zero, mul-le-mul_right, add-mul, one-mul, arith, take_all, to_z, of_z}
use lib.IntN.{+ℤ_assoc, +ℤ_idr}
use lib.Signed.{mag}
use mir.Syntax.{Width}
use mir.Val.{hbits}
use Rattle.std.proofs.lemmas.List.{map-set, length-map}
use Rattle.std.proofs.lemmas.Int.{to_z-of_z}
use Rattle.std.proofs.lemmas.Bool.{both_ways, eq-eqb, ne_eqb, cases_Bool, cond-true, cond-false, cond_both}
use Rattle.std.specs.List.{list_all}
use Rattle.matching.specs.declared.rows.Row.{Row}
use Rattle.matching.specs.Sums.{Small}
use Rattle.matching.proofs.Running.{small-sum, small-more}
use Rattle.matching.proofs.Totals.{total-more}
use Rattle.books.specs.declared.accounts.Account.{Account}
use Rattle.books.specs.Money.{is_member, credited, credited_if_member, moved, moved_from, share, at_least, within}
use Rattle.books.proofs.MoneyMoved.{member-low, member-from, moved_same, moved_none, moved-within, moved-low}
use Rattle.books.proofs.Within.{small-none, small_at}

-- The accounts and the list of their cash.

-- the cash in the list is that of the account, and past the end both are nothing
pub cash-at : (list : List Account) (i : ℕ) → (get_or list i (record { cash = pos 0 })).cash ≡ get_or (map (λ one. one.cash) list) i (pos 0)
cash-at [] i = refl
cash-at (a ∷ list) zero = refl
cash-at (a ∷ list) (suc i) = cash-at list i

-- an account that was credited is a credit in the list
pub credit-at : (list : List Account) (i : ℕ) (a : Account) (z : ℤ) → a.cash ≡ (get_or list i (record { cash = pos 0 })).cash +ℤ z → map (λ one. one.cash) (set list i a) ≡ set (map (λ one. one.cash) list) i (get_or (map (λ one. one.cash) list) i (pos 0) +ℤ z)
credit-at list i a z e = map-set (λ one. one.cash) list i a ∙ ap (set (map (λ one. one.cash) list) i) (e ∙ ap (λ y. y +ℤ z) (cash-at list i))

pub counted-cash : (list : List Account) → length list ≡ 64 → length (map (λ one. one.cash) list) ≡ 64
counted-cash list all = length-map list (λ one. one.cash) ∙ all

pub account-small : (b : ℕ) (list : List Account) (i : ℕ) → list_all (within b) (map (λ one. one.cash) list) ≡ true → Small b (get_or list i (record { cash = pos 0 })).cash
account-small b list i e = rw (cash-at list i) (small_at b (map (λ one. one.cash) list) i e)

-- One credit more.

-- an amount for one member, and nothing for the others
abbrev pub for_one : ℕ → ℤ → ℕ → ℤ
for_one n z k = cond (eqb n k) z (pos 0)

pub for-same : (n : ℕ) (z : ℤ) → for_one n z n ≡ z
for-same n z = rw (eq-eqb n n refl)

pub for-other : (n k : ℕ) (z : ℤ) → (n ≡ k → ⊥) → for_one n z k ≡ pos 0
for-other n k z h = rw (ne_eqb n k h)

pub for-small : (b n k : ℕ) (z : ℤ) → Small b z → Small b (for_one n z k)
for-small b n k z q = cond_both (eqb n k) z (pos 0) (Small b) (λ e. q) (λ e. small-none b)

add_nothing : (a b : ℤ) → b ≡ pos 0 → a ≡ a +ℤ b
add_nothing a b h = sym (ap (λ z. a +ℤ z) h ∙ +ℤ_idr a)

add-after : (a b c d : ℤ) → d ≡ c → (a +ℤ b) +ℤ c ≡ a +ℤ (b +ℤ d)
add-after a b c d h = +ℤ_assoc a b c ∙ ap (λ z. a +ℤ (b +ℤ z)) (sym h)

module _ (f : ℕ → ℤ) (z : ℤ) where
  pub set-moved : (n j : ℕ) (members : List ℤ) → set (moved_from n f members) j (get_or (moved_from n f members) j (pos 0) +ℤ z) ≡ moved_from n (λ k. f k +ℤ for_one (n + j) z k) members
  set-moved n j [] = refl
  set-moved n zero (c ∷ cs) =
      ap (λ y. y ∷ moved_from (suc n) f cs) (add-after c (f n) z (for_one (n + 0) z n) (ap (λ k. for_one k z n) (add-zero n) ∙ for-same n z)) ∙
      ap (λ ys. (c +ℤ (f n +ℤ for_one (n + 0) z n)) ∷ ys) (moved_same f (λ k. f k +ℤ for_one (n + 0) z k) (suc n) cs (λ k low high. add_nothing (f k) (for_one (n + 0) z k) (for-other (n + 0) k z (λ e. omega arith))))
  set-moved n (suc j) (c ∷ cs) =
      ap (λ y. (c +ℤ y) ∷ set (moved_from (suc n) f cs) j (get_or (moved_from (suc n) f cs) j (pos 0) +ℤ z)) (add_nothing (f n) (for_one (n + suc j) z n) (for-other (n + suc j) n z (λ e. omega arith))) ∙
      ap (λ ys. (c +ℤ (f n +ℤ for_one (n + suc j) z n)) ∷ ys) (set-moved (suc n) j cs ∙ ap (λ i. moved_from (suc n) (λ k. f k +ℤ for_one i z k) cs) (omega arith))

  pub credited-moved : (n : ℕ) (members : List ℤ) → 1 ≤ n → credited (moved f members) n z ≡ moved (λ k. f k +ℤ for_one n z k) members
  credited-moved n members h = set-moved 1 (n - 1) members ∙ ap (λ i. moved (λ k. f k +ℤ for_one i z k) members) (omega arith)

  -- a number that is no member's reaches no account
  pub none-moved : (n : ℕ) (members : List ℤ) → length members ≡ 64 → is_member n ≡ false → moved f members ≡ moved (λ k. f k +ℤ for_one n z k) members
  none-moved n members all none =
      moved_same f (λ k. f k +ℤ for_one n z k) 1 members (λ k low high. add_nothing (f k) (for_one n z k) (for-other n k z (λ e. both_ways (is_member n) none (member-from n (omega arith) (omega arith)))))

  pub credited-if-moved : (n : ℕ) (members : List ℤ) → length members ≡ 64 → credited_if_member (moved f members) n z ≡ moved (λ k. f k +ℤ for_one n z k) members
  credited-if-moved n members all =
      ⊎_elim
      (λ e. cond-true (is_member n) (credited (moved f members) n z) (moved f members) e ∙ credited-moved n members (member-low n e))
      (λ e. cond-false (is_member n) (credited (moved f members) n z) (moved f members) e ∙ none-moved n members all e)
      (cases_Bool (is_member n))

-- Credits made row by row.

-- After i rows each member has got what is its own of these, and that is at most i times as large as
-- one row's can be.
pub record Paid {C : Type 0} (f : Row C → ℤ) (b : ℕ) (rows : List (Row C)) (before : List ℤ) (i : ℕ) (members : List ℤ) : Type 0 where
  pub far : i ≤ length rows
  pub shared : members ≡ moved (share f (take i rows)) before
  pub small : (n : ℕ) → Small (i * b) (share f (take i rows) n)

module _ {C : Type 0} (f : Row C → ℤ) (b : ℕ) (rows : List (Row C)) (before : List ℤ) where
  pub paid-none : Paid f b rows before 0 before
  paid-none = record { far = omega arith; shared = sym (moved_none (share f []) (λ n. refl) 1 before); small = λ n. small-none (0 * b) }

  -- what one more row adds to a member's share
  share-more : (i : ℕ) (r : Row C) → i < length rows → r ≡ get_or rows i r → (n : ℕ) → share f (take (i + 1) rows) n ≡ share f (take i rows) n +ℤ for_one r.member (f r) n
  share-more i r within read n = total-more (λ r. cond (eqb r.member n) (f r) (pos 0)) rows i r within read

  pub paid-more : (i : ℕ) (members members' : List ℤ) (r : Row C) → Paid f b rows before i members → length before ≡ 64 → i < length rows → r ≡ get_or rows i r → Small b (f r) → members' ≡ credited_if_member members r.member (f r) → Paid f b rows before (i + 1) members'
  paid-more i members members' r p all within read q step = record {
    far = omega arith;
    shared =
        step ∙ ap (λ ms. credited_if_member ms r.member (f r)) p.shared ∙ credited-if-moved (share f (take i rows)) (f r) r.member before all ∙
        moved_same (λ n. share f (take i rows) n +ℤ for_one r.member (f r) n) (share f (take (i + 1) rows)) 1 before (λ n low high. sym (share-more i r within read n));
    small = λ n.
        rw (share-more i r within read n)
        (small-more (i * b + b) ((i + 1) * b) (share f (take i rows) n +ℤ for_one r.member (f r) n) (omega (arith, add-mul i 1 b, one-mul b)) (small-sum (i * b) b (share f (take i rows) n) (for_one r.member (f r) n) (p.small n) (for-small b r.member n (f r) q)));
  }

  -- so no account is ever far from what it was
  pub paid-within : (a i n t : ℕ) (members : List ℤ) → Paid f b rows before i members → i ≤ n → a + n * b ≤ t → list_all (within a) before ≡ true → list_all (within t) members ≡ true
  paid-within a i n t members p few room e =
      rw p.shared (moved-within (share f (take i rows)) a (n * b) t room (λ k. small-more (i * b) (n * b) (share f (take i rows) k) (mul-le-mul_right b few) (p.small k)) before e)

  pub paid-low : (a i n : ℕ) (members : List ℤ) → Paid f b rows before i members → i ≤ n → list_all (at_least a) before ≡ true → list_all (at_least (a + n * b)) members ≡ true
  paid-low a i n members p few e =
      rw p.shared (moved-low (share f (take i rows)) a (n * b) (λ k. small-more (i * b) (n * b) (share f (take i rows) k) (mul-le-mul_right b few) (p.small k)) before e)

  pub paid-all : (i : ℕ) (members : List ℤ) → Paid f b rows before i members → length rows ≤ i → members ≡ moved (share f rows) before
  paid-all i members p done = p.shared ∙ ap (λ rs. moved (share f rs) before) (take_all i rows done)

-- One turn of the loop, as the checker has it: what is credited was a call's answer z, so it went to
-- bits and back.
pub paid-turn : {C : Type 0} {f : Row C → ℤ} {b : ℕ} {rows : List (Row C)} {before : List ℤ} (w : Width) {i : ℕ} {members : List ℤ} (members' : List ℤ) (z : ℤ) (r : Row C) → Paid f b rows before i members → length before ≡ 64 → mag z < 2 ^ hbits w → Small b z → i < length rows → r ≡ get_or rows i r → z ≡ f r → members' ≡ credited_if_member members r.member (to_z w (of_z w z)) → Paid f b rows before (i + 1) members'
paid-turn {f} {b} {rows} {before} w {i} {members} members' z r p all ok q within read is step =
    paid-more f b rows before i members members' r p all within read (rw (sym is) q) (step ∙ ap (credited_if_member members r.member) (to_z-of_z w z (record { sfits = ok }) ∙ is))
