-- Moving money among the accounts. Assumes nothing.
use Rattle.std.specs.Prelude.{ℕ, suc, ◌-◌, Bool, cond, ◌&&◌, List, [], ◌∷◌, map, ℤ, pos, ◌+ℤ◌, neg_ℤ, Some, None, Option, ◌==◌, int_le, nat_le, slice_index_or, slice_set}
use Rattle.books.specs.declared.accounts.Account.{Account}
use Rattle.matching.specs.declared.rows.Row.{Row}
use Rattle.matching.specs.Sums.{total}

-- members are numbered 1 to 64
abbrev pub is_member : ℕ → Bool
is_member n = nat_le 1 n && nat_le n 64

-- the member that a number makes: itself, or none
abbrev pub offered_member : ℕ → Option ℕ
offered_member n = cond (is_member n) (Some n) None

abbrev pub cash_of : List ℤ → ℕ → ℤ
cash_of members n = slice_index_or members (n - 1) (pos 0)

-- one member's cash changed by an amount
abbrev pub credited : List ℤ → ℕ → ℤ → List ℤ
credited members n z = slice_set members (n - 1) (cash_of members n +ℤ z)

-- the same where there is such a member, and else nothing
abbrev pub credited_if_member : List ℤ → ℕ → ℤ → List ℤ
credited_if_member members n z = cond (is_member n) (credited members n z) members

-- each member's cash changed by an amount of its own; the first of the list is member n
abbrev pub moved_from : ℕ → (ℕ → ℤ) → List ℤ → List ℤ
moved_from n f [] = []
moved_from n f (c ∷ cs) = (c +ℤ f n) ∷ moved_from (suc n) f cs

abbrev pub moved : (ℕ → ℤ) → List ℤ → List ℤ
moved f members = moved_from 1 f members

-- a member's share of what flows: the sum over the rows that are its own
abbrev pub share : {C : Type 0} → (Row C → ℤ) → List (Row C) → ℕ → ℤ
share flow rows n = total (λ r. cond (r.member == n) (flow r) (pos 0)) rows

-- what each account has, in their order
abbrev pub cash_in : List Account → List ℤ
cash_in list = map (λ one. one.cash) list

-- no less than −b
abbrev pub at_least : ℕ → ℤ → Bool
at_least b z = int_le (neg_ℤ (pos b)) z

-- from −b to b: what keeps the sums of the accounts within their types
abbrev pub within : ℕ → ℤ → Bool
within b z = at_least b z && int_le z (pos b)
