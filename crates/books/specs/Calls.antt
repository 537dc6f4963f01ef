-- deposit, withdraw, fund, take, enter and cancel: what each answers, and the state that it leaves. Assumes nothing.
use Rattle.std.specs.Prelude.{◌≡◌, ℕ, ◌+◌, ◌*◌, ◌<◌, Bool, false, cond, not, ◌&&◌, List, [], ◌∷◌, length, ℤ, pos, ◌+ℤ◌, ◌-ℤ◌, neg_ℤ, Ok, Err, Result, ◌==◌, int_lt, nat_le, nat_lt, slice_index_or, slice_set}
use Rattle.std.specs.List.{list_any}
use Rattle.std.specs.Int.{int_max}
use Rattle.std.specs.List.{list_any}
use Rattle.books.specs.declared.refusals.Refusal.{Refusal}
use Rattle.books.specs.declared.refusals.Refusal.TheVariants.{Member, Amount, LimitPrice, Lots, Closed, FreeCash, RowsFull, NotStanding, TotalCash, HouseShort, NumbersUsedUp}
use Rattle.instruments.specs.Meaning.{Meaning}
use Rattle.matching.specs.declared.rows.Row.{Row}
use Rattle.matching.specs.declared.rows.Side.{Side}
use Rattle.matching.specs.declared.rows.Side.TheVariants.{Buy, Sell}
use Rattle.matching.specs.Fills.{holds_order}
use Rattle.matching.specs.Rows.{house_rows, used, held}
use Rattle.books.specs.Money.{is_member, cash_of, credited}
use Rattle.books.specs.Refusals.{tested, fails_if, contract_test, left_by}
use Rattle.books.specs.State.{State, all_cash, over_house, with_lots}

-- of one amount, and of all cash together
abbrev pub max_cash : ℕ
max_cash = 1000000000000

-- orders and clearings are numbered 1 to 999,999
abbrev pub max_number : ℕ
max_number = 999999

abbrev pub max_price : ℕ
max_price = 1000000

abbrev pub max_lots : ℕ
max_lots = 1000

abbrev pub is_amount : ℕ → Bool
is_amount a = nat_le 1 a && nat_le a max_cash

abbrev pub is_lots : ℕ → Bool
is_lots n = nat_le 1 n && nat_le n max_lots

-- would this much more pass the limit on all cash together?
abbrev pub too_much : {C : Type 0} → State C → ℕ → Bool
too_much s amount = int_lt (pos max_cash) (all_cash s +ℤ pos amount)

-- a member's cash less what its orders hold of it
abbrev pub free_cash : {C : Type 0} → Meaning C → State C → ℕ → ℤ
free_cash m s n = cash_of s.members n -ℤ held m s.top (house_rows s.rows) n

-- is that less than an amount?
abbrev pub short_of : {C : Type 0} → Meaning C → State C → ℕ → ℕ → Bool
short_of m s n amount = int_lt (free_cash m s n) (pos amount)

-- is the house's cash beyond what is reserved less than an amount?
abbrev pub house_short_of : {C : Type 0} → State C → ℕ → Bool
house_short_of s amount = int_lt (s.cash -ℤ int_max (pos 0) s.reserve) (pos amount)

abbrev pub with_members : {C : Type 0} → State C → List ℤ → State C
with_members s members' = record { number = s.number; top = s.top; allowed = s.allowed; members = members'; cash = s.cash; reserve = s.reserve; orders = s.orders; latest = s.latest; report = s.report; closed = s.closed; rows = s.rows }

abbrev pub with_cash : {C : Type 0} → State C → ℤ → State C
with_cash s cash' = record { number = s.number; top = s.top; allowed = s.allowed; members = s.members; cash = cash'; reserve = s.reserve; orders = s.orders; latest = s.latest; report = s.report; closed = s.closed; rows = s.rows }

abbrev pub with_rows : {C : Type 0} → State C → ℕ → List (Row C) → State C
with_rows s orders' rows' = record { number = s.number; top = s.top; allowed = s.allowed; members = s.members; cash = s.cash; reserve = s.reserve; orders = orders'; latest = s.latest; report = s.report; closed = s.closed; rows = rows' }

-- ---- deposit(member, amount)
abbrev pub deposit_answer : {C : Type 0} → State C → ℕ → ℕ → Result (Unit {0}) Refusal
deposit_answer s n amount = tested (fails_if (not (is_member n)) Member ∷ (fails_if (not (is_amount amount)) Amount ∷ (fails_if s.closed Closed ∷ (fails_if (too_much s amount) TotalCash ∷ [])))) tt

abbrev pub deposit_after : {C : Type 0} → State C → ℕ → ℕ → State C
deposit_after s n amount = left_by (deposit_answer s n amount) (with_members s (credited s.members n (pos amount))) s

-- ---- fund(amount), into the house's cash
abbrev pub fund_answer : {C : Type 0} → State C → ℕ → Result (Unit {0}) Refusal
fund_answer s amount = tested (fails_if (not (is_amount amount)) Amount ∷ (fails_if s.closed Closed ∷ (fails_if (too_much s amount) TotalCash ∷ []))) tt

abbrev pub fund_after : {C : Type 0} → State C → ℕ → State C
fund_after s amount = left_by (fund_answer s amount) (with_cash s (s.cash +ℤ pos amount)) s

-- ---- withdraw(member, amount)
abbrev pub withdraw_answer : {C : Type 0} → Meaning C → State C → ℕ → ℕ → Result (Unit {0}) Refusal
withdraw_answer m s n amount = tested (fails_if (not (is_member n)) Member ∷ (fails_if (not (is_amount amount)) Amount ∷ (fails_if (short_of m s n amount) FreeCash ∷ []))) tt

abbrev pub withdraw_after : {C : Type 0} → Meaning C → State C → ℕ → ℕ → State C
withdraw_after m s n amount = left_by (withdraw_answer m s n amount) (with_members s (credited s.members n (neg_ℤ (pos amount)))) s

-- ---- take(amount), from the house's cash beyond what is reserved
abbrev pub take_answer : {C : Type 0} → State C → ℕ → Result (Unit {0}) Refusal
take_answer s amount = tested (fails_if (not (is_amount amount)) Amount ∷ (fails_if (house_short_of s amount) HouseShort ∷ [])) tt

abbrev pub take_after : {C : Type 0} → State C → ℕ → State C
take_after s amount = left_by (take_answer s amount) (with_cash s (s.cash -ℤ pos amount)) s

-- ---- enter(member, side, contract, price, lots)
-- what a new order would hold: a buy its price, a sell its collateral
abbrev pub new_hold : {C : Type 0} → Meaning C → ℕ → Side → C → ℕ → ℕ → ℕ
new_hold m top Buy c price lots = price * lots
new_hold m top Sell c price lots = m.collateral top c * lots

abbrev pub all_used : {C : Type 0} → List (Row C) → Bool
all_used rows = not (list_any (λ r. not (used r)) rows)

-- it answers the order's number, one above the last
abbrev pub enter_answer : {C : Type 0} → Meaning C → State C → ℕ → Side → C → ℕ → ℕ → Result ℕ Refusal
enter_answer m s n side c price lots =
    tested
    (fails_if (not (is_member n)) Member ∷
    (contract_test (m.check s.top c) ∷
    (fails_if (nat_lt max_price price) LimitPrice ∷
    (fails_if (not (is_lots lots)) Lots ∷
    (fails_if s.closed Closed ∷
    (fails_if (short_of m s n (new_hold m s.top side c price lots)) FreeCash ∷
    (fails_if (all_used (house_rows s.rows)) RowsFull ∷
    (fails_if (nat_le max_number s.orders) NumbersUsedUp ∷ []))))))))
    (s.orders + 1)

abbrev pub new_order : {C : Type 0} → ℕ → ℕ → Side → C → ℕ → ℕ → Row C
new_order number n side c price lots = record { order = number; member = n; side = side; contract = c; price = price; «open» = lots; filled = 0 }

-- the state with the order of a row in the row at k, under the number after the last
abbrev pub placed_at : {C : Type 0} → State C → ℕ → Row C → State C
placed_at s k r = with_rows s (s.orders + 1) (slice_set s.rows k (record r { order = s.orders + 1 }))

-- the state with the order in the row at k
abbrev pub entered_at : {C : Type 0} → State C → ℕ → ℕ → Side → C → ℕ → ℕ → State C
entered_at s k n side c price lots = with_rows s (s.orders + 1) (slice_set s.rows k (new_order (s.orders + 1) n side c price lots))

-- Which unused row a new order takes is left free: some row k of the house's that is unused.
pub record TakesRow {C : Type 0} (s s' : State C) (k n : ℕ) (side : Side) (c : C) (price lots : ℕ) : Type 0 where
  pub within : k < length (house_rows s.rows)
  pub unused : (d : Row C) → used (slice_index_or (house_rows s.rows) k d) ≡ false
  pub after : s' ≡ entered_at s k n side c price lots

abbrev pub Entered : {C : Type 0} → Meaning C → State C → State C → ℕ → Side → C → ℕ → ℕ → Result ℕ Refusal → Type 0
Entered m s s' n side c price lots (Ok number) = (k : ℕ) × TakesRow s s' k n side c price lots
Entered m s s' n side c price lots (Err r) = s' ≡ s

-- ---- cancel(member, order)
abbrev pub own_standing : {C : Type 0} → ℕ → ℕ → Row C → Bool
own_standing n number r = holds_order number r && r.member == n

abbrev pub cancel_answer : {C : Type 0} → State C → ℕ → ℕ → Result (Unit {0}) Refusal
cancel_answer s n number = tested (fails_if (not (is_member n)) Member ∷ (fails_if s.closed Closed ∷ (fails_if (not (list_any (own_standing n number) (house_rows s.rows))) (NotStanding number) ∷ []))) tt

-- open lots become 0, filled lots stay
abbrev pub cancelled : {C : Type 0} → ℕ → ℕ → Row C → Row C
cancelled n number r = cond (own_standing n number r) (with_lots r 0 r.filled) r

abbrev pub cancel_after : {C : Type 0} → State C → ℕ → ℕ → State C
cancel_after s n number = left_by (cancel_answer s n number) (with_rows s s.orders (over_house (cancelled n number) s.rows)) s
