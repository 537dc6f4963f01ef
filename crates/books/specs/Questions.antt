-- account, order, standing, exposure and house: what each answers. They change nothing. Assumes nothing.
use Rattle.std.specs.Prelude.{ℕ, Bool, not, ◌&&◌, List, [], ◌∷◌, length, map, filter, count_by, ℤ, Option, Result, ◌==◌, nat_lt}
use Rattle.std.specs.List.{find}
use Rattle.std.specs.Option.{option_map}
use Rattle.books.specs.declared.answers.Balance.{Balance}
use Rattle.books.specs.declared.answers.Standing.{Standing}
use Rattle.books.specs.declared.refusals.Refusal.{Refusal}
use Rattle.books.specs.declared.refusals.Refusal.TheVariants.{Member, Price, ListTooShort}
use Rattle.instruments.specs.Meaning.{Meaning}
use Rattle.matching.specs.declared.rows.Row.{Row}
use Rattle.matching.specs.Figures.{exposure}
use Rattle.matching.specs.Rows.{house_rows, used, standing, held}
use Rattle.books.specs.Money.{is_member, cash_of}
use Rattle.books.specs.Refusals.{tested, fails_if}
use Rattle.books.specs.State.{State}

-- ---- account(member)
abbrev pub account_answer : {C : Type 0} → Meaning C → State C → ℕ → Result Balance Refusal
account_answer m s n = tested (fails_if (not (is_member n)) Member ∷ []) (record { cash = cash_of s.members n; held = held m s.top (house_rows s.rows) n })

-- ---- order(number): open and filled lots of the used row with the number, if there is one
abbrev pub is_order : {C : Type 0} → ℕ → Row C → Bool
is_order number r = used r && r.order == number

abbrev pub lots_of : {C : Type 0} → List (Row C) → ℕ → Option (ℕ × ℕ)
lots_of rows number = option_map (λ r. (r.«open», r.filled)) (find (is_order number) rows)

abbrev pub order_answer : {C : Type 0} → State C → ℕ → Option (ℕ × ℕ)
order_answer s number = lots_of (house_rows s.rows) number

-- ---- exposure(price)
abbrev pub exposure_answer : {C : Type 0} → Meaning C → State C → ℕ → Result ℤ Refusal
exposure_answer m s price = tested (fails_if (nat_lt s.top price) Price ∷ []) (exposure m s.top (house_rows s.rows) price)

-- ---- house()
abbrev pub house_answer : {C : Type 0} → State C → Standing
house_answer s = record { cash = s.cash; reserve = s.reserve; clearings = s.latest.clearing; report_owed = s.report }

-- ---- standing(list)
-- the numbers of the standing orders, in the order of their rows
abbrev pub standing_numbers : {C : Type 0} → List (Row C) → List ℕ
standing_numbers rows = map (λ r. r.order) (filter standing rows)

abbrev pub standing_answer : {C : Type 0} → State C → List ℕ → Result ℕ Refusal
standing_answer s list = tested (fails_if (nat_lt (length list) (count_by standing (house_rows s.rows))) ListTooShort ∷ []) (count_by standing (house_rows s.rows))
