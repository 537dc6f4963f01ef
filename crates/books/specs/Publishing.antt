-- publish: the report, what the call answers, and what it leaves. Assumes nothing.
use Rattle.std.specs.Prelude.{ℕ, zero, suc, ◌+◌, ◌/◌, ◌%◌, Bool, false, cond, not, ◌&&◌, List, [], ◌∷◌, ◌++◌, length, drop, ℤ, pos, negsuc, codes, Result, ◌==◌, nat_lt}
use Rattle.books.specs.declared.answers.Cleared.{Cleared}
use Rattle.books.specs.declared.refusals.Refusal.{Refusal}
use Rattle.books.specs.declared.refusals.Refusal.TheVariants.{WrongToken, PageTooShort}
use Rattle.books.specs.Refusals.{tested, fails_if, left_by}
use Rattle.books.specs.State.{State}

-- a number in base ten without leading zeros, of at most `places` digits; 48 is the byte of the digit 0
abbrev pub decimal : ℕ → ℕ → List ℕ
decimal zero n = []
decimal (suc places) n = cond (nat_lt n 10) ((48 + n) ∷ []) (decimal places (n / 10) ++ ((48 + n % 10) ∷ []))

-- every figure that a clearing can answer has at most 39 digits; minus is byte 45
abbrev pub figure_text : ℤ → List ℕ
figure_text (pos n) = decimal 39 n
figure_text (negsuc n) = 45 ∷ decimal 39 (suc n)

-- a line: its name, = (byte 61), its figure, and byte 10
abbrev pub line : List ℕ → ℤ → List ℕ
line name z = name ++ (61 ∷ (figure_text z ++ (10 ∷ [])))

abbrev pub report_text : Cleared → List ℕ
report_text a = line (codes "clearing") (pos a.clearing) ++ (line (codes "net") a.net ++ (line (codes "reserve") a.reserve ++ (line (codes "worst") (pos a.worst) ++ (line (codes "gap") a.gap ++ line (codes "weights") (pos a.weights)))))

-- A token is for the report owed here where it has the house's number and the latest clearing's.
abbrev pub is_owed : {C : Type 0} → State C → ℕ → ℕ → Bool
is_owed s house clearing = s.report && (house == s.number && clearing == s.latest.clearing)

-- it answers how many bytes were written
abbrev pub publish_answer : {C : Type 0} → State C → ℕ → ℕ → List ℕ → Result ℕ Refusal
publish_answer s house clearing page = tested (fails_if (not (is_owed s house clearing)) WrongToken ∷ (fails_if (nat_lt (length page) (length (report_text s.latest))) PageTooShort ∷ [])) (length (report_text s.latest))

-- the report stands at the front of the page, and the rest of it is unchanged
abbrev pub publish_page : {C : Type 0} → State C → ℕ → ℕ → List ℕ → List ℕ
publish_page s house clearing page = left_by (publish_answer s house clearing page) (report_text s.latest ++ drop (length (report_text s.latest)) page) page

abbrev pub published : {C : Type 0} → State C → State C
published s = record { number = s.number; top = s.top; allowed = s.allowed; members = s.members; cash = s.cash; reserve = s.reserve; orders = s.orders; latest = s.latest; report = false; closed = s.closed; rows = s.rows }

abbrev pub publish_after : {C : Type 0} → State C → ℕ → ℕ → List ℕ → State C
publish_after s house clearing page = left_by (publish_answer s house clearing page) (published s) s
