-- The refusals: the number of each and the values that it carries, and a call's tests in their order. Assumes nothing.
use Rattle.std.specs.Prelude.{ℕ, Bool, cond, List, [], ◌∷◌, Some, None, Ok, Err, Option, Result}
use Rattle.instruments.specs.declared.faults.Invalid.{Invalid}
use Rattle.instruments.specs.Faults.{reason_number, place_number}
use Rattle.instruments.specs.Meaning.{Verdict}
use Rattle.matching.specs.declared.proposals.BadFill.{BadFill}
use Rattle.matching.specs.declared.proposals.FillFault.{FillFault}
use Rattle.matching.specs.declared.proposals.FillFault.TheVariants as fill
use Rattle.matching.specs.declared.proposals.WeightFault.{WeightFault}
use Rattle.matching.specs.declared.proposals.WeightFault.TheVariants.{Count, Entry, Sum}
use Rattle.books.specs.declared.refusals.Refusal.{Refusal}
use Rattle.books.specs.declared.refusals.Refusal.TheVariants.{Terms, Member, Amount, Contract, LimitPrice, Lots, Price, Fills, Weights, Closed, ReportOwed, FreeCash, RowsFull, NotStanding, AboveOpen, TotalCash, NetBelowZero, GapTooLarge, HouseShort, NumbersUsedUp, WrongToken, PageTooShort, ListTooShort}

abbrev pub number_of : Refusal → ℕ
number_of Terms = 10
number_of Member = 12
number_of Amount = 13
number_of (Contract f) = 14
number_of LimitPrice = 15
number_of Lots = 16
number_of Price = 17
number_of (Fills i) = 18
number_of (Weights f) = 19
number_of Closed = 40
number_of ReportOwed = 41
number_of FreeCash = 42
number_of RowsFull = 43
number_of (NotStanding n) = 44
number_of (AboveOpen n) = 45
number_of TotalCash = 46
number_of NetBelowZero = 47
number_of GapTooLarge = 48
number_of HouseShort = 49
number_of NumbersUsedUp = 50
number_of WrongToken = 51
number_of PageTooShort = 52
number_of ListTooShort = 53

-- a count, or an index
abbrev pub weight_value : WeightFault → ℕ
weight_value (Count n) = n
weight_value (Entry i) = i
weight_value (Sum n) = n

abbrev pub values_of : Refusal → List ℕ
values_of Terms = []
values_of Member = []
values_of Amount = []
values_of (Contract f) = reason_number f.reason ∷ (place_number f.place ∷ [])
values_of LimitPrice = []
values_of Lots = []
values_of Price = []
values_of (Fills i) = i ∷ []
values_of (Weights f) = weight_value f ∷ []
values_of Closed = []
values_of ReportOwed = []
values_of FreeCash = []
values_of RowsFull = []
values_of (NotStanding n) = n ∷ []
values_of (AboveOpen n) = n ∷ []
values_of TotalCash = []
values_of NetBelowZero = []
values_of GapTooLarge = []
values_of HouseShort = []
values_of NumbersUsedUp = []
values_of WrongToken = []
values_of PageTooShort = []
values_of ListTooShort = []

-- no refusal carries more than two
abbrev pub two_of : List ℕ → Option ℕ × Option ℕ
two_of [] = (None, None)
two_of (a ∷ []) = (Some a, None)
two_of (a ∷ (b ∷ rest)) = (Some a, Some b)

-- one test of a call: what it is refused for, if it fails
abbrev pub fails_if : Bool → Refusal → Option Refusal
fails_if test r = cond test (Some r) None

abbrev pub contract_refusal : Invalid → Refusal
contract_refusal f = Contract f

abbrev pub contract_test : Verdict → Option Refusal
contract_test (Ok u) = None
contract_test (Err f) = Some (contract_refusal f)

abbrev pub bad_fill_refusal : BadFill → Refusal
bad_fill_refusal f = Fills f.index

abbrev pub fills_test : Result (Unit {0}) BadFill → Option Refusal
fills_test (Ok u) = None
fills_test (Err f) = Some (bad_fill_refusal f)

abbrev pub weight_refusal : WeightFault → Refusal
weight_refusal f = Weights f

abbrev pub weights_test : Result (Unit {0}) WeightFault → Option Refusal
weights_test (Ok u) = None
weights_test (Err f) = Some (weight_refusal f)

abbrev pub fill_refusal : FillFault → Refusal
fill_refusal (fill.NotStanding n) = NotStanding n
fill_refusal (fill.AboveOpen n) = AboveOpen n

abbrev pub orders_test : Result (Unit {0}) FillFault → Option Refusal
orders_test (Ok u) = None
orders_test (Err f) = Some (fill_refusal f)

-- the tests in their order: the first that fails is told, and else the answer
abbrev pub tested : {A : Type 0} → List (Option Refusal) → A → Result A Refusal
tested [] a = Ok a
tested (Some r ∷ tests) a = Err r
tested (None ∷ tests) a = tested tests a

-- the state that an answer leaves: a refusal changes nothing
abbrev pub left_by : {A S : Type 0} → Result A Refusal → S → S → S
left_by (Ok a) after before = after
left_by (Err r) after before = before
