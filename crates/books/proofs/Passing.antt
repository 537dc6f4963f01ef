-- A call's answer, once for all calls: either it is a refusal, or each test passed. Assumes nothing.
use Rattle.std.proofs.Common.{◌≡◌, Bool, true, false, List, [], ◌∷◌, ℤ, ◌≤ℤ◌, Some, None, Ok, Err, Option, Result, refl}
use lib.Signed.{lt_z}
use Rattle.std.specs.List.{AllByRecursion}
use Rattle.instruments.specs.Meaning.{Verdict}
use Rattle.books.specs.declared.refusals.Refusal.{Refusal}
use Rattle.books.specs.Refusals.{tested, fails_if, contract_test}
use Rattle.books.proofs.Within.{not-below}

pub answered : {A : Type 0} (Q : Result A Refusal → Type 0) (tests : List (Option Refusal)) (a : A) → ((r : Refusal) → Q (Err r)) → (AllByRecursion (λ t. t ≡ None) tests → Q (Ok a)) → Q (tested tests a)
answered Q [] a refused passed = passed tt
answered Q (Some r ∷ tests) a refused passed = refused r
answered Q (None ∷ tests) a refused passed = answered Q tests a refused (λ rest. passed (refl, rest))

pub not-failed : (test : Bool) (r : Refusal) → fails_if test r ≡ None → test ≡ false
not-failed true r passed = cc
not-failed false r passed = refl

-- a test that one figure is below another failed
pub at_least : (a b : ℤ) (r : Refusal) → fails_if (lt_z a b) r ≡ None → b ≤ℤ a
at_least a b r passed = not-below a b (not-failed (lt_z a b) r passed)

pub contract-passed : (v : Verdict) → contract_test v ≡ None → v ≡ Ok tt
contract-passed (Ok u) passed = refl
contract-passed (Err f) passed = cc
