-- The state that a house is in, and what its calls tell beside a token. Assumes nothing.
use Rattle.std.specs.Prelude.{◌≡◌, ℕ, false, List, Ok, Err, Result}
use Rattle.books.specs.declared.answers.Cleared.{Cleared}
use Rattle.books.specs.declared.refusals.Refusal.{Refusal}
use Rattle.matching.specs.declared.proposals.Fill.{Fill}
use Rattle.books.specs.State.{State, shape}
use Rattle.books.specs.Statement.{Statement}
use Rattle.house.specs.declared.state.House.{House}
use Rattle.house.specs.declared.token.ReportToken.{ReportToken}

abbrev pub view : {C : Type 0} → House C → State C
view h = shape h.books

-- what a clearing answered, without its token
abbrev pub told_clearing : Result (Cleared × ReportToken) Refusal → Result Cleared Refusal
told_clearing (Ok p) = Ok p.0
told_clearing (Err r) = Err r

-- the token of a clearing has the house's number and the clearing's, and is not spent
abbrev pub TokenOf : {C : Type 0} → State C → Result (Cleared × ReportToken) Refusal → Type 0
TokenOf s (Ok p) = p.1 ≡ record { house = s.number; clearing = p.0.clearing; spent = false }
TokenOf s (Err r) = Unit {0}

-- an accepted clearing moves the money of its fills, as on a statement of account
abbrev pub Stated : {C : Type 0} → List Fill → State C → State C → Result (Cleared × ReportToken) Refusal → Type 0
Stated fills s s' (Ok p) = Statement fills s s'
Stated fills s s' (Err r) = Unit {0}

-- what a publish answered, without the token that a refusal hands back
abbrev pub told_publishing : Result ℕ (ReportToken × Refusal) → Result ℕ Refusal
told_publishing (Ok n) = Ok n
told_publishing (Err p) = Err p.1

-- a refusal hands back the very token that it was given
abbrev pub HandedBack : ReportToken → Result ℕ (ReportToken × Refusal) → Type 0
HandedBack token (Ok n) = Unit {0}
HandedBack token (Err p) = p.0 ≡ token
