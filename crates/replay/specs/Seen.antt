-- What a keeper of a house shows, with the tokens and the page that are lent. Assumes nothing.
use Rattle.std.specs.Prelude.{ℕ, List, Option}
use Rattle.books.specs.State.{State}
use Rattle.house.specs.declared.token.ReportToken.{ReportToken}
use Rattle.house.specs.View.{view}
use Rattle.replay.specs.declared.keeper.Keeper.{Keeper}
use Rattle.replay.specs.Desk.{Desk, desk}

abbrev pub state_of : {C : Type 0} → Keeper C → State C
state_of k = view k.house

abbrev pub seen : {C : Type 0} → Keeper C → List (Option ReportToken) → List ℕ → Desk C
seen k others page = desk (view k.house) k.own others page
