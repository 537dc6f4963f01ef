-- A house is always in a sound state, and what is sound can be sealed in a house. Assumes nothing.
use Rattle.std.proofs.Common.{◌≡◌, sym, subst}
use Rattle.books.specs.Sound.{Sound}
use Rattle.books.specs.State.{State}
use Rattle.house.specs.declared.state.House.{House}
use Rattle.house.specs.View.{view}

pub house-sound : {C : Type 0} (h : House C) → Sound (view h)
house-sound h = h.sound

-- a state that is equal to a sound one is sound
pub sealed : {C : Type 0} (s s' : State C) → s ≡ s' → Sound s' → Sound s
sealed {C} s s' same ok = subst (λ (t : State C). Sound t) (sym same) ok
