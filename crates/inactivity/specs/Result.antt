-- What the function that both kinds of status result go through asks of its closure. Only contracts need this. Assumes nothing.
use Rattle.std.specs.Prelude.{◌≡◌}
use Rattle.inactivity.specs.declared.InactivityAction.{InactivityAction}
use Rattle.inactivity.specs.Inactivity.{Timer, Sound}

-- a closure whose results are such does what f says
abbrev pub Does : (Timer → Timer × InactivityAction → Type 0) → (Timer → Timer × InactivityAction) → Type 0
Does post f = (t : Timer) (r : Timer × InactivityAction) → post t r → r ≡ f t

-- a closure whose results are such keeps the invariant
abbrev pub Keeps : (Timer → Timer × InactivityAction → Type 0) → Type 0
Keeps post = (t : Timer) (r : Timer × InactivityAction) → post t r → Sound t → Sound r.0
