-- Whose restart the code asks for, by its place. Nothing here is to be believed: the calls' definitions do not use it. Assumes nothing.
use Rattle.std.specs.Prelude.{Bool, true, false, List, [], ◌∷◌, ℕ, zero, suc, Option, None, Some}
use Rattle.transfer.specs.declared.Transfer.{Transfer}
use Rattle.transfer.specs.Advance.{unasked}

-- that of the transfer at a place
abbrev pub asked_there : (place : ℕ) → List Transfer → List (Bool × Transfer)
asked_there place [] = []
asked_there zero (x ∷ l) = (true, x) ∷ unasked l
asked_there (suc place) (x ∷ l) = (false, x) ∷ asked_there place l

-- if there is one
abbrev pub asked_at : Option ℕ → List Transfer → List (Bool × Transfer)
asked_at None l = unasked l
asked_at (Some place) l = asked_there place l
