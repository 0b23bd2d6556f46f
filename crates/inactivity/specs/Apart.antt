-- The numbers tell the errors apart: `Numbered` asks for these proofs. Assumes nothing.
use Rattle.std.specs.Prelude.{◌≡◌, refl, cond, ℕ, eqb}
use Rattle.spach.specs.declared.SpachError.TheVariants as errors
use Rattle.spach.specs.Apart.{apart, error_of}
use Rattle.inactivity.specs.declared.InactivityError.{InactivityError}
use Rattle.inactivity.specs.declared.InactivityError.TheVariants.{ClockBackwards}
use Rattle.inactivity.specs.declared.ProcedureError.{ProcedureError}
use Rattle.inactivity.specs.declared.ProcedureError.TheVariants.{Wire, Clock}
use Rattle.inactivity.specs.Inactivity.{clock_number, refusal_of}

pub clocks_apart : (a b : InactivityError) → clock_number a ≡ clock_number b → a ≡ b
clocks_apart ClockBackwards ClockBackwards e = refl

-- the refusal of a number
abbrev pub refused_by : ℕ → ProcedureError
refused_by n = cond (eqb n (clock_number ClockBackwards)) (Clock ClockBackwards) (Wire (error_of n))

pub refusal_number : (e : ProcedureError) → refused_by (refusal_of e) ≡ e
refusal_number (Clock ClockBackwards) = refl
refusal_number (Wire errors.Length) = refl
refusal_number (Wire errors.Identity) = refl
refusal_number (Wire errors.UnsupportedUsage) = refl
refusal_number (Wire errors.UnsupportedFrame) = refl
refusal_number (Wire errors.Encrypted) = refl
refusal_number (Wire errors.Reserved) = refl
refusal_number (Wire errors.Filler) = refl
refusal_number (Wire errors.PartialEcho) = refl
refusal_number (Wire errors.FrameNumber) = refl
refusal_number (Wire errors.Payload) = refl
refusal_number (Wire errors.DuplicateConflict) = refl
refusal_number (Wire errors.Padding) = refl
refusal_number (Wire errors.Room) = refl
refusal_number (Wire errors.Tokens) = refl

pub refusals_apart : (a b : ProcedureError) → refusal_of a ≡ refusal_of b → a ≡ b
refusals_apart = apart refusal_of refused_by refusal_number
