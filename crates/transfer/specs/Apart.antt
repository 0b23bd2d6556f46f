-- The numbers tell the sender's errors apart: `Numbered` asks for this proof. Assumes nothing.
use Rattle.std.specs.Prelude.{◌≡◌, refl, true, cond, ℕ, eqb, ltb}
use Rattle.std.proofs.Common.{ap}
use Rattle.spach.specs.declared.SpachError.{SpachError}
use Rattle.spach.specs.declared.SpachError.TheVariants as errors
use Rattle.spach.specs.Refusal.{number_of}
use Rattle.spach.specs.Apart.{apart, error_of, error_number}
use Rattle.transfer.specs.declared.Error.{Error}
use Rattle.transfer.specs.declared.Error.TheVariants.{Limits, Capacity, EchoExhausted, Clock, Deadline, Stale, Wire}
use Rattle.transfer.specs.Numbers.{refusal_of}

-- the error of a number
abbrev pub refused_by : ℕ → Error
refused_by n =
    cond (ltb n 19) (Wire (error_of n))
    (cond (eqb n 19) Limits
    (cond (eqb n 20) Capacity
    (cond (eqb n 21) EchoExhausted
    (cond (eqb n 22) Clock
    (cond (eqb n 23) Deadline Stale)))))

-- the numbers of `SpachError` are below the sender's
low : (e : SpachError) → ltb (number_of e) 19 ≡ true
low errors.Length = refl
low errors.Identity = refl
low errors.UnsupportedUsage = refl
low errors.UnsupportedFrame = refl
low errors.Encrypted = refl
low errors.Reserved = refl
low errors.Filler = refl
low errors.PartialEcho = refl
low errors.FrameNumber = refl
low errors.Payload = refl
low errors.DuplicateConflict = refl
low errors.Padding = refl
low errors.Room = refl
low errors.Tokens = refl

pub refusal_number : (e : Error) → refused_by (refusal_of e) ≡ e
refusal_number Limits = refl
refusal_number Capacity = refl
refusal_number EchoExhausted = refl
refusal_number Clock = refl
refusal_number Deadline = refl
refusal_number Stale = refl
refusal_number (Wire e) = rw (low e) (ap Wire (error_number e))

pub refusals_apart : (a b : Error) → refusal_of a ≡ refusal_of b → a ≡ b
refusals_apart = apart refusal_of refused_by refusal_number
