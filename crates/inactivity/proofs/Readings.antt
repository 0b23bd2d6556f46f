-- What the refusals' numbers are, and the states after a status was sent. What an answer says is spach's `by_number-says` and
-- `left-says`. Assumes nothing.
use Rattle.std.proofs.Common.{◌≡◌, ℕ, refl}
use Rattle.spach.specs.declared.SpachError.{SpachError}
use Rattle.spach.specs.Refusal.{number_of}
use Rattle.inactivity.specs.declared.InactivityError.TheVariants.{ClockBackwards}
use Rattle.inactivity.specs.declared.ProcedureError.TheVariants.{Wire, Clock}
use Rattle.inactivity.specs.declared.State.TheVariants.{Idle, Waiting, SendingUnsolicited, FinalWait}
use Rattle.inactivity.specs.Inactivity.{refusal_of, sent_from}

-- 17, and a Wire error's own number
pub numbers : (refusal_of (Clock ClockBackwards) ≡ 17) × ((e : SpachError) → refusal_of (Wire e) ≡ number_of e)
numbers = (refl, λ e. refl)

-- the state after an unsolicited status was sent, of all four
pub sent_from_says : (since b : ℕ) → (sent_from Idle b ≡ FinalWait b) × (sent_from (Waiting since) b ≡ Waiting b) × (sent_from SendingUnsolicited b ≡ FinalWait b) × (sent_from (FinalWait since) b ≡ FinalWait b)
sent_from_says since b = (refl, refl, refl, refl)
