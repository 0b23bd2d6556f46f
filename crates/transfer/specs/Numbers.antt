-- 01's numbers for the sender's refusals, and for the error of a Failed event; and what the answer of `pop_event` says. Believe each
-- line. Assumes nothing.
use Rattle.std.specs.Prelude.{ℕ}
use Rattle.std.specs.Prelude.{Option, None, Some}
use Rattle.spach.specs.Refusal.{number_of}
use Rattle.transfer.specs.declared.Error.{Error}
use Rattle.transfer.specs.declared.Error.TheVariants.{Limits, Capacity, EchoExhausted, Clock, Deadline, Stale, Wire}
use Rattle.transfer.specs.declared.Event.{Event}
use Rattle.transfer.specs.declared.Event.TheVariants as events

-- the sender's numbers; a Wire error keeps its own
abbrev pub refusal_of : Error → ℕ
refusal_of Limits = 19
refusal_of Capacity = 20
refusal_of EchoExhausted = 21
refusal_of Clock = 22
refusal_of Deadline = 23
refusal_of Stale = 24
refusal_of (Wire e) = number_of e

-- how a transfer ended, with its completion: Complete, Expired, Cancelled, or Failed by a number
pub data Ending : Type 0 where
  complete : (completion : ℕ) → Ending
  expired : (completion : ℕ) → Ending
  cancelled : (completion : ℕ) → Ending
  failed : (completion number : ℕ) → Ending

-- an event, so read
abbrev pub ending_of : Event → Ending
ending_of (events.Complete c) = complete c
ending_of (events.Expired c) = expired c
ending_of (events.Cancelled c) = cancelled c
ending_of (events.Failed c e) = failed c (refusal_of e)

-- the answer of `pop_event`: an event, if there is one
abbrev pub next_of : Option Event → Option Ending
next_of None = None
next_of (Some e) = Some (ending_of e)
