-- 01, module 6: `can_enqueue`, `identity_for_echo`, `radio_active`, `ready`, `contains`, `pop_event` and `pending`. They never
-- refuse. Believe each: they are the Rust's lines. Assumes nothing.
use Rattle.std.specs.Prelude.{Bool, ◌&&◌, List, [], ◌∷◌, ℕ, leb, ltb, length}
use Rattle.std.specs.Prelude.{Option, None, Some}
use Rattle.rach.specs.declared.MobileIdentity.{MobileIdentity}
use Rattle.spach.specs.Refusal.{After}
use Rattle.transfer.specs.declared.Event.{Event}
use Rattle.transfer.specs.Lists.{any}
use Rattle.transfer.specs.Numbers.{Ending, ending_of}
use Rattle.transfer.specs.State.{View, with_events, says, seek, of_echo}
use Rattle.transfer.specs.Echo.{free}
use Rattle.transfer.specs.Transfer.{is_set}
use Rattle.transfer.specs.Enqueue.{addressed}
use Rattle.transfer.specs.Prepare.{is_ready}

-- at a block and a time that need not be the clock's; it does not look at whom a request would replace
unfoldable pub can_enqueue_of : View → (block now : ℕ) → Bool
can_enqueue_of v block now =
    leb v.limits.startup_until_block block
    && (ltb (length v.transfers) v.limits.capacity
    && (ltb (length v.events) v.limits.capacity
    && any (free now) v.echoes.echo_until_ms))

-- of the first transfer of this echo
unfoldable pub identity_for_echo_of : View → (echo : ℕ) → Option MobileIdentity
identity_for_echo_of v echo = seek (of_echo echo) v.transfers None (λ place x. Some x.parcel.identity)

-- some transfer had progress under its present echo
abbrev pub radio_active_of : View → Bool
radio_active_of v = any (λ x. is_set x.blocks.last_progress) v.transfers

-- some transfer has a frame queued
abbrev pub ready_of : View → Bool
ready_of v = any is_ready v.transfers

-- some transfer is to this identity
abbrev pub contains_of : View → MobileIdentity → Bool
contains_of v i = any (addressed i) v.transfers

-- the event that waits longest
abbrev pub pop_from : View → List Event → After (Option Ending) View
pop_from v [] = says None v
pop_from v (e ∷ l) = says (Some (ending_of e)) (with_events v l)

-- it is taken
unfoldable pub pop_event_of : View → After (Option Ending) View
pop_event_of v = pop_from v v.events

-- how many transfers are live
abbrev pub pending_of : View → ℕ
pending_of v = length v.transfers
