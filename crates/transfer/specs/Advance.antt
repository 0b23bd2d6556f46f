-- 01, module 6: `advance`. Each live transfer in turn ends with an event, restarts, or stays; those that go on keep their order.
-- Believe `fate_of`, which looks at the transfer, the clock and whether a restart is asked for, and `restart`. Assumes nothing.
use Rattle.std.specs.Prelude.{Bool, false, cond, ◌||◌, ℕ, leb}
use mathlib.Core.List.{List, [], map, foldl}
use Rattle.std.specs.Prelude.{Option, None, Some}
use Rattle.spach.specs.Refusal.{After, onward}
use Rattle.transfer.specs.declared.Error.TheVariants.{EchoExhausted}
use Rattle.transfer.specs.declared.Transfer.{Transfer}
use Rattle.transfer.specs.declared.Fate.{Fate}
use Rattle.transfer.specs.declared.Fate.TheVariants.{Ends, Restarts, Stays}
use Rattle.transfer.specs.Lists.{push_back}
use Rattle.transfer.specs.State.{View, Lent, Clock, with_transfers, with_echoes, token_taken, admitted, says, clear_selected, completes, expires, fails, event_of, ended}
use Rattle.transfer.specs.Echo.{free_echo, held_until, hold}
use Rattle.transfer.specs.Transfer.{done_of, settle_of, restart_due, begun}

-- `now_ms` at the deadline or later
abbrev pub overdue : Clock → Transfer → Bool
overdue c x = leb x.parcel.deadline_ms c.last_ms

-- a transfer that is settled restarts if that was asked for or is due
abbrev pub settled : Clock → (asked : Bool) → Transfer → Fate
settled c asked x = cond (asked || restart_due c.last_block x) Restarts (Stays x)

-- what becomes of a transfer at the clock: Expired even if done; Complete; else it settles
unfoldable pub fate_of : Clock → (asked : Bool) → Transfer → Fate
fate_of c asked x =
    cond (overdue c x) (Ends (event_of x expires))
    (cond (done_of x) (Ends (event_of x completes))
    (settled c asked (settle_of c.last_block x)))

-- a transfer goes on, behind those before it
abbrev pub kept : View → Transfer → View
kept v x = with_transfers v (push_back v.transfers x)

-- a restart takes a free echo, held until deadline plus guard, and the next token as generation; with none free it is Failed.
-- (The Rust tests the first block and the sum once more. A live transfer has passed both at `enqueue`.)
abbrev pub restart : View → Transfer → (free : Option ℕ) → View
restart v x None = ended v x (event_of x (fails EchoExhausted))
restart v x (Some echo) =
    kept
    (token_taken (with_echoes (clear_selected v x.generation) (hold v.echoes echo (held_until v.limits x.parcel.deadline_ms))))
    (begun x.parcel echo v.next_token)

-- what a transfer's fate makes of the sender
abbrev pub landed : View → Transfer → Fate → View
landed v x (Ends e) = ended v x e
landed v x Restarts = restart v x (free_echo v.echoes v.clock.last_ms)
landed v x (Stays y) = kept v y

-- a transfer and whether its restart is asked for, after those before it in the list
unfoldable pub step : View → Bool × Transfer → View
step v p = landed v p.1 (fate_of v.clock p.0 p.1)

-- the walk: one step for each
unfoldable pub walk : View → List (Bool × Transfer) → View
walk v l = foldl step (with_transfers v []) l

-- no restart is asked for
abbrev pub unasked : List Transfer → List (Bool × Transfer)
unasked l = map (λ x. (false, x)) l

-- `advance` at the clock's block and time
unfoldable pub walked : View → View
walked v = walk v (unasked v.transfers)

-- 16, 18, 22
unfoldable pub advance_of : View → Lent → (block now : ℕ) → After Unit View
advance_of v m block now = onward v (admitted v m block now) (λ w. says tt (walked w))
