-- 01, module 6: `status`: 16, 18, 22. The map is 26 bits of a 32-bit number; the six above are not read.
-- Believe `observes` and when `status_at` says no. Assumes nothing.
use Rattle.std.specs.Prelude.{None, Some}
use Rattle.std.specs.Prelude.{Bool, true, false, cond, ℕ, ◌*◌, ◌%◌, ◌^◌}
use Rattle.std.specs.Int.Bits.{bit_and, bit_or}
use Rattle.spach.specs.Refusal.{After, onward}
use Rattle.receiver.specs.declared.ArqStatus.{ArqStatus}
use Rattle.transfer.specs.declared.Transfer.{Transfer}
use Rattle.transfer.specs.Queue.{has}
use Rattle.transfer.specs.State.{View, Lent, admitted, says, seek, put_at, of_echo}
use Rattle.transfer.specs.Transfer.{with_sets, with_blocks, went_out}
use Rattle.transfer.specs.Advance.{walked}

-- the frames that a map shows: its bit k is Continue k's, which is frame k + 1
abbrev pub shown : (map : ℕ) → ℕ
shown map = 2 * (map % 2 ^ 26)

-- what the map shows is observed, if it went out; it waits no more, and this is progress
abbrev pub observes : (map block : ℕ) → Transfer → Transfer
observes map block x =
    with_blocks
    (with_sets x (record {
      queue = x.sets.queue;
      in_flight = x.sets.in_flight;
      transmitted = x.sets.transmitted;
      observed = bit_or x.sets.observed (bit_and (shown map) (went_out x));
      received_status = true;
    }))
    (record { last_progress = Some block; last_frame = x.blocks.last_frame; waiting_since = None })

-- after `advance`: false for an echo that no transfer has, and for one whose Begin did not go out; else `advance` once
-- more. (The Rust settles the transfer before that, which changes nothing: `status-literal`.)
unfoldable pub status_at : View → ArqStatus → After Bool View
status_at v s =
    seek (of_echo s.partial_echo) v.transfers (says false v) (λ place x.
    cond (has (went_out x) 0) (says true (walked (put_at v place (observes s.received_frames v.clock.last_block x)))) (says false v))

-- 16, 18, 22
unfoldable pub status_of : View → Lent → ArqStatus → (block now : ℕ) → After Bool View
status_of v m s block now = onward v (admitted v m block now) (λ w. status_at (walked w) s)
