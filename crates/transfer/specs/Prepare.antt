-- 01, module 6: `prepare`, `interrupt` and `prepare_prioritized`, which refuse 16, 18, 22, and `has_echo`, which never does. They
-- write nothing to the lent store. Believe `packed_of`, what a frame is, `choose_from`, which one it is, `asked_for`, whose restart
-- `interrupt` asks for, and `prioritized`. Assumes nothing.
use Rattle.std.specs.Prelude.{Bool, true, false, cond, not, ◌&&◌, List, [], ◌∷◌, ℕ, eqb}
use Rattle.std.specs.Prelude.{Option, None, Some}
use Rattle.spach.specs.Refusal.{Outcome, gives, refuses, and_then, After, onward}
use Rattle.arq.specs.declared.PackedFrame.{PackedFrame}
use Rattle.arq.specs.Encode.{encode_of}
use Rattle.arq.specs.Cut.{frame_of}
use Rattle.transfer.specs.declared.Transfer.{Transfer}
use Rattle.transfer.specs.declared.PreparedFrame.{PreparedFrame}
use Rattle.transfer.specs.Lists.{any, remove_at}
use Rattle.transfer.specs.Queue.{is_empty, front, one_left}
use Rattle.transfer.specs.State.{View, Lent, with_transfers, with_selected, token_taken, admitted, says, seek, of_echo}
use Rattle.transfer.specs.Transfer.{is_set, header_of, message_of, idle, last_queued}
use Rattle.transfer.specs.Advance.{unasked, walk, walked}

-- ---- prepare

-- a frame is queued
abbrev pub is_ready : Transfer → Bool
is_ready x = not (is_empty x.sets.queue)

-- frame k of the cut of the transfer's message, under its present echo, polled if asked for, encoded
unfoldable pub packed_of : Transfer → (octets : List ℕ) → (k : ℕ) → (polling : Bool) → Outcome PackedFrame
packed_of x octets k polling = and_then (frame_of (header_of x.parcel.channel x.echo polling) x.parcel.identity (message_of x octets) k) encode_of

-- its queue's front, with polling set when one is left
abbrev pub front_of : Transfer → (octets : List ℕ) → Outcome PackedFrame
front_of x octets = packed_of x octets (front x.sets.queue) (one_left x.sets.queue)

-- the frame under its token: the transfer's generation, the frame's number, and a submission
abbrev pub prepared_of : Transfer → PackedFrame → (submission : ℕ) → PreparedFrame
prepared_of x p submission = record {
  identity = x.parcel.identity;
  octets = p.octets;
  token = record { generation = x.generation; submission = record { 0 = submission }; frame = front x.sets.queue };
  partial_echo = x.echo;
}

-- it is selected, with the next token number as its submission. (No refusal occurs: `enqueue` had the message cut.)
abbrev pub selects : View → Transfer → Outcome PackedFrame → After (Option PreparedFrame) View
selects v x (gives p) = let f = prepared_of x p v.next_token in says (Some f) (with_selected (token_taken v) (Some f))
selects v x (refuses n) = record { outcome = refuses n; state = v }

-- the selected frame as it is; else the front of the first transfer that has one queued
abbrev pub choose_from : View → (octets : List ℕ) → (selected : Option PreparedFrame) → After (Option PreparedFrame) View
choose_from v octets (Some f) = says (Some f) v
choose_from v octets None = seek is_ready v.transfers (says None v) (λ place x. selects v x (front_of x octets))

-- what `prepare` does after its `advance`
unfoldable pub choose : View → (octets : List ℕ) → After (Option PreparedFrame) View
choose v octets = choose_from v octets v.selected

-- 16, 18, 22
unfoldable pub prepare_of : View → Lent → (block now : ℕ) → After (Option PreparedFrame) View
prepare_of v m block now = onward v (admitted v m block now) (λ w. choose (walked w) m.octets)

-- ---- has_echo, interrupt

-- some transfer has this echo
abbrev pub has_echo_of : View → (echo : ℕ) → Bool
has_echo_of v echo = any (of_echo echo) v.transfers

-- the restart of the first transfer of this echo is asked for
abbrev pub asked_for : (echo : ℕ) → List Transfer → List (Bool × Transfer)
asked_for echo [] = []
asked_for echo (x ∷ l) = cond (of_echo echo x) ((true, x) ∷ unasked l) ((false, x) ∷ asked_for echo l)

-- an unknown echo: false, and nothing but the clock has moved; else `advance`
abbrev pub interrupted : View → (echo : ℕ) → After Bool View
interrupted v echo = cond (has_echo_of v echo) (says true (walk v (asked_for echo v.transfers))) (says false v)

-- 16, 18, 22
unfoldable pub interrupt_of : View → Lent → (echo block now : ℕ) → After Bool View
interrupt_of v m echo block now = onward v (admitted v m block now) (λ w. interrupted w echo)

-- ---- prepare_prioritized

-- the last frame is queued again if none is queued or in flight, and one was submitted
abbrev pub repeated : Transfer → Transfer
repeated x = cond (idle x && is_set x.blocks.last_frame) (last_queued x) x

-- a selected frame of another echo is dropped
abbrev pub only_echo : (echo : ℕ) → Option PreparedFrame → Option PreparedFrame
only_echo echo None = None
only_echo echo (Some f) = cond (eqb f.partial_echo echo) (Some f) None

-- the transfer goes to the front; if it has nothing queued then, there is no frame. (The Rust advances once more before it
-- prepares, at the same clock, which changes nothing: `prepare-prioritized-literal`.)
abbrev pub prioritized : View → (octets : List ℕ) → (echo place : ℕ) → Transfer → After (Option PreparedFrame) View
prioritized v octets echo place x =
    let w = with_selected (with_transfers v (repeated x ∷ remove_at place v.transfers)) (only_echo echo v.selected) in
    cond (is_ready (repeated x)) (choose w octets) (says None w)

-- an echo that no transfer has: no frame, and the selection stays
unfoldable pub prioritize_at : View → (octets : List ℕ) → (echo : ℕ) → After (Option PreparedFrame) View
prioritize_at v octets echo = seek (of_echo echo) v.transfers (says None v) (prioritized v octets echo)

-- 16, 18, 22
unfoldable pub prepare_prioritized_of : View → Lent → (echo block now : ℕ) → After (Option PreparedFrame) View
prepare_prioritized_of v m echo block now = onward v (admitted v m block now) (λ w. prioritize_at (walked w) m.octets echo)
