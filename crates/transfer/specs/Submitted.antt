-- 01, module 6: `submitted` (16, 22, 24; an accepted clock stays moved), `submitted_message`, which never refuses, and
-- `transmitted` (16, 18, 22).
-- Believe `matches`, `in_flight_lem` and `handed_in`: what is handed in; and `is_outstanding`: what is found again. Assumes nothing.
use Rattle.std.specs.Prelude.{Bool, false, cond, ◌&&◌, List, ℕ, ◌+◌, ◌*◌, eqb, ltb, get_or, set}
use Rattle.std.specs.Prelude.{Option, None, Some}
use Rattle.spach.specs.Refusal.{gives, refuse, After, onward}
use Rattle.receiver.specs.Map.{with_bit}
use Rattle.transfer.specs.declared.FrameToken.{FrameToken}
use Rattle.transfer.specs.declared.Transfer.{Transfer}
use Rattle.transfer.specs.declared.PreparedFrame.{PreparedFrame}
use Rattle.transfer.specs.Constants.{message_words}
use Rattle.transfer.specs.Lists.{remove_at, push_back}
use Rattle.transfer.specs.Queue.{has, frame_alone, without, front, full}
use Rattle.transfer.specs.State.{View, Lent, Out, with_transfers, with_selected, short, ticked, admitted, says, refusal, goes_on, seek, put_at, of_generation}
use Rattle.transfer.specs.Transfer.{with_sets, with_blocks, went_out, all_transmitted}
use Rattle.transfer.specs.Advance.{walked}
use Rattle.transfer.specs.Prepare.{is_ready}

-- ---- submitted

-- `matches`: generation and submission, and (added) the frame number
abbrev pub matches : FrameToken → FrameToken → Bool
matches a b = eqb a.generation.0 b.generation.0 && (eqb a.submission.0 b.submission.0 && eqb a.frame b.frame)

-- the token of the selected frame
abbrev pub is_selected : FrameToken → Option PreparedFrame → Bool
is_selected t None = false
is_selected t (Some f) = matches f.token t

-- the front of the queue goes in flight, at this block
abbrev pub in_flight_lem : (frame block : ℕ) → Transfer → Transfer
in_flight_lem frame block x =
    with_blocks
    (with_sets x (record {
      queue = without x.sets.queue (frame_alone frame);
      in_flight = with_bit x.sets.in_flight frame;
      transmitted = x.sets.transmitted;
      observed = x.sets.observed;
      received_status = x.sets.received_status;
    }))
    (record { last_progress = Some block; last_frame = Some block; waiting_since = x.blocks.waiting_since })

-- which of the lent words is a frame's
abbrev pub word_of : Transfer → (frame : ℕ) → ℕ
word_of x frame = message_words * x.parcel.n + frame

-- its transfer goes to the back, nothing is selected any more, and the word of its frame holds the submission
abbrev pub handed_in : View → Lent → FrameToken → (place : ℕ) → Transfer → Out Unit
handed_in v m t place x = record {
  outcome = gives tt;
  sender = with_selected (with_transfers v (push_back (remove_at place v.transfers) (in_flight_lem t.frame v.clock.last_block x))) None;
  lent = record { octets = m.octets; words = set m.words (word_of x t.frame) t.submission.0 };
}

-- at the moved clock: not the selected frame 24. (The later ones do not occur: a selected frame's generation is live, and the
-- frame is that queue's front.)
unfoldable pub submitted_at : View → Lent → FrameToken → Out Unit
submitted_at v m t =
    cond (is_selected t v.selected)
    (seek (of_generation t.generation) v.transfers (refusal 24 v m) (λ place x.
    cond (is_ready x && eqb (front x.sets.queue) t.frame) (handed_in v m t place x) (refusal 24 v m)))
    (refusal 24 v m)

-- 16, 22, 24 (it takes no token, so not 18)
unfoldable pub submitted_of : View → Lent → FrameToken → (block now : ℕ) → Out Unit
submitted_of v m t block now = goes_on v m (refuse (short m) 16 (ticked v block now)) (λ w. submitted_at w m t)

-- ---- submitted_message

-- the completion of the transfer of the token's generation, once every frame is transmitted or in flight
unfoldable pub submitted_message_of : View → FrameToken → Option ℕ
submitted_message_of v t =
    seek (of_generation t.generation) v.transfers None (λ place x.
    cond (full x.parcel.frames (went_out x)) (Some x.parcel.completion) None)

-- ---- transmitted

-- the token's frame is in flight, under its submission
abbrev pub is_outstanding : FrameToken → (words : List ℕ) → Transfer → Bool
is_outstanding t words x =
    ltb t.frame x.parcel.frames
    && (has x.sets.in_flight t.frame
    && eqb (get_or words (word_of x t.frame) 0) t.submission.0)

-- it is transmitted, and in flight no more
abbrev pub confirm_frame : (frame : ℕ) → Transfer → Transfer
confirm_frame frame x = with_sets x (record {
  queue = x.sets.queue;
  in_flight = without x.sets.in_flight (frame_alone frame);
  transmitted = with_bit x.sets.transmitted frame;
  observed = x.sets.observed;
  received_status = x.sets.received_status;
})

-- found, and whether the Rust calls `completed`: all frames are transmitted now. Then `advance`. (The Rust settles the transfer
-- before that, which changes nothing: `transmitted-literal`.)
abbrev pub confirms : View → FrameToken → (place : ℕ) → Transfer → After (Option Bool) View
confirms v t place x = let y = confirm_frame t.frame x in says (Some (all_transmitted y)) (walked (put_at v place y))

-- a frame that is not found: nothing but the clock has moved
unfoldable pub transmitted_at : View → (words : List ℕ) → FrameToken → After (Option Bool) View
transmitted_at v words t =
    seek (of_generation t.generation) v.transfers (says None v) (λ place x.
    cond (is_outstanding t words x) (confirms v t place x) (says None v))

-- 16, 18, 22
unfoldable pub transmitted_of : View → Lent → FrameToken → (block now : ℕ) → After (Option Bool) View
transmitted_of v m t block now = onward v (admitted v m block now) (λ w. transmitted_at w m.words t)
