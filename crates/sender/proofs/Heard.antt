-- A status, and a frame confirmed: that what the code returns, early or last, is what the definition says. Assumes nothing.
use Rattle.std.proofs.Common.{◌≡◌, ℕ, ◌+◌, ◌*◌, ◌<◌, ◌≤◌, Bool, true, false, cond, List, length, get_or, Some, None, Option, arith}
use Rattle.std.specs.List as list
use Rattle.spach.specs.Refusal.{After}
use Rattle.receiver.specs.declared.ArqStatus.{ArqStatus}
use Rattle.transfer.specs.declared.FrameToken.{FrameToken}
use Rattle.transfer.specs.declared.Transfer.{Transfer}
use Rattle.transfer.specs.Queue.{has}
use Rattle.transfer.specs.State.{View, says, put_at, of_echo, of_generation, blank_transfer}
use Rattle.transfer.specs.Transfer.{went_out}
use Rattle.transfer.specs.Advance.{walked}
use Rattle.transfer.specs.Status.{observes, status_at}
use Rattle.transfer.specs.Submitted.{is_outstanding, confirms, transmitted_at}
use Rattle.transfer.specs.Invariant.{Sound}
use Rattle.transfer.proofs.Moves.{outstanding_frame}
use Rattle.transfer.proofs.Placed.{seek_there, seek_none}
use Rattle.sender.proofs.Found.{frames_there, place_low}

abbrev hears : View → ArqStatus → ℕ → Transfer → After Bool View
hears v s place x = cond (has (went_out x) 0) (says true (walked (put_at v place (observes s.received_frames v.clock.last_block x)))) (says false v)

abbrev finds : View → List ℕ → FrameToken → ℕ → Transfer → After (Option Bool) View
finds v words t place x = cond (is_outstanding t words x) (confirms v t place x) (says None v)

module _ (v : View) {i : ℕ} {x : Transfer} (is : x ≡ get_or v.transfers i blank_transfer) where
  -- ---- a status

  module _ (s : ArqStatus) where
    -- of the transfer's echo
    module _ (e : Some i ≡ list.position (of_echo s.partial_echo) v.transfers) where
      heard : (b : Bool) → has (went_out x) 0 ≡ b → cond b (says true (walked (put_at v i (observes s.received_frames v.clock.last_block x)))) (says false v) ≡ status_at v s
      unfolding status_at
      heard b f = rw (← f) (seek_there (of_echo s.partial_echo) v.transfers (says false v) (hears v s) e is)

      -- its Begin did not go out
      pub heard_early : has (went_out x) 0 ≡ false → says false v ≡ status_at v s
      heard_early f = heard false f

      -- it did
      pub heard_shown : has (went_out x) 0 ≡ true → says true (walked (put_at v i (observes s.received_frames v.clock.last_block x))) ≡ status_at v s
      heard_shown f = heard true f

  -- ---- a frame confirmed

  module _ (words : List ℕ) (t : FrameToken) where
    -- a live transfer has at most 27 frames, and their words are lent
    pub words_room : i < length v.transfers → Sound v → 3456 ≤ length words → (x.parcel.frames ≤ 27) × (27 * x.parcel.n + 27 ≤ length words)
    words_room lt h long = let low = place_low v is lt h in ((frames_there v is lt h).1, omega arith)

    -- a frame of it in flight is below 27
    pub outstanding_low : i < length v.transfers → Sound v → is_outstanding t words x ≡ true → t.frame < 27
    outstanding_low lt h f =
        let low = outstanding_frame t words x f in
        let most = (frames_there v is lt h).1 in
        omega arith

    -- of the transfer's generation
    module _ (e : Some i ≡ list.position (of_generation t.generation) v.transfers) where
      confirmed : (b : Bool) → is_outstanding t words x ≡ b → cond b (confirms v t i x) (says None v) ≡ transmitted_at v words t
      unfolding transmitted_at
      confirmed b f = rw (← f) (seek_there (of_generation t.generation) v.transfers (says None v) (finds v words t) e is)

      -- it is not in flight
      pub confirmed_lost : is_outstanding t words x ≡ false → says None v ≡ transmitted_at v words t
      confirmed_lost f = confirmed false f

      -- it is
      pub confirmed_found : is_outstanding t words x ≡ true → confirms v t i x ≡ transmitted_at v words t
      confirmed_found f = confirmed true f

-- no transfer has the echo
pub heard_nowhere : (v : View) (s : ArqStatus) → None ≡ list.position (of_echo s.partial_echo) v.transfers → says false v ≡ status_at v s
unfolding status_at
heard_nowhere v s e = seek_none (of_echo s.partial_echo) v.transfers (says false v) (hears v s) e

-- none has the generation
pub confirmed_nowhere : (v : View) (words : List ℕ) (t : FrameToken) → None ≡ list.position (of_generation t.generation) v.transfers → says None v ≡ transmitted_at v words t
unfolding transmitted_at
confirmed_nowhere v words t e = seek_none (of_generation t.generation) v.transfers (says None v) (finds v words t) e
