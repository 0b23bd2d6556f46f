-- A frame handed in: what the code asks on its way, and that what it returns, early or last, is what the definition says. Assumes nothing.
use Rattle.std.proofs.Common.{◌≡◌, ℕ, zero, suc, ◌+◌, ◌*◌, ◌<◌, Bool, true, false, cond, ◌&&◌, eqb, List, length, get_or, set, Some, None, Ok, refl, arith, eqb-true}
use borrow.Author.Tests.{eqb-false, not-true}
use Rattle.std.specs.List as list
use Rattle.rach.proofs.Laws.{both}
use Rattle.transfer.specs.declared.FrameToken.{FrameToken}
use Rattle.transfer.specs.declared.Transfer.{Transfer}
use Rattle.transfer.specs.Queue.{is_empty, front}
use Rattle.transfer.specs.declared.Limits.{Limits}
use Rattle.transfer.specs.declared.Clock.{Clock}
use Rattle.transfer.specs.Lists.{remove_at, push_back}
use Rattle.transfer.specs.State.{Echoes, View, Lent, Out, refusal, of_generation, with_selected, with_transfers, blank_transfer}
use Rattle.transfer.specs.Prepare.{is_ready}
use Rattle.transfer.specs.Submitted.{is_selected, in_flight_lem, handed_in, submitted_at}
use Rattle.transfer.specs.Invariant.{Live, Sound}
use Rattle.transfer.proofs.Alive.{frames_live}
use Rattle.transfer.proofs.Frames.{front_low}
use Rattle.transfer.proofs.Placed.{seek_there, seek_none}
use Rattle.sender.specs.View.{lent, wrote}
use Rattle.sender.proofs.Found.{live_there, place_low}

-- a frame that is the front of a live transfer's queue is below 27
pub front_frame : {l : Limits} {c : Clock} {e : Echoes} {next : ℕ} (x : Transfer) → Live l c e next x → (frame : ℕ) → (is_ready x && eqb (front x.sets.queue) frame) ≡ true → frame < 27
front_frame x a frame f =
    let q = x.sets.queue in
    let p = both (is_ready x) (eqb (front q) frame) f in
    let n : q ≡ 0 → ⊥ = eqb-false q 0 (not-true (is_empty q) p.0) in
    let low = front_low x.parcel.frames q (pos q n) a.sets.queue in
    let same = eqb-true (front q) frame p.1 in
    let most = (frames_live x a).1 in
    omega arith
  where
    pos : (n : ℕ) → (n ≡ 0 → ⊥) → 0 < n
    pos zero k = absurd (k refl)
    pos (suc n) k = omega arith

-- its word is among the 3456
pub word_low : (v : View) {i n : ℕ} {x : Transfer} → x ≡ get_or v.transfers i blank_transfer → i < length v.transfers → Sound v
    → (frame : ℕ) → (is_ready x && eqb (front x.sets.queue) frame) ≡ true → n ≡ x.parcel.n → 27 * n + frame < 3456
word_low v {x = x} is lt h frame f q =
    let low = place_low v is lt h in
    let small = front_frame x (live_there v is lt h) frame f in
    omega arith

-- what the code leaves
pub handed : (v : View) (octets words : List ℕ) (t : FrameToken) (place : ℕ) (x : Transfer) {l : List Transfer} {n : ℕ} → l ≡ push_back (remove_at place v.transfers) (in_flight_lem t.frame v.clock.last_block x) → n ≡ x.parcel.n
    → wrote (with_selected (with_transfers v l) None, Ok tt) (lent octets (set words (27 * n + t.frame) t.submission.0)) ≡ handed_in v (lent octets words) t place x
handed v octets words t place x e q = rw (e, q) refl

module _ (v : View) (m : Lent) (t : FrameToken) (s : is_selected t v.selected ≡ true) where
  -- what is done with the transfer that was found
  abbrev handled : ℕ → Transfer → Out Unit
  handled place x = cond (is_ready x && eqb (front x.sets.queue) t.frame) (handed_in v m t place x) (refusal 24 v m)

  -- its transfer is not live
  pub submit_unfound : None ≡ list.position (of_generation t.generation) v.transfers → refusal 24 v m ≡ submitted_at v m t
  unfolding submitted_at
  submit_unfound e = rw s (seek_none (of_generation t.generation) v.transfers (refusal 24 v m) handled e)

  -- its transfer as the code read it, and whether the frame is the front of that queue
  module _ {i : ℕ} {x : Transfer} (e : Some i ≡ list.position (of_generation t.generation) v.transfers) (is : x ≡ get_or v.transfers i blank_transfer) where
    submit_found : (b : Bool) → (is_ready x && eqb (front x.sets.queue) t.frame) ≡ b → cond b (handed_in v m t i x) (refusal 24 v m) ≡ submitted_at v m t
    unfolding submitted_at
    submit_found b f = rw (s, ← f) (seek_there (of_generation t.generation) v.transfers (refusal 24 v m) handled e is)

    pub submit_behind : (is_ready x && eqb (front x.sets.queue) t.frame) ≡ false → refusal 24 v m ≡ submitted_at v m t
    submit_behind f = submit_found false f

    pub submit_front : (is_ready x && eqb (front x.sets.queue) t.frame) ≡ true → handed_in v m t i x ≡ submitted_at v m t
    submit_front f = submit_found true f
