-- A live transfer stays live through each change that a call makes to it, and a chosen frame stays chosen. Assumes nothing.
use Rattle.std.proofs.Common.{◌≡◌, ℕ, zero, suc, ◌-◌, ◌^◌, ◌<◌, ◌≤◌, min, Bool, true, false, cond, not, ◌&&◌, ◌||◌, length, bit_and, bit_or, Some, None, Option, sym, refl, ap, ◌∙◌, subst, true≢false, arith, get_or-set_same, pow_pos, pow_mono, eq-eqb, eqb-true}
use lib.Bits.{and_zero_r, and_le_r, or_lt}
use lib.Pow.{pow-lt}
use borrow.Author.Tests.{eqb-false, not-true}
use Rattle.rach.proofs.Laws.{both}
use Rattle.arq.proofs.Theorems.{cut_most}
use Rattle.receiver.specs.Map.{bit_of, with_bit}
use Rattle.receiver.proofs.Maps.{added_lt, bit-or}
use Rattle.transfer.specs.declared.Sets.{Sets}
use Rattle.transfer.specs.declared.Blocks.{Blocks}
use Rattle.transfer.specs.declared.Transfer.{Transfer}
use Rattle.transfer.specs.declared.PreparedFrame.{PreparedFrame}
use Rattle.transfer.specs.Queue.{is_empty, has, first_frames, continues_of, frame_alone, without, front}
use Rattle.transfer.specs.State.{Limits, Clock, Echoes}
use Rattle.transfer.specs.Echo.{held_until, hold}
use Rattle.transfer.specs.Transfer.{with_sets, with_blocks, passed, is_set, or_from, idle, last_queued, went_out, done_of, requeued, waits, settle_of, begun}
use Rattle.transfer.specs.Prepare.{is_ready, repeated}
use Rattle.transfer.specs.Submitted.{in_flight_lem, confirm_frame}
use Rattle.transfer.specs.Status.{shown, observes}
use Rattle.transfer.specs.Refresh.{refreshed}
use Rattle.transfer.specs.Invariant.{ByBlock, NotAfter, Accepted, SetsAgree, Timed, Live, Chosen}
use Rattle.transfer.proofs.Frames.{front_low}
use Rattle.transfer.proofs.Bitsets.{bit_low, bit_first, bit-and, bit-without, bit_added, same_bits, no_bits, bit_none, without_low, has-bit, lacks_bit, bit-has, bit_lacks}

-- ---- frames

-- what was accepted has 1 to 27 frames
pub accepted_frames : (x : Transfer) → Accepted x → (1 ≤ x.parcel.frames) × (x.parcel.frames ≤ 27)
accepted_frames x a =
    let e = a.frames in
    let m = cut_most x.parcel.identity x.parcel.octets a.most_octets in
    (rw e (omega arith), rw e m)

-- a live transfer has 1 to 27 frames
pub frames_live : {l : Limits} {c : Clock} {e : Echoes} {next : ℕ} (x : Transfer) → Live l c e next x → (1 ≤ x.parcel.frames) × (x.parcel.frames ≤ 27)
frames_live x h = accepted_frames x h.accepted

-- ---- an idle transfer

-- an idle transfer has no frame queued and none in flight
pub idle_empty : (x : Transfer) → idle x ≡ true → (x.sets.queue ≡ 0) × (x.sets.in_flight ≡ 0)
idle_empty x h =
    let p = both (is_empty x.sets.queue) (is_empty x.sets.in_flight) h in
    (eqb-true x.sets.queue 0 p.0, eqb-true x.sets.in_flight 0 p.1)

-- one that is ready has a frame queued
pub ready_some : (x : Transfer) → is_ready x ≡ true → 0 < x.sets.queue
ready_some x h = positive x.sets.queue (eqb-false x.sets.queue 0 (not-true (is_empty x.sets.queue) h))
  where
    positive : (n : ℕ) → (n ≡ 0 → ⊥) → 0 < n
    positive zero f = absurd (f refl)
    positive (suc n) f = omega arith

-- one that has a frame queued is not idle
pub ready_busy : (x : Transfer) → is_ready x ≡ true → idle x ≡ false
ready_busy x h = let e : is_empty x.sets.queue ≡ false = not-true (is_empty x.sets.queue) h in rw e

-- ---- blocks

-- it waits from this block on, or did before
waits_by : (block : ℕ) (s : Option ℕ) → ByBlock block s → ByBlock block (or_from block s)
waits_by block None h = omega arith
waits_by block (Some b) h = h

-- the last frame was not after the last progress, so not after this block
last_by : (block : ℕ) (s t : Option ℕ) → NotAfter s t → ByBlock block t → NotAfter s (Some block)
last_by block None t h k = tt
last_by block (Some a) None h k = absurd h
last_by block (Some a) (Some b) h k = omega arith

-- ---- sets

-- frame f goes from a set to one that had no frame in common with it: they still have none
moved_disjoint : (q f k : ℕ) → bit_and q f ≡ 0 → bit_and (without q (frame_alone k)) (with_bit f k) ≡ 0
moved_disjoint q f k h = no_bits _ (λ j.
    let z : min (bit_of q j) (bit_of f j) ≡ 0 = sym (bit-and q f j) ∙ (ap (λ (a : ℕ). bit_of a j) h ∙ bit_none j) in
    let b = bit_low q j in
    let d = bit_low f j in
    let g = bit_low (frame_alone k) j in
    omega (arith, bit-and (without q (frame_alone k)) (with_bit f k) j, bit-without q (frame_alone k) j, bit_added f k j))

-- fewer frames have none in common either
fewer_disjoint : (q f g : ℕ) → bit_and q f ≡ 0 → bit_and q (without f g) ≡ 0
fewer_disjoint q f g h = no_bits _ (λ j.
    let z : min (bit_of q j) (bit_of f j) ≡ 0 = sym (bit-and q f j) ∙ (ap (λ (a : ℕ). bit_of a j) h ∙ bit_none j) in
    omega (arith, bit-and q (without f g) j, bit-without f g j))

-- what is among two sets is so when a frame is added to the second
added_among : (o t f k : ℕ) → bit_and o (bit_or t f) ≡ o → bit_and o (bit_or t (with_bit f k)) ≡ o
added_among o t f k h = same_bits _ _ (λ j.
    let z : min (bit_of o j) (bit_of (bit_or t f) j) ≡ bit_of o j = sym (bit-and o (bit_or t f) j) ∙ ap (λ (a : ℕ). bit_of a j) h in
    omega (arith, bit-and o (bit_or t (with_bit f k)) j, bit-or t f j, bit-or t (with_bit f k) j, bit_added f k j))

-- and when a frame goes from the second to the first
moved_among : (o t f k : ℕ) → bit_and o (bit_or t f) ≡ o → bit_and o (bit_or (with_bit t k) (without f (frame_alone k))) ≡ o
moved_among o t f k h = same_bits _ _ (λ j.
    let z : min (bit_of o j) (bit_of (bit_or t f) j) ≡ bit_of o j = sym (bit-and o (bit_or t f) j) ∙ ap (λ (a : ℕ). bit_of a j) h in
    let b = bit_low o j in
    let g = bit_low (frame_alone k) j in
    omega (arith, bit-and o (bit_or (with_bit t k) (without f (frame_alone k))) j, bit-or t f j, bit-or (with_bit t k) (without f (frame_alone k)) j, bit_added t k j, bit-without f (frame_alone k) j))

-- what went out did so when a frame is added to those in flight
added_has : (t f k j : ℕ) → has (bit_or t f) j ≡ true → has (bit_or t (with_bit f k)) j ≡ true
added_has t f k j h = bit-has (bit_or t (with_bit f k)) j (omega (arith, has-bit (bit_or t f) j h, bit-or t f j, bit-or t (with_bit f k) j, bit_added f k j, bit_low t j, bit_low f j, bit_low (frame_alone k) j))

-- and when a frame in flight is transmitted
moved-has : (t f k j : ℕ) → has (bit_or t f) j ≡ true → has (bit_or (with_bit t k) (without f (frame_alone k))) j ≡ true
moved-has t f k j h = bit-has (bit_or (with_bit t k) (without f (frame_alone k))) j (omega (arith, has-bit (bit_or t f) j h, bit-or t f j, bit-or (with_bit t k) (without f (frame_alone k)) j, bit_added t k j, bit-without f (frame_alone k) j, bit_low t j, bit_low f j, bit_low (frame_alone k) j))

-- what is among a set is so with more of that set
more_among : (o s w : ℕ) → bit_and o w ≡ o → bit_and (bit_or o (bit_and s w)) w ≡ bit_or o (bit_and s w)
more_among o s w h = same_bits _ _ (λ j.
    let z : min (bit_of o j) (bit_of w j) ≡ bit_of o j = sym (bit-and o w j) ∙ ap (λ (a : ℕ). bit_of a j) h in
    omega (arith, bit-and (bit_or o (bit_and s w)) w j, bit-or o (bit_and s w) j, bit-and s w j))

-- a status shows no Begin
more_no_begin : (o m w : ℕ) → has o 0 ≡ false → has (bit_or o (bit_and (shown m) w)) 0 ≡ false
more_no_begin o m w h = bit_lacks (bit_or o (bit_and (shown m) w)) 0 (omega (arith, lacks_bit o 0 h, bit-or o (bit_and (shown m) w) 0, bit-and (shown m) w 0, bit_first (shown m)))

-- some frame is first
first_some : (n : ℕ) → 1 ≤ n → is_empty (first_frames n) ≡ true → ⊥
first_some n h e = omega (arith, eqb-true (first_frames n) 0 e, pow_mono {i = 1} {j = n} h)

-- ---- the changes

-- other sets and blocks, with the parcel, the generation and the echo as they were
abbrev pub altered : Transfer → Sets → Blocks → Transfer
altered x s b = with_blocks (with_sets x s) b

module _ {l : Limits} {c : Clock} {e : Echoes} {next : ℕ} (x : Transfer) (h : Live l c e next x) where
  -- the rest of what is live does not read the sets and the blocks
  pub altered_live : (s : Sets) (b : Blocks) → SetsAgree (altered x s b) → Timed c.last_block (altered x s b) → Live l c e next (altered x s b)
  altered_live s b p t = record {
    accepted = record { identity = h.accepted.identity; channel = h.accepted.channel; some_octets = h.accepted.some_octets; most_octets = h.accepted.most_octets; frames = h.accepted.frames };
    sets = p;
    timed = t;
    holds = record { echo = h.holds.echo; fits = h.holds.fits; held = h.holds.held };
    place = h.place;
    usable = h.usable;
    owner = h.owner;
    generation = h.generation;
  }

  -- its last frame queued again, when idle
  pub last_queued_live : idle x ≡ true → Live l c e next (last_queued x)
  last_queued_live i =
      let z = idle_empty x i in
      let n = frames_live x h in
      let s = h.sets in
      altered_live _ _
      (record {
        queue = pow-lt {i = x.parcel.frames - 1} {j = x.parcel.frames} (omega arith);
        in_flight = s.in_flight;
        transmitted = s.transmitted;
        observed = s.observed;
        disjoint = ap (bit_and (frame_alone (x.parcel.frames - 1))) z.1 ∙ and_zero_r (frame_alone (x.parcel.frames - 1));
        no_begin = s.no_begin;
        went-out = s.went-out;
        begin_first = s.begin_first;
        submitted = λ q. s.submitted (eq-eqb x.sets.queue 0 z.0);
      })
      (record { progress = h.timed.progress; waiting = h.timed.waiting; last_frame = h.timed.last_frame })

  -- the Continues that are not observed queued again, when idle
  pub requeued_live : idle x ≡ true → Live l c e next (requeued x)
  requeued_live i =
      let z = idle_empty x i in
      let s = h.sets in
      let q : ℕ = without (continues_of x.parcel.frames) x.sets.observed in
      altered_live _ _
      (record {
        queue = without_low x.parcel.frames (continues_of x.parcel.frames) x.sets.observed (omega (arith, pow_pos x.parcel.frames));
        in_flight = s.in_flight;
        transmitted = s.transmitted;
        observed = s.observed;
        disjoint = ap (bit_and q) z.1 ∙ and_zero_r q;
        no_begin = s.no_begin;
        went-out = s.went-out;
        begin_first = λ k. absurd (true≢false (sym k));
        submitted = λ k. s.submitted (eq-eqb x.sets.queue 0 z.0);
      })
      (record { progress = h.timed.progress; waiting = tt; last_frame = h.timed.last_frame })

  -- it waits
  pub waits_live : Live l c e next (waits c.last_block x)
  waits_live =
      let s = h.sets in
      altered_live _ _
      (record { queue = s.queue; in_flight = s.in_flight; transmitted = s.transmitted; observed = s.observed; disjoint = s.disjoint; no_begin = s.no_begin; went-out = s.went-out; begin_first = s.begin_first; submitted = s.submitted })
      (record { progress = h.timed.progress; waiting = waits_by c.last_block x.blocks.waiting_since h.timed.waiting; last_frame = h.timed.last_frame })

  -- settled
  pub settled_live : Live l c e next (settle_of c.last_block x)
  unfolding settle_of
  settled_live = go (idle x) (done_of x) x.sets.received_status refl
    where
      go : (i d r : Bool) → idle x ≡ i → Live l c e next (cond (not i || d) x (cond r (requeued x) (waits c.last_block x)))
      go false d r k = h
      go true true r k = h
      go true false true k = requeued_live k
      go true false false k = waits_live

  -- begun again, under another echo and generation
  pub begun_live : (echo generation : ℕ) → echo < 128 → length e.echo_until_ms ≡ 128 → generation < next → Live l c (hold e echo (held_until l x.parcel.deadline_ms)) next (begun x.parcel echo generation)
  begun_live echo generation low long g = record {
    accepted = record { identity = h.accepted.identity; channel = h.accepted.channel; some_octets = h.accepted.some_octets; most_octets = h.accepted.most_octets; frames = h.accepted.frames };
    sets = record {
      queue = omega (arith, pow_pos x.parcel.frames);
      in_flight = pow_pos x.parcel.frames;
      transmitted = pow_pos x.parcel.frames;
      observed = pow_pos x.parcel.frames;
      disjoint = and_zero_r (first_frames x.parcel.frames);
      no_begin = refl;
      went-out = refl;
      begin_first = λ k. absurd (true≢false (sym k));
      submitted = λ k. absurd (first_some x.parcel.frames (frames_live x h).0 k);
    };
    timed = record { progress = tt; waiting = tt; last_frame = tt };
    holds = record {
      echo = low;
      fits = h.holds.fits;
      held = λ k. get_or-set_same e.echo_until_ms echo (held_until l x.parcel.deadline_ms) 0 (omega arith);
    };
    place = h.place;
    usable = h.usable;
    owner = h.owner;
    generation = g;
  }

  -- its front in flight
  pub in_flight_live : (frame : ℕ) → is_ready x ≡ true → frame ≡ front x.sets.queue → Live l c e next (in_flight_lem frame c.last_block x)
  in_flight_live frame r f =
      let s = h.sets in
      let low : frame < x.parcel.frames = rw f (front_low x.parcel.frames x.sets.queue (ready_some x r) s.queue) in
      altered_live _ _
      (record {
        queue = without_low x.parcel.frames x.sets.queue (frame_alone frame) s.queue;
        in_flight = added_lt x.parcel.frames x.sets.in_flight frame s.in_flight low;
        transmitted = s.transmitted;
        observed = s.observed;
        disjoint = moved_disjoint x.sets.queue x.sets.in_flight frame s.disjoint;
        no_begin = s.no_begin;
        went-out = added_among x.sets.observed x.sets.transmitted x.sets.in_flight frame s.went-out;
        begin_first = λ k. added_has x.sets.transmitted x.sets.in_flight frame 0 (s.begin_first k);
        submitted = λ k. refl;
      })
      (record { progress = omega arith; waiting = h.timed.waiting; last_frame = omega arith })

  -- a frame in flight confirmed
  pub confirmed_live : (frame : ℕ) → frame < x.parcel.frames → Live l c e next (confirm_frame frame x)
  confirmed_live frame low =
      let s = h.sets in
      altered_live _ _
      (record {
        queue = s.queue;
        in_flight = without_low x.parcel.frames x.sets.in_flight (frame_alone frame) s.in_flight;
        transmitted = added_lt x.parcel.frames x.sets.transmitted frame s.transmitted low;
        observed = s.observed;
        disjoint = fewer_disjoint x.sets.queue x.sets.in_flight (frame_alone frame) s.disjoint;
        no_begin = s.no_begin;
        went-out = moved_among x.sets.observed x.sets.transmitted x.sets.in_flight frame s.went-out;
        begin_first = λ k. moved-has x.sets.transmitted x.sets.in_flight frame 0 (s.begin_first k);
        submitted = s.submitted;
      })
      (record { progress = h.timed.progress; waiting = h.timed.waiting; last_frame = h.timed.last_frame })

  -- a map observed, once the Begin went out
  pub observed_live : (map : ℕ) → has (went_out x) 0 ≡ true → Live l c e next (observes map c.last_block x)
  observed_live map begun =
      let s = h.sets in
      let w : went_out x < 2 ^ x.parcel.frames = or_lt x.parcel.frames x.sets.transmitted x.sets.in_flight s.transmitted s.in_flight in
      altered_live _ _
      (record {
        queue = s.queue;
        in_flight = s.in_flight;
        transmitted = s.transmitted;
        observed = or_lt x.parcel.frames x.sets.observed (bit_and (shown map) (went_out x)) s.observed (omega (arith, and_le_r (shown map) (went_out x)));
        disjoint = s.disjoint;
        no_begin = more_no_begin x.sets.observed map (went_out x) s.no_begin;
        went-out = more_among x.sets.observed (shown map) (went_out x) s.went-out;
        begin_first = λ k. begun;
        submitted = s.submitted;
      })
      (record { progress = omega arith; waiting = tt; last_frame = last_by c.last_block x.blocks.last_frame x.blocks.last_progress h.timed.last_frame h.timed.progress })

  -- its last frame repeated for `prepare_prioritized`
  pub repeated_live : Live l c e next (repeated x)
  repeated_live = go (idle x) (is_set x.blocks.last_frame) refl
    where
      go : (i r : Bool) → idle x ≡ i → Live l c e next (cond (i && r) (last_queued x) x)
      go false r k = h
      go true false k = h
      go true true k = last_queued_live k

  -- or for `refresh_waiting`
  pub refreshed_live : (block : ℕ) → Live l c e next (refreshed block x)
  refreshed_live block = go (idle x) (passed 16 block x.blocks.last_frame) refl
    where
      go : (i r : Bool) → idle x ≡ i → Live l c e next (cond (i && r) (last_queued x) x)
      go false r k = h
      go true false k = h
      go true true k = last_queued_live k

-- ---- what these changes leave: the parcel, the generation and the echo. (The others leave them by `refl`.)

-- the same parcel, generation and echo
abbrev pub SameParcel : Transfer → Transfer → Type 0
SameParcel y x = (y.parcel ≡ x.parcel) × (y.generation ≡ x.generation) × (y.echo ≡ x.echo)

-- settled
pub settled_parcel : (block : ℕ) (x : Transfer) → SameParcel (settle_of block x) x
unfolding settle_of
settled_parcel block x = go (not (idle x) || done_of x) x.sets.received_status
  where
    go : (a r : Bool) → SameParcel (cond a x (cond r (requeued x) (waits block x))) x
    go true r = (refl, refl, refl)
    go false true = (refl, refl, refl)
    go false false = (refl, refl, refl)

-- whether the last frame is queued again or not
queued_parcel : (a : Bool) (x : Transfer) → SameParcel (cond a (last_queued x) x) x
queued_parcel true x = (refl, refl, refl)
queued_parcel false x = (refl, refl, refl)

-- repeated
pub repeated_parcel : (x : Transfer) → SameParcel (repeated x) x
repeated_parcel x = queued_parcel (idle x && is_set x.blocks.last_frame) x

-- refreshed
pub refreshed_parcel : (block : ℕ) (x : Transfer) → SameParcel (refreshed block x) x
refreshed_parcel block x = queued_parcel (idle x && passed 16 block x.blocks.last_frame) x

-- ---- the selection: a frame that is chosen is queued, and what has frames queued is not touched

module _ {f : PreparedFrame} (x : Transfer) (h : Chosen f x) where
  -- settled, it is the same
  pub settled_same : (block : ℕ) → settle_of block x ≡ x
  unfolding settle_of
  settled_same block = rw (ready_busy x h.ready)

  -- repeated, too
  pub repeated-same : repeated x ≡ x
  repeated-same = rw (ready_busy x h.ready)

  -- and refreshed
  pub refreshed-same : (block : ℕ) → refreshed block x ≡ x
  refreshed-same block = rw (ready_busy x h.ready)

  -- so the frame is chosen still
  pub settled_chosen : (block : ℕ) → Chosen f (settle_of block x)
  settled_chosen block = subst (Chosen f) (sym (settled_same block)) h

  -- when it is repeated
  pub repeated_chosen : Chosen f (repeated x)
  repeated_chosen = subst (Chosen f) (sym repeated-same) h

  -- and when it is refreshed
  pub refreshed_chosen : (block : ℕ) → Chosen f (refreshed block x)
  refreshed_chosen block = subst (Chosen f) (sym (refreshed-same block)) h

  -- a status does not touch the queue
  pub observed_chosen : (map block : ℕ) → Chosen f (observes map block x)
  observed_chosen map block = record { generation = h.generation; ready = h.ready; frame = h.frame; echo = h.echo; identity = h.identity }

  -- nor does a confirmation
  pub confirmed_chosen : (frame : ℕ) → Chosen f (confirm_frame frame x)
  confirmed_chosen frame = record { generation = h.generation; ready = h.ready; frame = h.frame; echo = h.echo; identity = h.identity }
