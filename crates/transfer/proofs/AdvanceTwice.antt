-- `settle` before `advance` changes nothing, nor does a second `advance` at the same clock. Assumes nothing.
use Rattle.std.proofs.Common.{◌≡◌, ℕ, zero, suc, ◌-◌, ◌^◌, ◌<◌, ◌≤◌, min, Bool, true, false, cond, not, ◌&&◌, ◌||◌, leb, List, [], ◌∷◌, ◌++◌, length, get_or, take, drop, Some, None, Option, sym, refl, ap, ◌∙◌, subst, ⊎_elim, true≢false, append_assoc, append-nil, arith, pow_pos, pow_mono, eq-eqb, ne_eqb, eqb-true}
use Rattle.std.proofs.lemmas.Bool.{cases_Bool}
use mathlib.Core.List.{foldl}
use lib.Count.{ones}
use lib.Seq.{set_split}
use Rattle.receiver.specs.Map.{bit_of}
use Rattle.receiver.proofs.Maps.{all_ones, bit-or}
use Rattle.transfer.specs.declared.Fate.{Fate}
use Rattle.transfer.specs.declared.Fate.TheVariants.{Ends, Restarts, Stays}
use Rattle.transfer.specs.declared.Parcel.{Parcel}
use Rattle.transfer.specs.declared.PreparedFrame.{PreparedFrame}
use Rattle.transfer.specs.declared.Transfer.{Transfer}
use Rattle.transfer.specs.Lists.{remove_at}
use Rattle.transfer.specs.Queue.{is_empty, first_frames, continues_of, without}
use Rattle.transfer.specs.State.{Clock, View, with_transfers, with_selected, put_at, blank_transfer}
use Rattle.transfer.specs.Echo.{free_echo}
use Rattle.transfer.specs.Transfer.{with_blocks, is_set, or_from, idle, last_queued, went_out, done_of, requeued, waits, settle_of, restart_due, begun}
use Rattle.transfer.specs.Advance.{overdue, fate_of, kept, restart, landed, step, unasked, walk, walked}
use Rattle.transfer.specs.Prepare.{repeated}
use Rattle.transfer.specs.Invariant.{All, all_none, all_more, SetsAgree, Sound}
use Rattle.transfer.proofs.Bitsets.{bit_low, bit_none, bit-and, bit-without, has-bit, lacks_bit}
use Rattle.transfer.proofs.Frames.{bit-continue, count_continues}
use Rattle.transfer.proofs.Listed.{all_map, all_head, all_tail, all-at, all_removed, all_back}
use Rattle.transfer.proofs.Settled.{settle_busy, settle-done, settle_waits}
use Rattle.transfer.proofs.Alive.{frames_live, idle_empty, settled_parcel}
use Rattle.transfer.proofs.Walked.{fate_cases, step_near, walked_near}

-- ---- a transfer's fate

-- a restart reads of it the parcel and the generation
pub restart-same : (u : View) (y x : Transfer) → y.parcel ≡ x.parcel → y.generation ≡ x.generation → (o : Option ℕ) → restart u y o ≡ restart u x o
restart-same u y x p g None = rw (p, g)
restart-same u y x p g (Some echo) = rw (p, g)

-- and so does every fate
landed-same : (u : View) (y x : Transfer) → y.parcel ≡ x.parcel → y.generation ≡ x.generation → (f : Fate) → landed u y f ≡ landed u x f
landed-same u y x p g (Ends e) = rw g
landed-same u y x p g Restarts = restart-same u y x p g (free_echo u.echoes u.clock.last_ms)
landed-same u y x p g (Stays z) = refl

-- ---- a transfer is settled once

-- waiting already, it waits no later
waits_twice : (block : ℕ) (s : Option ℕ) → or_from block (or_from block s) ≡ or_from block s
waits_twice block None = refl
waits_twice block (Some b) = refl

-- waiting is nothing to `done`
waits-done : (block : ℕ) (x : Transfer) → done_of (waits block x) ≡ done_of x
unfolding done_of
waits-done block x = refl

-- a status that is used up leaves it not done
requeued-done : (x : Transfer) → done_of (requeued x) ≡ false
unfolding done_of
requeued-done x = refl

-- settled, it is done exactly if it was
pub settled-done : (block : ℕ) (x : Transfer) → done_of (settle_of block x) ≡ done_of x
unfolding settle_of
settled-done block x = go (not (idle x)) (done_of x) x.sets.received_status refl
  where
    go : (b d r : Bool) → done_of x ≡ d → done_of (cond (b || d) x (cond r (requeued x) (waits block x))) ≡ d
    go true d r e = e
    go false true r e = e
    go false false true e = requeued-done x
    go false false false e = waits-done block x ∙ e

module _ (x : Transfer) (s : SetsAgree x) (n : 1 ≤ x.parcel.frames) where
  -- with a status, nothing in flight and no Continue left to observe it is done
  observed-done : x.sets.received_status ≡ true → x.sets.in_flight ≡ 0 → without (continues_of x.parcel.frames) x.sets.observed ≡ 0 → done_of x ≡ true
  unfolding done_of
  observed-done r f none_left = rw (r, eq-eqb x.sets.in_flight 0 f, eq-eqb (ones x.sets.transmitted) count transmitted, eq-eqb (ones o) (count - 1) (count_continues count o s.observed n (lacks_bit o 0 s.no_begin) observed))
    where
      count : ℕ
      count = x.parcel.frames

      o : ℕ
      o = x.sets.observed

      observed : (k : ℕ) → suc k < count → bit_of o (suc k) ≡ 1
      observed k l =
          let z : bit_of (without (continues_of count) o) (suc k) ≡ 0 = ap (λ (q : ℕ). bit_of q (suc k)) none_left ∙ bit_none (suc k) in
          omega (arith, bit-without (continues_of count) o (suc k), bit-continue count k l, bit_low o (suc k))

      out : (k : ℕ) → k < count → bit_of (went_out x) k ≡ 1
      out zero l = has-bit (went_out x) 0 (s.begin_first r)
      out (suc k) l =
          let z : min (bit_of o (suc k)) (bit_of (went_out x) (suc k)) ≡ bit_of o (suc k) = sym (bit-and o (went_out x) (suc k)) ∙ ap (λ (q : ℕ). bit_of q (suc k)) s.went-out in
          omega (arith, observed k l, bit_low (went_out x) (suc k))

      transmitted : ones x.sets.transmitted ≡ count
      transmitted = all_ones count x.sets.transmitted s.transmitted (λ k l.
          let z : bit_of x.sets.in_flight k ≡ 0 = ap (λ (q : ℕ). bit_of q k) f ∙ bit_none k in
          omega (arith, out k l, bit-or x.sets.transmitted x.sets.in_flight k))

  -- so when it is not, some Continue is queued again
  requeued_busy : idle x ≡ true → done_of x ≡ false → x.sets.received_status ≡ true → idle (requeued x) ≡ false
  requeued_busy i d r =
      ⊎_elim
      (λ e. absurd (true≢false (sym (observed-done r (idle_empty x i).1 (eqb-true (without (continues_of x.parcel.frames) x.sets.observed) 0 e)) ∙ d)))
      (λ e. ap (λ (b : Bool). b && is_empty x.sets.in_flight) e)
      (cases_Bool (is_empty (without (continues_of x.parcel.frames) x.sets.observed)))

  -- settled twice is settled once
  pub settled_twice : (block : ℕ) → settle_of block (settle_of block x) ≡ settle_of block x
  unfolding settle_of
  settled_twice block = go (idle x) (done_of x) x.sets.received_status refl refl refl
    where
      go : (i d r : Bool) → idle x ≡ i → done_of x ≡ d → x.sets.received_status ≡ r → let y = cond (not i || d) x (cond r (requeued x) (waits block x)) in settle_of block y ≡ y
      go false d r e f g = sym (settle_busy block x (sym e) refl)
      go true true r e f g = sym (settle-done block x (sym e) refl (sym f) refl)
      go true false true e f g = sym (settle_busy block (requeued x) (sym (requeued_busy e f g)) refl)
      go true false false e f g =
          let y = waits block x in
          sym (settle_waits block y (sym e) refl (sym (waits-done block x ∙ f)) refl g)
          ∙ ap (λ (t : Option ℕ). with_blocks x (record { last_progress = x.blocks.last_progress; last_frame = x.blocks.last_frame; waiting_since = t })) (waits_twice block x.blocks.waiting_since)

  -- ---- `settle` before `advance`

  -- settled, its fate is the same
  pub settled_fate : (c : Clock) (asked : Bool) → fate_of c asked (settle_of c.last_block x) ≡ fate_of c asked x
  unfolding fate_of
  settled_fate c asked = rw (settled_twice c.last_block, settled-done c.last_block x, (settled_parcel c.last_block x).0)

  -- so is what its step makes of the sender
  settled-step : (u : View) (asked : Bool) → step u (asked, settle_of u.clock.last_block x) ≡ step u (asked, x)
  unfolding step
  settled-step u asked =
      let p = settled_parcel u.clock.last_block x in
      landed-same u (settle_of u.clock.last_block x) x p.0 p.1 (fate_of u.clock asked (settle_of u.clock.last_block x)) ∙ ap (landed u x) (settled_fate u.clock asked)

  -- and the walk over it and others
  settled_steps : (a rest : List Transfer) (u : View) (block : ℕ) → u.clock.last_block ≡ block → foldl step u (unasked (a ++ settle_of block x ∷ rest)) ≡ foldl step u (unasked (a ++ x ∷ rest))
  settled_steps [] rest u block e = ap (λ (w : View). foldl step w (unasked rest)) (subst (λ (b : ℕ). step u (false, settle_of b x) ≡ step u (false, x)) e (settled-step u false))
  settled_steps (y ∷ a) rest u block e = settled_steps a rest (step u (false, y)) block (ap (λ (c : Clock). c.last_block) (step_near u (false, y)).clock ∙ e)

  -- one transfer settled first, `advance` leaves the same
  pub settled_first : (v : View) (place block : ℕ) → place < length v.transfers → v.clock.last_block ≡ block → walked (put_at v place (settle_of block x)) ≡ walked (put_at v place x)
  unfolding walked walk
  settled_first v place block lt e =
      rw (set_split v.transfers place (settle_of block x) lt, set_split v.transfers place x lt)
      (settled_steps (take place v.transfers) (drop (suc place) v.transfers) (with_transfers v []) block e)

-- ---- `advance` twice

-- a transfer that `advance` at this clock leaves as it is
pub record Rests (c : Clock) (x : Transfer) : Type 0 where
  pub in_time : overdue c x ≡ false
  pub not_done : done_of x ≡ false
  pub settled : settle_of c.last_block x ≡ x
  pub not_due : restart_due c.last_block x ≡ false

-- its fate is to stay so
pub rests_stays : (c : Clock) (x : Transfer) → Rests c x → fate_of c false x ≡ Stays x
unfolding fate_of
rests_stays c x h = rw (h.in_time, h.not_done, h.settled, h.not_due)

-- it stays so with its last frame queued again
rests_repeated : (c : Clock) (x : Transfer) → Rests c x → Rests c (repeated x)
unfolding done_of
rests_repeated c x h = go (idle x && is_set x.blocks.last_frame)
  where
    go : (b : Bool) → Rests c (cond b (last_queued x) x)
    go false = h
    go true = record {
      in_time = h.in_time;
      not_done = h.not_done;
      settled = sym (settle_busy c.last_block (last_queued x) (sym busy) refl);
      not_due = h.not_due;
    }
      where
        k : ℕ
        k = x.parcel.frames - 1

        busy : idle (last_queued x) ≡ false
        busy = ap (λ (b : Bool). b && is_empty x.sets.in_flight) (ne_eqb (2 ^ k) 0 (λ e. omega (arith, pow_pos k)))

-- one that stays, settled, rests
rests_settled : (c : Clock) (x : Transfer) → SetsAgree x → 1 ≤ x.parcel.frames → overdue c x ≡ false → done_of x ≡ false → restart_due c.last_block (settle_of c.last_block x) ≡ false → Rests c (settle_of c.last_block x)
rests_settled c x s n o d r = record {
  in_time = ap (λ (p : Parcel). leb p.deadline_ms c.last_ms) (settled_parcel c.last_block x).0 ∙ o;
  not_done = settled-done c.last_block x ∙ d;
  settled = settled_twice x s n c.last_block;
  not_due = r;
}

-- one that begins again rests
rests_begun : (c : Clock) (x : Transfer) (echo generation : ℕ) → 1 ≤ x.parcel.frames → overdue c x ≡ false → Rests c (begun x.parcel echo generation)
unfolding done_of
rests_begun c x echo generation n o = record {
  in_time = o;
  not_done = refl;
  settled = sym (settle_busy c.last_block y (sym busy) refl);
  not_due = refl;
}
  where
    y : Transfer
    y = begun x.parcel echo generation

    busy : idle y ≡ false
    busy = ap (λ (b : Bool). b && true) (ne_eqb (first_frames x.parcel.frames) 0 (λ e. omega (arith, pow_mono {i = 1} {j = x.parcel.frames} n)))

-- what the walk asks of a transfer
abbrev Agrees : Transfer → Type 0
Agrees x = SetsAgree x × (1 ≤ x.parcel.frames)

-- whatever goes on after a step rests
step_rests : (u : View) (x : Transfer) → Agrees x → All (Rests u.clock) u.transfers → All (Rests u.clock) (step u (false, x)).transfers
unfolding step
step_rests u x s h =
    fate_cases (λ f. All (Rests u.clock) (landed u x f).transfers) u.clock false x h (λ o. h) (λ o. again o (free_echo u.echoes u.clock.last_ms))
    (λ o d r. all_back u.transfers (settle_of u.clock.last_block x) (rests_settled u.clock x s.0 s.1 o d r) h)
  where
    again : overdue u.clock x ≡ false → (o : Option ℕ) → All (Rests u.clock) (restart u x o).transfers
    again q None = h
    again q (Some echo) = all_back u.transfers (begun x.parcel echo u.next_token) (rests_begun u.clock x echo u.next_token s.1 q) h

-- after all steps
steps_rest : (l : List Transfer) (u : View) → All Agrees l → All (Rests u.clock) u.transfers → All (Rests u.clock) (foldl step u (unasked l)).transfers
steps_rest [] u k h = h
steps_rest (x ∷ l) u k h =
    let w = step u (false, x) in
    let e : w.clock ≡ u.clock = (step_near u (false, x)).clock in
    subst (λ (c : Clock). All (Rests c) (foldl step w (unasked l)).transfers) e
    (steps_rest l w (all_tail k) (subst (λ (c : Clock). All (Rests c) w.transfers) (sym e) (step_rests u x (all_head k) h)))

-- every transfer rests that `advance` leaves
pub walked_rests : (v : View) → Sound v → All (Rests v.clock) (walked v).transfers
unfolding walked walk
walked_rests v h = steps_rest v.transfers (with_transfers v []) (all_map (λ x k. (k.sets, (frames_live x k).0)) h.transfers) all_none

-- steps over transfers that rest keep each
resting_steps : (l : List Transfer) (u : View) → All (Rests u.clock) l → foldl step u (unasked l) ≡ with_transfers u (u.transfers ++ l)
unfolding step
resting_steps [] u h = ap (with_transfers u) (sym (append-nil u.transfers))
resting_steps (x ∷ l) u h =
    ap (λ (w : View). foldl step w (unasked l)) (ap (landed u x) (rests_stays u.clock x (all_head h)))
    ∙ (resting_steps l (kept u x) (all_tail h) ∙ ap (with_transfers u) (append_assoc u.transfers (x ∷ []) l))

-- where each rests, `advance` changes nothing
pub resting_walked : (v : View) → All (Rests v.clock) v.transfers → walked v ≡ v
unfolding walked walk
resting_walked v h = resting_steps v.transfers (with_transfers v []) h

-- `advance` twice at one clock is `advance` once
pub walked_twice : (v : View) → Sound v → walked (walked v) ≡ walked v
walked_twice v h = resting_walked (walked v) (subst (λ (c : Clock). All (Rests c) (walked v).transfers) (sym (walked_near v h).clock) (walked_rests v h))

-- and so it is with a transfer moved to the front in between, its last frame queued again or not
pub prioritized-walked : (v : View) (place : ℕ) (s : Option PreparedFrame) → Sound v → place < length (walked v).transfers → let x = get_or (walked v).transfers place blank_transfer in
    let w = with_selected (with_transfers (walked v) (repeated x ∷ remove_at place (walked v).transfers)) s in walked w ≡ w
prioritized-walked v place s h lt =
    let l = (walked v).transfers in
    let x = get_or l place blank_transfer in
    let w = with_selected (with_transfers (walked v) (repeated x ∷ remove_at place l)) s in
    let r = walked_rests v h in
    resting_walked w
    (subst (λ (c : Clock). All (Rests c) (repeated x ∷ remove_at place l)) (sym (walked_near v h).clock)
    (all_more (rests_repeated v.clock x (all-at l place blank_transfer lt r)) (all_removed l place blank_transfer lt r)))
