-- The Rust's `enqueue`, `advance` and the calls that make it, with every step as it is written, are the definitions. Assumes nothing.
use Rattle.std.proofs.Common.{◌≡◌, ℕ, zero, suc, ◌+◌, ◌-◌, ◌/◌, ◌%◌, ◌^◌, ◌<◌, ◌≤◌, Bool, true, false, cond, not, ◌&&◌, ◌||◌, eqb, ltb, leb, List, [], ◌∷◌, map, length, get_or, take, drop, set, bit_and, bit_or, Some, None, Option, sym, refl, ap, ◌∙◌, subst, ap₂, ⊎_elim, true≢false, arith, length-set, pow_mono, ltb-false, ltb-true, le-ltb, lt-ltb, eq-eqb, ne_eqb, eqb-true, le-leb}
use Rattle.std.proofs.lemmas.Bool.{and_from, cases_Bool}
use mathlib.Core.Bool.{or-false, and-false}
use mathlib.Core.List.{foldl}
use lib.Bits.{or_lt}
use lib.Count.{ones}
use lib.Pow.{field, mod-mod-pow}
use lib.Seq.{set_split}
use borrow.Author.Tests.{eqb-false, lt-leb}
use Rattle.token.specs.Token.{stop}
use Rattle.rach.proofs.Laws.{both}
use Rattle.rach.specs.declared.MobileIdentity.{MobileIdentity}
use Rattle.spach.specs.declared.Channel.{Channel}
use Rattle.spach.specs.Refusal.{Outcome, gives, refuses, refuse, and_then, After, onward}
use Rattle.arq.specs.declared.PackedFrame.{PackedFrame}
use Rattle.arq.specs.Cut.{count_of}
use Rattle.receiver.specs.Map.{bit_of, with_bit}
use Rattle.receiver.specs.declared.ArqStatus.{ArqStatus}
use Rattle.receiver.proofs.Maps.{compared, ones_all, all_ones}
use Rattle.transfer.specs.declared.Fate.{Fate}
use Rattle.transfer.specs.declared.Fate.TheVariants.{Ends, Restarts, Stays}
use Rattle.transfer.specs.declared.FrameToken.{FrameToken}
use Rattle.transfer.specs.declared.Parcel.{Parcel}
use Rattle.transfer.specs.declared.PreparedFrame.{PreparedFrame}
use Rattle.transfer.specs.declared.Request.{Request}
use Rattle.transfer.specs.declared.Transfer.{Transfer}
use Rattle.transfer.specs.declared.TransferToken.{TransferToken}
use Rattle.transfer.specs.Lists.{position, any, remove_at}
use Rattle.transfer.specs.Queue.{is_empty, has, continues_of, without, front, full, frames_of}
use Rattle.transfer.specs.State.{Limits, Echoes, Clock, View, Lent, Out, with_clock, with_transfers, with_echoes, with_selected, token_taken, ticked, admitted, says, goes_on, seek, put_at, of_echo, of_generation, clear_selected, completes, expires, event_of, ended, blank_transfer}
use Rattle.transfer.specs.Echo.{free_echo, held_until, hold}
use Rattle.transfer.specs.Transfer.{header_of, queued, idle, last_queued, passed, is_set, all_transmitted, went_out, done_of, requeued, waits, settle_of, restart_due, begun}
use Rattle.transfer.specs.Advance.{overdue, fate_of, kept, restart, landed, step, unasked, walk, walked, advance_of}
use Rattle.transfer.specs.Enqueue.{granted, allocated, addressed, grant_of, replaced, lowest_n, parcel_of, stored, accepts, enqueue_of}
use Rattle.transfer.specs.Prepare.{is_ready, packed_of, front_of, selects, choose_from, choose, prepare_of, asked_for, interrupt_of, repeated, only_echo, prioritized, prioritize_at, prepare_prioritized_of}
use Rattle.transfer.specs.Submitted.{submitted_message_of, is_outstanding, confirm_frame, confirms, transmitted_at, transmitted_of}
use Rattle.transfer.specs.Status.{shown, observes, status_at, status_of}
use Rattle.transfer.specs.Refresh.{refreshed, queue_waiting, oldest_first, serve_oldest, refresh_waiting_of}
use Rattle.transfer.specs.Literal.{each, done_literal, settle_literal, requeued_literal, set_where, starts_literal, last_pushed, observes_literal, takes_literal, allocate_literal, restarting, turn, through, loop, looping, entering, advancing, asks_literal, pushes_literal, enqueue_literal, advance_literal, selects_literal, front_literal, choose_literal, prepare_literal, interrupt_literal, prepare_prioritized_literal, submitted_message_literal, transmitted_literal, status_literal, refresh_literal, served_literal, refresh_waiting_literal}
use Rattle.transfer.specs.Invariant.{All, SetsAgree, Live, Sound}
use Rattle.transfer.proofs.Asked.{any_found}
use Rattle.transfer.proofs.Bitsets.{bit_none, bit_first, bit_next, below_bits, has-bit, lacks_bit, bit-has, bit_lacks, has_or, has_and, has-without, has_added, same_frames}
use Rattle.transfer.proofs.EchoSearch.{free_now}
use Rattle.transfer.proofs.Frames.{count_continues, continues-counted, has-continues}
use Rattle.transfer.proofs.Listed.{all_map, all_head, all_tail, all_in, all-at, all_removed, position-found}
use Rattle.transfer.proofs.Alive.{altered, frames_live, idle_empty, ready_some, settled_live, confirmed_live, observed_live, settled_parcel}
use Rattle.transfer.proofs.Invariant.{ticked_gives, admitted_gives, admitted-kept}
use Rattle.transfer.proofs.Walked.{step_near, transfers_of, unasked_all, asked_for_all, walked_near}
use Rattle.transfer.proofs.Moves.{outstanding_frame}
use Rattle.transfer.proofs.Calls.{admitted-walked-kept, prioritized-kept}
use Rattle.transfer.proofs.Queues.{listed_front, pushed_alone, collected_all}
use Rattle.transfer.proofs.Searches.{search-literal, fronted-literal}
use Rattle.transfer.proofs.AdvanceTwice.{restart-same, settled_first, prioritized-walked}

-- ---- each frame

-- two tests that imply each other
both_ways : (a b : Bool) → (a ≡ true → b ≡ true) → (b ≡ true → a ≡ true) → a ≡ b
both_ways true b f g = sym (f refl)
both_ways false true f g = absurd (true≢false (sym (g refl)))
both_ways false false f g = refl

-- where each passes, every one does
each-one : (n : ℕ) (test : ℕ → Bool) → each n test ≡ true → (k : ℕ) → k < n → test k ≡ true
each-one zero test h k l = absurd (omega arith)
each-one (suc n) test h zero l = (both (test 0) (each n (λ k. test (suc k))) h).0
each-one (suc n) test h (suc k) l = each-one n (λ k. test (suc k)) (both (test 0) (each n (λ k. test (suc k))) h).1 k (omega arith)

-- and where every one does, each passes
one_each : (n : ℕ) (test : ℕ → Bool) → ((k : ℕ) → k < n → test k ≡ true) → each n test ≡ true
one_each zero test h = refl
one_each (suc n) test h = and_from _ _ (h 0 (omega arith)) (one_each n (λ k. test (suc k)) (λ k l. h (suc k) (omega arith)))

-- each of n frames is in a set of them exactly if as many are
pub each-full : (n q : ℕ) → q < 2 ^ n → each n (has q) ≡ full n q
each-full n q low =
    both_ways (each n (has q)) (full n q) (λ h. eq-eqb (ones q) n (all_ones n q low (λ k l. has-bit q k (each-one n (has q) h k l))))
    (λ h. one_each n (has q) (λ k l. bit-has q k (ones_all n q low (eqb-true (ones q) n h) k l)))

-- what is tested alike
each_alike : (n : ℕ) (p q : ℕ → Bool) → ((k : ℕ) → p k ≡ q k) → each n p ≡ each n q
each_alike zero p q h = refl
each_alike (suc n) p q h = ap₂ (λ (a b : Bool). a && b) (h 0) (each_alike n (λ k. p (suc k)) (λ k. q (suc k)) (λ k. h (suc k)))

-- ---- a loop over the Continues

-- one turn of the loop leaves every other frame
turn_other : (b : Bool) (r n j : ℕ) → (j ≡ suc n → ⊥) → has (cond b (with_bit r (suc n)) r) j ≡ has r j
turn_other true r n j h = has_added r (suc n) j ∙ (ap (λ (b : Bool). has r j || b) (ne_eqb j (suc n) h) ∙ or-false (has r j))
turn_other false r n j h = refl

-- and sets its own if the test passes
turn_own : (b : Bool) (r n : ℕ) → has (cond b (with_bit r (suc n)) r) (suc n) ≡ (has r (suc n) || b)
turn_own true r n = has_added r (suc n) (suc n) ∙ ap (λ (b : Bool). has r (suc n) || b) (eq-eqb (suc n) (suc n) refl)
turn_own false r n = sym (or-false (has r (suc n)))

-- the loop sets no frame but 1 to n
where_other : (n : ℕ) (test : ℕ → Bool) (q j : ℕ) → ((i : ℕ) → i < n → j ≡ suc i → ⊥) → has (set_where n test q) j ≡ has q j
where_other zero test q j h = refl
where_other (suc n) test q j h = turn_other (test n) (set_where n test q) n j (h n (omega arith)) ∙ where_other n test q j (λ i l. h i (omega arith))

-- and of these it sets each that passes
where_passes : (n : ℕ) (test : ℕ → Bool) (q k : ℕ) → k < n → has (set_where n test q) (suc k) ≡ (has q (suc k) || test k)
where_passes zero test q k h = absurd (omega arith)
where_passes (suc n) test q k h =
    ⊎_elim (λ l. turn_other (test n) (set_where n test q) n (suc k) (λ e. omega arith) ∙ where_passes n test q k l)
    (⊎_elim
    (λ e. subst (λ (j : ℕ). has (set_where (suc n) test q) (suc j) ≡ (has q (suc j) || test j)) (sym e)
    (turn_own (test n) (set_where n test q) n ∙ ap (λ (b : Bool). b || test n) (where_other n test q (suc n) (λ i l z. omega arith)))) (λ l. absurd (omega arith)))
    (compared k n)

-- `settle`'s loop queues the Continues that are not observed
requeued_frames : (n o : ℕ) → set_where (n - 1) (λ index. not (has o (suc index))) 0 ≡ without (continues_of n) o
requeued_frames n o = same_frames (set_where (n - 1) test 0) (without (continues_of n) o) frame
  where
    test : ℕ → Bool
    test k = not (has o (suc k))

    nothing : (k : ℕ) → has 0 k ≡ false
    nothing k = bit_lacks 0 k (bit_none k)

    split : (k : ℕ) → (b : Bool) → ltb (suc k) n ≡ b → has (set_where (n - 1) test 0) (suc k) ≡ (b && not (has o (suc k)))
    split k true e = where_passes (n - 1) test 0 k (omega (arith, ltb-true (suc k) n e)) ∙ ap (λ (b : Bool). b || test k) (nothing (suc k))
    split k false e = where_other (n - 1) test 0 (suc k) (λ i l z. omega (arith, ltb-false (suc k) n e)) ∙ nothing (suc k)

    continue : (k : ℕ) → has (without (continues_of n) o) k ≡ ((ltb 0 k && ltb k n) && not (has o k))
    continue k = has-without (continues_of n) o k ∙ ap (λ (b : Bool). b && not (has o k)) (has-continues n k)

    frame : (k : ℕ) → has (set_where (n - 1) test 0) k ≡ has (without (continues_of n) o) k
    frame zero = where_other (n - 1) test 0 0 (λ i l e. omega arith) ∙ (nothing 0 ∙ sym (continue 0))
    frame (suc k) = split k (ltb (suc k) n) refl ∙ sym (continue (suc k) ∙ ap (λ (b : Bool). (b && ltb (suc k) n) && not (has o (suc k))) (lt-ltb 0 (suc k) (omega arith)))

-- an idle transfer's queue is empty
requeued-literal : (x : Transfer) → idle x ≡ true → requeued_literal x ≡ requeued x
requeued-literal x i =
    let n = x.parcel.frames in
    let o = x.sets.observed in
    ap (λ (q : ℕ). queued (requeued x) q) (ap (λ (q : ℕ). set_where (n - 1) (λ index. not (has o (suc index))) q) (idle_empty x i).0 ∙ requeued_frames n o)

-- a transfer as it begins
starts_begun : (p : Parcel) (echo generation : ℕ) → starts_literal p echo generation ≡ begun p echo generation
starts_begun p echo generation = ap (λ (q : ℕ). queued (begun p echo generation) q) (collected_all p.frames)

-- ---- one transfer

module _ (x : Transfer) (s : SetsAgree x) where
  -- each frame is transmitted or in flight exactly if as many went out as there are
  each_out : each x.parcel.frames (λ k. has x.sets.transmitted k || has x.sets.in_flight k) ≡ full x.parcel.frames (went_out x)
  each_out =
      each_alike x.parcel.frames (λ k. has x.sets.transmitted k || has x.sets.in_flight k) (has (went_out x)) (λ k. sym (has_or x.sets.transmitted x.sets.in_flight k))
      ∙ each-full x.parcel.frames (went_out x) (or_lt x.parcel.frames x.sets.transmitted x.sets.in_flight s.transmitted s.in_flight)

  module _ (n : 1 ≤ x.parcel.frames) where
    -- `done`, frame by frame
    pub done-literal : done_literal x ≡ done_of x
    unfolding done_literal done_of
    done-literal = ap (λ (b : Bool). x.sets.received_status && (is_empty x.sets.in_flight && b)) (both_ways (has t 0 && each (count - 1) test) (all_transmitted x && full (count - 1) o) counted looked)
      where
        count : ℕ
        count = x.parcel.frames

        t : ℕ
        t = x.sets.transmitted

        o : ℕ
        o = x.sets.observed

        test : ℕ → Bool
        test k = has o (suc k) && has t (suc k)

        counted : (has t 0 && each (count - 1) test) ≡ true → (all_transmitted x && full (count - 1) o) ≡ true
        counted h = and_from _ _ (eq-eqb (ones t) count (all_ones count t s.transmitted bits)) (eq-eqb (ones o) (count - 1) (count_continues count o s.observed n (lacks_bit o 0 s.no_begin) (λ k l. has-bit o (suc k) (one k l).0)))
          where
            one : (k : ℕ) → suc k < count → (has o (suc k) ≡ true) × (has t (suc k) ≡ true)
            one k l = both (has o (suc k)) (has t (suc k)) (each-one (count - 1) test (both (has t 0) (each (count - 1) test) h).1 k (omega arith))

            bits : (k : ℕ) → k < count → bit_of t k ≡ 1
            bits zero l = has-bit t 0 (both (has t 0) (each (count - 1) test) h).0
            bits (suc k) l = has-bit t (suc k) (one k l).1

        looked : (all_transmitted x && full (count - 1) o) ≡ true → (has t 0 && each (count - 1) test) ≡ true
        looked h =
            let p = both (all_transmitted x) (full (count - 1) o) h in
            let sent : (k : ℕ) → k < count → has t k ≡ true = λ k l. bit-has t k (ones_all count t s.transmitted (eqb-true (ones t) count p.0) k l) in
            and_from _ _ (sent 0 (omega arith)) (one_each (count - 1) test (λ k l. and_from _ _ (bit-has o (suc k) (continues-counted count o s.observed (lacks_bit o 0 s.no_begin) (eqb-true (ones o) (count - 1) p.1) k l)) (sent (suc k) (omega arith))))

    -- `settle`
    pub settle-literal : (block : ℕ) → settle_literal block x ≡ settle_of block x
    unfolding settle_literal settle_of
    settle-literal block = rw done-literal (go (idle x) refl)
      where
        go : (i : Bool) → idle x ≡ i → cond (not i || done_of x) x (cond x.sets.received_status (requeued_literal x) (waits block x)) ≡ cond (not i || done_of x) x (cond x.sets.received_status (requeued x) (waits block x))
        go true e = ap (λ (y : Transfer). cond (done_of x) x (cond x.sets.received_status y (waits block x))) (requeued-literal x e)
        go false e = refl

-- ---- the map of a status

-- the low bits are those of the number
bit-mod : (m k n : ℕ) → k < n → bit_of (m % 2 ^ n) k ≡ bit_of m k
bit-mod m k n h =
    let e : n ≡ n - suc k + 1 + k = omega arith in
    ap (λ (i : ℕ). m % 2 ^ i / 2 ^ k % 2) e ∙ (ap (λ (z : ℕ). z % 2) (field m (n - suc k + 1) k) ∙ mod-mod-pow (m / 2 ^ k) (n - suc k) 1)

-- bit k of the map shows frame k + 1
pub shown-has : (map k : ℕ) → k < 26 → has (shown map) (suc k) ≡ has map k
shown-has map k h =
    let half : shown map / 2 ≡ map % 2 ^ 26 = omega arith in
    ap (λ (b : ℕ). eqb b 1) (bit_next (shown map) k ∙ (ap (λ (q : ℕ). bit_of q k) half ∙ bit-mod map k 26 h))

-- what `status` does to the transfer
observes-literal : (map block : ℕ) (x : Transfer) → SetsAgree x → x.parcel.frames ≤ 27 → observes_literal map block x ≡ observes map block x
observes-literal map block x s most = ap seen (same_frames (set_where n test o) (bit_or o (bit_and (shown map) w)) frame)
  where
    n : ℕ
    n = x.parcel.frames - 1

    o : ℕ
    o = x.sets.observed

    w : ℕ
    w = went_out x

    test : ℕ → Bool
    test k = has map k && (has x.sets.transmitted (suc k) || has x.sets.in_flight (suc k))

    seen : ℕ → Transfer
    seen q =
        altered x (record { queue = x.sets.queue; in_flight = x.sets.in_flight; transmitted = x.sets.transmitted; observed = q; received_status = true })
        (record { last_progress = Some block; last_frame = x.blocks.last_frame; waiting_since = None })

    more : (k : ℕ) → has (bit_or o (bit_and (shown map) w)) k ≡ (has o k || (has (shown map) k && has w k))
    more k = has_or o (bit_and (shown map) w) k ∙ ap (λ (b : Bool). has o k || b) (has_and (shown map) w k)

    low : w < 2 ^ x.parcel.frames
    low = or_lt x.parcel.frames x.sets.transmitted x.sets.in_flight s.transmitted s.in_flight

    frame : (k : ℕ) → has (set_where n test o) k ≡ has (bit_or o (bit_and (shown map) w)) k
    frame zero =
        let even : has (shown map) 0 ≡ false = bit_lacks (shown map) 0 (bit_first (shown map) ∙ omega arith) in
        where_other n test o 0 (λ i l e. omega arith) ∙ (sym (or-false (has o 0)) ∙ (ap (λ (b : Bool). has o 0 || (b && has w 0)) (sym even) ∙ sym (more 0)))
    frame (suc k) = ⊎_elim (λ e. below (ltb-true k n e)) (λ e. above (ltb-false k n e)) (cases_Bool (ltb k n))
      where
        below : k < n → has (set_where n test o) (suc k) ≡ has (bit_or o (bit_and (shown map) w)) (suc k)
        below l =
            where_passes n test o k l
            ∙ (ap₂ (λ (a b : Bool). has o (suc k) || (a && b)) (sym (shown-has map k (omega arith))) (sym (has_or x.sets.transmitted x.sets.in_flight (suc k))) ∙ sym (more (suc k)))

        above : n ≤ k → has (set_where n test o) (suc k) ≡ has (bit_or o (bit_and (shown map) w)) (suc k)
        above l =
            let out : has w (suc k) ≡ false = bit_lacks w (suc k) (below_bits x.parcel.frames w (suc k) low (omega arith)) in
            where_other n test o (suc k) (λ i m e. omega arith)
            ∙ (sym (or-false (has o (suc k))) ∙ (ap (λ (b : Bool). has o (suc k) || b) (sym (and-false (has (shown map) (suc k)))) ∙ (ap (λ (b : Bool). has o (suc k) || (has (shown map) (suc k) && b)) (sym out) ∙ sym (more (suc k)))))

-- ---- advance

-- what the loop relies on of a transfer
record Proper (l : Limits) (c : Clock) (x : Transfer) : Type 0 where
  sets : SetsAgree x
  frames : 1 ≤ x.parcel.frames
  -- the tests of `allocate_echo`
  usable : l.startup_until_block ≤ c.last_block
  fits : held_until l x.parcel.deadline_ms ≤ stop

-- a live one is so
live_proper : {l : Limits} {c : Clock} {e : Echoes} {next : ℕ} (x : Transfer) → Live l c e next x → Proper l c x
live_proper x h = record { sets = h.sets; frames = (frames_live x h).0; usable = h.usable; fits = h.holds.fits }

-- each of a Sound sender is
sound_proper : (v : View) → Sound v → All (Proper v.limits v.clock) v.transfers
sound_proper v h = all_map (λ x k. live_proper x k) h.transfers

-- what the search relies on of the echoes
abbrev Round : Echoes → Type 0
Round e = (length e.echo_until_ms ≡ 128) × (e.next_echo < 128)

-- a Sound sender's are so
sound_round : (v : View) → Sound v → Round v.echoes
sound_round v h = (h.echoes, h.next_echo)

-- every step keeps it
restart_round : (v : View) (x : Transfer) (o : Option ℕ) → Round v.echoes → Round (restart v x o).echoes
restart_round v x None h = h
restart_round v x (Some echo) h = (length-set v.echoes.echo_until_ms echo (held_until v.limits x.parcel.deadline_ms) ∙ h.0, omega arith)

landed_round : (v : View) (x : Transfer) (f : Fate) → Round v.echoes → Round (landed v x f).echoes
landed_round v x (Ends e) h = h
landed_round v x Restarts h = restart_round v x (free_echo v.echoes v.clock.last_ms) h
landed_round v x (Stays y) h = h

step_round : (v : View) (p : Bool × Transfer) → Round v.echoes → Round (step v p).echoes
unfolding step
step_round v p h = landed_round v p.1 (fate_of v.clock p.0 p.1) h

-- past its tests `allocate_echo` takes what the search finds
allocated-free : (v : View) (now deadline : ℕ) → Round v.echoes → v.limits.startup_until_block ≤ v.clock.last_block → held_until v.limits deadline ≤ stop
    → allocate_literal v now deadline ≡ takes_literal v.echoes (held_until v.limits deadline) (free_echo v.echoes now)
allocated-free v now deadline r usable fits =
    rw (le-ltb v.clock.last_block v.limits.startup_until_block usable, le-ltb stop (held_until v.limits deadline) fits)
    (ap (takes_literal v.echoes (held_until v.limits deadline)) (search-literal v.echoes r.0 r.1 now))

-- a restart that asks only whether an echo is free
restarting-free : (v : View) (x : Transfer) (later : List Transfer) (o : Option ℕ) → restarting v x later (takes_literal v.echoes (held_until v.limits x.parcel.deadline_ms) o) ≡ says tt (restart v x o)
restarting-free v x later None = refl
restarting-free v x later (Some echo) =
    ap (λ (y : Transfer). says tt (kept (token_taken (with_echoes (clear_selected v x.generation) (hold v.echoes echo (held_until v.limits x.parcel.deadline_ms)))) y)) (starts_begun x.parcel echo v.next_token)

-- a turn is a step
turn_steps : (v : View) (asked : Bool) (x : Transfer) (later : List Transfer) → Round v.echoes → Proper v.limits v.clock x → turn v asked x later ≡ says tt (step v (asked, x))
unfolding turn step fate_of
turn_steps v asked x later round h =
    rw (settle-literal x h.sets h.frames b, done-literal x h.sets h.frames)
    (go (overdue v.clock x) (done_of x) (asked || restart_due b y))
  where
    b : ℕ
    b = v.clock.last_block

    y : Transfer
    y = settle_of b x

    asks : Outcome (ℕ × Echoes)
    asks = allocate_literal v v.clock.last_ms y.parcel.deadline_ms

    restarts : restarting v y later asks ≡ says tt (restart v x (free_echo v.echoes v.clock.last_ms))
    restarts =
        let p = settled_parcel b x in
        let free = free_echo v.echoes v.clock.last_ms in
        let fits : held_until v.limits y.parcel.deadline_ms ≤ stop = rw p.0 h.fits in
        ap (restarting v y later) (allocated-free v v.clock.last_ms y.parcel.deadline_ms round h.usable fits)
        ∙ (restarting-free v y later free ∙ ap (says tt) (restart-same v y x p.0 p.1 free))

    go : (o d r : Bool) → cond (o || d) (says tt (ended v x (cond o (event_of x expires) (event_of x completes)))) (cond r (restarting v y later asks) (says tt (kept v y))) ≡ says tt (landed v x (cond o (Ends (event_of x expires)) (cond d (Ends (event_of x completes)) (cond r Restarts (Stays y)))))
    go true d r = refl
    go false true r = refl
    go false false true = restarts
    go false false false = refl

-- the loop is the steps
loop_steps : (l : List (Bool × Transfer)) (v : View) → Round v.echoes → All (Proper v.limits v.clock) (transfers_of l) → loop v l ≡ says tt (foldl step v l)
unfolding loop
loop_steps [] v round h = refl
loop_steps (p ∷ l) v round h =
    let n = step_near v p in
    ap (λ (a : After Unit View). through a.outcome a.state (λ w. loop w l)) (turn_steps v p.0 p.1 (map (λ q. q.1) l) round (all_head h))
    ∙ loop_steps l (step v p) (step_round v p round)
    (subst (λ (k : Limits). All (Proper k (step v p).clock) (transfers_of l)) (sym n.limits) (subst (λ (c : Clock). All (Proper v.limits c) (transfers_of l)) (sym n.clock) (all_tail h)))

-- so it walks, whichever are marked
looping_walks : {A : Type 0} (v : View) (l : List (Bool × Transfer)) (next : View → After A View) → Round v.echoes → All (Proper v.limits v.clock) (transfers_of l) → looping v l next ≡ next (walk v l)
unfolding walk
looping_walks v l next round h = ap (λ (a : After Unit View). through a.outcome a.state next) (loop_steps l (with_transfers v []) round h)

-- with none marked
unmarked_walks : {A : Type 0} (v : View) (next : View → After A View) → Round v.echoes → All (Proper v.limits v.clock) v.transfers → looping v (unasked v.transfers) next ≡ next (walked v)
unfolding walked
unmarked_walks v next round h = looping_walks v (unasked v.transfers) next round (subst (All (Proper v.limits v.clock)) (sym (unasked_all v.transfers)) h)

-- a clock
abbrev at : (block now : ℕ) → Clock
at block now = record { last_block = block; last_ms = now }

-- `clock` lets the clock of the sender through, and moves nothing
ticked-same : (v : View) (block now : ℕ) → v.clock ≡ at block now → ticked v block now ≡ gives v
ticked-same v block now e =
    let a : v.clock.last_block ≡ block = ap (λ (c : Clock). c.last_block) e in
    let b : v.clock.last_ms ≡ now = ap (λ (c : Clock). c.last_ms) e in
    rw (le-ltb block v.clock.last_block (omega arith), le-ltb now v.clock.last_ms (omega arith))
    (ap (λ (c : Clock). gives (with_clock v c)) (sym e))

-- so `advance` inside a call walks
advancing_walks : {A : Type 0} (v : View) (block now : ℕ) (next : View → After A View) → v.clock ≡ at block now → Round v.echoes → All (Proper v.limits v.clock) v.transfers → advancing v block now next ≡ next (walked v)
advancing_walks v block now next e round h = ap (λ (o : Outcome View). onward v o (λ w. looping w (unasked w.transfers) next)) (ticked-same v block now e) ∙ unmarked_walks v next round h

-- a transfer settled first or not
settled-advancing : {A : Type 0} (v : View) (place : ℕ) (x : Transfer) (block now : ℕ) (next : View → After A View) → v.clock ≡ at block now → place < length v.transfers → Live v.limits v.clock v.echoes v.next_token x → Sound v
    → advancing (put_at v place (settle_literal block x)) block now next ≡ next (walked (put_at v place x))
settled-advancing v place x block now next e lt k h =
    let b : v.clock.last_block ≡ block = ap (λ (c : Clock). c.last_block) e in
    let n = (frames_live x k).0 in
    let l = v.transfers in
    let y = settle_of block x in
    let p : Proper v.limits v.clock y = subst (λ (i : ℕ). Proper v.limits v.clock (settle_of i x)) b (live_proper (settle_of v.clock.last_block x) (settled_live x k)) in
    ap (λ (z : Transfer). advancing (put_at v place z) block now next) (settle-literal x k.sets n block)
    ∙ (advancing_walks (put_at v place y) block now next e (sound_round v h)
    (subst (All (Proper v.limits v.clock)) (sym (set_split l place y lt)) (all_in (take place l) y (drop (suc place) l) p (all_removed l place blank_transfer lt (sound_proper v h))))
    ∙ ap next (settled_first x k.sets n v place block lt b))

-- ---- calls alike

-- what is let through has the clock that it was told
admitted_at : (v : View) (m : Lent) (block now : ℕ) {w : View} → admitted v m block now ≡ gives w → w.clock ≡ at block now
admitted_at v m block now e = ap (λ (u : View). u.clock) (ticked_gives v block now (admitted_gives v m block now e).1).0

-- after `advance` too
walked_at : (v : View) (m : Lent) (block now : ℕ) {w : View} → admitted v m block now ≡ gives w → Sound v → (walked w).clock ≡ at block now
walked_at v m block now {w} e h = (walked_near w (admitted-kept v m block now e h)).clock ∙ admitted_at v m block now e

-- choices whose first ways are alike
cond_same : {X : Type 0} (t : Bool) (x y z : X) → (t ≡ true → x ≡ y) → cond t x z ≡ cond t y z
cond_same true x y z h = h refl
cond_same false x y z h = refl

-- calls that go on alike
onward-same : {A S : Type 0} (s : S) (o : Outcome S) (f g : S → After A S) → ((t : S) → o ≡ gives t → f t ≡ g t) → onward s o f ≡ onward s o g
onward-same s (gives t) f g h = h t refl
onward-same s (refuses n) f g h = refl

-- calls that begin with `advance`
entering-same : {A : Type 0} (v : View) (m : Lent) (block now : ℕ) (next f : View → After A View) → Sound v → ((w : View) → admitted v m block now ≡ gives w → next (walked w) ≡ f (walked w))
    → entering v m block now next ≡ onward v (admitted v m block now) (λ w. f (walked w))
entering-same v m block now next f h k =
    onward-same v (admitted v m block now) (λ w. looping w (unasked w.transfers) next) (λ w. f (walked w))
    (λ w e. let sound = admitted-kept v m block now e h in unmarked_walks w next (sound_round w sound) (sound_proper w sound) ∙ k w e)

-- searches that go on alike with what is found, which passes the test
seek_passing : {X : Type 0} (test : Transfer → Bool) (l : List Transfer) (nothing : X) (f g : ℕ → Transfer → X)
    → ((i : ℕ) → i < length l → test (get_or l i blank_transfer) ≡ true → f i (get_or l i blank_transfer) ≡ g i (get_or l i blank_transfer)) → seek test l nothing f ≡ seek test l nothing g
seek_passing test l nothing f g h =
    let i = position test l in
    let x = get_or l i blank_transfer in
    cond_same (ltb i (length l)) (f i x) (g i x) nothing (λ e. let lt = ltb-true i (length l) e in h i lt (position-found test blank_transfer l lt))

-- and whatever is found
seek-same : {X : Type 0} (test : Transfer → Bool) (l : List Transfer) (nothing : X) (f g : ℕ → Transfer → X) → ((i : ℕ) → i < length l → f i (get_or l i blank_transfer) ≡ g i (get_or l i blank_transfer)) → seek test l nothing f ≡ seek test l nothing g
seek-same test l nothing f g h = seek_passing test l nothing f g (λ i lt t. h i lt)

-- calls that go on alike and write to the lent memory
goes_on_same : {A B : Type 0} (v : View) (m : Lent) (o : Outcome A) (f g : A → Out B) → ((a : A) → o ≡ gives a → f a ≡ g a) → goes_on v m o f ≡ goes_on v m o g
goes_on_same v m (gives a) f g h = h a refl
goes_on_same v m (refuses n) f g h = refl

-- each of a list made alike
map_alike : {A B : Type 0} (f g : A → B) → ((x : A) → f x ≡ g x) → (l : List A) → map f l ≡ map g l
map_alike f g h [] = refl
map_alike f g h (x ∷ l) = ap₂ (λ (y : _) (m : List _). y ∷ m) (h x) (map_alike f g h l)

-- ---- enqueue

-- a message that is cut under echo 0 is cut under every echo
cut_echo : (channel : Channel) (i : MobileIdentity) (message : List ℕ) (echo : ℕ) → echo < 128 → count_of (header_of channel echo false) i message ≡ count_of (header_of channel 0 false) i message
unfolding count_of
cut_echo channel i message echo h = rw (le-ltb 127 echo (omega arith))

-- what the tests let through goes on, the last of them as the definition has it
asks_on : {A B C : Type 0} (v : View) (m : Lent) (a b c d : Bool) (o : Outcome A) (f : A → Out C) (g : A → Outcome B) (k : B → Out C) → ((n : A) → o ≡ gives n → f n ≡ goes_on v m (g n) k)
    → goes_on v m (refuse a 20 (refuse b 23 (refuse c 1 (refuse d 20 o)))) f ≡ goes_on v m (refuse a 20 (refuse b 23 (refuse c 1 (refuse d 20 (and_then o g))))) k
asks_on v m true b c d o f g k h = refl
asks_on v m false true c d o f g k h = refl
asks_on v m false false true d o f g k h = refl
asks_on v m false false false true o f g k h = refl
asks_on v m false false false false (gives n) f g k h = h n refl
asks_on v m false false false false (refuses n) f g k h = refl

-- no more are live than the capacity, so at capacity is as many
at_capacity : (live capacity : ℕ) → live ≤ capacity → eqb live capacity ≡ leb capacity live
at_capacity live capacity h = go (eqb live capacity) refl
  where
    go : (b : Bool) → eqb live capacity ≡ b → b ≡ leb capacity live
    go true e = sym (le-leb capacity live (omega (arith, eqb-true live capacity e)))
    go false e = sym (lt-leb capacity live (⊎_elim (λ l. l) (⊎_elim (λ q. absurd (eqb-false live capacity e q)) (λ l. absurd (omega arith))) (compared live capacity)))

module _ (w : View) (m : Lent) (r : Request) (message : List ℕ) (h : Sound w) where
  -- the cut under the echo that was found, and the transfer that is put at the back
  abbrev cuts_again : ℕ × Echoes → Out TransferToken
  cuts_again a =
      let u = with_echoes w a.1 in
      goes_on u m (count_of (header_of r.channel a.0 false) r.identity message) (λ count. pushes_literal u m r message a.0 count)

  -- with an echo found
  pushes-accepts : (count : ℕ) → count_of (header_of r.channel 0 false) r.identity message ≡ gives count → (o : Option ℕ) → free_echo w.echoes w.clock.last_ms ≡ o
      → goes_on w m (takes_literal w.echoes (held_until w.limits r.deadline_ms) o) cuts_again ≡ goes_on w m (granted count o) (accepts w m r message)
  unfolding accepts
  pushes-accepts count c None e = refl
  pushes-accepts count c (Some echo) e =
      let u = with_echoes w (hold w.echoes echo (held_until w.limits r.deadline_ms)) in
      let v = replaced u r.identity in
      let n = lowest_n v.transfers in
      let t = w.next_token in
      let low = (free_now w.echoes h.echoes h.next_echo w.clock.last_ms e).0 in
      let out : Transfer → Out TransferToken = λ x. record { outcome = gives (record { 0 = t }); sender = kept (token_taken v) x; lent = record { octets = stored m.octets n message; words = m.words } } in
      ap (λ (o : Outcome ℕ). goes_on u m o (λ count. pushes_literal u m r message echo count)) (cut_echo r.channel r.identity message echo low ∙ c)
      ∙ ap out (starts_begun (parcel_of r message count n t) echo t)

  -- `allocate_echo` and what follows
  allocates : (count : ℕ) → count_of (header_of r.channel 0 false) r.identity message ≡ gives count
      → goes_on w m (allocate_literal w w.clock.last_ms r.deadline_ms) cuts_again ≡ goes_on w m (allocated w.limits w.clock w.echoes r.deadline_ms count) (accepts w m r message)
  allocates count c =
      let until = held_until w.limits r.deadline_ms in
      let free = free_echo w.echoes w.clock.last_ms in
      ap (λ (o : Option ℕ). goes_on w m (refuse (ltb w.clock.last_block w.limits.startup_until_block) 21 (refuse (ltb stop until) 23 (takes_literal w.echoes until o))) cuts_again) (search-literal w.echoes h.echoes h.next_echo w.clock.last_ms)
      ∙ go (ltb w.clock.last_block w.limits.startup_until_block) (ltb stop until)
    where
      go : (a b : Bool) → let until = held_until w.limits r.deadline_ms in let free = free_echo w.echoes w.clock.last_ms in goes_on w m (refuse a 21 (refuse b 23 (takes_literal w.echoes until free))) cuts_again ≡ goes_on w m (refuse a 21 (refuse b 23 (granted count free))) (accepts w m r message)
      go true b = refl
      go false true = refl
      go false false = pushes-accepts count c (free_echo w.echoes w.clock.last_ms) refl

  -- all of it
  enqueues : goes_on w m (asks_literal w r message) (λ first. goes_on w m (allocate_literal w w.clock.last_ms r.deadline_ms) cuts_again) ≡ goes_on w m (grant_of w r message) (accepts w m r message)
  unfolding grant_of
  enqueues =
      rw (at_capacity (length w.transfers) w.limits.capacity h.live)
      (asks_on w m (leb w.limits.capacity (length w.events)) (leb r.deadline_ms w.clock.last_ms) (eqb (length message) 0)
      (not (any (addressed r.identity) w.transfers) && leb w.limits.capacity (length w.transfers))
      (count_of (header_of r.channel 0 false) r.identity message)
      (λ first. goes_on w m (allocate_literal w w.clock.last_ms r.deadline_ms) cuts_again)
      (allocated w.limits w.clock w.echoes r.deadline_ms) (accepts w m r message) allocates)

-- `enqueue`
pub enqueue-literal : (v : View) (m : Lent) (r : Request) (message : List ℕ) (block now : ℕ) → Sound v → enqueue_literal v m r message block now ≡ enqueue_of v m r message block now
unfolding enqueue_literal enqueue_of
enqueue-literal v m r message block now h =
    goes_on_same v m (admitted v m block now) _ _ (λ w e.
    let c : w.clock.last_ms ≡ now = ap (λ (c : Clock). c.last_ms) (admitted_at v m block now e) in
    let k = admitted-kept v m block now e h in
    ap (λ (n : ℕ). goes_on w m (asks_literal w r message) (λ first. goes_on w m (allocate_literal w n r.deadline_ms) (cuts_again w m r message k))) (sym c) ∙ enqueues w m r message k)

-- ---- the calls that advance

-- `advance`
pub advance-literal : (v : View) (m : Lent) (block now : ℕ) → Sound v → advance_literal v m block now ≡ advance_of v m block now
unfolding advance_literal advance_of
advance-literal v m block now h = entering-same v m block now (says tt) (says tt) h (λ w e. refl)

-- what is encoded is selected
selects-literal : (v : View) (x : Transfer) (o : Outcome PackedFrame) → selects_literal v x (front x.sets.queue) o ≡ selects v x o
selects-literal v x (gives p) = refl
selects-literal v x (refuses n) = refl

-- the front of a queue as a list
front-literal : (v : View) (x : Transfer) (octets : List ℕ) → is_ready x ≡ true → SetsAgree x → x.parcel.frames ≤ 27 → front_literal v x octets (frames_of x.sets.queue) ≡ selects v x (front_of x octets)
front-literal v x octets ready s most =
    let q = x.sets.queue in
    let some-queued : 0 < q = ready_some x ready in
    let low : q < 2 ^ 27 = omega (arith, s.queue, pow_mono {i = x.parcel.frames} {j = 27} most) in
    let r = listed_front q some-queued low in
    ap (front_literal v x octets) r.1
    ∙ (ap (λ (b : Bool). selects_literal v x (front q) (packed_of x octets (front q) b)) r.2 ∙ selects-literal v x (front_of x octets))

-- `prepare` after its `advance`
choose-literal : (v : View) (octets : List ℕ) → Sound v → choose_literal v octets v.selected ≡ choose v octets
unfolding choose
choose-literal v octets h = go v.selected
  where
    go : (s : Option PreparedFrame) → choose_literal v octets s ≡ choose_from v octets s
    go (Some f) = refl
    go None =
        seek_passing is_ready v.transfers (says None v) (λ place x. front_literal v x octets (frames_of x.sets.queue)) (λ place x. selects v x (front_of x octets)) (λ i lt t.
        let x = get_or v.transfers i blank_transfer in
        let live = all-at v.transfers i blank_transfer lt h.transfers in
        front-literal v x octets t live.sets (frames_live x live).1)

-- `prepare`
pub prepare-literal : (v : View) (m : Lent) (block now : ℕ) → Sound v → prepare_literal v m block now ≡ prepare_of v m block now
unfolding prepare_literal prepare_of
prepare-literal v m block now h =
    entering-same v m block now (λ w. choose_literal w m.octets w.selected) (λ w. choose w m.octets) h (λ w e. choose-literal (walked w) m.octets (admitted-walked-kept v m block now e h))

-- an idle transfer's last frame is queued again
pushed_literal : (x : Transfer) (t : Bool) → cond (idle x && t) (last_pushed x) x ≡ cond (idle x && t) (last_queued x) x
pushed_literal x t = go (idle x) refl
  where
    go : (i : Bool) → idle x ≡ i → cond (i && t) (last_pushed x) x ≡ cond (i && t) (last_queued x) x
    go true e = ap (λ (y : Transfer). cond t y x) (pushed_alone x e)
    go false e = refl

-- the oldest is served
served-literal : (v : View) (s : Option PreparedFrame) → served_literal v s ≡ oldest_first v s
served-literal v None = fronted-literal v.clock.last_block v.transfers v refl
served-literal v (Some f) = refl

-- `refresh_waiting`
pub refresh-waiting-literal : (v : View) (m : Lent) (block now : ℕ) → Sound v → refresh_waiting_literal v m block now ≡ refresh_waiting_of v m block now
unfolding refresh_waiting_literal refresh_waiting_of queue_waiting serve_oldest
refresh-waiting-literal v m block now h =
    entering-same v m block now refreshes (λ w. says tt (serve_oldest (queue_waiting w))) h (λ w e.
    let u = walked w in
    let b : u.clock.last_block ≡ block = ap (λ (c : Clock). c.last_block) (walked_at v m block now e h) in
    let served : List Transfer → View = λ l. served_literal (with_transfers u l) u.selected in
    ap (says tt)
    (ap (λ (n : ℕ). served (map (refresh_literal n) u.transfers)) (sym b)
    ∙ (ap served (map_alike (refresh_literal u.clock.last_block) (refreshed u.clock.last_block) (λ x. pushed_literal x (passed 16 u.clock.last_block x.blocks.last_frame)) u.transfers)
    ∙ served-literal (with_transfers u (map (refreshed u.clock.last_block) u.transfers)) u.selected)))
  where
    refreshes : View → After Unit View
    refreshes w = let u = with_transfers w (map (refresh_literal block) w.transfers) in says tt (served_literal u u.selected)

-- the mark on the first transfer of an echo asks for what the echo asks
marked_asked : (echo : ℕ) (l : List Transfer) → let i = position (of_echo echo) l in i < length l → set (unasked l) i (true, get_or l i blank_transfer) ≡ asked_for echo l
marked_asked echo [] h = absurd (omega arith)
marked_asked echo (x ∷ l) h = go (of_echo echo x) h (marked_asked echo l)
  where
    p : ℕ
    p = position (of_echo echo) l

    go : (b : Bool) → cond b 0 (suc p) < suc (length l) → (p < length l → set (unasked l) p (true, get_or l p blank_transfer) ≡ asked_for echo l)
        → set ((false, x) ∷ unasked l) (cond b 0 (suc p)) (true, get_or (x ∷ l) (cond b 0 (suc p)) blank_transfer) ≡ cond b ((true, x) ∷ unasked l) ((false, x) ∷ asked_for echo l)
    go true h f = refl
    go false h f = ap (λ (m : List (Bool × Transfer)). (false, x) ∷ m) (f (omega arith))

-- `interrupt`: the mark is what the definition asks for
pub interrupt-literal : (v : View) (m : Lent) (echo block now : ℕ) → Sound v → interrupt_literal v m echo block now ≡ interrupt_of v m echo block now
unfolding interrupt_literal interrupt_of
interrupt-literal v m echo block now h =
    onward-same v (admitted v m block now) _ _ (λ w e.
    let l = w.transfers in
    let i = position (of_echo echo) l in
    let x = get_or l i blank_transfer in
    let marks : View → After Bool View = λ u. looping u (set (unasked u.transfers) i (true, x)) (says true) in
    let asks = says true (walk w (asked_for echo l)) in
    let sound = admitted-kept v m block now e h in
    cond_same (ltb i (length l)) (onward w (ticked w block now) marks) asks (says false w) (λ o.
    ap (λ (z : Outcome View). onward w z marks) (ticked-same w block now (admitted_at v m block now e))
    ∙ (ap (λ (z : List (Bool × Transfer)). looping w z (says true)) (marked_asked echo l (ltb-true i (length l) o))
    ∙ looping_walks w (asked_for echo l) (says true) (sound_round w sound) (subst (All (Proper w.limits w.clock)) (sym (asked_for_all echo l)) (sound_proper w sound))))
    ∙ ap (λ (z : Bool). cond z asks (says false w)) (sym (any_found (of_echo echo) l)))

-- `prepare_prioritized`: its second `advance` changes nothing
pub prepare-prioritized-literal : (v : View) (m : Lent) (echo block now : ℕ) → Sound v → prepare_prioritized_literal v m echo block now ≡ prepare_prioritized_of v m echo block now
unfolding prepare_prioritized_literal prepare_prioritized_of prioritize_at
prepare-prioritized-literal v m echo block now h =
    entering-same v m block now (λ w. seek (of_echo echo) w.transfers (says None w) (found w)) (λ w. seek (of_echo echo) w.transfers (says None w) (prioritized w m.octets echo)) h
    (λ u e. let w = walked u in seek-same (of_echo echo) w.transfers (says None w) (found w) (prioritized w m.octets echo) (same u e))
  where
    first : View → ℕ → Transfer → View
    first w place y = with_selected (with_transfers w (y ∷ remove_at place w.transfers)) (only_echo echo w.selected)

    goes : View → ℕ → Transfer → After (Option PreparedFrame) View
    goes w place y = cond (is_ready y) (advancing (first w place y) block now (λ u. choose_literal u m.octets u.selected)) (says None (first w place y))

    found : View → ℕ → Transfer → After (Option PreparedFrame) View
    found w place x = goes w place (cond (idle x && is_set x.blocks.last_frame) (last_pushed x) x)

    same : (u : View) → admitted v m block now ≡ gives u → (i : ℕ) → i < length (walked u).transfers → let x = get_or (walked u).transfers i blank_transfer in found (walked u) i x ≡ prioritized (walked u) m.octets echo i x
    same u e i lt =
        let w = walked u in
        let x = get_or w.transfers i blank_transfer in
        let z = first w i (repeated x) in
        let sound = prioritized-kept w i echo x lt refl (admitted-walked-kept v m block now e h) in
        let chooses : View → After (Option PreparedFrame) View = λ u. choose_literal u m.octets u.selected in
        ap (goes w i) (pushed_literal x (is_set x.blocks.last_frame))
        ∙ cond_same (is_ready (repeated x)) (advancing z block now chooses) (choose z m.octets) (says None z) (λ o.
        advancing_walks z block now chooses (walked_at v m block now e h) (sound_round z sound) (sound_proper z sound)
        ∙ (ap chooses (prioritized-walked u i (only_echo echo w.selected) (admitted-kept v m block now e h) lt) ∙ choose-literal z m.octets sound))

-- `submitted_message`
pub submitted-message-literal : (v : View) (t : FrameToken) → Sound v → submitted_message_literal v t ≡ submitted_message_of v t
unfolding submitted_message_literal submitted_message_of
submitted-message-literal v t h =
    seek-same (of_generation t.generation) v.transfers None (λ place x. answer x (each x.parcel.frames (λ k. has x.sets.transmitted k || has x.sets.in_flight k))) (λ place x. answer x (full x.parcel.frames (went_out x)))
    (λ i lt. let x = get_or v.transfers i blank_transfer in ap (answer x) (each_out x (all-at v.transfers i blank_transfer lt h.transfers).sets))
  where
    answer : Transfer → Bool → Option ℕ
    answer x b = cond b (Some x.parcel.completion) None

-- `transmitted`: its `settle` changes nothing
pub transmitted-literal : (v : View) (m : Lent) (t : FrameToken) (block now : ℕ) → Sound v → transmitted_literal v m t block now ≡ transmitted_of v m t block now
unfolding transmitted_literal transmitted_of transmitted_at
transmitted-literal v m t block now h =
    onward-same v (admitted v m block now) _ _ (λ w e. seek-same (of_generation t.generation) w.transfers (says None w) (found w) (λ place x. cond (is_outstanding t m.words x) (confirms w t place x) (says None w)) (same w e))
  where
    found : View → ℕ → Transfer → After (Option Bool) View
    found w place x =
        let y = confirm_frame t.frame x in
        cond (is_outstanding t m.words x) (advancing (put_at w place (settle_literal block y)) block now (says (Some (each y.parcel.frames (has y.sets.transmitted))))) (says None w)

    same : (w : View) → admitted v m block now ≡ gives w → (i : ℕ) → i < length w.transfers → let x = get_or w.transfers i blank_transfer in found w i x ≡ cond (is_outstanding t m.words x) (confirms w t i x) (says None w)
    same w e i lt =
        let x = get_or w.transfers i blank_transfer in
        let y = confirm_frame t.frame x in
        let sound = admitted-kept v m block now e h in
        cond_same (is_outstanding t m.words x) (advancing (put_at w i (settle_literal block y)) block now (says (Some (each y.parcel.frames (has y.sets.transmitted))))) (confirms w t i x) (says None w) (λ o.
        let k = confirmed_live x (all-at w.transfers i blank_transfer lt sound.transfers) t.frame (outstanding_frame t m.words x o) in
        settled-advancing w i y block now (says (Some (each y.parcel.frames (has y.sets.transmitted)))) (admitted_at v m block now e) lt k sound
        ∙ ap (λ (b : Bool). says (Some b) (walked (put_at w i y))) (each-full y.parcel.frames y.sets.transmitted k.sets.transmitted))

-- a test the other way round
neither_cond : {X : Type 0} (a b : Bool) (x y : X) → cond (not a && not b) y x ≡ cond (a || b) x y
neither_cond true b x y = refl
neither_cond false true x y = refl
neither_cond false false x y = refl

-- `status`: its `settle` changes nothing
pub status-literal : (v : View) (m : Lent) (s : ArqStatus) (block now : ℕ) → Sound v → status_literal v m s block now ≡ status_of v m s block now
unfolding status_literal status_of status_at
status-literal v m s block now h =
    entering-same v m block now (λ w. seek (of_echo s.partial_echo) w.transfers (says false w) (found w)) (λ w. seek (of_echo s.partial_echo) w.transfers (says false w) (shows w)) h
    (λ u e. let w = walked u in seek-same (of_echo s.partial_echo) w.transfers (says false w) (found w) (shows w) (same u e))
  where
    goes : View → ℕ → Transfer → After Bool View
    goes w place y = advancing (put_at w place (settle_literal block y)) block now (says true)

    found : View → ℕ → Transfer → After Bool View
    found w place x = cond (not (has x.sets.transmitted 0) && not (has x.sets.in_flight 0)) (says false w) (goes w place (observes_literal s.received_frames block x))

    shows : View → ℕ → Transfer → After Bool View
    shows w place x = cond (has (went_out x) 0) (says true (walked (put_at w place (observes s.received_frames w.clock.last_block x)))) (says false w)

    same : (u : View) → admitted v m block now ≡ gives u → (i : ℕ) → i < length (walked u).transfers → let x = get_or (walked u).transfers i blank_transfer in found (walked u) i x ≡ shows (walked u) i x
    same u e i lt =
        let w = walked u in
        let x = get_or w.transfers i blank_transfer in
        let c = walked_at v m block now e h in
        let sound = admitted-walked-kept v m block now e h in
        let live = all-at w.transfers i blank_transfer lt sound.transfers in
        let y : ℕ → Transfer = λ n. observes s.received_frames n x in
        let z = observes_literal s.received_frames block x in
        let b : w.clock.last_block ≡ block = ap (λ (z : Clock). z.last_block) c in
        neither_cond (has x.sets.transmitted 0) (has x.sets.in_flight 0) (goes w i z) (says false w)
        ∙ (ap (λ (t : Bool). cond t (goes w i z) (says false w)) (sym (has_or x.sets.transmitted x.sets.in_flight 0))
        ∙ cond_same (has (went_out x) 0) (goes w i z) (says true (walked (put_at w i (y w.clock.last_block)))) (says false w) (λ o.
        ap (goes w i) (observes-literal s.received_frames block x live.sets (frames_live x live).1)
        ∙ (settled-advancing w i (y block) block now (says true) c lt (subst (λ (n : ℕ). Live w.limits w.clock w.echoes w.next_token (y n)) b (observed_live x live s.received_frames o)) sound
        ∙ ap (λ (n : ℕ). says true (walked (put_at w i (y n)))) (sym b))))
