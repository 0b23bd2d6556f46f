-- What single definitions answer, on every state, in plain numbers: a definition that is changed together with its code meets its contract, and
-- fails here. The search for an echo is in EchoSearch (`free_least`, `none_free`), what calls leave in Leaves. Assumes nothing.
use Rattle.std.proofs.Common.{◌≡◌, ℕ, zero, suc, ◌+◌, ◌-◌, ◌*◌, ◌^◌, ◌<◌, ◌≤◌, Bool, true, false, cond, not, ◌&&◌, ◌||◌, eqb, ltb, leb, ◌≢◌, ◌⊎◌, ◌↔◌, List, [], ◌∷◌, ◌++◌, map, length, get_or, take, drop, bit_and, bit_or, Some, None, Option, sym, refl, ap, ◌∙◌, subst, inl, inr, ⊎_elim, arith, length-append, length-drop, length-take-le, get_or-drop, get_or-take, get_or-append-add, ltb-false, ltb-true, le-ltb, lt-ltb, eq-eqb, ne_eqb, eqb-true, le-leb, leb-false, leb-true}
use Rattle.std.proofs.lemmas.Bool.{both_ways, cases_Bool, cond-false, cond-true}
use lib.Count.{ones}
use lib.ListN.{get_or-append}
use borrow.Author.Tests.{eqb-false, not-true, not-false}
use Rattle.rach.specs.declared.MobileIdentity.{MobileIdentity}
use Rattle.rach.proofs.Laws.{same_self, same_equal}
use Rattle.spach.specs.declared.Channel.{Channel}
use Rattle.spach.specs.Refusal.{Outcome, gives, refuses, and_then, After}
use Rattle.receiver.proofs.Maps.{compared}
use Rattle.arq.specs.declared.PackedFrame.{PackedFrame}
use Rattle.arq.specs.declared.ResponseMode.TheVariants.{Contention}
use Rattle.arq.specs.Cut.{frame_of}
use Rattle.arq.specs.Encode.{encode_of}
use Rattle.transfer.specs.declared.FrameToken.{FrameToken}
use Rattle.transfer.specs.declared.Generation.{Generation}
use Rattle.transfer.specs.declared.Parcel.{Parcel}
use Rattle.transfer.specs.declared.Transfer.{Transfer}
use Rattle.transfer.specs.declared.PreparedFrame.{PreparedFrame}
use Rattle.transfer.specs.declared.Request.{Request}
use Rattle.transfer.specs.Lists.{position, any, remove_at, push_back}
use Rattle.transfer.specs.Queue.{is_empty, has, continues_of, frame_alone, front}
use Rattle.transfer.specs.State.{View, with_transfers, with_selected, says, blank_transfer, of_echo, unselect}
use Rattle.transfer.specs.Transfer.{passed, is_set, or_from, header_of, idle, last_queued, done_of, requeued, waits, settle_of, restart_due, begun}
use Rattle.transfer.specs.Advance.{restart}
use Rattle.transfer.specs.Echo.{free}
use Rattle.transfer.specs.Enqueue.{addressed, lowest_from, lowest_n, parcel_of, stored}
use Rattle.transfer.specs.Prepare.{is_ready, packed_of, front_of, prepared_of, selects, choose_from, choose, has_echo_of, repeated, only_echo, prioritized, prioritize_at}
use Rattle.transfer.specs.Submitted.{matches, is_selected, in_flight_lem, is_outstanding, confirm_frame}
use Rattle.transfer.specs.Status.{shown, observes}
use Rattle.transfer.specs.Refresh.{refreshed, queue_waiting, blocks_since, age_of, oldest_from, oldest, to_front, oldest_first, serve_oldest}
use Rattle.transfer.specs.Queries.{can_enqueue_of, radio_active_of, ready_of, contains_of, pending_of}
use Rattle.transfer.specs.Invariant.{All, Any, Sound}
use Rattle.transfer.proofs.Bitsets.{bit_none, bit_first, below_bits, bit_lacks, has_or, has_and, has_alone, has_added, has-without}
use Rattle.transfer.proofs.Frames.{has-continues, has_firsts}
use Rattle.transfer.proofs.Listed.{all_head, some-map, some_all, any-true, any_false, position-found, position_before}
use Rattle.transfer.proofs.Invariant.{lowest_free}
use Rattle.transfer.proofs.Calls.{prioritized-kept}
use Rattle.transfer.proofs.Refusals.{choose_none_exactly}
use Rattle.transfer.proofs.Literal.{shown-has}
use Rattle.transfer.proofs.Leaves.{view}

-- ---- tests

-- each of several tests says what it says
three : {A B C : Type 0} (a b c : Bool) → (a ≡ true) ↔ A → (b ≡ true) ↔ B → (c ≡ true) ↔ C → ((a && (b && c)) ≡ true) ↔ (A × B × C)
three true true c f g h = ((λ e. (f.0 refl, g.0 refl, h.0 e)), (λ k. h.1 k.2))
three true false c f g h = ((λ e. absurd (both_ways false refl e)), (λ k. g.1 k.1))
three false b c f g h = ((λ e. absurd (both_ways false refl e)), (λ k. f.1 k.0))

four : {A B C D : Type 0} (a b c d : Bool) → (a ≡ true) ↔ A → (b ≡ true) ↔ B → (c ≡ true) ↔ C → (d ≡ true) ↔ D → ((a && (b && (c && d))) ≡ true) ↔ (A × B × C × D)
four true b c d f g h i = let k = three b c d g h i in ((λ e. let w = k.0 e in (f.0 refl, w.0, w.1, w.2)), (λ w. k.1 (w.1, w.2, w.3)))
four false b c d f g h i = ((λ e. absurd (both_ways false refl e)), (λ k. f.1 k.0))

-- two numbers are the same
equal_exactly : (a b : ℕ) → (eqb a b ≡ true) ↔ (a ≡ b)
equal_exactly a b = (eqb-true a b, eq-eqb a b)

-- one is below the other
below_exactly : (a b : ℕ) → (ltb a b ≡ true) ↔ (a < b)
below_exactly a b = (ltb-true a b, lt-ltb a b)

-- ---- blocks

-- a block is there, and at least so many have passed since
abbrev pub Since≥ : (limit block : ℕ) → Option ℕ → Type 0
Since≥ limit block s = (b : ℕ) × (s ≡ Some b) × (limit ≤ block - b)

passed_since : (limit block : ℕ) (s : Option ℕ) → (passed limit block s ≡ true) ↔ Since≥ limit block s
passed_since limit block None = ((λ e. absurd (both_ways false refl e)), (λ h. let q : None ≡ Some h.0 = h.1 in let z : ◌≡◌ {A = ℕ} 0 1 = cc in absurd (omega arith)))
passed_since limit block (Some b) = (
  (λ e. (b, refl, leb-true limit (block - b) e)),
  (λ h. let q : b ≡ h.0 = same h.1 in le-leb limit (block - b) (subst (λ (n : ℕ). limit ≤ block - n) (sym q) h.2)),
)
  where
    same : {m n : ℕ} → Some m ≡ Some n → m ≡ n
    same e = cc

-- a restart is due exactly 64 blocks after the last progress or after waiting began
pub restart-due_exactly : (block : ℕ) (x : Transfer) → (restart_due block x ≡ true) ↔ (Since≥ 64 block x.blocks.last_progress ⊎ Since≥ 64 block x.blocks.waiting_since)
restart-due_exactly block x = go (passed 64 block x.blocks.last_progress) (passed 64 block x.blocks.waiting_since) (passed_since 64 block x.blocks.last_progress) (passed_since 64 block x.blocks.waiting_since)
  where
    go : {A B : Type 0} (p q : Bool) → (p ≡ true) ↔ A → (q ≡ true) ↔ B → ((p || q) ≡ true) ↔ (A ⊎ B)
    go true q a b = ((λ e. inl (a.0 refl)), (λ h. refl))
    go false q a b = ((λ e. inr (b.0 e)), ⊎_elim (λ h. absurd (both_ways false refl (a.1 h))) (λ h. b.1 h))

-- ---- settle

-- parcel, generation and echo stay
abbrev pub SameOrder : (x y : Transfer) → Type 0
SameOrder x y = (y.parcel ≡ x.parcel) × (y.generation ≡ x.generation) × (y.echo ≡ x.echo)

-- with nothing queued or in flight and a status, not done: every Continue that is not observed is queued, and no other frame; so not the Begin. The
-- status is used up, it waits no more, and nothing else is another
pub requeues_exactly : (block : ℕ) (x : Transfer) → x.sets.queue ≡ 0 → x.sets.in_flight ≡ 0 → done_of x ≡ false → x.sets.received_status ≡ true → let y = settle_of block x in
    ((k : ℕ) → has y.sets.queue k ≡ ((ltb 0 k && ltb k x.parcel.frames) && not (has x.sets.observed k)))
    × (y.sets.in_flight ≡ x.sets.in_flight) × (y.sets.transmitted ≡ x.sets.transmitted) × (y.sets.observed ≡ x.sets.observed) × (y.sets.received_status ≡ false)
    × (y.blocks.last_progress ≡ x.blocks.last_progress) × (y.blocks.last_frame ≡ x.blocks.last_frame) × (y.blocks.waiting_since ≡ None) × SameOrder x y
unfolding settle_of
requeues_exactly block x q f d s =
    let i : idle x ≡ true = rw (q, f) refl in
    let n : (not (idle x) || done_of x) ≡ false = rw (i, d) refl in
    let e : settle_of block x ≡ requeued x = cond-false _ x (cond x.sets.received_status (requeued x) (waits block x)) n ∙ cond-true _ (requeued x) (waits block x) s in (
      (λ k. ap (λ (y : Transfer). has y.sets.queue k) e ∙ (has-without (continues_of x.parcel.frames) x.sets.observed k ∙ ap (λ (t : Bool). t && not (has x.sets.observed k)) (has-continues x.parcel.frames k))),
      ap (λ (y : Transfer). y.sets.in_flight) e,
      ap (λ (y : Transfer). y.sets.transmitted) e,
      ap (λ (y : Transfer). y.sets.observed) e,
      ap (λ (y : Transfer). y.sets.received_status) e,
      ap (λ (y : Transfer). y.blocks.last_progress) e,
      ap (λ (y : Transfer). y.blocks.last_frame) e,
      ap (λ (y : Transfer). y.blocks.waiting_since) e,
      (ap (λ (y : Transfer). y.parcel) e, ap (λ (y : Transfer). y.generation) e, ap (λ (y : Transfer). y.echo) e),
    )

-- with a frame queued or in flight, or done, it stays as it is
pub settle_stays : (block : ℕ) (x : Transfer) → ((x.sets.queue ≢ 0) ⊎ (x.sets.in_flight ≢ 0)) ⊎ (done_of x ≡ true) → settle_of block x ≡ x
unfolding settle_of
settle_stays block x h =
    cond-true _ x (cond x.sets.received_status (requeued x) (waits block x)) (⊎_elim (⊎_elim (λ n. busy (is_empty x.sets.queue) (is_empty x.sets.in_flight) (inl (ne_eqb x.sets.queue 0 n))) (λ n. busy (is_empty x.sets.queue) (is_empty x.sets.in_flight) (inr (ne_eqb x.sets.in_flight 0 n)))) (λ d. late (not (idle x)) d) h)
  where
    busy : (p q : Bool) → (p ≡ false) ⊎ (q ≡ false) → (not (p && q) || done_of x) ≡ true
    busy true true (inl e) = absurd (both_ways true e refl)
    busy true true (inr e) = absurd (both_ways true e refl)
    busy true false e = refl
    busy false q e = refl

    late : (p : Bool) → done_of x ≡ true → (p || done_of x) ≡ true
    late true d = refl
    late false d = d

-- done: a status came, nothing is in flight, as many frames are transmitted as there are, and one fewer observed
pub done_exactly : (x : Transfer) → (done_of x ≡ true) ↔ ((x.sets.received_status ≡ true) × (x.sets.in_flight ≡ 0) × (ones x.sets.transmitted ≡ x.parcel.frames) × (ones x.sets.observed ≡ x.parcel.frames - 1))
unfolding done_of
done_exactly x =
    four x.sets.received_status (eqb x.sets.in_flight 0) (eqb (ones x.sets.transmitted) x.parcel.frames) (eqb (ones x.sets.observed) (x.parcel.frames - 1))
    ((λ e. e), (λ e. e))
    (equal_exactly x.sets.in_flight 0)
    (equal_exactly (ones x.sets.transmitted) x.parcel.frames)
    (equal_exactly (ones x.sets.observed) (x.parcel.frames - 1))

-- without a status it waits, from this block on unless it does so already, and nothing else is another
pub waits_exactly : (block : ℕ) (x : Transfer) → x.sets.queue ≡ 0 → x.sets.in_flight ≡ 0 → x.sets.received_status ≡ false → let y = settle_of block x in
    (y.sets ≡ x.sets) × SameOrder x y × (y.blocks.last_progress ≡ x.blocks.last_progress) × (y.blocks.last_frame ≡ x.blocks.last_frame)
    × (((x.blocks.waiting_since ≡ None) × (y.blocks.waiting_since ≡ Some block)) ⊎ ((b : ℕ) × (x.blocks.waiting_since ≡ Some b) × (y.blocks.waiting_since ≡ Some b)))
unfolding settle_of done_of
waits_exactly block x q f s =
    let i : idle x ≡ true = rw (q, f) refl in
    let d : (not (idle x) || done_of x) ≡ false = rw (i, s) refl in
    let e : settle_of block x ≡ waits block x = cond-false _ x (cond x.sets.received_status (requeued x) (waits block x)) d ∙ cond-false _ (requeued x) (waits block x) s in
    (ap (λ (y : Transfer). y.sets) e, (ap (λ (y : Transfer). y.parcel) e, ap (λ (y : Transfer). y.generation) e, ap (λ (y : Transfer). y.echo) e), ap (λ (y : Transfer). y.blocks.last_progress) e, ap (λ (y : Transfer). y.blocks.last_frame) e, go x.blocks.waiting_since (ap (λ (y : Transfer). y.blocks.waiting_since) e))
  where
    go : (w : Option ℕ) {n : Option ℕ} → n ≡ or_from block w → ((w ≡ None) × (n ≡ Some block)) ⊎ ((b : ℕ) × (w ≡ Some b) × (n ≡ Some b))
    go None e = inl (refl, e)
    go (Some b) e = inr (b, refl, e)

-- ---- a transfer begins, and begins again

-- under this echo and generation every frame is queued, and nothing is left of before: so an age counts from a frame under the present echo
pub begins_exactly : (p : Parcel) (echo generation : ℕ) → let y = begun p echo generation in
    (y.parcel ≡ p) × (y.echo ≡ echo) × (y.generation.0 ≡ generation) × ((k : ℕ) → has y.sets.queue k ≡ ltb k p.frames) × (y.sets.in_flight ≡ 0) × (y.sets.transmitted ≡ 0) × (y.sets.observed ≡ 0) × (y.sets.received_status ≡ false)
    × (y.blocks.last_progress ≡ None) × (y.blocks.last_frame ≡ None) × (y.blocks.waiting_since ≡ None)
begins_exactly p echo generation = (refl, refl, refl, has_firsts p.frames, refl, refl, refl, refl, refl, refl, refl)

-- what `enqueue` makes of a request: identity, completion, deadline and channel are the request's, in full
pub parcel_exactly : (r : Request) (message : List ℕ) (frames n owner : ℕ) → let p = parcel_of r message frames n owner in
    (p.identity ≡ r.identity) × (p.completion ≡ r.completion) × (p.deadline_ms ≡ r.deadline_ms) × (p.owner.0 ≡ owner) × (p.channel ≡ r.channel)
    × (p.octets ≡ length message) × (p.frames ≡ frames) × (p.n ≡ n)
parcel_exactly r message frames n owner = (refl, refl, refl, refl, refl, refl, refl, refl)

-- a restart with a free echo leaves exactly that, behind those before it in the list
pub restarts_exactly : (v : View) (x : Transfer) (echo : ℕ) → (restart v x (Some echo)).transfers ≡ push_back v.transfers (begun x.parcel echo v.next_token)
restarts_exactly v x echo = refl

-- ---- the last frame queued again

-- nothing queued and nothing in flight
abbrev pub Idle : Transfer → Type 0
Idle x = (x.sets.queue ≡ 0) × (x.sets.in_flight ≡ 0)

idle_exactly : (x : Transfer) → (idle x ≡ true) ↔ Idle x
idle_exactly x = go (is_empty x.sets.queue) (is_empty x.sets.in_flight) refl refl
  where
    go : (p q : Bool) → is_empty x.sets.queue ≡ p → is_empty x.sets.in_flight ≡ q → ((p && q) ≡ true) ↔ Idle x
    go true true a b = ((λ e. (eqb-true x.sets.queue 0 a, eqb-true x.sets.in_flight 0 b)), (λ h. refl))
    go true false a b = ((λ e. absurd (both_ways false refl e)), (λ h. absurd (eqb-false x.sets.in_flight 0 b h.1)))
    go false q a b = ((λ e. absurd (both_ways false refl e)), (λ h. absurd (eqb-false x.sets.queue 0 a h.0)))

-- the last frame alone is queued, and nothing else is another
pub record LastAgain (x y : Transfer) : Type 0 where
  pub queue : (k : ℕ) → has y.sets.queue k ≡ eqb k (x.parcel.frames - 1)
  pub sets : (y.sets.in_flight ≡ x.sets.in_flight) × (y.sets.transmitted ≡ x.sets.transmitted) × (y.sets.observed ≡ x.sets.observed) × (y.sets.received_status ≡ x.sets.received_status)
  pub rest : (y.parcel ≡ x.parcel) × (y.generation ≡ x.generation) × (y.echo ≡ x.echo) × (y.blocks ≡ x.blocks)

last_again : (x : Transfer) → LastAgain x (last_queued x)
last_again x = record { queue = λ k. has_alone (x.parcel.frames - 1) k; sets = (refl, refl, refl, refl); rest = (refl, refl, refl, refl) }

-- either of two answers by two tests, as said of each
either : {A B : Type 0} (x y : Transfer) (p q : Bool) → (p ≡ true) ↔ A → (q ≡ true) ↔ B → LastAgain x y → ((A × B) × LastAgain x (cond (p && q) y x)) ⊎ (((A × B) → ⊥) × (cond (p && q) y x ≡ x))
either x y true true a b l = inl ((a.0 refl, b.0 refl), l)
either x y true false a b l = inr ((λ h. both_ways false refl (b.1 h.1)), refl)
either x y false q a b l = inr ((λ h. both_ways false refl (a.1 h.0)), refl)

-- `refresh_waiting` queues the last frame again exactly if none is queued or in flight, 16 blocks after the last was submitted
pub refreshed_exactly : (block : ℕ) (x : Transfer)
    → ((Idle x × Since≥ 16 block x.blocks.last_frame) × LastAgain x (refreshed block x)) ⊎ (((Idle x × Since≥ 16 block x.blocks.last_frame) → ⊥) × (refreshed block x ≡ x))
refreshed_exactly block x = either x (last_queued x) (idle x) (passed 16 block x.blocks.last_frame) (idle_exactly x) (passed_since 16 block x.blocks.last_frame) (last_again x)

-- a block is there
abbrev pub AnyBlock : Option ℕ → Type 0
AnyBlock s = (b : ℕ) × (s ≡ Some b)

set_exactly : (s : Option ℕ) → (is_set s ≡ true) ↔ AnyBlock s
set_exactly None = ((λ e. absurd (both_ways false refl e)), (λ h. let q : None ≡ Some h.0 = h.1 in let z : ◌≡◌ {A = ℕ} 0 1 = cc in absurd (omega arith)))
set_exactly (Some b) = ((λ e. (b, refl)), (λ h. refl))

-- `prepare_prioritized` does so exactly if none is queued or in flight and one was submitted, however many frames there are
pub repeated_exactly : (x : Transfer)
    → ((Idle x × AnyBlock x.blocks.last_frame) × LastAgain x (repeated x)) ⊎ (((Idle x × AnyBlock x.blocks.last_frame) → ⊥) × (repeated x ≡ x))
repeated_exactly x = either x (last_queued x) (idle x) (is_set x.blocks.last_frame) (idle_exactly x) (set_exactly x.blocks.last_frame) (last_again x)

-- ---- the oldest

-- a frame is queued, and so many blocks have passed since the last was submitted, 16 at least
pub record Aged (block : ℕ) (x : Transfer) (age : ℕ) : Type 0 where
  pub queued : x.sets.queue ≢ 0
  pub since : (b : ℕ) × (x.blocks.last_frame ≡ Some b) × (age ≡ block - b)
  pub long : 16 ≤ age

-- the transfer at a place is so old, none is older, and none behind it as old
pub record Eldest (block : ℕ) (l : List Transfer) (place : ℕ) : Type 0 where
  pub inside : place < length l
  pub age : ℕ
  pub aged : Aged block (get_or l place blank_transfer) age
  pub most : (j a : ℕ) → j < length l → Aged block (get_or l j blank_transfer) a → a ≤ age
  pub last : (j a : ℕ) → place < j → j < length l → Aged block (get_or l j blank_transfer) a → a < age

aged_age : (block : ℕ) (x : Transfer) (a : ℕ) → Aged block x a → a ≡ age_of block x
aged_age block x a h =
    let s = h.since in
    s.2 ∙ sym (cond-true _ (blocks_since block x.blocks.last_frame) 0 (ap not (ne_eqb x.sets.queue 0 h.queued)) ∙ ap (blocks_since block) s.1)

age_aged : (block : ℕ) (x : Transfer) → 16 ≤ age_of block x → Aged block x (age_of block x)
age_aged block x h = go (is_ready x) x.blocks.last_frame refl refl h
  where
    go : (r : Bool) (s : Option ℕ) → is_ready x ≡ r → x.blocks.last_frame ≡ s → 16 ≤ cond r (blocks_since block s) 0 → Aged block x (age_of block x)
    go true None e q h = absurd (omega arith)
    go true (Some b) e q h =
        let n : age_of block x ≡ block - b = cond-true _ (blocks_since block x.blocks.last_frame) 0 e ∙ ap (blocks_since block) q in
        record { queued = eqb-false x.sets.queue 0 (not-true (eqb x.sets.queue 0) e); since = (b, q, n); long = subst (λ (a : ℕ). 16 ≤ a) (sym n) h }
    go false s e q h = absurd (omega arith)

module _ (block : ℕ) where
  abbrev at : List Transfer → ℕ → ℕ
  at l j = age_of block (get_or l j blank_transfer)

  -- a search from place i with a best one so far: it is the answer, or the one at k is, behind which none is as old
  abbrev Sought : (best top i : ℕ) → List Transfer → Type 0
  Sought best top i l =
      let r = oldest_from best top i (map (age_of block) l) in
      ((r ≡ best) × ((j : ℕ) → j < length l → at l j < top))
      ⊎ ((k : ℕ) × (k < length l) × (r ≡ i + k) × (top ≤ at l k) × ((j : ℕ) → j < length l → at l j ≤ at l k) × ((j : ℕ) → k < j → j < length l → at l j < at l k))

  sought : (best top i : ℕ) (l : List Transfer) → Sought best top i l
  sought best top i [] = inl (refl, λ j h. absurd (omega arith))
  sought best top i (x ∷ l) = go (leb top (age_of block x)) refl (sought i (age_of block x) (suc i) l) (sought best top (suc i) l)
    where
      Here : Bool → Type 0
      Here t =
          let r = cond t (oldest_from i (age_of block x) (suc i) (map (age_of block) l)) (oldest_from best top (suc i) (map (age_of block) l)) in
          ((r ≡ best) × ((j : ℕ) → j < suc (length l) → at (x ∷ l) j < top))
          ⊎ ((k : ℕ) × (k < suc (length l)) × (r ≡ i + k) × (top ≤ at (x ∷ l) k) × ((j : ℕ) → j < suc (length l) → at (x ∷ l) j ≤ at (x ∷ l) k) × ((j : ℕ) → k < j → j < suc (length l) → at (x ∷ l) j < at (x ∷ l) k))

      go : (t : Bool) → leb top (age_of block x) ≡ t → Sought i (age_of block x) (suc i) l → Sought best top (suc i) l → Here t
      go true e (inl h) w =
          let r = h.0 in
          let n = leb-true top (age_of block x) e in
          inr (0, omega arith, omega arith, n, most, later)
        where
          most : (j : ℕ) → j < suc (length l) → at (x ∷ l) j ≤ age_of block x
          most zero m = omega arith
          most (suc j) m = let y = h.1 j (omega arith) in omega arith

          later : (j : ℕ) → 0 < j → j < suc (length l) → at (x ∷ l) j < age_of block x
          later zero p m = absurd (omega arith)
          later (suc j) p m = h.1 j (omega arith)
      go true e (inr h) w =
          let k = h.0 in
          let lt = h.1 in
          let r = h.2 in
          let n = leb-true top (age_of block x) e in
          let t = h.3 in
          inr (suc k, omega arith, omega arith, omega arith, most, later)
        where
          most : (j : ℕ) → j < suc (length l) → at (x ∷ l) j ≤ at l h.0
          most zero m = h.3
          most (suc j) m = h.4 j (omega arith)

          later : (j : ℕ) → suc h.0 < j → j < suc (length l) → at (x ∷ l) j < at l h.0
          later zero p m = absurd (omega arith)
          later (suc j) p m = h.5 j (omega arith) (omega arith)
      go false e s (inl h) = inl (h.0, all)
        where
          all : (j : ℕ) → j < suc (length l) → at (x ∷ l) j < top
          all zero m = leb-false top (age_of block x) e
          all (suc j) m = h.1 j (omega arith)
      go false e s (inr h) =
          let k = h.0 in
          let lt = h.1 in
          let r = h.2 in
          inr (suc k, omega arith, omega arith, h.3, most, later)
        where
          most : (j : ℕ) → j < suc (length l) → at (x ∷ l) j ≤ at l h.0
          most zero m = let a = leb-false top (age_of block x) e in let b = h.3 in omega arith
          most (suc j) m = h.4 j (omega arith)

          later : (j : ℕ) → suc h.0 < j → j < suc (length l) → at (x ∷ l) j < at l h.0
          later zero p m = absurd (omega arith)
          later (suc j) p m = h.5 j (omega arith) (omega arith)

-- the place of the oldest is that of the last among those of greatest age; it is the list's length exactly if none is 16 blocks old
pub oldest_exactly : (block : ℕ) (l : List Transfer) → Eldest block l (oldest block l) ⊎ ((oldest block l ≡ length l) × ((j a : ℕ) → j < length l → Aged block (get_or l j blank_transfer) a → ⊥))
unfolding oldest
oldest_exactly block l = ⊎_elim (λ h. inr (h.0, young h)) (λ h. inl (subst (Eldest block l) (sym (h.2 ∙ from_zero h.0)) (eldest h))) (sought block (length l) 16 0 l)
  where
    Old : Type 0
    Old = (k : ℕ) × (k < length l) × (oldest_from (length l) 16 0 (map (age_of block) l) ≡ 0 + k) × (16 ≤ at block l k) × ((j : ℕ) → j < length l → at block l j ≤ at block l k) × ((j : ℕ) → k < j → j < length l → at block l j < at block l k)

    young : (oldest_from (length l) 16 0 (map (age_of block) l) ≡ length l) × ((j : ℕ) → j < length l → at block l j < 16) → (j a : ℕ) → j < length l → Aged block (get_or l j blank_transfer) a → ⊥
    young h j a lt k =
        let e = aged_age block (get_or l j blank_transfer) a k in
        let y = h.1 j lt in
        let g = k.long in
        omega arith

    from_zero : (n : ℕ) → 0 + n ≡ n
    from_zero n = omega arith

    eldest : (h : Old) → Eldest block l h.0
    eldest h = record {
      inside = h.1;
      age = at block l h.0;
      aged = age_aged block (get_or l h.0 blank_transfer) h.3;
      most = λ j a lt k. let e = aged_age block (get_or l j blank_transfer) a k in let y = h.4 j lt in omega arith;
      last = λ j a p lt k. let e = aged_age block (get_or l j blank_transfer) a k in let y = h.5 j p lt in omega arith;
    }

-- there is but one such place
eldest_one : (block : ℕ) (l : List Transfer) (i j : ℕ) → Eldest block l i → Eldest block l j → i ≡ j
eldest_one block l i j a b = ⊎_elim (λ lt. absurd (apart i j a b lt)) (⊎_elim (λ e. e) (λ lt. absurd (apart j i b a lt))) (compared i j)
  where
    apart : (p q : ℕ) → Eldest block l p → Eldest block l q → p < q → ⊥
    apart p q g h lt =
        let m = g.last q h.age lt h.inside h.aged in
        let n = h.most p g.age g.inside g.aged in
        omega arith

-- a sender with its transfers in another order
abbrev pub ordered : View → List Transfer → View
ordered v ts = view v.limits v.clock ts v.events v.echoes v.selected v.next_token

-- each transfer for itself is refreshed, however many there are, and nothing else changes
pub queues_waiting : (v : View) → queue_waiting v ≡ ordered v (map (refreshed v.clock.last_block) v.transfers)
unfolding queue_waiting
queues_waiting v = refl

-- if no frame is selected, the transfer there goes to the front, and the others keep their order
pub serves_exactly : (v : View) (i : ℕ) → v.selected ≡ None → let l = v.transfers in Eldest v.clock.last_block l i → serve_oldest v ≡ ordered v (get_or l i blank_transfer ∷ (take i l ++ drop (suc i) l))
unfolding serve_oldest
serves_exactly v i s h =
    let l = v.transfers in
    let block = v.clock.last_block in
    let e : oldest block l ≡ i = ⊎_elim (λ k. eldest_one block l (oldest block l) i k h) (λ k. absurd (k.1 i h.age h.inside h.aged)) (oldest_exactly block l) in
    ap (oldest_first v) s ∙ ap (ordered v) (ap (λ (p : ℕ). to_front p l) e ∙ cond-true _ (get_or l i blank_transfer ∷ remove_at i l) l (lt-ltb i (length l) h.inside))

-- if none is 16 blocks old, nothing changes
pub serves_none : (v : View) → v.selected ≡ None → let l = v.transfers in ((j a : ℕ) → j < length l → Aged v.clock.last_block (get_or l j blank_transfer) a → ⊥) → serve_oldest v ≡ v
unfolding serve_oldest
serves_none v s h =
    let l = v.transfers in
    let block = v.clock.last_block in
    let e : oldest block l ≡ length l = ⊎_elim (λ k. absurd (h (oldest block l) k.age k.inside k.aged)) (λ k. k.0) (oldest_exactly block l) in
    ap (oldest_first v) s ∙ ap (ordered v) (ap (λ (p : ℕ). to_front p l) e ∙ cond-false _ (get_or l (length l) blank_transfer ∷ remove_at (length l) l) l (le-ltb (length l) (length l) (omega arith)))

-- while a frame is selected, nothing changes
pub serves_selected : (v : View) (f : PreparedFrame) → v.selected ≡ Some f → serve_oldest v ≡ v
unfolding serve_oldest
serves_selected v f s = ap (oldest_first v) s

-- ---- prepare

-- the header of the cut has no flag, and Contention, whatever the channel and the echo
pub header_exactly : (channel : Channel) (echo : ℕ) (polling : Bool) → header_of channel echo polling ≡ record {
  channel = channel;
  flags = record { pch_continuation = false; bcch_change = false; paging_frame_modifier = false; reservation_response = false };
  partial_echo = echo;
  polling = polling;
  response_mode = Contention;
}
header_exactly channel echo polling = refl

-- a frame is cut out of the order's own part of the lent store, for its identity, under its channel and its present echo
pub packed_exactly : (x : Transfer) (octets : List ℕ) (k : ℕ) (polling : Bool) → packed_of x octets k polling
    ≡ and_then (frame_of (header_of x.parcel.channel x.echo polling) x.parcel.identity (take x.parcel.octets (drop (255 * x.parcel.n) octets)) k) encode_of
unfolding packed_of
packed_exactly x octets k polling = refl

-- the frame of an answer, another where there is none
abbrev frame_told : PreparedFrame → Outcome (Option PreparedFrame) → PreparedFrame
frame_told d (gives (Some f)) = f
frame_told d (gives None) = d
frame_told d (refuses n) = d

-- the frame is the front of a transfer's queue, under its generation and echo
pub record FrontOf (x : Transfer) (f : PreparedFrame) : Type 0 where
  pub queued : x.sets.queue ≢ 0
  pub generation : f.token.generation ≡ x.generation
  pub echo : f.partial_echo ≡ x.echo
  pub frame : f.token.frame ≡ front x.sets.queue

selects-front : (v : View) (x : Transfer) (o : Outcome PackedFrame) (f : PreparedFrame) → is_ready x ≡ true → (selects v x o).outcome ≡ gives (Some f) → FrontOf x f
selects-front v x (gives p) f r e =
    let q : prepared_of x p v.next_token ≡ f = ap (frame_told f) e in
    record {
      queued = eqb-false x.sets.queue 0 (not-true (eqb x.sets.queue 0) r);
      generation = sym (ap (λ (g : PreparedFrame). g.token.generation) q);
      echo = sym (ap (λ (g : PreparedFrame). g.partial_echo) q);
      frame = sym (ap (λ (g : PreparedFrame). g.token.frame) q);
    }
selects-front v x (refuses n) f r e = let z : ◌≡◌ {A = ℕ} 0 1 = cc in absurd (omega arith)

-- if none is selected, it is that of the first transfer in the list that has a frame queued
pub serves_first : (v : View) (octets : List ℕ) (f : PreparedFrame) → v.selected ≡ None → (choose v octets).outcome ≡ gives (Some f)
    → (i : ℕ) × (i < length v.transfers) × FrontOf (get_or v.transfers i blank_transfer) f × ((j : ℕ) → j < i → (get_or v.transfers j blank_transfer).sets.queue ≡ 0)
unfolding choose
serves_first v octets f s e =
    let q : (choose_from v octets None).outcome ≡ gives (Some f) = sym (ap (λ (o : Option PreparedFrame). (choose_from v octets o).outcome) s) ∙ e in
    go (ltb (position is_ready v.transfers) (length v.transfers)) refl q
  where
    First : Type 0
    First = (i : ℕ) × (i < length v.transfers) × FrontOf (get_or v.transfers i blank_transfer) f × ((j : ℕ) → j < i → (get_or v.transfers j blank_transfer).sets.queue ≡ 0)

    here : ℕ
    here = position is_ready v.transfers

    go : (t : Bool) → ltb (position is_ready v.transfers) (length v.transfers) ≡ t
        → (cond t (selects v (get_or v.transfers (position is_ready v.transfers) blank_transfer) (front_of (get_or v.transfers (position is_ready v.transfers) blank_transfer) octets)) (says None v)).outcome ≡ gives (Some f) → First
    go true l q =
        let x = get_or v.transfers here blank_transfer in
        let lt = ltb-true here (length v.transfers) l in
        (here, lt, selects-front v x (front_of x octets) f (position-found is_ready blank_transfer v.transfers lt) q, λ j m. eqb-true (get_or v.transfers j blank_transfer).sets.queue 0 (not-false _ (position_before is_ready blank_transfer v.transfers j m)))
    go false l q = let z : ◌≡◌ {A = ℕ} 0 1 = cc in absurd (omega arith)

-- ---- prepare_prioritized

-- a frame is queued, or the last one may be queued again
abbrev pub Repeatable : Transfer → Type 0
Repeatable x = (x.sets.queue ≢ 0) ⊎ ((x.sets.in_flight ≡ 0) × AnyBlock x.blocks.last_frame)

ready_exactly : (x : Transfer) → (is_ready x ≡ true) ↔ (x.sets.queue ≢ 0)
ready_exactly x = ((λ e. eqb-false x.sets.queue 0 (not-true (eqb x.sets.queue 0) e)), (λ n. ap not (ne_eqb x.sets.queue 0 n)))

-- it is ready then, and only then
repeated_ready : (x : Transfer) → (is_ready (repeated x) ≡ true) ↔ Repeatable x
repeated_ready x = ⊎_elim again same (repeated_exactly x)
  where
    again : (Idle x × AnyBlock x.blocks.last_frame) × LastAgain x (repeated x) → (is_ready (repeated x) ≡ true) ↔ Repeatable x
    again h = ((λ e. inr (h.0.0.1, h.0.1)), (λ k. (ready_exactly (repeated x)).1 (λ z. both_ways _ (rw z (bit_lacks 0 (x.parcel.frames - 1) (bit_none (x.parcel.frames - 1)))) (h.1.queue (x.parcel.frames - 1) ∙ eq-eqb (x.parcel.frames - 1) (x.parcel.frames - 1) refl))))

    same : ((Idle x × AnyBlock x.blocks.last_frame) → ⊥) × (repeated x ≡ x) → (is_ready (repeated x) ≡ true) ↔ Repeatable x
    same h = (
      (λ e. inl ((ready_exactly x).0 (sym (ap is_ready h.1) ∙ e))),
      ⊎_elim (λ n. ap is_ready h.1 ∙ (ready_exactly x).1 n) (λ k. ⊎_elim (λ e. absurd (h.0 ((eqb-true x.sets.queue 0 e, k.0), k.1))) (λ e. ap is_ready h.1 ∙ ap not e) (cases_Bool (eqb x.sets.queue 0))),
    )

-- after its `advance` it has a frame exactly if the first transfer of the echo has one queued, or has none in flight and submitted one before
pub prioritize_gives_exactly : (v : View) (octets : List ℕ) (echo : ℕ) → 32640 ≤ length octets → Sound v → let i = position (of_echo echo) v.transfers in
    i < length v.transfers → ((prioritize_at v octets echo).outcome ≢ gives None) ↔ Repeatable (get_or v.transfers i blank_transfer)
unfolding prioritize_at
prioritize_gives_exactly v octets echo room h lt =
    let i = position (of_echo echo) v.transfers in
    let x = get_or v.transfers i blank_transfer in
    let e : (prioritize_at v octets echo).outcome ≡ (prioritized v octets echo i x).outcome = ap (λ (a : After (Option PreparedFrame) View). a.outcome) (cond-true _ (prioritized v octets echo i x) (says None v) (lt-ltb i (length v.transfers) lt)) in
    let k = go i x (is_ready (repeated x)) refl (prioritized-kept v i echo x lt refl h) in
    ((λ n. (repeated_ready x).0 (k.0 (λ q. n (e ∙ q)))), (λ r q. k.1 ((repeated_ready x).1 r) (sym e ∙ q)))
  where
    after : ℕ → Transfer → View
    after i x = with_selected (with_transfers v (repeated x ∷ remove_at i v.transfers)) (only_echo echo v.selected)

    go : (i : ℕ) (x : Transfer) (t : Bool) → is_ready (repeated x) ≡ t → Sound (after i x)
        → let a : After (Option PreparedFrame) View = cond t (choose (after i x) octets) (says None (after i x)) in (a.outcome ≢ gives None) ↔ (t ≡ true)
    go i x true e s = ((λ n. refl), (λ r q. both_ways _ (all_head ((choose_none_exactly (after i x) octets room s).0 q).1) e))
    go i x false e s = ((λ n. absurd (n refl)), (λ r. absurd (both_ways false refl r)))

-- ---- the place in the lent store

lowest_each : (tries k : ℕ) (l : List Transfer) → ((j : ℕ) → j < k → Any (λ x. x.parcel.n ≡ j) l) → (j : ℕ) → j < lowest_from tries k l → Any (λ x. x.parcel.n ≡ j) l
lowest_each zero k l h j lt = h j lt
lowest_each (suc tries) k l h j lt = go (any test l) refl lt (λ q m. lowest_each tries (suc k) l q j m)
  where
    test : Transfer → Bool
    test x = eqb x.parcel.n k

    go : (b : Bool) → any test l ≡ b → j < cond b (lowest_from tries (suc k) l) k → (((i : ℕ) → i < suc k → Any (λ x. x.parcel.n ≡ i) l) → j < lowest_from tries (suc k) l → Any (λ x. x.parcel.n ≡ j) l) → Any (λ x. x.parcel.n ≡ j) l
    go true e lt f =
        f
        (λ i m. ⊎_elim (λ q. h i (ltb-true i k q)) (λ q. let r = ltb-false i k q in let w : k ≡ i = omega arith in some-map (λ x t. eqb-true x.parcel.n k t ∙ w) (any-true test l e)) (cases_Bool (ltb i k)))
        lt
    go false e lt f = h j lt

-- a new transfer's n is no live transfer's, and each lower one is
pub lowest_exactly : (l : List Transfer) → length l < 128 → All (λ x. lowest_n l ≢ x.parcel.n) l × ((j : ℕ) → j < lowest_n l → Any (λ x. x.parcel.n ≡ j) l)
lowest_exactly l h = ((lowest_free 128 0 l (λ j m. absurd (omega arith)) (omega arith)).1, λ j m. lowest_each 128 0 l (λ i z. absurd (omega arith)) j m)

-- message n is in its own part of the lent store, from the first octet; every other octet is as it was, past the message in its own part too
pub stored_exactly : (octets : List ℕ) (n : ℕ) (message : List ℕ) → 255 * n + length message ≤ length octets → let o = stored octets n message in
    ((k : ℕ) → k < length message → get_or o (255 * n + k) 0 ≡ get_or message k 0) × ((k : ℕ) → k < 255 * n → get_or o k 0 ≡ get_or octets k 0) × ((k : ℕ) → get_or o (255 * n + length message + k) 0 ≡ get_or octets (255 * n + length message + k) 0)
    × (length o ≡ length octets)
stored_exactly octets n message h = (inside, before, behind, whole)
  where
    start : ℕ
    start = 255 * n

    a : List ℕ
    a = take start octets

    d : List ℕ
    d = drop (start + length message) octets

    long : length a ≡ start
    long = length-take-le start octets (omega arith)

    both : length (a ++ message) ≡ start + length message
    both = length-append a message ∙ ap (λ (j : ℕ). j + length message) long

    inside : (k : ℕ) → k < length message → get_or (a ++ message ++ d) (start + k) 0 ≡ get_or message k 0
    inside k lt = get_or-append (a ++ message) d 0 (start + k) (omega (arith, both)) ∙ (ap (λ (j : ℕ). get_or (a ++ message) (j + k) 0) (sym long) ∙ get_or-append-add a message k 0)

    before : (k : ℕ) → k < start → get_or (a ++ message ++ d) k 0 ≡ get_or octets k 0
    before k lt = get_or-append (a ++ message) d 0 k (omega (arith, both)) ∙ (get_or-append a message 0 k (omega (arith, long)) ∙ get_or-take start octets k 0 lt)

    behind : (k : ℕ) → get_or (a ++ message ++ d) (start + length message + k) 0 ≡ get_or octets (start + length message + k) 0
    behind k = ap (λ (j : ℕ). get_or (a ++ message ++ d) (j + k) 0) (sym both) ∙ (get_or-append-add (a ++ message) d k 0 ∙ get_or-drop (start + length message) octets k 0)

    whole : length (a ++ message ++ d) ≡ length octets
    whole = length-append (a ++ message) d ∙ omega (arith, both, length-drop (start + length message) octets)

-- ---- tokens and selections

-- generation, submission and frame are the same
abbrev pub SameToken : FrameToken → FrameToken → Type 0
SameToken a b = (a.generation.0 ≡ b.generation.0) × (a.submission.0 ≡ b.submission.0) × (a.frame ≡ b.frame)

-- a token matches another exactly if all three are the same, of a Continue too
pub matches_exactly : (a b : FrameToken) → (matches a b ≡ true) ↔ SameToken a b
matches_exactly a b =
    three (eqb a.generation.0 b.generation.0) (eqb a.submission.0 b.submission.0) (eqb a.frame b.frame)
    (equal_exactly a.generation.0 b.generation.0)
    (equal_exactly a.submission.0 b.submission.0)
    (equal_exactly a.frame b.frame)

-- it is the selected frame's exactly if one is selected and its token is the same
pub selected_exactly : (t : FrameToken) (f : PreparedFrame) → (is_selected t None ≡ false) × ((is_selected t (Some f) ≡ true) ↔ SameToken f.token t)
selected_exactly t f = (refl, matches_exactly f.token t)

-- a frame is outstanding exactly if it is one of the order's, in flight, and the word of its place holds its submission
pub outstanding_exactly : (t : FrameToken) (words : List ℕ) (x : Transfer) → (is_outstanding t words x ≡ true)
    ↔ ((t.frame < x.parcel.frames) × (has x.sets.in_flight t.frame ≡ true) × (get_or words (27 * x.parcel.n + t.frame) 0 ≡ t.submission.0))
outstanding_exactly t words x =
    three (ltb t.frame x.parcel.frames) (has x.sets.in_flight t.frame) (eqb (get_or words (27 * x.parcel.n + t.frame) 0) t.submission.0)
    (below_exactly t.frame x.parcel.frames)
    ((λ e. e), (λ e. e))
    (equal_exactly (get_or words (27 * x.parcel.n + t.frame) 0) t.submission.0)

-- the end of a generation drops its own selected frame, and no other's
pub unselect_exactly : (g : Generation) (f : PreparedFrame) → (unselect g None ≡ None) × (f.token.generation.0 ≡ g.0 → unselect g (Some f) ≡ None) × (f.token.generation.0 ≢ g.0 → unselect g (Some f) ≡ Some f)
unselect_exactly g f = (refl, (λ e. cond-true _ None (Some f) (eq-eqb f.token.generation.0 g.0 e)), (λ n. cond-false _ None (Some f) (ne_eqb f.token.generation.0 g.0 n)))

-- `prepare_prioritized` leaves a selected frame of its echo, and drops one of another
pub only_echo_exactly : (echo : ℕ) (f : PreparedFrame) → (only_echo echo None ≡ None) × (f.partial_echo ≡ echo → only_echo echo (Some f) ≡ Some f) × (f.partial_echo ≢ echo → only_echo echo (Some f) ≡ None)
only_echo_exactly echo f = (refl, (λ e. cond-true _ (Some f) None (eq-eqb f.partial_echo echo e)), (λ n. cond-false _ (Some f) None (ne_eqb f.partial_echo echo n)))

-- ---- what handing in and confirming leave

-- a frame that is handed in leaves what was transmitted and observed, the status, and since when it waits; its block is progress and the last frame's
pub hands_in_exactly : (frame block : ℕ) (x : Transfer) → let y = in_flight_lem frame block x in
    SameOrder x y × (y.sets.transmitted ≡ x.sets.transmitted) × (y.sets.observed ≡ x.sets.observed) × (y.sets.received_status ≡ x.sets.received_status)
    × (y.blocks.last_progress ≡ Some block) × (y.blocks.last_frame ≡ Some block) × (y.blocks.waiting_since ≡ x.blocks.waiting_since)
    × ((k : ℕ) → has y.sets.queue k ≡ (has x.sets.queue k && not (eqb k frame))) × ((k : ℕ) → has y.sets.in_flight k ≡ (has x.sets.in_flight k || eqb k frame))
hands_in_exactly frame block x = (
  (refl, refl, refl),
  refl,
  refl,
  refl,
  refl,
  refl,
  refl,
  (λ k. has-without x.sets.queue (frame_alone frame) k ∙ ap (λ (t : Bool). has x.sets.queue k && not t) (has_alone frame k)),
  (λ k. has_added x.sets.in_flight frame k),
)

-- a frame that is confirmed leaves the queue, what is observed, the status and all blocks
pub confirms_exactly : (frame : ℕ) (x : Transfer) → let y = confirm_frame frame x in
    SameOrder x y × (y.sets.queue ≡ x.sets.queue) × (y.sets.observed ≡ x.sets.observed) × (y.sets.received_status ≡ x.sets.received_status) × (y.blocks ≡ x.blocks)
    × ((k : ℕ) → has y.sets.in_flight k ≡ (has x.sets.in_flight k && not (eqb k frame))) × ((k : ℕ) → has y.sets.transmitted k ≡ (has x.sets.transmitted k || eqb k frame))
confirms_exactly frame x = (
  (refl, refl, refl),
  refl,
  refl,
  refl,
  refl,
  (λ k. has-without x.sets.in_flight (frame_alone frame) k ∙ ap (λ (t : Bool). has x.sets.in_flight k && not t) (has_alone frame k)),
  (λ k. has_added x.sets.transmitted frame k),
)

-- ---- what a status leaves

-- bit k of a map, below 26, shows frame k + 1, and no bit another
shows_exactly : (map : ℕ) → (has (shown map) 0 ≡ false) × ((k : ℕ) → has (shown map) (suc k) ≡ (ltb k 26 && has map k))
shows_exactly map = (bit_lacks (shown map) 0 (bit_first (shown map) ∙ omega arith), λ k. go k (ltb k 26) refl)
  where
    low : shown map < 2 ^ 27
    low = omega arith

    go : (k : ℕ) (t : Bool) → ltb k 26 ≡ t → has (shown map) (suc k) ≡ (t && has map k)
    go k true e = shown-has map k (ltb-true k 26 e)
    go k false e = let le = ltb-false k 26 e in bit_lacks (shown map) (suc k) (below_bits 27 (shown map) (suc k) low (omega arith))

-- a Continue that the map shows is observed if it is transmitted or in flight; this is progress, it waits no more, and nothing else is another
pub observes_exactly : (map block : ℕ) (x : Transfer) → let y = observes map block x in
    SameOrder x y × (y.sets.queue ≡ x.sets.queue) × (y.sets.in_flight ≡ x.sets.in_flight) × (y.sets.transmitted ≡ x.sets.transmitted) × (y.sets.received_status ≡ true)
    × (y.blocks.last_progress ≡ Some block) × (y.blocks.last_frame ≡ x.blocks.last_frame) × (y.blocks.waiting_since ≡ None) × (has y.sets.observed 0 ≡ has x.sets.observed 0)
    × ((k : ℕ) → has y.sets.observed (suc k) ≡ (has x.sets.observed (suc k) || ((ltb k 26 && has map k) && (has x.sets.transmitted (suc k) || has x.sets.in_flight (suc k)))))
observes_exactly map block x = (
  (refl, refl, refl),
  refl,
  refl,
  refl,
  refl,
  refl,
  refl,
  refl,
  more 0 ∙ (ap (λ (t : Bool). has x.sets.observed 0 || (t && has w 0)) (shows_exactly map).0 ∙ or-false (has x.sets.observed 0)),
  (λ k. more (suc k) ∙ (ap (λ (t : Bool). has x.sets.observed (suc k) || (t && has w (suc k))) ((shows_exactly map).1 k) ∙ ap (λ (t : Bool). has x.sets.observed (suc k) || ((ltb k 26 && has map k) && t)) (has_or x.sets.transmitted x.sets.in_flight (suc k)))),
)
  where
    w : ℕ
    w = bit_or x.sets.transmitted x.sets.in_flight

    more : (k : ℕ) → has (bit_or x.sets.observed (bit_and (shown map) w)) k ≡ (has x.sets.observed k || (has (shown map) k && has w k))
    more k = has_or x.sets.observed (bit_and (shown map) w) k ∙ ap (λ (t : Bool). has x.sets.observed k || t) (has_and (shown map) w k)

    or-false : (t : Bool) → (t || false) ≡ t
    or-false true = refl
    or-false false = refl

-- ---- questions

-- some element passes exactly if the test holds of one
any_exactly : {A : Type 0} {P : A → Type 0} (p : A → Bool) (l : List A) → ((x : A) → (p x ≡ true) ↔ P x) → (any p l ≡ true) ↔ Any P l
any_exactly p l f = (
  (λ e. some-map (λ x t. (f x).0 t) (any-true p l e)),
  (λ s. ⊎_elim (λ e. e) (λ e. absurd (some_all (λ x t n. both_ways _ n ((f x).1 t)) s (any_false p l e))) (cases_Bool (any p l))),
)

-- a transfer is to an identity exactly if it has that type and value
pub addressed_exactly : (i : MobileIdentity) (x : Transfer) → (addressed i x ≡ true) ↔ (x.parcel.identity ≡ i)
addressed_exactly i x = ((λ e. same_equal x.parcel.identity i e), (λ e. rw e (same_self i)))

-- `contains`: some live transfer, overdue or not, is to the identity
pub contains_exactly : (v : View) (i : MobileIdentity) → (contains_of v i ≡ true) ↔ Any (λ x. x.parcel.identity ≡ i) v.transfers
contains_exactly v i = any_exactly (addressed i) v.transfers (addressed_exactly i)

-- `has_echo`: some live transfer has it
pub has_echo_exactly : (v : View) (echo : ℕ) → (has_echo_of v echo ≡ true) ↔ Any (λ x. x.echo ≡ echo) v.transfers
has_echo_exactly v echo = any_exactly (of_echo echo) v.transfers (λ x. (eqb-true x.echo echo, eq-eqb x.echo echo))

-- `radio_active`: some live transfer had progress under its present echo
pub radio_active_exactly : (v : View) → (radio_active_of v ≡ true) ↔ Any (λ x. AnyBlock x.blocks.last_progress) v.transfers
radio_active_exactly v = any_exactly (λ x. is_set x.blocks.last_progress) v.transfers (λ x. set_exactly x.blocks.last_progress)

-- `ready`: some live transfer has a frame queued
pub ready_of_exactly : (v : View) → (ready_of v ≡ true) ↔ Any (λ x. x.sets.queue ≢ 0) v.transfers
ready_of_exactly v = any_exactly is_ready v.transfers ready_exactly

-- `pending`: as many as are live, whether they have frames queued or not
pub pending_exactly : (v : View) → pending_of v ≡ length v.transfers
pending_exactly v = refl

-- `can_enqueue`: at the block and time that are asked for, whatever the clock: the first usable block has come, fewer transfers than the capacity and
-- fewer events, and some echo is held until then or earlier
pub can_enqueue_exactly : (v : View) (block now : ℕ) → (can_enqueue_of v block now ≡ true)
    ↔ ((v.limits.startup_until_block ≤ block) × (length v.transfers < v.limits.capacity) × (length v.events < v.limits.capacity) × Any (λ until. until ≤ now) v.echoes.echo_until_ms)
unfolding can_enqueue_of
can_enqueue_exactly v block now =
    four (leb v.limits.startup_until_block block) (ltb (length v.transfers) v.limits.capacity) (ltb (length v.events) v.limits.capacity) (any (free now) v.echoes.echo_until_ms)
    (leb-true v.limits.startup_until_block block, le-leb v.limits.startup_until_block block)
    (below_exactly (length v.transfers) v.limits.capacity)
    (below_exactly (length v.events) v.limits.capacity)
    (any_exactly (free now) v.echoes.echo_until_ms (λ u. (leb-true u now, le-leb u now)))
