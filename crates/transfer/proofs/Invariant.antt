-- What each change of a sender keeps of `Sound`. Assumes nothing.
use Rattle.std.proofs.Common.{◌≡◌, ℕ, zero, suc, ◌+◌, ◌-◌, ◌*◌, ◌^◌, ◌<◌, ◌≤◌, Bool, true, false, cond, not, ◌&&◌, ◌||◌, eqb, ltb, leb, ◌≢◌, List, [], ◌∷◌, ◌++◌, map, length, get_or, take, drop, Some, None, Option, sym, refl, ap, ◌∙◌, subst, ⊎_elim, true≢false, arith, length-set, pow_pos, pow_mono, ltb-false, ltb-true, eq-eqb, ne_eqb, eqb-true, leb-false}
use Rattle.std.proofs.lemmas.Bool.{cases_Bool}
use lib.Bits.{and_zero_r}
use lib.Seq.{split_at}
use borrow.Author.Tests.{eqb-false, lt-leb, not-false}
use Rattle.token.specs.Token.{stop, number_after, fewer_than}
use Rattle.rach.specs.Identity.{type_of, value_of, same, encodable}
use Rattle.rach.specs.declared.MobileIdentity.{MobileIdentity}
use Rattle.rach.proofs.Laws.{both, same_equal}
use Rattle.spach.specs.Header.{usage_of}
use Rattle.spach.specs.Refusal.{gives, After}
use Rattle.spach.proofs.Outcomes.{passed, then-gives}
use Rattle.arq.specs.declared.ArqHeader.{ArqHeader}
use Rattle.arq.specs.Cut.{continues, count_of}
use Rattle.receiver.specs.declared.ArqStatus.{ArqStatus}
use Rattle.transfer.specs.declared.FrameToken.{FrameToken}
use Rattle.transfer.specs.declared.Request.{Request}
use Rattle.transfer.specs.declared.Parcel.{Parcel}
use Rattle.transfer.specs.declared.Event.{Event}
use Rattle.transfer.specs.declared.Transfer.{Transfer}
use Rattle.transfer.specs.declared.PreparedFrame.{PreparedFrame}
use Rattle.transfer.specs.Lists.{position, any, remove_at, push_back}
use Rattle.transfer.specs.State.{Limits, Echoes, Clock, View, Lent, Out, fresh, new_of, short, ticked, admitted, says, refusal, seek, of_echo, of_generation, with_clock, with_transfers, with_events, with_echoes, with_selected, token_taken, blank_transfer, put_at, unselect, ended, cancel_at, cancels, event_of}
use Rattle.transfer.specs.Echo.{free_echo, held_until, hold}
use Rattle.transfer.specs.Queue.{first_frames, front, has}
use Rattle.transfer.specs.Transfer.{header_of, begun, went_out, settle_of}
use Rattle.transfer.specs.Advance.{overdue, kept, walked}
use Rattle.transfer.specs.Enqueue.{addressed, Grant, granted, allocated, grant_of, lowest_from, lowest_n, parcel_of}
use Rattle.transfer.specs.Prepare.{is_ready, choose, repeated, only_echo, prioritized, prioritize_at}
use Rattle.transfer.specs.Submitted.{is_selected, in_flight_lem, handed_in, submitted_at, is_outstanding, confirm_frame, confirms, transmitted_at}
use Rattle.transfer.specs.Refresh.{refreshed}
use Rattle.transfer.specs.Status.{observes, status_at}
use Rattle.transfer.specs.Invariant.{All, Any, Pairs, ByBlock, Accepted, SetsAgree, Live, Different, Chosen, Selected, Sound}
use Rattle.transfer.proofs.Listed.{all_map, all_both, all_in, all_back, some-map, some_all, some_in, some_one, some_left, pairs_map, pairs_in, pairs-at, pairs_back, length_in, length_removed, length_back, any_false, any-true, position-none, position-found, pigeon, some_out, all_rest, all_one, pairs_rest, pairs_one}
use Rattle.transfer.proofs.Alive.{in_flight_live, SameParcel, settled_parcel, repeated_parcel, refreshed_parcel, settled_live, repeated_live, refreshed_live, confirmed_live, observed_live, settled_chosen, repeated_chosen, refreshed_chosen, confirmed_chosen, observed_chosen}
use Rattle.transfer.proofs.EchoSearch.{free_now, held_after, held_other}
use Rattle.transfer.proofs.Fresh.{fresh_sound}

-- ---- two transfers

eqb_sym : (a b : ℕ) → eqb a b ≡ eqb b a
eqb_sym a b = ⊎_elim (λ e. e ∙ sym (eq-eqb b a (sym (eqb-true a b e)))) (λ e. e ∙ sym (ne_eqb b a (λ q. eqb-false a b e (sym q)))) (cases_Bool (eqb a b))

-- `same` either way round
pub same-sym : (a b : MobileIdentity) → same a b ≡ same b a
unfolding same
same-sym a b = rw (eqb_sym (type_of a) (type_of b), eqb_sym (value_of a) (value_of b))

-- two live transfers differ either way round
pub different_sym : (c : Clock) (x y : Transfer) → Different c x y → Different c y x
different_sym c x y h =
    record {
      identity = same-sym y.parcel.identity x.parcel.identity ∙ h.identity;
      place = λ e. h.place (sym e);
      owner = λ e. h.owner (sym e);
      generation = λ e. h.generation (sym e);
      echo = λ a b e. h.echo b a (sym e);
    }

-- a transfer of the same parcel, generation and echo differs from what the first one differs from
pub different_same : (c : Clock) (x y z : Transfer) → y.parcel ≡ x.parcel → y.generation ≡ x.generation → y.echo ≡ x.echo → Different c x z → Different c y z
different_same c x y z p g e h = record { identity = rw p h.identity; place = rw p h.place; owner = rw p h.owner; generation = rw g h.generation; echo = rw (p, e) h.echo }

-- ---- the clock moves on

module _ (c : Clock) (block ms : ℕ) (hb : c.last_block ≤ block) (hm : c.last_ms ≤ ms) where
  abbrev later : Clock
  later = record { last_block = block; last_ms = ms }

  -- what is not overdue later was not before
  pub not_overdue : (x : Transfer) → overdue later x ≡ false → overdue c x ≡ false
  not_overdue x e = let h = leb-false x.parcel.deadline_ms ms e in lt-leb x.parcel.deadline_ms c.last_ms (omega arith)

  by_later : (s : Option ℕ) → ByBlock c.last_block s → ByBlock block s
  by_later None h = tt
  by_later (Some b) h = omega arith

  -- a live transfer stays so
  pub live_later : (l : Limits) (e : Echoes) (next : ℕ) (x : Transfer) → Live l c e next x → Live l later e next x
  live_later l e next x h =
      let u = h.usable in
      record {
        accepted = h.accepted;
        sets = h.sets;
        timed = record { progress = by_later x.blocks.last_progress h.timed.progress; waiting = by_later x.blocks.waiting_since h.timed.waiting; last_frame = h.timed.last_frame };
        holds = record { echo = h.holds.echo; fits = h.holds.fits; held = λ o. h.holds.held (not_overdue x o) };
        place = h.place;
        usable = omega arith;
        owner = h.owner;
        generation = h.generation;
      }

  -- two stay different
  pub different_later : (x y : Transfer) → Different c x y → Different later x y
  different_later x y h = record { identity = h.identity; place = h.place; owner = h.owner; generation = h.generation; echo = λ a b. h.echo (not_overdue x a) (not_overdue y b) }

-- the clock moves on
pub clock_kept : (v : View) (block ms : ℕ) → v.clock.last_block ≤ block → v.clock.last_ms ≤ ms → Sound v → Sound (with_clock v (record { last_block = block; last_ms = ms }))
clock_kept v block ms hb hm h =
    record {
      some_capacity = h.some_capacity;
      most_capacity = h.most_capacity;
      live = h.live;
      accounted = h.accounted;
      echoes = h.echoes;
      next_echo = h.next_echo;
      transfers = all_map (live_later v.clock block ms hb hm v.limits v.echoes v.next_token) h.transfers;
      different = pairs_map (different_later v.clock block ms hb hm) h.different;
      selected = h.selected;
      counter = h.counter;
    }

-- other transfers, events and selection, which are right
pub listed_kept : (v : View) (l : List Transfer) (events : List Event) (s : Option PreparedFrame) → length l ≤ v.limits.capacity → length l + length events ≤ 2 * v.limits.capacity
    → All (Live v.limits v.clock v.echoes v.next_token) l → Pairs (Different v.clock) l → Selected l v.next_token s
    → Sound v → Sound (with_selected (with_events (with_transfers v l) events) s)
listed_kept v l events s fits fit live different selected h = record {
  some_capacity = h.some_capacity;
  most_capacity = h.most_capacity;
  live = fits;
  accounted = fit;
  echoes = h.echoes;
  next_echo = h.next_echo;
  transfers = live;
  different = different;
  selected = selected;
  counter = h.counter;
}

-- another selection, which is right
pub selected_kept : (v : View) (s : Option PreparedFrame) → Selected v.transfers v.next_token s → Sound v → Sound (with_selected v s)
selected_kept v s sel h = listed_kept v v.transfers v.events s h.live h.accounted h.transfers h.different sel h

-- ---- one transfer is taken out

-- both ways of a test
pub cond_cases : {X : Type 0} (P : X → Type 0) (t : Bool) (x y : X) → (t ≡ true → P x) → (t ≡ false → P y) → P (cond t x y)
cond_cases P true x y a b = a refl
cond_cases P false x y a b = b refl

-- a selected frame that is not of this generation is another's
selected_out : (a : List Transfer) (x : Transfer) (b : List Transfer) (next : ℕ) (s : Option PreparedFrame) → Selected (a ++ x ∷ b) next s → Selected (a ++ b) next (unselect x.generation s)
selected_out a x b next None h = tt
selected_out a x b next (Some f) h =
    cond_cases {X = Option PreparedFrame} (Selected (a ++ b) next) (eqb f.token.generation.0 x.generation.0) None (Some f) (λ e. tt)
    (λ e. (⊎_elim (λ (c : Chosen f x). absurd (eqb-false _ _ e c.generation)) (λ k. k) (some_out a x b h.0), h.1))

-- a transfer ends with an event
pub ended-kept : (v : View) (a : List Transfer) (x : Transfer) (b : List Transfer) (e : Event) → Sound (with_transfers v (a ++ x ∷ b)) → Sound (with_transfers (ended v x e) (a ++ b))
ended-kept v a x b e h =
    let n : length (a ++ x ∷ b) ≡ suc (length (a ++ b)) = length_in a x b in
    let m : length (push_back v.events e) ≡ suc (length v.events) = length_back v.events e in
    let i = h.live in
    let j = h.accounted in
    listed_kept (with_transfers v (a ++ x ∷ b)) (a ++ b) (push_back v.events e) (unselect x.generation v.selected) (omega arith) (omega arith)
    (all_rest a x b h.transfers) (pairs_rest a x b h.different) (selected_out a x b v.next_token v.selected h.selected) h

-- the transfer at a place is taken out, and Cancelled
pub cancel_kept : (v : View) (place : ℕ) → place < length v.transfers → Sound v → Sound (cancel_at v place (get_or v.transfers place blank_transfer))
cancel_kept v place lt h =
    let l = v.transfers in
    let x = get_or l place blank_transfer in
    ended-kept v (take place l) x (drop (suc place) l) (event_of x cancels) (subst (λ t. Sound (with_transfers v t)) (split_at l place blank_transfer lt) h)

-- ---- one transfer changes, or moves

-- a transfer may stand for another of the same parcel, generation and echo: it is live if that is, and what is selected of that is a
-- frame of it
pub record Keeps (v : View) (y x : Transfer) : Type 0 where
  pub same : SameParcel y x
  pub live : Live v.limits v.clock v.echoes v.next_token x → Live v.limits v.clock v.echoes v.next_token y
  pub chosen : (f : PreparedFrame) → v.selected ≡ Some f → Chosen f x → Chosen f y

-- whichever the others are
pub keeps_among : {v : View} {y x : Transfer} (l : List Transfer) → Keeps v y x → Keeps (with_transfers v l) y x
keeps_among l k = record { same = k.same; live = k.live; chosen = k.chosen }

-- of the transfer x there stands y, among the others, in their order
pub placed_kept : (v : View) (a b c d : List Transfer) (x y : Transfer) → c ++ d ≡ a ++ b → Keeps v y x → Sound (with_transfers v (a ++ x ∷ b)) → Sound (with_transfers v (c ++ y ∷ d))
placed_kept v a b c d x y e k h =
    let n : length (a ++ x ∷ b) ≡ suc (length (a ++ b)) = length_in a x b in
    let m : length (c ++ y ∷ d) ≡ suc (length (c ++ d)) = length_in c y d in
    let o : length (c ++ d) ≡ length (a ++ b) = ap length e in
    let i = h.live in
    let j = h.accounted in
    let s = k.same in
    listed_kept (with_transfers v (a ++ x ∷ b)) (c ++ y ∷ d) v.events v.selected (omega arith) (omega arith)
    (all_in c y d (k.live (all_one a x b h.transfers)) (subst (All (Live v.limits v.clock v.echoes v.next_token)) (sym e) (all_rest a x b h.transfers)))
    (pairs_in (different_sym v.clock) c y d
    (subst (All (Different v.clock y)) (sym e) (all_map (λ z. different_same v.clock x y z s.0 s.1 s.2) (pairs_one (different_sym v.clock) a x b h.different)))
    (subst (Pairs (Different v.clock)) (sym e) (pairs_rest a x b h.different)))
    (selected v.selected refl h.selected) h
  where
    selected : (s : Option PreparedFrame) → v.selected ≡ s → Selected (a ++ x ∷ b) v.next_token s → Selected (c ++ y ∷ d) v.next_token s
    selected None q t = tt
    selected (Some f) q t = (⊎_elim (λ (r : Chosen f x). some_one c y d (k.chosen f q r)) (λ r. some_in c y d (subst (Any (Chosen f)) (sym e) r)) (some_out a x b t.0), t.1)

module _ (v : View) (x : Transfer) where
  -- at the clock's block
  abbrev block : ℕ
  block = v.clock.last_block

  -- as it is
  pub self_keeps : Keeps v x x
  self_keeps = record { same = (refl, refl, refl); live = λ h. h; chosen = λ f e c. c }

  -- settled
  pub settled_keeps : Keeps v (settle_of block x) x
  settled_keeps = record { same = settled_parcel block x; live = λ h. settled_live x h; chosen = λ f e c. settled_chosen x c block }

  -- its last frame queued again, for `prepare_prioritized`
  pub repeated_keeps : Keeps v (repeated x) x
  repeated_keeps = record { same = repeated_parcel x; live = λ h. repeated_live x h; chosen = λ f e c. repeated_chosen x c }

  -- and for `refresh_waiting`
  pub refreshed_keeps : Keeps v (refreshed block x) x
  refreshed_keeps = record { same = refreshed_parcel block x; live = λ h. refreshed_live x h block; chosen = λ f e c. refreshed_chosen x c block }

  -- a frame in flight confirmed
  pub confirmed_keeps : (frame : ℕ) → frame < x.parcel.frames → Keeps v (confirm_frame frame x) x
  confirmed_keeps frame low = record { same = (refl, refl, refl); live = λ h. confirmed_live x h frame low; chosen = λ f e c. confirmed_chosen x c frame }

  -- a map observed, once the Begin went out
  pub observed_keeps : (map : ℕ) → has (went_out x) 0 ≡ true → Keeps v (observes map block x) x
  observed_keeps map begun = record { same = (refl, refl, refl); live = λ h. observed_live x h map begun; chosen = λ f e c. observed_chosen x c map block }

  -- its front in flight, with none selected
  pub in_flight_keeps : (frame : ℕ) → v.selected ≡ None → (is_ready x && eqb (front x.sets.queue) frame) ≡ true → Keeps v (in_flight_lem frame block x) x
  in_flight_keeps frame n e =
      let q = both (is_ready x) (eqb (front x.sets.queue) frame) e in
      record {
        same = (refl, refl, refl);
        live = λ h. in_flight_live x h frame q.0 (sym (eqb-true (front x.sets.queue) frame q.1));
        chosen = λ f s c. cc;
      }

-- ---- an echo is held

-- no live transfer that is not overdue has an echo that is free
pub free_unheld : (v : View) {echo : ℕ} → free_echo v.echoes v.clock.last_ms ≡ Some echo → Sound v → All (λ x. overdue v.clock x ≡ false → x.echo ≢ echo) v.transfers
free_unheld v {echo} q h = all_map go h.transfers
  where
    go : (x : Transfer) → Live v.limits v.clock v.echoes v.next_token x → overdue v.clock x ≡ false → x.echo ≢ echo
    go x k o e =
        let f : get_or v.echoes.echo_until_ms echo 0 ≤ v.clock.last_ms = (free_now v.echoes h.echoes h.next_echo v.clock.last_ms q).1 in
        let u : get_or v.echoes.echo_until_ms x.echo 0 ≡ held_until v.limits x.parcel.deadline_ms = k.holds.held o in
        let w : get_or v.echoes.echo_until_ms x.echo 0 ≡ get_or v.echoes.echo_until_ms echo 0 = ap (λ (i : ℕ). get_or v.echoes.echo_until_ms i 0) e in
        let d = leb-false x.parcel.deadline_ms v.clock.last_ms o in
        absurd (omega arith)

-- what a hold of another's echo leaves live
pub live_hold : (l : Limits) (c : Clock) (e : Echoes) (next echo until : ℕ) (x : Transfer) → (overdue c x ≡ false → x.echo ≢ echo) → Live l c e next x → Live l c (hold e echo until) next x
live_hold l c e next echo until x n h =
    record {
      accepted = h.accepted;
      sets = h.sets;
      timed = h.timed;
      holds = record { echo = h.holds.echo; fits = h.holds.fits; held = λ o. held_other e echo until x.echo (n o) ∙ h.holds.held o };
      place = h.place;
      usable = h.usable;
      owner = h.owner;
      generation = h.generation;
    }

-- a free echo is held
pub hold-kept : (v : View) (echo until : ℕ) → free_echo v.echoes v.clock.last_ms ≡ Some echo → Sound v → Sound (with_echoes v (hold v.echoes echo until))
hold-kept v echo until q h =
    record {
      some_capacity = h.some_capacity;
      most_capacity = h.most_capacity;
      live = h.live;
      accounted = h.accounted;
      echoes = length-set v.echoes.echo_until_ms echo until ∙ h.echoes;
      next_echo = omega arith;
      transfers = all_map (λ x k. live_hold v.limits v.clock v.echoes v.next_token echo until x k.0 k.1) (all_both (free_unheld v q h) h.transfers);
      different = h.different;
      selected = h.selected;
      counter = h.counter;
    }

-- ---- a token is taken

-- numbers below the next one stay so
pub below_after : (n next : ℕ) → next ≤ stop → n < next → n < number_after next
below_after n next h k = omega arith

-- a live transfer stays so
pub live_after : (l : Limits) (c : Clock) (e : Echoes) (next : ℕ) (x : Transfer) → next ≤ stop → Live l c e next x → Live l c e (number_after next) x
live_after l c e next x s h =
    record {
      accepted = h.accepted;
      sets = h.sets;
      timed = h.timed;
      holds = h.holds;
      place = h.place;
      usable = h.usable;
      owner = below_after x.parcel.owner.0 next s h.owner;
      generation = below_after x.generation.0 next s h.generation;
    }

selected_after : (l : List Transfer) (next : ℕ) (s : Option PreparedFrame) → next ≤ stop → Selected l next s → Selected l (number_after next) s
selected_after l next None k h = tt
selected_after l next (Some f) k h = (h.0, below_after f.token.submission.0 next k h.1)

-- the next token is taken
pub token_kept : (v : View) → Sound v → Sound (token_taken v)
token_kept v h =
    record {
      some_capacity = h.some_capacity;
      most_capacity = h.most_capacity;
      live = h.live;
      accounted = h.accounted;
      echoes = h.echoes;
      next_echo = h.next_echo;
      transfers = all_map (λ x. live_after v.limits v.clock v.echoes v.next_token x h.counter) h.transfers;
      different = h.different;
      selected = selected_after v.transfers v.next_token v.selected h.counter h.selected;
      counter = omega arith;
    }

-- ---- one transfer more

selected_back : (l : List Transfer) (x : Transfer) (next : ℕ) (s : Option PreparedFrame) → Selected l next s → Selected (push_back l x) next s
selected_back l x next None h = tt
selected_back l x next (Some f) h = (some_left l (x ∷ []) h.0, h.1)

-- a live transfer that differs from all goes to the back
pub joined-kept : (w : View) (x : Transfer) → Live w.limits w.clock w.echoes w.next_token x → All (Different w.clock x) w.transfers
    → length w.transfers < w.limits.capacity → length w.transfers + length w.events < 2 * w.limits.capacity → Sound w → Sound (kept w x)
joined-kept w x live d a b h =
    let n : length (push_back w.transfers x) ≡ suc (length w.transfers) = length_back w.transfers x in
    listed_kept w (push_back w.transfers x) w.events w.selected (omega arith) (omega arith)
    (all_back w.transfers x live h.transfers) (pairs_back w.transfers x (different_sym w.clock) d h.different)
    (selected_back w.transfers x w.next_token w.selected h.selected) h

-- a parcel and an echo that are not those of a live transfer
pub record Unlike (c : Clock) (p : Parcel) (echo : ℕ) (x : Transfer) : Type 0 where
  pub identity : same p.identity x.parcel.identity ≡ false
  pub place : p.n ≢ x.parcel.n
  pub owner : p.owner.0 ≢ x.parcel.owner.0
  pub other : overdue c x ≡ false → x.echo ≢ echo

-- a parcel and an echo under which a transfer may begin
pub record Newcomer (w : View) (p : Parcel) (echo : ℕ) : Type 0 where
  pub accepted : Accepted (begun p echo w.next_token)
  pub low : echo < 128
  pub fits : held_until w.limits p.deadline_ms ≤ stop
  pub held : get_or w.echoes.echo_until_ms echo 0 ≡ held_until w.limits p.deadline_ms
  pub place : p.n < w.limits.capacity
  pub usable : w.limits.startup_until_block ≤ w.clock.last_block
  pub owner : p.owner.0 ≤ w.next_token
  pub counter : w.next_token < stop
  pub others : All (Unlike w.clock p echo) w.transfers
  pub live : length w.transfers < w.limits.capacity
  pub accounted : length w.transfers + length w.events < 2 * w.limits.capacity

-- a transfer that begins has frames, all of them queued
begun_sets : (p : Parcel) (echo t : ℕ) → 1 ≤ p.frames → SetsAgree (begun p echo t)
begun_sets p echo t h =
    record {
      queue = omega (arith, pow_pos p.frames);
      in_flight = pow_pos p.frames;
      transmitted = pow_pos p.frames;
      observed = pow_pos p.frames;
      disjoint = and_zero_r (first_frames p.frames);
      no_begin = refl;
      went-out = refl;
      begin_first = λ k. absurd (true≢false (sym k));
      submitted = λ k. let e = eqb-true (first_frames p.frames) 0 k in let m : 2 ^ 1 ≤ 2 ^ p.frames = pow_mono h in absurd (omega arith);
    }

newcomer_live : (w : View) (p : Parcel) (echo : ℕ) → Newcomer w p echo → Live w.limits w.clock w.echoes (number_after w.next_token) (begun p echo w.next_token)
newcomer_live w p echo h =
    let f : p.frames ≡ 1 + continues p.identity p.octets = h.accepted.frames in
    let o = h.owner in
    let c = h.counter in
    record {
      accepted = h.accepted;
      sets = begun_sets p echo w.next_token (omega arith);
      timed = record { progress = tt; waiting = tt; last_frame = tt };
      holds = record { echo = h.low; fits = h.fits; held = λ a. h.held };
      place = h.place;
      usable = h.usable;
      owner = omega arith;
      generation = omega arith;
    }

-- its generation is the next number, which no live transfer has
newcomer_different : (w : View) (p : Parcel) (echo : ℕ) (x : Transfer) → Live w.limits w.clock w.echoes w.next_token x → Unlike w.clock p echo x → Different w.clock (begun p echo w.next_token) x
newcomer_different w p echo x live u =
    let g = live.generation in
    record { identity = u.identity; place = u.place; owner = u.owner; generation = λ e. absurd (omega arith); echo = λ a b e. u.other b (sym e) }

-- a transfer begins, at the back, under the next token
pub added_kept : (w : View) (p : Parcel) (echo : ℕ) → Newcomer w p echo → Sound w → Sound (kept (token_taken w) (begun p echo w.next_token))
added_kept w p echo n h =
    joined-kept (token_taken w) (begun p echo w.next_token) (newcomer_live w p echo n) (all_map (λ x k. newcomer_different w p echo x k.0 k.1) (all_both h.transfers n.others)) n.live n.accounted (token_kept w h)

-- ---- the cases of a call

-- a search: none passes, or the one at the place does
pub seek_cases : {X : Type 0} (P : X → Type 0) (test : Transfer → Bool) (l : List Transfer) (nothing : X) (found : ℕ → Transfer → X) → (All (λ x. test x ≡ false) l → P nothing)
    → ((i : ℕ) → i < length l → test (get_or l i blank_transfer) ≡ true → P (found i (get_or l i blank_transfer))) → P (seek test l nothing found)
seek_cases P test l nothing found a b =
    cond_cases P (ltb (position test l) (length l)) (found (position test l) (get_or l (position test l) blank_transfer)) nothing
    (λ e. let lt = ltb-true (position test l) (length l) e in b (position test l) lt (position-found test blank_transfer l lt)) (λ e. a (position-none test l (ltb-false (position test l) (length l) e)))

-- what `prepare_prioritized` does after its `advance`: nothing, or there is a transfer to put first, and then the choice or nothing
pub prioritize_cases : (P : After (Option PreparedFrame) View → Type 0) (v : View) (octets : List ℕ) (echo : ℕ) → P (says None v)
    → ((i : ℕ) → i < length v.transfers → let w = with_selected (with_transfers v (repeated (get_or v.transfers i blank_transfer) ∷ remove_at i v.transfers)) (only_echo echo v.selected) in P (choose w octets) × P (says None w))
    → P (prioritize_at v octets echo)
unfolding prioritize_at
prioritize_cases P v octets echo h k =
    seek_cases P (of_echo echo) v.transfers (says None v) (prioritized v octets echo) (λ n. h)
    (λ i lt t. let x = get_or v.transfers i blank_transfer in
    let w = with_selected (with_transfers v (repeated x ∷ remove_at i v.transfers)) (only_echo echo v.selected) in
    cond_cases P (is_ready (repeated x)) (choose w octets) (says None w) (λ e. (k i lt).0) (λ e. (k i lt).1))

-- what `submitted` does at the moved clock: it refuses, or the front of a transfer is handed in
pub submit_cases : (P : Out Unit → Type 0) (v : View) (m : Lent) (t : FrameToken) → P (refusal 24 v m)
    → ((i : ℕ) → i < length v.transfers → let x = get_or v.transfers i blank_transfer in (is_ready x && eqb (front x.sets.queue) t.frame) ≡ true → P (handed_in v m t i x))
    → P (submitted_at v m t)
unfolding submitted_at
submit_cases P v m t h k =
    cond_cases P (is_selected t v.selected) (seek (of_generation t.generation) v.transfers (refusal 24 v m) found) (refusal 24 v m)
    (λ e. seek_cases P (of_generation t.generation) v.transfers (refusal 24 v m) found (λ n. h)
    (λ i lt g. let x = get_or v.transfers i blank_transfer in cond_cases P (is_ready x && eqb (front x.sets.queue) t.frame) (handed_in v m t i x) (refusal 24 v m) (k i lt) (λ e. h))) (λ e. h)
  where
    found : ℕ → Transfer → Out Unit
    found place x = cond (is_ready x && eqb (front x.sets.queue) t.frame) (handed_in v m t place x) (refusal 24 v m)

-- what `transmitted` does at the moved clock: nothing, or a frame that is outstanding is confirmed, and the sender walked
pub confirm_cases : (P : View → Type 0) (v : View) (words : List ℕ) (t : FrameToken) → P v
    → ((i : ℕ) → i < length v.transfers → let x = get_or v.transfers i blank_transfer in is_outstanding t words x ≡ true → P (walked (put_at v i (confirm_frame t.frame x))))
    → P (transmitted_at v words t).state
unfolding transmitted_at
confirm_cases P v words t h k =
    seek_cases {X = After (Option Bool) View} (λ a. P a.state) (of_generation t.generation) v.transfers (says None v) (λ place x. cond (is_outstanding t words x) (confirms v t place x) (says None v)) (λ n. h)
    (λ i lt g. let x = get_or v.transfers i blank_transfer in cond_cases {X = After (Option Bool) View} (λ a. P a.state) (is_outstanding t words x) (confirms v t i x) (says None v) (k i lt) (λ e. h))

-- what `status` does after its first `advance`: nothing, or a transfer observes it, and the sender is walked
pub status_cases : (P : View → Type 0) (v : View) (s : ArqStatus) → P v
    → ((i : ℕ) → i < length v.transfers → let x = get_or v.transfers i blank_transfer in has (went_out x) 0 ≡ true → P (walked (put_at v i (observes s.received_frames v.clock.last_block x))))
    → P (status_at v s).state
unfolding status_at
status_cases P v s h k =
    seek_cases {X = After Bool View} (λ a. P a.state) (of_echo s.partial_echo) v.transfers (says false v) (λ place x. cond (has (went_out x) 0) (says true (walked (shown place x))) (says false v)) (λ n. h)
    (λ i lt g. let x = get_or v.transfers i blank_transfer in cond_cases {X = After Bool View} (λ a. P a.state) (has (went_out x) 0) (says true (walked (shown i x))) (says false v) (k i lt) (λ e. h))
  where
    shown : ℕ → Transfer → View
    shown place x = put_at v place (observes s.received_frames v.clock.last_block x)

-- neither of two tests holds
pub neither : (a b : Bool) → (a || b) ≡ false → (a ≡ false) × (b ≡ false)
neither true b h = let z : ◌≡◌ {A = ℕ} 0 1 = cc in absurd (omega arith)
neither false b h = (refl, h)

not-zero : (n : ℕ) → eqb n 0 ≡ false → 1 ≤ n
not-zero zero e = absurd (eqb-false 0 0 e refl)
not-zero (suc n) e = omega arith

-- a clock that is let through has not gone back, and is the sender's then
pub ticked_gives : (v : View) (block now : ℕ) {w : View} → ticked v block now ≡ gives w → (w ≡ with_clock v (record { last_block = block; last_ms = now })) × (v.clock.last_block ≤ block) × (v.clock.last_ms ≤ now)
ticked_gives v block now {w} e =
    let p = passed (ltb block v.clock.last_block || ltb now v.clock.last_ms) 22 (gives (with_clock v (record { last_block = block; last_ms = now }))) e in
    let t = neither (ltb block v.clock.last_block) (ltb now v.clock.last_ms) p.0 in
    let z : w ≡ with_clock v (record { last_block = block; last_ms = now }) = let q = p.1 in cc in
    (z, ltb-false _ _ t.0, ltb-false _ _ t.1)

-- and keeps `Sound`
pub ticked-kept : (v : View) (block now : ℕ) {w : View} → ticked v block now ≡ gives w → Sound v → Sound w
ticked-kept v block now e h = let t = ticked_gives v block now e in subst Sound (sym t.0) (clock_kept v block now t.1 t.2 h)

-- what is admitted: 512 tokens are left, and the clock has moved
pub admitted_gives : (v : View) (m : Lent) (block now : ℕ) {w : View} → admitted v m block now ≡ gives w → (512 + v.next_token ≤ stop) × (ticked v block now ≡ gives w)
admitted_gives v m block now e =
    let p = passed (short m) 16 _ e in
    let q = passed (fewer_than 512 v.next_token) 18 (ticked v block now) p.1 in
    let n = ltb-false (stop - v.next_token) 512 q.0 in
    (omega arith, q.1)

-- and `Sound` is kept
pub admitted-kept : (v : View) (m : Lent) (block now : ℕ) {w : View} → admitted v m block now ≡ gives w → Sound v → Sound w
admitted-kept v m block now e h = ticked-kept v block now (admitted_gives v m block now e).1 h

-- and 512 tokens are left then too
pub admitted_tokens : (v : View) (m : Lent) (block now : ℕ) {w : View} → admitted v m block now ≡ gives w → 512 + w.next_token ≤ stop
admitted_tokens v m block now {w} e =
    let a = admitted_gives v m block now e in
    let z : w.next_token ≡ v.next_token = ap (λ (u : View). u.next_token) (ticked_gives v block now a.1).0 in
    let n = a.0 in
    omega arith

-- the constructor
pub new_call_kept : (capacity guard first_block first : ℕ) {v : View} → new_of capacity guard first_block first ≡ gives v → first ≤ stop → Sound v
unfolding new_of
new_call_kept capacity guard first_block first {v} e h =
    let p = passed (eqb capacity 0 || ltb 128 capacity) 19 (gives (fresh capacity guard first_block first)) e in
    let z : fresh capacity guard first_block first ≡ v = let q = p.1 in cc in
    let b = neither (eqb capacity 0) (ltb 128 capacity) p.0 in
    subst Sound z (fresh_sound capacity guard first_block first (not-zero capacity b.0) (ltb-false 128 capacity b.1) h)

-- with no more events than before
pub events_kept : (v : View) (l : List Event) → length l ≤ length v.events → Sound v → Sound (with_events v l)
events_kept v l n h =
    let a = h.accounted in
    record { some_capacity = h.some_capacity; most_capacity = h.most_capacity; live = h.live; accounted = omega arith; echoes = h.echoes; next_echo = h.next_echo; transfers = h.transfers; different = h.different; selected = h.selected; counter = h.counter }

-- ---- enqueue

-- the lowest n is no live transfer's, and is at most how many there are
pub lowest_free : (tries k : ℕ) (l : List Transfer) → ((j : ℕ) → j < k → Any (λ x. x.parcel.n ≡ j) l) → length l < k + tries → (lowest_from tries k l ≤ length l) × All (λ x. lowest_from tries k l ≢ x.parcel.n) l
lowest_free zero k l h lt = let p = pigeon (λ (x : Transfer). x.parcel.n) k l h in absurd (omega arith)
lowest_free (suc tries) k l h lt = go (any test l) refl (λ q. lowest_free tries (suc k) l q (omega arith))
  where
    test : Transfer → Bool
    test x = eqb x.parcel.n k

    go : (b : Bool) → any test l ≡ b → (((j : ℕ) → j < suc k → Any (λ x. x.parcel.n ≡ j) l) → (lowest_from tries (suc k) l ≤ length l) × All (λ x. lowest_from tries (suc k) l ≢ x.parcel.n) l)
        → (cond b (lowest_from tries (suc k) l) k ≤ length l) × All (λ x. cond b (lowest_from tries (suc k) l) k ≢ x.parcel.n) l
    go true e f =
        f
        (λ j m. ⊎_elim (λ q. h j (ltb-true j k q)) (λ q. let r = ltb-false j k q in let w : k ≡ j = omega arith in some-map (λ x t. eqb-true x.parcel.n k t ∙ w) (any-true test l e)) (cases_Bool (ltb j k)))
    go false e f = (pigeon (λ (x : Transfer). x.parcel.n) k l h, all_map (λ x t q. eqb-false x.parcel.n k t (sym q)) (any_false test l e))

-- what a count tells of its message
pub count_gives : (h : ArqHeader) (i : MobileIdentity) (m : List ℕ) {n : ℕ} → count_of h i m ≡ gives n → (length m ≤ 255) × (usage_of h.channel ≢ 7) × (encodable i ≡ true) × (n ≡ 1 + continues i (length m))
unfolding count_of
count_gives h i m {n} e =
    let a = passed (ltb 255 (length m)) 1 _ e in
    let b = passed (eqb (usage_of h.channel) 7) 3 _ a.1 in
    let c = passed (ltb 127 h.partial_echo) 11 _ b.1 in
    let d = passed (not (encodable i)) 2 (gives (1 + continues i (length m))) c.1 in
    let z : n ≡ 1 + continues i (length m) = let q = d.1 in cc in
    (ltb-false 255 (length m) a.0, eqb-false (usage_of h.channel) 7 b.0, not-false (encodable i) d.0, z)

-- a request, and what it is given, are proper under limits, at a clock, with these echoes
pub record Proper (l : Limits) (c : Clock) (e : Echoes) (r : Request) (message : List ℕ) (g : Grant) : Type 0 where
  pub due : c.last_ms < r.deadline_ms
  pub some_octets : 1 ≤ length message
  pub most_octets : length message ≤ 255
  pub channel : usage_of r.channel ≢ 7
  pub identity : encodable r.identity ≡ true
  pub frames : g.frames ≡ 1 + continues r.identity (length message)
  pub usable : l.startup_until_block ≤ c.last_block
  pub fits : held_until l r.deadline_ms ≤ stop
  pub echo : free_echo e c.last_ms ≡ Some g.echo

-- what a request that is granted has passed
pub record Passes (v : View) (r : Request) (message : List ℕ) (g : Grant) : Type 0 where
  pub events : length v.events < v.limits.capacity
  pub room : (not (any (addressed r.identity) v.transfers) && leb v.limits.capacity (length v.transfers)) ≡ false
  pub proper : Proper v.limits v.clock v.echoes r message g

-- a sender that has room for it: no live transfer is to its identity
pub record Welcomes (v : View) (r : Request) (message : List ℕ) (g : Grant) : Type 0 where
  pub proper : Proper v.limits v.clock v.echoes r message g
  pub others : All (λ x. same r.identity x.parcel.identity ≡ false) v.transfers
  pub live : length v.transfers < v.limits.capacity
  pub accounted : length v.transfers + length v.events < 2 * v.limits.capacity
  pub counter : v.next_token < stop

granted_gives : (frames : ℕ) (o : Option ℕ) (g : Grant) → granted frames o ≡ gives g → (frames ≡ g.frames) × (o ≡ Some g.echo)
granted_gives frames None g e = let z : ◌≡◌ {A = ℕ} 0 1 = cc in absurd (omega arith)
granted_gives frames (Some echo) g e =
    let z : ◌≡◌ {A = Grant} (record { frames = frames; echo = echo }) g = cc in
    (ap (λ (x : Grant). x.frames) z, ap (λ (x : Grant). Some x.echo) z)

-- no refusal of `enqueue` stands then
pub grant_passes : (v : View) (r : Request) (message : List ℕ) {g : Grant} → grant_of v r message ≡ gives g → Passes v r message g
unfolding grant_of
grant_passes v r message {g} e =
    let a = passed (leb v.limits.capacity (length v.events)) 20 _ e in
    let b = passed (leb r.deadline_ms v.clock.last_ms) 23 _ a.1 in
    let c = passed (eqb (length message) 0) 1 _ b.1 in
    let d = passed (not (any (addressed r.identity) v.transfers) && leb v.limits.capacity (length v.transfers)) 20 _ c.1 in
    let t = then-gives (count_of (header_of r.channel 0 false) r.identity message) (allocated v.limits v.clock v.echoes r.deadline_ms) d.1 in
    let n = count_gives (header_of r.channel 0 false) r.identity message t.1 in
    let f = passed (ltb v.clock.last_block v.limits.startup_until_block) 21 _ t.2 in
    let k = passed (ltb stop (held_until v.limits r.deadline_ms)) 23 (granted t.0 (free_echo v.echoes v.clock.last_ms)) f.1 in
    let x = granted_gives t.0 (free_echo v.echoes v.clock.last_ms) g k.1 in
    record {
      events = leb-false _ _ a.0;
      room = d.0;
      proper = record {
        due = leb-false _ _ b.0;
        some_octets = not-zero (length message) c.0;
        most_octets = n.0;
        channel = n.1;
        identity = n.2;
        frames = sym x.0 ∙ n.3;
        usable = ltb-false _ _ f.0;
        fits = ltb-false _ _ k.0;
        echo = x.1;
      };
    }

-- identities that are the same as one are the same as the other
same_as : (a b c : MobileIdentity) → same a b ≡ true → same b c ≡ same a c
same_as a b c e = ap (λ (x : MobileIdentity). same x c) (sym (same_equal a b e))

module _ (v : View) (r : Request) (message : List ℕ) (g : Grant) (p : Passes v r message g) (next : v.next_token < stop) (h : Sound v) where
  -- a granted request is welcome where no live transfer is to its identity
  pub welcomes : All (λ x. addressed r.identity x ≡ false) v.transfers → Welcomes v r message g
  welcomes n =
      let lt = room (any (addressed r.identity) v.transfers) refl p.room in
      let ev = p.events in
      record { proper = p.proper; others = all_map (λ x q. same-sym r.identity x.parcel.identity ∙ q) n; live = lt; accounted = omega arith; counter = next }
    where
      room : (b : Bool) → any (addressed r.identity) v.transfers ≡ b → (not b && leb v.limits.capacity (length v.transfers)) ≡ false → length v.transfers < v.limits.capacity
      room true e q = some_all (λ x a b. let z : ◌≡◌ {A = ℕ} 0 1 = cc in absurd (omega arith)) (any-true (addressed r.identity) v.transfers e) n
      room false e q = leb-false _ _ q

  -- and where that one is replaced
  pub welcomes_instead : (i : ℕ) → i < length v.transfers → addressed r.identity (get_or v.transfers i blank_transfer) ≡ true → Welcomes (cancel_at v i (get_or v.transfers i blank_transfer)) r message g
  welcomes_instead i lt t =
      let l = v.transfers in
      let x = get_or l i blank_transfer in
      let n : length l ≡ suc (length (remove_at i l)) = length_removed l i blank_transfer lt in
      let o : length (push_back v.events (event_of x cancels)) ≡ suc (length v.events) = length_back v.events _ in
      let ev = p.events in
      let lv = h.live in
      record {
        proper = p.proper;
        others = all_map (λ y d. same_as x.parcel.identity r.identity y.parcel.identity t ∙ d.identity) (pairs-at l i blank_transfer lt (different_sym v.clock) h.different);
        live = omega arith;
        accounted = omega arith;
        counter = next;
      }

-- the request is accepted: its echo is held until deadline plus guard, and a transfer begins, at the back, under the next token
pub welcomed_kept : (v : View) (r : Request) (message : List ℕ) (g : Grant) → Welcomes v r message g → Sound v
    → Sound (kept (token_taken (with_echoes v (hold v.echoes g.echo (held_until v.limits r.deadline_ms)))) (begun (parcel_of r message g.frames (lowest_n v.transfers) v.next_token) g.echo v.next_token))
welcomed_kept v r message g w h =
    let p = w.proper in
    let until = held_until v.limits r.deadline_ms in
    let u = with_echoes v (hold v.echoes g.echo until) in
    let next = w.counter in
    let lv = w.live in
    let most = h.most_capacity in
    let low : g.echo < 128 = (free_now v.echoes h.echoes h.next_echo v.clock.last_ms p.echo).0 in
    let n = lowest_free 128 0 v.transfers (λ j m. absurd (omega arith)) (omega arith) in
    let s : lowest_n v.transfers ≤ length v.transfers = n.0 in
    added_kept u parcel g.echo
    (record {
      accepted = record { identity = p.identity; channel = p.channel; some_octets = p.some_octets; most_octets = p.most_octets; frames = p.frames };
      low = low;
      fits = p.fits;
      held = held_after v.echoes h.echoes g.echo until low;
      place = omega arith;
      usable = p.usable;
      owner = omega arith;
      counter = next;
      others = all_map apart (all_both (all_both w.others (free_unheld v p.echo h)) (all_both n.1 h.transfers));
      live = w.live;
      accounted = w.accounted;
    })
    (hold-kept v g.echo until p.echo h)
  where
    parcel : Parcel
    parcel = parcel_of r message g.frames (lowest_n v.transfers) v.next_token

    apart : (x : Transfer)
        → ((same r.identity x.parcel.identity ≡ false) × (overdue v.clock x ≡ false → x.echo ≢ g.echo)) × ((lowest_from 128 0 v.transfers ≢ x.parcel.n) × Live v.limits v.clock v.echoes v.next_token x)
        → Unlike v.clock parcel g.echo x
    apart x k = let o = k.1.1.owner in record { identity = k.0.0; place = k.1.0; owner = λ e. absurd (omega arith); other = k.0.1 }
