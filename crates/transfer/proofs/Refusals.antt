-- What comments beside the definitions say, proved. Assumes nothing.
use Rattle.std.proofs.Common.{◌≡◌, ℕ, suc, ◌+◌, ◌*◌, ◌<◌, ◌≤◌, Bool, true, false, cond, not, ◌&&◌, ◌||◌, eqb, ltb, ◌≢◌, ◌⊎◌, ◌↔◌, List, [], ◌∷◌, ◌++◌, length, get_or, drop, Some, None, Option, sym, refl, ap, ◌∙◌, subst, inl, inr, ⊎_elim, arith, length-drop, length-set, length-take-le, ltb-false, ltb-true, le-ltb, lt-ltb, eq-eqb, ne_eqb, eqb-true}
use Rattle.std.proofs.lemmas.Bool.{and_from, both_ways, cases_Bool, cond-false, cond-true}
use mathlib.Core.List.{foldl}
use borrow.Author.Tests.{eqb-false}
use Rattle.token.specs.Token.{stop, fewer_than}
use Rattle.rach.specs.Identity.{encodable}
use Rattle.rach.specs.declared.MobileIdentity.{MobileIdentity}
use Rattle.rach.proofs.Laws.{both}
use Rattle.spach.specs.Header.{usage_of}
use Rattle.spach.specs.Refusal.{Outcome, gives, refuses, refuse, and_then, After, onward}
use Rattle.spach.proofs.Outcomes.{then-gives}
use Rattle.arq.specs.declared.ArqHeader.{ArqHeader}
use Rattle.arq.specs.declared.ArqFrame.{ArqFrame}
use Rattle.arq.specs.declared.PackedFrame.{PackedFrame}
use Rattle.arq.specs.Encode.{encode_of}
use Rattle.arq.specs.Decode.{decode_of}
use Rattle.arq.specs.Cut.{continues, cut_frame, frame_of}
use Rattle.arq.proofs.Theorems.{cut_decodes}
use Rattle.transfer.specs.declared.Error.TheVariants.{EchoExhausted}
use Rattle.transfer.specs.declared.Event.{Event}
use Rattle.transfer.specs.declared.Event.TheVariants.{Failed}
use Rattle.transfer.specs.declared.Fate.{Fate}
use Rattle.transfer.specs.declared.Fate.TheVariants.{Ends, Restarts, Stays}
use Rattle.transfer.specs.declared.FrameToken.{FrameToken}
use Rattle.transfer.specs.declared.Request.{Request}
use Rattle.transfer.specs.declared.Transfer.{Transfer}
use Rattle.transfer.specs.declared.PreparedFrame.{PreparedFrame}
use Rattle.transfer.specs.Lists.{remove_at, push_back}
use Rattle.transfer.specs.Queue.{front, one_left}
use Rattle.transfer.specs.State.{Limits, Clock, Echoes, View, Lent, Out, with_clock, with_transfers, with_selected, short, ticked, admitted, says, refusal, goes_on, seek, of_generation, blank_transfer, completes, expires, event_of}
use Rattle.transfer.specs.Echo.{free_echo, held_until}
use Rattle.transfer.specs.Transfer.{header_of, message_of}
use Rattle.transfer.specs.Advance.{fate_of, restart, landed, step, unasked, walked}
use Rattle.transfer.specs.Enqueue.{Grant, granted, allocated, grant_of, accepts, enqueue_of}
use Rattle.transfer.specs.Prepare.{is_ready, packed_of, front_of, selects, choose_from, choose, prepare_of, repeated, only_echo, prioritize_at, prepare_prioritized_of}
use Rattle.transfer.specs.Submitted.{is_selected, handed_in, submitted_at, submitted_of}
use Rattle.transfer.specs.Invariant.{All, Any, Live, Selected, Sound}
use Rattle.transfer.proofs.Alive.{ready_some}
use Rattle.transfer.proofs.EchoSearch.{none_free}
use Rattle.transfer.proofs.Frames.{front_low}
use Rattle.transfer.proofs.Listed.{all-at, some-map, some_all, some_removed, pairs-at, length_back}
use Rattle.transfer.proofs.Invariant.{different_sym, seek_cases, prioritize_cases, submit_cases}
use Rattle.transfer.proofs.Walked.{fate_cases}
use Rattle.transfer.proofs.Calls.{admitted-walked-kept, prioritized-kept, restart_fails_exactly}
use Rattle.transfer.proofs.Moves.{admitted_long}

-- ---- what is written to the lent memory

-- `enqueue` writes no word
pub enqueue_words : (v : View) (m : Lent) (r : Request) (message : List ℕ) (block now : ℕ) → (enqueue_of v m r message block now).lent.words ≡ m.words
unfolding enqueue_of accepts
enqueue_words v m r message block now = go (admitted v m block now)
  where
    inner : (w : View) (o : Outcome Grant) → (goes_on w m o (λ g. accepts w m r message g)).lent.words ≡ m.words
    inner w (gives g) = refl
    inner w (refuses n) = refl

    go : (o : Outcome View) → (goes_on v m o (λ w. goes_on w m (grant_of w r message) (λ g. accepts w m r message g))).lent.words ≡ m.words
    go (gives w) = inner w (grant_of w r message)
    go (refuses n) = refl

-- `submitted` writes no octet
pub submitted-octets : (v : View) (m : Lent) (t : FrameToken) (block now : ℕ) → (submitted_of v m t block now).lent.octets ≡ m.octets
unfolding submitted_of
submitted-octets v m t block now = go (refuse (short m) 16 (ticked v block now))
  where
    go : (o : Outcome View) → (goes_on v m o (λ w. submitted_at w m t)).lent.octets ≡ m.octets
    go (gives w) = submit_cases (λ o. o.lent.octets ≡ m.octets) w m t refl (λ i lt e. refl)
    go (refuses n) = refl

-- ---- submitted

-- what a transfer is whose front a token names
abbrev Fronted : FrameToken → Transfer → Type 0
Fronted t x = (x.generation.0 ≡ t.generation.0) × ((is_ready x ≡ true) × (eqb (front x.sets.queue) t.frame ≡ true))

-- the selected frame's token names the front of a live transfer
selected_fronted : (l : List Transfer) (next : ℕ) (t : FrameToken) (s : Option PreparedFrame) → Selected l next s → is_selected t s ≡ true → Any (Fronted t) l
selected_fronted l next t None h e = absurd (both_ways false refl e)
selected_fronted l next t (Some f) h e =
    let p = both (eqb f.token.generation.0 t.generation.0) (eqb f.token.submission.0 t.submission.0 && eqb f.token.frame t.frame) e in
    let q = both (eqb f.token.submission.0 t.submission.0) (eqb f.token.frame t.frame) p.1 in
    let g = eqb-true f.token.generation.0 t.generation.0 p.0 in
    let k = eqb-true f.token.frame t.frame q.1 in
    some-map (λ x c. (sym c.generation ∙ g, (c.ready, eq-eqb (front x.sets.queue) t.frame (sym c.frame ∙ k)))) h.0

-- the selected frame is handed in
pub selected_submits : (v : View) (m : Lent) (t : FrameToken) → Sound v → is_selected t v.selected ≡ true → (submitted_at v m t).outcome ≡ gives tt
unfolding submitted_at
selected_submits v m t h e =
    ap (λ (o : Out Unit). o.outcome) (cond-true _ (seek (of_generation t.generation) v.transfers (refusal 24 v m) found) (refusal 24 v m) e)
    ∙ seek_cases {X = Out Unit} (λ o. o.outcome ≡ gives tt) (of_generation t.generation) v.transfers (refusal 24 v m) found
    (λ n. absurd (some_all (λ x a b. eqb-false x.generation.0 t.generation.0 b a.0) Some n))
    (λ i lt g. hands i (⊎_elim (λ k. k) (λ k. absurd (some_all (λ x a d. d.generation (eqb-true _ _ g ∙ sym a.0)) k (pairs-at v.transfers i blank_transfer lt (different_sym v.clock) h.different))) (some_removed v.transfers i blank_transfer lt Some)))
  where
    found : ℕ → Transfer → Out Unit
    found place x = cond (is_ready x && eqb (front x.sets.queue) t.frame) (handed_in v m t place x) (refusal 24 v m)

    Some : Any (Fronted t) v.transfers
    Some = selected_fronted v.transfers v.next_token t v.selected h.selected e

    hands : (i : ℕ) → Fronted t (get_or v.transfers i blank_transfer) → (found i (get_or v.transfers i blank_transfer)).outcome ≡ gives tt
    hands i k =
        let x = get_or v.transfers i blank_transfer in
        ap (λ (o : Out Unit). o.outcome) (cond-true _ (handed_in v m t i x) (refusal 24 v m) (and_from _ _ k.1.0 k.1.1))

-- `submitted` refuses 24 exactly if the token is not the selected frame's
pub submitted_stale : (v : View) (m : Lent) (t : FrameToken) → Sound v → ((submitted_at v m t).outcome ≡ refuses 24) ↔ (is_selected t v.selected ≡ false)
unfolding submitted_at
submitted_stale v m t h = (
  (λ q. ⊎_elim (λ e. absurd (clash (sym (selected_submits v m t h e) ∙ q))) (λ e. e) (cases_Bool (is_selected t v.selected))),
  (λ e. ap (λ (o : Out Unit). o.outcome) (cond-false _ (seek (of_generation t.generation) v.transfers (refusal 24 v m) found) (refusal 24 v m) e)),
)
  where
    clash : ◌≡◌ {A = Outcome Unit} (gives tt) (refuses 24) → ⊥
    clash e = let z : ◌≡◌ {A = ℕ} 0 1 = cc in omega arith

    found : ℕ → Transfer → Out Unit
    found place x = cond (is_ready x && eqb (front x.sets.queue) t.frame) (handed_in v m t place x) (refusal 24 v m)

-- ---- prepare

-- a test that does not hold refuses nothing
lets : {A : Type 0} (t : Bool) (n : ℕ) (next o : Outcome A) → t ≡ false → next ≡ o → refuse t n next ≡ o
lets true n next o e q = absurd (both_ways true e refl)
lets false n next o e q = q

-- the cut gives each frame below its count
pub cut_gives : (h : ArqHeader) (i : MobileIdentity) (m : List ℕ) (k : ℕ) → length m ≤ 255 → usage_of h.channel ≢ 7 → h.partial_echo < 128 → encodable i ≡ true → k < 1 + continues i (length m) → frame_of h i m k ≡ gives (cut_frame h i m k)
unfolding frame_of
cut_gives h i m k long usage echo ident low =
    lets (ltb 255 (length m)) 1 _ _ (le-ltb 255 (length m) long)
    (lets (eqb (usage_of h.channel) 7) 3 _ _ (ne_eqb (usage_of h.channel) 7 usage)
    (lets (ltb 127 h.partial_echo) 11 _ _ (le-ltb 127 h.partial_echo (omega arith))
    (lets (not (encodable i)) 2 _ _ (ap not ident)
    (lets (not (ltb k (1 + continues i (length m)))) 12 _ _ (ap not (lt-ltb k (1 + continues i (length m)) low)) refl))))

-- a live transfer's message is in a store that is not short, in full
pub message_long : (l : Limits) (c : Clock) (e : Echoes) (next : ℕ) (x : Transfer) (octets : List ℕ) → l.capacity ≤ 128 → 32640 ≤ length octets → Live l c e next x → length (message_of x octets) ≡ x.parcel.octets
message_long l c e next x octets most room h =
    let p = h.place in
    let o = h.accepted.most_octets in
    length-take-le x.parcel.octets (drop (255 * x.parcel.n) octets) (simp length-drop (omega arith))

-- each frame of a live transfer is cut and encoded
pub packed_gives : (l : Limits) (c : Clock) (e : Echoes) (next : ℕ) (x : Transfer) (octets : List ℕ) (k : ℕ) (polling : Bool) → l.capacity ≤ 128 → 32640 ≤ length octets → Live l c e next x → k < x.parcel.frames
    → (p : PackedFrame) × (packed_of x octets k polling ≡ gives p)
unfolding packed_of
packed_gives l c e next x octets k polling most room h low =
    let long : length (message_of x octets) ≡ x.parcel.octets = message_long l c e next x octets most room h in
    let header = header_of x.parcel.channel x.echo polling in
    let i = x.parcel.identity in
    let m = message_of x octets in
    let o = h.accepted.most_octets in
    let n : x.parcel.frames ≡ 1 + continues i (length m) = h.accepted.frames ∙ ap (λ (z : ℕ). 1 + continues i z) (sym long) in
    let g : frame_of header i m k ≡ gives (cut_frame header i m k) = cut_gives header i m k (omega arith) h.accepted.channel h.holds.echo h.accepted.identity (subst (λ (z : ℕ). k < z) n low) in
    let t = then-gives (encode_of (cut_frame header i m k)) (λ (p : PackedFrame). decode_of p.octets) (cut_decodes header i m k (cut_frame header i m k) g) in
    (t.0, ap (λ (q : Outcome ArqFrame). and_then q encode_of) g ∙ t.1)

-- an answer that is no refusal
abbrev Unrefused : After (Option PreparedFrame) View → Type 0
Unrefused a = (n : ℕ) → a.outcome ≢ refuses n

says_never : (o : Option PreparedFrame) (v : View) → Unrefused (says o v)
says_never o v n e = let z : ◌≡◌ {A = ℕ} 0 1 = cc in omega arith

selects_never : (v : View) (x : Transfer) (o : Outcome PackedFrame) (p : PackedFrame) → o ≡ gives p → Unrefused (selects v x o)
selects_never v x o p e n q =
    let r : ◌≡◌ {A = Outcome (Option PreparedFrame)} (selects v x (gives p)).outcome (refuses n) = ap (λ (o : Outcome PackedFrame). (selects v x o).outcome) (sym e) ∙ q in
    let z : ◌≡◌ {A = ℕ} 0 1 = cc in omega arith

-- a transfer that is ready has a front
ready_low : (l : Limits) (c : Clock) (e : Echoes) (next : ℕ) (x : Transfer) → Live l c e next x → is_ready x ≡ true → front x.sets.queue < x.parcel.frames
ready_low l c e next x h r = front_low x.parcel.frames x.sets.queue (ready_some x r) h.sets.queue

-- the choice of a frame refuses nothing
pub choose_never : (v : View) (octets : List ℕ) → 32640 ≤ length octets → Sound v → (n : ℕ) → (choose v octets).outcome ≢ refuses n
unfolding choose
choose_never v octets room h = go v.selected
  where
    go : (s : Option PreparedFrame) → Unrefused (choose_from v octets s)
    go (Some f) = says_never (Some f) v
    go None =
        seek_cases {X = After (Option PreparedFrame) View} Unrefused is_ready v.transfers (says None v) (λ place x. selects v x (front_of x octets)) (λ n. says_never None v)
        (λ i lt t. let x = get_or v.transfers i blank_transfer in
        let k = all-at v.transfers i blank_transfer lt h.transfers in
        let p = packed_gives v.limits v.clock v.echoes v.next_token x octets (front x.sets.queue) (one_left x.sets.queue) h.most_capacity room k (ready_low v.limits v.clock v.echoes v.next_token x k t) in
        selects_never v x (front_of x octets) p.0 p.1)

-- it has no frame exactly if none is selected and no transfer has one queued: so no sender is idle
pub choose_none_exactly : (v : View) (octets : List ℕ) → 32640 ≤ length octets → Sound v
    → ((choose v octets).outcome ≡ gives None) ↔ ((v.selected ≡ None) × All (λ x. is_ready x ≡ false) v.transfers)
unfolding choose
choose_none_exactly v octets room h = go v.selected
  where
    go : (s : Option PreparedFrame) → ((choose_from v octets s).outcome ≡ gives None) ↔ ((s ≡ None) × All (λ x. is_ready x ≡ false) v.transfers)
    go (Some f) = ((λ e. let z : ◌≡◌ {A = ℕ} 0 1 = cc in absurd (omega arith)), (λ k. let q : Some f ≡ None = k.0 in let z : ◌≡◌ {A = ℕ} 0 1 = cc in absurd (omega arith)))
    go None = (
      seek_cases {X = After (Option PreparedFrame) View} (λ a. a.outcome ≡ gives None → (◌≡◌ {A = Option PreparedFrame} None None) × All (λ x. is_ready x ≡ false) v.transfers) is_ready v.transfers (says None v) (λ place x. selects v x (front_of x octets)) (λ n e. (refl, n))
          (λ i lt t e. let x = get_or v.transfers i blank_transfer in
          let k = all-at v.transfers i blank_transfer lt h.transfers in
          let p = packed_gives v.limits v.clock v.echoes v.next_token x octets (front x.sets.queue) (one_left x.sets.queue) h.most_capacity room k (ready_low v.limits v.clock v.echoes v.next_token x k t) in
          let q : (selects v x (gives p.0)).outcome ≡ gives None = ap (λ (o : Outcome PackedFrame). (selects v x o).outcome) (sym p.1) ∙ e in
          let z : ◌≡◌ {A = ℕ} 0 1 = cc in absurd (omega arith)),
      (λ k. seek_cases {X = After (Option PreparedFrame) View} (λ a. a.outcome ≡ gives None) is_ready v.transfers (says None v) (λ place x. selects v x (front_of x octets)) (λ n. refl)
          (λ i lt t. absurd (both_ways _ (all-at v.transfers i blank_transfer lt k.1) t))),
    )

-- nor with a transfer put first
pub prioritize_never : (v : View) (octets : List ℕ) (echo : ℕ) → 32640 ≤ length octets → Sound v → (n : ℕ) → (prioritize_at v octets echo).outcome ≢ refuses n
prioritize_never v octets echo room h =
    prioritize_cases Unrefused v octets echo (says_never None v)
    (λ i lt. let x = get_or v.transfers i blank_transfer in
    let w = with_selected (with_transfers v (repeated x ∷ remove_at i v.transfers)) (only_echo echo v.selected) in
    (choose_never w octets room (prioritized-kept v i echo x lt refl h), says_never None w))

-- the numbers by which a call with a clock refuses at first
abbrev pub AtFirst : ℕ → Type 0
AtFirst n = (n ≡ 16) ⊎ ((n ≡ 18) ⊎ (n ≡ 22))

admitted_refuses : (v : View) (m : Lent) (block now : ℕ) {n : ℕ} → admitted v m block now ≡ refuses n → AtFirst n
admitted_refuses v m block now {n} = go (short m) (fewer_than 512 v.next_token) (ltb block v.clock.last_block || ltb now v.clock.last_ms)
  where
    number : {a b : ℕ} → ◌≡◌ {A = Outcome View} (refuses a) (refuses b) → b ≡ a
    number e = cc

    go : (a b c : Bool) → ◌≡◌ {A = Outcome View} (refuse a 16 (refuse b 18 (refuse c 22 (gives (with_clock v (record { last_block = block; last_ms = now })))))) (refuses n) → AtFirst n
    go true b c e = inl (number e)
    go false true c e = inr (inl (number e))
    go false false true e = inr (inr (number e))
    go false false false e = let z : ◌≡◌ {A = ℕ} 0 1 = cc in absurd (omega arith)

onward_answers : (v : View) (o : Outcome View) (f : View → After (Option PreparedFrame) View) (n : ℕ) → ((k : ℕ) → o ≡ refuses k → AtFirst k) → ((w : View) → o ≡ gives w → Unrefused (f w)) → (onward v o f).outcome ≡ refuses n → AtFirst n
onward_answers v (gives w) f n a b e = absurd (b w refl n e)
onward_answers v (refuses k) f n a b e = let z : k ≡ n = number e in subst AtFirst z (a k refl)
  where
    number : {a b : ℕ} → ◌≡◌ {A = Outcome (Option PreparedFrame)} (refuses a) (refuses b) → a ≡ b
    number e = cc

-- `prepare` refuses 16, 18 or 22 alone
pub prepare_answers : (v : View) (m : Lent) (block now n : ℕ) → Sound v → (prepare_of v m block now).outcome ≡ refuses n → (n ≡ 16) ⊎ ((n ≡ 18) ⊎ (n ≡ 22))
unfolding prepare_of
prepare_answers v m block now n h =
    onward_answers v (admitted v m block now) (λ w. choose (walked w) m.octets) n (λ k e. admitted_refuses v m block now e)
    (λ w e. choose_never (walked w) m.octets (admitted_long v m block now e) (admitted-walked-kept v m block now e h))

-- so `prepare`, at a clock that is let through, after its `advance`
pub prepare_none_exactly : (v : View) (m : Lent) (block now : ℕ) (w : View) → Sound v → admitted v m block now ≡ gives w
    → ((prepare_of v m block now).outcome ≡ gives None) ↔ (((walked w).selected ≡ None) × All (λ x. is_ready x ≡ false) (walked w).transfers)
unfolding prepare_of
prepare_none_exactly v m block now w h e =
    rw (ap (λ (o : Outcome View). (onward v o (λ u. choose (walked u) m.octets)).outcome) e)
    (choose_none_exactly (walked w) m.octets (admitted_long v m block now e) (admitted-walked-kept v m block now e h))

-- `prepare_prioritized` refuses these alone, too
pub prepare_prioritized_answers : (v : View) (m : Lent) (echo block now n : ℕ) → Sound v → (prepare_prioritized_of v m echo block now).outcome ≡ refuses n → (n ≡ 16) ⊎ ((n ≡ 18) ⊎ (n ≡ 22))
unfolding prepare_prioritized_of
prepare_prioritized_answers v m echo block now n h =
    onward_answers v (admitted v m block now) (λ w. prioritize_at (walked w) m.octets echo) n (λ k e. admitted_refuses v m block now e)
    (λ w e. prioritize_never (walked w) m.octets echo (admitted_long v m block now e) (admitted-walked-kept v m block now e h))

-- ---- enqueue

-- `allocate_echo` gives 21 exactly before the first usable block, or if the sum fits and each of the 128 echoes is held until later
pub allocated_21_exactly : (l : Limits) (c : Clock) (e : Echoes) (deadline frames : ℕ) → length e.echo_until_ms ≡ 128 → e.next_echo < 128
    → (allocated l c e deadline frames ≡ refuses 21)
    ↔ ((c.last_block < l.startup_until_block) ⊎ ((held_until l deadline ≤ stop) × ((k : ℕ) → k < 128 → c.last_ms < get_or e.echo_until_ms k 0)))
allocated_21_exactly l c e deadline frames long low =
    let exact = none_free e long low c.last_ms in
    go (ltb c.last_block l.startup_until_block) (ltb stop (held_until l deadline)) (free_echo e c.last_ms) refl refl refl exact
  where
    Late : Type 0
    Late = (c.last_block < l.startup_until_block) ⊎ ((held_until l deadline ≤ stop) × ((k : ℕ) → k < 128 → c.last_ms < get_or e.echo_until_ms k 0))

    go : (a b : Bool) (o : Option ℕ) → ltb c.last_block l.startup_until_block ≡ a → ltb stop (held_until l deadline) ≡ b → free_echo e c.last_ms ≡ o
        → ((free_echo e c.last_ms ≡ None) ↔ ((k : ℕ) → k < 128 → c.last_ms < get_or e.echo_until_ms k 0)) → (refuse a 21 (refuse b 23 (granted frames o)) ≡ refuses 21) ↔ Late
    go true b o qa qb qo exact = ((λ q. inl (ltb-true c.last_block l.startup_until_block qa)), (λ k. refl))
    go false true o qa qb qo exact = (
      (λ q. let z : ◌≡◌ {A = ℕ} 23 21 = cc in absurd (omega arith)),
      ⊎_elim (λ lt. let r = ltb-false c.last_block l.startup_until_block qa in absurd (omega arith)) (λ k. let r = ltb-true stop (held_until l deadline) qb in let f = k.0 in absurd (omega arith)),
    )
    go false false None qa qb qo exact = ((λ q. inr (ltb-false stop (held_until l deadline) qb, exact.0 qo)), (λ k. refl))
    go false false (Some echo) qa qb qo exact = (
      (λ q. let z : ◌≡◌ {A = ℕ} 0 1 = cc in absurd (omega arith)),
      ⊎_elim (λ lt. let r = ltb-false c.last_block l.startup_until_block qa in absurd (omega arith)) (λ k. let r : Some echo ≡ None = sym qo ∙ exact.1 k.1 in let z : ◌≡◌ {A = ℕ} 0 1 = cc in absurd (omega arith)),
    )

-- ---- a restart that fails

-- 128 echoes, and the next search starts at one of them
abbrev Rounded : View → Type 0
Rounded v = (length v.echoes.echo_until_ms ≡ 128) × (v.echoes.next_echo < 128)

restart_rounded : (v : View) (x : Transfer) (o : Option ℕ) → Rounded v → Rounded (restart v x o)
restart_rounded v x None h = h
restart_rounded v x (Some echo) h = (length-set v.echoes.echo_until_ms echo _ ∙ h.0, omega arith)

landed_rounded : (v : View) (x : Transfer) (f : Fate) → Rounded v → Rounded (landed v x f)
landed_rounded v x (Ends e) h = h
landed_rounded v x Restarts h = restart_rounded v x (free_echo v.echoes v.clock.last_ms) h
landed_rounded v x (Stays y) h = h

steps_rounded : (l : List (Bool × Transfer)) (v : View) → Rounded v → Rounded (foldl step v l)
unfolding step
steps_rounded [] v h = h
steps_rounded (p ∷ l) v h = steps_rounded l (step v p) (landed_rounded v p.1 (fate_of v.clock p.0 p.1) h)

-- one list with either of two at its back is the same only if they are
back_same : {A : Type 0} (l : List A) (x y : A) → push_back l x ≡ push_back l y → x ≡ y
back_same [] x y e = cc
back_same (z ∷ l) x y e = back_same l x y (tail e)
  where
    tail : z ∷ push_back l x ≡ z ∷ push_back l y → push_back l x ≡ push_back l y
    tail e = cc

-- no transfer's fate is to end Failed, so a Failed is a restart's
pub fails_restarts : (u : View) (asked : Bool) (x : Transfer) → (step u (asked, x)).events ≡ push_back u.events (Failed x.parcel.completion EchoExhausted) → fate_of u.clock asked x ≡ Restarts
unfolding step
fails_restarts u asked x =
    fate_cases (λ f. (landed u x f).events ≡ push_back u.events failed → f ≡ Restarts) u.clock asked x
    (λ q. let w : event_of x expires ≡ failed = back_same u.events (event_of x expires) failed q in let z : ◌≡◌ {A = ℕ} 0 1 = cc in absurd (omega arith))
    (λ o q. let w : event_of x completes ≡ failed = back_same u.events (event_of x completes) failed q in let z : ◌≡◌ {A = ℕ} 0 1 = cc in absurd (omega arith)) (λ o q. refl)
    (λ o d r q. let l : length (push_back u.events failed) ≡ suc (length u.events) = length_back u.events failed in
    let m : length u.events ≡ length (push_back u.events failed) = ap length q in
    absurd (omega arith))
  where
    failed : Event
    failed = Failed x.parcel.completion EchoExhausted

-- a step is Failed exactly if its transfer restarts and each of the 128 echoes is held until later
pub step_fails_exactly : (u : View) (x : Transfer) (asked : Bool) → length u.echoes.echo_until_ms ≡ 128 → u.echoes.next_echo < 128
    → ((step u (asked, x)).events ≡ push_back u.events (Failed x.parcel.completion EchoExhausted)) ↔ ((fate_of u.clock asked x ≡ Restarts) × ((k : ℕ) → k < 128 → u.clock.last_ms < get_or u.echoes.echo_until_ms k 0))
unfolding step
step_fails_exactly u x asked long low =
    let exact = restart_fails_exactly u x long low in (
      (λ q. let f = fails_restarts u asked x q in (f, exact.0 (sym (ap (λ (z : Fate). (landed u x z).events) f) ∙ q))),
      (λ k. ap (λ (z : Fate). (landed u x z).events) k.0 ∙ exact.1 k.1),
    )

-- so at any transfer of `advance`'s walk, where those before it have left the sender
pub failed_exactly : (v : View) (before rest : List Transfer) (x : Transfer) (asked : Bool) → Sound v → v.transfers ≡ before ++ x ∷ rest →
    let u = foldl step (with_transfers v []) (unasked before) in
    ((step u (asked, x)).events ≡ push_back u.events (Failed x.parcel.completion EchoExhausted)) ↔ ((fate_of u.clock asked x ≡ Restarts) × ((k : ℕ) → k < 128 → u.clock.last_ms < get_or u.echoes.echo_until_ms k 0))
failed_exactly v before rest x asked h e =
    let r = steps_rounded (unasked before) (with_transfers v []) (h.echoes, h.next_echo) in
    step_fails_exactly (foldl step (with_transfers v []) (unasked before)) x asked r.0 r.1
