-- Which echoes a call takes, and what that makes of any list of calls from a fresh sender. Assumes nothing.
use Rattle.std.proofs.Common.{◌≡◌, ℕ, ◌+◌, ◌<◌, ◌≤◌, false, eqb, ◌≢◌, ◌⊎◌, List, [], ◌∷◌, length, get_or, Some, sym, refl, ap, ◌∙◌, subst, inl, inr, ⊎_elim, arith, length-set, le-ltb, eqb-true, leb-false}
use Rattle.std.proofs.lemmas.Bool.{cases_Bool}
use borrow.Author.Tests.{eqb-false, lt-leb}
use Rattle.token.specs.Token.{stop}
use Rattle.transfer.specs.declared.Generation.{Generation}
use Rattle.transfer.specs.declared.Transfer.{Transfer}
use Rattle.transfer.specs.State.{Limits, Echoes, Clock, View, Lent, with_clock}
use Rattle.transfer.specs.Echo.{free_echo, held_until, hold}
use Rattle.transfer.specs.Transfer.{begun}
use Rattle.transfer.specs.Advance.{overdue}
use Rattle.transfer.specs.Enqueue.{parcel_of, lowest_n, granted, allocated}
use Rattle.transfer.specs.Invariant.{All, all_none, all_more, Any, any-here, any-later, Live, Sound, Pairs, pairs-none, pairs-more}
use Rattle.transfer.specs.History.{Call, Done, does, Told, after, run, Each, hold_of, Takes, TakenFree, NoneBefore, TakenTwice, TwoSenders, TakenApart}
use Rattle.transfer.proofs.Listed.{all_map, all_both, all_one, all_rest, all_in, all_back, some-map, some_all}
use Rattle.transfer.proofs.Alive.{SameParcel}
use Rattle.transfer.proofs.EchoSearch.{free_now, held_after, held_other}
use Rattle.transfer.proofs.Lives.{after_kept, fresh_kept, runs-kept}
use Rattle.transfer.proofs.Moves.{Move, drops, picks, shifts, restarts, ends, Moves, stays, goes, Last, silent, tells_one, accepts_one, takes_one, does_leaves}

-- ---- one sender and a later one, within a call

-- a transfer of this parcel, generation and echo was there
abbrev Of : View → Transfer → Type 0
Of v x = Any (SameParcel x) v.transfers

-- or its echo was held until now or earlier, and its deadline is later
abbrev Comes : (now : ℕ) → View → Transfer → Type 0
Comes now v x = Of v x ⊎ ((hold_of v x.echo ≤ now) × (now < x.parcel.deadline_ms))

-- the second sender, at this time, was made of the first: the time is not before, no echo is held shorter, and each transfer comes
-- from the first so
pub record Within (now : ℕ) (v w : View) : Type 0 where
  pub limits : w.limits ≡ v.limits
  pub since : v.clock.last_ms ≤ now
  pub clock : w.clock.last_ms ≡ now
  pub holds : (echo : ℕ) → hold_of v echo ≤ hold_of w echo
  pub comes : All (Comes now v) w.transfers

-- at the time of the second
abbrev pub Careful : View → View → Type 0
Careful v w = Within w.clock.last_ms v w

-- a transfer of the same parcel, generation and echo was there too
same_of : (v : View) (y x : Transfer) → SameParcel y x → Of v x → Of v y
same_of v y x s h = some-map (λ z t. (s.0 ∙ t.0, s.1 ∙ t.1, s.2 ∙ t.2)) h

-- each was there itself
each_of : (l : List Transfer) → All (λ x. Any (SameParcel x) l) l
each_of [] = all_none
each_of (x ∷ l) = all_more (any-here (refl, refl, refl)) (all_map (λ y h. any-later h) (each_of l))

-- ---- an echo is taken

-- a hold until later makes no hold shorter
hold_grows : (e : Echoes) (echo until : ℕ) → length e.echo_until_ms ≡ 128 → echo < 128 → get_or e.echo_until_ms echo 0 ≤ until → (k : ℕ) → get_or e.echo_until_ms k 0 ≤ get_or (hold e echo until).echo_until_ms k 0
hold_grows e echo until long low h k =
    ⊎_elim
    (λ t. let q : k ≡ echo = eqb-true k echo t in rw (q, held_after e long echo until low) h)
    (λ t. rw (held_other e echo until k (eqb-false k echo t)) (omega arith))
    (cases_Bool (eqb k echo))

-- the 128 holds, and the next search
abbrev Echoing : View → Type 0
Echoing v = (length v.echoes.echo_until_ms ≡ 128) × (v.echoes.next_echo < 128)

-- one is taken
held_echoing : (e : Echoes) (echo until : ℕ) → length e.echo_until_ms ≡ 128 → (length (hold e echo until).echo_until_ms ≡ 128) × ((hold e echo until).next_echo < 128)
held_echoing e echo until h = (length-set e.echo_until_ms echo until ∙ h, omega arith)

-- ---- the moves

module _ (now : ℕ) (v : View) where
  -- made of v, and its echoes are such
  abbrev Made : View → Type 0
  Made w = Within now v w × Echoing w

  -- a sender of the same echoes, whose transfers come from v
  made-same : (u w : View) → w.limits ≡ u.limits → w.clock ≡ u.clock → w.echoes ≡ u.echoes → All (Comes now v) w.transfers → Made u → Made w
  made-same u w l c e t h = (
    record { limits = l ∙ h.0.limits; since = h.0.since; clock = ap (λ (k : Clock). k.last_ms) c ∙ h.0.clock; holds = λ echo. rw e (h.0.holds echo); comes = t },
    rw e h.1,
  )

  -- an echo that is free is held until later, and a transfer has it whose deadline is to come
  made_held : (u w : View) (echo deadline : ℕ) → w.limits ≡ u.limits → w.clock ≡ u.clock → w.echoes ≡ hold u.echoes echo (held_until u.limits deadline) → free_echo u.echoes u.clock.last_ms ≡ Some echo → u.clock.last_ms < deadline
      → ((hold_of v echo ≤ now) × (now < deadline) → All (Comes now v) w.transfers) → Made u → Made w
  made_held u w echo deadline l c e q d t h =
      let f = free_now u.echoes h.1.0 h.1.1 u.clock.last_ms q in
      let a : hold_of u echo ≤ u.clock.last_ms = f.1 in
      let b = h.0.holds echo in
      let n = h.0.clock in
      let until = held_until u.limits deadline in (
        record {
          limits = l ∙ h.0.limits;
          since = h.0.since;
          clock = ap (λ (k : Clock). k.last_ms) c ∙ n;
          holds = λ k. let i = h.0.holds k in let g : hold_of u k ≤ get_or (hold u.echoes echo until).echo_until_ms k 0 = hold_grows u.echoes echo until h.1.0 f.0 (omega arith) k in rw e (omega arith);
          comes = t (omega arith, omega arith);
        },
        rw e (held_echoing u.echoes echo until h.1.0),
      )

  -- another of the same parcel, generation and echo comes too
  same_comes : (y x : Transfer) → SameParcel y x → Comes now v x → Comes now v y
  same_comes y x s c = ⊎_elim (λ o. inl (same_of v y x s o)) (λ n. inr (rw s.2 n.0, rw s.0 n.1)) c

  -- each move
  move_made : {octets : List ℕ} {first : ℕ} {u w : View} → Move octets first u w → Made u → Made w
  move_made {u = u} {w = w} (drops s e) h = made-same u w refl refl refl h.0.comes h
  move_made {u = u} {w = w} (picks a b x p e r room q) h = made-same u w refl refl refl h.0.comes h
  move_made {u = u} {w = w} (shifts a b c d x y e q s) h =
      let t = subst (All (Comes now v)) e h.0.comes in
      made-same u w refl refl refl (all_in c y d (same_comes y x s.same (all_one a x b t)) (subst (All (Comes now v)) (sym q) (all_rest a x b t))) h
  move_made {u = u} {w = w} (restarts a b x echo e old due room q) h =
      let t = subst (All (Comes now v)) e h.0.comes in
      made_held u w echo x.parcel.deadline_ms refl refl refl q (leb-false x.parcel.deadline_ms u.clock.last_ms due) (λ k. all_in a (begun x.parcel echo u.next_token) b (inr k) (all_rest a x b t)) h
  move_made {u = u} {w = w} (ends a b x how q old) h = made-same u w refl refl refl (all_rest a x b (subst (All (Comes now v)) q h.0.comes)) h

  -- one after the other
  moves-made : {octets : List ℕ} {first : ℕ} {u w : View} → Moves octets first u w → Made u → Made w
  moves-made stays h = h
  moves-made (goes m k) h = moves-made k (move_made m h)

  -- what comes last
  last_made : {octets : List ℕ} {u : View} {c : Call} {d : Done} → Last octets u c d → Made u → Made d.sender
  last_made silent h = h
  last_made (tells_one f e p) h = h
  last_made {u = u} {d = d} (accepts_one r message g i long p) h =
      made_held u d.sender g.echo r.deadline_ms refl refl refl p.proper.echo p.proper.due
      (λ k. all_back u.transfers (begun (parcel_of r message g.frames (lowest_n u.transfers) u.next_token) g.echo u.next_token) (inr k) h.0.comes) h
  last_made {u = u} {d = d} (takes_one e l q) h = made-same u d.sender refl refl refl h.0.comes h

-- each call
pub does_careful : (v : View) (m : Lent) (c : Call) → Sound v → Careful v (does v m c).sender
does_careful v m c h =
    let l = does_leaves v m c h in
    let k = l.quietly.clock in
    let w : Within k.last_ms v (with_clock v k) = record { limits = refl; since = l.quietly.ms; clock = refl; holds = λ echo. omega arith; comes = all_map (λ x o. inl o) (each_of v.transfers) } in
    let z = (last_made k.last_ms v l.last (moves-made k.last_ms v l.quietly.made (w, (h.echoes, h.next_echo)))).0 in
    subst (λ n. Within n v (does v m c).sender) (sym z.clock) z

-- ---- what a call takes

module _ (v : View) (c : Told) (h : Sound v) where
  -- the sender after
  abbrev next : View
  next = after v c

  -- what the call leaves
  careful : Careful v next
  careful = does_careful v c.0 c.1 h

  -- a Sound sender too
  sound : Sound next
  sound = after_kept v c h

  -- a number that was not given out before is no earlier transfer's
  unknown : (x : Transfer) → v.next_token ≤ x.generation.0 → Of v x → ⊥
  unknown x n o = some_all (λ y s live. let e : x.generation.0 ≡ y.generation.0 = ap (λ (g : Generation). g.0) s.1 in let g = live.generation in omega arith) o h.transfers

  -- an echo that is taken was held until now or earlier, and is then held until deadline plus guard
  takes_free : (echo deadline : ℕ) → Takes v c echo deadline → (hold_of v echo ≤ next.clock.last_ms) × (hold_of next echo ≡ held_until v.limits deadline)
  takes_free echo deadline t = some_all go t (all_both careful.comes sound.transfers)
    where
      go : (x : Transfer) → (x.echo ≡ echo) × (x.parcel.deadline_ms ≡ deadline) × (v.next_token ≤ x.generation.0) → Comes next.clock.last_ms v x × Live next.limits next.clock next.echoes next.next_token x
          → (hold_of v echo ≤ next.clock.last_ms) × (hold_of next echo ≡ held_until v.limits deadline)
      go x p k =
          ⊎_elim (λ o. absurd (unknown x p.2 o))
          (λ n. (
            subst (λ e. hold_of v e ≤ next.clock.last_ms) p.0 n.0,
            ap (hold_of next) (sym p.0) ∙ (k.1.holds.held (lt-leb x.parcel.deadline_ms next.clock.last_ms n.1) ∙ (ap (λ (l : Limits). held_until l x.parcel.deadline_ms) careful.limits ∙ ap (held_until v.limits) p.1)),
          ))
          k.0

  -- the first usable block has come
  takes_usable : (echo deadline : ℕ) → Takes v c echo deadline → v.limits.startup_until_block ≤ next.clock.last_block
  takes_usable echo deadline t = some_all (λ x p live. subst (λ l. l.startup_until_block ≤ next.clock.last_block) careful.limits live.usable) t sound.transfers

-- ---- over a list of calls

-- limits stay, and no hold gets shorter
pub run_holds : (v : View) (calls : List Told) → Sound v → ((run v calls).limits ≡ v.limits) × ((echo : ℕ) → hold_of v echo ≤ hold_of (run v calls) echo)
unfolding run
run_holds v [] h = (refl, λ echo. omega arith)
run_holds v (c ∷ l) h =
    let k = careful v c h in
    let r = run_holds (after v c) l (sound v c h) in
    (r.0 ∙ k.limits, λ echo. let a = k.holds echo in let b = r.1 echo in omega arith)

-- of each call, from a Sound sender of these limits
pub each_sound : {P : View → Told → Type 0} (l : Limits) → ((u : View) (c : Told) → Sound u → u.limits ≡ l → P u c) → (v : View) (calls : List Told) → Sound v → v.limits ≡ l → Each P v calls
unfolding Each
each_sound l f v [] h e = tt
each_sound l f v (c ∷ calls) h e = (f v c h e, each_sound l f (after v c) calls (sound v c h) ((careful v c h).limits ∙ e))

-- what two imply
each_both : {P Q R : View → Told → Type 0} → ((u : View) (c : Told) → P u c → Q u c → R u c) → (v : View) (calls : List Told) → Each P v calls → Each Q v calls → Each R v calls
unfolding Each
each_both f v [] h k = tt
each_both f v (c ∷ calls) h k = (f v c h.0 k.0, each_both f (after v c) calls h.1 k.1)

-- an echo is taken only if it is held until now or earlier, and is then held until deadline plus guard
pub taken_free : TakenFree
taken_free v calls f =
    each_sound v.limits
    (λ u c h e echo deadline t. let k = takes_free u c h echo deadline t in (k.0, k.1 ∙ ap (λ (l : Limits). held_until l deadline) e))
    v calls (fresh_kept v f) refl

-- no echo is taken before the first usable block
pub none_before : NoneBefore
none_before v calls f =
    each_sound v.limits (λ u c h e echo deadline t. subst (λ l. l.startup_until_block ≤ (after u c).clock.last_block) e (takes_usable u c h echo deadline t)) v calls (fresh_kept v f) refl

-- whenever one echo is taken twice, the later time is at or after the earlier deadline plus guard
pub taken_twice : TakenTwice
taken_twice v calls between c d echo deadline later f t s =
    let u = run v calls in
    let h : Sound u = runs-kept v calls (fresh_kept v f) in
    let l : u.limits ≡ v.limits = (run_holds v calls (fresh_kept v f)).0 in
    let p : hold_of (after u c) echo ≡ held_until u.limits deadline = (takes_free u c h echo deadline t).1 in
    let q : held_until u.limits deadline ≡ held_until v.limits deadline = ap (λ (x : Limits). held_until x deadline) l in
    let w = run (after u c) between in
    let r : hold_of (after u c) echo ≤ hold_of w echo = (run_holds (after u c) between (after_kept u c h)).1 echo in
    let z : hold_of w echo ≤ (after w d).clock.last_ms = (takes_free w d (runs-kept (after u c) between (after_kept u c h)) echo later s).0 in
    omega arith

-- the second sender takes no echo that the first still holds
pub two_senders : TwoSenders
two_senders v w first second f g h =
    each_both (λ u c n p echo deadline t. p (n echo deadline t) echo) w second (none_before w second g) h

-- pairs of elements that are such
pub pairs_with : {A : Type 0} {P : A → Type 0} {R S : A → A → Type 0} → ((x y : A) → P x → P y → R x y → S x y) → {l : List A} → All P l → Pairs R l → Pairs S l
pairs_with f all_none pairs-none = pairs-none
pairs_with f (all_more {x = x} p h) (pairs-more r k) = pairs-more (all_map (λ y q. f x y p q.0 q.1) (all_both h r)) (pairs_with f h k)

-- in one call no echo is taken twice
pub taken_apart : TakenApart
taken_apart v calls f = each_sound v.limits (λ u c h e. go u c h) v calls (fresh_kept v f) refl
  where
    late : (u : View) (c : Told) → Sound u → (x : Transfer) → Comes (after u c).clock.last_ms u x → u.next_token ≤ x.generation.0 → overdue (after u c).clock x ≡ false
    late u c h x p a = ⊎_elim (λ o. absurd (unknown u c h x a o)) (λ n. lt-leb x.parcel.deadline_ms (after u c).clock.last_ms n.1) p

    go : (u : View) (c : Told) → Sound u → Pairs (λ x y. u.next_token ≤ x.generation.0 → u.next_token ≤ y.generation.0 → x.echo ≢ y.echo) (after u c).transfers
    go u c h = pairs_with (λ x y p q d a b. d.echo (late u c h x p a) (late u c h y q b)) (careful u c h).comes (after_kept u c h).different

-- a restart of a live transfer asks of `allocate_echo` only whether an echo is free: its other two refusals do not occur
pub restart_allocates : (v : View) (x : Transfer) (frames : ℕ) → Live v.limits v.clock v.echoes v.next_token x
    → allocated v.limits v.clock v.echoes x.parcel.deadline_ms frames ≡ granted frames (free_echo v.echoes v.clock.last_ms)
restart_allocates v x frames h =
    rw (le-ltb v.clock.last_block v.limits.startup_until_block h.usable, le-ltb stop (x.parcel.deadline_ms + v.limits.echo_guard_ms) h.holds.fits) refl
