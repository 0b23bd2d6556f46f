-- What calls answer and leave, part by part, on every state: the new sender; what a call with a clock tests first; the walk, and what a step of it leaves;
-- the refusals of `enqueue` as a table, and what a request leaves that is refused or accepted; what is left where a frame is prepared, handed in,
-- confirmed or taken, where a status comes, and where an order is interrupted, put first or cancelled. A definition that is changed together with its
-- code meets its contract, and fails here. Assumes nothing.
use Rattle.std.proofs.Common.{◌≡◌, ℕ, suc, ◌+◌, ◌-◌, ◌*◌, ◌%◌, ◌<◌, ◌≤◌, Bool, true, false, cond, not, ◌&&◌, ◌||◌, eqb, ltb, leb, ◌≢◌, ◌⊎◌, List, [], ◌∷◌, ◌++◌, map, length, get_or, set, replicate, bit_or, Some, None, Option, sym, refl, ap, ◌∙◌, inl, inr, ⊎_elim, arith, ltb-true, le-ltb, lt-ltb, eq-eqb, ne_eqb, eqb-true}
use Rattle.std.proofs.lemmas.Bool.{both_ways, cond-false, cond-true}
use mathlib.Core.List.{foldl}
use lib.Count.{ones, count_trailing_zeros}
use lib.Seq.{set_at}
use Rattle.token.specs.Token.{stop, number_after, fewer_than}
use Rattle.rach.specs.Identity.{encodable}
use Rattle.rach.specs.declared.MobileIdentity.{MobileIdentity}
use Rattle.spach.specs.Header.{usage_of}
use Rattle.spach.specs.declared.SpachError.{SpachError}
use Rattle.spach.specs.Refusal.{number_of, Outcome, gives, refuses, refuse, and_then, After, onward}
use Rattle.arq.specs.declared.ArqHeader.{ArqHeader}
use Rattle.arq.specs.declared.PackedFrame.{PackedFrame}
use Rattle.arq.specs.Cut.{continues}
use Rattle.arq.proofs.Tables.{said, table, cut_table}
use Rattle.arq.proofs.Theorems.{count_refuses}
use Rattle.receiver.specs.declared.ArqStatus.{ArqStatus}
use Rattle.receiver.specs.Map.{with_bit}
use Rattle.transfer.specs.declared.Error.TheVariants as errors
use Rattle.transfer.specs.declared.Error.TheVariants.{EchoExhausted}
use Rattle.transfer.specs.declared.Event.{Event}
use Rattle.transfer.specs.declared.Event.TheVariants.{Complete, Expired, Cancelled, Failed}
use Rattle.transfer.specs.declared.Fate.{Fate}
use Rattle.transfer.specs.declared.Fate.TheVariants.{Ends, Restarts, Stays}
use Rattle.transfer.specs.declared.FrameToken.{FrameToken}
use Rattle.transfer.specs.declared.PreparedFrame.{PreparedFrame}
use Rattle.transfer.specs.declared.Request.{Request}
use Rattle.transfer.specs.declared.Transfer.{Transfer}
use Rattle.transfer.specs.declared.TransferToken.{TransferToken}
use Rattle.transfer.specs.Lists.{position, any}
use Rattle.transfer.specs.Queue.{has, front}
use Rattle.transfer.specs.Numbers.{refusal_of, complete, expired, cancelled, failed, ending_of}
use Rattle.transfer.specs.State.{Limits, Clock, Echoes, View, Lent, Out, short, admitted, ticked, says, refusal, goes_on, seek, put_at, of_echo, of_generation, unselect, cancel_at, blank_transfer, token_taken, new_of}
use Rattle.transfer.specs.Transfer.{header_of, done_of, settle_of, restart_due, begun}
use Rattle.transfer.specs.Advance.{settled, fate_of, kept, restart, landed, step, walk, unasked, walked, advance_of}
use Rattle.transfer.specs.Echo.{free_echo}
use Rattle.transfer.specs.Enqueue.{addressed, Grant, granted, allocated, grant_of, lowest_n, parcel_of, stored, accepts, enqueue_of}
use Rattle.transfer.specs.Submitted.{is_selected, in_flight_lem, handed_in, is_outstanding, submitted_at, submitted_of, submitted_message_of, confirm_frame, confirms, transmitted_at, transmitted_of}
use Rattle.transfer.specs.Status.{observes, status_at, status_of}
use Rattle.transfer.specs.Refresh.{queue_waiting, serve_oldest, refresh_waiting_of}
use Rattle.transfer.specs.Prepare.{is_ready, packed_of, front_of, selects, choose, prepare_of, asked_for, interrupted, interrupt_of, repeated, only_echo, prioritized, prioritize_at, prepare_prioritized_of}
use Rattle.transfer.specs.Cancel.{cancel_first, cancel_of, owned_by, cancel_transaction_of, cancel_all_of}
use Rattle.transfer.specs.Queries.{identity_for_echo_of, contains_of, pop_event_of}
use Rattle.transfer.specs.Invariant.{All}
use Rattle.transfer.proofs.Bitsets.{has_or}
use Rattle.transfer.proofs.Invariant.{grant_passes}
use Rattle.transfer.proofs.Listed.{all_map, all_head, all_tail, all-at, at-end, removed_end, below_end, position-found}

-- ---- the first that passes

module _ {A : Type 0} (p : A → Bool) where
  position_split : (a : List A) (x : A) (b : List A) → All (λ y. p y ≡ false) a → p x ≡ true → position p (a ++ x ∷ b) ≡ length a
  position_split [] x b h e = cond-true _ 0 (suc (position p b)) e
  position_split (y ∷ a) x b h e = cond-false _ 0 (suc (position p (a ++ x ∷ b))) (all_head h) ∙ ap suc (position_split a x b (all_tail h) e)

  position-length : (l : List A) → All (λ y. p y ≡ false) l → position p l ≡ length l
  position-length [] h = refl
  position-length (y ∷ l) h = cond-false _ 0 (suc (position p l)) (all_head h) ∙ ap suc (position-length l (all_tail h))

module _ {B : Type 0} (p : Transfer → Bool) (nothing : B) (found : ℕ → Transfer → B) where
  seek_found : (a : List Transfer) (x : Transfer) (b : List Transfer) → All (λ y. p y ≡ false) a → p x ≡ true → seek p (a ++ x ∷ b) nothing found ≡ found (length a) x
  seek_found a x b h e =
      let l = a ++ x ∷ b in
      let lt = below_end a x b in
      ap (λ (i : ℕ). cond (ltb i (length l)) (found i (get_or l i blank_transfer)) nothing) (position_split p a x b h e)
      ∙ (cond-true _ (found (length a) (get_or l (length a) blank_transfer)) nothing (lt-ltb (length a) (length l) lt) ∙ ap (found (length a)) (at-end a x b blank_transfer))

  seek_none : (l : List Transfer) → All (λ y. p y ≡ false) l → seek p l nothing found ≡ nothing
  seek_none l h =
      let i = position p l in
      let e = position-length p l h in
      let le : length l ≤ i = omega arith in
      cond-false _ (found i (get_or l i blank_transfer)) nothing (le-ltb i (length l) le)

-- an answer behind a test, beside which stands 24
passes : (v : View) (m : Lent) (t : Bool) (o : Out Unit) → (cond t o (refusal 24 v m)).outcome ≡ gives tt → cond t o (refusal 24 v m) ≡ o
passes v m true o q = refl
passes v m false o q = let z : ◌≡◌ {A = ℕ} 0 1 = cc in absurd (omega arith)

-- ---- a sender by its parts

abbrev pub view : Limits → Clock → List Transfer → List Event → Echoes → Option PreparedFrame → ℕ → View
view l c ts es e s n = record { limits = l; clock = c; transfers = ts; events = es; echoes = e; selected = s; next_token = n }

-- an echo is held until deadline plus guard, and the next search starts behind it, from 127 on at 0
abbrev pub held : Limits → Echoes → (echo deadline : ℕ) → Echoes
held l e echo deadline = record { echo_until_ms = set e.echo_until_ms echo (deadline + l.echo_guard_ms); next_echo = (echo + 1) % 128 }

through : {A : Type 0} (t : Bool) (k : ℕ) (o : Outcome A) → t ≡ false → refuse t k o ≡ o
through true k o q = absurd (both_ways true q refl)
through false k o q = refl

refused : {A : Type 0} (t : Bool) (k : ℕ) (o : Outcome A) → t ≡ true → refuse t k o ≡ refuses k
refused true k o q = refl
refused false k o q = absurd (both_ways false refl q)

or-false : (s t : Bool) → s ≡ false → t ≡ false → (s || t) ≡ false
or-false true t p q = absurd (both_ways true p refl)
or-false false t p q = q

or-true : (s t : Bool) → (s ≡ true) ⊎ (t ≡ true) → (s || t) ≡ true
or-true true t h = refl
or-true false t h = ⊎_elim (λ p. absurd (both_ways false refl p)) (λ q. q) h

-- ---- the constructor

-- a capacity of 1 to 128 is accepted, with any guard, first usable block and first token: no transfer, no event, every echo free, both clocks at 0
pub new_exactly : (capacity guard first_block first : ℕ) → 1 ≤ capacity → capacity ≤ 128
    → new_of capacity guard first_block first
    ≡ gives (view (record { capacity = capacity; startup_until_block = first_block; echo_guard_ms = guard }) (record { last_block = 0; last_ms = 0 }) [] [] (record { echo_until_ms = replicate 128 0; next_echo = 0 }) None first)
unfolding new_of
new_exactly capacity guard first_block first least most = through (eqb capacity 0 || ltb 128 capacity) 19 _ (or-false _ _ (ne_eqb capacity 0 (λ e. omega arith)) (le-ltb 128 capacity most))

-- any other is refused 19
pub new_19 : (capacity guard first_block first : ℕ) → (capacity ≡ 0) ⊎ (128 < capacity) → new_of capacity guard first_block first ≡ refuses 19
unfolding new_of
new_19 capacity guard first_block first h = refused (eqb capacity 0 || ltb 128 capacity) 19 _ (or-true (eqb capacity 0) (ltb 128 capacity) (outside h))
  where
    outside : (capacity ≡ 0) ⊎ (128 < capacity) → (eqb capacity 0 ≡ true) ⊎ (ltb 128 capacity ≡ true)
    outside (inl e) = inl (eq-eqb capacity 0 e)
    outside (inr lt) = inr (lt-ltb 128 capacity lt)

-- ---- what a call with a clock tests first

-- a sender at another clock
abbrev pub moved : View → (block now : ℕ) → View
moved v block now = view v.limits (record { last_block = block; last_ms = now }) v.transfers v.events v.echoes v.selected v.next_token

-- 32,640 octets and 3,456 words are lent
abbrev pub Enough : Lent → Type 0
Enough m = (32640 ≤ length m.octets) × (3456 ≤ length m.words)

-- fewer of either
abbrev pub Short : Lent → Type 0
Short m = (length m.octets < 32640) ⊎ (length m.words < 3456)

-- neither clock goes back
abbrev pub Onward : View → (block now : ℕ) → Type 0
Onward v block now = (v.clock.last_block ≤ block) × (v.clock.last_ms ≤ now)

-- one of them does
abbrev pub Back : View → (block now : ℕ) → Type 0
Back v block now = (block < v.clock.last_block) ⊎ (now < v.clock.last_ms)

below_either : (a b c d : ℕ) → (a < b) ⊎ (c < d) → (ltb a b || ltb c d) ≡ true
below_either a b c d (inl h) = or-true (ltb a b) (ltb c d) (inl (lt-ltb a b h))
below_either a b c d (inr h) = or-true (ltb a b) (ltb c d) (inr (lt-ltb c d h))

module _ (v : View) (m : Lent) (block now : ℕ) where
  long_enough : Enough m → (ltb (length m.octets) 32640 || ltb (length m.words) 3456) ≡ false
  long_enough h = or-false _ _ (le-ltb (length m.octets) 32640 h.0) (le-ltb (length m.words) 3456 h.1)

  ticks : Onward v block now → ticked v block now ≡ gives (moved v block now)
  ticks h = through (ltb block v.clock.last_block || ltb now v.clock.last_ms) 22 (gives (moved v block now)) (or-false _ _ (le-ltb block v.clock.last_block h.0) (le-ltb now v.clock.last_ms h.1))

  ticks_22 : Back v block now → ticked v block now ≡ refuses 22
  ticks_22 h = refused (ltb block v.clock.last_block || ltb now v.clock.last_ms) 22 (gives (moved v block now)) (below_either block v.clock.last_block now v.clock.last_ms h)

  -- with enough lent and 512 tokens left both clocks move, and nothing else
  pub admits : Enough m → 512 ≤ stop - v.next_token → Onward v block now → admitted v m block now ≡ gives (moved v block now)
  admits h k o = through (short m) 16 _ (long_enough h) ∙ (through (fewer_than 512 v.next_token) 18 _ (le-ltb (stop - v.next_token) 512 k) ∙ ticks o)

  -- 16 first
  pub admits_16 : Short m → admitted v m block now ≡ refuses 16
  admits_16 h = refused (short m) 16 _ (below_either (length m.octets) 32640 (length m.words) 3456 h)

  -- then 18
  pub admits_18 : Enough m → stop - v.next_token < 512 → admitted v m block now ≡ refuses 18
  admits_18 h k = through (short m) 16 _ (long_enough h) ∙ refused (fewer_than 512 v.next_token) 18 _ (lt-ltb (stop - v.next_token) 512 k)

  -- then 22, for either clock
  pub admits_22 : Enough m → 512 ≤ stop - v.next_token → Back v block now → admitted v m block now ≡ refuses 22
  admits_22 h k o = through (short m) 16 _ (long_enough h) ∙ (through (fewer_than 512 v.next_token) 18 _ (le-ltb (stop - v.next_token) 512 k) ∙ ticks_22 o)

  -- a refusal of these leaves the sender; else each goes on at the moved clock, whatever it is given
  pub advance_clocked : advance_of v m block now ≡ onward v (admitted v m block now) (λ w. says tt (walked w))
  unfolding advance_of
  advance_clocked = refl

  pub prepare_clocked : prepare_of v m block now ≡ onward v (admitted v m block now) (λ w. choose (walked w) m.octets)
  unfolding prepare_of
  prepare_clocked = refl

  pub interrupt_clocked : (echo : ℕ) → interrupt_of v m echo block now ≡ onward v (admitted v m block now) (λ w. interrupted w echo)
  unfolding interrupt_of
  interrupt_clocked echo = refl

  pub prioritize_clocked : (echo : ℕ) → prepare_prioritized_of v m echo block now ≡ onward v (admitted v m block now) (λ w. prioritize_at (walked w) m.octets echo)
  unfolding prepare_prioritized_of
  prioritize_clocked echo = refl

  pub transmitted_clocked : (t : FrameToken) → transmitted_of v m t block now ≡ onward v (admitted v m block now) (λ w. transmitted_at w m.words t)
  unfolding transmitted_of
  transmitted_clocked t = refl

  pub status_clocked : (st : ArqStatus) → status_of v m st block now ≡ onward v (admitted v m block now) (λ w. status_at (walked w) st)
  unfolding status_of
  status_clocked st = refl

  pub refresh_clocked : refresh_waiting_of v m block now ≡ onward v (admitted v m block now) (λ w. says tt (serve_oldest (queue_waiting (walked w))))
  unfolding refresh_waiting_of
  refresh_clocked = refl

  -- `submitted`, of any token: 16, then 22, leave the sender and the lent memory
  pub submitted_16 : (t : FrameToken) → Short m → submitted_of v m t block now ≡ record { outcome = refuses 16; sender = v; lent = m }
  unfolding submitted_of
  submitted_16 t h = ap (λ (o : Outcome View). goes_on v m o (λ w. submitted_at w m t)) (refused (short m) 16 _ (below_either (length m.octets) 32640 (length m.words) 3456 h))

  pub submitted_22 : (t : FrameToken) → Enough m → Back v block now → submitted_of v m t block now ≡ record { outcome = refuses 22; sender = v; lent = m }
  unfolding submitted_of
  submitted_22 t h o = ap (λ (o : Outcome View). goes_on v m o (λ w. submitted_at w m t)) (through (short m) 16 _ (long_enough h) ∙ ticks_22 o)

  -- else it goes on at the moved clock, however few tokens are left
  pub submitted_goes_on : (t : FrameToken) → Enough m → Onward v block now → submitted_of v m t block now ≡ submitted_at (moved v block now) m t
  unfolding submitted_of
  submitted_goes_on t h o = ap (λ (o : Outcome View). goes_on v m o (λ w. submitted_at w m t)) (through (short m) 16 _ (long_enough h) ∙ ticks o)

  module _ (r : Request) (message : List ℕ) where
    -- `enqueue`: what refuses first leaves the sender and the lent memory
    pub enqueue_stops : (k : ℕ) → admitted v m block now ≡ refuses k → enqueue_of v m r message block now ≡ record { outcome = refuses k; sender = v; lent = m }
    unfolding enqueue_of
    enqueue_stops k q = ap (λ (o : Outcome View). goes_on v m o (λ w. goes_on w m (grant_of w r message) (λ g. accepts w m r message g))) q

    -- else it asks at the moved clock: a refusal there is the call's
    pub enqueue_asks : Enough m → 512 ≤ stop - v.next_token → Onward v block now
        → enqueue_of v m r message block now ≡ goes_on (moved v block now) m (grant_of (moved v block now) r message) (accepts (moved v block now) m r message)
    unfolding enqueue_of
    enqueue_asks h k o = ap (λ (o : Outcome View). goes_on v m o (λ w. goes_on w m (grant_of w r message) (λ g. accepts w m r message g))) (admits h k o)

    -- and a request that is granted there is accepted there
    pub enqueue_goes_on : (g : Grant) → Enough m → 512 ≤ stop - v.next_token → Onward v block now → grant_of (moved v block now) r message ≡ gives g
        → enqueue_of v m r message block now ≡ accepts (moved v block now) m r message g
    enqueue_goes_on g h k o q = enqueue_asks h k o ∙ ap (λ (a : Outcome Grant). goes_on (moved v block now) m a (accepts (moved v block now) m r message)) q

-- ---- the walk

fold_more : {A B : Type 0} (f : B → A → B) (start : B) (l : List A) (x : A) → foldl f start (l ++ x ∷ []) ≡ f (foldl f start l) x
fold_more f start [] x = refl
fold_more f start (y ∷ l) x = fold_more f (f start y) l x

-- it begins with no transfer, all else as it was
pub walk-starts : (v : View) → walk v [] ≡ view v.limits v.clock [] v.events v.echoes v.selected v.next_token
unfolding walk
walk-starts v = refl

-- and takes each in turn, however many there are
pub walk_steps : (v : View) (ps : List (Bool × Transfer)) (p : Bool × Transfer) → walk v (ps ++ p ∷ []) ≡ step (walk v ps) p
unfolding walk
walk_steps v ps p = fold_more step (view v.limits v.clock [] v.events v.echoes v.selected v.next_token) ps p

-- `advance` walks all of them, and asks for no restart
pub advance_walks : (v : View) → walked v ≡ walk v (map (λ x. (false, x)) v.transfers)
unfolding walked
advance_walks v = refl

asked_first : (echo : ℕ) (a : List Transfer) (x : Transfer) (b : List Transfer) → All (λ y. y.echo ≢ echo) a → x.echo ≡ echo
    → asked_for echo (a ++ x ∷ b) ≡ map (λ y. (false, y)) a ++ (true, x) ∷ map (λ y. (false, y)) b
asked_first echo [] x b h q = cond-true _ ((true, x) ∷ unasked b) ((false, x) ∷ asked_for echo b) (eq-eqb x.echo echo q)
asked_first echo (y ∷ a) x b h q =
    cond-false _ ((true, y) ∷ unasked (a ++ x ∷ b)) ((false, y) ∷ asked_for echo (a ++ x ∷ b)) (ne_eqb y.echo echo (all_head h))
    ∙ ap (λ (ps : List (Bool × Transfer)). (false, y) ∷ ps) (asked_first echo a x b (all_tail h) q)

module _ {A : Type 0} (p : A → Bool) where
  any-split : (a : List A) (x : A) (b : List A) → p x ≡ true → any p (a ++ x ∷ b) ≡ true
  any-split [] x b e = or-true (p x) (any p b) (inl e)
  any-split (y ∷ a) x b e = or-true (p y) (any p (a ++ x ∷ b)) (inr (any-split a x b e))

  any_nowhere : (l : List A) → All (λ y. p y ≡ false) l → any p l ≡ false
  any_nowhere [] h = refl
  any_nowhere (y ∷ l) h = or-false (p y) (any p l) (all_head h) (any_nowhere l (all_tail h))

module _ (l : Limits) (c : Clock) (es : List Event) (e : Echoes) (s : Option PreparedFrame) (n : ℕ) where
  -- ---- a step of the walk

  module _ (ts : List Transfer) (asked : Bool) (x : Transfer) where
    abbrev fate : Fate → View
    fate f = landed (view l c ts es e s n) x f

    -- at its deadline or later: Expired, even if done, however many events wait
    pub step_expires : leb x.parcel.deadline_ms c.last_ms ≡ true
        → step (view l c ts es e s n) (asked, x) ≡ view l c ts (es ++ Expired x.parcel.completion ∷ []) e (unselect x.generation s) n
    unfolding step fate_of
    step_expires o = ap fate (cond-true _ (Ends (Expired x.parcel.completion)) (cond (done_of x) (Ends (Complete x.parcel.completion)) (settled c asked (settle_of c.last_block x))) o)

    -- else, done: Complete
    pub step_completes : leb x.parcel.deadline_ms c.last_ms ≡ false → done_of x ≡ true
        → step (view l c ts es e s n) (asked, x) ≡ view l c ts (es ++ Complete x.parcel.completion ∷ []) e (unselect x.generation s) n
    unfolding step fate_of
    step_completes o d =
        ap fate
        (cond-false _ (Ends (Expired x.parcel.completion)) (cond (done_of x) (Ends (Complete x.parcel.completion)) (settled c asked (settle_of c.last_block x))) o
        ∙ cond-true _ (Ends (Complete x.parcel.completion)) (settled c asked (settle_of c.last_block x)) d)

    goes_on_lem : leb x.parcel.deadline_ms c.last_ms ≡ false → done_of x ≡ false → fate_of c asked x ≡ settled c asked (settle_of c.last_block x)
    unfolding fate_of
    goes_on_lem o d =
        cond-false _ (Ends (Expired x.parcel.completion)) (cond (done_of x) (Ends (Complete x.parcel.completion)) (settled c asked (settle_of c.last_block x))) o
        ∙ cond-false _ (Ends (Complete x.parcel.completion)) (settled c asked (settle_of c.last_block x)) d

    restarts : leb x.parcel.deadline_ms c.last_ms ≡ false → done_of x ≡ false → (asked || restart_due c.last_block (settle_of c.last_block x)) ≡ true
        → step (view l c ts es e s n) (asked, x) ≡ restart (view l c ts es e s n) x (free_echo e c.last_ms)
    unfolding step
    restarts o d r = ap fate (goes_on_lem o d ∙ cond-true _ Restarts (Stays (settle_of c.last_block x)) r)

    -- else, asked for or due, with an echo free: begun again under it, behind those before it
    pub step_restarts : (echo : ℕ) → leb x.parcel.deadline_ms c.last_ms ≡ false → done_of x ≡ false → (asked || restart_due c.last_block (settle_of c.last_block x)) ≡ true
        → free_echo e c.last_ms ≡ Some echo
        → step (view l c ts es e s n) (asked, x) ≡ view l c (ts ++ begun x.parcel echo n ∷ []) es (held l e echo x.parcel.deadline_ms) (unselect x.generation s) (number_after n)
    step_restarts echo o d r f = restarts o d r ∙ ap (λ (q : Option ℕ). restart (view l c ts es e s n) x q) f

    -- with none free: Failed
    pub step_fails : leb x.parcel.deadline_ms c.last_ms ≡ false → done_of x ≡ false → (asked || restart_due c.last_block (settle_of c.last_block x)) ≡ true
        → free_echo e c.last_ms ≡ None
        → step (view l c ts es e s n) (asked, x) ≡ view l c ts (es ++ Failed x.parcel.completion EchoExhausted ∷ []) e (unselect x.generation s) n
    step_fails o d r f = restarts o d r ∙ ap (λ (q : Option ℕ). restart (view l c ts es e s n) x q) f

    -- else it stays, settled, behind those before it
    pub step_stays : leb x.parcel.deadline_ms c.last_ms ≡ false → done_of x ≡ false → (asked || restart_due c.last_block (settle_of c.last_block x)) ≡ false
        → step (view l c ts es e s n) (asked, x) ≡ view l c (ts ++ settle_of c.last_block x ∷ []) es e s n
    unfolding step
    step_stays o d r = ap fate (goes_on_lem o d ∙ cond-false _ Restarts (Stays (settle_of c.last_block x)) r)

  -- ---- interrupt, prepare_prioritized

  module _ (echo : ℕ) (a : List Transfer) (x : Transfer) (b : List Transfer) (h : All (λ y. y.echo ≢ echo) a) (q : x.echo ≡ echo) where
    -- a restart is asked of the first transfer of the echo, and of no other
    pub interrupts : let v = view l c (a ++ x ∷ b) es e s n in interrupted v echo ≡ record { outcome = gives true; state = walk v (map (λ y. (false, y)) a ++ (true, x) ∷ map (λ y. (false, y)) b) }
    interrupts =
        let v = view l c (a ++ x ∷ b) es e s n in
        cond-true _ (says true (walk v (asked_for echo (a ++ x ∷ b)))) (says false v) (any-split (of_echo echo) a x b (eq-eqb x.echo echo q))
        ∙ ap (λ (ps : List (Bool × Transfer)). says true (walk v ps)) (asked_first echo a x b h q)

    -- the transfer goes to the front, the others keep their order, a selected frame of another echo is dropped; if it has a frame queued then, the
    -- call goes on as `prepare` does
    fronts : (octets : List ℕ) (t : Bool) → is_ready (repeated x) ≡ t
        → let w = view l c (repeated x ∷ (a ++ b)) es e (only_echo echo s) n in prioritize_at (view l c (a ++ x ∷ b) es e s n) octets echo ≡ cond t (choose w octets) (says None w)
    unfolding prioritize_at
    fronts octets t r =
        let v = view l c (a ++ x ∷ b) es e s n in
        let w : List Transfer → View = λ ts. view l c (repeated x ∷ ts) es e (only_echo echo s) n in
        seek_found (of_echo echo) (says None v) (prioritized v octets echo) a x b (all_map (λ y d. ne_eqb y.echo echo d) h) (eq-eqb x.echo echo q)
        ∙ (ap (λ (ts : List Transfer). cond (is_ready (repeated x)) (choose (w ts) octets) (says None (w ts))) (removed_end a x b)
        ∙ ap (λ (t : Bool). cond t (choose (w (a ++ b)) octets) (says None (w (a ++ b)))) r)

    pub prioritizes : (octets : List ℕ) → (repeated x).sets.queue ≢ 0 → prioritize_at (view l c (a ++ x ∷ b) es e s n) octets echo ≡ choose (view l c (repeated x ∷ (a ++ b)) es e (only_echo echo s) n) octets
    prioritizes octets r = fronts octets true (ap not (ne_eqb (repeated x).sets.queue 0 r))

    pub prioritizes_idle : (octets : List ℕ) → (repeated x).sets.queue ≡ 0
        → prioritize_at (view l c (a ++ x ∷ b) es e s n) octets echo ≡ record { outcome = gives None; state = view l c (repeated x ∷ (a ++ b)) es e (only_echo echo s) n }
    prioritizes_idle octets r = fronts octets false (ap not (eq-eqb (repeated x).sets.queue 0 r))

  -- an echo that no live transfer has: nothing changes
  pub interrupts_unknown : (echo : ℕ) (ts : List Transfer) → All (λ y. y.echo ≢ echo) ts → interrupted (view l c ts es e s n) echo ≡ record { outcome = gives false; state = view l c ts es e s n }
  interrupts_unknown echo ts h =
      let v = view l c ts es e s n in
      cond-false _ (says true (walk v (asked_for echo ts))) (says false v) (any_nowhere (of_echo echo) ts (all_map (λ y d. ne_eqb y.echo echo d) h))

  pub prioritizes_unknown : (octets : List ℕ) (echo : ℕ) (ts : List Transfer) → All (λ y. y.echo ≢ echo) ts → prioritize_at (view l c ts es e s n) octets echo ≡ record { outcome = gives None; state = view l c ts es e s n }
  unfolding prioritize_at
  prioritizes_unknown octets echo ts h =
      let v = view l c ts es e s n in
      seek_none (of_echo echo) (says None v) (prioritized v octets echo) ts (all_map (λ y d. ne_eqb y.echo echo d) h)

  -- ---- cancel, cancel_transaction, cancel_all

  -- none is found: nothing changes
  cancel_none : (p : Transfer → Bool) (ts : List Transfer) → All (λ y. p y ≡ false) ts → cancel_first p (view l c ts es e s n) ≡ record { outcome = gives false; state = view l c ts es e s n }
  cancel_none p ts h = seek_none p (says false (view l c ts es e s n)) (λ place x. says true (cancel_at (view l c ts es e s n) place x)) ts h

  -- the first is taken out, and Cancelled; the others keep their order, and a frame of theirs stays selected
  cancel_found : (p : Transfer → Bool) (a : List Transfer) (x : Transfer) (b : List Transfer) → All (λ y. p y ≡ false) a → p x ≡ true
      → cancel_first p (view l c (a ++ x ∷ b) es e s n) ≡ record { outcome = gives true; state = view l c (a ++ b) (es ++ Cancelled x.parcel.completion ∷ []) e (unselect x.generation s) n }
  cancel_found p a x b h q =
      let v = view l c (a ++ x ∷ b) es e s n in
      seek_found p (says false v) (λ place y. says true (cancel_at v place y)) a x b h q
      ∙ ap (λ (ts : List Transfer). says true (view l c ts (es ++ Cancelled x.parcel.completion ∷ []) e (unselect x.generation s) n)) (removed_end a x b)

  pub cancel_unknown : (i : MobileIdentity) (ts : List Transfer) → All (λ y. addressed i y ≡ false) ts → cancel_of (view l c ts es e s n) i ≡ record { outcome = gives false; state = view l c ts es e s n }
  unfolding cancel_of
  cancel_unknown i ts h = cancel_none (addressed i) ts h

  pub cancels : (i : MobileIdentity) (a : List Transfer) (x : Transfer) (b : List Transfer) → All (λ y. addressed i y ≡ false) a → addressed i x ≡ true
      → cancel_of (view l c (a ++ x ∷ b) es e s n) i ≡ record { outcome = gives true; state = view l c (a ++ b) (es ++ Cancelled x.parcel.completion ∷ []) e (unselect x.generation s) n }
  unfolding cancel_of
  cancels i a x b h q = cancel_found (addressed i) a x b h q

  pub cancel_transaction_unknown : (t : TransferToken) (ts : List Transfer) → All (λ y. y.parcel.owner.0 ≢ t.0) ts
      → cancel_transaction_of (view l c ts es e s n) t ≡ record { outcome = gives false; state = view l c ts es e s n }
  unfolding cancel_transaction_of
  cancel_transaction_unknown t ts h = cancel_none (owned_by t) ts (all_map (λ y d. ne_eqb y.parcel.owner.0 t.0 d) h)

  pub cancels_transaction : (t : TransferToken) (a : List Transfer) (x : Transfer) (b : List Transfer) → All (λ y. y.parcel.owner.0 ≢ t.0) a → x.parcel.owner.0 ≡ t.0
      → cancel_transaction_of (view l c (a ++ x ∷ b) es e s n) t ≡ record { outcome = gives true; state = view l c (a ++ b) (es ++ Cancelled x.parcel.completion ∷ []) e (unselect x.generation s) n }
  unfolding cancel_transaction_of
  cancels_transaction t a x b h q = cancel_found (owned_by t) a x b (all_map (λ y d. ne_eqb y.parcel.owner.0 t.0 d) h) (eq-eqb x.parcel.owner.0 t.0 q)

  -- all are Cancelled, in their order, and nothing is selected
  pub cancels_all : (ts : List Transfer) → cancel_all_of (view l c ts es e s n) ≡ view l c [] (es ++ map (λ x. Cancelled x.parcel.completion) ts) e None n
  unfolding cancel_all_of
  cancels_all ts = refl

  -- ---- identity_for_echo, pop_event

  pub identity_for_echo : (echo : ℕ) (a : List Transfer) (x : Transfer) (b : List Transfer) → All (λ y. y.echo ≢ echo) a → x.echo ≡ echo
      → identity_for_echo_of (view l c (a ++ x ∷ b) es e s n) echo ≡ Some x.parcel.identity
  unfolding identity_for_echo_of
  identity_for_echo echo a x b h q =
      seek_found (of_echo echo) None (λ place y. Some y.parcel.identity) a x b (all_map (λ y d. ne_eqb y.echo echo d) h) (eq-eqb x.echo echo q)

  pub identity_for_none : (echo : ℕ) (ts : List Transfer) → All (λ y. y.echo ≢ echo) ts → identity_for_echo_of (view l c ts es e s n) echo ≡ None
  unfolding identity_for_echo_of
  identity_for_none echo ts h = seek_none (of_echo echo) None (λ place y. Some y.parcel.identity) ts (all_map (λ y d. ne_eqb y.echo echo d) h)

  -- the event that waits longest is told and taken; the others keep their order, and nothing else changes
  pub pops : (ts : List Transfer) (x : Event) (later : List Event) → pop_event_of (view l c ts (x ∷ later) e s n) ≡ record { outcome = gives (Some (ending_of x)); state = view l c ts later e s n }
  unfolding pop_event_of
  pops ts x later = refl

  -- with none waiting nothing is told, and nothing changes
  pub pops_none : (ts : List Transfer) → pop_event_of (view l c ts [] e s n) ≡ record { outcome = gives None; state = view l c ts [] e s n }
  unfolding pop_event_of
  pops_none ts = refl

  -- ---- submitted

  -- a frame that is accepted: its transfer goes to the back, the others keep their order; nothing is selected any more, and one word is written
  pub hands_in : (m : Lent) (t : FrameToken) (a : List Transfer) (x : Transfer) (b : List Transfer) → All (λ y. y.generation.0 ≢ t.generation.0) a → x.generation.0 ≡ t.generation.0
      → (submitted_at (view l c (a ++ x ∷ b) es e s n) m t).outcome ≡ gives tt
      → submitted_at (view l c (a ++ x ∷ b) es e s n) m t ≡ record {
        outcome = gives tt;
        sender = view l c ((a ++ b) ++ in_flight_lem t.frame c.last_block x ∷ []) es e None n;
        lent = record { octets = m.octets; words = set m.words (27 * x.parcel.n + t.frame) t.submission.0 };
      }
  unfolding submitted_at
  hands_in m t a x b h q o =
      let v = view l c (a ++ x ∷ b) es e s n in
      let found : ℕ → Transfer → Out Unit = λ place y. cond (is_ready y && eqb (front y.sets.queue) t.frame) (handed_in v m t place y) (refusal 24 v m) in
      let whole = seek (of_generation t.generation) v.transfers (refusal 24 v m) found in
      let one = passes v m (is_selected t s) whole o in
      let two = seek_found (of_generation t.generation) (refusal 24 v m) found a x b (all_map (λ y d. ne_eqb y.generation.0 t.generation.0 d) h) (eq-eqb x.generation.0 t.generation.0 q) in
      let three = passes v m (is_ready x && eqb (front x.sets.queue) t.frame) (handed_in v m t (length a) x) (sym (ap (λ (u : Out Unit). u.outcome) (one ∙ two)) ∙ o) in
      one ∙ (two ∙ (three ∙ ap (λ (ts : List Transfer). record {
        outcome = gives tt;
        sender = view l c (ts ++ in_flight_lem t.frame c.last_block x ∷ []) es e None n;
        lent = record { octets = m.octets; words = set m.words (27 * x.parcel.n + t.frame) t.submission.0 };
      }) (removed_end a x b)))

  -- ---- transmitted, submitted_message

  module _ (t : FrameToken) (a : List Transfer) (x : Transfer) (b : List Transfer) (h : All (λ y. y.generation.0 ≢ t.generation.0) a) (q : x.generation.0 ≡ t.generation.0) where
    -- the first of the token's generation
    of-generation : {B : Type 0} (nothing : B) (found : ℕ → Transfer → B) → seek (of_generation t.generation) (a ++ x ∷ b) nothing found ≡ found (length a) x
    of-generation nothing found = seek_found (of_generation t.generation) nothing found a x b (all_map (λ y d. ne_eqb y.generation.0 t.generation.0 d) h) (eq-eqb x.generation.0 t.generation.0 q)

    -- a frame that is outstanding is confirmed in its place, told whether all are transmitted now; then `advance`
    pub transmits : (words : List ℕ) → is_outstanding t words x ≡ true → transmitted_at (view l c (a ++ x ∷ b) es e s n) words t ≡ record {
      outcome = gives (Some (eqb (ones (with_bit x.sets.transmitted t.frame)) x.parcel.frames));
      state = walked (view l c (a ++ confirm_frame t.frame x ∷ b) es e s n);
    }
    unfolding transmitted_at
    transmits words o =
        let v = view l c (a ++ x ∷ b) es e s n in
        let told : View → After (Option Bool) View = λ w. record { outcome = gives (Some (eqb (ones (with_bit x.sets.transmitted t.frame)) x.parcel.frames)); state = walked w } in
        of-generation (says None v) (λ place y. cond (is_outstanding t words y) (confirms v t place y) (says None v))
        ∙ (cond-true _ (confirms v t (length a) x) (says None v) o
        ∙ ap (λ (ts : List Transfer). told (view l c ts es e s n)) (set_at a x b (confirm_frame t.frame x) (length a) refl))

    -- the completion is told in full, once as many frames as there are went out, whatever the token's submission and frame
    pub tells_message : submitted_message_of (view l c (a ++ x ∷ b) es e s n) t
        ≡ cond (eqb (ones (bit_or x.sets.transmitted x.sets.in_flight)) x.parcel.frames) (Some x.parcel.completion) None
    unfolding submitted_message_of
    tells_message = of-generation None (λ place y. cond (eqb (ones (bit_or y.sets.transmitted y.sets.in_flight)) y.parcel.frames) (Some y.parcel.completion) None)

  -- of a generation that no live transfer has, nothing
  pub tells_no_message : (t : FrameToken) (ts : List Transfer) → All (λ y. y.generation.0 ≢ t.generation.0) ts → submitted_message_of (view l c ts es e s n) t ≡ None
  unfolding submitted_message_of
  tells_no_message t ts h =
      seek_none (of_generation t.generation) None (λ place y. cond (eqb (ones (bit_or y.sets.transmitted y.sets.in_flight)) y.parcel.frames) (Some y.parcel.completion) None)
      ts (all_map (λ y d. ne_eqb y.generation.0 t.generation.0 d) h)

  -- ---- status

  module _ (st : ArqStatus) (a : List Transfer) (x : Transfer) (b : List Transfer) (h : All (λ y. y.echo ≢ st.partial_echo) a) (q : x.echo ≡ st.partial_echo) where
    -- the first transfer of the echo, and whether its Begin went out
    begin_out : {t : Bool} → (has x.sets.transmitted 0 || has x.sets.in_flight 0) ≡ t
        → let v = view l c (a ++ x ∷ b) es e s n in
        status_at v st ≡ cond t (says true (walked (put_at v (length a) (observes st.received_frames c.last_block x)))) (says false v)
    unfolding status_at
    begin_out {t} o =
        let v = view l c (a ++ x ∷ b) es e s n in
        let observed : ℕ → Transfer → After Bool View = λ place y. says true (walked (put_at v place (observes st.received_frames c.last_block y))) in
        seek_found (of_echo st.partial_echo) (says false v) (λ place y. cond (has (bit_or y.sets.transmitted y.sets.in_flight) 0) (observed place y) (says false v)) a x b (all_map (λ y d. ne_eqb y.echo st.partial_echo d) h) (eq-eqb x.echo st.partial_echo q)
        ∙ ap (λ (t : Bool). cond t (observed (length a) x) (says false v)) (has_or x.sets.transmitted x.sets.in_flight 0 ∙ o)

    -- a status for an order whose Begin went out is observed in its place; then `advance`
    pub hears : (has x.sets.transmitted 0 || has x.sets.in_flight 0) ≡ true
        → status_at (view l c (a ++ x ∷ b) es e s n) st ≡ record { outcome = gives true; state = walked (view l c (a ++ observes st.received_frames c.last_block x ∷ b) es e s n) }
    hears o =
        let told : View → After Bool View = λ w. record { outcome = gives true; state = walked w } in
        begin_out o ∙ ap (λ (ts : List Transfer). told (view l c ts es e s n)) (set_at a x b (observes st.received_frames c.last_block x) (length a) refl)

    -- for one whose Begin did not: false, and nothing changes
    pub hears_unbegun : (has x.sets.transmitted 0 || has x.sets.in_flight 0) ≡ false → status_at (view l c (a ++ x ∷ b) es e s n) st ≡ record { outcome = gives false; state = view l c (a ++ x ∷ b) es e s n }
    hears_unbegun o = begin_out o

  -- for an echo that no live transfer has: the same
  pub hears_unknown : (st : ArqStatus) (ts : List Transfer) → All (λ y. y.echo ≢ st.partial_echo) ts → status_at (view l c ts es e s n) st ≡ record { outcome = gives false; state = view l c ts es e s n }
  unfolding status_at
  hears_unknown st ts h =
      let v = view l c ts es e s n in
      seek_none (of_echo st.partial_echo) (says false v) (λ place y. cond (has (bit_or y.sets.transmitted y.sets.in_flight) 0) (says true (walked (put_at v place (observes st.received_frames c.last_block y)))) (says false v))
      ts (all_map (λ y d. ne_eqb y.echo st.partial_echo d) h)

-- ---- prepare

module _ (l : Limits) (c : Clock) (es : List Event) (e : Echoes) (n : ℕ) (octets : List ℕ) where
  -- with none selected: the lowest frame of the first queue that has one, polled if it is the only one there, under the order's generation and one
  -- token; it is selected, and nothing else changes
  pub chooses : (a : List Transfer) (x : Transfer) (b : List Transfer) (p : PackedFrame) → All (λ y. y.sets.queue ≡ 0) a → x.sets.queue ≢ 0
      → packed_of x octets (count_trailing_zeros 32 x.sets.queue) (eqb (ones x.sets.queue) 1) ≡ gives p
      → let f : PreparedFrame = record {
        identity = x.parcel.identity;
        octets = p.octets;
        token = record { generation = x.generation; submission = record { 0 = n }; frame = count_trailing_zeros 32 x.sets.queue };
        partial_echo = x.echo;
      } in
      choose (view l c (a ++ x ∷ b) es e None n) octets ≡ record { outcome = gives (Some f); state = view l c (a ++ x ∷ b) es e (Some f) (number_after n) }
  unfolding choose
  chooses a x b p h q g =
      let v = view l c (a ++ x ∷ b) es e None n in
      seek_found is_ready (says None v) (λ place y. selects v y (front_of y octets)) a x b (all_map (λ y d. ap not (eq-eqb y.sets.queue 0 d)) h) (ap not (ne_eqb x.sets.queue 0 q)) ∙ ap (selects v x) g

  -- with none queued, no frame, and nothing changes
  pub chooses_none : (ts : List Transfer) → All (λ y. y.sets.queue ≡ 0) ts → choose (view l c ts es e None n) octets ≡ record { outcome = gives None; state = view l c ts es e None n }
  unfolding choose
  chooses_none ts h = let v = view l c ts es e None n in seek_none is_ready (says None v) (λ place y. selects v y (front_of y octets)) ts (all_map (λ y d. ap not (eq-eqb y.sets.queue 0 d)) h)

  -- a selected frame is told as it is, and nothing changes
  pub chooses_selected : (ts : List Transfer) (f : PreparedFrame) → choose (view l c ts es e (Some f) n) octets ≡ record { outcome = gives (Some f); state = view l c ts es e (Some f) n }
  unfolding choose
  chooses_selected ts f = refl

-- ---- events

-- each is told with its completion in full; the error of a restart without an echo is 21
pub endings : (completion : ℕ) → (ending_of (Complete completion) ≡ complete completion) × (ending_of (Expired completion) ≡ expired completion) × (ending_of (Cancelled completion) ≡ cancelled completion) × (ending_of (Failed completion EchoExhausted) ≡ failed completion 21)
endings completion = (refl, refl, refl, refl)

-- 01's numbers of the sender's errors
pub numbers : (refusal_of errors.Limits ≡ 19) × (refusal_of errors.Capacity ≡ 20) × (refusal_of errors.EchoExhausted ≡ 21) × (refusal_of errors.Clock ≡ 22) × (refusal_of errors.Deadline ≡ 23) × (refusal_of errors.Stale ≡ 24) × ((e : SpachError) → refusal_of (errors.Wire e) ≡ number_of e)
numbers = (refl, refl, refl, refl, refl, refl, (λ e. refl))

-- ---- submitted, refused

-- a refusal leaves the sender and the lent memory
pub submitted_refused : (v : View) (m : Lent) (t : FrameToken) (k : ℕ) → (submitted_at v m t).outcome ≡ refuses k → submitted_at v m t ≡ refusal k v m
unfolding submitted_at
submitted_refused v m t k =
    stale (is_selected t v.selected) (λ o. stale (ltb place (length v.transfers)) (λ q. stale (is_ready x && eqb (front x.sets.queue) t.frame) (λ r. let z : ◌≡◌ {A = ℕ} 0 1 = cc in absurd (omega arith)) q) o)
  where
    place : ℕ
    place = position (of_generation t.generation) v.transfers

    x : Transfer
    x = get_or v.transfers place blank_transfer

    stale : (b : Bool) {o : Out Unit} → (o.outcome ≡ refuses k → o ≡ refusal k v m) → (cond b o (refusal 24 v m)).outcome ≡ refuses k → cond b o (refusal 24 v m) ≡ refusal k v m
    stale true h q = h q
    stale false h q = let r : 24 ≡ k = cc in ap (λ (j : ℕ). refusal j v m) r

-- a frame that is not in flight under its submission: not found, and nothing changes
pub transmitted_unknown : (v : View) (words : List ℕ) (t : FrameToken) → All (λ y. y.generation.0 ≡ t.generation.0 → is_outstanding t words y ≡ false) v.transfers
    → transmitted_at v words t ≡ record { outcome = gives None; state = v }
unfolding transmitted_at
transmitted_unknown v words t h = go (ltb i (length l)) refl
  where
    l : List Transfer
    l = v.transfers

    i : ℕ
    i = position (of_generation t.generation) l

    x : Transfer
    x = get_or l i blank_transfer

    go : (b : Bool) → ltb i (length l) ≡ b → cond b (cond (is_outstanding t words x) (confirms v t i x) (says None v)) (says None v) ≡ says None v
    go true q =
        let lt = ltb-true i (length l) q in
        cond-false _ (confirms v t i x) (says None v) (all-at l i blank_transfer lt h (eqb-true x.generation.0 t.generation.0 (position-found (of_generation t.generation) blank_transfer l lt)))
    go false q = refl

-- ---- enqueue: its refusals

-- no echo is free
abbrev is_none : Option ℕ → Bool
is_none None = true
is_none (Some k) = false

-- *Enqueue*, once 16, 18 and 22 are passed: events at capacity 20; deadline not after now 23; empty 1; no transfer replaced and transfers at capacity 20; over
-- 255 octets 1; Pch 3; identity 2; before the first block 21; deadline plus guard over 64 bits 23; no echo free 21
abbrev pub grant_table : View → Request → List ℕ → List (Bool × ℕ)
grant_table v r message =
    (leb v.limits.capacity (length v.events), 20)
    ∷ (leb r.deadline_ms v.clock.last_ms, 23)
    ∷ (eqb (length message) 0, 1)
    ∷ (not (contains_of v r.identity) && leb v.limits.capacity (length v.transfers), 20)
    ∷ (ltb 255 (length message), 1)
    ∷ (eqb (usage_of r.channel) 7, 3)
    ∷ (not (encodable r.identity), 2)
    ∷ (ltb v.clock.last_block v.limits.startup_until_block, 21)
    ∷ (ltb stop (r.deadline_ms + v.limits.echo_guard_ms), 23)
    ∷ (is_none (free_echo v.echoes v.clock.last_ms), 21)
    ∷ []

under : {A : Type 0} (t : Bool) (k : ℕ) (o : Outcome A) (u : Outcome Unit) → said o ≡ u → said (refuse t k o) ≡ refuse t k u
under true k o u q = refl
under false k o u q = q

table_then : {A B : Type 0} (rows : List (Bool × ℕ)) (a : A) (f : A → Outcome B) (u : Outcome Unit) → said (f a) ≡ u → said (and_then (table rows (gives a)) f) ≡ table rows u
table_then [] a f u q = q
table_then {A} {B} (r ∷ rows) a f u q = go r.0 (table_then rows a f u q)
  where
    go : (t : Bool) → said (and_then (table rows (gives a)) f) ≡ table rows u → said (and_then (refuse t r.1 (table rows (gives a))) f) ≡ refuse t r.1 (table rows u)
    go true h = refl
    go false h = h

pub enqueue_refuses : (v : View) (r : Request) (message : List ℕ) → said (grant_of v r message) ≡ table (grant_table v r message) (gives tt)
unfolding grant_of
enqueue_refuses v r message =
    under (leb v.limits.capacity (length v.events)) 20 _ _
    (under (leb r.deadline_ms v.clock.last_ms) 23 _ _
    (under (eqb (length message) 0) 1 _ _
    (under (not (contains_of v r.identity) && leb v.limits.capacity (length v.transfers)) 20 _ _
    (ap (λ (o : Outcome ℕ). said (and_then o given)) (count_refuses h r.identity message) ∙ table_then (cut_table h r.identity message) count given _ rest))))
  where
    h : ArqHeader
    h = header_of r.channel 0 false

    count : ℕ
    count = 1 + continues r.identity (length message)

    given : ℕ → Outcome Grant
    given = allocated v.limits v.clock v.echoes r.deadline_ms

    free : (o : Option ℕ) → said (granted count o) ≡ refuse (is_none o) 21 (gives tt)
    free None = refl
    free (Some k) = refl

    rest : said (given count) ≡ refuse (ltb v.clock.last_block v.limits.startup_until_block) 21 (refuse (ltb stop (r.deadline_ms + v.limits.echo_guard_ms)) 23 (refuse (is_none (free_echo v.echoes v.clock.last_ms)) 21 (gives tt)))
    rest =
        under (ltb v.clock.last_block v.limits.startup_until_block) 21 _ _
        (under (ltb stop (r.deadline_ms + v.limits.echo_guard_ms)) 23 _ _ (free (free_echo v.echoes v.clock.last_ms)))

-- ---- enqueue: what it leaves

stops : {A B : Type 0} (w : View) (m : Lent) (o : Outcome A) (f : A → Out B) (k : ℕ) → ((a : A) → (f a).outcome ≢ refuses k) → (goes_on w m o f).outcome ≡ refuses k → goes_on w m o f ≡ refusal k w m
stops w m (gives a) f k h q = absurd (h a q)
stops w m (refuses j) f k h q = let r : j ≡ k = cc in ap (λ (i : ℕ). refusal i w m) r

accepts_gives : (v : View) (m : Lent) (r : Request) (message : List ℕ) (g : Grant) (k : ℕ) → (accepts v m r message g).outcome ≢ refuses k
unfolding accepts
accepts_gives v m r message g k q = let z : ◌≡◌ {A = ℕ} 0 1 = cc in omega arith

-- once 16, 18 and 22 are passed a refusal leaves the sender at the moved clock, nothing else of it changed, and the lent memory
pub enqueue_refused : (v : View) (m : Lent) (r : Request) (message : List ℕ) (block now k : ℕ)
    → 32640 ≤ length m.octets → 3456 ≤ length m.words → 512 ≤ stop - v.next_token → v.clock.last_block ≤ block → v.clock.last_ms ≤ now
    → (enqueue_of v m r message block now).outcome ≡ refuses k
    → enqueue_of v m r message block now ≡ record {
      outcome = refuses k;
      sender = view v.limits (record { last_block = block; last_ms = now }) v.transfers v.events v.echoes v.selected v.next_token;
      lent = m;
    }
enqueue_refused v m r message block now k octets words tokens later on q =
    let w = moved v block now in
    let e = enqueue_asks v m block now r message (octets, words) tokens (later, on) in
    e ∙ stops w m (grant_of w r message) (accepts w m r message) k (λ g. accepts_gives w m r message g k) (sym (ap (λ (o : Out TransferToken). o.outcome) e) ∙ q)

-- a request that is granted: as many frames as the cut has, under the first free echo of the search
pub enqueue_grants : (v : View) (r : Request) (message : List ℕ) (g : Grant) → grant_of v r message ≡ gives g
    → (g.frames ≡ 1 + continues r.identity (length message)) × (free_echo v.echoes v.clock.last_ms ≡ Some g.echo)
enqueue_grants v r message g q = let p = (grant_passes v r message q).proper in (p.frames, p.echo)

-- the new transfer at the back of what a sender is without the replaced one
abbrev added : View → Lent → Request → List ℕ → Grant → View → Out TransferToken
added v m r message g w =
    let k = lowest_n w.transfers in
    record {
      outcome = gives (record { 0 = v.next_token });
      sender = kept (token_taken w) (begun (parcel_of r message g.frames k v.next_token) g.echo v.next_token);
      lent = record { octets = stored m.octets k message; words = m.words };
    }

-- a request for an identity that no live transfer has: one more at the back
pub enqueue_adds : (v : View) (m : Lent) (r : Request) (message : List ℕ) (g : Grant) → All (λ y. addressed r.identity y ≡ false) v.transfers
    → accepts v m r message g ≡ record {
      outcome = gives (record { 0 = v.next_token });
      sender = view v.limits v.clock (v.transfers ++ begun (parcel_of r message g.frames (lowest_n v.transfers) v.next_token) g.echo v.next_token ∷ []) v.events (held v.limits v.echoes g.echo r.deadline_ms) v.selected (number_after v.next_token);
      lent = record { octets = stored m.octets (lowest_n v.transfers) message; words = m.words };
    }
unfolding accepts
enqueue_adds v m r message g h =
    let u = view v.limits v.clock v.transfers v.events (held v.limits v.echoes g.echo r.deadline_ms) v.selected v.next_token in
    ap (added v m r message g) (seek_none (addressed r.identity) u (cancel_at u) v.transfers h)

-- one for an identity that has a transfer: that one is taken out and Cancelled, and its place in the store counts as free
pub enqueue_replaces : (l : Limits) (c : Clock) (a : List Transfer) (x : Transfer) (b : List Transfer) (es : List Event) (e : Echoes) (s : Option PreparedFrame) (n : ℕ) (m : Lent) (r : Request) (message : List ℕ) (g : Grant)
    → All (λ y. addressed r.identity y ≡ false) a → addressed r.identity x ≡ true
    → accepts (view l c (a ++ x ∷ b) es e s n) m r message g ≡ record {
      outcome = gives (record { 0 = n });
      sender = view l c ((a ++ b) ++ begun (parcel_of r message g.frames (lowest_n (a ++ b)) n) g.echo n ∷ []) (es ++ Cancelled x.parcel.completion ∷ []) (held l e g.echo r.deadline_ms) (unselect x.generation s) (number_after n);
      lent = record { octets = stored m.octets (lowest_n (a ++ b)) message; words = m.words };
    }
unfolding accepts
enqueue_replaces l c a x b es e s n m r message g h q =
    let u = view l c (a ++ x ∷ b) es (held l e g.echo r.deadline_ms) s n in
    ap (added (view l c (a ++ x ∷ b) es e s n) m r message g)
    (seek_found (addressed r.identity) u (cancel_at u) a x b h q
    ∙ ap (λ (ts : List Transfer). view l c ts (es ++ Cancelled x.parcel.completion ∷ []) (held l e g.echo r.deadline_ms) (unselect x.generation s) n) (removed_end a x b))
