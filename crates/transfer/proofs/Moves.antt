-- What every call does, as moves: the clock goes on; then transfers change, restart and end one at a time, frames are prepared and
-- dropped; and last a frame is told, a request accepted or an event taken. A law over lists of calls goes by the moves, not by the calls,
-- and so does `Sound`. A call to be added is a case of `does_leaves`. Assumes nothing.
use Rattle.std.proofs.Common.{◌≡◌, ℕ, suc, ◌+◌, ◌<◌, ◌≤◌, Bool, true, false, ◌&&◌, eqb, ltb, leb, ◌⊎◌, List, [], ◌∷◌, ◌++◌, map, length, get_or, take, drop, set, Some, None, Option, sym, refl, ap, ◌∙◌, subst, inl, inr, ⊎_elim, append_assoc, append-nil, arith, length-set, ltb-false, ltb-true}
use mathlib.Core.List.{foldl}
use lib.Seq.{set_split, split_at}
use Rattle.token.specs.Token.{stop, number_after}
use Rattle.rach.proofs.Laws.{both}
use Rattle.spach.specs.Refusal.{Outcome, gives, refuses, refuse, After, onward}
use Rattle.spach.proofs.Outcomes.{passed, onward_cases}
use Rattle.arq.specs.declared.PackedFrame.{PackedFrame}
use Rattle.receiver.specs.declared.ArqStatus.{ArqStatus}
use Rattle.transfer.specs.declared.Error.TheVariants.{EchoExhausted}
use Rattle.transfer.specs.declared.Event.{Event}
use Rattle.transfer.specs.declared.Fate.TheVariants.{Stays}
use Rattle.transfer.specs.declared.TransferToken.{TransferToken}
use Rattle.transfer.specs.declared.FrameToken.{FrameToken}
use Rattle.transfer.specs.declared.Request.{Request}
use Rattle.transfer.specs.declared.Transfer.{Transfer}
use Rattle.transfer.specs.declared.PreparedFrame.{PreparedFrame}
use Rattle.transfer.specs.declared.Parcel.{Parcel}
use Rattle.transfer.specs.declared.Generation.{Generation}
use Rattle.transfer.specs.Queue.{has}
use Rattle.transfer.specs.Lists.{remove_at, push_back}
use Rattle.transfer.specs.Numbers.{ending_of}
use Rattle.transfer.specs.State.{Clock, View, Lent, Out, with_clock, with_transfers, with_events, with_echoes, with_selected, token_taken, short, ticked, admitted, says, refusal, goes_on, blank_transfer, put_at, clear_selected, How, completes, expires, cancels, fails, event_of, ended, cancel_at}
use Rattle.transfer.specs.Echo.{free_echo, held_until, hold}
use Rattle.transfer.specs.Transfer.{settle_of, begun, went_out}
use Rattle.transfer.specs.Advance.{overdue, fate_of, kept, restart, landed, step, walk, unasked, walked, advance_of}
use Rattle.transfer.specs.Enqueue.{addressed, Grant, grant_of, lowest_n, parcel_of, stored, accepts, enqueue_of}
use Rattle.transfer.specs.Prepare.{is_ready, front_of, prepared_of, selects, choose_from, choose, prepare_of, has_echo_of, asked_for, interrupted, interrupt_of, repeated, only_echo, prioritize_at, prepare_prioritized_of}
use Rattle.transfer.specs.Submitted.{word_of, is_outstanding, in_flight_lem, submitted_at, submitted_of, confirm_frame, transmitted_at, transmitted_of}
use Rattle.transfer.specs.Status.{observes, status_at, status_of}
use Rattle.transfer.specs.Cancel.{cancel_first, cancel_of, cancel_transaction_of, cancel_all_of, owned_by}
use Rattle.transfer.specs.Refresh.{refreshed, queue_waiting, oldest, oldest_first, serve_oldest, refresh_waiting_of}
use Rattle.transfer.specs.Queries.{pop_from, pop_event_of}
use Rattle.transfer.specs.History.{Call, Enqueue, Advance, Prepare, Interrupt, PreparePrioritized, Submitted, Transmitted, Status, Cancel, CancelTransaction, CancelAll, RefreshWaiting, PopEvent, Acceptance, Done, moves, enqueues, writes, frame_in, prepares, pops, does}
use Rattle.transfer.specs.Invariant.{All, all_none, all_more, Any, Chosen, Selected, Sound}
use Rattle.transfer.proofs.Listed.{all_map, all_head, all_tail, all_one, all_rest, all_in, all-at, all_removed, all_back, some_one}
use Rattle.transfer.proofs.Alive.{settled_parcel}
use Rattle.transfer.proofs.Invariant.{Keeps, keeps_among, self_keeps, settled_keeps, repeated_keeps, refreshed_keeps, confirmed_keeps, observed_keeps, in_flight_keeps, clock_kept, selected_kept, ended-kept, placed_kept, token_kept, events_kept, Welcomes, welcomes, welcomes_instead, welcomed_kept, cond_cases, seek_cases, prioritize_cases, submit_cases, confirm_cases, status_cases, neither, ticked_gives, admitted_gives, admitted-kept, admitted_tokens, Passes, grant_passes}
use Rattle.transfer.proofs.Walked.{begun_kept, fate_cases, behind, step_near, transfers_of, unasked_all, asked_for_all, long, walked_near}
use Rattle.transfer.proofs.AdvanceTwice.{Rests, rests_stays, walked_rests}

-- ---- the moves

-- one move of a sender, whose lent octets are these, in a call at whose start the next token was `first`
pub data Move (octets : List ℕ) (first : ℕ) (v : View) : View → Type 0 where
  -- no frame is selected any more, or the same one is
  drops : (s : Option PreparedFrame) → (s ≡ None) ⊎ (s ≡ v.selected) → Move octets first v (with_selected v s)
  -- the front of a transfer's queue is selected, under the next token
  picks : (a b : List Transfer) (x : Transfer) (p : PackedFrame) → v.transfers ≡ a ++ x ∷ b → is_ready x ≡ true → v.next_token < stop → front_of x octets ≡ gives p → Move octets first v (with_selected (token_taken v) (Some (prepared_of x p v.next_token)))
  -- another stands for a transfer, at the same place or another
  shifts : (a b c d : List Transfer) (x y : Transfer) → v.transfers ≡ a ++ x ∷ b → c ++ d ≡ a ++ b → Keeps v y x → Move octets first v (with_transfers v (c ++ y ∷ d))
  -- a transfer that is not overdue restarts, under a free echo and the next token; what began in the call does not
  restarts : (a b : List Transfer) (x : Transfer) (echo : ℕ) → v.transfers ≡ a ++ x ∷ b → x.generation.0 < first → overdue v.clock x ≡ false → v.next_token < stop → free_echo v.echoes v.clock.last_ms ≡ Some echo
      → Move octets first v (with_transfers (token_taken (with_echoes (clear_selected v x.generation) (hold v.echoes echo (held_until v.limits x.parcel.deadline_ms)))) (a ++ begun x.parcel echo v.next_token ∷ b))
  -- a transfer ends, and its event waits; what began in the call does not
  ends : (a b : List Transfer) (x : Transfer) (how : How) → v.transfers ≡ a ++ x ∷ b → x.generation.0 < first → Move octets first v (with_transfers (ended v x (event_of x how)) (a ++ b))

-- moves, one after the other
pub data Moves (octets : List ℕ) (first : ℕ) : View → View → Type 0 where
  stays : {v : View} → Moves octets first v v
  goes : {v u w : View} → Move octets first v u → Moves octets first u w → Moves octets first v w

-- no live transfer is overdue
abbrev pub Prompt : View → Type 0
Prompt v = All (λ x. overdue v.clock x ≡ false) v.transfers

-- what a call does last, and what it leaves then: nothing, or it tells the selected frame, no transfer being overdue, or it accepts a
-- request, or it takes an event
pub data Last (octets : List ℕ) (v : View) (c : Call) : Done → Type 0 where
  silent : {words : List ℕ} → Last octets v c (moves (record { octets = octets; words = words }) v)
  tells_one : {words : List ℕ} (f : PreparedFrame) → v.selected ≡ Some f → Prompt v
      → Last octets v c (record { sender = v; lent = record { octets = octets; words = words }; frame = Some f; accepted = None; popped = None })
  accepts_one : {words : List ℕ} {block now : ℕ} (r : Request) (message : List ℕ) (g : Grant) → c ≡ Enqueue r message block now → 32640 ≤ length octets → Welcomes v r message g
      → Last octets v c (record {
        sender = kept (token_taken (with_echoes v (hold v.echoes g.echo (held_until v.limits r.deadline_ms)))) (begun (parcel_of r message g.frames (lowest_n v.transfers) v.next_token) g.echo v.next_token);
        lent = record { octets = stored octets (lowest_n v.transfers) message; words = words };
        frame = None;
        accepted = Some (record { token = record { 0 = v.next_token }; request = r; message = message });
        popped = None;
      })
  takes_one : {words : List ℕ} (e : Event) (l : List Event) → v.events ≡ e ∷ l
      → Last octets v c (record { sender = with_events v l; lent = record { octets = octets; words = words }; frame = None; accepted = None; popped = Some (ending_of e) })

-- a sender that the clock and moves make of another
pub record Quietly (octets : List ℕ) (v w : View) : Type 0 where
  pub clock : Clock
  pub block : v.clock.last_block ≤ clock.last_block
  pub ms : v.clock.last_ms ≤ clock.last_ms
  pub made : Moves octets v.next_token (with_clock v clock) w

-- what a call leaves
pub record Leaves (octets : List ℕ) (v : View) (c : Call) (d : Done) : Type 0 where
  pub middle : View
  pub quietly : Quietly octets v middle
  pub last : Last octets middle c d

-- ---- what every call leaves is Sound

-- a move
pub move_kept : {octets : List ℕ} {first : ℕ} {v w : View} → Move octets first v w → Sound v → Sound w
move_kept {v = v} (drops s e) h =
    let Right : Option PreparedFrame → Type 0 = Selected v.transfers v.next_token in
    selected_kept v s (⊎_elim (λ q. subst Right (sym q) tt) (λ q. subst Right (sym q) h.selected) e) h
move_kept {v = v} (picks a b x p e r room q) h =
    let f = prepared_of x p v.next_token in
    let c : Chosen f x = record { generation = refl; ready = r; frame = refl; echo = refl; identity = refl } in
    selected_kept (token_taken v) (Some f) (subst (Any (Chosen f)) (sym e) (some_one a x b c), omega arith) (token_kept v h)
move_kept {v = v} (shifts a b c d x y e q k) h = placed_kept v a b c d x y q k (subst (λ l. Sound (with_transfers v l)) e h)
move_kept {v = v} (restarts a b x echo e old due room q) h = begun_kept v a x b (subst (λ l. Sound (with_transfers v l)) e h) q room
move_kept {v = v} (ends a b x how e old) h = ended-kept v a x b (event_of x how) (subst (λ l. Sound (with_transfers v l)) e h)

-- moves
pub moves-kept : {octets : List ℕ} {first : ℕ} {v w : View} → Moves octets first v w → Sound v → Sound w
moves-kept stays h = h
moves-kept (goes m k) h = moves-kept k (move_kept m h)

-- what comes last
last_kept : {octets : List ℕ} {v : View} {c : Call} {d : Done} → Last octets v c d → Sound v → Sound d.sender
last_kept silent h = h
last_kept (tells_one f e p) h = h
last_kept {v = v} (accepts_one r message g k long w) h = welcomed_kept v r message g w h
last_kept {v = v} (takes_one e l q) h = let n : length v.events ≡ suc (length l) = ap length q in events_kept v l (omega arith) h

-- so a call
pub leaves_kept : {octets : List ℕ} {v : View} {c : Call} {d : Done} → Leaves octets v c d → Sound v → Sound d.sender
leaves_kept {v = v} l h = let q = l.quietly in last_kept l.last (moves-kept q.made (clock_kept v q.clock.last_block q.clock.last_ms q.block q.ms h))

-- ---- one after the other

-- a call that writes to the lent memory: it goes on with what was let through, or refuses
pub out_cases : {A B : Type 0} (P : Out B → Type 0) (v : View) (m : Lent) (o : Outcome A) (f : A → Out B) → ((n : ℕ) → P (refusal n v m)) → ((a : A) → o ≡ gives a → P (f a)) → P (goes_on v m o f)
out_cases P v m (gives a) f h k = k a refl
out_cases P v m (refuses n) f h k = h n

-- what is let through has a store that is long enough
pub admitted_long : (v : View) (m : Lent) (block now : ℕ) {w : View} → admitted v m block now ≡ gives w → 32640 ≤ length m.octets
admitted_long v m block now e = ltb-false (length m.octets) 32640 (neither (ltb (length m.octets) 32640) (ltb (length m.words) 3456) (passed (short m) 16 _ e).0).0

module _ {octets : List ℕ} {first : ℕ} where
  -- moves and then more
  pub joins : {v u w : View} → Moves octets first v u → Moves octets first u w → Moves octets first v w
  joins stays k = k
  joins (goes m h) k = goes m (joins h k)

  -- one move
  one : {v w : View} → Move octets first v w → Moves octets first v w
  one m = goes m stays

module _ {octets : List ℕ} where
  -- at the clock as it stands
  at_once : {v w : View} → Moves octets v.next_token v w → Quietly octets v w
  at_once {v} k = record { clock = v.clock; block = omega arith; ms = omega arith; made = k }

  -- a call that does nothing last
  quiet : {words : List ℕ} {v w : View} {c : Call} → Quietly octets v w → Leaves octets v c (moves (record { octets = octets; words = words }) w)
  quiet {w = w} q = record { middle = w; quietly = q; last = silent }

-- ---- the walk

-- a transfer was there when the call began, or an `advance` at this clock leaves it as it is
abbrev Goes : (first : ℕ) → Clock → Bool × Transfer → Type 0
Goes first c p = (p.1.generation.0 < first) ⊎ (fate_of c p.0 p.1 ≡ Stays p.1)

module _ {octets : List ℕ} {first : ℕ} (v : View) (x : Transfer) (rest : List Transfer) where
  -- it goes on
  kept_move : (y : Transfer) → Keeps v y x → Move octets first (behind v (x ∷ rest)) (behind (kept v y) rest)
  kept_move y s =
      subst (λ l. Move octets first (behind v (x ∷ rest)) (with_transfers v l)) (sym (append_assoc v.transfers (y ∷ []) rest))
      (shifts v.transfers rest v.transfers rest x y refl refl (keeps_among (v.transfers ++ x ∷ rest) s))

  module _ (old : x.generation.0 < first) where
    -- it ends
    ends_move : (how : How) → Move octets first (behind v (x ∷ rest)) (behind (ended v x (event_of x how)) rest)
    ends_move how = ends v.transfers rest x how refl old

    -- it restarts, if an echo is free
    restart_move : overdue v.clock x ≡ false → v.next_token < stop → (o : Option ℕ) → free_echo v.echoes v.clock.last_ms ≡ o → Move octets first (behind v (x ∷ rest)) (behind (restart v x o) rest)
    restart_move due room None q = ends_move (fails EchoExhausted)
    restart_move due room (Some echo) q =
        subst (λ l. Move octets first (behind v (x ∷ rest)) (with_transfers (restart v x (Some echo)) l)) (sym (append_assoc v.transfers (begun x.parcel echo v.next_token ∷ []) rest))
        (restarts v.transfers rest x echo refl old due room q)

    -- whatever becomes of it
    old_move : (asked : Bool) → v.next_token < stop → Move octets first (behind v (x ∷ rest)) (behind (step v (asked, x)) rest)
    unfolding step
    old_move asked room =
        fate_cases (λ f. Move octets first (behind v (x ∷ rest)) (behind (landed v x f) rest)) v.clock asked x (ends_move expires) (λ o. ends_move completes)
        (λ o. restart_move o room (free_echo v.echoes v.clock.last_ms) refl) (λ o d r. kept_move (settle_of v.clock.last_block x) (settled_keeps v x))

  -- or it is left as it is
  step_move : (asked : Bool) → v.next_token < stop → Goes first v.clock (asked, x) → Move octets first (behind v (x ∷ rest)) (behind (step v (asked, x)) rest)
  unfolding step
  step_move asked room g =
      ⊎_elim (λ o. old_move o asked room)
      (λ q. subst (λ f. Move octets first (behind v (x ∷ rest)) (behind (landed v x f) rest)) (sym q) (kept_move x (self_keeps v x))) g

-- each transfer of a list, whichever restarts are asked for
pub each_of : {P : Transfer → Type 0} (l : List (Bool × Transfer)) → All P (transfers_of l) → All (λ p. P p.1) l
each_of [] h = all_none
each_of (p ∷ l) h = all_more (all_head h) (each_of l (all_tail h))

-- and if none is
none_asked : {P : Bool × Transfer → Type 0} {l : List Transfer} → All (λ x. P (false, x)) l → All P (unasked l)
none_asked all_none = all_none
none_asked (all_more p h) = all_more p (none_asked h)

-- ---- what begins in a walk

-- it was there when the call began, or its Begin did not go out
abbrev Late : (first : ℕ) → Transfer → Type 0
Late first x = (x.generation.0 < first) ⊎ (has (went_out x) 0 ≡ false)

-- one step
step_late : (first : ℕ) (v : View) (asked : Bool) (x : Transfer) → x.generation.0 < first → All (Late first) v.transfers → All (Late first) (step v (asked, x)).transfers
unfolding step
step_late first v asked x old h =
    let b = v.clock.last_block in
    fate_cases (λ f. All (Late first) (landed v x f).transfers) v.clock asked x h (λ o. h) (λ o. again (free_echo v.echoes v.clock.last_ms))
    (λ o d r. all_back v.transfers (settle_of b x) (inl (subst (λ (g : Generation). g.0 < first) (sym (settled_parcel b x).1) old)) h)
  where
    again : (o : Option ℕ) → All (Late first) (restart v x o).transfers
    again None = h
    again (Some echo) = all_back v.transfers (begun x.parcel echo v.next_token) (inr refl) h

-- all of them
steps_late : (first : ℕ) (l : List (Bool × Transfer)) (v : View) → All (λ p. p.1.generation.0 < first) l → All (Late first) v.transfers → All (Late first) (foldl step v l).transfers
steps_late first [] v a h = h
steps_late first (p ∷ l) v a h = steps_late first l (step v p) (all_tail a) (step_late first v p.0 p.1 (all_head a) h)

-- the live transfers of a Sound sender were there
pub old : (v : View) → Sound v → All (λ x. x.generation.0 < v.next_token) v.transfers
old v h = all_map (λ x k. k.generation) h.transfers

-- `advance`
walked_late : (v : View) → Sound v → All (Late v.next_token) (walked v).transfers
unfolding walked walk
walked_late v h = steps_late v.next_token (unasked v.transfers) (with_transfers v []) (none_asked (old v h)) all_none

-- the clock is as it was, and each transfer rests
walked_rest : (v : View) → Sound v → All (Rests (walked v).clock) (walked v).transfers
walked_rest v h = subst (λ c. All (Rests c) (walked v).transfers) (sym (walked_near v h).clock) (walked_rests v h)

-- a selected frame of another echo is dropped
pub only-echo : (echo : ℕ) (s : Option PreparedFrame) → (only_echo echo s ≡ None) ⊎ (only_echo echo s ≡ s)
only-echo echo None = inl refl
only-echo echo (Some f) = cond_cases {X = Option PreparedFrame} (λ t. (t ≡ None) ⊎ (t ≡ Some f)) (eqb f.partial_echo echo) (Some f) None (λ e. inr refl) (λ e. inl refl)

-- another stands at a place, and each of the others as it stood
all_put : {P : Transfer → Type 0} (v : View) (place : ℕ) (y : Transfer) → place < length v.transfers → P y → All P v.transfers → All P (put_at v place y).transfers
all_put {P} v place y lt p h = subst (All P) (sym (set_split v.transfers place y lt)) (all_in (take place v.transfers) y (drop (suc place) v.transfers) p (all_removed v.transfers place blank_transfer lt h))

-- a frame that is outstanding is one of the transfer's
pub outstanding_frame : (t : FrameToken) (words : List ℕ) (x : Transfer) → is_outstanding t words x ≡ true → t.frame < x.parcel.frames
outstanding_frame t words x e =
    ltb-true t.frame x.parcel.frames (both (ltb t.frame x.parcel.frames) (has x.sets.in_flight t.frame && eqb (get_or words (word_of x t.frame) 0) t.submission.0) e).0

module _ {octets : List ℕ} {first : ℕ} where
  -- all steps, one after the other
  steps_moves : (l : List (Bool × Transfer)) (v : View) → v.next_token + length l ≤ stop → All (Goes first v.clock) l → Moves octets first (behind v (transfers_of l)) (foldl step v l)
  steps_moves [] v room a = subst (λ l. Moves octets first (with_transfers v l) v) (sym (append-nil v.transfers)) stays
  steps_moves (p ∷ l) v room a =
      let n = (step_near v p).tokens in
      goes (step_move v p.1 (transfers_of l) p.0 (omega arith) (all_head a)) (steps_moves l (step v p) (omega arith) (subst (λ c. All (Goes first c) l) (sym (step_near v p).clock) (all_tail a)))

  -- whichever restarts are asked for, while a token is left for each transfer
  pub walk-moves : (v : View) (l : List (Bool × Transfer)) → transfers_of l ≡ v.transfers → v.next_token + length v.transfers ≤ stop → All (Goes first v.clock) l → Moves octets first v (walk v l)
  unfolding walk
  walk-moves v l e room a =
      let n : length l ≡ length v.transfers = sym (long l) ∙ ap length e in
      subst (λ t. Moves octets first (with_transfers v t) (foldl step (with_transfers v []) l)) e (steps_moves l (with_transfers v []) (omega arith) a)

  -- `advance`
  walked-moves : (v : View) → v.next_token + length v.transfers ≤ stop → All (λ x. Goes first v.clock (false, x)) v.transfers → Moves octets first v (walked v)
  unfolding walked
  walked-moves v room a = walk-moves v (unasked v.transfers) (unasked_all v.transfers) room (none_asked a)

  -- ---- the other changes

  -- the transfer at a place is another, at its place, the front or the back
  module _ (v : View) (place : ℕ) (y : Transfer) (lt : place < length v.transfers) (s : Keeps v y (get_or v.transfers place blank_transfer)) where
    shift : (c d : List Transfer) → c ++ d ≡ remove_at place v.transfers → Move octets first v (with_transfers v (c ++ y ∷ d))
    shift c d e = shifts (take place v.transfers) (drop (suc place) v.transfers) c d (get_or v.transfers place blank_transfer) y (split_at v.transfers place blank_transfer lt) e s

    pub put_move : Move octets first v (put_at v place y)
    put_move = subst (λ l. Move octets first v (with_transfers v l)) (sym (set_split v.transfers place y lt)) (shift (take place v.transfers) (drop (suc place) v.transfers) refl)

    pub front_move : Move octets first v (with_transfers v (y ∷ remove_at place v.transfers))
    front_move = shift [] (remove_at place v.transfers) refl

    pub back_move : Move octets first v (with_transfers v (push_back (remove_at place v.transfers) y))
    back_move = shift (remove_at place v.transfers) [] (append-nil (remove_at place v.transfers))

  -- each is changed so, behind those that are done
  pub map-moves : (f : Transfer → Transfer) (v : View) → ((x : Transfer) → Keeps v (f x) x) → (done l : List Transfer) → Moves octets first (with_transfers v (done ++ l)) (with_transfers v (done ++ map f l))
  map-moves f v s done [] = stays
  map-moves f v s done (x ∷ l) =
      goes (shifts done l done l x (f x) refl refl (keeps_among (done ++ x ∷ l) (s x)))
      (subst (λ t. Moves octets first (with_transfers v t) (with_transfers v (done ++ f x ∷ map f l))) (append_assoc done (f x ∷ []) l)
      (subst (λ t. Moves octets first (with_transfers v ((done ++ f x ∷ []) ++ l)) (with_transfers v t)) (append_assoc done (f x ∷ []) (map f l)) (map-moves f v s (done ++ f x ∷ []) l)))

  -- the transfer at a place is Cancelled
  cancel_move : (v : View) (place : ℕ) → place < length v.transfers → All (λ x. x.generation.0 < first) v.transfers → Move octets first v (cancel_at v place (get_or v.transfers place blank_transfer))
  cancel_move v place lt a =
      let x = get_or v.transfers place blank_transfer in
      ends (take place v.transfers) (drop (suc place) v.transfers) x cancels (split_at v.transfers place blank_transfer lt) (all-at v.transfers place blank_transfer lt a)

  -- all are, and nothing is selected any more
  pub all_moves : (l : List Transfer) (v : View) → All (λ x. x.generation.0 < first) l → Moves octets first (with_transfers v l) (with_selected (with_transfers (with_events v (v.events ++ map (λ x. event_of x cancels) l)) []) None)
  all_moves [] v a = subst (λ e. Moves octets first (with_transfers v []) (with_selected (with_transfers (with_events v e) []) None)) (sym (append-nil v.events)) (one (drops None (inl refl)))
  all_moves (x ∷ l) v a =
      let e = event_of x cancels in
      goes (ends [] l x cancels refl (all_head a))
      (subst (λ t. Moves octets first (with_transfers (ended v x e) l) (with_selected (with_transfers (with_events v t) []) None)) (append_assoc v.events (e ∷ []) (map (λ x. event_of x cancels) l))
      (all_moves l (ended v x e) (all_tail a)))

  -- a frame is selected, or refused
  selects-moves : (v : View) (a b : List Transfer) (x : Transfer) → v.transfers ≡ a ++ x ∷ b → is_ready x ≡ true → v.next_token < stop → (o : Outcome PackedFrame) → front_of x octets ≡ o → Moves octets first v (selects v x o).state
  selects-moves v a b x e r room (gives p) q = one (picks a b x p e r room q)
  selects-moves v a b x e r room (refuses n) q = stays

  -- the selected frame, or the front of the first transfer that has one queued
  choose_from_moves : (v : View) (s : Option PreparedFrame) → v.next_token < stop → Moves octets first v (choose_from v octets s).state
  choose_from_moves v (Some f) room = stays
  choose_from_moves v None room =
      seek_cases {X = After (Option PreparedFrame) View} (λ a. Moves octets first v a.state) is_ready v.transfers (says None v) (λ place x. selects v x (front_of x octets)) (λ n. stays)
      (λ i lt t. let x = get_or v.transfers i blank_transfer in selects-moves v (take i v.transfers) (drop (suc i) v.transfers) x (split_at v.transfers i blank_transfer lt) t room (front_of x octets) refl)

  -- what `prepare` does after its `advance`
  pub choose-moves : (v : View) → v.next_token < stop → Moves octets first v (choose v octets).state
  unfolding choose
  choose-moves v room = choose_from_moves v v.selected room

  -- what `prepare_prioritized` does after its `advance`
  prioritize_moves : (v : View) (echo : ℕ) → v.next_token < stop → Moves octets first v (prioritize_at v octets echo).state
  prioritize_moves v echo room =
      prioritize_cases (λ a. Moves octets first v a.state) v octets echo stays
      (λ i lt. let x = get_or v.transfers i blank_transfer in
      let u = with_transfers v (repeated x ∷ remove_at i v.transfers) in
      let w = with_selected u (only_echo echo v.selected) in
      let k : Moves octets first v w = goes (front_move v i (repeated x) lt (repeated_keeps v x)) (one (drops (only_echo echo v.selected) (only-echo echo v.selected))) in
      (joins k (choose-moves w room), k))

  -- what `transmitted` does at the moved clock
  confirm_moves : (v : View) (words : List ℕ) (t : FrameToken) → v.next_token + length v.transfers ≤ stop → All (λ x. x.generation.0 < first) v.transfers → Moves octets first v (transmitted_at v words t).state
  confirm_moves v words t room a =
      confirm_cases (Moves octets first v) v words t stays
      (λ i lt e. let x = get_or v.transfers i blank_transfer in
      let y = confirm_frame t.frame x in
      let n : length (set v.transfers i y) ≡ length v.transfers = length-set v.transfers i y in
      goes (put_move v i y lt (confirmed_keeps v x t.frame (outstanding_frame t words x e)))
      (walked-moves (put_at v i y) (omega arith) (all_put v i y lt (inl (all-at v.transfers i blank_transfer lt a)) (all_map (λ x o. inl o) a))))

  -- what `status` does after its first `advance`: what began in that is not observed, and what rests stays in the second
  shows_moves : (v : View) (s : ArqStatus) → v.next_token + length v.transfers ≤ stop → All (Late first) v.transfers → All (Rests v.clock) v.transfers → Moves octets first v (status_at v s).state
  shows_moves v s room a r =
      status_cases (Moves octets first v) v s stays
      (λ i lt e. let x = get_or v.transfers i blank_transfer in
      let y = observes s.received_frames v.clock.last_block x in
      let n : length (set v.transfers i y) ≡ length v.transfers = length-set v.transfers i y in
      goes (put_move v i y lt (observed_keeps v x s.received_frames e))
      (walked-moves (put_at v i y) (omega arith) (all_put v i y lt (⊎_elim (λ o. inl o) (λ k. let z : ◌≡◌ {A = ℕ} 0 1 = cc in absurd (omega arith)) (all-at v.transfers i blank_transfer lt a)) (all_map (λ x k. inr (rests_stays v.clock x k)) r))))

  -- the first that passes is Cancelled
  cancel_first_moves : (p : Transfer → Bool) (v : View) → All (λ x. x.generation.0 < first) v.transfers → Moves octets first v (cancel_first p v).state
  cancel_first_moves p v a =
      seek_cases {X = After Bool View} (λ z. Moves octets first v z.state) p v.transfers (says false v) (λ place x. says true (cancel_at v place x)) (λ n. stays) (λ i lt t. one (cancel_move v i lt a))

  -- whether a frame is selected or not
  pub oldest_first_moves : (v : View) (s : Option PreparedFrame) → Moves octets first v (oldest_first v s)
  oldest_first_moves v None =
      let place = oldest v.clock.last_block v.transfers in
      let l = v.transfers in
      cond_cases {X = List Transfer} (λ t. Moves octets first v (with_transfers v t)) (ltb place (length l)) (get_or l place blank_transfer ∷ remove_at place l) l
      (λ e. one (front_move v place (get_or l place blank_transfer) (ltb-true place (length l) e) (self_keeps v (get_or l place blank_transfer)))) (λ e. stays)
  oldest_first_moves v (Some f) = stays

  -- both halves of `refresh_waiting`
  refresh_moves : (v : View) → Moves octets first v (serve_oldest (queue_waiting v))
  unfolding queue_waiting serve_oldest
  refresh_moves v =
      let block = v.clock.last_block in
      joins (map-moves (refreshed block) v (refreshed_keeps v) [] v.transfers) (oldest_first_moves (with_transfers v (map (refreshed block) v.transfers)) v.selected)

-- ---- the clock

-- it goes on, and then moves
ticked_quietly : {octets : List ℕ} (v : View) (block now : ℕ) {w u : View} → ticked v block now ≡ gives w → Moves octets w.next_token w u → Quietly octets v u
ticked_quietly {octets} v block now {w} {u} e k =
    let t = ticked_gives v block now e in
    record { clock = record { last_block = block; last_ms = now }; block = t.1; ms = t.2; made = subst (λ x. Moves octets x.next_token x u) t.0 k }

-- a refusal leaves the sender, else it goes on at the moved clock, with 512 tokens left
admitted_quietly : {octets : List ℕ} {A : Type 0} (v : View) (m : Lent) (block now : ℕ) (f : View → After A View) → Sound v → ((w : View) → Sound w → 512 + w.next_token ≤ stop → Moves octets w.next_token w (f w).state) → Quietly octets v (onward v (admitted v m block now) f).state
admitted_quietly {octets} v m block now f s k =
    onward_cases (Quietly octets v) v (admitted v m block now) f (at_once stays)
    (λ w e. ticked_quietly v block now (admitted_gives v m block now e).1 (k w (admitted-kept v m block now e s) (admitted_tokens v m block now e)))

-- a token is left for each transfer
pub room-each : (w : View) → Sound w → 128 + w.next_token ≤ stop → w.next_token + length w.transfers ≤ stop
room-each w s room = let a = s.live in let b = s.most_capacity in omega arith

-- `advance` at the moved clock
sound_walked : {octets : List ℕ} (w : View) → Sound w → 128 + w.next_token ≤ stop → Moves octets w.next_token w (walked w)
sound_walked w s room = walked-moves w (room-each w s room) (all_map (λ x o. inl o) (old w s))

-- it leaves a Sound sender
pub walked-kept : (w : View) → 128 + w.next_token ≤ stop → Sound w → Sound (walked w)
walked-kept w room s = moves-kept (sound_walked {octets = []} w s room) s

-- and takes 128 tokens at most
walked-room : (w : View) → Sound w → 512 + w.next_token ≤ stop → 384 + (walked w).next_token ≤ stop
walked-room w s room = let n = (walked_near w s).tokens in omega arith

-- ---- the calls

-- a request that passes: another may be replaced, and then it is accepted
accepts_leaves : (v : View) (m : Lent) (r : Request) (message : List ℕ) (g : Grant) (block now : ℕ) {w : View} → admitted v m block now ≡ gives w → Passes w r message g → Sound w
    → Leaves m.octets v (Enqueue r message block now) (enqueues r message (accepts w m r message g))
unfolding accepts
accepts_leaves v m r message g block now {w} e p s =
    let t = w.next_token in
    let room = admitted_tokens v m block now e in
    let low : t < stop = omega arith in
    let long = admitted_long v m block now e in
    let k = (admitted_gives v m block now e).1 in
    let u = with_echoes w (hold w.echoes g.echo (held_until w.limits r.deadline_ms)) in
    seek_cases {X = View}
    (λ x. Leaves m.octets v (Enqueue r message block now) (record {
      sender = kept (token_taken x) (begun (parcel_of r message g.frames (lowest_n x.transfers) t) g.echo t);
      lent = record { octets = stored m.octets (lowest_n x.transfers) message; words = m.words };
      frame = None;
      accepted = Some (record { token = record { 0 = t }; request = r; message = message });
      popped = None;
    }))
    (addressed r.identity) w.transfers u (cancel_at u)
    (λ n. record { middle = w; quietly = ticked_quietly v block now k stays; last = accepts_one r message g refl long (welcomes w r message g p low s n) })
    (λ i lt z. record { middle = cancel_at w i (get_or w.transfers i blank_transfer); quietly = ticked_quietly v block now k (one (cancel_move w i lt (old w s))); last = accepts_one r message g refl long (welcomes_instead w r message g p low s i lt z) })

-- `enqueue`
enqueue_leaves : (v : View) (m : Lent) (r : Request) (message : List ℕ) (block now : ℕ) → Sound v → Leaves m.octets v (Enqueue r message block now) (enqueues r message (enqueue_of v m r message block now))
unfolding enqueue_of
enqueue_leaves v m r message block now s =
    out_cases P v m (admitted v m block now) (λ w. goes_on w m (grant_of w r message) (accepts w m r message)) (λ k. quiet (at_once stays))
    (λ w e. out_cases P w m (grant_of w r message) (accepts w m r message) (λ k. quiet (ticked_quietly v block now (admitted_gives v m block now e).1 stays)) (λ g q. accepts_leaves v m r message g block now e (grant_passes w r message q) (admitted-kept v m block now e s)))
  where
    P : Out TransferToken → Type 0
    P o = Leaves m.octets v (Enqueue r message block now) (enqueues r message o)

-- `submitted`
submitted_leaves : (v : View) (m : Lent) (t : FrameToken) (block now : ℕ) → Leaves m.octets v (Submitted t block now) (writes (submitted_of v m t block now))
unfolding submitted_of
submitted_leaves v m t block now =
    out_cases P v m (refuse (short m) 16 (ticked v block now)) (λ w. submitted_at w m t) (λ k. quiet (at_once stays))
    (λ w e. let k = (passed (short m) 16 (ticked v block now) e).1 in
    submit_cases P w m t (quiet (ticked_quietly v block now k stays))
    (λ i lt q. quiet (ticked_quietly v block now k (goes (drops None (inl refl)) (let u = with_selected w None in let x = get_or w.transfers i blank_transfer in one (back_move u i (in_flight_lem t.frame w.clock.last_block x) lt (in_flight_keeps u x t.frame refl q)))))))
  where
    P : Out Unit → Type 0
    P o = Leaves m.octets v (Submitted t block now) (writes o)

-- whether an event waits or not
pop_from_leaves : (v : View) (m : Lent) (l : List Event) → v.events ≡ l → Leaves m.octets v PopEvent (pops m (pop_from v l))
pop_from_leaves v m [] e = quiet (at_once stays)
pop_from_leaves v m (x ∷ l) e = record { middle = v; quietly = at_once stays; last = takes_one x l e }

-- ---- the calls that tell a frame

-- a transfer that is not overdue is another of the same parcel, not overdue either
same_prompt : (c : Clock) (y x : Transfer) → y.parcel ≡ x.parcel → overdue c x ≡ false → overdue c y ≡ false
same_prompt c y x p e = ap (λ (q : Parcel). leb q.deadline_ms c.last_ms) p ∙ e

-- a move makes none overdue
move_prompt : {octets : List ℕ} {first : ℕ} {v w : View} → Move octets first v w → Prompt v → Prompt w
move_prompt (drops s e) h = h
move_prompt (picks a b x p e r room q) h = h
move_prompt {v = v} (shifts a b c d x y e q s) h =
    let t = subst (All (λ z. overdue v.clock z ≡ false)) e h in
    all_in c y d (same_prompt v.clock y x s.same.0 (all_one a x b t)) (subst (All (λ z. overdue v.clock z ≡ false)) (sym q) (all_rest a x b t))
move_prompt {v = v} (restarts a b x echo e old due room q) h = all_in a (begun x.parcel echo v.next_token) b due (all_rest a x b (subst (All (λ z. overdue v.clock z ≡ false)) e h))
move_prompt {v = v} (ends a b x how q old) h = all_rest a x b (subst (All (λ z. overdue v.clock z ≡ false)) q h)

-- nor do several
moves_prompt : {octets : List ℕ} {first : ℕ} {v w : View} → Moves octets first v w → Prompt v → Prompt w
moves_prompt stays h = h
moves_prompt (goes m k) h = moves_prompt k (move_prompt m h)

-- `advance` leaves none
walked_prompt : (v : View) → Sound v → Prompt (walked v)
walked_prompt v h = all_map (λ x r. r.in_time) (walked_rest v h)

-- the frame of an answer is selected
abbrev Shown : After (Option PreparedFrame) View → Type 0
Shown a = (f : PreparedFrame) → frame_in a.outcome ≡ Some f → a.state.selected ≡ Some f

-- none is told
unsaid : (v : View) → Shown (says None v)
unsaid v f e = cc

-- a frame is selected, or refused
selects-shown : (v : View) (x : Transfer) (o : Outcome PackedFrame) → Shown (selects v x o)
selects-shown v x (gives p) f r = r
selects-shown v x (refuses n) f r = cc

-- the selected frame, or the front of the first transfer that has one queued
choose_from_shown : (v : View) (octets : List ℕ) (s : Option PreparedFrame) → v.selected ≡ s → Shown (choose_from v octets s)
choose_from_shown v octets (Some f) e = λ g r. e ∙ r
choose_from_shown v octets None e =
    seek_cases {X = After (Option PreparedFrame) View} Shown is_ready v.transfers (says None v) (λ place x. selects v x (front_of x octets)) (λ n. unsaid v)
    (λ i lt t. let x = get_or v.transfers i blank_transfer in selects-shown v x (front_of x octets))

-- what `prepare` does after its `advance`
choose-shown : (v : View) (octets : List ℕ) → Shown (choose v octets)
unfolding choose
choose-shown v octets = choose_from_shown v octets v.selected refl

-- what `prepare_prioritized` does after its `advance`
prioritize_shown : (v : View) (octets : List ℕ) (echo : ℕ) → Shown (prioritize_at v octets echo)
prioritize_shown v octets echo =
    prioritize_cases Shown v octets echo (unsaid v)
    (λ i lt. let w = with_selected (with_transfers v (repeated (get_or v.transfers i blank_transfer) ∷ remove_at i v.transfers)) (only_echo echo v.selected) in
    (choose-shown w octets, unsaid w))

-- after `advance` moves, and then a frame is told or none
told_leaves : (v : View) (m : Lent) (c : Call) (block now : ℕ) (f : View → After (Option PreparedFrame) View) → Sound v → ((first : ℕ) (w : View) → w.next_token < stop → Moves m.octets first w (f w).state) → ((w : View) → Shown (f w))
    → Leaves m.octets v c (prepares m (onward v (admitted v m block now) (λ w. f (walked w))))
told_leaves v m c block now f s k shown = go (admitted v m block now) refl
  where
    last : (w : View) → Sound w → (walked w).next_token < stop → (o : Option PreparedFrame) → ((g : PreparedFrame) → o ≡ Some g → (f (walked w)).state.selected ≡ Some g)
        → Last m.octets (f (walked w)).state c (record { sender = (f (walked w)).state; lent = m; frame = o; accepted = None; popped = None })
    last w h room None q = silent
    last w h room (Some g) q = tells_one g (q g refl) (moves_prompt (k 0 (walked w) room) (walked_prompt w h))

    go : (o : Outcome View) → admitted v m block now ≡ o → Leaves m.octets v c (prepares m (onward v o (λ w. f (walked w))))
    go (gives w) e =
        let h = admitted-kept v m block now e s in
        let n = admitted_tokens v m block now e in
        let t = walked-room w h n in
        let room : (walked w).next_token < stop = omega arith in
        record {
          middle = (f (walked w)).state;
          quietly = ticked_quietly v block now (admitted_gives v m block now e).1 (joins (sound_walked w h (omega arith)) (k w.next_token (walked w) room));
          last = last w h room (frame_in (f (walked w)).outcome) (shown (walked w));
        }
    go (refuses n) e = quiet (at_once stays)

-- ---- each call

-- what it leaves
pub does_leaves : (v : View) (m : Lent) (c : Call) → Sound v → Leaves m.octets v c (does v m c)
unfolding advance_of prepare_of interrupt_of prepare_prioritized_of transmitted_of status_of cancel_of cancel_transaction_of cancel_all_of refresh_waiting_of pop_event_of
does_leaves v m (Enqueue r message block now) s = enqueue_leaves v m r message block now s
does_leaves v m (Advance block now) s = quiet (admitted_quietly {A = Unit} v m block now (λ w. says tt (walked w)) s (λ w k n. sound_walked w k (omega arith)))
does_leaves v m (Prepare block now) s = told_leaves v m (Prepare block now) block now (λ w. choose w m.octets) s (λ first w. choose-moves w) (λ w. choose-shown w m.octets)
does_leaves v m (Interrupt echo block now) s =
    quiet (admitted_quietly v m block now (λ w. interrupted w echo) s
    (λ w k n. let l = asked_for echo w.transfers in
    let e = asked_for_all echo w.transfers in
    cond_cases {X = After Bool View} (λ a. Moves m.octets w.next_token w a.state) (has_echo_of w echo) (says true (walk w l)) (says false w)
    (λ t. walk-moves w l e (room-each w k (omega arith)) (all_map (λ p o. inl o) (each_of l (subst (All (λ x. x.generation.0 < w.next_token)) (sym e) (old w k))))) (λ t. stays)))
does_leaves v m (PreparePrioritized echo block now) s = told_leaves v m (PreparePrioritized echo block now) block now (λ w. prioritize_at w m.octets echo) s (λ first w. prioritize_moves w echo) (λ w. prioritize_shown w m.octets echo)
does_leaves v m (Submitted t block now) s = submitted_leaves v m t block now
does_leaves v m (Transmitted t block now) s = quiet (admitted_quietly v m block now (λ w. transmitted_at w m.words t) s (λ w k n. confirm_moves w m.words t (room-each w k (omega arith)) (old w k)))
does_leaves v m (Status q block now) s = quiet (admitted_quietly v m block now (λ w. status_at (walked w) q) s (λ w k n. let t = walked-room w k n in joins (sound_walked w k (omega arith)) (shows_moves (walked w) q (room-each (walked w) (walked-kept w (omega arith) k) (omega arith)) (walked_late w k) (walked_rest w k))))
does_leaves v m (Cancel i) s = quiet (at_once (cancel_first_moves (addressed i) v (old v s)))
does_leaves v m (CancelTransaction t) s = quiet (at_once (cancel_first_moves (owned_by t) v (old v s)))
does_leaves v m CancelAll s = quiet (at_once (all_moves v.transfers v (old v s)))
does_leaves v m (RefreshWaiting block now) s = quiet (admitted_quietly {A = Unit} v m block now (λ w. says tt (serve_oldest (queue_waiting (walked w)))) s (λ w k n. joins (sound_walked w k (omega arith)) (refresh_moves (walked w))))
does_leaves v m PopEvent s = pop_from_leaves v m v.events refl

-- ---- what is done last

-- a frame that a call tells is the selected one, no transfer is overdue then, and nothing else is done last
pub last-told : {octets : List ℕ} {v : View} {c : Call} {d : Done} (f : PreparedFrame) → Last octets v c d → d.frame ≡ Some f → (v ≡ d.sender) × (d.sender.selected ≡ Some f) × Prompt d.sender
last-told f silent q = cc
last-told f (tells_one g e p) q = (refl, e ∙ q, p)
last-told f (accepts_one r message g k long w) q = cc
last-told f (takes_one e l p) q = cc

-- a part of an acceptance, or another where there is none
abbrev pub within : {A : Type 0} → (Acceptance → A) → A → Option Acceptance → A
within f d None = d
within f d (Some o) = f o

-- what a call accepts is what `enqueue` was given, under the next token
pub last_accepted : {octets : List ℕ} {v : View} {c : Call} {d : Done} (o : Acceptance) → Last octets v c d → d.accepted ≡ Some o
    → (block : ℕ) × (now : ℕ) × (c ≡ Enqueue o.request o.message block now) × (v.next_token ≡ o.token.0) × (d.sender.next_token ≡ number_after v.next_token) × (v.next_token < stop)
last_accepted o silent q = cc
last_accepted o (tells_one f e p) q = cc
last_accepted o (accepts_one {block = block} {now = now} r message g k long w) q =
    (block, now, rw (← ap (within (λ o. o.request) r) q, ← ap (within (λ o. o.message) message) q) k, ap (within (λ o. o.token.0) 0) q, refl, w.counter)
last_accepted o (takes_one e l f) q = cc
