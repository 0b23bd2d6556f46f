-- What parts of calls keep of `Sound`, for the code; and what `advance` never says. Assumes nothing.
use Rattle.std.proofs.Common.{◌≡◌, ℕ, suc, ◌+◌, ◌<◌, ◌≤◌, Bool, true, false, ◌||◌, ltb, ◌≢◌, ◌⊎◌, ◌↔◌, List, [], ◌∷◌, length, get_or, Some, None, Option, sym, refl, ap, ◌∙◌, subst, inl, inr, ⊎_elim, arith}
use Rattle.token.specs.Token.{stop, fewer_than}
use Rattle.spach.specs.Refusal.{Outcome, gives, refuses, refuse, onward}
use Rattle.transfer.specs.declared.Error.TheVariants.{EchoExhausted}
use Rattle.transfer.specs.declared.Event.TheVariants.{Failed}
use Rattle.transfer.specs.declared.Fate.TheVariants.{Restarts}
use Rattle.transfer.specs.declared.FrameToken.{FrameToken}
use Rattle.transfer.specs.declared.Request.{Request}
use Rattle.transfer.specs.declared.Transfer.{Transfer}
use Rattle.transfer.specs.Lists.{remove_at, push_back}
use Rattle.transfer.specs.Queue.{has}
use Rattle.transfer.specs.State.{View, Lent, with_clock, with_transfers, with_echoes, with_selected, token_taken, short, admitted, says, blank_transfer, put_at, ended, cancel_at}
use Rattle.transfer.specs.Echo.{free_echo, held_until, hold}
use Rattle.transfer.specs.Transfer.{went_out, begun}
use Rattle.transfer.specs.Advance.{kept, restart, landed, walk, walked, advance_of}
use Rattle.transfer.specs.Cancel.{cancel_all_of}
use Rattle.transfer.specs.Enqueue.{Grant, addressed, grant_of, replaced, lowest_n, parcel_of, accepts}
use Rattle.transfer.specs.Prepare.{repeated, only_echo, choose}
use Rattle.transfer.specs.Refresh.{refreshed, queue_waiting, serve_oldest}
use Rattle.transfer.specs.Submitted.{in_flight_lem, confirm_frame, submitted_at}
use Rattle.transfer.specs.Status.{observes}
use Rattle.transfer.specs.Invariant.{All, Sound}
use Rattle.transfer.proofs.Listed.{all_map, length_back}
use Rattle.transfer.proofs.EchoSearch.{none_free}
use Rattle.transfer.proofs.Invariant.{Keeps, repeated_keeps, refreshed_keeps, confirmed_keeps, observed_keeps, in_flight_keeps, cancel_kept, welcomes, welcomes_instead, welcomed_kept, seek_cases, submit_cases, grant_passes, admitted-kept, admitted_tokens}
use Rattle.transfer.proofs.Walked.{transfers_of}
use Rattle.transfer.proofs.Moves.{drops, move_kept, moves-kept, each_of, only-echo, old, walk-moves, put_move, front_move, back_move, map-moves, all_moves, choose-moves, oldest_first_moves, room-each, walked-kept}

-- ---- parts of calls that keep `Sound`

-- a sender that is let through and walked
pub admitted-walked-kept : (v : View) (m : Lent) (block now : ℕ) {w : View} → admitted v m block now ≡ gives w → Sound v → Sound (walked w)
admitted-walked-kept v m block now {w} e h = let n = admitted_tokens v m block now e in walked-kept w (omega arith) (admitted-kept v m block now e h)

-- the transfer at a place goes to the front, its last frame queued again where it is to be, and a selected frame of another echo is dropped
pub prioritized-kept : (v : View) (place echo : ℕ) (x : Transfer) → place < length v.transfers → x ≡ get_or v.transfers place blank_transfer
    → Sound v → Sound (with_selected (with_transfers v (repeated x ∷ remove_at place v.transfers)) (only_echo echo v.selected))
prioritized-kept v place echo x lt e h =
    move_kept {octets = []} {first = 0} (drops (only_echo echo v.selected) (only-echo echo v.selected))
    (move_kept (front_move {octets = []} {first = 0} v place (repeated x) lt (subst (Keeps v (repeated x)) e (repeated_keeps v x))) h)

-- a frame of the transfer at a place is confirmed
pub put-confirmed-kept : (v : View) (place frame : ℕ) (x : Transfer) → place < length v.transfers → x ≡ get_or v.transfers place blank_transfer → frame < x.parcel.frames → Sound v → Sound (put_at v place (confirm_frame frame x))
put-confirmed-kept v place frame x lt e low h = let y = confirm_frame frame x in move_kept (put_move {octets = []} {first = 0} v place y lt (subst (Keeps v y) e (confirmed_keeps v x frame low))) h

-- the transfer at a place, whose Begin went out, observes a map
pub put-observed-kept : (v : View) (place map : ℕ) (x : Transfer) → place < length v.transfers → x ≡ get_or v.transfers place blank_transfer → has (went_out x) 0 ≡ true → Sound v → Sound (put_at v place (observes map v.clock.last_block x))
put-observed-kept v place map x lt e begun h = let y = observes map v.clock.last_block x in move_kept (put_move {octets = []} {first = 0} v place y lt (subst (Keeps v y) e (observed_keeps v x map begun))) h

-- a walk, whichever restarts are asked for, while a token is left for each transfer
pub walk-kept : (v : View) (l : List (Bool × Transfer)) → transfers_of l ≡ v.transfers → 128 + v.next_token ≤ stop → Sound v → Sound (walk v l)
walk-kept v l e room h = moves-kept (walk-moves {octets = []} v l e (room-each v h room) (all_map (λ p o. inl o) (each_of l (subst (All (λ x. x.generation.0 < v.next_token)) (sym e) (old v h))))) h

-- what `prepare` does after its `advance`
pub choose-kept : (v : View) (octets : List ℕ) → v.next_token < stop → Sound v → Sound (choose v octets).state
choose-kept v octets room h = moves-kept (choose-moves {octets = octets} {first = 0} v room) h

-- both halves of `refresh_waiting`
pub queue_waiting-kept : (v : View) → Sound v → Sound (queue_waiting v)
unfolding queue_waiting
queue_waiting-kept v h = let block = v.clock.last_block in moves-kept (map-moves {octets = []} {first = 0} (refreshed block) v (refreshed_keeps v) [] v.transfers) h

pub serve_oldest-kept : (v : View) → Sound v → Sound (serve_oldest v)
unfolding serve_oldest
serve_oldest-kept v h = moves-kept (oldest_first_moves {octets = []} {first = 0} v v.selected) h

-- all are Cancelled
pub cancel_all-kept : (v : View) → Sound v → Sound (cancel_all_of v)
unfolding cancel_all_of
cancel_all-kept v h = moves-kept (all_moves {octets = []} v.transfers v (old v h)) h

-- what `submitted` does at the moved clock
pub submitted_at-kept : (v : View) (m : Lent) (t : FrameToken) → Sound v → Sound (submitted_at v m t).sender
submitted_at-kept v m t h =
    submit_cases (λ o. Sound o.sender) v m t h
    (λ i lt q. let u = with_selected v None in
    let x = get_or v.transfers i blank_transfer in
    move_kept (back_move {octets = []} {first = 0} u i (in_flight_lem t.frame v.clock.last_block x) lt (in_flight_keeps u x t.frame refl q)) (move_kept {octets = []} {first = 0} (drops None (inl refl)) h))

-- what an accepted request leaves, by the sender without the replaced transfer
abbrev accepted : View → Request → List ℕ → Grant → View → View
accepted v r message g w = kept (token_taken w) (begun (parcel_of r message g.frames (lowest_n w.transfers) v.next_token) g.echo v.next_token)

-- `accepts` leaves that. A fact of its own, which under another `accepts` is refused at once: `Sound` of the one against `Sound` of the
-- other would be compared without end
accepts_sender : (v : View) (m : Lent) (r : Request) (message : List ℕ) (g : Grant)
    → (accepts v m r message g).sender ≡ accepted v r message g (replaced (with_echoes v (hold v.echoes g.echo (held_until v.limits r.deadline_ms))) r.identity)
unfolding accepts
accepts_sender v m r message g = refl

-- a request that passes is accepted
pub accepts-kept : (v : View) (m : Lent) (r : Request) (message : List ℕ) (g : Grant) → grant_of v r message ≡ gives g → v.next_token < stop → Sound v → Sound (accepts v m r message g).sender
accepts-kept v m r message g e room h =
    let p = grant_passes v r message e in
    let u = with_echoes v (hold v.echoes g.echo (held_until v.limits r.deadline_ms)) in
    subst Sound (sym (accepts_sender v m r message g))
    (seek_cases {X = View} (λ x. Sound (accepted v r message g x)) (addressed r.identity) v.transfers u (cancel_at u)
    (λ n. welcomed_kept v r message g (welcomes v r message g p room h n) h)
    (λ i lt z. welcomed_kept (cancel_at v i (get_or v.transfers i blank_transfer)) r message g (welcomes_instead v r message g p room h i lt z) (cancel_kept v i lt h)))

-- ---- what `advance` says

-- it gives, or refuses 16, 18 or 22
abbrev pub Answers : Outcome Unit → Type 0
Answers o = (o ≡ gives tt) ⊎ ((o ≡ refuses 16) ⊎ ((o ≡ refuses 18) ⊎ (o ≡ refuses 22)))

-- `advance` says nothing else
pub advance_answers : (v : View) (m : Lent) (block now : ℕ) → Answers (advance_of v m block now).outcome
unfolding advance_of
advance_answers v m block now = go (short m) (fewer_than 512 v.next_token) (ltb block v.clock.last_block || ltb now v.clock.last_ms)
  where
    go : (a b c : Bool) → Answers (onward {A = Unit} v (refuse a 16 (refuse b 18 (refuse c 22 (gives (with_clock v (record { last_block = block; last_ms = now })))))) (λ w. says tt (walked w))).outcome
    go true b c = inr (inl refl)
    go false true c = inr (inr (inl refl))
    go false false true = inr (inr (inr refl))
    go false false false = inl refl

-- so never 21 (EchoExhausted) nor 23 (Deadline)
pub advance_never : (v : View) (m : Lent) (block now : ℕ) → ((advance_of v m block now).outcome ≢ refuses 21) × ((advance_of v m block now).outcome ≢ refuses 23)
advance_never v m block now =
    (go 21 (λ e. omega arith) (λ e. omega arith) (λ e. omega arith) (advance_of v m block now).outcome (advance_answers v m block now), go 23 (λ e. omega arith) (λ e. omega arith) (λ e. omega arith) (advance_of v m block now).outcome (advance_answers v m block now))
  where
    no-refusal : {n : ℕ} → ◌≡◌ {A = Outcome Unit} (gives tt) (refuses n) → ⊥
    no-refusal e = let z : ◌≡◌ {A = ℕ} 0 1 = cc in omega arith

    number : {a b : ℕ} → ◌≡◌ {A = Outcome Unit} (refuses a) (refuses b) → a ≡ b
    number e = cc

    go : (n : ℕ) → 16 ≢ n → 18 ≢ n → 22 ≢ n → (o : Outcome Unit) → Answers o → o ≢ refuses n
    go n a b c o h e =
        ⊎_elim (λ p. no-refusal (sym p ∙ e)) (λ h. ⊎_elim (λ p. a (number (sym p ∙ e))) (λ h. ⊎_elim (λ p. b (number (sym p ∙ e))) (λ p. c (number (sym p ∙ e))) h) h) h

-- ---- a restart

-- with no echo free the transfer is Failed
pub restart_fails : (v : View) (x : Transfer) → free_echo v.echoes v.clock.last_ms ≡ None → landed v x Restarts ≡ ended v x (Failed x.parcel.completion EchoExhausted)
restart_fails v x e = ap (restart v x) e

-- a restart is Failed exactly if each of the 128 echoes is held until later
pub restart_fails_exactly : (v : View) (x : Transfer) → length v.echoes.echo_until_ms ≡ 128 → v.echoes.next_echo < 128
    → ((landed v x Restarts).events ≡ push_back v.events (Failed x.parcel.completion EchoExhausted)) ↔ ((k : ℕ) → k < 128 → v.clock.last_ms < get_or v.echoes.echo_until_ms k 0)
restart_fails_exactly v x long low = ((λ q. n.0 (go (free_echo v.echoes v.clock.last_ms) q)), (λ k. ap (λ (w : View). w.events) (restart_fails v x (n.1 k))))
  where
    n : (free_echo v.echoes v.clock.last_ms ≡ None) ↔ ((k : ℕ) → k < 128 → v.clock.last_ms < get_or v.echoes.echo_until_ms k 0)
    n = none_free v.echoes long low v.clock.last_ms

    go : (o : Option ℕ) → (restart v x o).events ≡ push_back v.events (Failed x.parcel.completion EchoExhausted) → o ≡ None
    go None q = refl
    go (Some echo) q =
        let l : length (push_back v.events (Failed x.parcel.completion EchoExhausted)) ≡ suc (length v.events) = length_back v.events (Failed x.parcel.completion EchoExhausted) in
        let m : length v.events ≡ length (push_back v.events (Failed x.parcel.completion EchoExhausted)) = ap length q in
        absurd (omega arith)
