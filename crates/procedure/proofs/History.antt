-- What holds over any list of calls from a fresh procedure. Assumes nothing.
use Rattle.std.proofs.Common.{◌≡◌, ℕ, ◌+◌, ◌-◌, ◌<◌, ◌≤◌, Bool, true, false, ◌⊎◌, List, [], ◌∷◌, is_some, Some, None, Option, sym, refl, ap, ◌∙◌, subst, inl, inr, ⊎_elim, arith, eq-eqb, ne_eqb, leb-false, leb-true}
use Rattle.receiver.specs.declared.SingleMessage.{SingleMessage}
use Rattle.receiver.specs.declared.StatusRequest.{StatusRequest}
use Rattle.token.specs.Token.{stop}
use Rattle.arq.specs.declared.FrameKind.{FrameKind}
use Rattle.arq.specs.declared.FrameKind.TheVariants.{Begin, Continue}
use Rattle.arq.specs.declared.ArqFrame.{ArqFrame}
use Rattle.arq.specs.Encode.{by_kind}
use Rattle.arq.specs.Decode.{decode_of}
use Rattle.receiver.specs.declared.ArqReassembler.{ArqReassembler}
use Rattle.spach.specs.Refusal.{gives, refuses, After}
use Rattle.receiver.specs.Receiver.{status_answer, complete_of}
use Rattle.inactivity.specs.declared.TransactionToken.{TransactionToken}
use Rattle.inactivity.specs.declared.State.{State}
use Rattle.inactivity.specs.declared.State.TheVariants.{SendingUnsolicited, FinalWait}
use Rattle.inactivity.specs.declared.StatusResult.{StatusResult}
use Rattle.inactivity.specs.Inactivity as I
use Rattle.inactivity.specs.Inactivity.{Timer, owns_of, clocked, elapsed}
use Rattle.procedure.specs.declared.StatusKind.TheVariants.{Unsolicited}
use Rattle.procedure.specs.declared.StatusTransmission.{StatusTransmission}
use Rattle.procedure.specs.declared.ReceiveEvent.TheVariants as receives
use Rattle.procedure.specs.declared.TimerEvent.{TimerEvent}
use Rattle.procedure.specs.declared.TimerEvent.TheVariants as timers
use Rattle.procedure.specs.declared.SendEvent.{SendEvent}
use Rattle.procedure.specs.declared.SendEvent.TheVariants as sends
use Rattle.procedure.specs.Procedure.{Procedure, Sound, with_timer, ended, active_of, says, due_at, advance_of, after_sent, status_sent_of}
use Rattle.procedure.specs.Parts.{timed, ends_unpolled, accepted}
use Rattle.procedure.specs.History.{Call, receive, advance, status_sent, reset, after, runs, Each, AcceptsFrame, Taken, AcceptsResult, AcceptsUnsolicited, Resets, EndsTransaction, present, NoSecond, Silent, EndsAt32, ForeignForEver}
use Rattle.procedure.proofs.Invariant.{sound_new, sound_receive, sound_advance, sound_status_sent, sound_reset}
use Rattle.procedure.proofs.CallCases.{Clocked, reset_ways, due_ways, asks_at, sends_that, sends_no_end, advance_ways, sent_ways, receive_ways}
use Rattle.procedure.proofs.Steps.{tok, pends, Turnout, renews, keeps, newer, owned, at, turnout}

-- ---- over a list

sound_after : (p : Procedure) (c : Call) → Sound p → Sound (after p c)
sound_after p (receive b xs buffer) = sound_receive p b xs buffer
sound_after p (advance b) = sound_advance p b
sound_after p (status_sent b x r) = sound_status_sent p b x r
sound_after p reset = sound_reset p

pub sound_runs : (p : Procedure) (cs : List Call) → Sound p → Sound (runs p cs)
unfolding runs
sound_runs p [] s = s
sound_runs p (c ∷ cs) s = sound_runs (after p c) cs (sound_after p c s)

-- what each call of a kind keeps, a list of them keeps
runs_keep : (P : Procedure → Type 0) (Q : Procedure → Call → Type 0) → ((p : Procedure) (c : Call) → Sound p → P p → Q p c → P (after p c)) → (p : Procedure) (cs : List Call) → Sound p → P p → Each Q p cs → P (runs p cs)
unfolding runs Each
runs_keep P Q step p [] s h e = h
runs_keep P Q step p (c ∷ cs) s h e = runs_keep P Q step (after p c) cs (sound_after p c s) (step p c s h e.0) e.1

-- the present token rises, and so does the clock
token_rises : (p : Procedure) (c : Call) → Sound p → tok p.inactivity ≤ tok (after p c).inactivity
token_rises p c s = by (turnout p c s)
  where
    by : {A : Type 0} {u : Timer} → Turnout A p.inactivity u → tok p.inactivity ≤ tok u
    by (renews l k) = omega arith
    by (keeps e f k) = rw e (omega arith)

clock_rises : (p : Procedure) (c : Call) → Sound p → p.inactivity.last_block ≤ (after p c).inactivity.last_block
clock_rises p c s = by (turnout p c s)
  where
    by : {A : Type 0} {u : Timer} → Turnout A p.inactivity u → p.inactivity.last_block ≤ u.last_block
    by (renews l k) = k
    by (keeps e f k) = k

pub tokens_rise : (p : Procedure) (cs : List Call) → Sound p → tok p.inactivity ≤ tok (runs p cs).inactivity
unfolding runs
tokens_rise p [] s = omega arith
tokens_rise p (c ∷ cs) s = let x = token_rises p c s in let y = tokens_rise (after p c) cs (sound_after p c s) in omega arith

-- ---- a token of an ended transaction is foreign for ever

foreign : (p : Procedure) (k : TransactionToken) → k.0 < tok p.inactivity → owns_of p.inactivity k ≡ false
foreign p k l = ne_eqb k.0 (tok p.inactivity) (λ e. omega arith)

sent_foreign : (p : Procedure) (b : ℕ) (x : StatusTransmission) (r : StatusResult) → owns_of p.inactivity x.token ≡ false → status_sent_of p b x r ≡ says sends.Ignored p
unfolding status_sent_of
sent_foreign p b x r e = rw e

-- what ends a transaction takes another token
module _ (p : Procedure) (s : Sound p) where
  abbrev Later : Procedure → Type 0
  Later q = tok p.inactivity < tok q.inactivity

  -- an accepted frame: a Begin takes one, and so does the end of a complete message
  accepted_later : (block : ℕ) (q : Procedure) → Clocked p block q → (f : ArqFrame) (m : Option SingleMessage) (r : Option StatusRequest) (x : ArqReassembler) → is_some x.transaction ≡ true
      → let a = accepted (by_kind f.kind true false) m r (record { receiver = x; inactivity = q.inactivity }) in (f.kind ≡ Begin) ⊎ (active_of a.state ≡ false) → Later a.state
  unfolding accepted
  accepted_later block q c f m r x held = at (λ z. let a = accepted (by_kind f.kind true false) m r (record { receiver = x; inactivity = z.inactivity }) in (f.kind ≡ Begin) ⊎ (active_of a.state ≡ false) → Later a.state) c (by f.kind (complete_of x) r)
    where
      n : (tok p.inactivity < p.inactivity.next_token) × (p.inactivity.next_token < stop)
      n = newer p.inactivity s.inactivity c.tokens

      by : (k : FrameKind) (complete : Bool) (r : Option StatusRequest)
          → let q = ends_unpolled r complete (record { receiver = x; inactivity = timed (by_kind k true false) complete (clocked p.inactivity block) }) in (k ≡ Begin) ⊎ (active_of q ≡ false) → Later q
      by Begin true None e = let y = n.0 in let z = n.1 in omega arith
      by Begin false None e = n.0
      by Begin true (Some r) e = n.0
      by Begin false (Some r) e = n.0
      by Continue true None e = n.0
      by Continue false None (inl e) = cc
      by Continue false None (inr e) = let v = sym held ∙ e in cc
      by Continue true (Some r) (inl e) = cc
      by Continue true (Some r) (inr e) = let v = sym held ∙ e in cc
      by Continue false (Some r) (inl e) = cc
      by Continue false (Some r) (inr e) = let v = sym held ∙ e in cc

  ends_later : (c : Call) → EndsTransaction p c → Later (after p c)
  ends_later (receive block xs b) e =
      receive_ways (λ o q. (m : Option SingleMessage) (x : Option StatusTransmission) → o ≡ gives (receives.Accepted m x) → ((f : ArqFrame) × (decode_of xs ≡ gives f) × (f.kind ≡ Begin)) ⊎ (active_of q ≡ false) → Later q) p block xs b
      (λ n m x z u. cc) (λ q n c m x z u. cc) (λ q c m x z u. cc)
      (λ q c f d m r x h n y z u. accepted_later block q c f m r x h (⊎_elim (λ v. inl (same_kind f v.0 d v.1 v.2)) inr u)) e.0.0 e.0.1 e.0.2 e.1
    where
      same_kind : (f g : ArqFrame) → decode_of xs ≡ gives f → decode_of xs ≡ gives g → g.kind ≡ Begin → f.kind ≡ Begin
      same_kind f g d v k = let w : gives f ≡ gives g = sym d ∙ v in let z : f ≡ g = cc in ap (λ (x : ArqFrame). x.kind) z ∙ k
  ends_later (advance b) e =
      advance_ways (λ a. a.outcome ≡ gives timers.Terminated → Later a.state) p b (λ n z. cc)
      (λ q c. at (λ z. (due_at z).outcome ≡ gives timers.Terminated → Later (due_at z).state) c
      (due_ways (λ a. a.outcome ≡ gives timers.Terminated → Later a.state) (with_timer p (clocked p.inactivity b)) (λ k z. cc)
      (λ since st k f z. absurd (sends_no_end (asks_at p b) (status_answer p.receiver) z)) (λ since st k z. let n = newer p.inactivity s.inactivity c.tokens in let x = n.0 in let y = n.1 in omega arith))) e
  ends_later (status_sent b x r) e =
      sent_ways (λ a. (a.outcome ≡ gives sends.Complete) ⊎ (a.outcome ≡ gives sends.Failed) → Later a.state) p b x r (λ o z. absurd (neither (λ v. cc) (λ v. cc) z))
      (λ n z. absurd (neither (λ v. cc) (λ v. cc) z))
      (λ q o c f g z. at (λ y. Later (ended y)) c (newer p.inactivity s.inactivity c.tokens).0)
      (λ q o c z. absurd (neither (λ v. cc) (λ v. cc) z)) e
    where
      neither : {A B : Type 0} → (A → ⊥) → (B → ⊥) → A ⊎ B → ⊥
      neither f g (inl a) = f a
      neither f g (inr b) = g b
  ends_later reset e =
      reset_ways (λ a. a.outcome ≡ gives tt → Later a.state) p (λ n z. cc) (λ t z. (newer p.inactivity s.inactivity t).0) e

pub foreign_for_ever : ForeignForEver
foreign_for_ever i first fresh e before c ends later =
    let p = runs fresh before in
    let s = sound_runs fresh before (sound_new i first e) in
    let q = after p c in
    let l : tok p.inactivity < tok q.inactivity = ends_later p s c ends in
    let m : tok q.inactivity ≤ tok (runs q later).inactivity = tokens_rise q later (sound_after p c s) in
    let f : owns_of (runs q later).inactivity (present p) ≡ false = foreign (runs q later) (present p) (omega arith) in
    (f, λ b x r k. sent_foreign (runs q later) b x r (rw k f))

-- ---- no second unsolicited status

-- what asking for one says of the procedure before and after
record Asking (p : Procedure) (t : StatusTransmission) (q : Procedure) : Type 0 where
  before : pends p.inactivity ≡ false
  token : present q ≡ t.token
  state : q.inactivity.state ≡ SendingUnsolicited
  pending : pends q.inactivity ≡ true
  incomplete : complete_of q.receiver ≡ false

asking : (p : Procedure) (b : ℕ) (t : StatusTransmission) → (advance_of p b).outcome ≡ gives (timers.SendStatus t) → Asking p t (advance_of p b).state
asking p b t =
    advance_ways (λ a. a.outcome ≡ gives (timers.SendStatus t) → Asking p t a.state) p b (λ n e. cc)
    (λ q c. at (λ z. (due_at z).outcome ≡ gives (timers.SendStatus t) → Asking p t (due_at z).state) c
    (due_ways (λ a. a.outcome ≡ gives (timers.SendStatus t) → Asking p t a.state) (with_timer p (clocked p.inactivity b)) (λ k e. cc)
    (λ since st k f e. record { before = f; token = (sends_that (asks_at p b) (status_answer p.receiver) t e).1; state = refl; pending = refl; incomplete = k })
    (λ since st k e. cc)))

-- it stays pending under its token, or the token is a later one
data Open (k : TransactionToken) (p : Procedure) : Type 0 where
  gone : k.0 < tok p.inactivity → Open k p
  still : present p ≡ k → pends p.inactivity ≡ true → Open k p

open_step : (k : TransactionToken) (p : Procedure) (c : Call) → Sound p → Open k p → (AcceptsUnsolicited k p c → ⊥) → Open k (after p c)
open_step k p c s (gone l) n = gone (let x = token_rises p c s in omega arith)
open_step k p c s (still e h) n = by (turnout p c s)
  where
    by : Turnout (AcceptsUnsolicited (present p) p c) p.inactivity (after p c).inactivity → Open k (after p c)
    by (renews l m) = gone (subst (λ j. j.0 < tok (after p c).inactivity) e l)
    by (keeps f g m) = ⊎_elim (λ x. still (f ∙ e) x) (λ x. absurd (n (subst (λ j. AcceptsUnsolicited j p c) e x))) (g h)

pub no_second : NoSecond
no_second i first fresh e before since b c second o asks =
    let p = runs fresh before in
    let s = sound_runs fresh before (sound_new i first e) in
    let a = asking p b o.status o.asked in
    let q = runs (after p (advance b)) since in
    let h : Open o.status.token q = runs_keep (Open o.status.token) (λ z x. AcceptsUnsolicited o.status.token z x → ⊥) (open_step o.status.token) (after p (advance b)) since (sound_after p (advance b) s) (still a.token a.pending) o.unanswered in
    shut h (asking q c second asks).before o.under
  where
    shut : {k : TransactionToken} {q : Procedure} → Open k q → pends q.inactivity ≡ false → present q ≡ k → ⊥
    shut (gone l) f u = let z = ap (λ (j : TransactionToken). j.0) u in omega arith
    shut (still u h) f v = let z : true ≡ false = sym h ∙ f in cc

-- ---- 32 blocks after an unsolicited status was sent

-- a call in which no frame and no result of the present token is accepted moves the clock alone, or is a reset; advance apart
data Lull (p : Procedure) (R : Type 0) (q : Procedure) : Type 0 where
  calm : (b : ℕ) → p.inactivity.last_block ≤ b → q ≡ with_timer p (clocked p.inactivity b) → Lull p R q
  over : R → tok p.inactivity < tok q.inactivity → Lull p R q

unmoved : (p : Procedure) {R : Type 0} → Lull p R p
unmoved p = calm p.inactivity.last_block (omega arith) refl

receive_lull : (p : Procedure) (block : ℕ) (xs b : List ℕ) → (AcceptsFrame p (receive block xs b) → ⊥) → Lull p ⊥ (after p (receive block xs b))
unfolding accepted
receive_lull p block xs b n =
    receive_ways (λ o q. ((m : Option SingleMessage) (x : Option StatusTransmission) → o ≡ gives (receives.Accepted m x) → ⊥) → Lull p ⊥ q) p block xs b (λ k f. unmoved p) (λ q k c f. calm block c.later c.here) (λ q c f. calm block c.later c.here)
    (λ q c g d m r s h f. absurd (f m _ refl)) (λ m x e. n (m, x, e))

sent_lull : (p : Procedure) (b : ℕ) (x : StatusTransmission) (r : StatusResult) → (AcceptsResult (present p) p (status_sent b x r) → ⊥) → Lull p ⊥ (after p (status_sent b x r))
sent_lull p b x r n =
    sent_ways (λ a. ((x.token ≡ present p) × Taken a.outcome → ⊥) → Lull p ⊥ a.state) p b x r (λ e f. unmoved p) (λ k f. unmoved p)
    (λ q o c e z f. absurd (f (owned p.inactivity x.token o, final z))) (λ q o c f. absurd (f (owned p.inactivity x.token o, tt))) n
  where
    final : {e : SendEvent} → (e ≡ sends.Complete) ⊎ (e ≡ sends.Failed) → Taken (gives e)
    final (inl z) = rw z tt
    final (inr z) = rw z tt

reset_lull : (p : Procedure) → Sound p → Lull p (Resets p reset) (after p reset)
reset_lull p s =
    reset_ways (λ a. (a.outcome ≡ gives tt → Resets p reset) → Lull p (Resets p reset) a.state) p (λ n f. unmoved p)
    (λ e f. over (f refl) (newer p.inactivity s.inactivity e).0) (λ e. e)

-- the state that is waited in, under the token, the message not complete
record In (k : TransactionToken) (st : State) (p : Procedure) : Type 0 where
  token : present p ≡ k
  state : p.inactivity.state ≡ st
  incomplete : complete_of p.receiver ≡ false

in_clocked : {k : TransactionToken} {st : State} {p q : Procedure} (b : ℕ) → q ≡ with_timer p (clocked p.inactivity b) → In k st p → In k st q
in_clocked {k} {st} b e h = subst (In k st) (sym e) (record { token = h.token; state = h.state; incomplete = h.incomplete })

-- an unsolicited status is being sent: only its result ends that
data Sending (k : TransactionToken) (p : Procedure) : Type 0 where
  gone : k.0 < tok p.inactivity → Sending k p
  still : In k SendingUnsolicited p → Sending k p

later_than : {k j : TransactionToken} {n : ℕ} → j ≡ k → j.0 < n → k.0 < n
later_than e l = let z = ap (λ (j : TransactionToken). j.0) e in omega arith

lull_sending : {k : TransactionToken} {p : Procedure} {R : Type 0} {q : Procedure} → In k SendingUnsolicited p → Lull p R q → Sending k q
lull_sending h (calm b l e) = still (in_clocked b e h)
lull_sending h (over r l) = gone (later_than h.token l)

sending_step : (k : TransactionToken) (p : Procedure) (c : Call) → Sound p → Sending k p → Silent k p c → Sending k (after p c)
sending_step k p c s (gone l) n = gone (let x = token_rises p c s in omega arith)
sending_step k p (receive b xs buffer) s (still h) n = lull_sending h (receive_lull p b xs buffer n.0)
sending_step k p (status_sent b x r) s (still h) n = lull_sending h (sent_lull p b x r (λ a. n.1 (a.0 ∙ h.token, a.1)))
sending_step k p reset s (still h) n = lull_sending h (reset_lull p s)
sending_step k p (advance b) s (still h) n =
    advance_ways (λ a. Sending k a.state) p b (λ m. still h)
    (λ q c. at (λ z. Sending k (due_at z).state) c
    (due_ways (λ a. Sending k a.state) (with_timer p (clocked p.inactivity b)) (λ f. still (in_clocked b refl h))
    (λ since e f g. let z = sym h.state ∙ e in cc) (λ since e f. let z = sym h.state ∙ e in cc)))

-- the final wait from block d on: only an advance at 32 blocks or more ends it
data Final (k : TransactionToken) (d : ℕ) (p : Procedure) : Type 0 where
  gone : k.0 < tok p.inactivity → d + 32 ≤ p.inactivity.last_block → Final k d p
  still : In k (FinalWait d) p → Final k d p

lull_final : {k : TransactionToken} {d : ℕ} {p : Procedure} {R : Type 0} {q : Procedure} → (R → ⊥) → In k (FinalWait d) p → Lull p R q → Final k d q
lull_final n h (calm b l e) = still (in_clocked b e h)
lull_final n h (over r l) = absurd (n r)

-- 32 blocks from d to b
elapsed_true : (t : Timer) (d : ℕ) → elapsed t d ≡ true → d + 32 ≤ t.last_block
elapsed_true t d e = let l : 32 ≤ t.last_block - d = leb-true 32 (t.last_block - d) e in omega arith

elapsed_false : (t : Timer) (d : ℕ) → elapsed t d ≡ false → t.last_block < d + 32
elapsed_false t d e = let l : t.last_block - d < 32 = leb-false 32 (t.last_block - d) e in omega arith

waits_from : {s d : ℕ} → FinalWait s ≡ FinalWait d → s ≡ d
waits_from e = cc

final_step : (k : TransactionToken) (d : ℕ) (p : Procedure) (c : Call) → Sound p → Final k d p → Silent k p c × (Resets p c → ⊥) → Final k d (after p c)
final_step k d p c s (gone l m) n = gone (let x = token_rises p c s in omega arith) (let x = clock_rises p c s in omega arith)
final_step k d p (receive b xs buffer) s (still h) n = lull_final (λ r. r) h (receive_lull p b xs buffer n.0.0)
final_step k d p (status_sent b x r) s (still h) n = lull_final (λ r. r) h (sent_lull p b x r (λ a. n.0.1 (a.0 ∙ h.token, a.1)))
final_step k d p reset s (still h) n = lull_final n.1 h (reset_lull p s)
final_step k d p (advance b) s (still h) n =
    advance_ways (λ a. Final k d a.state) p b (λ m. still h)
    (λ q c. at (λ z. Final k d (due_at z).state) c
    (due_ways (λ a. Final k d a.state) (with_timer p (clocked p.inactivity b)) (λ f. still (in_clocked b refl h))
    (λ since e f g. let z = sym h.state ∙ e in cc)
    (λ since e f. let z = waits_from (sym e ∙ h.state) in
    let m = newer p.inactivity s.inactivity c.tokens in
    gone (later_than h.token (let x = m.0 in let y = m.1 in omega arith)) (let w = elapsed_true (clocked p.inactivity b) since f in omega arith))))

-- the report that it was sent: from sending to the final wait
reported-sent : (p : Procedure) (d : ℕ) (x : StatusTransmission) (r : StatusResult) → Sound p → Sending x.token p → x.kind ≡ Unsolicited → (status_sent_of p d x r).outcome ≡ gives sends.Pending
    → Final x.token d (status_sent_of p d x r).state
reported-sent p d x r s g u =
    sent_ways (λ a. a.outcome ≡ gives sends.Pending → Final x.token d a.state) p d x r (λ o e. cc)
    (λ n e. cc) (λ q o c e z f. absurd (ended_not z f))
    (λ q o c e. at (λ z. Final x.token d (with_timer z (after_sent x.kind z.inactivity))) c (goes (owned p.inactivity x.token o) g))
  where
    ended_not : {e : SendEvent} → (e ≡ sends.Complete) ⊎ (e ≡ sends.Failed) → gives e ≡ gives sends.Pending → ⊥
    ended_not (inl z) f = cc
    ended_not (inr z) f = cc

    goes : x.token ≡ present p → Sending x.token p → let q = with_timer p (clocked p.inactivity d) in Final x.token d (with_timer q (after_sent x.kind q.inactivity))
    goes k (gone l) = absurd (let z = ap (λ (j : TransactionToken). j.0) k in omega arith)
    goes k (still h) = rw u (still (sent h (subst (λ (z : State). I.PendingFits z (pends p.inactivity)) h.state s.inactivity.pending)))
      where
        sent : In x.token SendingUnsolicited p → pends p.inactivity ≡ true → let q = with_timer p (clocked p.inactivity d) in In x.token (FinalWait d) (with_timer q (after_sent Unsolicited q.inactivity))
        sent i y = rw y (record { token = i.token; state = ap (λ z. I.sent_from z d) i.state; incomplete = i.incomplete })

-- an advance in the final wait
module _ (p : Procedure) (s : Sound p) (k : TransactionToken) (d c : ℕ) where
  abbrev Ended : After TimerEvent Procedure → Type 0
  Ended a = (owns_of p.inactivity k ≡ true → (a.outcome ≡ gives timers.Terminated) × (active_of a.state ≡ false)) × (owns_of a.state.inactivity k ≡ false)

  abbrev Going : After TimerEvent Procedure → Type 0
  Going a = (a.outcome ≡ gives timers.None) × (owns_of a.state.inactivity k ≡ true)

  abbrev Either : After TimerEvent Procedure → Type 0
  Either a = ((n : ℕ) → a.outcome ≡ refuses n → ⊥) → (d + 32 ≤ c → Ended a) × (c < d + 32 → Going a)

  advance_gone : k.0 < tok p.inactivity → d + 32 ≤ p.inactivity.last_block → Either (advance_of p c)
  advance_gone l m n =
      let f : owns_of p.inactivity k ≡ true → ((advance_of p c).outcome ≡ gives timers.Terminated) × (active_of (advance_of p c).state ≡ false) = λ o. absurd (let z = ap (λ (j : TransactionToken). j.0) (owned p.inactivity k o) in omega arith) in
      let g : owns_of (advance_of p c).state.inactivity k ≡ false = foreign (advance_of p c).state k (let x = token_rises p (advance c) s in omega arith) in
      ((λ h. (f, g)), (λ h. absurd (advance_ways (λ a. ((n : ℕ) → a.outcome ≡ refuses n → ⊥) → ⊥) p c (λ y q. q y refl) (λ q y z. omega (arith, y.later)) n)))

  advance_still : In k (FinalWait d) p → Either (advance_of p c)
  advance_still h =
      advance_ways Either p c (λ m n. absurd (n m refl))
      (λ q y. at (λ z. Either (due_at z)) y
      (due_ways Either (with_timer p (clocked p.inactivity c)) (λ f n. ((λ l. absurd (let w = elapsed_false (clocked p.inactivity c) d (f d h.incomplete h.state) in omega arith)), (λ l. (refl, mine))))
      (λ since e f g n. let z = sym h.state ∙ e in cc)
      (λ since e f n. let z = waits_from (sym e ∙ h.state) in
      let m = newer p.inactivity s.inactivity y.tokens in
      let l : k.0 < _ = later_than h.token m.0 in
      ((λ w. ((λ o. (refl, refl)), ne_eqb k.0 _ (λ v. let x = m.1 in omega arith))), (λ w. absurd (let v = elapsed_true (clocked p.inactivity c) since f in omega arith))))))
    where
      mine : owns_of p.inactivity k ≡ true
      mine = eq-eqb k.0 (tok p.inactivity) (sym (ap (λ (j : TransactionToken). j.0) h.token))

  advance_final : Final k d p → Either (advance_of p c)
  advance_final (gone l m) = advance_gone l m
  advance_final (still h) = advance_still h

pub ends_at_32 : EndsAt32
ends_at_32 i first fresh e before since b d x r w later silent c n =
    let p = runs fresh before in
    let s = sound_runs fresh before (sound_new i first e) in
    let a = asking p b w.status w.asked in
    let q = runs (after p (advance b)) since in
    let sq = sound_runs (after p (advance b)) since (sound_after p (advance b) s) in
    let k = w.status.token in
    let g : Sending k q = runs_keep (Sending k) (Silent k) (sending_step k) (after p (advance b)) since (sound_after p (advance b) s) (still (record { token = a.token; state = a.state; incomplete = a.incomplete })) w.silent in
    let f : Final x.token d (after q (status_sent d x r)) = reported-sent q d x r sq (subst (λ j. Sending j q) (sym w.token) g) w.unsolicited w.sent in
    let t = after q (status_sent d x r) in
    let st = sound_after q (status_sent d x r) sq in
    let h : Final x.token d (runs t later) = runs_keep (Final x.token d) (λ z y. Silent x.token z y × (Resets z y → ⊥)) (final_step x.token d) t later st f silent in
    let o = advance_final (runs t later) (sound_runs t later st) x.token d c h n in
    ((λ l. record { answer = λ y. ((o.0 l).0 y).0; inactive = λ y. ((o.0 l).0 y).1; foreign = (o.0 l).1 }), (λ l. record { answer = (o.1 l).0; owned = (o.1 l).1 }))
