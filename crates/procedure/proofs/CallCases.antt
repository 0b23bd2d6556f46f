-- The ways of a call through its definition, by what comes of it. Assumes nothing.
use Rattle.std.proofs.Common.{◌≡◌, ℕ, ◌≤◌, Bool, true, false, cond, not, ◌&&◌, ◌⊎◌, List, length, is_some, Some, None, Option, unwrap_or, sym, refl, ap, ◌∙◌, subst, inl, inr}
use Rattle.receiver.specs.declared.SingleMessage.{SingleMessage}
use Rattle.receiver.specs.declared.StatusRequest.{StatusRequest}
use Rattle.token.specs.Token.{fewer_than}
use Rattle.spach.specs.Refusal.{Outcome, gives, refuses, refuse, and_then, After, onward}
use Rattle.spach.proofs.Outcomes.{then-gives}
use Rattle.arq.specs.declared.ArqFrame.{ArqFrame}
use Rattle.arq.specs.Encode.{by_kind}
use Rattle.arq.specs.Decode.{decode_of}
use Rattle.receiver.specs.declared.ArqReassembler.{ArqReassembler}
use Rattle.receiver.specs.declared.Reception.{Reception}
use Rattle.receiver.specs.declared.Reception.TheVariants as receptions
use Rattle.receiver.specs.declared.ArqStatus.{ArqStatus}
use Rattle.receiver.specs.Receiver as R
use Rattle.receiver.specs.Receiver.{push_frame, status_answer, complete_of}
use Rattle.receiver.proofs.Laws.{accepted_held}
use Rattle.inactivity.specs.declared.State.{State}
use Rattle.inactivity.specs.declared.State.TheVariants.{Idle, Waiting, SendingUnsolicited, FinalWait}
use Rattle.inactivity.specs.declared.StatusResult.{StatusResult}
use Rattle.inactivity.specs.declared.StatusResult.TheVariants as results
use Rattle.inactivity.specs.declared.InactivityAction.{InactivityAction}
use Rattle.inactivity.specs.declared.InactivityAction.TheVariants as actions
use Rattle.inactivity.specs.Inactivity.{Timer, owns_of, renewed, clocked, in_state, admitted, due, elapsed}
use Rattle.inactivity.proofs.Calls.{ticked_gives, admitted_gives}
use Rattle.procedure.specs.declared.StatusTransmission.{StatusTransmission}
use Rattle.procedure.specs.declared.ReceiveEvent.{ReceiveEvent}
use Rattle.procedure.specs.declared.ReceiveEvent.TheVariants as receives
use Rattle.procedure.specs.declared.TimerEvent.{TimerEvent}
use Rattle.procedure.specs.declared.TimerEvent.TheVariants as timers
use Rattle.procedure.specs.declared.SendEvent.{SendEvent}
use Rattle.procedure.specs.declared.SendEvent.TheVariants as sends
use Rattle.procedure.specs.Procedure.{Procedure, Out, with_timer, ended, admits, says, reset_of, receive_of, unsolicited, blank_status, sends_status, follows, due_at, advance_of, after_sent, sent_at, status_sent_of}
use Rattle.procedure.specs.Parts.{accepted, by_answer, decoded, let_through, then_hears}
use Rattle.procedure.proofs.Invariant.{let_through_gives, ignored-same, refused_same}
use Rattle.procedure.proofs.Parts.{receive_parts}

not_first : (a b : Bool) → not a && b ≡ true → a ≡ false
not_first true b e = sym e
not_first false b e = refl

-- q is p at the moved clock, and enough tokens are left
pub record Clocked (p : Procedure) (b : ℕ) (q : Procedure) : Type 0 where
  pub tokens : fewer_than 4 p.inactivity.next_token ≡ false
  pub later : p.inactivity.last_block ≤ b
  pub here : q ≡ with_timer p (clocked p.inactivity b)

admits-clocked : (p : Procedure) (b : ℕ) {q : Procedure} → admits p b ≡ gives q → Clocked p b q
admits-clocked p b {q} e =
    let a = then-gives (admitted p.inactivity b) (λ t. gives (with_timer p t)) e in
    let z : with_timer p a.0 ≡ q = let w = a.2 in cc in
    let k = admitted_gives p.inactivity b a.1 in
    record { tokens = k.0; later = k.2; here = sym z ∙ ap (with_timer p) k.1 }

-- a call that may be refused by 18 or 17
admits_ways : {A : Type 0} (P : After A Procedure → Type 0) (p : Procedure) (b : ℕ) (f : Procedure → After A Procedure)
    → ((n : ℕ) → P (record { outcome = refuses n; state = p })) → ((q : Procedure) → Clocked p b q → P (f q)) → P (onward p (admits p b) f)
admits_ways P p b f stops goes = by (admits p b) refl
  where
    by : (o : Outcome Procedure) → admits p b ≡ o → P (onward p o f)
    by (gives q) e = goes q (admits-clocked p b e)
    by (refuses n) e = stops n

-- reset: refused, or done
pub reset_ways : (P : After Unit Procedure → Type 0) (p : Procedure) → ((n : ℕ) → P (record { outcome = refuses n; state = p }))
    → (fewer_than 4 p.inactivity.next_token ≡ false → P (says tt (ended p))) → P (reset_of p)
unfolding reset_of
reset_ways P p stops goes = by (fewer_than 4 p.inactivity.next_token) refl
  where
    by : (x : Bool) → fewer_than 4 p.inactivity.next_token ≡ x → P (onward p (and_then (refuse x 18 (gives p.inactivity)) (λ t. gives (with_timer p t))) (λ q. says tt (ended q)))
    by true e = stops 18
    by false e = goes e

-- ---- advance

-- what is due at the clock: nothing; an unsolicited status; the end
module _ (P : After TimerEvent Procedure → Type 0) (q : Procedure)
    (calm : ((since : ℕ) → complete_of q.receiver ≡ false → q.inactivity.state ≡ FinalWait since → elapsed q.inactivity since ≡ false) → P (says timers.None q))
    (asks : (since : ℕ) → q.inactivity.state ≡ Waiting since → complete_of q.receiver ≡ false → q.inactivity.unsolicited_pending ≡ false
    → let p = with_timer q (in_state q.inactivity SendingUnsolicited true) in P (says (sends_status p (status_answer q.receiver)) p))
    (ends : (since : ℕ) → q.inactivity.state ≡ FinalWait since → elapsed q.inactivity since ≡ true → P (says timers.Terminated (ended (with_timer q (renewed q.inactivity))))) where
  abbrev turned : State → After TimerEvent Procedure
  turned k = let d = due k q.inactivity in follows d.1 (with_timer q d.0)

  by_state : (k : State) → q.inactivity.state ≡ k → complete_of q.receiver ≡ false → P (turned k)
  by_state Idle e c = calm (λ since z s. let v = sym e ∙ s in cc)
  by_state (Waiting since) e c = by (not q.inactivity.unsolicited_pending && elapsed q.inactivity since) refl
    where
      quiet : P (says timers.None q)
      quiet = calm (λ s z w. let v = sym e ∙ w in cc)

      by : (x : Bool) → not q.inactivity.unsolicited_pending && elapsed q.inactivity since ≡ x
          → let d = cond {A = Timer × InactivityAction} x (in_state q.inactivity SendingUnsolicited true, actions.RequestUnsolicitedStatus) (q.inactivity, actions.None) in P (follows d.1 (with_timer q d.0))
      by true f = asks since e c (not_first q.inactivity.unsolicited_pending (elapsed q.inactivity since) f)
      by false f = quiet
  by_state SendingUnsolicited e c = calm (λ since z s. let v = sym e ∙ s in cc)
  by_state (FinalWait since) e c = by (elapsed q.inactivity since) refl
    where
      by : (y : Bool) → elapsed q.inactivity since ≡ y
          → let d = cond {A = Timer × InactivityAction} y (renewed q.inactivity, actions.Terminate) (q.inactivity, actions.None) in P (follows d.1 (with_timer q d.0))
      by true g = ends since e g
      by false g = calm (λ s z w. let v : since ≡ s = let u = sym e ∙ w in cc in subst (λ n. elapsed q.inactivity n ≡ false) v g)

  pub due_ways : P (due_at q)
  due_ways = by (complete_of q.receiver) refl
    where
      by : (x : Bool) → complete_of q.receiver ≡ x → P (due_at q)
      by true c = rw c (calm (λ since z s. let v = sym c ∙ z in cc))
      by false c = rw c (by_state q.inactivity.state refl c)

-- the procedure at block b, a status being sent
abbrev pub asks_at : Procedure → ℕ → Procedure
asks_at p b = with_timer p (in_state (clocked p.inactivity b) SendingUnsolicited true)

-- where a status is asked for, the answer is that status, and never the end
pub sends_that : (p : Procedure) (o : Option ArqStatus) (t : StatusTransmission) → gives (sends_status p o) ≡ gives (timers.SendStatus t) → (unwrap_or o blank_status ≡ t.request.status) × (p.inactivity.transaction ≡ t.token)
sends_that p o t e = let z : unsolicited p (unwrap_or o blank_status) ≡ t = cc in (ap (λ (y : StatusTransmission). y.request.status) z, ap (λ (y : StatusTransmission). y.token) z)

-- of what is held it is the status of that
pub sends_that_held : (p : Procedure) (o : Option ArqStatus) (t : StatusTransmission) → is_some o ≡ true → gives (sends_status p o) ≡ gives (timers.SendStatus t) → (o ≡ Some t.request.status) × (p.inactivity.transaction ≡ t.token)
sends_that_held p (Some x) t h e = let z = sends_that p (Some x) t e in (ap (λ (s : ArqStatus). Some s) z.0, z.1)
sends_that_held p None t h e = cc

pub sends_no_end : (p : Procedure) (o : Option ArqStatus) → gives (sends_status p o) ≡ gives timers.Terminated → ⊥
sends_no_end p o e = cc

-- refused, or due at the moved clock
pub advance_ways : (P : After TimerEvent Procedure → Type 0) (p : Procedure) (b : ℕ) → ((n : ℕ) → P (record { outcome = refuses n; state = p }))
    → ((q : Procedure) → Clocked p b q → P (due_at q)) → P (advance_of p b)
unfolding advance_of
advance_ways P p b = admits_ways P p b due_at

-- ---- status_sent

-- foreign; refused; the end; or what the timer makes of it
module _ (P : After SendEvent Procedure → Type 0) (p : Procedure) (b : ℕ) (x : StatusTransmission) where
  sent_at_ways : (r : StatusResult) (q : Procedure) → ((e : SendEvent) → (e ≡ sends.Complete) ⊎ (e ≡ sends.Failed) → P (says e (ended q)))
      → P (says sends.Pending (with_timer q (after_sent x.kind q.inactivity))) → P (sent_at x r q)
  sent_at_ways results.Failed q ends goes = ends sends.Failed (inr refl)
  sent_at_ways results.Sent q ends goes = by x.complete_at_poll refl
    where
      by : (y : Bool) → x.complete_at_poll ≡ y → P (sent_at x results.Sent q)
      by true e = rw e (ends sends.Complete (inl refl))
      by false e = rw e goes

  pub sent_ways : (r : StatusResult) → (owns_of p.inactivity x.token ≡ false → P (says sends.Ignored p)) → ((n : ℕ) → P (record { outcome = refuses n; state = p }))
      → ((q : Procedure) → owns_of p.inactivity x.token ≡ true → Clocked p b q → (e : SendEvent) → (e ≡ sends.Complete) ⊎ (e ≡ sends.Failed) → P (says e (ended q)))
      → ((q : Procedure) → owns_of p.inactivity x.token ≡ true → Clocked p b q → P (says sends.Pending (with_timer q (after_sent x.kind q.inactivity)))) → P (status_sent_of p b x r)
  unfolding status_sent_of
  sent_ways r foreign stops ends goes = by (owns_of p.inactivity x.token) refl
    where
      by : (y : Bool) → owns_of p.inactivity x.token ≡ y → P (cond y (onward p (admits p b) (sent_at x r)) (says sends.Ignored p))
      by true e = admits_ways P p b (sent_at x r) stops (λ q c. sent_at_ways r q (ends q e c) (goes q e c))
      by false e = foreign e

-- ---- receive

-- refused with the clock moved; Ignored; accepted
module _ (P : Outcome ReceiveEvent → Procedure → Type 0) (p : Procedure) (block : ℕ) (xs b : List ℕ) where
  abbrev PO : Out → Type 0
  PO o = P o.outcome o.procedure

  module _ (halts : (q : Procedure) (n : ℕ) → Clocked p block q → P (refuses n) q) (ignores : (q : Procedure) → Clocked p block q → P (gives receives.Ignored) q)
      (accepts : (q : Procedure) → Clocked p block q → (f : ArqFrame) → decode_of xs ≡ gives f → (m : Option SingleMessage) (r : Option StatusRequest) (s : ArqReassembler) → is_some s.transaction ≡ true
      → let a = accepted (by_kind f.kind true false) m r (record { receiver = s; inactivity = q.inactivity }) in P a.outcome a.state) where
    taken_ways : (f : ArqFrame) → decode_of xs ≡ gives f → (x : Outcome Reception) (o : R.Out) (q : Procedure) → Clocked p block q → o.outcome ≡ x
        → ((m : Option SingleMessage) (r : Option StatusRequest) → o.outcome ≡ gives (receptions.Accepted m r) → is_some o.receiver.transaction ≡ true)
        → (o.outcome ≡ gives receptions.Ignored → o.receiver ≡ q.receiver) → ((n : ℕ) → o.outcome ≡ refuses n → o.receiver ≡ q.receiver)
        → PO (by_answer (by_kind f.kind true false) x (record { receiver = o.receiver; inactivity = q.inactivity }) o.buffer)
    taken_ways f d (gives receptions.Ignored) o q c e h i n = rw (i e) (ignores q c)
    taken_ways f d (gives (receptions.Accepted m r)) o q c e h i n = accepts q c f d m r o.receiver (h m r e)
    taken_ways f d (refuses k) o q c e h i n = rw (n k e) (halts q k c)

    decoded_ways : (q : Procedure) → Clocked p block q → 255 ≤ length b → (x : Outcome ArqFrame) → decode_of xs ≡ x → PO (decoded q b x)
    decoded_ways q c l (gives f) e =
        let s = q.receiver in
        taken_ways f e (push_frame s b f).outcome (push_frame s b f) q c refl (accepted_held s f b) (ignored-same s xs b f l e) (λ n. refused_same s xs b f n l e)
    decoded_ways q c l (refuses n) e = halts q n c

    let_through_lem : {t : Timer} → let_through p.inactivity block (length b) ≡ gives t → PO (decoded (with_timer p t) b (decode_of xs))
    let_through_lem {t} e =
        let k = let_through_gives p.inactivity block (length b) e in
        let z = ticked_gives p.inactivity block k.1 in
        decoded_ways (with_timer p t) (record { tokens = k.2; later = z.1; here = ap (with_timer p) z.0 }) k.0 (decode_of xs) refl

  -- where 18, 16 and 17 let it through
  pub receive_passes : {t : Timer} → let_through p.inactivity block (length b) ≡ gives t → ((q : Procedure) (n : ℕ) → Clocked p block q → P (refuses n) q)
      → ((q : Procedure) → Clocked p block q → P (gives receives.Ignored) q)
      → ((q : Procedure) → Clocked p block q → (f : ArqFrame) → decode_of xs ≡ gives f → (m : Option SingleMessage) (r : Option StatusRequest) (s : ArqReassembler) → is_some s.transaction ≡ true
      → let a = accepted (by_kind f.kind true false) m r (record { receiver = s; inactivity = q.inactivity }) in P a.outcome a.state)
      → P (receive_of p block xs b).outcome (receive_of p block xs b).procedure
  receive_passes e halts ignores accepts = subst PO (sym (receive_parts p block xs b)) (subst (λ o. PO (then_hears p xs b o)) (sym e) (let_through_lem halts ignores accepts e))

  -- and where they do not
  pub receive_ways : ((n : ℕ) → P (refuses n) p) → ((q : Procedure) (n : ℕ) → Clocked p block q → P (refuses n) q) → ((q : Procedure) → Clocked p block q → P (gives receives.Ignored) q)
      → ((q : Procedure) → Clocked p block q → (f : ArqFrame) → decode_of xs ≡ gives f → (m : Option SingleMessage) (r : Option StatusRequest) (s : ArqReassembler) → is_some s.transaction ≡ true
      → let a = accepted (by_kind f.kind true false) m r (record { receiver = s; inactivity = q.inactivity }) in P a.outcome a.state)
      → P (receive_of p block xs b).outcome (receive_of p block xs b).procedure
  receive_ways stops halts ignores accepts = subst PO (sym (receive_parts p block xs b)) (by (let_through p.inactivity block (length b)) refl)
    where
      by : (o : Outcome Timer) → let_through p.inactivity block (length b) ≡ o → PO (then_hears p xs b o)
      by (gives t) e = let_through_lem halts ignores accepts e
      by (refuses n) e = stops n
