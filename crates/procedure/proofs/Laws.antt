-- Laws of the procedure, where the equality with its definition leaves a reader to ask. Assumes nothing.
use Rattle.std.proofs.Common.{◌≡◌, ℕ, Bool, true, false, List, length, Some, None, Option, option_map, is_some, unwrap_or, sym, refl, ap, ◌∙◌}
use Rattle.receiver.specs.declared.SingleMessage.{SingleMessage}
use Rattle.receiver.specs.declared.StatusRequest.{StatusRequest}
use Rattle.token.specs.Token.{number_after}
use Rattle.spach.specs.Refusal.{gives, refuses}
use Rattle.arq.specs.declared.FrameKind.{FrameKind}
use Rattle.arq.specs.declared.FrameKind.TheVariants.{Begin}
use Rattle.arq.specs.declared.ArqFrame.{ArqFrame}
use Rattle.arq.specs.Encode.{by_kind}
use Rattle.arq.specs.Decode.{decode_of}
use Rattle.receiver.specs.declared.ArqReassembler.{ArqReassembler}
use Rattle.inactivity.specs.declared.State.TheVariants.{Waiting}
use Rattle.receiver.specs.declared.transaction.Transaction.{Transaction}
use Rattle.receiver.specs.Receiver.{status_of, status_answer, complete_of}
use Rattle.inactivity.specs.Inactivity.{Timer, clocked}
use Rattle.procedure.specs.declared.StatusTransmission.{StatusTransmission}
use Rattle.procedure.specs.declared.ReceiveEvent.TheVariants as receives
use Rattle.procedure.specs.declared.TimerEvent.TheVariants as timers
use Rattle.procedure.specs.Procedure.{Procedure, Sound, with_timer, active_of, blank_status, refusal, receive_of, due_at, advance_of}
use Rattle.procedure.specs.Parts.{timed, ends_unpolled, accepted, let_through, then_hears}
use Rattle.procedure.specs.History.{present}
use Rattle.procedure.proofs.CallCases.{due_ways, asks_at, sends_that_held, sends_no_end, advance_ways, receive_passes, receive_ways}
use Rattle.procedure.proofs.Steps.{at}
use Rattle.procedure.proofs.Parts.{receive_parts}

-- what is held has a status
told : (s : ArqReassembler) → is_some s.transaction ≡ true → status_answer s ≡ Some (unwrap_or (status_answer s) blank_status)
told s = by s.transaction
  where
    by : (o : Option Transaction) → is_some o ≡ true → option_map status_of o ≡ Some (unwrap_or (option_map status_of o) blank_status)
    by (Some t) h = refl
    by None h = cc

-- the Rust's `expect`: where an unsolicited status is asked for, there is a status, and it is that one, if a transaction is held while the
-- timer waits
pub expected_held : (p : Procedure) (b : ℕ) (t : StatusTransmission) → ((since : ℕ) → p.inactivity.state ≡ Waiting since → active_of p ≡ true)
    → (advance_of p b).outcome ≡ gives (timers.SendStatus t) → status_answer p.receiver ≡ Some t.request.status
expected_held p b t held =
    advance_ways (λ a. a.outcome ≡ gives (timers.SendStatus t) → status_answer p.receiver ≡ Some t.request.status) p b (λ n e. cc)
    (λ q c. at (λ z. (due_at z).outcome ≡ gives (timers.SendStatus t) → status_answer p.receiver ≡ Some t.request.status) c
    (due_ways (λ a. a.outcome ≡ gives (timers.SendStatus t) → status_answer p.receiver ≡ Some t.request.status) (with_timer p (clocked p.inactivity b)) (λ k e. cc)
    (λ since st k f e. (sends_that_held (asks_at p b) (status_answer p.receiver) t (ap is_some (told p.receiver (held since st))) e).0) (λ since st k e. cc)))

-- it is, where the constructor and the calls made the procedure. That it is asked for wherever the timer says so is `advance_asks` of
-- Exactly, and that a transaction is held there `asks_held`
pub expected : (p : Procedure) (b : ℕ) (t : StatusTransmission) → Sound p → (advance_of p b).outcome ≡ gives (timers.SendStatus t) → status_answer p.receiver ≡ Some t.request.status
expected p b t s = expected_held p b t (λ since st. s.armed (rw st))

-- Terminated takes two token numbers: the timer's own reset, then the procedure's
pub terminated_takes_two : (p : Procedure) (b : ℕ) → (advance_of p b).outcome ≡ gives timers.Terminated → (advance_of p b).state.inactivity.next_token ≡ number_after (number_after p.inactivity.next_token)
terminated_takes_two p b =
    advance_ways (λ a. a.outcome ≡ gives timers.Terminated → a.state.inactivity.next_token ≡ number_after (number_after p.inactivity.next_token)) p b (λ n e. cc)
    (λ q c. at (λ z. (due_at z).outcome ≡ gives timers.Terminated → (due_at z).state.inactivity.next_token ≡ number_after (number_after p.inactivity.next_token)) c
    (due_ways (λ a. a.outcome ≡ gives timers.Terminated → a.state.inactivity.next_token ≡ number_after (number_after p.inactivity.next_token)) (with_timer p (clocked p.inactivity b))
    (λ k e. cc) (λ since st k f e. absurd (sends_no_end (asks_at p b) (status_answer p.receiver) e)) (λ since st k e. refl)))

begin_whole : (p : Procedure) (begin complete : Bool) (r : Option StatusRequest) → begin ≡ true → active_of p ≡ true → let q = ends_unpolled r complete (with_timer p (timed begin complete p.inactivity)) in active_of q ≡ false
    → q.inactivity.next_token ≡ number_after (number_after p.inactivity.next_token)
begin_whole p true true None b h e = refl
begin_whole p true false None b h e = let z : true ≡ false = sym h ∙ e in cc
begin_whole p true complete (Some r) b h e = let z : true ≡ false = sym h ∙ e in cc
begin_whole p false complete r b h e = cc

-- so does a Begin that is accepted and after which nothing is held: it resets the timer, then its message, complete and not
-- polled, ends the transaction
pub begin_takes_two : (p : Procedure) (block : ℕ) (xs b : List ℕ) (f : ArqFrame) (m : Option SingleMessage) (x : Option StatusTransmission) → decode_of xs ≡ gives f → f.kind ≡ Begin
    → (receive_of p block xs b).outcome ≡ gives (receives.Accepted m x) → active_of (receive_of p block xs b).procedure ≡ false
    → (receive_of p block xs b).procedure.inactivity.next_token ≡ number_after (number_after p.inactivity.next_token)
unfolding accepted
begin_takes_two p block xs b f m x d k =
    receive_ways (λ o q. o ≡ gives (receives.Accepted m x) → active_of q ≡ false → q.inactivity.next_token ≡ number_after (number_after p.inactivity.next_token)) p block xs b
    (λ n e. cc) (λ q n c e. cc) (λ q c e. cc)
    (λ q c g h n r s held e. at (λ z. active_of (accepted (by_kind g.kind true false) n r (record { receiver = s; inactivity = z.inactivity })).state ≡ false
    → (accepted (by_kind g.kind true false) n r (record { receiver = s; inactivity = z.inactivity })).state.inactivity.next_token ≡ number_after (number_after p.inactivity.next_token)) c
    (begin_whole (record { receiver = s; inactivity = clocked p.inactivity block }) (by_kind g.kind true false) (complete_of s) r (begins h) held))
  where
    begins : {g : ArqFrame} → decode_of xs ≡ gives g → by_kind g.kind true false ≡ true
    begins {g} h = let z : g ≡ f = let w = sym h ∙ d in cc in ap (λ (y : ArqFrame). by_kind y.kind true false) z ∙ ap (λ (y : FrameKind). by_kind y true false) k

-- a receive that 18, 16 or 17 refuses leaves the procedure
pub receive_stops : (p : Procedure) (block : ℕ) (xs b : List ℕ) (n : ℕ) → let_through p.inactivity block (length b) ≡ refuses n → receive_of p block xs b ≡ refusal n p b
receive_stops p block xs b n e = receive_parts p block xs b ∙ ap (then_hears p xs b) e

-- one that is let through and then refused or Ignored moves the clock, and nothing else: it stays moved, and the wait is not begun anew
pub receive_moves : (p : Procedure) (block : ℕ) (xs b : List ℕ) {t : Timer} → let_through p.inactivity block (length b) ≡ gives t
    → ((m : Option SingleMessage) (x : Option StatusTransmission) → (receive_of p block xs b).outcome ≡ gives (receives.Accepted m x) → ⊥) → (receive_of p block xs b).procedure ≡ with_timer p (clocked p.inactivity block)
unfolding accepted
receive_moves p block xs b {t} e =
    receive_passes (λ o q. ((m : Option SingleMessage) (x : Option StatusTransmission) → o ≡ gives (receives.Accepted m x) → ⊥) → q ≡ with_timer p (clocked p.inactivity block)) p block xs b e
    (λ q n c k. c.here) (λ q c k. c.here) (λ q c f d m r s h k. absurd (k m _ refl))

-- a polled frame's status goes out under the token that is present afterwards
pub polled_token : (p : Procedure) (block : ℕ) (xs b : List ℕ) (m : Option SingleMessage) (x : StatusTransmission) → (receive_of p block xs b).outcome ≡ gives (receives.Accepted m (Some x)) → x.token ≡ present (receive_of p block xs b).procedure
unfolding accepted
polled_token p block xs b m x =
    receive_ways (λ o q. o ≡ gives (receives.Accepted m (Some x)) → x.token ≡ present q) p block xs b (λ n e. cc)
    (λ q n c e. cc) (λ q c e. cc) (λ q c f d n r s h. by q (by_kind f.kind true false) n r s)
  where
    by : (q : Procedure) (begin : Bool) (n : Option SingleMessage) (r : Option StatusRequest) (s : ArqReassembler) → let a = accepted begin n r (record { receiver = s; inactivity = q.inactivity }) in a.outcome ≡ gives (receives.Accepted m (Some x)) → x.token ≡ present a.state
    by q begin n None s e = cc
    by q begin n (Some r) s e = told e
      where
        told : {y : StatusTransmission} → gives (receives.Accepted n (Some y)) ≡ gives (receives.Accepted m (Some x)) → x.token ≡ y.token
        told {y} w = let z : y ≡ x = cc in ap (λ (v : StatusTransmission). v.token) (sym z)

-- and it is the last one exactly if the message is complete afterwards
pub polled_complete : (p : Procedure) (block : ℕ) (xs b : List ℕ) (m : Option SingleMessage) (x : StatusTransmission) → (receive_of p block xs b).outcome ≡ gives (receives.Accepted m (Some x))
    → x.complete_at_poll ≡ complete_of (receive_of p block xs b).procedure.receiver
unfolding accepted
polled_complete p block xs b m x =
    receive_ways (λ o q. o ≡ gives (receives.Accepted m (Some x)) → x.complete_at_poll ≡ complete_of q.receiver) p block xs b (λ n e. cc)
    (λ q n c e. cc) (λ q c e. cc) (λ q c f d n r s h. by q (by_kind f.kind true false) n r s)
  where
    by : (q : Procedure) (begin : Bool) (n : Option SingleMessage) (r : Option StatusRequest) (s : ArqReassembler) → let a = accepted begin n r (record { receiver = s; inactivity = q.inactivity }) in a.outcome ≡ gives (receives.Accepted m (Some x)) → x.complete_at_poll ≡ complete_of a.state.receiver
    by q begin n None s e = cc
    by q begin n (Some r) s e = told e
      where
        told : {y : StatusTransmission} → gives (receives.Accepted n (Some y)) ≡ gives (receives.Accepted m (Some x)) → x.complete_at_poll ≡ y.complete_at_poll
        told {y} w = let z : y ≡ x = cc in ap (λ (v : StatusTransmission). v.complete_at_poll) (sym z)

-- a frame that was accepted, after which a transaction is held whose message is not complete
waits_by : (p : Procedure) (begin complete : Bool) (r : Option StatusRequest) → complete_of p.receiver ≡ complete → let q = ends_unpolled r complete (with_timer p (timed begin complete p.inactivity)) in active_of q ≡ true → complete_of q.receiver ≡ false
    → q.inactivity.state ≡ Waiting p.inactivity.last_block
waits_by p begin true None e a c = cc
waits_by p begin true (Some r) e a c = let z : true ≡ false = sym e ∙ c in cc
waits_by p true false None e a c = refl
waits_by p false false None e a c = refl
waits_by p true false (Some r) e a c = refl
waits_by p false false (Some r) e a c = refl

-- such a frame begins a new wait at its block, whatever the timer's state was
pub accepted-waits : (p : Procedure) (block : ℕ) (xs b : List ℕ) (m : Option SingleMessage) (x : Option StatusTransmission) → (receive_of p block xs b).outcome ≡ gives (receives.Accepted m x)
    → let q = (receive_of p block xs b).procedure in active_of q ≡ true → complete_of q.receiver ≡ false → q.inactivity.state ≡ Waiting block
unfolding accepted
accepted-waits p block xs b m x =
    receive_ways (λ o q. o ≡ gives (receives.Accepted m x) → active_of q ≡ true → complete_of q.receiver ≡ false → q.inactivity.state ≡ Waiting block) p block xs b
    (λ n e. cc) (λ q n c e. cc) (λ q c e. cc)
    (λ q c f d n r s h e. at (λ z. let a = (accepted (by_kind f.kind true false) n r (record { receiver = s; inactivity = z.inactivity })).state in active_of a ≡ true → complete_of a.receiver ≡ false → a.inactivity.state ≡ Waiting block) c
    (waits_by (record { receiver = s; inactivity = clocked p.inactivity block }) (by_kind f.kind true false) (complete_of s) r refl))
