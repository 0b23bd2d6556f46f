-- Each call of the procedure on every state: its answer and the procedure afterwards, said by the fields themselves, over what the receiver
-- and the timer do by their own laws. A definition that is changed, and its code alike, meets these no more. Assumes nothing.
use Rattle.std.proofs.Common.{◌≡◌, ℕ, ◌^◌, ◌<◌, ◌≤◌, Bool, true, false, cond, List, length, is_some, Some, None, Option, option_map, unwrap_or, sym, refl, ap, ◌∙◌, le-ltb, lt-ltb, eq-eqb, ne_eqb}
use Rattle.receiver.specs.declared.SingleMessage.{SingleMessage}
use Rattle.receiver.specs.declared.StatusRequest.{StatusRequest}
use Rattle.token.specs.Token.{fewer_than, number_after}
use Rattle.rach.specs.declared.MobileIdentity.{MobileIdentity}
use Rattle.rach.specs.Identity.{type_of, value_of, width_of}
use Rattle.spach.specs.Refusal.{Outcome, gives, refuses, and_then, After, onward}
use Rattle.spach.proofs.Outcomes.{gives_same}
use Rattle.arq.specs.declared.FrameKind.{FrameKind}
use Rattle.arq.specs.declared.FrameKind.TheVariants.{Begin, Continue}
use Rattle.arq.specs.declared.ArqFrame.{ArqFrame}
use Rattle.arq.specs.declared.ResponseMode.TheVariants.{Contention}
use Rattle.arq.specs.Encode.{by_kind}
use Rattle.arq.specs.Decode.{decode_of}
use Rattle.receiver.specs.declared.transaction.Transaction.{Transaction}
use Rattle.receiver.specs.declared.ArqReassembler.{ArqReassembler}
use Rattle.receiver.specs.declared.ArqStatus.{ArqStatus}
use Rattle.receiver.specs.declared.Reception.{Reception}
use Rattle.receiver.specs.declared.Reception.TheVariants as receptions
use Rattle.receiver.specs.Receiver as R
use Rattle.receiver.specs.Receiver.{push_frame, status_of, complete_of}
use Rattle.receiver.proofs.Laws.{made_exactly, made_2_exactly}
use Rattle.inactivity.specs.declared.State.{State}
use Rattle.inactivity.specs.declared.State.TheVariants.{Idle, Waiting, SendingUnsolicited, FinalWait}
use Rattle.inactivity.specs.declared.InactivityAction.{InactivityAction}
use Rattle.inactivity.specs.declared.InactivityAction.TheVariants as actions
use Rattle.inactivity.specs.declared.StatusResult.{StatusResult}
use Rattle.inactivity.specs.declared.StatusResult.TheVariants as results
use Rattle.inactivity.specs.Inactivity as I
use Rattle.inactivity.specs.Inactivity.{Timer, clocked, due_of, acts}
use Rattle.inactivity.proofs.Laws.{goes_to, starts_anew, answers, Admits}
use Rattle.procedure.specs.declared.StatusKind.{StatusKind}
use Rattle.procedure.specs.declared.StatusKind.TheVariants.{Solicited, Unsolicited}
use Rattle.procedure.specs.declared.StatusTransmission.{StatusTransmission}
use Rattle.procedure.specs.declared.ReceiveEvent.TheVariants as receives
use Rattle.procedure.specs.declared.TimerEvent.{TimerEvent}
use Rattle.procedure.specs.declared.TimerEvent.TheVariants as timers
use Rattle.procedure.specs.declared.SendEvent.{SendEvent}
use Rattle.procedure.specs.declared.SendEvent.TheVariants as sends
use Rattle.procedure.specs.Procedure.{Procedure, Sound, new_of, Out, with_timer, admits, says, reset_of, active_of, polled, receive_of, blank_status, follows, due_at, advance_of, after_sent, sent_at, status_sent_of}
use Rattle.procedure.specs.Parts.{timed, ends_unpolled, accepted, by_answer, decoded}
use Rattle.procedure.proofs.Parts.{receive_parts}

-- a receiver and a timer
abbrev made : ArqReassembler → Timer → Procedure
made r t = record { receiver = r; inactivity = t }

-- nothing is held, and the timer t starts anew at block b
abbrev over : ArqReassembler → Timer → ℕ → Procedure
over r t b = made (R.reset_of r) (starts_anew t b)

-- an answer, and the procedure beside it
abbrev tells : {A : Type 0} → A → Procedure → After A Procedure
tells a p = record { outcome = gives a; state = p }

-- ---- the constructor

-- of an identity of 1 to 2^width − 1: a fresh receiver of it, and an idle timer at block 0 under the first number
pub makes : (i : MobileIdentity) (first : ℕ) → (0 < value_of i) × (value_of i < 2 ^ width_of (type_of i))
    → new_of i first ≡ gives (made (R.fresh i) (record { state = Idle; last_block = 0; unsolicited_pending = false; transaction = record { 0 = first }; next_token = number_after first }))
unfolding new_of
makes i first h = ap (λ (o : Outcome ArqReassembler). and_then o (λ r. gives (made r (I.new_of first)))) ((made_exactly i).1 h)

-- of any other: 2
pub makes_2 : (i : MobileIdentity) (first : ℕ) → ((0 < value_of i) × (value_of i < 2 ^ width_of (type_of i)) → ⊥) → new_of i first ≡ refuses 2
unfolding new_of
makes_2 i first h = ap (λ (o : Outcome ArqReassembler). and_then o (λ r. gives (made r (I.new_of first)))) ((made_2_exactly i).1 h)

-- ---- receive

-- the timer t after an accepted frame at block b: a Begin starts it anew; while the message is not complete it waits from this block on,
-- whatever its state was, and a pending status stays pending
abbrev timer_after : FrameKind → (complete : Bool) → Timer → ℕ → Timer
timer_after Begin true t b = starts_anew t b
timer_after Begin false t b = goes_to (starts_anew t b) (Waiting b) b false
timer_after Continue true t b = goes_to t t.state b t.unsolicited_pending
timer_after Continue false t b = goes_to t (Waiting b) b t.unsolicited_pending

-- the status that a polled frame asks for: under the timer's token, and the last one exactly if the message is complete
abbrev asked : Option StatusRequest → Timer → (complete : Bool) → Option StatusTransmission
asked None t complete = None
asked (Some q) t complete = Some (record { request = q; token = t.transaction; kind = Solicited; complete_at_poll = complete })

-- what is left: a complete message whose frame was not polled is over
abbrev left : Option StatusRequest → (complete : Bool) → ArqReassembler → Timer → ℕ → Procedure
left None true s t b = over s t b
left None false s t b = made s t
left (Some q) complete s t b = made s t

-- 18, 16 and 17 let a receive at block b with so much room through
pub record Through (t : Timer) (b room : ℕ) : Type 0 where
  pub tokens : fewer_than 4 t.next_token ≡ false
  pub enough : 255 ≤ room
  pub later : t.last_block ≤ b

module _ (p : Procedure) (block : ℕ) (xs b : List ℕ) where
  abbrev timer : Timer
  timer = p.inactivity

  -- the clock moved, and nothing else
  abbrev moved : Procedure
  moved = made p.receiver (goes_to timer timer.state block timer.unsolicited_pending)

  -- refused by a number, with a procedure and the buffer as it was
  abbrev stops : ℕ → Procedure → Out
  stops n q = record { outcome = refuses n; procedure = q; buffer = b }

  pub receive_18 : fewer_than 4 timer.next_token ≡ true → receive_of p block xs b ≡ stops 18 p
  receive_18 e = rw (receive_parts p block xs b, e)

  pub receive_16 : fewer_than 4 timer.next_token ≡ false → length b < 255 → receive_of p block xs b ≡ stops 16 p
  receive_16 e l = rw (receive_parts p block xs b, e, lt-ltb (length b) 255 l)

  pub receive_17 : fewer_than 4 timer.next_token ≡ false → 255 ≤ length b → block < timer.last_block → receive_of p block xs b ≡ stops 17 p
  receive_17 e l k = rw (receive_parts p block xs b, e, le-ltb (length b) 255 l, lt-ltb block timer.last_block k)

  module _ (w : Through timer block (length b)) where
    goes : receive_of p block xs b ≡ decoded (with_timer p (clocked timer block)) b (decode_of xs)
    goes = rw (receive_parts p block xs b, w.tokens, le-ltb (length b) 255 w.enough, le-ltb block timer.last_block w.later)

    -- decode's refusals, with the clock moved
    pub receive_refuses : (n : ℕ) → decode_of xs ≡ refuses n → receive_of p block xs b ≡ stops n moved
    receive_refuses n e = goes ∙ ap (decoded (with_timer p (clocked timer block)) b) e

    module _ (f : ArqFrame) (d : decode_of xs ≡ gives f) where
      abbrev pushed : R.Out
      pushed = push_frame p.receiver b f

      heard_by : {o : Outcome Reception} → pushed.outcome ≡ o → receive_of p block xs b ≡ by_answer (by_kind f.kind true false) o (made pushed.receiver (clocked timer block)) pushed.buffer
      heard_by {o} e =
          goes ∙ ap (decoded (with_timer p (clocked timer block)) b) d
          ∙ ap (λ (x : Outcome Reception). by_answer (by_kind f.kind true false) x (made pushed.receiver (clocked timer block)) pushed.buffer) e

      -- a frame that the receiver refuses or Ignores: its number, or Ignored, with the receiver and the buffer that the push left
      pub receive_passes_on : (n : ℕ) → pushed.outcome ≡ refuses n
          → receive_of p block xs b ≡ record { outcome = refuses n; procedure = made pushed.receiver moved.inactivity; buffer = pushed.buffer }
      receive_passes_on n e = heard_by e

      pub receive_ignores : pushed.outcome ≡ gives receptions.Ignored
          → receive_of p block xs b ≡ record { outcome = gives receives.Ignored; procedure = made pushed.receiver moved.inactivity; buffer = pushed.buffer }
      receive_ignores e = heard_by e

      -- one that it accepts: message, status, receiver and buffer are the push's; the timer as above
      pub receive_accepts : (m : Option SingleMessage) (r : Option StatusRequest) → pushed.outcome ≡ gives (receptions.Accepted m r)
          → let complete = complete_of pushed.receiver in let t = timer_after f.kind complete timer block in
          receive_of p block xs b ≡ record { outcome = gives (receives.Accepted m (asked r t complete)); procedure = left r complete pushed.receiver t block; buffer = pushed.buffer }
      unfolding accepted
      receive_accepts m r e = heard_by e ∙ by f.kind (complete_of pushed.receiver) r
        where
          -- the definition at the moved clock, by kind, completeness and polling
          by : (k : FrameKind) (complete : Bool) (r : Option StatusRequest)
              → ◌≡◌ {A = Out} (record {
                outcome = gives (receives.Accepted m (polled r (timed (by_kind k true false) complete (clocked timer block)) complete));
                procedure = ends_unpolled r complete (made pushed.receiver (timed (by_kind k true false) complete (clocked timer block)));
                buffer = pushed.buffer;
              })
              (record {
                outcome = gives (receives.Accepted m (asked r (timer_after k complete timer block) complete));
                procedure = left r complete pushed.receiver (timer_after k complete timer block) block;
                buffer = pushed.buffer;
              })
          by Begin true None = refl
          by Begin true (Some q) = refl
          by Begin false None = refl
          by Begin false (Some q) = refl
          by Continue true None = refl
          by Continue true (Some q) = refl
          by Continue false None = refl
          by Continue false (Some q) = refl

-- ---- advance

-- the echo and the map of what is held; 0 and an empty map where nothing is
abbrev pub echo_and_map : Option Transaction → ArqStatus
echo_and_map (Some t) = record { partial_echo = t.partial_echo; received_frames = t.received_frames }
echo_and_map None = record { partial_echo = 0; received_frames = 0 }

module _ (p : Procedure) (b : ℕ) where
  abbrev before : Timer
  before = p.inactivity

  pub advance_18 : fewer_than 4 before.next_token ≡ true → advance_of p b ≡ record { outcome = refuses 18; state = p }
  unfolding advance_of
  advance_18 e = rw e

  pub advance_17 : fewer_than 4 before.next_token ≡ false → b < before.last_block → advance_of p b ≡ record { outcome = refuses 17; state = p }
  unfolding advance_of
  advance_17 e l = rw (e, lt-ltb b before.last_block l)

  module _ (a : Admits before b) where
    admits_on : {A : Type 0} (f : Procedure → After A Procedure) → onward p (admits p b) f ≡ f (with_timer p (clocked before b))
    admits_on f = rw (a.tokens, le-ltb b before.last_block a.later)

    -- by whether the message is complete
    due_by : {z : Bool} → complete_of p.receiver ≡ z
        → advance_of p b ≡ (let d = due_of (clocked before b) in cond z (says timers.None (with_timer p (clocked before b))) (follows d.1 (made p.receiver d.0)))
    unfolding advance_of
    due_by {z} c = admits_on due_at ∙ ap (λ (y : Bool). let d = due_of (clocked before b) in cond y (says timers.None (with_timer p (clocked before b))) (follows d.1 (made p.receiver d.0))) c

    -- a complete message waits for its status alone: None for ever, whatever the timer's state
    pub advance_complete : complete_of p.receiver ≡ true → advance_of p b ≡ tells timers.None (made p.receiver (goes_to before before.state b before.unsolicited_pending))
    advance_complete c = due_by c

    timer_due : I.advance_of before b ≡ acts (due_of (clocked before b))
    unfolding I.advance_of
    timer_due = rw (a.tokens, le-ltb b before.last_block a.later)

    -- else what the timer's advance comes to
    module _ (c : complete_of p.receiver ≡ false) (u : Timer) where
      follow : (x : InactivityAction) → I.advance_of before b ≡ answers x u → advance_of p b ≡ follows x (made p.receiver u)
      follow x e =
          let d : Timer × InactivityAction = due_of (clocked before b) in
          let v : acts d ≡ answers x u = sym timer_due ∙ e in
          let j : d.1 ≡ x = gives_same (ap (λ (o : After InactivityAction Timer). o.outcome) v) in
          let k : d.0 ≡ u = ap (λ (o : After InactivityAction Timer). o.state) v in
          due_by c
          ∙ ap (λ (z : InactivityAction). follows z (made p.receiver d.0)) j
          ∙ ap (λ (z : Timer). follows x (made p.receiver z)) k

      pub advance_none : I.advance_of before b ≡ answers actions.None u → advance_of p b ≡ tells timers.None (made p.receiver u)
      advance_none e = follow actions.None e

      -- by contention, with the echo and the map that are held, under the present token
      pub advance_asks : I.advance_of before b ≡ answers actions.RequestUnsolicitedStatus u
          → advance_of p b
          ≡ tells (timers.SendStatus (record {
            request = record { status = echo_and_map p.receiver.transaction; response_mode = Contention };
            token = u.transaction;
            kind = Unsolicited;
            complete_at_poll = false;
          }))
          (made p.receiver u)
      advance_asks e = follow actions.RequestUnsolicitedStatus e ∙ ap asking (told p.receiver.transaction)
        where
          asking : ArqStatus → After TimerEvent Procedure
          asking s = tells (timers.SendStatus (record { request = record { status = s; response_mode = Contention }; token = u.transaction; kind = Unsolicited; complete_at_poll = false })) (made p.receiver u)

          told : (o : Option Transaction) → unwrap_or (option_map status_of o) blank_status ≡ echo_and_map o
          told (Some t) = refl
          told None = refl

      -- those of the transaction t, where t is held
      pub advance_asks_held : (t : Transaction) → p.receiver.transaction ≡ Some t → I.advance_of before b ≡ answers actions.RequestUnsolicitedStatus u
          → advance_of p b
          ≡ tells (timers.SendStatus (record {
            request = record { status = record { partial_echo = t.partial_echo; received_frames = t.received_frames }; response_mode = Contention };
            token = u.transaction;
            kind = Unsolicited;
            complete_at_poll = false;
          }))
          (made p.receiver u)
      advance_asks_held t h e = advance_asks e ∙ ap asking h
        where
          asking : Option Transaction → After TimerEvent Procedure
          asking o = tells (timers.SendStatus (record { request = record { status = echo_and_map o; response_mode = Contention }; token = u.transaction; kind = Unsolicited; complete_at_poll = false })) (made p.receiver u)

      -- and a transaction is held wherever the timer asks for one
      pub asks_held : Sound p → I.advance_of before b ≡ answers actions.RequestUnsolicitedStatus u → (t : Transaction) × (p.receiver.transaction ≡ Some t)
      asks_held s e = there p.receiver.transaction (s.armed (armed before.state refl (sym timer_due ∙ e)))
        where
          armed : (k : State) → before.state ≡ k → acts (I.due k (clocked before b)) ≡ answers actions.RequestUnsolicitedStatus u → I.is_idle k ≡ false
          armed Idle z v = let w : actions.None ≡ actions.RequestUnsolicitedStatus = gives_same (ap (λ (o : After InactivityAction Timer). o.outcome) v) in cc
          armed (Waiting since) z v = refl
          armed SendingUnsolicited z v = refl
          armed (FinalWait since) z v = refl

          there : (o : Option Transaction) → is_some o ≡ true → (t : Transaction) × (o ≡ Some t)
          there (Some t) z = (t, refl)
          there None z = cc

      -- the end: nothing is held, and the timer starts anew once more
      pub advance_ends : I.advance_of before b ≡ answers actions.Terminate u → advance_of p b ≡ tells timers.Terminated (over p.receiver u u.last_block)
      advance_ends e = follow actions.Terminate e

-- ---- status_sent

module _ (p : Procedure) (b : ℕ) (x : StatusTransmission) (r : StatusResult) where
  abbrev held : Timer
  held = p.inactivity

  -- a foreign token is Ignored before all
  pub sent_foreign : (x.token.0 ≡ held.transaction.0 → ⊥) → status_sent_of p b x r ≡ tells sends.Ignored p
  unfolding status_sent_of
  sent_foreign n = rw (ne_eqb x.token.0 held.transaction.0 n)

  module _ (own : x.token.0 ≡ held.transaction.0) where
    taken : status_sent_of p b x r ≡ onward p (admits p b) (sent_at x r)
    unfolding status_sent_of
    taken = rw (eq-eqb x.token.0 held.transaction.0 own)

    pub sent_18 : fewer_than 4 held.next_token ≡ true → status_sent_of p b x r ≡ record { outcome = refuses 18; state = p }
    sent_18 e = taken ∙ rw e

    pub sent_17 : fewer_than 4 held.next_token ≡ false → b < held.last_block → status_sent_of p b x r ≡ record { outcome = refuses 17; state = p }
    sent_17 e l = taken ∙ rw (e, lt-ltb b held.last_block l)

    module _ (a : Admits held b) where
      at_clock : status_sent_of p b x r ≡ sent_at x r (with_timer p (clocked held b))
      at_clock = taken ∙ admits_on p b a (sent_at x r)

      by_result : {y : StatusResult} → r ≡ y → status_sent_of p b x r ≡ sent_at x y (with_timer p (clocked held b))
      by_result e = at_clock ∙ ap (λ (y : StatusResult). sent_at x y (with_timer p (clocked held b))) e

      -- one that failed ends the transaction, of whatever kind, complete or not
      pub sent_failed : r ≡ results.Failed → status_sent_of p b x r ≡ tells sends.Failed (over p.receiver held b)
      sent_failed e = by_result e

      -- the last one ends it too
      abbrev sent : Bool → After SendEvent Procedure
      sent last = cond last (says sends.Complete (over p.receiver held b)) (says sends.Pending (with_timer p (after_sent x.kind (clocked held b))))

      pub sent_complete : r ≡ results.Sent → x.complete_at_poll ≡ true → status_sent_of p b x r ≡ tells sends.Complete (over p.receiver held b)
      sent_complete e c = by_result e ∙ ap sent c

      -- any other is told to the timer, by its kind
      pending_by : {k : StatusKind} → r ≡ results.Sent → x.complete_at_poll ≡ false → x.kind ≡ k → status_sent_of p b x r ≡ tells sends.Pending (made p.receiver (after_sent k (clocked held b)))
      pending_by e c k = by_result e ∙ ap sent c ∙ ap (λ (z : StatusKind). tells sends.Pending (made p.receiver (after_sent z (clocked held b)))) k

      timer_solicited : I.solicited_of held x.token b results.Sent ≡ acts (I.solicited_at results.Sent (clocked held b))
      unfolding I.solicited_of
      timer_solicited = rw (eq-eqb x.token.0 held.transaction.0 own, a.tokens, le-ltb b held.last_block a.later)

      timer_unsolicited : I.unsolicited_of held x.token b results.Sent ≡ acts (I.unsolicited_at results.Sent (clocked held b))
      unfolding I.unsolicited_of
      timer_unsolicited = rw (eq-eqb x.token.0 held.transaction.0 own, a.tokens, le-ltb b held.last_block a.later)

      pub sent_solicited : r ≡ results.Sent → x.complete_at_poll ≡ false → x.kind ≡ Solicited
          → status_sent_of p b x r ≡ tells sends.Pending (made p.receiver (I.solicited_of held x.token b results.Sent).state)
      sent_solicited e c k = pending_by e c k ∙ ap (λ (o : After InactivityAction Timer). tells sends.Pending (made p.receiver o.state)) (sym timer_solicited)

      pub sent_unsolicited : r ≡ results.Sent → x.complete_at_poll ≡ false → x.kind ≡ Unsolicited
          → status_sent_of p b x r ≡ tells sends.Pending (made p.receiver (I.unsolicited_of held x.token b results.Sent).state)
      sent_unsolicited e c k = pending_by e c k ∙ ap (λ (o : After InactivityAction Timer). tells sends.Pending (made p.receiver o.state)) (sym timer_unsolicited)

-- ---- active

-- exactly while a transaction is held, whatever the timer's state
pub active_exactly : (p : Procedure) → active_of p ≡ is_some p.receiver.transaction
active_exactly p = refl

-- ---- reset

module _ (p : Procedure) where
  pub reset_ends : fewer_than 4 p.inactivity.next_token ≡ false → reset_of p ≡ tells tt (over p.receiver p.inactivity p.inactivity.last_block)
  unfolding reset_of
  reset_ends e = rw e

  pub reset_18 : fewer_than 4 p.inactivity.next_token ≡ true → reset_of p ≡ record { outcome = refuses 18; state = p }
  unfolding reset_of
  reset_18 e = rw e
