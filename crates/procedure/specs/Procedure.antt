-- 01, module 5: ArqProcedure, in the order of the Rust. What each call answers, and the procedure and the buffer that it
-- leaves. Assumes nothing.
use Rattle.std.specs.Prelude.{◌≡◌, Bool, true, false, cond, ◌&&◌, List, ℕ, ltb, length, Option, option_map, is_some, is_none, unwrap_or, Result}
use Rattle.rach.specs.declared.MobileIdentity.{MobileIdentity}
use Rattle.token.specs.Token.{fewer_than}
use Rattle.spach.specs.Refusal.{Outcome, gives, refuses, refuse, and_then, left, After, onward}
use Rattle.arq.specs.declared.ResponseMode.TheVariants.{Contention}
use Rattle.arq.specs.Encode.{by_kind}
use Rattle.arq.specs.Decode.{decode_of}
use Rattle.receiver.specs.declared.ArqReassembler.{ArqReassembler}
use Rattle.receiver.specs.declared.ArqStatus.{ArqStatus}
use Rattle.receiver.specs.declared.SingleMessage.{SingleMessage}
use Rattle.receiver.specs.declared.StatusRequest.{StatusRequest}
use Rattle.receiver.specs.declared.Reception.{Reception}
use Rattle.receiver.specs.declared.Reception.TheVariants as receptions
use Rattle.receiver.specs.Receiver as R
use Rattle.receiver.specs.Receiver.{push_frame, status_answer, complete_of}
use Rattle.receiver.specs.Valid.{Valid}
use Rattle.inactivity.specs.declared.ProcedureError.{ProcedureError}
use Rattle.inactivity.specs.declared.StatusResult.{StatusResult}
use Rattle.inactivity.specs.declared.StatusResult.TheVariants as results
use Rattle.inactivity.specs.declared.InactivityAction.{InactivityAction}
use Rattle.inactivity.specs.declared.InactivityAction.TheVariants as actions
use Rattle.inactivity.specs.Inactivity as I
use Rattle.inactivity.specs.Inactivity.{Timer, owns_of, renewed, waiting, enough, ticked, admitted, due_of, solicited_at, unsolicited_at, is_idle, refusal_of}
use Rattle.procedure.specs.declared.StatusKind.{StatusKind}
use Rattle.procedure.specs.declared.StatusKind.TheVariants.{Solicited, Unsolicited}
use Rattle.procedure.specs.declared.StatusTransmission.{StatusTransmission}
use Rattle.procedure.specs.declared.ReceiveEvent.{ReceiveEvent}
use Rattle.procedure.specs.declared.ReceiveEvent.TheVariants as receives
use Rattle.procedure.specs.declared.TimerEvent.{TimerEvent}
use Rattle.procedure.specs.declared.TimerEvent.TheVariants as timers
use Rattle.procedure.specs.declared.SendEvent.{SendEvent}
use Rattle.procedure.specs.declared.SendEvent.TheVariants as sends

-- ---- the state

-- what contracts see of an ArqProcedure: its parts
pub record Procedure : Type 0 where
  pub receiver : ArqReassembler
  pub inactivity : Timer

-- made with a bad identity: 2
unfoldable pub new_of : MobileIdentity → ℕ → Outcome Procedure
new_of i first = and_then (R.new_of i) (λ r. gives (record { receiver = r; inactivity = I.new_of first }))

-- with another timer
abbrev pub with_timer : Procedure → Timer → Procedure
with_timer p t = record p { inactivity = t }

-- reset as the Rust has it, inner resets too: nothing is held, and the timer is idle under the next token
abbrev pub ended : Procedure → Procedure
ended p = record { receiver = R.reset_of p.receiver; inactivity = renewed p.inactivity }

-- 18, then 17; then the clock is moved
abbrev pub admits : Procedure → ℕ → Outcome Procedure
admits p b = and_then (admitted p.inactivity b) (λ t. gives (with_timer p t))

-- an event, and the procedure beside it
abbrev pub says : {A : Type 0} → A → Procedure → After A Procedure
says e p = record { outcome = gives e; state = p }

-- `reset`: fewer than 4 tokens left 18; else nothing is held, under a new token
unfoldable pub reset_of : Procedure → After Unit Procedure
reset_of p = onward p (and_then (enough p.inactivity) (λ t. gives (with_timer p t))) (λ q. says tt (ended q))

-- `active`: a transaction is held
abbrev pub active_of : Procedure → Bool
active_of p = is_some p.receiver.transaction

-- ---- receive

-- what a receive leaves: the outcome, the procedure, the lent buffer
pub record Out : Type 0 where
  pub outcome : Outcome ReceiveEvent
  pub procedure : Procedure
  pub buffer : List ℕ

-- what a receive leaves, with the buffer
abbrev pub beside : After ReceiveEvent Procedure → List ℕ → Out
beside a b = record { outcome = a.outcome; procedure = a.state; buffer = b }

-- a refusal changes nothing but a clock that was accepted before it
abbrev pub refusal : ℕ → Procedure → List ℕ → Out
refusal n p b = record { outcome = refuses n; procedure = p; buffer = b }

-- a refusal ends the call, with the procedure p and the buffer b left; else it goes on with what was given
abbrev pub goes_on : {A : Type 0} → Procedure → List ℕ → Outcome A → (A → Out) → Out
goes_on p b (gives a) next = next a
goes_on p b (refuses n) next = refusal n p b

-- a frame that is Ignored ends it too; else it goes on with the message, if there is one, and with what status is asked for
abbrev pub or_ignored : Out → Reception → (Option SingleMessage → Option StatusRequest → Out) → Out
or_ignored o receptions.Ignored next = o
or_ignored o (receptions.Accepted m r) next = next m r

-- the status that a polled frame asks for, under the timer's token
abbrev pub polled : Option StatusRequest → Timer → Bool → Option StatusTransmission
polled r t complete = option_map (λ q. record { request = q; token = t.transaction; kind = Solicited; complete_at_poll = complete }) r

-- `receive` (IS-136.1-A 5.4.2), in the order of the Rust: fewer than 4 tokens left 18; buffer under 255 octets 16; the clock gone
-- back 17; an accepted clock stays moved. Then decode's refusals and push's. A Begin replaces the transaction, and resets the
-- timer; while the message is not complete it waits from this block on; a complete message whose frame was not polled ends the
-- transaction
unfoldable pub receive_of : Procedure → ℕ → List ℕ → List ℕ → Out
receive_of p block xs b =
    let timer = p.inactivity in
    goes_on p b (refuse (fewer_than 4 timer.next_token) 18 (refuse (ltb (length b) 255) 16 (ticked timer block))) (λ moved.
    goes_on (with_timer p moved) b (decode_of xs) (λ frame.
    let begin = by_kind frame.kind true false in
    let o = push_frame p.receiver b frame in
    let pushed : Procedure = record { receiver = o.receiver; inactivity = moved } in
    goes_on pushed o.buffer o.outcome (λ said.
    or_ignored (beside (says receives.Ignored pushed) o.buffer) said (λ message request.
    let reset = cond begin (renewed moved) moved in
    let complete = complete_of o.receiver in
    let waits = cond complete reset (waiting reset) in
    let q = with_timer pushed waits in
    beside (says (receives.Accepted message (polled request waits complete)) (cond (complete && is_none request) (ended q) q)) o.buffer))))

-- ---- advance

-- IS-136.1-A 5.3.1.2, an unsolicited status: echo and map that are held, by contention
abbrev pub unsolicited : Procedure → ArqStatus → StatusTransmission
unsolicited p s =
    record {
      request = record { status = s; response_mode = Contention };
      token = p.inactivity.transaction;
      kind = Unsolicited;
      complete_at_poll = false;
    }

-- of nothing held: echo 0 and an empty map
abbrev pub blank_status : ArqStatus
blank_status = record { partial_echo = 0; received_frames = 0 }

-- it is sent; a transaction is held wherever one is asked for (Sound `armed`)
abbrev pub sends_status : Procedure → Option ArqStatus → TimerEvent
sends_status p s = timers.SendStatus (unsolicited p (unwrap_or s blank_status))

-- what the timer's action comes to
abbrev pub follows : InactivityAction → Procedure → After TimerEvent Procedure
follows actions.None p = says timers.None p
follows actions.RequestUnsolicitedStatus p = says (sends_status p (status_answer p.receiver)) p
follows actions.Terminate p = says timers.Terminated (ended p)

-- what is due at the clock's block; a complete message waits for its status alone
abbrev pub due_at : Procedure → After TimerEvent Procedure
due_at p = let d = due_of p.inactivity in cond (complete_of p.receiver) (says timers.None p) (follows d.1 (with_timer p d.0))

-- `advance`: 18, 17; then what is due
unfoldable pub advance_of : Procedure → ℕ → After TimerEvent Procedure
advance_of p b = onward p (admits p b) due_at

-- ---- status_sent

-- the timer after a status of a kind was sent
abbrev pub after_sent : StatusKind → Timer → Timer
after_sent Solicited t = (solicited_at results.Sent t).0
after_sent Unsolicited t = (unsolicited_at results.Sent t).0

-- at the moved clock
abbrev pub sent_at : StatusTransmission → StatusResult → Procedure → After SendEvent Procedure
sent_at x results.Sent p = cond x.complete_at_poll (says sends.Complete (ended p)) (says sends.Pending (with_timer p (after_sent x.kind p.inactivity)))
sent_at x results.Failed p = says sends.Failed (ended p)

-- a foreign token is Ignored first; then 18, then 17
unfoldable pub status_sent_of : Procedure → ℕ → StatusTransmission → StatusResult → After SendEvent Procedure
status_sent_of p b x r = cond (owns_of p.inactivity x.token) (onward p (admits p b) (sent_at x r)) (says sends.Ignored p)

-- ---- answers by 01's numbers

-- what a receive leaves, its refusal by number
abbrev pub received : Procedure × Result ReceiveEvent ProcedureError → List ℕ → Out
received r b = beside (left refusal_of r) b

-- ---- the invariant

-- what every procedure is that the constructor and the calls make: each call but `with_timer` says so (`sound`), and none asks for it
pub record Sound (p : Procedure) : Type 0 where
  pub receiver : Valid p.receiver
  pub inactivity : I.Sound p.inactivity
  -- the timer is armed only for an active transaction: so there is a status to send
  pub armed : is_idle p.inactivity.state ≡ false → active_of p ≡ true
