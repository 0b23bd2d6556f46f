-- `receive` in the parts that functions answer: only their contracts and laws need this. Together they come to Procedure's
-- `receive_of` (proofs/Parts.antt). Assumes nothing.
use Rattle.std.specs.Prelude.{Bool, true, false, cond, List, ℕ, ltb, length, Option, Some, None}
use Rattle.token.specs.Token.{fewer_than}
use Rattle.spach.specs.Refusal.{Outcome, gives, refuses, refuse, After}
use Rattle.arq.specs.declared.ArqFrame.{ArqFrame}
use Rattle.arq.specs.Encode.{by_kind}
use Rattle.arq.specs.Decode.{decode_of}
use Rattle.receiver.specs.declared.SingleMessage.{SingleMessage}
use Rattle.receiver.specs.declared.StatusRequest.{StatusRequest}
use Rattle.receiver.specs.declared.Reception.{Reception}
use Rattle.receiver.specs.declared.Reception.TheVariants as receptions
use Rattle.receiver.specs.Receiver.{push_frame, complete_of}
use Rattle.inactivity.specs.Inactivity.{Timer, renewed, waiting, ticked}
use Rattle.procedure.specs.declared.ReceiveEvent.{ReceiveEvent}
use Rattle.procedure.specs.declared.ReceiveEvent.TheVariants as receives
use Rattle.procedure.specs.Procedure.{Procedure, Out, with_timer, ended, says, beside, refusal, polled}

-- a Begin replaces the transaction, and resets the timer
abbrev pub reset_by : Bool → Timer → Timer
reset_by begin t = cond begin (renewed t) t

-- while the message is not complete it waits from this block on
abbrev pub timed : Bool → Bool → Timer → Timer
timed begin complete t = cond complete (reset_by begin t) (waiting (reset_by begin t))

-- a complete message whose frame was not polled ends the transaction
abbrev pub ends_unpolled : Option StatusRequest → Bool → Procedure → Procedure
ends_unpolled None complete p = cond complete (ended p) p
ends_unpolled (Some r) complete p = p

-- a frame that the receiver accepted: `begin` if it is a Begin
unfoldable pub accepted : Bool → Option SingleMessage → Option StatusRequest → Procedure → After ReceiveEvent Procedure
accepted begin m r p =
    let complete = complete_of p.receiver in
    let t = timed begin complete p.inactivity in
    says (receives.Accepted m (polled r t complete)) (ends_unpolled r complete (with_timer p t))

-- by what the receiver says of it
abbrev pub by_reception : Bool → Reception → Procedure → After ReceiveEvent Procedure
by_reception begin receptions.Ignored p = says receives.Ignored p
by_reception begin (receptions.Accepted m r) p = accepted begin m r p

-- the receiver's answer to the frame: a refusal leaves the receiver as it was
abbrev pub by_answer : Bool → Outcome Reception → Procedure → List ℕ → Out
by_answer begin (gives r) p b = beside (by_reception begin r p) b
by_answer begin (refuses n) p b = refusal n p b

-- a frame that was decoded is pushed
abbrev pub pushes : Procedure → List ℕ → ArqFrame → Out
pushes p b f = let o = push_frame p.receiver b f in by_answer (by_kind f.kind true false) o.outcome (record { receiver = o.receiver; inactivity = p.inactivity }) o.buffer

-- decode's refusals come before
abbrev pub decoded : Procedure → List ℕ → Outcome ArqFrame → Out
decoded p b (gives f) = pushes p b f
decoded p b (refuses n) = refusal n p b

-- fewer than 4 tokens left 18; room under 255 octets 16; the clock gone back 17; then the clock is moved
abbrev pub let_through : Timer → ℕ → ℕ → Outcome Timer
let_through t b room = refuse (fewer_than 4 t.next_token) 18 (refuse (ltb room 255) 16 (ticked t b))

-- at the moved clock, if it comes to that
abbrev pub then_hears : Procedure → List ℕ → List ℕ → Outcome Timer → Out
then_hears p xs b (gives t) = decoded (with_timer p t) b (decode_of xs)
then_hears p xs b (refuses n) = refusal n p b

-- all of it
abbrev pub receive_by_parts : Procedure → ℕ → List ℕ → List ℕ → Out
receive_by_parts p block xs b = then_hears p xs b (let_through p.inactivity block (length b))
