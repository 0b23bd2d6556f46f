-- `receive` as it is read and its parts come to the same. Assumes nothing.
use Rattle.std.proofs.Common.{◌≡◌, ℕ, Bool, true, false, cond, ◌&&◌, List, length, is_none, Some, None, Ok, Option, Result, sym, refl, ap, ◌∙◌}
use Rattle.receiver.specs.declared.SingleMessage.{SingleMessage}
use Rattle.receiver.specs.declared.StatusRequest.{StatusRequest}
use Rattle.spach.specs.declared.SpachError.{SpachError}
use Rattle.spach.specs.Refusal.{number_of, by_number, Outcome, gives, refuses}
use Rattle.arq.specs.declared.ArqFrame.{ArqFrame}
use Rattle.arq.specs.Encode.{by_kind}
use Rattle.arq.specs.Decode.{decode_of}
use Rattle.receiver.specs.declared.Reception.{Reception}
use Rattle.receiver.specs.declared.Reception.TheVariants as receptions
use Rattle.receiver.specs.declared.ArqReassembler.{ArqReassembler}
use Rattle.receiver.specs.Receiver as R
use Rattle.receiver.specs.Receiver.{push_frame, complete_of}
use Rattle.inactivity.specs.Inactivity.{Timer}
use Rattle.procedure.specs.declared.StatusTransmission.{StatusTransmission}
use Rattle.procedure.specs.declared.ReceiveEvent.TheVariants as receives
use Rattle.procedure.specs.Procedure.{Procedure, Out, with_timer, ended, says, beside, refusal, goes_on, or_ignored, polled, received, receive_of}
use Rattle.procedure.specs.Parts.{timed, ends_unpolled, accepted, by_answer, pushes, decoded, let_through, then_hears, receive_by_parts}

-- a complete message whose frame was not polled
ends_same : (r : Option StatusRequest) (complete : Bool) (q : Procedure) → cond (complete && is_none r) (ended q) q ≡ ends_unpolled r complete q
ends_same None true q = refl
ends_same None false q = refl
ends_same (Some r) true q = refl
ends_same (Some r) false q = refl

-- from an accepted frame on
abbrev accepts : Bool → Procedure → List ℕ → Option SingleMessage → Option StatusRequest → Out
accepts begin pushed b m r =
    let t = timed begin (complete_of pushed.receiver) pushed.inactivity in
    let q = with_timer pushed t in
    let complete = complete_of pushed.receiver in
    beside (says (receives.Accepted m (polled r t complete)) (cond (complete && is_none r) (ended q) q)) b

answer_same : (begin : Bool) (x : Outcome Reception) (pushed : Procedure) (b : List ℕ)
    → goes_on pushed b x (λ said. or_ignored (beside (says receives.Ignored pushed) b) said (accepts begin pushed b)) ≡ by_answer begin x pushed b
unfolding accepted
answer_same begin (refuses n) pushed b = refl
answer_same begin (gives receptions.Ignored) pushed b = refl
answer_same begin (gives (receptions.Accepted m r)) pushed b =
    let complete : Bool = complete_of pushed.receiver in
    let t : Timer = timed begin complete pushed.inactivity in
    ap (λ (q : Procedure). beside (says (receives.Accepted m (polled r t complete)) q) b) (ends_same r complete (with_timer pushed t))

-- from the moved clock on
abbrev hears : Procedure → List ℕ → ArqFrame → Out
hears p b f =
    let o = push_frame p.receiver b f in
    let pushed : Procedure = record { receiver = o.receiver; inactivity = p.inactivity } in
    goes_on pushed o.buffer o.outcome
    (λ said. or_ignored (beside (says receives.Ignored pushed) o.buffer) said (accepts (by_kind f.kind true false) pushed o.buffer))

decoded-same : (p : Procedure) (b : List ℕ) (x : Outcome ArqFrame) → goes_on p b x (hears p b) ≡ decoded p b x
decoded-same p b (refuses n) = refl
decoded-same p b (gives f) =
    let o : R.Out = push_frame p.receiver b f in
    answer_same (by_kind f.kind true false) o.outcome (record { receiver = o.receiver; inactivity = p.inactivity }) o.buffer

clock_same : (p : Procedure) (xs b : List ℕ) (x : Outcome Timer)
    → goes_on p b x (λ moved. goes_on (with_timer p moved) b (decode_of xs) (hears (with_timer p moved) b)) ≡ then_hears p xs b x
clock_same p xs b (refuses n) = refl
clock_same p xs b (gives t) = decoded-same (with_timer p t) b (decode_of xs)

-- the whole
pub receive_parts : (p : Procedure) (block : ℕ) (xs b : List ℕ) → receive_of p block xs b ≡ receive_by_parts p block xs b
unfolding receive_of
receive_parts p block xs b = clock_same p xs b (let_through p.inactivity block (length b))

-- by what the push left
abbrev by_push : Procedure → ArqFrame → R.Out → Out
by_push p f o = by_answer (by_kind f.kind true false) o.outcome (record { receiver = o.receiver; inactivity = p.inactivity }) o.buffer

-- what the code makes of an accepted frame
pub accepts_frame : (p : Procedure) (b c : List ℕ) (f : ArqFrame) (r : ArqReassembler × Result Reception SpachError) {m : Option SingleMessage} {q : Option StatusRequest} {begin complete : Bool} {t : Timer} {s : Option StatusTransmission} {z : Procedure}
    → R.pushed r c ≡ push_frame p.receiver b f → r.1 ≡ Ok (receptions.Accepted m q)
    → begin ≡ by_kind f.kind true false → complete ≡ complete_of r.0 → t ≡ timed begin complete p.inactivity → s ≡ polled q t complete → z ≡ ends_unpolled q complete (record { receiver = r.0; inactivity = t })
    → received (z, Ok (receives.Accepted m s)) c ≡ pushes p b f
unfolding accepted
accepts_frame p b c f r {m} {q} e g eb ec et es ez =
    rw (ez, es, et, ec, eb) (ap (λ (x : Result Reception SpachError). by_answer (by_kind f.kind true false) (by_number number_of x) (record { receiver = r.0; inactivity = p.inactivity }) c) (sym g) ∙ ap (by_push p f) e)

-- where 18, 16 and 17 refuse, and where they let it through
module _ (p : Procedure) (block : ℕ) (xs b : List ℕ) where
  pub receive_refused : {n : ℕ} → refuses n ≡ let_through p.inactivity block (length b) → refusal n p b ≡ receive_of p block xs b
  receive_refused e = ap (then_hears p xs b) e ∙ sym (receive_parts p block xs b)

  pub receive_goes : {t : Timer} → gives t ≡ let_through p.inactivity block (length b) → decoded (with_timer p t) b (decode_of xs) ≡ receive_of p block xs b
  receive_goes e = ap (then_hears p xs b) e ∙ sym (receive_parts p block xs b)
