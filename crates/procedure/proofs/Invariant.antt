-- Each call of the procedure keeps the invariant. Assumes nothing.
use Rattle.std.proofs.Common.{◌≡◌, ℕ, ◌≤◌, Bool, true, false, cond, ltb, List, length, is_some, Some, None, Ok, Option, Result, sym, refl, ap, ◌∙◌, subst, ltb-false}
use Rattle.std.proofs.lemmas.Bool.{both_ways}
use Rattle.receiver.specs.declared.SingleMessage.{SingleMessage}
use Rattle.receiver.specs.declared.StatusRequest.{StatusRequest}
use Rattle.token.specs.Token.{fewer_than}
use Rattle.rach.specs.declared.MobileIdentity.{MobileIdentity}
use Rattle.spach.specs.declared.SpachError.{SpachError}
use Rattle.spach.specs.Refusal.{number_of, by_number, Outcome, gives, refuses, refuse, and_then, After, onward}
use Rattle.spach.proofs.Outcomes.{passed, then-gives, onward_cases}
use Rattle.arq.specs.declared.ArqFrame.{ArqFrame}
use Rattle.arq.specs.Encode.{by_kind}
use Rattle.arq.specs.Decode.{decode_of}
use Rattle.receiver.specs.declared.ArqReassembler.{ArqReassembler}
use Rattle.receiver.specs.declared.Reception.{Reception}
use Rattle.receiver.specs.declared.Reception.TheVariants as receptions
use Rattle.receiver.specs.Receiver as R
use Rattle.receiver.specs.Receiver.{push_frame, push_of, complete_of}
use Rattle.receiver.specs.Valid.{Valid}
use Rattle.receiver.proofs.Valid.{valid_new, valid_reset, valid_push}
use Rattle.receiver.proofs.Laws.{as_decoded, accepted_held, ignored_leaves, refusal_leaves}
use Rattle.inactivity.specs.declared.State.{State}
use Rattle.inactivity.specs.declared.State.TheVariants.{Idle, Waiting, SendingUnsolicited, FinalWait}
use Rattle.inactivity.specs.declared.StatusResult.{StatusResult}
use Rattle.inactivity.specs.declared.StatusResult.TheVariants as results
use Rattle.inactivity.specs.declared.InactivityAction.{InactivityAction}
use Rattle.inactivity.specs.declared.InactivityAction.TheVariants as actions
use Rattle.inactivity.specs.Inactivity as I
use Rattle.inactivity.specs.Inactivity.{Timer, owns_of, clocked, enough, ticked, admitted, due, due_of, solicited_at, unsolicited_at, is_idle}
use Rattle.inactivity.proofs.Calls.{ticked_gives, admitted_gives, enough_gives}
use Rattle.inactivity.proofs.Invariant as K
use Rattle.inactivity.proofs.Invariant.{cond_keeps}
use Rattle.procedure.specs.declared.StatusKind.{StatusKind}
use Rattle.procedure.specs.declared.StatusKind.TheVariants.{Solicited, Unsolicited}
use Rattle.procedure.specs.declared.StatusTransmission.{StatusTransmission}
use Rattle.procedure.specs.declared.TimerEvent.{TimerEvent}
use Rattle.procedure.specs.declared.SendEvent.{SendEvent}
use Rattle.procedure.specs.Procedure.{Procedure, Sound, new_of, with_timer, ended, admits, says, reset_of, active_of, Out, receive_of, follows, due_at, advance_of, after_sent, sent_at, status_sent_of}
use Rattle.procedure.specs.Parts.{reset_by, timed, ends_unpolled, accepted, by_answer, pushes, decoded, let_through, then_hears}
use Rattle.procedure.proofs.Parts.{receive_parts}

-- a procedure that holds a transaction may have any timer
active_sound : (p : Procedure) → Valid p.receiver → I.Sound p.inactivity → active_of p ≡ true → Sound p
active_sound p v s a = record { receiver = v; inactivity = s; armed = λ h. a }

-- reset
pub sound_ended : (p : Procedure) → Sound p → Sound (ended p)
sound_ended p s = record { receiver = valid_reset p.receiver s.receiver; inactivity = K.sound_renewed p.inactivity; armed = λ h. absurd (both_ways _ h refl) }

pub sound_made : (i : MobileIdentity) (first : ℕ) {r : ArqReassembler} → R.new_of i ≡ gives r → Sound (record { receiver = r; inactivity = I.new_of first })
sound_made i first {r} e = record { receiver = valid_new i r e; inactivity = K.sound_new first; armed = λ h. absurd (both_ways _ h refl) }

pub sound_new : (i : MobileIdentity) (first : ℕ) {p : Procedure} → new_of i first ≡ gives p → Sound p
unfolding new_of
sound_new i first {p} e =
    let q = then-gives (R.new_of i) (λ r. gives (record { receiver = r; inactivity = I.new_of first })) e in
    let z : record { receiver = q.0; inactivity = I.new_of first } ≡ p = let w = q.2 in cc in
    subst Sound z (sound_made i first q.1)

-- another timer, which is armed only where the old one was
sound_timer : (p : Procedure) (t : Timer) → I.Sound t → (is_idle t.state ≡ false → is_idle p.inactivity.state ≡ false) → Sound p → Sound (with_timer p t)
sound_timer p t s k h = record { receiver = h.receiver; inactivity = s; armed = λ i. h.armed (k i) }

-- the moved clock
sound_clock : (p : Procedure) (b : ℕ) {t : Timer} → t ≡ clocked p.inactivity b → p.inactivity.last_block ≤ b → Sound p → Sound (with_timer p t)
sound_clock p b e l h = subst (λ u. Sound (with_timer p u)) (sym e) (sound_timer p (clocked p.inactivity b) (K.sound_clocked p.inactivity b l h.inactivity) (λ i. i) h)

sound_ticked : (p : Procedure) (b : ℕ) {t : Timer} → ticked p.inactivity b ≡ gives t → Sound p → Sound (with_timer p t)
sound_ticked p b e h = let q = ticked_gives p.inactivity b e in sound_clock p b q.0 q.1 h

pub sound_admits : (p : Procedure) (b : ℕ) {q : Procedure} → admits p b ≡ gives q → Sound p → Sound q
sound_admits p b {q} e h =
    let a = then-gives (admitted p.inactivity b) (λ t. gives (with_timer p t)) e in
    let z : with_timer p a.0 ≡ q = let w = a.2 in cc in
    let k = admitted_gives p.inactivity b a.1 in
    subst Sound z (sound_clock p b k.1 k.2 h)

-- a call that goes on at the moved clock
admits_keeps : {A : Type 0} (p : Procedure) (b : ℕ) (f : Procedure → After A Procedure) → ((q : Procedure) → Sound q → Sound (f q).state) → Sound p → Sound (onward p (admits p b) f).state
admits_keeps p b f k h = onward_cases Sound p (admits p b) f h (λ q e. k q (sound_admits p b e h))

pub sound_reset : (p : Procedure) → Sound p → Sound (reset_of p).state
unfolding reset_of
sound_reset p h =
    onward_cases Sound p (and_then (enough p.inactivity) (λ t. gives (with_timer p t))) (λ q. says tt (ended q)) h
    (λ q e. let a = then-gives (enough p.inactivity) (λ t. gives (with_timer p t)) e in
    let z : with_timer p a.0 ≡ q = let w = a.2 in cc in
    subst (λ r. Sound (ended r)) (sym (ap (with_timer p) (enough_gives p.inactivity a.1).1) ∙ z) (sound_ended p h))

-- ---- advance

abbrev SoundAfter : {A : Type 0} → After A Procedure → Type 0
SoundAfter a = Sound a.state

-- what is due leaves an idle timer idle
due_armed : (k : State) (t : Timer) → t.state ≡ k → is_idle (due k t).0.state ≡ false → is_idle t.state ≡ false
due_armed Idle t e h = h
due_armed (Waiting since) t e h = rw e
due_armed SendingUnsolicited t e h = h
due_armed (FinalWait since) t e h = rw e

sound_follows : (a : InactivityAction) (p : Procedure) → Sound p → Sound (follows a p).state
sound_follows actions.None p h = h
sound_follows actions.RequestUnsolicitedStatus p h = h
sound_follows actions.Terminate p h = sound_ended p h

sound_due_at : (p : Procedure) → Sound p → Sound (due_at p).state
sound_due_at p h =
    let d = due_of p.inactivity in
    cond_keeps {X = After TimerEvent Procedure} SoundAfter (complete_of p.receiver) _ _ h
    (sound_follows d.1 (with_timer p d.0) (sound_timer p d.0 (K.sound_due_of p.inactivity h.inactivity) (due_armed p.inactivity.state p.inactivity refl) h))

pub sound_advance : (p : Procedure) (b : ℕ) → Sound p → Sound (advance_of p b).state
unfolding advance_of
sound_advance p b = admits_keeps p b due_at sound_due_at

-- ---- status_sent

solicited_armed : (t : Timer) → is_idle (solicited_at results.Sent t).0.state ≡ false → is_idle t.state ≡ false
solicited_armed t = go (is_idle t.state) refl
  where
    go : (x : Bool) → is_idle t.state ≡ x → is_idle (cond x (t, actions.None) (I.solicited_by results.Sent t)).0.state ≡ false → is_idle t.state ≡ false
    go true e h = h
    go false e h = e

unsolicited_armed : (t : Timer) → I.Sound t → is_idle (unsolicited_at results.Sent t).0.state ≡ false → is_idle t.state ≡ false
unsolicited_armed t s = go t.state t.unsolicited_pending refl s.pending
  where
    go : (k : State) (x : Bool) → t.state ≡ k → I.PendingFits k x → is_idle (cond x (I.unsolicited_by results.Sent t) (t, actions.None)).0.state ≡ false → is_idle t.state ≡ false
    go Idle true e f h = absurd (both_ways _ f refl)
    go Idle false e f h = h
    go (Waiting since) x e f h = rw e
    go SendingUnsolicited x e f h = rw e
    go (FinalWait since) x e f h = rw e

sound_reported : (k : StatusKind) (p : Procedure) → Sound p → Sound (with_timer p (after_sent k p.inactivity))
sound_reported Solicited p h = sound_timer p _ (K.sound_solicited_at results.Sent p.inactivity h.inactivity) (solicited_armed p.inactivity) h
sound_reported Unsolicited p h = sound_timer p _ (K.sound_unsolicited_at results.Sent p.inactivity h.inactivity) (unsolicited_armed p.inactivity h.inactivity) h

sound_sent_at : (x : StatusTransmission) (r : StatusResult) (p : Procedure) → Sound p → Sound (sent_at x r p).state
sound_sent_at x results.Sent p h = cond_keeps {X = After SendEvent Procedure} SoundAfter x.complete_at_poll _ _ (sound_ended p h) (sound_reported x.kind p h)
sound_sent_at x results.Failed p h = sound_ended p h

pub sound_status_sent : (p : Procedure) (b : ℕ) (x : StatusTransmission) (r : StatusResult) → Sound p → Sound (status_sent_of p b x r).state
unfolding status_sent_of
sound_status_sent p b x r h = cond_keeps {X = After SendEvent Procedure} SoundAfter (owns_of p.inactivity x.token) _ _ (admits_keeps p b (sent_at x r) (sound_sent_at x r) h) h

-- ---- receive

sound_reset_by : (begin : Bool) (t : Timer) → I.Sound t → I.Sound (reset_by begin t)
sound_reset_by true t h = K.sound_renewed t
sound_reset_by false t h = h

pub sound_timed : (begin complete : Bool) (t : Timer) → I.Sound t → I.Sound (timed begin complete t)
sound_timed begin true t h = sound_reset_by begin t h
sound_timed begin false t h = K.sound_waiting (reset_by begin t) (sound_reset_by begin t h)

sound_rests : (r : Option StatusRequest) (complete : Bool) (p : Procedure) → Sound p → Sound (ends_unpolled r complete p)
sound_rests None true p h = sound_ended p h
sound_rests None false p h = h
sound_rests (Some r) complete p h = h

-- an accepted frame: the receiver holds a transaction
sound_accepted : (begin : Bool) (m : Option SingleMessage) (r : Option StatusRequest) (p : Procedure) → Valid p.receiver → I.Sound p.inactivity → active_of p ≡ true → Sound (accepted begin m r p).state
unfolding accepted
sound_accepted begin m r p v s a =
    let complete = complete_of p.receiver in
    sound_rests r complete _ (active_sound (with_timer p (timed begin complete p.inactivity)) v (sound_timed begin complete p.inactivity s) a)

-- what the receiver answers: it is left as it was unless it accepts the frame, and then it holds a transaction
sound_taken : (begin : Bool) (x : Outcome Reception) (o : R.Out) (p : Procedure) → o.outcome ≡ x → Valid o.receiver
    → ((m : Option SingleMessage) (r : Option StatusRequest) → o.outcome ≡ gives (receptions.Accepted m r) → is_some o.receiver.transaction ≡ true)
    → (o.outcome ≡ gives receptions.Ignored → o.receiver ≡ p.receiver) → ((n : ℕ) → o.outcome ≡ refuses n → o.receiver ≡ p.receiver) → Sound p
    → Sound (by_answer begin x (record { receiver = o.receiver; inactivity = p.inactivity }) o.buffer).procedure
sound_taken begin (gives receptions.Ignored) o p e v held ignores stops h = rw (ignores e) h
sound_taken begin (gives (receptions.Accepted m r)) o p e v held ignores stops h = sound_accepted begin m r (record { receiver = o.receiver; inactivity = p.inactivity }) v h.inactivity (held m r e)
sound_taken begin (refuses n) o p e v held ignores stops h = rw (stops n e) h

pushed_frame : (s : ArqReassembler) (xs b : List ℕ) (f : ArqFrame) → 255 ≤ length b → decode_of xs ≡ gives f → push_of s xs b ≡ push_frame s b f
pushed_frame s xs b f l e = as_decoded s xs b l ∙ ap (R.push_decoded s b) e

-- a frame that is Ignored or refused leaves the receiver
pub ignored-same : (s : ArqReassembler) (xs b : List ℕ) (f : ArqFrame) → 255 ≤ length b → decode_of xs ≡ gives f → (push_frame s b f).outcome ≡ gives receptions.Ignored → (push_frame s b f).receiver ≡ s
ignored-same s xs b f l e z = let q = pushed_frame s xs b f l e in subst (λ (o : R.Out). o.receiver ≡ s) q (ignored_leaves s xs b (ap (λ (o : R.Out). o.outcome) q ∙ z)).0

pub refused_same : (s : ArqReassembler) (xs b : List ℕ) (f : ArqFrame) (n : ℕ) → 255 ≤ length b → decode_of xs ≡ gives f → (push_frame s b f).outcome ≡ refuses n → (push_frame s b f).receiver ≡ s
refused_same s xs b f n l e z = let q = pushed_frame s xs b f l e in subst (λ (o : R.Out). o.receiver ≡ s) q (refusal_leaves s xs b n (ap (λ (o : R.Out). o.outcome) q ∙ z)).0

-- an accepted frame: any timer stands beside the receiver
pub sound_taken_on : (p : Procedure) (xs b : List ℕ) (f : ArqFrame) → 255 ≤ length b → decode_of xs ≡ gives f → is_some (push_frame p.receiver b f).receiver.transaction ≡ true → {t : Timer} → I.Sound t → Sound p
    → Sound (record { receiver = (push_frame p.receiver b f).receiver; inactivity = t })
sound_taken_on p xs b f l e a {t} s h =
    active_sound (record { receiver = (push_frame p.receiver b f).receiver; inactivity = t }) (subst (λ (o : R.Out). Valid o.receiver) (pushed_frame p.receiver xs b f l e) (valid_push p.receiver xs b h.receiver)) s a

-- what a push leaves, whatever it answers: the receiver as it was, or one that holds a transaction
pub sound_heard : (p : Procedure) (xs b : List ℕ) (f : ArqFrame) → 255 ≤ length b → decode_of xs ≡ gives f → Sound p → Sound (record { receiver = (push_frame p.receiver b f).receiver; inactivity = p.inactivity })
sound_heard p xs b f l e h = by (push_frame p.receiver b f).outcome refl
  where
    by : (x : Outcome Reception) → (push_frame p.receiver b f).outcome ≡ x → Sound (record { receiver = (push_frame p.receiver b f).receiver; inactivity = p.inactivity })
    by (gives receptions.Ignored) z = rw (ignored-same p.receiver xs b f l e z) h
    by (gives (receptions.Accepted m r)) z = sound_taken_on p xs b f l e (accepted_held p.receiver f b m r z) h.inactivity h
    by (refuses n) z = rw (refused_same p.receiver xs b f n l e z) h

-- and what the code's push answers
module _ (p : Procedure) (xs b c : List ℕ) (f : ArqFrame) (r : ArqReassembler × Result Reception SpachError) (l : 255 ≤ length b) (d : gives f ≡ decode_of xs) (h : Sound p) (e : R.pushed r c ≡ push_frame p.receiver b f) where
  pub sound_pushed : Sound (record { receiver = r.0; inactivity = p.inactivity })
  sound_pushed = subst (λ (o : R.Out). Sound (record { receiver = o.receiver; inactivity = p.inactivity })) (sym e) (sound_heard p xs b f l (sym d) h)

  pub sound_next : (m : Option SingleMessage) (q : Option StatusRequest) {t : Timer} → r.1 ≡ Ok (receptions.Accepted m q) → I.Sound t → Sound (record { receiver = r.0; inactivity = t })
  sound_next m q {t} z s =
      let a = accepted_held p.receiver f b m q (sym (ap (λ (o : R.Out). o.outcome) e) ∙ ap (by_number number_of) z) in
      subst (λ (o : R.Out). Sound (record { receiver = o.receiver; inactivity = t })) (sym e) (sound_taken_on p xs b f l (sym d) a s h)

sound_pushes : (p : Procedure) (xs b : List ℕ) (f : ArqFrame) → 255 ≤ length b → decode_of xs ≡ gives f → Sound p → Sound (pushes p b f).procedure
sound_pushes p xs b f l e h =
    let s = p.receiver in
    let q = pushed_frame s xs b f l e in
    sound_taken (by_kind f.kind true false) (push_frame s b f).outcome (push_frame s b f) p refl (subst (λ (o : R.Out). Valid o.receiver) q (valid_push s xs b h.receiver)) (accepted_held s f b)
    (ignored-same s xs b f l e) (λ n. refused_same s xs b f n l e)
    h

sound_decoded : (p : Procedure) (xs b : List ℕ) (x : Outcome ArqFrame) → 255 ≤ length b → decode_of xs ≡ x → Sound p → Sound (decoded p b x).procedure
sound_decoded p xs b (gives f) l e h = sound_pushes p xs b f l e h
sound_decoded p xs b (refuses n) l e h = h

-- what was let through
pub let_through_gives : (t : Timer) (b room : ℕ) {u : Timer} → let_through t b room ≡ gives u → (255 ≤ room) × (ticked t b ≡ gives u) × (fewer_than 4 t.next_token ≡ false)
let_through_gives t b room {u} e =
    let n = passed (fewer_than 4 t.next_token) 18 (refuse (ltb room 255) 16 (ticked t b)) e in
    let q = passed (ltb room 255) 16 (ticked t b) n.1 in
    (ltb-false room 255 q.0, q.1, n.0)

-- so does the procedure that it stands in
pub sound_let_through : (p : Procedure) (block room : ℕ) {t : Timer} → let_through p.inactivity block room ≡ gives t → Sound p → Sound (with_timer p t)
sound_let_through p block room e h = sound_ticked p block (let_through_gives p.inactivity block room e).1 h

sound_goes : (p : Procedure) (block : ℕ) (xs b : List ℕ) (x : Outcome Timer) → let_through p.inactivity block (length b) ≡ x → Sound p → Sound (then_hears p xs b x).procedure
sound_goes p block xs b (gives t) e h =
    let q = let_through_gives p.inactivity block (length b) e in
    sound_decoded (with_timer p t) xs b (decode_of xs) q.0 refl (sound_ticked p block q.1 h)
sound_goes p block xs b (refuses n) e h = h

pub sound_receive : (p : Procedure) (block : ℕ) (xs b : List ℕ) → Sound p → Sound (receive_of p block xs b).procedure
sound_receive p block xs b h = subst (λ (o : Out). Sound o.procedure) (sym (receive_parts p block xs b)) (sound_goes p block xs b _ refl h)

-- what equals a definition is as sound as the definition
pub kept : {A : Type 0} {x y : After A Procedure} → x ≡ y → Sound y.state → (x ≡ y) × Sound x.state
kept e h = (e, subst Sound (sym (ap (λ o. o.state) e)) h)
