-- What one call does to the present token, to a pending status and to the clock. Assumes nothing.
use Rattle.std.proofs.Common.{◌≡◌, ℕ, ◌-◌, ◌<◌, ◌≤◌, Bool, true, false, cond, ◌⊎◌, Some, None, Option, sym, refl, ap, subst, inl, inr, ⊎_elim, arith, ltb-false, eqb-true}
use Rattle.receiver.specs.declared.SingleMessage.{SingleMessage}
use Rattle.receiver.specs.declared.StatusRequest.{StatusRequest}
use Rattle.token.specs.Token.{stop, fewer_than}
use Rattle.arq.specs.Encode.{by_kind}
use Rattle.receiver.specs.declared.ArqReassembler.{ArqReassembler}
use Rattle.receiver.specs.Receiver.{complete_of}
use Rattle.inactivity.specs.declared.TransactionToken.{TransactionToken}
use Rattle.inactivity.specs.declared.StatusResult.{StatusResult}
use Rattle.inactivity.specs.declared.StatusResult.TheVariants as results
use Rattle.inactivity.specs.declared.InactivityAction.{InactivityAction}
use Rattle.inactivity.specs.declared.InactivityAction.TheVariants.{None as none}
use Rattle.inactivity.specs.Inactivity as I
use Rattle.inactivity.specs.Inactivity.{Timer, owns_of, renewed, clocked, solicited_at, unsolicited_at, is_idle}
use Rattle.procedure.specs.declared.StatusKind.{StatusKind}
use Rattle.procedure.specs.declared.StatusKind.TheVariants.{Solicited, Unsolicited}
use Rattle.procedure.specs.declared.StatusTransmission.{StatusTransmission}
use Rattle.procedure.specs.Procedure.{Procedure, Sound, with_timer, ended, due_at, after_sent, status_sent_of}
use Rattle.procedure.specs.Parts.{reset_by, timed, ends_unpolled, accepted}
use Rattle.procedure.specs.History.{Call, receive, advance, status_sent, reset, after, Taken, AcceptsUnsolicited, present}
use Rattle.procedure.proofs.CallCases.{Clocked, reset_ways, due_ways, advance_ways, sent_ways, receive_ways}

-- ---- the timer

abbrev pub tok : Timer → ℕ
tok t = t.transaction.0

abbrev pub pends : Timer → Bool
pends t = t.unsolicited_pending

-- how a call leaves the timer: under a later token; or under the same, and a pending status stays pending unless A. The clock
-- does not go back.
pub data Turnout (A : Type 0) (t u : Timer) : Type 0 where
  renews : tok t < tok u → t.last_block ≤ u.last_block → Turnout A t u
  keeps : u.transaction ≡ t.transaction → (pends t ≡ true → (pends u ≡ true) ⊎ A) → t.last_block ≤ u.last_block → Turnout A t u

-- enough tokens are left: the next one is new
pub newer : (t : Timer) → I.Sound t → fewer_than 4 t.next_token ≡ false → (tok t < t.next_token) × (t.next_token < stop)
newer t s e =
    let l : 4 ≤ stop - t.next_token = ltb-false (stop - t.next_token) 4 e in
    let m : t.next_token < stop = omega arith in
    (s.rising m, m)

same : {A : Type 0} (t : Timer) → Turnout A t t
same t = keeps refl inl (omega arith)

module _ {A : Type 0} (t : Timer) (s : I.Sound t) (b : ℕ) (later : t.last_block ≤ b) (tokens : fewer_than 4 t.next_token ≡ false) where
  once : Turnout A t (renewed (clocked t b))
  once = let n = newer t s tokens in renews n.0 later

  twice : Turnout A t (renewed (renewed (clocked t b)))
  twice = let n = newer t s tokens in renews (let x = n.0 in let y = n.1 in omega arith) later

  reset_by_turns : (begin : Bool) → Turnout A t (reset_by begin (clocked t b))
  reset_by_turns true = once
  reset_by_turns false = keeps refl inl later

  timed_turns : (begin complete : Bool) → Turnout A t (timed begin complete (clocked t b))
  timed_turns begin true = reset_by_turns begin
  timed_turns true false = let n = newer t s tokens in renews n.0 later
  timed_turns false false = keeps refl inl later

  ended_turns : (begin : Bool) → Turnout A t (renewed (timed begin true (clocked t b)))
  ended_turns true = twice
  ended_turns false = once

  rests_turns : (begin complete : Bool) (r : Option StatusRequest) (x : ArqReassembler) → Turnout A t (ends_unpolled r complete (record { receiver = x; inactivity = timed begin complete (clocked t b) })).inactivity
  rests_turns begin true None x = ended_turns begin
  rests_turns begin false None x = timed_turns begin false
  rests_turns begin complete (Some r) x = timed_turns begin complete

  accepted_turns : (begin : Bool) (m : Option SingleMessage) (r : Option StatusRequest) (x : ArqReassembler) → Turnout A t (accepted begin m r (record { receiver = x; inactivity = (clocked t b) })).state.inactivity
  unfolding accepted
  accepted_turns begin m r x = rests_turns begin (complete_of x) r x

  -- a status that was sent: one that was not asked for ends the pending, which A then says
  solicited_turns : Turnout A t (solicited_at results.Sent (clocked t b)).0
  solicited_turns = by (is_idle (clocked t b).state)
    where
      by : (x : Bool) → Turnout A t (cond {A = Timer × InactivityAction} x (clocked t b, none) (I.solicited_by results.Sent (clocked t b))).0
      by true = keeps refl inl later
      by false = keeps refl inl later

  unsolicited_turns : A → Turnout A t (unsolicited_at results.Sent (clocked t b)).0
  unsolicited_turns a = by (pends (clocked t b))
    where
      by : (x : Bool) → Turnout A t (cond {A = Timer × InactivityAction} x (I.unsolicited_by results.Sent (clocked t b)) (clocked t b, none)).0
      by true = keeps refl (λ h. inr a) later
      by false = keeps refl inl later

  after-sent_turns : (k : StatusKind) → (k ≡ Unsolicited → A) → Turnout A t (after_sent k (clocked t b))
  after-sent_turns Solicited a = solicited_turns
  after-sent_turns Unsolicited a = unsolicited_turns (a refl)

-- ---- the procedure

pub owned : (t : Timer) (k : TransactionToken) → owns_of t k ≡ true → k ≡ t.transaction
owned t k e = ap (λ (n : ℕ). record { 0 = n }) (eqb-true k.0 (tok t) e)

abbrev Turns : Type 0 → Procedure → Procedure → Type 0
Turns A p q = Turnout A p.inactivity q.inactivity

-- what holds of the moved clock holds of q
pub at : {p : Procedure} {b : ℕ} {q : Procedure} (P : Procedure → Type 0) → Clocked p b q → P (with_timer p (clocked p.inactivity b)) → P q
at P c h = subst P (sym c.here) h

module _ (p : Procedure) (s : Sound p) (b : ℕ) (x : StatusTransmission) where
  sent_turns : (A : Type 0) (r : StatusResult) → ((x.kind ≡ Unsolicited) × (x.token ≡ present p) × Taken (status_sent_of p b x r).outcome → A) → Turns A p (status_sent_of p b x r).state
  sent_turns A r =
      sent_ways (λ a. ((x.kind ≡ Unsolicited) × (x.token ≡ present p) × Taken a.outcome → A) → Turns A p a.state) p b x r (λ e k. same p.inactivity) (λ n k. same p.inactivity)
      (λ q o c e f k. at (λ z. Turns A p (ended z)) c (once p.inactivity s.inactivity b c.later c.tokens))
      (λ q o c k. at (λ z. Turns A p (with_timer z (after_sent x.kind z.inactivity))) c
      (after-sent_turns p.inactivity s.inactivity b c.later c.tokens x.kind (λ u. k (u, owned p.inactivity x.token o, tt))))

-- what nothing can be is as good as anything
weaken : {A : Type 0} {t u : Timer} → Turnout ⊥ t u → Turnout A t u
weaken (renews l k) = renews l k
weaken (keeps e f k) = keeps e (λ h. ⊎_elim inl (λ x. absurd x) (f h)) k

pub turnout : (p : Procedure) (c : Call) → Sound p → Turns (AcceptsUnsolicited (present p) p c) p (after p c)
turnout p (receive block xs b) s =
    weaken (receive_ways (λ o q. Turns ⊥ p q) p block xs b (λ n. same p.inactivity) (λ q n c. at (Turns ⊥ p) c (keeps refl inl c.later)) (λ q c. at (Turns ⊥ p) c (keeps refl inl c.later))
    (λ q c f d m r x h. at (λ z. Turns ⊥ p (accepted (by_kind f.kind true false) m r (record { receiver = x; inactivity = z.inactivity })).state) c (accepted_turns p.inactivity s.inactivity block c.later c.tokens (by_kind f.kind true false) m r x)))
turnout p (advance b) s =
    weaken (advance_ways (λ a. Turns ⊥ p a.state) p b (λ n. same p.inactivity)
    (λ q c. at (λ z. Turns ⊥ p (due_at z).state) c (due_ways (λ a. Turns ⊥ p a.state) (with_timer p (clocked p.inactivity b)) (λ k. keeps refl inl c.later) (λ since e k f. keeps refl (λ h. inl refl) c.later)
    (λ since e k. twice p.inactivity s.inactivity b c.later c.tokens))))
turnout p (status_sent b x r) s = sent_turns p s b x (AcceptsUnsolicited (present p) p (status_sent b x r)) r (λ a. (a.0, (a.1, a.2)))
turnout p reset s = weaken (reset_ways (λ a. Turns ⊥ p a.state) p (λ n. same p.inactivity) (λ e. let n = newer p.inactivity s.inactivity e in renews n.0 (omega arith)))
