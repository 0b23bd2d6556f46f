-- What holds over any list of calls from a fresh procedure: that no second unsolicited status is asked for while one is
-- pending, that the transaction ends 32 blocks after one was sent and not before, and that a token of an ended transaction is
-- foreign for ever. Assumes nothing.
use Rattle.std.specs.Prelude.{Option, ◌≡◌, ◌⊎◌, true, false, List, [], ◌∷◌, ℕ, ◌+◌, ◌≤◌, ◌<◌}
use Rattle.rach.specs.declared.MobileIdentity.{MobileIdentity}
use Rattle.spach.specs.Refusal.{Outcome, gives, refuses}
use Rattle.arq.specs.declared.FrameKind.TheVariants.{Begin}
use Rattle.arq.specs.declared.ArqFrame.{ArqFrame}
use Rattle.arq.specs.Decode.{decode_of}
use Rattle.receiver.specs.declared.SingleMessage.{SingleMessage}
use Rattle.inactivity.specs.declared.TransactionToken.{TransactionToken}
use Rattle.inactivity.specs.declared.StatusResult.{StatusResult}
use Rattle.inactivity.specs.Inactivity.{owns_of}
use Rattle.procedure.specs.declared.StatusKind.TheVariants.{Unsolicited}
use Rattle.procedure.specs.declared.StatusTransmission.{StatusTransmission}
use Rattle.procedure.specs.declared.ReceiveEvent.TheVariants as receives
use Rattle.procedure.specs.declared.TimerEvent.TheVariants.{None, SendStatus, Terminated}
use Rattle.procedure.specs.declared.SendEvent.{SendEvent}
use Rattle.procedure.specs.declared.SendEvent.TheVariants as sends
use Rattle.procedure.specs.Procedure.{Procedure, new_of, says, reset_of, active_of, receive_of, advance_of, status_sent_of}

-- ---- lists of calls

-- a call that may change the procedure: a frame's octets at a block, with a buffer; a block; the result of a transmission; a reset
pub data Call : Type 0 where
  receive : ℕ → List ℕ → List ℕ → Call
  advance : ℕ → Call
  status_sent : ℕ → StatusTransmission → StatusResult → Call
  reset : Call

-- the procedure that a call leaves, refused or not
abbrev pub after : Procedure → Call → Procedure
after p (receive b xs buffer) = (receive_of p b xs buffer).procedure
after p (advance b) = (advance_of p b).state
after p (status_sent b x r) = (status_sent_of p b x r).state
after p reset = (reset_of p).state

-- each call gets the procedure that the one before it left
unfoldable pub runs : Procedure → List Call → Procedure
runs p [] = p
runs p (c ∷ cs) = runs (after p c) cs

-- every call of the list is such, on the procedure that it gets
unfoldable pub Each : (Procedure → Call → Type 0) → Procedure → List Call → Type 0
Each P p [] = Unit
Each P p (c ∷ cs) = P p c × Each P (after p c) cs

-- ---- what a call does

-- a frame is accepted
abbrev pub AcceptsFrame : Procedure → Call → Type 0
AcceptsFrame p (receive b xs buffer) = (m : Option SingleMessage) × (x : Option StatusTransmission) × ((receive_of p b xs buffer).outcome ≡ gives (receives.Accepted m x))
AcceptsFrame p (advance b) = ⊥
AcceptsFrame p (status_sent b x r) = ⊥
AcceptsFrame p reset = ⊥

-- neither Ignored nor refused
abbrev pub Taken : Outcome SendEvent → Type 0
Taken (gives sends.Ignored) = ⊥
Taken (gives sends.Pending) = Unit
Taken (gives sends.Complete) = Unit
Taken (gives sends.Failed) = Unit
Taken (refuses n) = ⊥

-- a result with this token is accepted
abbrev pub AcceptsResult : TransactionToken → Procedure → Call → Type 0
AcceptsResult k p (receive b xs buffer) = ⊥
AcceptsResult k p (advance b) = ⊥
AcceptsResult k p (status_sent b x r) = (x.token ≡ k) × Taken (status_sent_of p b x r).outcome
AcceptsResult k p reset = ⊥

-- it is the result of an unsolicited status
abbrev pub OfUnsolicited : Call → Type 0
OfUnsolicited (receive b xs buffer) = ⊥
OfUnsolicited (advance b) = ⊥
OfUnsolicited (status_sent b x r) = x.kind ≡ Unsolicited
OfUnsolicited reset = ⊥

-- a result of an unsolicited status with this token is accepted
abbrev pub AcceptsUnsolicited : TransactionToken → Procedure → Call → Type 0
AcceptsUnsolicited k p c = OfUnsolicited c × AcceptsResult k p c

-- a reset that is not refused
abbrev pub Resets : Procedure → Call → Type 0
Resets p (receive b xs buffer) = ⊥
Resets p (advance b) = ⊥
Resets p (status_sent b x r) = ⊥
Resets p reset = (reset_of p).outcome ≡ gives tt

-- a transaction is ended by: a Begin that is accepted in its place, or a frame after which none is held; Terminated; a result
-- that is answered Complete or Failed; a reset
abbrev pub EndsTransaction : Procedure → Call → Type 0
EndsTransaction p (receive b xs buffer) = AcceptsFrame p (receive b xs buffer) × (((f : ArqFrame) × (decode_of xs ≡ gives f) × (f.kind ≡ Begin)) ⊎ (active_of (after p (receive b xs buffer)) ≡ false))
EndsTransaction p (advance b) = (advance_of p b).outcome ≡ gives Terminated
EndsTransaction p (status_sent b x r) = ((status_sent_of p b x r).outcome ≡ gives sends.Complete) ⊎ ((status_sent_of p b x r).outcome ≡ gives sends.Failed)
EndsTransaction p reset = Resets p reset

-- ---- the three statements

-- the token of the present transaction
abbrev pub present : Procedure → TransactionToken
present p = p.inactivity.transaction

-- an unsolicited status, asked for at block b of p, is pending after the calls `since`: it was asked for under the present
-- token, and no unsolicited result with that token was accepted since
pub record Pending (p : Procedure) (b : ℕ) (since : List Call) : Type 0 where
  pub status : StatusTransmission
  pub asked : (advance_of p b).outcome ≡ gives (SendStatus status)
  pub under : present (runs (after p (advance b)) since) ≡ status.token
  pub unanswered : Each (λ q c. AcceptsUnsolicited status.token q c → ⊥) (after p (advance b)) since

-- no second unsolicited status is asked for while one is pending
abbrev pub NoSecond : Type 0
NoSecond =
    (i : MobileIdentity) (first : ℕ) (fresh : Procedure) → new_of i first ≡ gives fresh
    → (before since : List Call) (b c : ℕ) (second : StatusTransmission) → Pending (runs fresh before) b since
    → (advance_of (runs (after (runs fresh before) (advance b)) since) c).outcome ≡ gives (SendStatus second) → ⊥

-- no frame is accepted, and no result with this token
abbrev pub Silent : TransactionToken → Procedure → Call → Type 0
Silent k p c = (AcceptsFrame p c → ⊥) × (AcceptsResult k p c → ⊥)

-- an unsolicited status was asked for at block b of p, and after the calls `since`, in which no frame and no other result of its
-- token was accepted, it was reported sent at block d: an unsolicited result of its token was answered Pending
pub record ReportedSent (p : Procedure) (b : ℕ) (since : List Call) (d : ℕ) (x : StatusTransmission) (r : StatusResult) : Type 0 where
  pub status : StatusTransmission
  pub asked : (advance_of p b).outcome ≡ gives (SendStatus status)
  pub silent : Each (Silent status.token) (after p (advance b)) since
  pub unsolicited : x.kind ≡ Unsolicited
  pub token : x.token ≡ status.token
  pub sent : (status_sent_of (runs (after p (advance b)) since) d x r).outcome ≡ gives sends.Pending

-- the advance at block c of p does not end the transaction of this token
pub record GoesOn (p : Procedure) (c : ℕ) (k : TransactionToken) : Type 0 where
  pub answer : (advance_of p c).outcome ≡ gives None
  pub owned : owns_of (after p (advance c)).inactivity k ≡ true

-- it is ended afterwards, by this advance if it was not before: then nothing is held any more
pub record Ends (p : Procedure) (c : ℕ) (k : TransactionToken) : Type 0 where
  pub answer : owns_of p.inactivity k ≡ true → (advance_of p c).outcome ≡ gives Terminated
  pub inactive : owns_of p.inactivity k ≡ true → active_of (after p (advance c)) ≡ false
  pub foreign : owns_of (after p (advance c)).inactivity k ≡ false

-- once one was reported sent at block d: if no frame is accepted, no result of its token and no reset, an advance that is not
-- refused ends the transaction at 32 blocks or more and does not below
abbrev pub EndsAt32 : Type 0
EndsAt32 =
    (i : MobileIdentity) (first : ℕ) (fresh : Procedure) → new_of i first ≡ gives fresh
    → (before since : List Call) (b d : ℕ) (x : StatusTransmission) (r : StatusResult) → ReportedSent (runs fresh before) b since d x r
    → (later : List Call) → let told = after (runs (after (runs fresh before) (advance b)) since) (status_sent d x r) in
    Each (λ p c. Silent x.token p c × (Resets p c → ⊥)) told later
    → (c : ℕ) → ((n : ℕ) → (advance_of (runs told later) c).outcome ≡ refuses n → ⊥)
    → (d + 32 ≤ c → Ends (runs told later) c x.token) × (c < d + 32 → GoesOn (runs told later) c x.token)

-- a token of an ended transaction is foreign for ever: its results are Ignored
abbrev pub ForeignForEver : Type 0
ForeignForEver =
    (i : MobileIdentity) (first : ℕ) (fresh : Procedure) → new_of i first ≡ gives fresh
    → (before : List Call) (c : Call) → EndsTransaction (runs fresh before) c
    → (later : List Call) → let k = present (runs fresh before) in
    let p = runs (after (runs fresh before) c) later in
    (owns_of p.inactivity k ≡ false) × ((b : ℕ) (x : StatusTransmission) (r : StatusResult) → x.token ≡ k → status_sent_of p b x r ≡ says sends.Ignored p)
