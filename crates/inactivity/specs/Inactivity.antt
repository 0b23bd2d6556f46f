-- 01, module 5: ArqInactivity, in the order of the Rust, but `observe` before those that build on it. What each call answers, and
-- the timer that it leaves. Assumes nothing.
use Rattle.std.specs.Prelude.{◌≡◌, Bool, true, false, cond, not, ◌&&◌, ℕ, ◌-◌, ◌≤◌, ◌<◌, eqb, ltb, leb}
use Rattle.token.specs.Token.{stop, number_after, fewer_than}
use Rattle.spach.specs.Refusal.{number_of, Outcome, gives, refuse, and_then, After, onward}
use Rattle.inactivity.specs.declared.TransactionToken.{TransactionToken}
use Rattle.inactivity.specs.declared.InactivityAction.{InactivityAction}
use Rattle.inactivity.specs.declared.InactivityAction.TheVariants.{None, RequestUnsolicitedStatus, Terminate}
use Rattle.inactivity.specs.declared.StatusResult.{StatusResult}
use Rattle.inactivity.specs.declared.StatusResult.TheVariants.{Sent, Failed}
use Rattle.inactivity.specs.declared.InactivityError.{InactivityError}
use Rattle.inactivity.specs.declared.InactivityError.TheVariants.{ClockBackwards}
use Rattle.inactivity.specs.declared.ProcedureError.{ProcedureError}
use Rattle.inactivity.specs.declared.ProcedureError.TheVariants.{Wire, Clock}
use Rattle.inactivity.specs.declared.State.{State}
use Rattle.inactivity.specs.declared.State.TheVariants.{Idle, Waiting, SendingUnsolicited, FinalWait}

-- ---- the timer

-- what contracts see of an ArqInactivity: its fields
pub record Timer : Type 0 where
  pub state : State
  pub last_block : ℕ
  pub unsolicited_pending : Bool
  pub transaction : TransactionToken
  pub next_token : ℕ

-- what the constructor makes with the first token number
abbrev pub new_of : ℕ → Timer
new_of first = record { state = Idle; last_block = 0; unsolicited_pending = false; transaction = record { 0 = first }; next_token = number_after first }

-- `token`: that of the present transaction
abbrev pub token_of : Timer → TransactionToken
token_of s = s.transaction

-- `owns`: the token is that of the present transaction; else it is foreign
abbrev pub owns_of : Timer → TransactionToken → Bool
owns_of s t = eqb t.0 s.transaction.0

-- reset as the Rust has it, inner resets too: idle, under the next token
abbrev pub renewed : Timer → Timer
renewed s = record s { state = Idle; unsolicited_pending = false; transaction = record { 0 = s.next_token }; next_token = number_after s.next_token }

-- the clock moved to a block
abbrev pub clocked : Timer → ℕ → Timer
clocked s b = record s { last_block = b }

-- in another state, with an unsolicited status pending or not
abbrev pub in_state : Timer → State → Bool → Timer
in_state s k p = record s { state = k; unsolicited_pending = p }

-- waiting from the clock's block on
abbrev pub waiting : Timer → Timer
waiting s = in_state s (Waiting s.last_block) s.unsolicited_pending

-- ---- refusals

-- fewer than 4 tokens left: 18
abbrev pub enough : Timer → Outcome Timer
enough s = refuse (fewer_than 4 s.next_token) 18 (gives s)

-- the clock gone back: 17; else it moves
abbrev pub ticked : Timer → ℕ → Outcome Timer
ticked s b = refuse (ltb b s.last_block) 17 (gives (clocked s b))

-- 18, then 17; then the clock is moved
abbrev pub admitted : Timer → ℕ → Outcome Timer
admitted s b = and_then (enough s) (λ t. ticked t b)

-- ---- the calls

-- a call that has nothing to say
abbrev pub done : Timer → After Unit Timer
done s = record { outcome = gives tt; state = s }

-- a call that answers with an action
abbrev pub acts : Timer × InactivityAction → After InactivityAction Timer
acts t = record { outcome = gives t.1; state = t.0 }

-- `reset`: 18 alone; idle under a new token
unfoldable pub reset_of : Timer → After Unit Timer
reset_of s = onward s (enough s) (λ t. done (renewed t))

-- `observe`: 17 alone; the clock moves
unfoldable pub observe_of : Timer → ℕ → After Unit Timer
observe_of s b = onward s (ticked s b) done

-- `received_frame`: 17 alone; it waits from this block on
unfoldable pub received_frame_of : Timer → ℕ → After Unit Timer
received_frame_of s b = onward s (ticked s b) (λ t. done (waiting t))

-- INACTIVITY_BLOCKS (IS-136.1-A 5.4.2.2): both intervals
abbrev pub inactivity_blocks : ℕ
inactivity_blocks = 32

-- so many blocks have passed since a block
abbrev pub elapsed : Timer → ℕ → Bool
elapsed s since = leb inactivity_blocks (s.last_block - since)

-- what is due at the clock's block, by the state: an unsolicited status, if none is pending; after it the end
abbrev pub due : State → Timer → Timer × InactivityAction
due Idle s = (s, None)
due (Waiting since) s = cond (not s.unsolicited_pending && elapsed s since) (in_state s SendingUnsolicited true, RequestUnsolicitedStatus) (s, None)
due SendingUnsolicited s = (s, None)
due (FinalWait since) s = cond (elapsed s since) (renewed s, Terminate) (s, None)

-- what is due in the state that the timer is in
abbrev pub due_of : Timer → Timer × InactivityAction
due_of s = due s.state s

-- `advance`: 18, 17; then what is due
unfoldable pub advance_of : Timer → ℕ → After InactivityAction Timer
advance_of s b = onward s (admitted s b) (λ t. acts (due_of t))

-- the state after an unsolicited status was sent at block b (the Rust's `else`: idle and in the final wait none is pending)
abbrev pub sent_from : State → ℕ → State
sent_from Idle b = FinalWait b
sent_from (Waiting since) b = Waiting b
sent_from SendingUnsolicited b = FinalWait b
sent_from (FinalWait since) b = FinalWait b

-- the result of an unsolicited status
abbrev pub unsolicited_by : StatusResult → Timer → Timer × InactivityAction
unsolicited_by Sent s = (in_state s (sent_from s.state s.last_block) false, None)
unsolicited_by Failed s = (renewed s, Terminate)

-- it says nothing if none is pending
abbrev pub unsolicited_at : StatusResult → Timer → Timer × InactivityAction
unsolicited_at r s = cond s.unsolicited_pending (unsolicited_by r s) (s, None)

-- no transaction is watched
abbrev pub is_idle : State → Bool
is_idle Idle = true
is_idle (Waiting since) = false
is_idle SendingUnsolicited = false
is_idle (FinalWait since) = false

-- the result of a solicited status
abbrev pub solicited_by : StatusResult → Timer → Timer × InactivityAction
solicited_by Sent s = (waiting s, None)
solicited_by Failed s = (renewed s, Terminate)

-- it says nothing where the timer is idle
abbrev pub solicited_at : StatusResult → Timer → Timer × InactivityAction
solicited_at r s = cond (is_idle s.state) (s, None) (solicited_by r s)

-- a result with its token: a foreign one gives None first; then 18, then 17
abbrev pub reported : Timer → TransactionToken → ℕ → (Timer → Timer × InactivityAction) → After InactivityAction Timer
reported s t b f = cond (owns_of s t) (onward s (admitted s b) (λ u. acts (f u))) (acts (s, None))

-- `unsolicited_status_result`: None for a foreign token; 18, 17
unfoldable pub unsolicited_of : Timer → TransactionToken → ℕ → StatusResult → After InactivityAction Timer
unsolicited_of s t b r = reported s t b (unsolicited_at r)

-- `solicited_status_result`: the same
unfoldable pub solicited_of : Timer → TransactionToken → ℕ → StatusResult → After InactivityAction Timer
solicited_of s t b r = reported s t b (solicited_at r)

-- ---- refusals by 01's numbers

-- ClockBackwards 17
abbrev pub clock_number : InactivityError → ℕ
clock_number ClockBackwards = 17

-- a Wire error keeps its number
abbrev pub refusal_of : ProcedureError → ℕ
refusal_of (Wire e) = number_of e
refusal_of (Clock e) = clock_number e

-- ---- the invariant

-- the block from which a state waits, 0 where it does not
abbrev pub since_of : State → ℕ
since_of Idle = 0
since_of (Waiting since) = since
since_of SendingUnsolicited = 0
since_of (FinalWait since) = since

-- whether an unsolicited status may be pending in a state
abbrev pub PendingFits : State → Bool → Type 0
PendingFits Idle p = p ≡ false
PendingFits (Waiting since) p = Unit
PendingFits SendingUnsolicited p = p ≡ true
PendingFits (FinalWait since) p = p ≡ false

-- what every timer is that the constructor and the calls make: each call says so (`sound`), and none asks for it
pub record Sound (s : Timer) : Type 0 where
  -- no block difference goes below zero
  pub since : since_of s.state ≤ s.last_block
  -- idle and in the final wait none is pending; while one is being sent it is
  pub pending : PendingFits s.state s.unsolicited_pending
  -- the next token is a new one, unless the counter has stopped
  pub rising : s.next_token < stop → s.transaction.0 < s.next_token
