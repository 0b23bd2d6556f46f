-- Each definition of a call keeps the invariant; that the code does is `sound` of each call. Assumes nothing.
use Rattle.std.proofs.Common.{◌≡◌, ℕ, ◌≤◌, Bool, true, false, cond, not, ◌&&◌, sym, refl, subst, arith}
use Rattle.spach.specs.Refusal.{gives, After, onward}
use Rattle.inactivity.specs.declared.TransactionToken.{TransactionToken}
use Rattle.inactivity.specs.declared.InactivityAction.{InactivityAction}
use Rattle.inactivity.specs.declared.InactivityAction.TheVariants.{None, RequestUnsolicitedStatus, Terminate}
use Rattle.inactivity.specs.declared.StatusResult.{StatusResult}
use Rattle.inactivity.specs.declared.StatusResult.TheVariants.{Sent, Failed}
use Rattle.inactivity.specs.declared.State.{State}
use Rattle.inactivity.specs.declared.State.TheVariants.{Idle, Waiting, SendingUnsolicited, FinalWait}
use Rattle.inactivity.proofs.Calls.{ticked_gives, admitted_gives}
use Rattle.inactivity.specs.Inactivity.{Timer, Sound, new_of, owns_of, renewed, clocked, waiting, in_state, enough, ticked, admitted, acts, done, reset_of, observe_of, received_frame_of, due, due_of, elapsed, advance_of, reported, unsolicited_by, unsolicited_at, unsolicited_of, solicited_by, solicited_at, solicited_of, is_idle, sent_from}
use Rattle.spach.proofs.Outcomes.{onward_cases}

abbrev SoundTurn : Timer × InactivityAction → Type 0
SoundTurn t = Sound t.0

abbrev SoundAfter : After InactivityAction Timer → Type 0
SoundAfter o = Sound o.state

pub cond_keeps : {X : Type 0} (P : X → Type 0) (t : Bool) (x y : X) → P x → P y → P (cond t x y)
cond_keeps P true x y a b = a
cond_keeps P false x y a b = b

pub sound_new : (first : ℕ) → Sound (new_of first)
sound_new first = record { since = omega arith; pending = refl; rising = λ h. omega arith }

pub sound_renewed : (s : Timer) → Sound (renewed s)
sound_renewed s = record { since = omega arith; pending = refl; rising = λ h. omega arith }

-- the clock moved on
pub sound_clocked : (s : Timer) (b : ℕ) → s.last_block ≤ b → Sound s → Sound (clocked s b)
sound_clocked s b h k = record { since = omega (arith, k.since); pending = k.pending; rising = k.rising }

pub sound_waiting : (s : Timer) → Sound s → Sound (waiting s)
sound_waiting s k = record { since = omega arith; pending = tt; rising = k.rising }

sound_due : (k : State) (s : Timer) → Sound s → Sound (due k s).0
sound_due Idle s h = h
sound_due (Waiting since) s h =
    cond_keeps SoundTurn (not s.unsolicited_pending && elapsed s since) (in_state s SendingUnsolicited true, RequestUnsolicitedStatus) (s, None) (record { since = omega arith; pending = refl; rising = h.rising }) h
sound_due SendingUnsolicited s h = h
sound_due (FinalWait since) s h = cond_keeps SoundTurn (elapsed s since) (renewed s, Terminate) (s, None) (sound_renewed s) h

pub sound_due_of : (s : Timer) → Sound s → Sound (due_of s).0
sound_due_of s = sound_due s.state s

-- the state after an unsolicited status was sent
sound_sent : (k : State) (s : Timer) → Sound s → Sound (in_state s (sent_from k s.last_block) false)
sound_sent Idle s h = record { since = omega arith; pending = refl; rising = h.rising }
sound_sent (Waiting since) s h = record { since = omega arith; pending = tt; rising = h.rising }
sound_sent SendingUnsolicited s h = record { since = omega arith; pending = refl; rising = h.rising }
sound_sent (FinalWait since) s h = record { since = omega arith; pending = refl; rising = h.rising }

pub sound_unsolicited_at : (r : StatusResult) (s : Timer) → Sound s → Sound (unsolicited_at r s).0
sound_unsolicited_at Sent s h = cond_keeps SoundTurn s.unsolicited_pending (unsolicited_by Sent s) (s, None) (sound_sent s.state s h) h
sound_unsolicited_at Failed s h = cond_keeps SoundTurn s.unsolicited_pending (unsolicited_by Failed s) (s, None) (sound_renewed s) h

pub sound_solicited_at : (r : StatusResult) (s : Timer) → Sound s → Sound (solicited_at r s).0
sound_solicited_at Sent s h = cond_keeps SoundTurn (is_idle s.state) (s, None) (solicited_by Sent s) h (sound_waiting s h)
sound_solicited_at Failed s h = cond_keeps SoundTurn (is_idle s.state) (s, None) (solicited_by Failed s) h (sound_renewed s)

-- a call that goes on at the moved clock
ticked_keeps : {A : Type 0} (s : Timer) (b : ℕ) (f : Timer → After A Timer) → ((t : Timer) → Sound t → Sound (f t).state) → Sound s → Sound (onward s (ticked s b) f).state
ticked_keeps s b f k h = onward_cases Sound s (ticked s b) f h (λ t e. let q = ticked_gives s b e in k t (subst Sound (sym q.0) (sound_clocked s b q.1 h)))

-- what is admitted is sound
pub sound_admitted : (s : Timer) (b : ℕ) {t : Timer} → admitted s b ≡ gives t → Sound s → Sound t
sound_admitted s b e h = let q = admitted_gives s b e in subst Sound (sym q.1) (sound_clocked s b q.2 h)

pub admitted_keeps : {A : Type 0} (s : Timer) (b : ℕ) (f : Timer → After A Timer) → ((t : Timer) → Sound t → Sound (f t).state) → Sound s → Sound (onward s (admitted s b) f).state
admitted_keeps s b f k h = onward_cases Sound s (admitted s b) f h (λ t e. k t (sound_admitted s b e h))

pub sound_reset : (s : Timer) → Sound s → Sound (reset_of s).state
unfolding reset_of
sound_reset s h = onward_cases Sound s (enough s) (λ t. done (renewed t)) h (λ t e. sound_renewed t)

pub sound_observe : (s : Timer) (b : ℕ) → Sound s → Sound (observe_of s b).state
unfolding observe_of
sound_observe s b = ticked_keeps s b done (λ t h. h)

pub sound_received_frame : (s : Timer) (b : ℕ) → Sound s → Sound (received_frame_of s b).state
unfolding received_frame_of
sound_received_frame s b = ticked_keeps s b (λ t. done (waiting t)) sound_waiting

pub sound_advance : (s : Timer) (b : ℕ) → Sound s → Sound (advance_of s b).state
unfolding advance_of
sound_advance s b = admitted_keeps s b (λ t. acts (due_of t)) sound_due_of

reported_keeps : (s : Timer) (t : TransactionToken) (b : ℕ) (f : Timer → Timer × InactivityAction) → ((u : Timer) → Sound u → Sound (f u).0) → Sound s → Sound (reported s t b f).state
reported_keeps s t b f k h = cond_keeps SoundAfter (owns_of s t) (onward s (admitted s b) (λ u. acts (f u))) (acts (s, None)) (admitted_keeps s b (λ u. acts (f u)) k h) h

pub sound_unsolicited : (s : Timer) (t : TransactionToken) (b : ℕ) (r : StatusResult) → Sound s → Sound (unsolicited_of s t b r).state
unfolding unsolicited_of
sound_unsolicited s t b r = reported_keeps s t b (unsolicited_at r) (sound_unsolicited_at r)

pub sound_solicited : (s : Timer) (t : TransactionToken) (b : ℕ) (r : StatusResult) → Sound s → Sound (solicited_of s t b r).state
unfolding solicited_of
sound_solicited s t b r = reported_keeps s t b (solicited_at r) (sound_solicited_at r)
