-- 01's lines on 31 and 32 blocks, the last four tokens, and each state that a life goes through, computed on the definitions. Assumes
-- nothing.
use Rattle.std.proofs.Common.{◌≡◌, ℕ, ◌-◌, true, false, refl}
use Rattle.token.specs.Token.{stop}
use Rattle.spach.specs.Refusal.{gives, refuses}
use Rattle.inactivity.specs.declared.InactivityAction.TheVariants.{None, RequestUnsolicitedStatus, Terminate}
use Rattle.inactivity.specs.declared.StatusResult.TheVariants.{Sent, Failed}
use Rattle.inactivity.specs.declared.State.TheVariants.{Idle, Waiting, SendingUnsolicited, FinalWait}
use Rattle.inactivity.specs.Inactivity.{Timer, new_of, renewed, clocked, acts, done, reset_of, observe_of, received_frame_of, advance_of, unsolicited_of, solicited_of}

-- a frame at block 100, under token 7
abbrev waits : Timer
waits = (received_frame_of (new_of 7) 100).state

-- 32 silent blocks later a status is asked for; another frame comes while it is pending
abbrev asked : Timer
asked = (advance_of waits 132).state

abbrev after_frame : Timer
after_frame = (received_frame_of asked 140).state

-- it was sent at block 150
abbrev told : Timer
told = (unsolicited_of asked (record { 0 = 7 }) 150 Sent).state

-- a timer whose next token has n left
abbrev left : ℕ → Timer
left n = (received_frame_of (new_of (stop - n - 1)) 100).state

pub settled : ((advance_of waits 131).outcome ≡ gives None)
    × ((advance_of waits 132).outcome ≡ gives RequestUnsolicitedStatus)
    × ((advance_of after_frame 900).outcome ≡ gives None)
    × (told.state ≡ FinalWait 150)
    × ((advance_of told 181).outcome ≡ gives None)
    × ((advance_of told 182).outcome ≡ gives Terminate)
    × ((advance_of told 182).state.transaction.0 ≡ 8)
    × ((solicited_of told (record { 0 = 7 }) 160 Sent).state.state ≡ Waiting 160)
    × (unsolicited_of asked (record { 0 = 6 }) 900 Failed ≡ acts (asked, None))
    × (solicited_of asked (record { 0 = 6 }) 900 Failed ≡ acts (asked, None))
    × (unsolicited_of asked (record { 0 = 7 }) 150 Failed ≡ acts (renewed (clocked asked 150), Terminate))
    × (solicited_of asked (record { 0 = 7 }) 150 Failed ≡ acts (renewed (clocked asked 150), Terminate))
    × (unsolicited_of waits (record { 0 = 7 }) 150 Failed ≡ acts (clocked waits 150, None))
    × (solicited_of (new_of 7) (record { 0 = 7 }) 150 Failed ≡ acts (clocked (new_of 7) 150, None))
    × ((solicited_of asked (record { 0 = 7 }) 150 Sent).state.unsolicited_pending ≡ true)
    × ((unsolicited_of after_frame (record { 0 = 7 }) 150 Sent).state.state ≡ Waiting 150)
    × (reset_of asked ≡ done (renewed asked))
    × ((unsolicited_of told (record { 0 = 7 }) 149 Failed).outcome ≡ refuses 17)
    × ((observe_of told 149).outcome ≡ refuses 17)
    × ((advance_of (left 4) 132).outcome ≡ gives RequestUnsolicitedStatus)
    × ((reset_of (left 4)).outcome ≡ gives tt)
    × ((unsolicited_of (advance_of (left 4) 132).state (left 4).transaction 140 Failed).outcome ≡ gives Terminate)
    × ((advance_of (left 3) 99).outcome ≡ refuses 18)
    × ((solicited_of (left 3) (left 3).transaction 99 Sent).outcome ≡ refuses 18)
    × ((solicited_of (left 3) (record { 0 = 0 }) 99 Sent).outcome ≡ gives None)
    × ((reset_of (left 3)).outcome ≡ refuses 18)
    × ((observe_of (left 3) 132).outcome ≡ gives tt)
    × ((new_of stop).next_token ≡ stop)
unfolding reset_of observe_of received_frame_of advance_of unsolicited_of solicited_of
settled = (refl, refl, refl, refl, refl, refl, refl, refl, refl, refl, refl, refl, refl, refl, refl, refl, refl, refl, refl, refl, refl, refl, refl, refl, refl, refl, refl, refl)

-- the states: what each call leaves, and what it does not touch
pub passed : (new_of 7 ≡ record { state = Idle; last_block = 0; unsolicited_pending = false; transaction = record { 0 = 7 }; next_token = 8 })
    × (waits ≡ record { state = Waiting 100; last_block = 100; unsolicited_pending = false; transaction = record { 0 = 7 }; next_token = 8 })
    × ((observe_of waits 120).state ≡ record { state = Waiting 100; last_block = 120; unsolicited_pending = false; transaction = record { 0 = 7 }; next_token = 8 })
    × (asked ≡ record { state = SendingUnsolicited; last_block = 132; unsolicited_pending = true; transaction = record { 0 = 7 }; next_token = 8 })
    × (after_frame ≡ record { state = Waiting 140; last_block = 140; unsolicited_pending = true; transaction = record { 0 = 7 }; next_token = 8 })
    × (told ≡ record { state = FinalWait 150; last_block = 150; unsolicited_pending = false; transaction = record { 0 = 7 }; next_token = 8 })
    × ((advance_of told 182).state ≡ record { state = Idle; last_block = 182; unsolicited_pending = false; transaction = record { 0 = 8 }; next_token = 9 })
    × ((reset_of asked).state ≡ record { state = Idle; last_block = 132; unsolicited_pending = false; transaction = record { 0 = 8 }; next_token = 9 })
    × ((solicited_of waits (record { 0 = 7 }) 120 Sent).state.state ≡ Waiting 120)
    × (unsolicited_of asked (record { 0 = 8 }) 900 Failed ≡ acts (asked, None))
    × ((advance_of (new_of 7) 900).outcome ≡ gives None)
    × ((advance_of asked 900).outcome ≡ gives None)
    × ((observe_of told 150).outcome ≡ gives tt)
    × (received_frame_of told 149 ≡ record { outcome = refuses 17; state = told })
    × ((received_frame_of (left 3) 132).outcome ≡ gives tt)
unfolding reset_of observe_of received_frame_of advance_of unsolicited_of solicited_of
passed = (refl, refl, refl, refl, refl, refl, refl, refl, refl, refl, refl, refl, refl, refl, refl)

-- every call in every state that the lists above leave out; each is the Rust's answer to the same calls
abbrev at : ℕ → ℕ → Timer
at b since = record { state = Waiting since; last_block = b; unsolicited_pending = false; transaction = record { 0 = 7 }; next_token = 8 }

abbrev final : ℕ → Timer
final b = record { state = FinalWait 150; last_block = b; unsolicited_pending = false; transaction = record { 0 = 7 }; next_token = 8 }

abbrev pending : ℕ → ℕ → Timer
pending b since = record { state = Waiting since; last_block = b; unsolicited_pending = true; transaction = record { 0 = 7 }; next_token = 8 }

abbrev sending : ℕ → Timer
sending b = record { state = SendingUnsolicited; last_block = b; unsolicited_pending = true; transaction = record { 0 = 7 }; next_token = 8 }

abbrev anew : ℕ → Timer
anew b = record { state = Idle; last_block = b; unsolicited_pending = false; transaction = record { 0 = 8 }; next_token = 9 }

pub visited : (received_frame_of waits 120 ≡ done (at 120 120))
    × (received_frame_of after_frame 145 ≡ done (pending 145 145))
    × (received_frame_of told 160 ≡ done (at 160 160))
    × (received_frame_of told 150 ≡ done (at 150 150))
    × (observe_of asked 140 ≡ done (sending 140))
    × (observe_of after_frame 150 ≡ done (pending 150 140))
    × (observe_of told 160 ≡ done (final 160))
    × (advance_of waits 131 ≡ acts (at 131 100, None))
    × (advance_of waits 132 ≡ acts (sending 132, RequestUnsolicitedStatus))
    × (advance_of asked 900 ≡ acts (sending 900, None))
    × (advance_of after_frame 900 ≡ acts (pending 900 140, None))
    × (advance_of told 181 ≡ acts (final 181, None))
    × (advance_of told 182 ≡ acts (anew 182, Terminate))
    × (unsolicited_of asked (record { 0 = 7 }) 150 Sent ≡ acts (final 150, None))
    × (unsolicited_of after_frame (record { 0 = 7 }) 150 Sent ≡ acts (at 150 150, None))
    × (unsolicited_of after_frame (record { 0 = 7 }) 150 Failed ≡ acts (anew 150, Terminate))
    × (unsolicited_of told (record { 0 = 7 }) 160 Sent ≡ acts (final 160, None))
    × (unsolicited_of told (record { 0 = 7 }) 160 Failed ≡ acts (final 160, None))
    × (solicited_of waits (record { 0 = 7 }) 120 Sent ≡ acts (at 120 120, None))
    × (solicited_of waits (record { 0 = 7 }) 120 Failed ≡ acts (anew 120, Terminate))
    × (solicited_of asked (record { 0 = 7 }) 150 Sent ≡ acts (pending 150 150, None))
    × (solicited_of after_frame (record { 0 = 7 }) 150 Sent ≡ acts (pending 150 150, None))
    × (solicited_of after_frame (record { 0 = 7 }) 150 Failed ≡ acts (anew 150, Terminate))
    × (solicited_of told (record { 0 = 7 }) 160 Sent ≡ acts (at 160 160, None))
    × (solicited_of told (record { 0 = 7 }) 160 Failed ≡ acts (anew 160, Terminate))
    × (solicited_of told (record { 0 = 6 }) 1 Failed ≡ acts (told, None))
    × (reset_of waits ≡ done (anew 100))
    × (reset_of after_frame ≡ done (anew 140))
    × (reset_of told ≡ done (anew 150))
unfolding reset_of observe_of received_frame_of advance_of unsolicited_of solicited_of
visited = (refl, refl, refl, refl, refl, refl, refl, refl, refl, refl, refl, refl, refl, refl, refl, refl, refl, refl, refl, refl, refl, refl, refl, refl, refl, refl, refl, refl, refl)
