-- A procedure's life computed on the definitions: that the statements over lists of calls are not empty, 01's lines on 31 and 32
-- blocks, and the token numbers. Assumes nothing.
use Rattle.std.proofs.Common.{◌≡◌, ℕ, ◌+◌, ◌-◌, Bool, true, false, List, [], ◌∷◌, ◌++◌, replicate, Some, None, Option, refl}
use lib.Count.{ones, ones_in}
use Rattle.token.specs.Token.{stop}
use Rattle.field.specs.Bits.{bits, value, bits_of, octets, field}
use Rattle.field.specs.Layout.{layout, up_to, any_set}
use Rattle.rach.specs.Identity.{same, in_range, encodable}
use Rattle.rach.specs.declared.MobileIdentity.{MobileIdentity}
use Rattle.rach.specs.declared.MobileIdentity.TheVariants.{Tmsi20}
use Rattle.spach.specs.declared.Channel.TheVariants.{Arch}
use Rattle.spach.specs.Refusal.{Outcome, gives, refuses}
use Rattle.spach.specs.Header.{header_a_at, address_at}
use Rattle.arq.specs.declared.ResponseMode.TheVariants.{Contention, Reservation}
use Rattle.arq.specs.declared.ArqHeader.{ArqHeader}
use Rattle.arq.specs.declared.PackedFrame.{PackedFrame}
use Rattle.arq.specs.Frame.{packed, begin_frame, continue_frame}
use Rattle.arq.specs.Encode.{encode_of}
use Rattle.arq.specs.Decode.{decode_of}
use Rattle.arq.specs.Cut.{cut_frame}
use Rattle.receiver.specs.declared.ArqStatus.{ArqStatus}
use Rattle.receiver.specs.Receiver as R
use Rattle.receiver.specs.Receiver.{status_answer, gathered, assembled, finish, continued, push_frame}
use Rattle.inactivity.specs.declared.StatusResult.TheVariants as results
use Rattle.inactivity.specs.declared.State.{State}
use Rattle.inactivity.specs.declared.State.TheVariants.{Idle, Waiting, SendingUnsolicited, FinalWait}
use Rattle.inactivity.specs.Inactivity as I
use Rattle.inactivity.specs.Inactivity.{Timer}
use Rattle.procedure.specs.declared.StatusKind.TheVariants.{Solicited}
use Rattle.procedure.specs.declared.StatusTransmission.{StatusTransmission}
use Rattle.procedure.specs.declared.ReceiveEvent.{ReceiveEvent}
use Rattle.procedure.specs.declared.ReceiveEvent.TheVariants as receives
use Rattle.procedure.specs.declared.TimerEvent.TheVariants as timers
use Rattle.procedure.specs.declared.SendEvent.TheVariants as sends
use Rattle.procedure.specs.Procedure.{Procedure, new_of, says, reset_of, active_of, receive_of, unsolicited as unsolicited_under, advance_of, status_sent_of}
use Rattle.procedure.specs.Parts.{accepted}
use Rattle.procedure.specs.History.{receive, advance, status_sent, reset, runs, Each, present, Pending, ReportedSent}

-- an order of seven octets needs a Begin and one Continue, one of a single octet needs only the Begin
abbrev identity : MobileIdentity
identity = Tmsi20 1

abbrev header : ArqHeader
header = record {
  channel = Arch;
  flags = record { pch_continuation = false; bcch_change = false; paging_frame_modifier = false; reservation_response = false };
  partial_echo = 5;
  polling = false;
  response_mode = Contention;
}

abbrev octets_in : Outcome PackedFrame → List ℕ
octets_in (gives p) = p.octets
octets_in (refuses n) = []

abbrev frame : List ℕ → ℕ → List ℕ
frame m k = octets_in (encode_of (cut_frame header identity m k))

abbrev seven : List ℕ
seven = 1 ∷ 2 ∷ 3 ∷ 4 ∷ 5 ∷ 6 ∷ 7 ∷ []

-- one of twenty needs two Continues
abbrev twenty : List ℕ
twenty = 1 ∷ 2 ∷ 3 ∷ 4 ∷ 5 ∷ 6 ∷ 7 ∷ 8 ∷ 9 ∷ 10 ∷ 11 ∷ 12 ∷ 13 ∷ 14 ∷ 15 ∷ 16 ∷ 17 ∷ 18 ∷ 19 ∷ 20 ∷ []

-- one of thirty needs three
abbrev thirty : List ℕ
thirty = twenty ++ (21 ∷ 22 ∷ 23 ∷ 24 ∷ 25 ∷ 26 ∷ 27 ∷ 28 ∷ 29 ∷ 30 ∷ [])

abbrev room : List ℕ
room = replicate 255 0

-- a frame that is polled, and the status that it asks for
abbrev asking : ArqHeader
asking = record { channel = header.channel; flags = header.flags; partial_echo = 5; polling = true; response_mode = Reservation }

abbrev polled : List ℕ → ℕ → List ℕ
polled m k = octets_in (encode_of (cut_frame asking identity m k))

abbrev status : ℕ → ℕ → Bool → StatusTransmission
status k map complete = record {
  request = record { status = record { partial_echo = 5; received_frames = map }; response_mode = Reservation };
  token = record { 0 = k };
  kind = Solicited;
  complete_at_poll = complete;
}

abbrev status_in : Outcome ReceiveEvent → Option StatusTransmission
status_in (gives receives.Ignored) = None
status_in (gives (receives.Accepted m x)) = x
status_in (refuses n) = None

-- the unsolicited status of a procedure: echo and map that it holds
abbrev held : Option ArqStatus → ArqStatus
held None = record { partial_echo = 0; received_frames = 0 }
held (Some s) = s

abbrev unsolicited : Procedure → StatusTransmission
unsolicited p = unsolicited_under p (held (status_answer p.receiver))

-- a fresh procedure whose first token is n
abbrev fresh : ℕ → Procedure
fresh n = record { receiver = R.fresh identity; inactivity = I.new_of n }

-- the Begin at block 100; the status asked for at 132; sent at 150
abbrev after_begin : Procedure
after_begin = runs (fresh 7) (receive 100 (frame seven 0) room ∷ [])

abbrev asked : Procedure
asked = runs after_begin (advance 132 ∷ [])

abbrev told : Procedure
told = runs asked (status_sent 150 (unsolicited asked) results.Sent ∷ [])

-- the order of twenty: its first Continue comes while the status is pending, and takes the timer back to waiting
abbrev longer : Procedure
longer = runs (fresh 7) (receive 100 (frame twenty 0) room ∷ [])

abbrev back : Procedure
back = runs longer (advance 132 ∷ receive 140 (frame twenty 1) room ∷ [])

-- complete by a polled Continue: it waits for its status
abbrev whole : Procedure
whole = runs after_begin (receive 101 (polled seven 1) room ∷ [])

-- the Begin of an order to another
abbrev foreign : List ℕ
foreign = octets_in (encode_of (cut_frame header (Tmsi20 2) seven 0))

-- by the timer: 31 and 32 blocks, the second wait, what ends the transaction, and its token numbers
pub settled : (new_of identity 7 ≡ gives (fresh 7))
    × ((present after_begin).0 ≡ 8)
    × ((advance_of after_begin 131).outcome ≡ gives timers.None)
    × ((advance_of after_begin 132).outcome ≡ gives (timers.SendStatus (unsolicited asked)))
    × ((unsolicited asked).request.status.partial_echo ≡ 5)
    × ((unsolicited asked).request.response_mode ≡ Contention)
    × ((unsolicited asked).token.0 ≡ 8)
    × ((status_sent_of asked 150 (unsolicited asked) results.Sent).outcome ≡ gives sends.Pending)
    × ((advance_of told 181).outcome ≡ gives timers.None)
    × ((advance_of told 182).outcome ≡ gives timers.Terminated)
    × ((present (runs told (advance 182 ∷ []))).0 ≡ 10)
    × (active_of (runs told (advance 182 ∷ [])) ≡ false)
    × (status_sent_of (runs told (advance 182 ∷ [])) 0 (unsolicited asked) results.Failed ≡ says sends.Ignored (runs told (advance 182 ∷ [])))
    × ((advance_of (runs longer (receive 120 (frame twenty 1) room ∷ [])) 151).outcome ≡ gives timers.None)
    × ((advance_of back 900).outcome ≡ gives timers.None)
    × ((advance_of (runs back (status_sent 150 (unsolicited back) results.Sent ∷ [])) 181).outcome ≡ gives timers.None)
    × ((advance_of (runs back (status_sent 150 (unsolicited back) results.Sent ∷ [])) 182).outcome ≡ gives (timers.SendStatus (unsolicited back)))
    × (active_of (runs after_begin (status_sent 102 (status 8 0 false) results.Failed ∷ [])) ≡ false)
    × ((present (runs after_begin (status_sent 102 (status 8 0 false) results.Failed ∷ []))).0 ≡ 9)
    × (active_of (runs after_begin (reset ∷ [])) ≡ false)
    × ((present (runs after_begin (reset ∷ []))).0 ≡ 9)
unfolding new_of R.new_of runs receive_of accepted advance_of status_sent_of reset_of push_frame finish assembled gathered continued same ones ones_in decode_of header_a_at address_at bits_of bits value octets field up_to layout any_set encode_of begin_frame continue_frame packed encodable in_range
settled = (refl, refl, refl, refl, refl, refl, refl, refl, refl, refl, refl, refl, refl, refl, refl, refl, refl, refl, refl, refl, refl)

-- by the frames: messages, polls, refusals with the clock moved, the last four tokens
pub received : ((receive_of after_begin 101 (frame seven 1) room).buffer ≡ seven ++ replicate 248 0)
    × ((present (runs after_begin (receive 101 (frame seven 1) room ∷ []))).0 ≡ 9)
    × (active_of (runs after_begin (receive 101 (frame seven 1) room ∷ [])) ≡ false)
    × ((present (runs (fresh 7) (receive 100 (frame (65 ∷ []) 0) room ∷ []))).0 ≡ 9)
    × ((receive_of (fresh 7) 100 (polled seven 0) room).outcome ≡ gives (receives.Accepted None (Some (status 8 0 false))))
    × ((receive_of longer 101 (polled twenty 1) room).outcome ≡ gives (receives.Accepted None (Some (status 8 1 false))))
    × (status_in (receive_of after_begin 101 (polled seven 1) room).outcome ≡ Some (status 8 1 true))
    × ((advance_of whole 900).outcome ≡ gives timers.None)
    × (active_of whole ≡ true)
    × ((status_sent_of whole 102 (status 8 1 true) results.Sent).outcome ≡ gives sends.Complete)
    × (active_of (runs whole (status_sent 102 (status 8 1 true) results.Sent ∷ [])) ≡ false)
    × ((present (runs whole (status_sent 102 (status 8 1 true) results.Sent ∷ []))).0 ≡ 9)
    × ((receive_of after_begin 101 (1 ∷ []) room).outcome ≡ refuses 1)
    × ((receive_of after_begin 101 (1 ∷ []) room).procedure.inactivity.last_block ≡ 101)
    × ((receive_of after_begin 99 (1 ∷ []) []).outcome ≡ refuses 16)
    × ((receive_of after_begin 99 (1 ∷ []) room).outcome ≡ refuses 17)
    × ((present (runs (fresh (stop - 5)) (receive 100 (frame (65 ∷ []) 0) room ∷ []))).0 ≡ stop - 3)
    × ((present (runs (fresh (stop - 6)) (receive 100 (frame seven 0) room ∷ advance 132 ∷ status_sent 150 (unsolicited (runs (fresh (stop - 6)) (receive 100 (frame seven 0) room ∷ []))) results.Sent ∷ advance 182 ∷ []))).0 ≡ stop - 3)
    × ((receive_of (fresh (stop - 4)) 100 (frame (65 ∷ []) 0) []).outcome ≡ refuses 18)
    × ((reset_of (fresh (stop - 5))).outcome ≡ gives tt)
    × ((reset_of (fresh (stop - 4))).outcome ≡ refuses 18)
unfolding runs receive_of accepted advance_of status_sent_of reset_of push_frame finish assembled gathered continued same ones ones_in decode_of header_a_at address_at bits_of bits value octets field up_to layout any_set encode_of begin_frame continue_frame packed encodable in_range
received = (refl, refl, refl, refl, refl, refl, refl, refl, refl, refl, refl, refl, refl, refl, refl, refl, refl, refl, refl, refl, refl)

-- by the wait: it begins anew only with a frame that is accepted and leaves the message incomplete, and with a status that was sent
pub waited : (whole.inactivity.state ≡ Waiting 100)
    × ((runs (fresh 7) (receive 100 (polled (65 ∷ []) 0) room ∷ [])).inactivity.state ≡ Idle)
    × ((advance_of whole 900).state.inactivity.last_block ≡ 900)
    × ((receive_of after_begin 120 foreign room).outcome ≡ gives receives.Ignored)
    × ((receive_of after_begin 120 foreign room).procedure.inactivity ≡ I.clocked after_begin.inactivity 120)
    × ((receive_of after_begin 120 (frame twenty 2) room).outcome ≡ refuses 12)
    × ((receive_of after_begin 120 (frame twenty 2) room).procedure.inactivity ≡ I.clocked after_begin.inactivity 120)
    × ((receive_of after_begin 120 (1 ∷ []) room).procedure.inactivity ≡ I.clocked after_begin.inactivity 120)
    × ((receive_of after_begin 120 (1 ∷ []) (replicate 254 0)).outcome ≡ refuses 16)
    × ((status_sent_of after_begin 120 (status 8 0 false) results.Sent).outcome ≡ gives sends.Pending)
    × ((status_sent_of after_begin 120 (status 8 0 false) results.Sent).state.inactivity.state ≡ Waiting 120)
    × ((status_sent_of after_begin 120 (status 8 0 false) results.Failed).outcome ≡ gives sends.Failed)
unfolding runs receive_of accepted advance_of status_sent_of push_frame finish assembled gathered continued same ones ones_in decode_of header_a_at address_at bits_of bits value octets field up_to layout any_set encode_of begin_frame continue_frame packed encodable in_range
waited = (refl, refl, refl, refl, refl, refl, refl, refl, refl, refl, refl, refl)

-- a timer in a state at block b, under a token; an unsolicited status is pending or not
abbrev timer : State → ℕ → Bool → ℕ → Timer
timer k b pending t = record { state = k; last_block = b; unsolicited_pending = pending; transaction = record { 0 = t }; next_token = t + 1 }

-- the order of twenty in its final wait, with no Continue and with the first; whole there, by the polled second
abbrev waiting : Procedure
waiting = runs longer (advance 132 ∷ status_sent 150 (unsolicited (runs longer (advance 132 ∷ []))) results.Sent ∷ [])

abbrev half : Procedure
half = runs longer (receive 101 (frame twenty 1) room ∷ advance 133 ∷ status_sent 150 (unsolicited (runs longer (advance 133 ∷ []))) results.Sent ∷ [])

abbrev late : Procedure
late = runs half (receive 160 (polled twenty 2) room ∷ [])

-- whole while a status is being sent
abbrev sending : Procedure
sending = runs asked (receive 140 (polled seven 1) room ∷ [])

-- every state is visited by every call; each is the Rust's answer to the same calls
pub visited : (waiting.inactivity ≡ timer (FinalWait 150) 150 false 8)
    × ((receive_of waiting 160 (frame twenty 1) room).procedure.inactivity ≡ timer (Waiting 160) 160 false 8)
    × ((receive_of half 160 (frame twenty 1) room).procedure.inactivity ≡ timer (Waiting 160) 160 false 8)
    × ((receive_of half 160 (polled twenty 1) room).outcome ≡ gives (receives.Accepted None (Some (status 8 1 false))))
    × ((receive_of half 160 (frame twenty 0) room).procedure.inactivity ≡ timer (Waiting 160) 160 false 9)
    × ((receive_of half 160 foreign room).procedure.inactivity ≡ timer (FinalWait 150) 160 false 8)
    × ((receive_of half 160 (frame seven 1) room).outcome ≡ refuses 14)
    × ((receive_of half 160 (frame seven 1) room).procedure.inactivity ≡ timer (FinalWait 150) 160 false 8)
    × ((receive_of half 160 (frame twenty 2) room).buffer ≡ twenty ++ replicate 235 0)
    × ((receive_of half 160 (frame twenty 2) room).procedure.inactivity ≡ timer Idle 160 false 9)
    × (late.inactivity ≡ timer (FinalWait 150) 160 false 8)
    × (active_of late ≡ true)
    × ((advance_of late 900).outcome ≡ gives timers.None)
    × ((advance_of late 900).state.inactivity ≡ timer (FinalWait 150) 900 false 8)
    × ((receive_of late 161 (polled twenty 2) room).outcome ≡ gives (receives.Accepted None (Some (status 8 3 true))))
    × ((receive_of late 161 (polled twenty 1) room).outcome ≡ gives (receives.Accepted None (Some (status 8 3 true))))
    × ((receive_of late 161 (frame twenty 1) room).procedure.inactivity ≡ timer Idle 161 false 9)
    × ((status_sent_of half 160 (status 8 1 false) results.Failed).outcome ≡ gives sends.Failed)
    × ((status_sent_of half 160 (status 8 1 false) results.Failed).state.inactivity ≡ timer Idle 160 false 9)
    × ((status_sent_of half 160 (status 8 1 false) results.Sent).state.inactivity ≡ timer (Waiting 160) 160 false 8)
    × ((receive_of asked 140 (frame seven 0) room).procedure.inactivity ≡ timer (Waiting 140) 140 false 9)
    × ((receive_of longer 120 (frame twenty 1) room).procedure.inactivity ≡ timer (Waiting 120) 120 false 8)
    × ((runs longer (receive 120 (frame twenty 1) room ∷ receive 125 (frame twenty 1) room ∷ [])).inactivity ≡ timer (Waiting 125) 125 false 8)
    × ((runs back (receive 145 (frame twenty 1) room ∷ [])).inactivity ≡ timer (Waiting 145) 145 true 8)
    × (sending.inactivity ≡ timer SendingUnsolicited 140 true 8)
    × ((advance_of sending 900).outcome ≡ gives timers.None)
    × ((status_sent_of sending 150 (unsolicited asked) results.Sent).state.inactivity ≡ timer (FinalWait 150) 150 false 8)
    × ((advance_of (runs sending (status_sent 150 (unsolicited asked) results.Sent ∷ [])) 900).outcome ≡ gives timers.None)
    × ((status_sent_of sending 150 (unsolicited asked) results.Failed).outcome ≡ gives sends.Failed)
unfolding runs receive_of accepted advance_of status_sent_of push_frame finish assembled gathered continued same ones ones_in decode_of header_a_at address_at bits_of bits value octets field up_to layout any_set encode_of begin_frame continue_frame packed encodable in_range
visited = (refl, refl, refl, refl, refl, refl, refl, refl, refl, refl, refl, refl, refl, refl, refl, refl, refl, refl, refl, refl, refl, refl, refl, refl, refl, refl, refl, refl, refl)

-- an order of four frames: with two of its three Continues it is not complete, by whatever frame it was polled
abbrev two_thirds : Procedure
two_thirds = runs (fresh 7) (receive 100 (frame thirty 0) room ∷ receive 101 (frame thirty 2) room ∷ receive 102 (polled thirty 0) room ∷ receive 103 (polled thirty 1) room ∷ receive 104 (polled thirty 3) room ∷ [])

abbrev three_thirds : Procedure
three_thirds = runs two_thirds (receive 105 (polled thirty 2) room ∷ [])

-- it is active from the Begin to its end, in each state of the timer; a status tells the whole map before and after the message is complete
pub lived : ((receive_of two_thirds 105 (polled thirty 1) room).outcome ≡ gives (receives.Accepted None (Some (status 9 5 false))))
    × (two_thirds.inactivity ≡ timer (Waiting 104) 104 false 9)
    × ((advance_of two_thirds 135).outcome ≡ gives timers.None)
    × ((advance_of two_thirds 136).outcome ≡ gives (timers.SendStatus (unsolicited two_thirds)))
    × ((unsolicited two_thirds).request.status.received_frames ≡ 5)
    × ((receive_of two_thirds 105 (frame thirty 2) room).buffer ≡ thirty ++ replicate 225 0)
    × (status_in (receive_of two_thirds 105 (polled thirty 2) room).outcome ≡ Some (status 9 7 true))
    × ((receive_of three_thirds 106 (polled thirty 1) room).outcome ≡ gives (receives.Accepted None (Some (status 9 7 true))))
    × ((advance_of three_thirds 900).outcome ≡ gives timers.None)
    × (active_of (fresh 7) ≡ false)
    × (active_of after_begin ≡ true)
    × (active_of asked ≡ true)
    × (active_of told ≡ true)
    × (active_of back ≡ true)
    × (active_of half ≡ true)
    × (active_of sending ≡ true)
    × (active_of three_thirds ≡ true)
unfolding runs receive_of accepted advance_of status_sent_of push_frame finish assembled gathered continued same ones ones_in decode_of header_a_at address_at bits_of bits value octets field up_to layout any_set encode_of begin_frame continue_frame packed encodable in_range
lived = (refl, refl, refl, refl, refl, refl, refl, refl, refl, refl, refl, refl, refl, refl, refl, refl, refl)

-- ---- the statements over lists of calls are not empty

-- a status is pending, though a frame was accepted since
pub pending : Pending longer 132 (receive 140 (frame twenty 1) room ∷ [])
unfolding runs Each receive_of accepted advance_of push_frame finish assembled gathered continued same ones ones_in decode_of header_a_at address_at bits_of bits value octets field up_to layout any_set encode_of begin_frame continue_frame packed encodable in_range
pending = record { status = unsolicited (runs longer (advance 132 ∷ [])); asked = refl; under = refl; unanswered = ((λ a. a.0), tt) }

-- one was sent, though octets that are no frame were refused and a reset was not called since
pub told-sent : ReportedSent after_begin 132 (receive 140 (1 ∷ []) room ∷ advance 141 ∷ []) 150 (unsolicited asked) results.Sent
unfolding runs Each receive_of accepted advance_of status_sent_of push_frame finish assembled gathered continued same ones ones_in decode_of header_a_at address_at bits_of bits value octets field up_to layout any_set encode_of begin_frame continue_frame packed encodable in_range
told-sent = record {
  status = unsolicited asked;
  asked = refl;
  silent = (((λ a. let e = a.2 in cc), (λ a. a)), (((λ a. a), (λ a. a)), tt));
  unsolicited = refl;
  token = refl;
  sent = refl;
}
