-- What `Gate` and `GateOfTwo` ask for, computed: a gate that hears its order among a neighbour's; the gate of the request, which with
-- the old start-up gets the first half of its order and the second half of the neighbour's; and a second sender that starts late.
-- Assumes nothing.
use Rattle.std.proofs.Common.{◌≡◌, ℕ, ◌≤◌, Bool, true, false, ◌⊎◌, List, [], ◌∷◌, ◌++◌, length, get_or, replicate, sym, refl, ap, ◌∙◌, subst, inl, ⊎_elim, arith, lit≤}
use mathlib.Core.List.Memᴰ
use mathlib.Core.List.{Memᴰ}
use lib.Count.{ones, ones_in, count_trailing_zeros}
use Rattle.field.specs.Bits.{bits, value, bits_of, octets, field}
use Rattle.field.specs.Layout.{layout, up_to, any_set}
use Rattle.rach.specs.Identity.{same, in_range, encodable}
use Rattle.rach.specs.declared.MobileIdentity.{MobileIdentity}
use Rattle.rach.specs.declared.MobileIdentity.TheVariants.{Tmsi20}
use Rattle.spach.specs.declared.Channel.TheVariants.{Arch}
use Rattle.spach.specs.Refusal.{refuses}
use Rattle.spach.specs.Header.{header_a_at, address_at}
use Rattle.arq.specs.declared.ArqFrame.{ArqFrame}
use Rattle.arq.specs.Frame.{packed, begin_frame, continue_frame}
use Rattle.arq.specs.Encode.{encode_of}
use Rattle.arq.specs.Decode.{decode_of}
use Rattle.arq.specs.Cut.{cut_frame, count_of, frame_of}
use Rattle.arq.specs.Round.{widened}
use Rattle.receiver.specs.Receiver as receivers
use Rattle.receiver.specs.Receiver.{Out, gathered, assembled, finish, push_frame, push_of, status_answer}
use Rattle.receiver.specs.Demand3.{Push, heard, BeginFor, Such, Delivers, runs}
use Rattle.receiver.proofs.Instance.{octets_in, small, small_octets}
use Rattle.receiver.proofs.PushCases.{kinds_apart}
use Rattle.transfer.specs.declared.FrameToken.{FrameToken}
use Rattle.transfer.specs.declared.Request.{Request}
use Rattle.transfer.specs.declared.Transfer.{Transfer}
use Rattle.transfer.specs.declared.PreparedFrame.{PreparedFrame}
use Rattle.transfer.specs.State.{View, fresh, new_of, blank_transfer}
use Rattle.transfer.specs.Echo.{free_echo, held_until}
use Rattle.transfer.specs.Transfer.{header_of, done_of, settle_of}
use Rattle.transfer.specs.Advance.{fate_of, step, walk, walked}
use Rattle.transfer.specs.Enqueue.{grant_of, accepts, enqueue_of}
use Rattle.transfer.specs.Prepare.{packed_of, choose, prepare_of}
use Rattle.transfer.specs.Submitted.{submitted_at, submitted_of}
use Rattle.transfer.specs.Invariant.{All, all_none, all_more, Any}
use Rattle.transfer.specs.History.{Call, Enqueue, Prepare, Submitted, does, Told, after, Fresh, Each, Takes, Past, run_alone}
use Rattle.transfer.specs.Gate.{Sent, times_of, InTime, Listens, GetsOwn, InOctets, told, StartsLate, SentByTwo, times_of_two}
use Rattle.transfer.proofs.Listed.{all_head, all_tail, some_cons, some_all}
use Rattle.transfer.proofs.Instance.{lends, sender, made, request}
use Rattle.transfer.proofs.Gate.{gate, late_frames, gate_of_two}

-- ---- two orders

-- the gate
abbrev mine : MobileIdentity
mine = Tmsi20 1

-- its neighbour
abbrev other : MobileIdentity
other = Tmsi20 2

-- the gate's order: a Begin and one Continue
abbrev order : List ℕ
order = 1 ∷ 2 ∷ 3 ∷ 4 ∷ 5 ∷ 6 ∷ 7 ∷ 8 ∷ 9 ∷ 10 ∷ []

-- the neighbour's, too
abbrev others : List ℕ
others = 101 ∷ 102 ∷ 103 ∷ 104 ∷ 105 ∷ 106 ∷ 107 ∷ 108 ∷ 109 ∷ 110 ∷ []

-- frame k of an order's cut under an echo, polled or not
abbrev cut_of : MobileIdentity → List ℕ → (echo k : ℕ) → (polling : Bool) → ArqFrame
cut_of i m echo k polling = cut_frame (header_of Arch echo polling) i m k

-- a frame's token
abbrev token_of : (generation submission frame : ℕ) → FrameToken
token_of generation submission frame = record { generation = record { 0 = generation }; submission = record { 0 = submission }; frame = frame }

-- a frame as it is prepared
abbrev prepared_as : MobileIdentity → ArqFrame → FrameToken → PreparedFrame
prepared_as i f t = record { identity = i; octets = octets_in (encode_of f); token = t; partial_echo = f.header.partial_echo }

-- and as the gate gets it
abbrev push : PreparedFrame → Push
push p = record { octets = p.octets; buffer = replicate 255 0 }

-- what the gate does with a push after others
abbrev answer : List Push → Push → Out
answer l p = push_of (runs receivers.new_of push_of status_answer (receivers.fresh mine) l) p.octets p.buffer

-- ---- one sender, both orders at once

-- the gate's Begin
abbrev begin : ArqFrame
begin = cut_of mine order 0 0 false

-- its Continue
abbrev continue : ArqFrame
continue = cut_of mine order 0 1 true

-- the neighbour's, under the next echo
abbrev other_begin : ArqFrame
other_begin = cut_of other others 1 0 false

-- and its Continue
abbrev other_continue : ArqFrame
other_continue = cut_of other others 1 1 true

-- both orders are accepted
abbrev accepted : List Call
accepted = Enqueue (request 1 5000) order 20 100 ∷ Enqueue (request 2 5000) others 20 100 ∷ []

-- the gate's Begin is prepared, and then the neighbour's
abbrev started : List Call
started = Prepare 20 100 ∷ Submitted (token_of 100 102 0) 20 100 ∷ Prepare 21 140 ∷ Submitted (token_of 101 103 0) 21 140 ∷ []

-- then the Continues
abbrev continued : List Call
continued = Prepare 22 180 ∷ Submitted (token_of 100 104 1) 22 180 ∷ Prepare 23 220 ∷ []

-- all of it
calls : List Call
calls = accepted ++ started ++ continued

-- the Begin was sent
begin-sent : Sent sender lends calls (widened begin)
unfolding calls run_alone octets bits_of bits value field layout up_to any_set same in_range encodable packed begin_frame continue_frame encode_of decode_of header_a_at address_at count_of frame_of ones ones_in count_trailing_zeros free_echo done_of settle_of fate_of step walk walked grant_of accepts enqueue_of packed_of choose prepare_of submitted_at submitted_of
begin-sent = record {
  earlier = accepted;
  call = Prepare 20 100;
  later = Submitted (token_of 100 102 0) 20 100 ∷ Prepare 21 140 ∷ Submitted (token_of 101 103 0) 21 140 ∷ continued;
  split = refl;
  frame = prepared_as mine begin (token_of 100 102 0);
  prepared = refl;
  decodes = refl;
}

-- so was the neighbour's Continue, later
other_sent : Sent sender lends calls other_continue
unfolding calls run_alone octets bits_of bits value field layout up_to any_set same in_range encodable packed begin_frame continue_frame encode_of decode_of header_a_at address_at count_of frame_of ones ones_in count_trailing_zeros free_echo done_of settle_of fate_of step walk walked grant_of accepts enqueue_of packed_of choose prepare_of submitted_at submitted_of
other_sent = record {
  earlier = accepted ++ started ++ Prepare 22 180 ∷ Submitted (token_of 100 104 1) 22 180 ∷ [];
  call = Prepare 23 220;
  later = [];
  split = refl;
  frame = prepared_as other other_continue (token_of 101 105 1);
  prepared = refl;
  decodes = refl;
}

-- and the gate's own
continue-sent : Sent sender lends calls continue
unfolding calls run_alone octets bits_of bits value field layout up_to any_set same in_range encodable packed begin_frame continue_frame encode_of decode_of header_a_at address_at count_of frame_of ones ones_in count_trailing_zeros free_echo done_of settle_of fate_of step walk walked grant_of accepts enqueue_of packed_of choose prepare_of submitted_at submitted_of
continue-sent = record {
  earlier = accepted ++ started;
  call = Prepare 22 180;
  later = Submitted (token_of 100 104 1) 22 180 ∷ Prepare 23 220 ∷ [];
  split = refl;
  frame = prepared_as mine continue (token_of 100 104 1);
  prepared = refl;
  decodes = refl;
}

-- in time
in_time : InTime (times_of begin-sent) (times_of continue-sent)
unfolding begin-sent continue-sent run_alone octets bits_of bits value field layout up_to any_set same in_range encodable packed begin_frame continue_frame encode_of decode_of header_a_at address_at count_of frame_of ones ones_in count_trailing_zeros free_echo done_of settle_of fate_of step walk walked grant_of accepts enqueue_of packed_of choose prepare_of submitted_at submitted_of
in_time = (lit≤ tt, lit≤ tt)

-- the gate hears its Begin, and all of the neighbour's order
before : List Push
before = push (prepared_as mine begin (token_of 100 102 0)) ∷ push (prepared_as other other_begin (token_of 101 103 0)) ∷ push (prepared_as other other_continue (token_of 101 105 1)) ∷ []

-- and its Continue
last : Push
last = push (prepared_as mine continue (token_of 100 104 1))

-- what it hears after the Begin
abbrev rest : List ArqFrame
rest = widened other_begin ∷ other_continue ∷ continue ∷ []

-- so it listens as `Gate` asks
listens : Listens (Sent sender lends calls) (λ f s. times_of s) mine (widened begin) (before ++ last ∷ [])
unfolding before last heard octets bits_of bits value field layout up_to any_set in_range encodable packed begin_frame continue_frame encode_of decode_of header_a_at address_at
listens = record { rest = rest; first = refl; own = record { kind = refl; identity = refl }; lone = lone; begin = begin-sent; pieces = pieces }
  where
    three : (P : ArqFrame → Type 0) → P (widened other_begin) → P other_continue → P continue → (f : ArqFrame) → Memᴰ f rest → P f
    three P x y z f j =
        ⊎_elim (λ q. subst P (sym q) x) (λ j. ⊎_elim (λ q. subst P (sym q) y) (λ j. ⊎_elim (λ q. subst P (sym q) z) (λ j. absurd (Memᴰ.not-nil j)) (Memᴰ.cases_cons j)) (Memᴰ.cases_cons j))
        (Memᴰ.cases_cons j)

    lone : (f : ArqFrame) → Memᴰ f rest → BeginFor mine f → ⊥
    lone = three (λ f. BeginFor mine f → ⊥) (λ o. let e : other ≡ mine = o.identity in let z : ◌≡◌ {A = ℕ} 2 1 = cc in omega arith) (λ o. kinds_apart o.kind refl) (λ o. kinds_apart o.kind refl)

    pieces : (f : ArqFrame) → Memᴰ f rest → Such mine (widened begin) f → (s : Sent sender lends calls f) × InTime (times_of begin-sent) (times_of s)
    pieces =
        three (λ f. Such mine (widened begin) f → (s : Sent sender lends calls f) × InTime (times_of begin-sent) (times_of s)) (λ su. absurd (kinds_apart refl su.kind))
        (λ su. let e : ◌≡◌ {A = ℕ} 1 0 = su.echo in absurd (omega arith)) (λ su. (continue-sent, in_time))

-- what a call hands in is small
abbrev HandsIn : Call → Type 0
HandsIn c = (r : Request) (message : List ℕ) (block now : ℕ) → Enqueue r message block now ≡ c → small message ≡ true

-- so of each call of a list
each_hands_in : (l : List Call) → All HandsIn l → InOctets l
each_hands_in [] h r message block now j = absurd (Memᴰ.not-nil j)
each_hands_in (c ∷ l) h r message block now j = ⊎_elim (λ q. small_octets message (all_head h r message block now q)) (λ k. each_hands_in l (all_tail h) r message block now k) (Memᴰ.cases_cons j)

-- `enqueue` hands in a message
enqueue_hands : (s : Request) (m : List ℕ) (k n : ℕ) → small m ≡ true → HandsIn (Enqueue s m k n)
enqueue_hands s m k n e r message block now q = let z : message ≡ m = cc in ap small z ∙ e

-- `prepare` none
prepare_hands : (k n : ℕ) → HandsIn (Prepare k n)
prepare_hands k n r message block now q = let z : ◌≡◌ {A = ℕ} 0 1 = cc in absurd (omega arith)

-- nor `submitted`
submitted_hands : (t : FrameToken) (k n : ℕ) → HandsIn (Submitted t k n)
submitted_hands t k n r message block now q = let z : ◌≡◌ {A = ℕ} 0 1 = cc in absurd (omega arith)

-- both messages are octets
in_octets : InOctets calls
unfolding calls
in_octets =
    each_hands_in calls
    (all_more (enqueue_hands (request 1 5000) order 20 100 refl) (all_more (enqueue_hands (request 2 5000) others 20 100 refl)
    (all_more (prepare_hands 20 100) (all_more (submitted_hands (token_of 100 102 0) 20 100) (all_more (prepare_hands 21 140) (all_more (submitted_hands (token_of 101 103 0) 21 140)
    (all_more (prepare_hands 22 180) (all_more (submitted_hands (token_of 100 104 1) 22 180) (all_more (prepare_hands 23 220) all_none)))))))))

-- so it gets its own order
gets_own : GetsOwn sender lends calls mine (widened begin) (before ++ last ∷ [])
gets_own = gate sender lends calls mine (widened begin) (before ++ last ∷ []) made in_octets listens

-- which is this
delivered : Delivers order (replicate 255 0) (answer before last)
unfolding before last push_of push_frame receivers.continued finish assembled gathered same ones ones_in decode_of header_a_at address_at bits_of bits value octets field up_to layout any_set encode_of begin_frame continue_frame packed encodable in_range
delivered = record { answer = refl; buffer = refl }

-- ---- the old start-up

-- a first sender sends the gate's order under echo 0, which it holds until 6000 ms; then the power fails
first : List Call
first = Enqueue (request 1 5000) order 20 100 ∷ Prepare 20 100 ∷ Submitted (token_of 100 101 0) 20 100 ∷ Prepare 21 140 ∷ []

-- the Begin
first_sent : Sent sender lends first (widened begin)
unfolding first run_alone octets bits_of bits value field layout up_to any_set same in_range encodable packed begin_frame continue_frame encode_of decode_of header_a_at address_at count_of frame_of ones ones_in count_trailing_zeros free_echo done_of settle_of fate_of step walk walked grant_of accepts enqueue_of packed_of choose prepare_of submitted_at submitted_of
first_sent = record {
  earlier = Enqueue (request 1 5000) order 20 100 ∷ [];
  call = Prepare 20 100;
  later = Submitted (token_of 100 101 0) 20 100 ∷ Prepare 21 140 ∷ [];
  split = refl;
  frame = prepared_as mine begin (token_of 100 101 0);
  prepared = refl;
  decodes = refl;
}

-- a second sender in its place, as the old start-up made it: every block is usable at once
abbrev old : View
old = fresh 4 1000 0 100

-- the constructor makes it
old_made : Fresh old
unfolding new_of
old_made = record { capacity = 4; guard = 1000; first_block = 0; first = 100; fits = omega arith; made = refl }

-- it sends the neighbour's order
second : List Call
second = Enqueue (request 2 9000) others 21 200 ∷ Prepare 21 200 ∷ Submitted (token_of 100 101 0) 21 200 ∷ Prepare 22 240 ∷ []

-- under echo 0 too
abbrev stray : ArqFrame
stray = cut_of other others 0 1 true

-- its Continue
second_sent : Sent old lends second stray
unfolding second run_alone octets bits_of bits value field layout up_to any_set same in_range encodable packed begin_frame continue_frame encode_of decode_of header_a_at address_at count_of frame_of ones ones_in count_trailing_zeros free_echo done_of settle_of fate_of step walk walked grant_of accepts enqueue_of packed_of choose prepare_of submitted_at submitted_of
second_sent = record {
  earlier = Enqueue (request 2 9000) others 21 200 ∷ Prepare 21 200 ∷ Submitted (token_of 100 101 0) 21 200 ∷ [];
  call = Prepare 22 240;
  later = [];
  split = refl;
  frame = prepared_as other stray (token_of 100 102 1);
  prepared = refl;
  decodes = refl;
}

-- it is in time
stray_in_time : InTime (times_of first_sent) (times_of second_sent)
unfolding first_sent second_sent run_alone octets bits_of bits value field layout up_to any_set same in_range encodable packed begin_frame continue_frame encode_of decode_of header_a_at address_at count_of frame_of ones ones_in count_trailing_zeros free_echo done_of settle_of fate_of step walk walked grant_of accepts enqueue_of packed_of choose prepare_of submitted_at submitted_of
stray_in_time = (lit≤ tt, lit≤ tt)

-- and the gate, if its own Continue is lost, delivers the first half of its own order with the second half of the neighbour's
misled : Delivers (1 ∷ 2 ∷ 3 ∷ 4 ∷ 5 ∷ 6 ∷ 7 ∷ 108 ∷ 109 ∷ 110 ∷ []) (replicate 255 0) (answer (push first_sent.frame ∷ []) (push second_sent.frame))
unfolding first_sent second_sent push_of push_frame receivers.continued finish assembled gathered same ones ones_in decode_of header_a_at address_at bits_of bits value octets field up_to layout any_set encode_of begin_frame continue_frame packed encodable in_range
misled = record { answer = refl; buffer = refl }

-- of such a second sender `GateOfTwo` does not speak: it did not start late
not_late : StartsLate sender lends first old lends second → ⊥
unfolding first second second_sent run_alone octets bits_of bits value field layout up_to any_set same in_range encodable packed begin_frame continue_frame encode_of decode_of header_a_at address_at count_of frame_of ones ones_in count_trailing_zeros free_echo done_of settle_of fate_of step walk walked grant_of accepts enqueue_of packed_of choose prepare_of submitted_at submitted_of
not_late h = let z : 6000 ≤ 240 = late_frames sender old lends lends first second_sent.earlier [] (Prepare 22 240) second_sent.frame made old_made h second_sent.prepared 0 in omega arith

-- ---- a late start

-- a second sender whose first usable block is yet to come
abbrev new : View
new = fresh 4 1000 400 100

-- the constructor makes it
new_made : Fresh new
unfolding new_of
new_made = record { capacity = 4; guard = 1000; first_block = 400; first = 100; fits = omega arith; made = refl }

-- it refuses the neighbour's order at first
refused : (enqueue_of new lends (request 2 9000) others 21 200).outcome ≡ refuses 21
unfolding same in_range encodable count_of grant_of enqueue_of
refused = refl

-- and sends it when the hold of the first has ended
patient : List Call
patient = Enqueue (request 2 9000) others 21 200 ∷ Enqueue (request 2 9000) others 400 6000 ∷ Prepare 400 6000 ∷ []

-- the one element of a list
the_one : {P : Transfer → Type 0} (l : List Transfer) → length l ≡ 1 → Any P l → P (get_or l 0 blank_transfer)
the_one [] e h = absurd (omega arith)
the_one (x ∷ []) e h = ⊎_elim (λ p. p) (λ k. absurd (some_all {Q = λ y. ⊥} (λ y a b. b) k all_none)) (some_cons h)
the_one (x ∷ y ∷ l) e h = absurd (omega arith)

-- the transfer that a call of the first leaves has this deadline
at_5000 : (u : View) (c : Told) (echo deadline : ℕ) → length (after u c).transfers ≡ 1 → (get_or (after u c).transfers 0 blank_transfer).parcel.deadline_ms ≡ 5000 → Takes u c echo deadline → held_until sender.limits deadline ≤ 6000
at_5000 u c echo deadline n d t = let q = (the_one (after u c).transfers n t).1 in omega arith

-- so by then each taking of it is over
over : Past sender (told sender lends first) 6000
unfolding first told Each run_alone octets bits_of bits value field layout up_to any_set same in_range encodable packed begin_frame continue_frame encode_of decode_of header_a_at address_at count_of frame_of ones ones_in count_trailing_zeros free_echo done_of settle_of fate_of step walk walked grant_of accepts enqueue_of packed_of choose prepare_of submitted_at submitted_of
over echo =
    let a = does sender lends (Enqueue (request 1 5000) order 20 100) in
    let b = does a.sender a.lent (Prepare 20 100) in
    let c = does b.sender b.lent (Submitted (token_of 100 101 0) 20 100) in (
      λ deadline. at_5000 sender (lends, Enqueue (request 1 5000) order 20 100) echo deadline refl refl,
      (
        λ deadline. at_5000 a.sender (a.lent, Prepare 20 100) echo deadline refl refl,
        (
          λ deadline. at_5000 b.sender (b.lent, Submitted (token_of 100 101 0) 20 100) echo deadline refl refl,
          (λ deadline. at_5000 c.sender (c.lent, Prepare 21 140) echo deadline refl refl, tt),
        ),
      ),
    )

-- and it starts late
late : StartsLate sender lends first new lends patient
unfolding patient told Each run_alone octets bits_of bits value field layout up_to any_set same in_range encodable packed begin_frame continue_frame encode_of decode_of header_a_at address_at count_of frame_of ones ones_in count_trailing_zeros free_echo done_of settle_of fate_of step walk walked grant_of accepts enqueue_of packed_of choose prepare_of submitted_at submitted_of
late = (λ h. let z : 400 ≤ 21 = h in absurd (omega arith), (λ h. over, (λ h. over, tt)))

-- the first one's Continue
first_continue : Sent sender lends first continue
unfolding first run_alone octets bits_of bits value field layout up_to any_set same in_range encodable packed begin_frame continue_frame encode_of decode_of header_a_at address_at count_of frame_of ones ones_in count_trailing_zeros free_echo done_of settle_of fate_of step walk walked grant_of accepts enqueue_of packed_of choose prepare_of submitted_at submitted_of
first_continue = record {
  earlier = Enqueue (request 1 5000) order 20 100 ∷ Prepare 20 100 ∷ Submitted (token_of 100 101 0) 20 100 ∷ [];
  call = Prepare 21 140;
  later = [];
  split = refl;
  frame = prepared_as mine continue (token_of 100 102 1);
  prepared = refl;
  decodes = refl;
}

-- in time
first_in_time : InTime (times_of first_sent) (times_of first_continue)
unfolding first_sent first_continue run_alone octets bits_of bits value field layout up_to any_set same in_range encodable packed begin_frame continue_frame encode_of decode_of header_a_at address_at count_of frame_of ones ones_in count_trailing_zeros free_echo done_of settle_of fate_of step walk walked grant_of accepts enqueue_of packed_of choose prepare_of submitted_at submitted_of
first_in_time = (lit≤ tt, lit≤ tt)

-- the neighbour's Begin, under echo 0 again
abbrev next_begin : ArqFrame
next_begin = cut_of other others 0 0 false

-- is the second one's
patient_sent : Sent new lends patient (widened next_begin)
unfolding patient run_alone octets bits_of bits value field layout up_to any_set same in_range encodable packed begin_frame continue_frame encode_of decode_of header_a_at address_at count_of frame_of ones ones_in count_trailing_zeros free_echo done_of settle_of fate_of step walk walked grant_of accepts enqueue_of packed_of choose prepare_of submitted_at submitted_of
patient_sent = record {
  earlier = Enqueue (request 2 9000) others 21 200 ∷ Enqueue (request 2 9000) others 400 6000 ∷ [];
  call = Prepare 400 6000;
  later = [];
  split = refl;
  frame = prepared_as other next_begin (token_of 100 101 0);
  prepared = refl;
  decodes = refl;
}

-- the gate hears all three
three_pushes : List Push
three_pushes = push first_sent.frame ∷ push first_continue.frame ∷ push patient_sent.frame ∷ []

-- so it listens as `GateOfTwo` asks
listens_to_two : Listens (SentByTwo sender new lends lends first patient) (λ f s. times_of_two s) mine (widened begin) three_pushes
unfolding three_pushes first_sent first_continue patient_sent heard octets bits_of bits value field layout up_to any_set in_range encodable packed begin_frame continue_frame encode_of decode_of header_a_at address_at
listens_to_two = record { rest = after_it; first = refl; own = record { kind = refl; identity = refl }; lone = lone; begin = inl first_sent; pieces = pieces }
  where
    after_it : List ArqFrame
    after_it = continue ∷ widened next_begin ∷ []

    two : (P : ArqFrame → Type 0) → P continue → P (widened next_begin) → (f : ArqFrame) → Memᴰ f after_it → P f
    two P x y f j = ⊎_elim (λ q. subst P (sym q) x) (λ j. ⊎_elim (λ q. subst P (sym q) y) (λ j. absurd (Memᴰ.not-nil j)) (Memᴰ.cases_cons j)) (Memᴰ.cases_cons j)

    lone : (f : ArqFrame) → Memᴰ f after_it → BeginFor mine f → ⊥
    lone = two (λ f. BeginFor mine f → ⊥) (λ o. kinds_apart o.kind refl) (λ o. let e : other ≡ mine = o.identity in let z : ◌≡◌ {A = ℕ} 2 1 = cc in omega arith)

    pieces : (f : ArqFrame) → Memᴰ f after_it → Such mine (widened begin) f → (s : SentByTwo sender new lends lends first patient f) × InTime (times_of first_sent) (times_of_two s)
    pieces =
        two (λ f. Such mine (widened begin) f → (s : SentByTwo sender new lends lends first patient f) × InTime (times_of first_sent) (times_of_two s))
        (λ su. (inl first_continue, first_in_time)) (λ su. absurd (kinds_apart refl su.kind))

-- and gets its own order
gets_own_of_two : GetsOwn sender lends first mine (widened begin) three_pushes ⊎ GetsOwn new lends patient mine (widened begin) three_pushes
unfolding first patient
gets_own_of_two =
    gate_of_two sender new lends lends first patient mine (widened begin) three_pushes made new_made
    (each_hands_in first (all_more (enqueue_hands (request 1 5000) order 20 100 refl) (all_more (prepare_hands 20 100) (all_more (submitted_hands (token_of 100 101 0) 20 100) (all_more (prepare_hands 21 140) all_none)))))
    (each_hands_in patient (all_more (enqueue_hands (request 2 9000) others 21 200 refl) (all_more (enqueue_hands (request 2 9000) others 400 6000 refl) (all_more (prepare_hands 400 6000) all_none)))) late listens_to_two
