-- Lives of small senders, call by call, settled by one computed test each: the definitions say what the Rust says of the same
-- calls. Every answer is the Rust's; where it has none, for refusals 16 and 18 and for tokens that no call gave, it is 01's.
-- Assumes nothing.
use Rattle.std.proofs.Common.{◌≡◌, ℕ, ◌+◌, Bool, true, false, List, [], ◌∷◌, ◌++◌, map, get_or, take, drop, replicate, Some, None, Option, refl}
use lib.Count.{ones, ones_in, count_trailing_zeros}
use Rattle.field.specs.Bits.{bit, bits, value, bits_of, octets}
use Rattle.field.specs.Layout.{layout, up_to, any_set}
use Rattle.rach.specs.Identity.{same, in_range, encodable}
use Rattle.rach.specs.declared.MobileIdentity.{MobileIdentity}
use Rattle.rach.specs.declared.MobileIdentity.TheVariants.{Tmsi20, Tmsi24, Min34}
use Rattle.spach.specs.declared.Channel.{Channel}
use Rattle.spach.specs.declared.Channel.TheVariants.{Arch, Smsch, Pch}
use Rattle.spach.specs.Refusal.{Outcome, gives, refuses, After}
use Rattle.arq.specs.Frame.{packed, begin_frame, continue_frame}
use Rattle.arq.specs.Encode.{encode_of}
use Rattle.arq.specs.Cut.{count_of, frame_of}
use Rattle.transfer.specs.declared.FrameToken.{FrameToken}
use Rattle.transfer.specs.declared.Event.{Event}
use Rattle.transfer.specs.declared.Transfer.{Transfer}
use Rattle.transfer.specs.declared.PreparedFrame.{PreparedFrame}
use Rattle.transfer.specs.Queue.{frames_of}
use Rattle.transfer.specs.State.{View, Lent, Out, fresh, new_of}
use Rattle.transfer.specs.Echo.{free_echo}
use Rattle.transfer.specs.Transfer.{done_of, settle_of}
use Rattle.transfer.specs.Advance.{fate_of, step, walk, walked, advance_of}
use Rattle.transfer.specs.Enqueue.{grant_of, accepts, enqueue_of}
use Rattle.transfer.specs.Prepare.{packed_of, choose, prepare_of, has_echo_of, interrupt_of, prioritize_at, prepare_prioritized_of}
use Rattle.transfer.specs.Submitted.{submitted_at, submitted_of, submitted_message_of, transmitted_at, transmitted_of}
use Rattle.transfer.specs.Status.{shown, status_at, status_of}
use Rattle.transfer.specs.Cancel.{cancel_of, cancel_transaction_of, cancel_all_of}
use Rattle.transfer.specs.Refresh.{queue_waiting, oldest, serve_oldest, refresh_waiting_of}
use Rattle.transfer.specs.Numbers.{Ending, complete, expired, cancelled, failed, ending_of}
use Rattle.transfer.specs.Queries.{can_enqueue_of, identity_for_echo_of, radio_active_of, ready_of, contains_of, pop_event_of, pending_of}

-- ---- calls and answers

data Call : Type 0 where
  enqueue : MobileIdentity → Channel → (message : List ℕ) → (completion deadline block now : ℕ) → Call
  advance prepare refresh can_enqueue : (block now : ℕ) → Call
  prioritize interrupt : (echo block now : ℕ) → Call
  submitted transmitted : (generation submission frame block now : ℕ) → Call
  submitted_message : (generation submission frame : ℕ) → Call
  status : (echo map block now : ℕ) → Call
  cancel contains : MobileIdentity → Call
  cancel_transaction : (owner : ℕ) → Call
  cancel_all pop radio_active ready pending : Call
  has_echo identity_for_echo : (echo : ℕ) → Call
  -- from here on so many octets and words are lent
  lend : (octets words : ℕ) → Call
  -- no calls: completions in the order of the list; the queue of the transfer of a place in it; until when an echo is held; lent octets and
  -- words; the state
  order state : Call
  queue : (place : ℕ) → Call
  held : (echo : ℕ) → Call
  stored : (offset length : ℕ) → Call
  word : (place : ℕ) → Call

data Line : Type 0 where
  refused : (number : ℕ) → Line
  done nothing unknown : Line
  answer confirmed : Bool → Line
  owner number : ℕ → Line
  numbers : List ℕ → Line
  to : MobileIdentity → Line
  frame : (generation submission frame echo : ℕ) → (octets : List ℕ) → Line
  -- 0 Complete, 1 Expired, 2 Cancelled; a Failed one has the number of its error
  event : (kind completion : ℕ) → Line
  -- of each transfer: completion, n, octets, frames, owner, echo, generation, queue, in flight, transmitted, observed, status, last progress,
  -- last frame and waiting since (each a block and 1, or 0), deadline; the events; the selected token and echo; next echo, last block, last ms,
  -- next token
  whole : (transfers : List (List ℕ)) → (events selected rest : List ℕ) → Line

-- ---- what they come to

abbrev outcome : {A : Type 0} → (A → Line) → Outcome A → Line
outcome f (gives a) = f a
outcome f (refuses n) = refused n

abbrev prepared : Option PreparedFrame → Line
prepared None = nothing
prepared (Some f) = frame f.token.generation.0 f.token.submission.0 f.token.frame f.partial_echo f.octets

abbrev confirmation : Option Bool → Line
confirmation None = unknown
confirmation (Some b) = confirmed b

abbrev completion : Option ℕ → Line
completion None = nothing
completion (Some c) = number c

abbrev addressee : Option MobileIdentity → Line
addressee None = nothing
addressee (Some i) = to i

abbrev kind_of : Ending → ℕ × ℕ
kind_of (complete c) = (0, c)
kind_of (expired c) = (1, c)
kind_of (cancelled c) = (2, c)
kind_of (failed c n) = (n, c)

abbrev next_event : Option Ending → Line
next_event None = nothing
next_event (Some e) = let k = kind_of e in event k.0 k.1

abbrev since_number : Option ℕ → ℕ
since_number None = 0
since_number (Some b) = b + 1

abbrev transfer_numbers : Transfer → List ℕ
transfer_numbers x =
    x.parcel.completion
    ∷ x.parcel.n
    ∷ x.parcel.octets
    ∷ x.parcel.frames
    ∷ x.parcel.owner.0
    ∷ x.echo
    ∷ x.generation.0
    ∷ x.sets.queue
    ∷ x.sets.in_flight
    ∷ x.sets.transmitted
    ∷ x.sets.observed
    ∷ bit x.sets.received_status
    ∷ since_number x.blocks.last_progress
    ∷ since_number x.blocks.last_frame
    ∷ since_number x.blocks.waiting_since
    ∷ x.parcel.deadline_ms
    ∷ []

abbrev event_numbers : List Event → List ℕ
event_numbers [] = []
event_numbers (e ∷ l) = let k = kind_of (ending_of e) in k.0 ∷ k.1 ∷ event_numbers l

abbrev selected_numbers : Option PreparedFrame → List ℕ
selected_numbers None = []
selected_numbers (Some f) = f.token.generation.0 ∷ f.token.submission.0 ∷ f.token.frame ∷ f.partial_echo ∷ []

abbrev whole_of : View → Line
whole_of v = whole (map transfer_numbers v.transfers) (event_numbers v.events) (selected_numbers v.selected) (v.echoes.next_echo ∷ v.clock.last_block ∷ v.clock.last_ms ∷ v.next_token ∷ [])

abbrev queue_at : List Transfer → ℕ → List ℕ
queue_at [] k = []
queue_at (x ∷ l) k = get_or (map (λ y. frames_of y.sets.queue) (x ∷ l)) k []

-- ---- a life: each call gets the sender and the lent memory that the one before it left

record Step : Type 0 where
  line : Line
  sender : View
  lent : Lent

abbrev leaves : {A : Type 0} → Lent → (A → Line) → After A View → Step
leaves m f a = record { line = outcome f a.outcome; sender = a.state; lent = m }

abbrev writes : {A : Type 0} → (A → Line) → Out A → Step
writes f o = record { line = outcome f o.outcome; sender = o.sender; lent = o.lent }

abbrev says : Line → View → Lent → Step
says l v m = record { line = l; sender = v; lent = m }

abbrev lends : ℕ → ℕ → Lent
lends octs ws = record { octets = replicate octs 0; words = replicate ws 0 }

abbrev token_of : ℕ → ℕ → ℕ → FrameToken
token_of g s k = record { generation = record { 0 = g }; submission = record { 0 = s }; frame = k }

abbrev call : View → Lent → Call → Step
call v m (enqueue i c message comp deadline b now) = writes (λ t. owner t.0) (enqueue_of v m (record { identity = i; channel = c; completion = comp; deadline_ms = deadline }) message b now)
call v m (advance b now) = leaves m (λ u. done) (advance_of v m b now)
call v m (prepare b now) = leaves m prepared (prepare_of v m b now)
call v m (refresh b now) = leaves m (λ u. done) (refresh_waiting_of v m b now)
call v m (can_enqueue b now) = says (answer (can_enqueue_of v b now)) v m
call v m (prioritize e b now) = leaves m prepared (prepare_prioritized_of v m e b now)
call v m (interrupt e b now) = leaves m answer (interrupt_of v m e b now)
call v m (submitted g s k b now) = writes (λ u. done) (submitted_of v m (token_of g s k) b now)
call v m (transmitted g s k b now) = leaves m confirmation (transmitted_of v m (token_of g s k) b now)
call v m (submitted_message g s k) = says (completion (submitted_message_of v (token_of g s k))) v m
call v m (status e map-bits b now) = leaves m answer (status_of v m (record { partial_echo = e; received_frames = map-bits }) b now)
call v m (cancel i) = leaves m answer (cancel_of v i)
call v m (contains i) = says (answer (contains_of v i)) v m
call v m (cancel_transaction t) = leaves m answer (cancel_transaction_of v (record { 0 = t }))
call v m cancel_all = says done (cancel_all_of v) m
call v m pop = leaves m next_event (pop_event_of v)
call v m radio_active = says (answer (radio_active_of v)) v m
call v m ready = says (answer (ready_of v)) v m
call v m pending = says (number (pending_of v)) v m
call v m (has_echo e) = says (answer (has_echo_of v e)) v m
call v m (identity_for_echo e) = says (addressee (identity_for_echo_of v e)) v m
call v m (lend octs ws) = says done v (lends octs ws)
call v m order = says (numbers (map (λ x. x.parcel.completion) v.transfers)) v m
call v m state = says (whole_of v) v m
call v m (queue k) = says (numbers (queue_at v.transfers k)) v m
call v m (held e) = says (number (get_or v.echoes.echo_until_ms e 0)) v m
call v m (stored o n) = says (numbers (take n (drop o m.octets))) v m
call v m (word k) = says (number (get_or m.words k 0)) v m

abbrev lines_of : View → Lent → List (Call × Line) → List Line
lines_of v m [] = []
lines_of v m (c ∷ l) = let s = call v m c.0 in s.line ∷ lines_of s.sender s.lent l

-- a life from a sender on, with as much lent as is needed: each call and its answer
abbrev Lives : View → List (Call × Line) → Type 0
Lives v l = lines_of v (lends 32640 3456) l ≡ map (λ c. c.1) l

-- what 127 transfers leave in a fresh sender that were enqueued with this deadline, and cancelled: echo 127 alone is free
abbrev crowded : ℕ → View → View
crowded deadline v = record {
  limits = v.limits;
  clock = v.clock;
  transfers = [];
  events = [];
  echoes = record { echo_until_ms = replicate 127 (deadline + v.limits.echo_guard_ms) ++ 0 ∷ []; next_echo = 127 };
  selected = None;
  next_token = v.next_token + 127;
}

-- 50 for echo 5, 100 for 2, 3, 9 and 12, 1000 for each other
deadlines : List ℕ
deadlines = 1000 ∷ 1000 ∷ 100 ∷ 100 ∷ 1000 ∷ 50 ∷ 1000 ∷ 1000 ∷ 1000 ∷ 100 ∷ 1000 ∷ 1000 ∷ 100 ∷ replicate 115 1000

-- what 128 transfers leave in a fresh sender that were enqueued with these deadlines at its first usable block, one after the other cancelled
abbrev left : List ℕ → View → View
left deadlines v = record {
  limits = v.limits;
  clock = record { last_block = v.limits.startup_until_block; last_ms = 0 };
  transfers = [];
  events = [];
  echoes = record { echo_until_ms = map (λ d. d + v.limits.echo_guard_ms) deadlines; next_echo = 0 };
  selected = None;
  next_token = v.next_token + 128;
}

-- ---- lives

-- a one-frame order from `enqueue` to Complete: one token for the transfer, one for its submission
one_frame : List (Call × Line)
one_frame =
    (can_enqueue 0 0, answer true)
    ∷ (enqueue (Tmsi20 1) Arch (65 ∷ []) 7 5000 10 100, owner 100)
    ∷ (word 0, number 0)
    ∷ (pending, number 1)
    ∷ (radio_active, answer false)
    ∷ (identity_for_echo 1, nothing)
    ∷ (state, whole ((7 ∷ 0 ∷ 1 ∷ 1 ∷ 100 ∷ 0 ∷ 100 ∷ 1 ∷ 0 ∷ 0 ∷ 0 ∷ 0 ∷ 0 ∷ 0 ∷ 0 ∷ 5000 ∷ []) ∷ []) [] [] (1 ∷ 10 ∷ 100 ∷ 101 ∷ []))
    ∷ (prepare 10 100, frame 100 101 0 0 (0x61 ∷ 0x40 ∷ 0x00 ∷ 0x00 ∷ 0x20 ∷ 0x08 ∷ 0x05 ∷ 0x04 ∷ replicate 6 0))
    ∷ (prepare 11 100, frame 100 101 0 0 (0x61 ∷ 0x40 ∷ 0x00 ∷ 0x00 ∷ 0x20 ∷ 0x08 ∷ 0x05 ∷ 0x04 ∷ replicate 6 0))
    ∷ (held 0, number 6000)
    ∷ (held 1, number 0)
    ∷ (submitted 100 101 0 12 120, done)
    ∷ (submitted 100 101 0 12 120, refused 24)
    ∷ (submitted_message 100 101 0, number 7)
    ∷ (word 0, number 101)
    ∷ (prepare 13 130, nothing)
    ∷ (transmitted 100 101 1 14 140, unknown)
    ∷ (transmitted 100 101 0 14 140, confirmed true)
    ∷ (state, whole ((7 ∷ 0 ∷ 1 ∷ 1 ∷ 100 ∷ 0 ∷ 100 ∷ 0 ∷ 0 ∷ 1 ∷ 0 ∷ 0 ∷ 13 ∷ 13 ∷ 15 ∷ 5000 ∷ []) ∷ []) [] [] (1 ∷ 14 ∷ 140 ∷ 102 ∷ []))
    ∷ (status 0 0 20 200, answer true)
    ∷ (state, whole [] (0 ∷ 7 ∷ []) [] (1 ∷ 20 ∷ 200 ∷ 102 ∷ []))
    ∷ (pop, event 0 7)
    ∷ (pop, nothing)
    ∷ (prepare 21 200, nothing)
    ∷ []

-- three frames; a status after two of them is kept until nothing is in flight, and then queues frame 2 again; a frame is confirmed once
three_frames : List (Call × Line)
three_frames =
    (enqueue (Tmsi20 1) Smsch (replicate 17 65) 1 5000 10 100, owner 100)
    ∷ (prepare 10 100, frame 100 101 0 0 (0x81 ∷ 0x40 ∷ 0x00 ∷ 0x00 ∷ 0x20 ∷ 0x00 ∷ 0x45 ∷ 0x05 ∷ 0x05 ∷ 0x05 ∷ 0x05 ∷ 0x05 ∷ 0x05 ∷ 0x00 ∷ []))
    ∷ (submitted 100 101 0 10 100, done)
    ∷ (prepare 11 100, frame 100 102 1 0 (0x81 ∷ 0x80 ∷ 0x00 ∷ 0x02 ∷ 0x82 ∷ 0x82 ∷ 0x82 ∷ 0x82 ∷ 0x82 ∷ 0x82 ∷ 0x82 ∷ 0x82 ∷ 0x82 ∷ 0x80 ∷ []))
    ∷ (submitted 100 102 1 11 100, done)
    ∷ (submitted_message 100 101 0, nothing)
    ∷ (status 0 0xfc000003 12 100, answer true)
    ∷ (state, whole ((1 ∷ 0 ∷ 17 ∷ 3 ∷ 100 ∷ 0 ∷ 100 ∷ 4 ∷ 3 ∷ 0 ∷ 2 ∷ 1 ∷ 13 ∷ 12 ∷ 0 ∷ 5000 ∷ []) ∷ []) [] [] (1 ∷ 12 ∷ 100 ∷ 103 ∷ []))
    ∷ (prepare 13 100, frame 100 103 2 0 (0x81 ∷ 0x80 ∷ 0x01 ∷ 0x05 ∷ replicate 10 0))
    ∷ (submitted 100 103 2 13 100, done)
    ∷ (submitted_message 100 103 2, number 1)
    ∷ (submitted_message 100 999 77, number 1)
    ∷ (word 1, number 102)
    ∷ (word 2, number 103)
    ∷ (word 3, number 0)
    ∷ (transmitted 100 101 0 14 100, confirmed false)
    ∷ (transmitted 100 101 0 14 100, unknown)
    ∷ (submitted_message 100 101 0, number 1)
    ∷ (transmitted 100 102 1 14 100, confirmed false)
    ∷ (transmitted 100 103 2 15 100, confirmed true)
    ∷ (queue 0, numbers (2 ∷ []))
    ∷ (state, whole ((1 ∷ 0 ∷ 17 ∷ 3 ∷ 100 ∷ 0 ∷ 100 ∷ 4 ∷ 0 ∷ 7 ∷ 2 ∷ 0 ∷ 14 ∷ 14 ∷ 0 ∷ 5000 ∷ []) ∷ []) [] [] (1 ∷ 15 ∷ 100 ∷ 104 ∷ []))
    ∷ (prepare 15 100, frame 100 104 2 0 (0x81 ∷ 0x80 ∷ 0x01 ∷ 0x05 ∷ replicate 10 0))
    ∷ (submitted 100 104 2 15 100, done)
    ∷ (transmitted 100 104 2 16 100, confirmed true)
    ∷ (status 0 2 17 100, answer true)
    ∷ (pop, event 0 1)
    ∷ []

-- 63 blocks since progress: no restart; 64: a restart, under the next token and echo
restarts : List (Call × Line)
restarts =
    (enqueue (Tmsi20 1) Arch (replicate 17 65) 1 5000 10 100, owner 100)
    ∷ (prepare 10 100, frame 100 101 0 0 (0x61 ∷ 0x40 ∷ 0x00 ∷ 0x00 ∷ 0x20 ∷ 0x00 ∷ 0x45 ∷ 0x05 ∷ 0x05 ∷ 0x05 ∷ 0x05 ∷ 0x05 ∷ 0x05 ∷ 0x00 ∷ []))
    ∷ (submitted 100 101 0 10 100, done)
    ∷ (advance 73 100, done)
    ∷ (state, whole ((1 ∷ 0 ∷ 17 ∷ 3 ∷ 100 ∷ 0 ∷ 100 ∷ 6 ∷ 1 ∷ 0 ∷ 0 ∷ 0 ∷ 11 ∷ 11 ∷ 0 ∷ 5000 ∷ []) ∷ []) [] [] (1 ∷ 73 ∷ 100 ∷ 102 ∷ []))
    ∷ (advance 74 100, done)
    ∷ (state, whole ((1 ∷ 0 ∷ 17 ∷ 3 ∷ 100 ∷ 1 ∷ 102 ∷ 7 ∷ 0 ∷ 0 ∷ 0 ∷ 0 ∷ 0 ∷ 0 ∷ 0 ∷ 5000 ∷ []) ∷ []) [] [] (2 ∷ 74 ∷ 100 ∷ 103 ∷ []))
    ∷ (held 0, number 6000)
    ∷ (held 1, number 6000)
    ∷ (transmitted 100 101 0 74 100, unknown)
    ∷ (status 0 0 74 100, answer false)
    ∷ (status 1 0 74 100, answer false)
    ∷ (prepare 74 100, frame 102 103 0 1 (0x61 ∷ 0x40 ∷ 0x00 ∷ 0x00 ∷ 0x20 ∷ 0x40 ∷ 0x45 ∷ 0x05 ∷ 0x05 ∷ 0x05 ∷ 0x05 ∷ 0x05 ∷ 0x05 ∷ 0x00 ∷ []))
    ∷ (cancel_transaction 102, answer false)
    ∷ (cancel_transaction 100, answer true)
    ∷ (pop, event 2 1)
    ∷ []

-- waiting since 20, refreshed and sent again at 40: restart at 84, and not at 104
waits : List (Call × Line)
waits =
    (enqueue (Tmsi20 1) Arch (65 ∷ []) 1 5000 10 100, owner 100)
    ∷ (prepare 10 100, frame 100 101 0 0 (0x61 ∷ 0x40 ∷ 0x00 ∷ 0x00 ∷ 0x20 ∷ 0x08 ∷ 0x05 ∷ 0x04 ∷ replicate 6 0))
    ∷ (submitted 100 101 0 10 100, done)
    ∷ (transmitted 100 101 0 20 100, confirmed true)
    ∷ (refresh 25 100, done)
    ∷ (queue 0, numbers [])
    ∷ (refresh 26 100, done)
    ∷ (queue 0, numbers (0 ∷ []))
    ∷ (prepare 40 100, frame 100 102 0 0 (0x61 ∷ 0x40 ∷ 0x00 ∷ 0x00 ∷ 0x20 ∷ 0x08 ∷ 0x05 ∷ 0x04 ∷ replicate 6 0))
    ∷ (submitted 100 102 0 40 100, done)
    ∷ (transmitted 100 101 0 41 100, unknown)
    ∷ (transmitted 100 102 0 41 100, confirmed true)
    ∷ (state, whole ((1 ∷ 0 ∷ 1 ∷ 1 ∷ 100 ∷ 0 ∷ 100 ∷ 0 ∷ 0 ∷ 1 ∷ 0 ∷ 0 ∷ 41 ∷ 41 ∷ 21 ∷ 5000 ∷ []) ∷ []) [] [] (1 ∷ 41 ∷ 100 ∷ 103 ∷ []))
    ∷ (advance 83 100, done)
    ∷ (state, whole ((1 ∷ 0 ∷ 1 ∷ 1 ∷ 100 ∷ 0 ∷ 100 ∷ 0 ∷ 0 ∷ 1 ∷ 0 ∷ 0 ∷ 41 ∷ 41 ∷ 21 ∷ 5000 ∷ []) ∷ []) [] [] (1 ∷ 83 ∷ 100 ∷ 103 ∷ []))
    ∷ (advance 84 100, done)
    ∷ (state, whole ((1 ∷ 0 ∷ 1 ∷ 1 ∷ 100 ∷ 1 ∷ 103 ∷ 1 ∷ 0 ∷ 0 ∷ 0 ∷ 0 ∷ 0 ∷ 0 ∷ 0 ∷ 5000 ∷ []) ∷ []) [] [] (2 ∷ 84 ∷ 100 ∷ 104 ∷ []))
    ∷ []

-- 16 blocks since the last frame, with equal ages: of 1 2 3 the last comes first
equal_ages : List (Call × Line)
equal_ages =
    (enqueue (Tmsi20 1) Arch (65 ∷ []) 1 5000 10 100, owner 100)
    ∷ (enqueue (Tmsi20 2) Arch (66 ∷ []) 2 5000 10 100, owner 101)
    ∷ (enqueue (Tmsi20 3) Arch (67 ∷ []) 3 5000 10 100, owner 102)
    ∷ (prepare 10 100, frame 100 103 0 0 (0x61 ∷ 0x40 ∷ 0x00 ∷ 0x00 ∷ 0x20 ∷ 0x08 ∷ 0x05 ∷ 0x04 ∷ replicate 6 0))
    ∷ (submitted 100 103 0 10 100, done)
    ∷ (prepare 10 100, frame 101 104 0 1 (0x61 ∷ 0x40 ∷ 0x00 ∷ 0x00 ∷ 0x40 ∷ 0x48 ∷ 0x05 ∷ 0x08 ∷ replicate 6 0))
    ∷ (submitted 101 104 0 10 100, done)
    ∷ (prepare 10 100, frame 102 105 0 2 (0x61 ∷ 0x40 ∷ 0x00 ∷ 0x00 ∷ 0x60 ∷ 0x88 ∷ 0x05 ∷ 0x0c ∷ replicate 6 0))
    ∷ (submitted 102 105 0 10 100, done)
    ∷ (word 27, number 104)
    ∷ (word 54, number 105)
    ∷ (transmitted 100 103 0 11 100, confirmed true)
    ∷ (transmitted 101 104 0 11 100, confirmed true)
    ∷ (transmitted 102 105 0 11 100, confirmed true)
    ∷ (order, numbers (1 ∷ 2 ∷ 3 ∷ []))
    ∷ (refresh 25 100, done)
    ∷ (order, numbers (1 ∷ 2 ∷ 3 ∷ []))
    ∷ (ready, answer false)
    ∷ (refresh 26 100, done)
    ∷ (order, numbers (3 ∷ 1 ∷ 2 ∷ []))
    ∷ (ready, answer true)
    ∷ (state, whole ((3 ∷ 2 ∷ 1 ∷ 1 ∷ 102 ∷ 2 ∷ 102 ∷ 1 ∷ 0 ∷ 1 ∷ 0 ∷ 0 ∷ 11 ∷ 11 ∷ 12 ∷ 5000 ∷ []) ∷ (1 ∷ 0 ∷ 1 ∷ 1 ∷ 100 ∷ 0 ∷ 100 ∷ 1 ∷ 0 ∷ 1 ∷ 0 ∷ 0 ∷ 11 ∷ 11 ∷ 12 ∷ 5000 ∷ []) ∷ (2 ∷ 1 ∷ 1 ∷ 1 ∷ 101 ∷ 1 ∷ 101 ∷ 1 ∷ 0 ∷ 1 ∷ 0 ∷ 0 ∷ 11 ∷ 11 ∷ 12 ∷ 5000 ∷ []) ∷ []) [] [] (3 ∷ 26 ∷ 100 ∷ 106 ∷ []))
    ∷ (prepare 26 100, frame 102 106 0 2 (0x61 ∷ 0x40 ∷ 0x00 ∷ 0x00 ∷ 0x60 ∷ 0x88 ∷ 0x05 ∷ 0x0c ∷ replicate 6 0))
    ∷ (refresh 27 100, done)
    ∷ (order, numbers (3 ∷ 1 ∷ 2 ∷ []))
    ∷ []

-- in 2 3 4 1 the transfer to identity 3 is replaced: 2 4 1 3, and its event is Cancelled
replacement : List (Call × Line)
replacement =
    (enqueue (Tmsi20 2) Arch (66 ∷ []) 2 5000 10 100, owner 100)
    ∷ (enqueue (Tmsi20 3) Arch (replicate 4 67) 3 5000 10 100, owner 101)
    ∷ (enqueue (Tmsi20 4) Arch (68 ∷ []) 4 5000 10 100, owner 102)
    ∷ (enqueue (Tmsi20 1) Arch (65 ∷ []) 1 5000 10 100, owner 103)
    ∷ (order, numbers (2 ∷ 3 ∷ 4 ∷ 1 ∷ []))
    ∷ (can_enqueue 10 100, answer false)
    ∷ (enqueue (Tmsi20 3) Smsch (replicate 3 69) 33 6000 10 100, owner 104)
    ∷ (order, numbers (2 ∷ 4 ∷ 1 ∷ 33 ∷ []))
    ∷ (held 1, number 6000)
    ∷ (held 4, number 7000)
    ∷ (stored 255 4, numbers (69 ∷ 69 ∷ 69 ∷ 67 ∷ []))
    ∷ (state, whole ((2 ∷ 0 ∷ 1 ∷ 1 ∷ 100 ∷ 0 ∷ 100 ∷ 1 ∷ 0 ∷ 0 ∷ 0 ∷ 0 ∷ 0 ∷ 0 ∷ 0 ∷ 5000 ∷ []) ∷ (4 ∷ 2 ∷ 1 ∷ 1 ∷ 102 ∷ 2 ∷ 102 ∷ 1 ∷ 0 ∷ 0 ∷ 0 ∷ 0 ∷ 0 ∷ 0 ∷ 0 ∷ 5000 ∷ []) ∷ (1 ∷ 3 ∷ 1 ∷ 1 ∷ 103 ∷ 3 ∷ 103 ∷ 1 ∷ 0 ∷ 0 ∷ 0 ∷ 0 ∷ 0 ∷ 0 ∷ 0 ∷ 5000 ∷ []) ∷ (33 ∷ 1 ∷ 3 ∷ 1 ∷ 104 ∷ 4 ∷ 104 ∷ 1 ∷ 0 ∷ 0 ∷ 0 ∷ 0 ∷ 0 ∷ 0 ∷ 0 ∷ 6000 ∷ []) ∷ []) (2 ∷ 3 ∷ []) [] (5 ∷ 10 ∷ 100 ∷ 105 ∷ []))
    ∷ (pop, event 2 3)
    ∷ (pop, nothing)
    ∷ (cancel_transaction 101, answer false)
    ∷ (cancel_transaction 104, answer true)
    ∷ (cancel (Tmsi20 3), answer false)
    ∷ (cancel (Tmsi20 4), answer true)
    ∷ (contains (Tmsi20 4), answer false)
    ∷ (contains (Tmsi20 1), answer true)
    ∷ (cancel_all, done)
    ∷ (order, numbers [])
    ∷ (pop, event 2 33)
    ∷ (pop, event 2 4)
    ∷ (pop, event 2 2)
    ∷ (pop, event 2 1)
    ∷ (pop, nothing)
    ∷ (pending, number 0)
    ∷ []

-- two transfers share the only free echo until `advance`; `interrupt` takes the first in the list
shared_echo : List (Call × Line)
shared_echo =
    (enqueue (Tmsi20 1) Arch (65 ∷ []) 1 10 10 5, owner 227)
    ∷ (enqueue (Tmsi20 2) Arch (66 ∷ []) 2 500 10 10, owner 228)
    ∷ (has_echo 127, answer true)
    ∷ (identity_for_echo 127, to (Tmsi20 1))
    ∷ (state, whole ((1 ∷ 0 ∷ 1 ∷ 1 ∷ 227 ∷ 127 ∷ 227 ∷ 1 ∷ 0 ∷ 0 ∷ 0 ∷ 0 ∷ 0 ∷ 0 ∷ 0 ∷ 10 ∷ []) ∷ (2 ∷ 1 ∷ 1 ∷ 1 ∷ 228 ∷ 127 ∷ 228 ∷ 1 ∷ 0 ∷ 0 ∷ 0 ∷ 0 ∷ 0 ∷ 0 ∷ 0 ∷ 500 ∷ []) ∷ []) [] [] (0 ∷ 10 ∷ 10 ∷ 229 ∷ []))
    ∷ (interrupt 127 11 10, answer true)
    ∷ (state, whole ((2 ∷ 1 ∷ 1 ∷ 1 ∷ 228 ∷ 127 ∷ 228 ∷ 1 ∷ 0 ∷ 0 ∷ 0 ∷ 0 ∷ 0 ∷ 0 ∷ 0 ∷ 500 ∷ []) ∷ []) (1 ∷ 1 ∷ []) [] (0 ∷ 11 ∷ 10 ∷ 229 ∷ []))
    ∷ (identity_for_echo 127, to (Tmsi20 2))
    ∷ (interrupt 127 11 10, answer true)
    ∷ (pop, event 1 1)
    ∷ (pop, event 21 2)
    ∷ (pop, nothing)
    ∷ (state, whole [] [] [] (0 ∷ 11 ∷ 10 ∷ 229 ∷ []))
    ∷ []

-- an unknown echo or frame moves the clock alone, at the deadline too; a late frame may be submitted; at the deadline a transfer expires, even if done
expires : List (Call × Line)
expires =
    (enqueue (Tmsi20 1) Arch (65 ∷ []) 1 50 10 10, owner 100)
    ∷ (prepare 10 10, frame 100 101 0 0 (0x61 ∷ 0x40 ∷ 0x00 ∷ 0x00 ∷ 0x20 ∷ 0x08 ∷ 0x05 ∷ 0x04 ∷ replicate 6 0))
    ∷ (interrupt 9 11 50, answer false)
    ∷ (transmitted 99 101 0 11 50, unknown)
    ∷ (transmitted 100 101 0 12 60, unknown)
    ∷ (state, whole ((1 ∷ 0 ∷ 1 ∷ 1 ∷ 100 ∷ 0 ∷ 100 ∷ 1 ∷ 0 ∷ 0 ∷ 0 ∷ 0 ∷ 0 ∷ 0 ∷ 0 ∷ 50 ∷ []) ∷ []) [] (100 ∷ 101 ∷ 0 ∷ 0 ∷ []) (1 ∷ 12 ∷ 60 ∷ 102 ∷ []))
    ∷ (submitted 100 101 0 12 70, done)
    ∷ (radio_active, answer true)
    ∷ (state, whole ((1 ∷ 0 ∷ 1 ∷ 1 ∷ 100 ∷ 0 ∷ 100 ∷ 0 ∷ 1 ∷ 0 ∷ 0 ∷ 0 ∷ 13 ∷ 13 ∷ 0 ∷ 50 ∷ []) ∷ []) [] [] (1 ∷ 12 ∷ 70 ∷ 102 ∷ []))
    ∷ (transmitted 100 101 0 12 70, confirmed true)
    ∷ (pop, event 1 1)
    ∷ (enqueue (Tmsi20 1) Arch (65 ∷ []) 2 100 12 70, owner 102)
    ∷ (word 0, number 101)
    ∷ (prepare 12 70, frame 102 103 0 1 (0x61 ∷ 0x40 ∷ 0x00 ∷ 0x00 ∷ 0x20 ∷ 0x48 ∷ 0x05 ∷ 0x04 ∷ replicate 6 0))
    ∷ (submitted 102 103 0 12 70, done)
    ∷ (transmitted 102 103 0 12 70, confirmed true)
    ∷ (status 1 0 12 100, answer false)
    ∷ (state, whole [] (1 ∷ 2 ∷ []) [] (2 ∷ 12 ∷ 100 ∷ 104 ∷ []))
    ∷ (pop, event 1 2)
    ∷ (enqueue (Tmsi20 1) Arch (65 ∷ []) 3 200 13 110, owner 104)
    ∷ (prepare 13 110, frame 104 105 0 2 (0x61 ∷ 0x40 ∷ 0x00 ∷ 0x00 ∷ 0x20 ∷ 0x88 ∷ 0x05 ∷ 0x04 ∷ replicate 6 0))
    ∷ (submitted 104 105 0 13 110, done)
    ∷ (status 2 0 14 120, answer true)
    ∷ (transmitted 104 105 0 15 200, confirmed true)
    ∷ (pop, event 1 3)
    ∷ []

-- in 2 3 1 with 2 selected and 1 in flight, 1 comes first, without a frame, and the selection is dropped
prioritized : List (Call × Line)
prioritized =
    (enqueue (Tmsi20 1) Arch (65 ∷ []) 1 5000 10 100, owner 100)
    ∷ (enqueue (Tmsi20 2) Arch (66 ∷ []) 2 5000 10 100, owner 101)
    ∷ (enqueue (Tmsi20 3) Arch (67 ∷ []) 3 5000 10 100, owner 102)
    ∷ (prepare 10 100, frame 100 103 0 0 (0x61 ∷ 0x40 ∷ 0x00 ∷ 0x00 ∷ 0x20 ∷ 0x08 ∷ 0x05 ∷ 0x04 ∷ replicate 6 0))
    ∷ (submitted 100 103 0 10 100, done)
    ∷ (order, numbers (2 ∷ 3 ∷ 1 ∷ []))
    ∷ (prepare 10 100, frame 101 104 0 1 (0x61 ∷ 0x40 ∷ 0x00 ∷ 0x00 ∷ 0x40 ∷ 0x48 ∷ 0x05 ∷ 0x08 ∷ replicate 6 0))
    ∷ (prioritize 99 10 100, nothing)
    ∷ (prioritize 1 10 100, frame 101 104 0 1 (0x61 ∷ 0x40 ∷ 0x00 ∷ 0x00 ∷ 0x40 ∷ 0x48 ∷ 0x05 ∷ 0x08 ∷ replicate 6 0))
    ∷ (order, numbers (2 ∷ 3 ∷ 1 ∷ []))
    ∷ (prioritize 0 10 100, nothing)
    ∷ (order, numbers (1 ∷ 2 ∷ 3 ∷ []))
    ∷ (state, whole ((1 ∷ 0 ∷ 1 ∷ 1 ∷ 100 ∷ 0 ∷ 100 ∷ 0 ∷ 1 ∷ 0 ∷ 0 ∷ 0 ∷ 11 ∷ 11 ∷ 0 ∷ 5000 ∷ []) ∷ (2 ∷ 1 ∷ 1 ∷ 1 ∷ 101 ∷ 1 ∷ 101 ∷ 1 ∷ 0 ∷ 0 ∷ 0 ∷ 0 ∷ 0 ∷ 0 ∷ 0 ∷ 5000 ∷ []) ∷ (3 ∷ 2 ∷ 1 ∷ 1 ∷ 102 ∷ 2 ∷ 102 ∷ 1 ∷ 0 ∷ 0 ∷ 0 ∷ 0 ∷ 0 ∷ 0 ∷ 0 ∷ 5000 ∷ []) ∷ []) [] [] (3 ∷ 10 ∷ 100 ∷ 105 ∷ []))
    ∷ (submitted 101 104 0 10 100, refused 24)
    ∷ (prepare 10 100, frame 101 105 0 1 (0x61 ∷ 0x40 ∷ 0x00 ∷ 0x00 ∷ 0x40 ∷ 0x48 ∷ 0x05 ∷ 0x08 ∷ replicate 6 0))
    ∷ (submitted 101 104 0 10 100, refused 24)
    ∷ (submitted 102 105 0 10 100, refused 24)
    ∷ (submitted 101 105 1 10 100, refused 24)
    ∷ (transmitted 100 103 0 11 100, confirmed true)
    ∷ (prioritize 0 11 100, frame 100 106 0 0 (0x61 ∷ 0x40 ∷ 0x00 ∷ 0x00 ∷ 0x20 ∷ 0x08 ∷ 0x05 ∷ 0x04 ∷ replicate 6 0))
    ∷ (order, numbers (1 ∷ 2 ∷ 3 ∷ []))
    ∷ (state, whole ((1 ∷ 0 ∷ 1 ∷ 1 ∷ 100 ∷ 0 ∷ 100 ∷ 1 ∷ 0 ∷ 1 ∷ 0 ∷ 0 ∷ 11 ∷ 11 ∷ 12 ∷ 5000 ∷ []) ∷ (2 ∷ 1 ∷ 1 ∷ 1 ∷ 101 ∷ 1 ∷ 101 ∷ 1 ∷ 0 ∷ 0 ∷ 0 ∷ 0 ∷ 0 ∷ 0 ∷ 0 ∷ 5000 ∷ []) ∷ (3 ∷ 2 ∷ 1 ∷ 1 ∷ 102 ∷ 2 ∷ 102 ∷ 1 ∷ 0 ∷ 0 ∷ 0 ∷ 0 ∷ 0 ∷ 0 ∷ 0 ∷ 5000 ∷ []) ∷ []) [] (100 ∷ 106 ∷ 0 ∷ 0 ∷ []) (3 ∷ 11 ∷ 100 ∷ 107 ∷ []))
    ∷ []

-- an interrupted transfer restarts; the frame that was selected is dropped, and again where all are cancelled
interrupted : List (Call × Line)
interrupted =
    (enqueue (Tmsi20 1) Arch (65 ∷ []) 1 5000 10 100, owner 100)
    ∷ (enqueue (Tmsi20 2) Arch (66 ∷ []) 2 5000 10 100, owner 101)
    ∷ (prepare 10 100, frame 100 102 0 0 (0x61 ∷ 0x40 ∷ 0x00 ∷ 0x00 ∷ 0x20 ∷ 0x08 ∷ 0x05 ∷ 0x04 ∷ replicate 6 0))
    ∷ (interrupt 0 10 100, answer true)
    ∷ (order, numbers (1 ∷ 2 ∷ []))
    ∷ (state, whole ((1 ∷ 0 ∷ 1 ∷ 1 ∷ 100 ∷ 2 ∷ 103 ∷ 1 ∷ 0 ∷ 0 ∷ 0 ∷ 0 ∷ 0 ∷ 0 ∷ 0 ∷ 5000 ∷ []) ∷ (2 ∷ 1 ∷ 1 ∷ 1 ∷ 101 ∷ 1 ∷ 101 ∷ 1 ∷ 0 ∷ 0 ∷ 0 ∷ 0 ∷ 0 ∷ 0 ∷ 0 ∷ 5000 ∷ []) ∷ []) [] [] (3 ∷ 10 ∷ 100 ∷ 104 ∷ []))
    ∷ (submitted 100 102 0 10 100, refused 24)
    ∷ (prepare 10 100, frame 103 104 0 2 (0x61 ∷ 0x40 ∷ 0x00 ∷ 0x00 ∷ 0x20 ∷ 0x88 ∷ 0x05 ∷ 0x04 ∷ replicate 6 0))
    ∷ (cancel (Tmsi20 2), answer true)
    ∷ (enqueue (Tmsi20 3) Arch (67 ∷ []) 3 5000 10 100, owner 105)
    ∷ (prepare 10 100, frame 103 104 0 2 (0x61 ∷ 0x40 ∷ 0x00 ∷ 0x00 ∷ 0x20 ∷ 0x88 ∷ 0x05 ∷ 0x04 ∷ replicate 6 0))
    ∷ (cancel_all, done)
    ∷ (prepare 10 100, nothing)
    ∷ (state, whole [] (2 ∷ 2 ∷ 2 ∷ 1 ∷ 2 ∷ 3 ∷ []) [] (4 ∷ 10 ∷ 100 ∷ 106 ∷ []))
    ∷ []

-- with no echo free a restart is a Failed event, and takes no token
shortage : List (Call × Line)
shortage =
    (enqueue (Tmsi20 1) Arch (65 ∷ []) 1 1000 10 5, owner 227)
    ∷ (prepare 10 5, frame 227 228 0 127 (0x61 ∷ 0x40 ∷ 0x00 ∷ 0x00 ∷ 0x3f ∷ 0xc8 ∷ 0x05 ∷ 0x04 ∷ replicate 6 0))
    ∷ (can_enqueue 10 5, answer false)
    ∷ (can_enqueue 10 1000000, answer true)
    ∷ (enqueue (Tmsi20 2) Arch (66 ∷ []) 2 1000 10 5, refused 21)
    ∷ (interrupt 127 10 6, answer true)
    ∷ (state, whole [] (21 ∷ 1 ∷ []) [] (0 ∷ 10 ∷ 6 ∷ 229 ∷ []))
    ∷ (pop, event 21 1)
    ∷ []

-- a one-frame order that was refreshed and selected is Complete by its status; the selected frame is stale
answered_again : List (Call × Line)
answered_again =
    (enqueue (Tmsi20 1) Arch (65 ∷ []) 1 5000 10 100, owner 100)
    ∷ (prepare 10 100, frame 100 101 0 0 (0x61 ∷ 0x40 ∷ 0x00 ∷ 0x00 ∷ 0x20 ∷ 0x08 ∷ 0x05 ∷ 0x04 ∷ replicate 6 0))
    ∷ (submitted 100 101 0 10 100, done)
    ∷ (transmitted 100 101 0 11 100, confirmed true)
    ∷ (refresh 26 100, done)
    ∷ (prepare 26 100, frame 100 102 0 0 (0x61 ∷ 0x40 ∷ 0x00 ∷ 0x00 ∷ 0x20 ∷ 0x08 ∷ 0x05 ∷ 0x04 ∷ replicate 6 0))
    ∷ (status 0 0 27 100, answer true)
    ∷ (submitted 100 102 0 27 100, refused 24)
    ∷ (state, whole [] (0 ∷ 1 ∷ []) [] (1 ∷ 27 ∷ 100 ∷ 103 ∷ []))
    ∷ (pop, event 0 1)
    ∷ []

-- where two faults meet: store short 16, before fewer than 512 tokens left 18; `submitted` does not give 18, and 24 leaves the clock moved
store_short : List (Call × Line)
store_short =
    (lend 32639 3456, done)
    ∷ (enqueue (Tmsi20 1) Arch (65 ∷ []) 1 5000 10 100, refused 16)
    ∷ (advance 10 100, refused 16)
    ∷ (prepare 10 100, refused 16)
    ∷ (prioritize 0 10 100, refused 16)
    ∷ (interrupt 0 10 100, refused 16)
    ∷ (submitted 1 2 0 10 100, refused 16)
    ∷ (transmitted 1 2 0 10 100, refused 16)
    ∷ (status 0 0 10 100, refused 16)
    ∷ (refresh 10 100, refused 16)
    ∷ (state, whole [] [] [] (0 ∷ 0 ∷ 0 ∷ 18446744073709551104 ∷ []))
    ∷ (lend 32640 3455, done)
    ∷ (enqueue (Tmsi20 1) Arch (65 ∷ []) 1 5000 10 100, refused 16)
    ∷ (submitted 1 2 0 10 100, refused 16)
    ∷ (lend 32640 3456, done)
    ∷ (enqueue (Tmsi20 1) Arch (65 ∷ []) 1 5000 10 100, refused 18)
    ∷ (advance 10 100, refused 18)
    ∷ (prepare 10 100, refused 18)
    ∷ (prioritize 0 10 100, refused 18)
    ∷ (interrupt 0 10 100, refused 18)
    ∷ (transmitted 1 2 0 10 100, refused 18)
    ∷ (status 0 0 10 100, refused 18)
    ∷ (refresh 10 100, refused 18)
    ∷ (state, whole [] [] [] (0 ∷ 0 ∷ 0 ∷ 18446744073709551104 ∷ []))
    ∷ (submitted 1 2 0 10 100, refused 24)
    ∷ (state, whole [] [] [] (0 ∷ 10 ∷ 100 ∷ 18446744073709551104 ∷ []))
    ∷ (submitted 1 2 0 9 100, refused 22)
    ∷ []

-- `enqueue`: 18, before the clock gone back 22
tokens_short : List (Call × Line)
tokens_short =
    (enqueue (Tmsi20 1) Arch (65 ∷ []) 1 5000 10 100, owner 18446744073709551102)
    ∷ (enqueue (Tmsi20 2) Arch (65 ∷ []) 2 5000 10 100, owner 18446744073709551103)
    ∷ (enqueue (Tmsi20 3) Arch (65 ∷ []) 3 5000 9 100, refused 18)
    ∷ []

-- `enqueue`: 22, either clock; then, at a clock that stays moved, 23, 1, 1, 3, 2, 21, 23, each before the next; then 20, 1, 22, 20
in_order : List (Call × Line)
in_order =
    (can_enqueue 19 0, answer false)
    ∷ (can_enqueue 20 0, answer true)
    ∷ (advance 10 100, done)
    ∷ (enqueue (Tmsi20 1) Arch (65 ∷ []) 1 50 9 100, refused 22)
    ∷ (enqueue (Tmsi20 1) Arch (65 ∷ []) 1 50 10 99, refused 22)
    ∷ (enqueue (Tmsi20 1) Arch [] 1 100 11 100, refused 23)
    ∷ (enqueue (Tmsi20 0) Pch [] 1 101 12 100, refused 1)
    ∷ (enqueue (Tmsi20 0) Pch (replicate 256 65) 1 101 12 100, refused 1)
    ∷ (enqueue (Tmsi20 0) Pch (replicate 255 65) 1 101 12 100, refused 3)
    ∷ (enqueue (Tmsi20 0) Arch (replicate 255 65) 1 101 12 100, refused 2)
    ∷ (enqueue (Tmsi20 1048576) Arch (replicate 255 65) 1 101 12 100, refused 2)
    ∷ (enqueue (Tmsi20 1) Arch (replicate 255 65) 1 18446744073709551615 19 100, refused 21)
    ∷ (enqueue (Tmsi20 1) Arch (replicate 255 65) 1 18446744073709550616 20 100, refused 23)
    ∷ (state, whole [] [] [] (0 ∷ 20 ∷ 100 ∷ 18446744073709550000 ∷ []))
    ∷ (enqueue (Tmsi20 1) Arch (replicate 255 65) 1 18446744073709550615 20 100, owner 18446744073709550000)
    ∷ (enqueue (Tmsi20 2) Arch (replicate 256 65) 1 18446744073709550615 20 100, refused 20)
    ∷ (enqueue (Tmsi20 2) Arch [] 1 18446744073709550615 20 100, refused 1)
    ∷ (cancel_all, done)
    ∷ (can_enqueue 21 100, answer false)
    ∷ (enqueue (Tmsi20 1) Arch [] 1 100 19 100, refused 22)
    ∷ (enqueue (Tmsi20 1) Arch [] 1 100 21 100, refused 20)
    ∷ (state, whole [] (2 ∷ 1 ∷ []) [] (1 ∷ 21 ∷ 100 ∷ 18446744073709550001 ∷ []))
    ∷ (pop, event 2 1)
    ∷ (enqueue (Tmsi20 1) Arch (65 ∷ []) 2 5000 21 100, owner 18446744073709550001)
    ∷ (enqueue (Tmsi20 1) Arch (65 ∷ []) 3 5000 21 100, owner 18446744073709550002)
    ∷ (cancel (Tmsi20 1), answer true)
    ∷ (pop, event 2 2)
    ∷ (pop, event 2 3)
    ∷ (pop, nothing)
    ∷ []

-- `enqueue`: deadline plus guard over 64 bits 23, before no echo free 21; the transfer that would be replaced stays
no_echo : List (Call × Line)
no_echo =
    (enqueue (Tmsi20 1) Arch (65 ∷ []) 1 5000 10 100, owner 227)
    ∷ (enqueue (Tmsi20 2) Arch (65 ∷ []) 1 18446744073709550616 10 100, refused 23)
    ∷ (enqueue (Tmsi20 1) Arch (65 ∷ []) 1 5000 10 100, refused 21)
    ∷ (state, whole ((1 ∷ 0 ∷ 1 ∷ 1 ∷ 227 ∷ 127 ∷ 227 ∷ 1 ∷ 0 ∷ 0 ∷ 0 ∷ 0 ∷ 0 ∷ 0 ∷ 0 ∷ 5000 ∷ []) ∷ []) [] [] (0 ∷ 10 ∷ 100 ∷ 228 ∷ []))
    ∷ []

-- refresh: the greatest age comes first, only of those that are ready; a waiting transfer is queued also while another's frame is selected
refreshes : List (Call × Line)
refreshes =
    (enqueue (Tmsi20 1) Arch (65 ∷ []) 1 5000 10 100, owner 100)
    ∷ (enqueue (Tmsi20 2) Arch (66 ∷ []) 2 5000 10 100, owner 101)
    ∷ (prepare 10 100, frame 100 102 0 0 (0x61 ∷ 0x40 ∷ 0x00 ∷ 0x00 ∷ 0x20 ∷ 0x08 ∷ 0x05 ∷ 0x04 ∷ replicate 6 0))
    ∷ (submitted 100 102 0 10 100, done)
    ∷ (prepare 12 100, frame 101 103 0 1 (0x61 ∷ 0x40 ∷ 0x00 ∷ 0x00 ∷ 0x40 ∷ 0x48 ∷ 0x05 ∷ 0x08 ∷ replicate 6 0))
    ∷ (submitted 101 103 0 12 100, done)
    ∷ (transmitted 100 102 0 13 100, confirmed true)
    ∷ (transmitted 101 103 0 13 100, confirmed true)
    ∷ (refresh 30 100, done)
    ∷ (order, numbers (1 ∷ 2 ∷ []))
    ∷ (queue 1, numbers (0 ∷ []))
    ∷ (prepare 30 100, frame 100 104 0 0 (0x61 ∷ 0x40 ∷ 0x00 ∷ 0x00 ∷ 0x20 ∷ 0x08 ∷ 0x05 ∷ 0x04 ∷ replicate 6 0))
    ∷ (submitted 100 104 0 30 100, done)
    ∷ (prepare 31 100, frame 101 105 0 1 (0x61 ∷ 0x40 ∷ 0x00 ∷ 0x00 ∷ 0x40 ∷ 0x48 ∷ 0x05 ∷ 0x08 ∷ replicate 6 0))
    ∷ (submitted 101 105 0 31 100, done)
    ∷ (transmitted 101 105 0 32 100, confirmed true)
    ∷ (refresh 47 100, done)
    ∷ (order, numbers (2 ∷ 1 ∷ []))
    ∷ (prepare 47 100, frame 101 106 0 1 (0x61 ∷ 0x40 ∷ 0x00 ∷ 0x00 ∷ 0x40 ∷ 0x48 ∷ 0x05 ∷ 0x08 ∷ replicate 6 0))
    ∷ (transmitted 100 104 0 48 100, confirmed true)
    ∷ (refresh 48 100, done)
    ∷ (order, numbers (2 ∷ 1 ∷ []))
    ∷ (queue 1, numbers (0 ∷ []))
    ∷ (prepare 48 100, frame 101 106 0 1 (0x61 ∷ 0x40 ∷ 0x00 ∷ 0x00 ∷ 0x40 ∷ 0x48 ∷ 0x05 ∷ 0x08 ∷ replicate 6 0))
    ∷ []

-- a transfer with frames queued is served first from 16 blocks on; asked for by its echo it goes on with its queue; later its last frame is refreshed
later_frames : List (Call × Line)
later_frames =
    (enqueue (Tmsi20 1) Arch (replicate 17 65) 1 5000 10 100, owner 100)
    ∷ (enqueue (Tmsi20 2) Arch (66 ∷ []) 2 5000 10 100, owner 101)
    ∷ (prepare 10 100, frame 100 102 0 0 (0x61 ∷ 0x40 ∷ 0x00 ∷ 0x00 ∷ 0x20 ∷ 0x00 ∷ 0x45 ∷ 0x05 ∷ 0x05 ∷ 0x05 ∷ 0x05 ∷ 0x05 ∷ 0x05 ∷ 0x00 ∷ []))
    ∷ (submitted 100 102 0 10 100, done)
    ∷ (refresh 25 100, done)
    ∷ (order, numbers (2 ∷ 1 ∷ []))
    ∷ (refresh 26 100, done)
    ∷ (order, numbers (1 ∷ 2 ∷ []))
    ∷ (transmitted 100 102 0 26 100, confirmed false)
    ∷ (prioritize 0 26 100, frame 100 103 1 0 (0x61 ∷ 0x80 ∷ 0x00 ∷ 0x02 ∷ 0x82 ∷ 0x82 ∷ 0x82 ∷ 0x82 ∷ 0x82 ∷ 0x82 ∷ 0x82 ∷ 0x82 ∷ 0x82 ∷ 0x80 ∷ []))
    ∷ (submitted 100 103 1 26 100, done)
    ∷ (prioritize 0 27 100, frame 100 104 2 0 (0x61 ∷ 0x80 ∷ 0x01 ∷ 0x05 ∷ replicate 10 0))
    ∷ (submitted 100 104 2 27 100, done)
    ∷ (transmitted 100 103 1 28 100, confirmed false)
    ∷ (transmitted 100 104 2 28 100, confirmed true)
    ∷ (refresh 43 100, done)
    ∷ (queue 0, numbers (2 ∷ []))
    ∷ []

-- a status while the last frame is in flight again: it waits no more, 64 blocks count from the status, and it is Complete once that frame is transmitted
in_flight_again : List (Call × Line)
in_flight_again =
    (enqueue (Tmsi20 1) Arch (65 ∷ []) 1 5000 10 100, owner 100)
    ∷ (prepare 10 100, frame 100 101 0 0 (0x61 ∷ 0x40 ∷ 0x00 ∷ 0x00 ∷ 0x20 ∷ 0x08 ∷ 0x05 ∷ 0x04 ∷ replicate 6 0))
    ∷ (submitted 100 101 0 10 100, done)
    ∷ (transmitted 100 101 0 11 100, confirmed true)
    ∷ (refresh 26 100, done)
    ∷ (prepare 26 100, frame 100 102 0 0 (0x61 ∷ 0x40 ∷ 0x00 ∷ 0x00 ∷ 0x20 ∷ 0x08 ∷ 0x05 ∷ 0x04 ∷ replicate 6 0))
    ∷ (submitted 100 102 0 26 100, done)
    ∷ (status 0 0 27 100, answer true)
    ∷ (advance 75 100, done)
    ∷ (has_echo 0, answer true)
    ∷ (advance 90 100, done)
    ∷ (has_echo 0, answer true)
    ∷ (transmitted 100 102 0 90 100, confirmed true)
    ∷ (pop, event 0 1)
    ∷ []

-- each of these calls advances first; an overdue transfer that is replaced is Cancelled
at_the_deadline : List (Call × Line)
at_the_deadline =
    (enqueue (Tmsi20 1) Arch (65 ∷ []) 1 200 10 100, owner 100)
    ∷ (prepare 11 200, nothing)
    ∷ (pop, event 1 1)
    ∷ (enqueue (Tmsi20 1) Arch (65 ∷ []) 2 300 11 200, owner 101)
    ∷ (prioritize 1 11 300, nothing)
    ∷ (pop, event 1 2)
    ∷ (enqueue (Tmsi20 1) Arch (65 ∷ []) 3 400 11 300, owner 102)
    ∷ (refresh 12 400, done)
    ∷ (pop, event 1 3)
    ∷ (enqueue (Tmsi20 1) Arch (65 ∷ []) 4 500 12 400, owner 103)
    ∷ (enqueue (Tmsi20 1) Arch (65 ∷ []) 5 600 12 550, owner 104)
    ∷ (pop, event 2 4)
    ∷ (prioritize 9 13 560, nothing)
    ∷ (advance 12 560, refused 22)
    ∷ []

-- two restart in one walk, and two expire: echoes, tokens and events in the order of the list
two_at_once : List (Call × Line)
two_at_once =
    (enqueue (Tmsi20 1) Arch (65 ∷ []) 1 500 10 100, owner 100)
    ∷ (enqueue (Tmsi20 2) Arch (66 ∷ []) 2 500 10 100, owner 101)
    ∷ (prepare 10 100, frame 100 102 0 0 (0x61 ∷ 0x40 ∷ 0x00 ∷ 0x00 ∷ 0x20 ∷ 0x08 ∷ 0x05 ∷ 0x04 ∷ replicate 6 0))
    ∷ (submitted 100 102 0 10 100, done)
    ∷ (prepare 10 100, frame 101 103 0 1 (0x61 ∷ 0x40 ∷ 0x00 ∷ 0x00 ∷ 0x40 ∷ 0x48 ∷ 0x05 ∷ 0x08 ∷ replicate 6 0))
    ∷ (submitted 101 103 0 10 100, done)
    ∷ (advance 74 100, done)
    ∷ (state, whole ((1 ∷ 0 ∷ 1 ∷ 1 ∷ 100 ∷ 2 ∷ 104 ∷ 1 ∷ 0 ∷ 0 ∷ 0 ∷ 0 ∷ 0 ∷ 0 ∷ 0 ∷ 500 ∷ []) ∷ (2 ∷ 1 ∷ 1 ∷ 1 ∷ 101 ∷ 3 ∷ 105 ∷ 1 ∷ 0 ∷ 0 ∷ 0 ∷ 0 ∷ 0 ∷ 0 ∷ 0 ∷ 500 ∷ []) ∷ []) [] [] (4 ∷ 74 ∷ 100 ∷ 106 ∷ []))
    ∷ (advance 74 500, done)
    ∷ (pop, event 1 1)
    ∷ (pop, event 1 2)
    ∷ (pop, nothing)
    ∷ []

-- the age of a ready transfer counts from its last frame: a status at 20 leaves it. Of 1 2 3 the second is the oldest; a frame stays selected whose transfer is not the first
served_by_age : List (Call × Line)
served_by_age =
    (enqueue (Tmsi20 1) Arch (65 ∷ []) 1 5000 10 100, owner 100)
    ∷ (enqueue (Tmsi20 2) Arch (1 ∷ 2 ∷ 3 ∷ 4 ∷ 5 ∷ 6 ∷ 7 ∷ []) 2 5000 10 100, owner 101)
    ∷ (enqueue (Tmsi20 3) Arch (0x81 ∷ 0x82 ∷ 0x83 ∷ 0x84 ∷ 0x85 ∷ 0x86 ∷ 0x87 ∷ []) 3 5000 10 100, owner 102)
    ∷ (prioritize 1 10 100, frame 101 103 0 1 (0x61 ∷ 0x40 ∷ 0x00 ∷ 0x00 ∷ 0x40 ∷ 0x40 ∷ 0x1c ∷ 0x04 ∷ 0x08 ∷ 0x0c ∷ 0x10 ∷ 0x14 ∷ 0x18 ∷ 0x18 ∷ []))
    ∷ (submitted 101 103 0 10 100, done)
    ∷ (radio_active, answer true)
    ∷ (prepare 12 100, frame 100 104 0 0 (0x61 ∷ 0x40 ∷ 0x00 ∷ 0x00 ∷ 0x20 ∷ 0x08 ∷ 0x05 ∷ 0x04 ∷ replicate 6 0))
    ∷ (submitted 100 104 0 12 100, done)
    ∷ (prepare 13 100, frame 102 105 0 2 (0x61 ∷ 0x40 ∷ 0x00 ∷ 0x00 ∷ 0x60 ∷ 0x80 ∷ 0x1e ∷ 0x06 ∷ 0x0a ∷ 0x0e ∷ 0x12 ∷ 0x16 ∷ 0x1a ∷ 0x18 ∷ []))
    ∷ (submitted 102 105 0 13 100, done)
    ∷ (prioritize 0 13 100, nothing)
    ∷ (order, numbers (1 ∷ 2 ∷ 3 ∷ []))
    ∷ (ready, answer true)
    ∷ (prepare 13 100, frame 101 106 1 1 (0x61 ∷ 0x80 ∷ 0x09 ∷ 0x02 ∷ replicate 10 0))
    ∷ (prepare 13 100, frame 101 106 1 1 (0x61 ∷ 0x80 ∷ 0x09 ∷ 0x02 ∷ replicate 10 0))
    ∷ (prioritize 0 13 100, nothing)
    ∷ (transmitted 100 104 0 14 100, confirmed true)
    ∷ (status 1 0 20 100, answer true)
    ∷ (order, numbers (1 ∷ 2 ∷ 3 ∷ []))
    ∷ (refresh 29 100, done)
    ∷ (order, numbers (2 ∷ 1 ∷ 3 ∷ []))
    ∷ (queue 1, numbers (0 ∷ []))
    ∷ (prepare 29 100, frame 101 107 1 1 (0x61 ∷ 0x80 ∷ 0x09 ∷ 0x02 ∷ replicate 10 0))
    ∷ (ready, answer true)
    ∷ []

-- five frames, confirmed out of order: put first, the last is sent again; a status that shows frame 2 queues 1, 3 and 4; one that comes while they are queued leaves queue and
-- selection; then 3 alone is missing, and polled
missing : List (Call × Line)
missing =
    (enqueue (Tmsi20 1) Smsch (1 ∷ 2 ∷ 3 ∷ 4 ∷ 5 ∷ 6 ∷ 7 ∷ 8 ∷ 9 ∷ 10 ∷ 11 ∷ 12 ∷ 13 ∷ 14 ∷ 15 ∷ 16 ∷ 17 ∷ 18 ∷ 19 ∷ 20 ∷ 21 ∷ 22 ∷ 23 ∷ 24 ∷ 25 ∷ 26 ∷ 27 ∷ 28 ∷ 29 ∷ 30 ∷ 31 ∷ 32 ∷ 33 ∷ 34 ∷ 35 ∷ 36 ∷ 37 ∷ []) 1 5000 10 100, owner 100)
    ∷ (prepare 10 100, frame 100 101 0 0 (0x81 ∷ 0x40 ∷ 0x00 ∷ 0x00 ∷ 0x20 ∷ 0x00 ∷ 0x94 ∷ 0x04 ∷ 0x08 ∷ 0x0c ∷ 0x10 ∷ 0x14 ∷ 0x18 ∷ 0x18 ∷ []))
    ∷ (submitted 100 101 0 10 100, done)
    ∷ (prepare 10 100, frame 100 102 1 0 (0x81 ∷ 0x80 ∷ 0x00 ∷ 0x02 ∷ 0x10 ∷ 0x12 ∷ 0x14 ∷ 0x16 ∷ 0x18 ∷ 0x1a ∷ 0x1c ∷ 0x1e ∷ 0x20 ∷ 0x20 ∷ []))
    ∷ (submitted 100 102 1 10 100, done)
    ∷ (prepare 10 100, frame 100 103 2 0 (0x81 ∷ 0x80 ∷ 0x00 ∷ 0x05 ∷ 0x12 ∷ 0x13 ∷ 0x14 ∷ 0x15 ∷ 0x16 ∷ 0x17 ∷ 0x18 ∷ 0x19 ∷ 0x1a ∷ 0x18 ∷ []))
    ∷ (submitted 100 103 2 10 100, done)
    ∷ (prepare 10 100, frame 100 104 3 0 (0x81 ∷ 0x80 ∷ 0x00 ∷ 0x09 ∷ 0x8e ∷ 0x0e ∷ 0x8f ∷ 0x0f ∷ 0x90 ∷ 0x10 ∷ 0x91 ∷ 0x11 ∷ 0x92 ∷ 0x10 ∷ []))
    ∷ (submitted 100 104 3 10 100, done)
    ∷ (prepare 10 100, frame 100 105 4 0 (0x81 ∷ 0x80 ∷ 0x01 ∷ 0x0d ∷ 0x40 ∷ replicate 9 0))
    ∷ (submitted 100 105 4 10 100, done)
    ∷ (transmitted 100 103 2 11 100, confirmed false)
    ∷ (transmitted 100 101 0 11 100, confirmed false)
    ∷ (transmitted 100 105 4 11 100, confirmed false)
    ∷ (transmitted 100 102 1 11 100, confirmed false)
    ∷ (transmitted 100 104 3 12 100, confirmed true)
    ∷ (radio_active, answer true)
    ∷ (prioritize 0 16 100, frame 100 106 4 0 (0x81 ∷ 0x80 ∷ 0x01 ∷ 0x0d ∷ 0x40 ∷ replicate 9 0))
    ∷ (submitted 100 106 4 16 100, done)
    ∷ (status 0 2 17 100, answer true)
    ∷ (state, whole ((1 ∷ 0 ∷ 37 ∷ 5 ∷ 100 ∷ 0 ∷ 100 ∷ 0 ∷ 16 ∷ 31 ∷ 4 ∷ 1 ∷ 18 ∷ 17 ∷ 0 ∷ 5000 ∷ []) ∷ []) [] [] (1 ∷ 17 ∷ 100 ∷ 107 ∷ []))
    ∷ (transmitted 100 106 4 18 100, confirmed true)
    ∷ (queue 0, numbers (1 ∷ 3 ∷ 4 ∷ []))
    ∷ (submitted_message 100 0 18446744073709551615, number 1)
    ∷ (prepare 19 100, frame 100 107 1 0 (0x81 ∷ 0x80 ∷ 0x00 ∷ 0x02 ∷ 0x10 ∷ 0x12 ∷ 0x14 ∷ 0x16 ∷ 0x18 ∷ 0x1a ∷ 0x1c ∷ 0x1e ∷ 0x20 ∷ 0x20 ∷ []))
    ∷ (status 0 9 20 100, answer true)
    ∷ (status 0 9 21 100, answer true)
    ∷ (submitted 100 107 1 21 100, done)
    ∷ (state, whole ((1 ∷ 0 ∷ 37 ∷ 5 ∷ 100 ∷ 0 ∷ 100 ∷ 24 ∷ 2 ∷ 31 ∷ 22 ∷ 1 ∷ 22 ∷ 22 ∷ 0 ∷ 5000 ∷ []) ∷ []) [] [] (1 ∷ 21 ∷ 100 ∷ 108 ∷ []))
    ∷ (prepare 22 100, frame 100 108 3 0 (0x81 ∷ 0x80 ∷ 0x00 ∷ 0x09 ∷ 0x8e ∷ 0x0e ∷ 0x8f ∷ 0x0f ∷ 0x90 ∷ 0x10 ∷ 0x91 ∷ 0x11 ∷ 0x92 ∷ 0x10 ∷ []))
    ∷ (submitted 100 108 3 22 100, done)
    ∷ (transmitted 100 108 3 22 100, confirmed true)
    ∷ (prepare 23 100, frame 100 109 4 0 (0x81 ∷ 0x80 ∷ 0x01 ∷ 0x0d ∷ 0x40 ∷ replicate 9 0))
    ∷ (submitted 100 109 4 23 100, done)
    ∷ (transmitted 100 109 4 24 100, confirmed true)
    ∷ (transmitted 100 107 1 24 100, confirmed true)
    ∷ (state, whole ((1 ∷ 0 ∷ 37 ∷ 5 ∷ 100 ∷ 0 ∷ 100 ∷ 8 ∷ 0 ∷ 31 ∷ 22 ∷ 0 ∷ 24 ∷ 24 ∷ 0 ∷ 5000 ∷ []) ∷ []) [] [] (1 ∷ 24 ∷ 100 ∷ 110 ∷ []))
    ∷ (prepare 24 100, frame 100 110 3 0 (0x81 ∷ 0x80 ∷ 0x01 ∷ 0x09 ∷ 0x8e ∷ 0x0e ∷ 0x8f ∷ 0x0f ∷ 0x90 ∷ 0x10 ∷ 0x91 ∷ 0x11 ∷ 0x92 ∷ 0x10 ∷ []))
    ∷ (status 0 15 25 100, answer true)
    ∷ (pop, event 0 1)
    ∷ (held 0, number 6000)
    ∷ []

-- one restart is asked for and one is due, in one walk; of status, observed frames and selection nothing is left; `transmitted` advances the others too
forgotten : List (Call × Line)
forgotten =
    (enqueue (Tmsi20 1) Arch (replicate 17 65) 1 5000 10 100, owner 100)
    ∷ (enqueue (Tmsi20 2) Arch (66 ∷ []) 2 5000 10 100, owner 101)
    ∷ (has_echo 0, answer true)
    ∷ (prepare 10 100, frame 100 102 0 0 (0x61 ∷ 0x40 ∷ 0x00 ∷ 0x00 ∷ 0x20 ∷ 0x00 ∷ 0x45 ∷ 0x05 ∷ 0x05 ∷ 0x05 ∷ 0x05 ∷ 0x05 ∷ 0x05 ∷ 0x00 ∷ []))
    ∷ (submitted 100 102 0 10 100, done)
    ∷ (prepare 10 100, frame 101 103 0 1 (0x61 ∷ 0x40 ∷ 0x00 ∷ 0x00 ∷ 0x40 ∷ 0x48 ∷ 0x05 ∷ 0x08 ∷ replicate 6 0))
    ∷ (submitted 101 103 0 10 100, done)
    ∷ (prepare 11 100, frame 100 104 1 0 (0x61 ∷ 0x80 ∷ 0x00 ∷ 0x02 ∷ 0x82 ∷ 0x82 ∷ 0x82 ∷ 0x82 ∷ 0x82 ∷ 0x82 ∷ 0x82 ∷ 0x82 ∷ 0x82 ∷ 0x80 ∷ []))
    ∷ (submitted 100 104 1 11 100, done)
    ∷ (status 0 1 12 100, answer true)
    ∷ (prepare 12 100, frame 100 105 2 0 (0x61 ∷ 0x80 ∷ 0x01 ∷ 0x05 ∷ replicate 10 0))
    ∷ (interrupt 0 74 100, answer true)
    ∷ (state, whole ((2 ∷ 1 ∷ 1 ∷ 1 ∷ 101 ∷ 2 ∷ 106 ∷ 1 ∷ 0 ∷ 0 ∷ 0 ∷ 0 ∷ 0 ∷ 0 ∷ 0 ∷ 5000 ∷ []) ∷ (1 ∷ 0 ∷ 17 ∷ 3 ∷ 100 ∷ 3 ∷ 107 ∷ 7 ∷ 0 ∷ 0 ∷ 0 ∷ 0 ∷ 0 ∷ 0 ∷ 0 ∷ 5000 ∷ []) ∷ []) [] [] (4 ∷ 74 ∷ 100 ∷ 108 ∷ []))
    ∷ (prepare 74 100, frame 106 108 0 2 (0x61 ∷ 0x40 ∷ 0x00 ∷ 0x00 ∷ 0x40 ∷ 0x88 ∷ 0x05 ∷ 0x08 ∷ replicate 6 0))
    ∷ (submitted 106 108 0 74 100, done)
    ∷ (submitted_message 106 108 0, number 2)
    ∷ (submitted_message 101 108 0, nothing)
    ∷ (prepare 75 100, frame 107 109 0 3 (0x61 ∷ 0x40 ∷ 0x00 ∷ 0x00 ∷ 0x20 ∷ 0xc0 ∷ 0x45 ∷ 0x05 ∷ 0x05 ∷ 0x05 ∷ 0x05 ∷ 0x05 ∷ 0x05 ∷ 0x00 ∷ []))
    ∷ (submitted 107 109 0 75 100, done)
    ∷ (prepare 76 100, frame 107 110 1 3 (0x61 ∷ 0x80 ∷ 0x18 ∷ 0x02 ∷ 0x82 ∷ 0x82 ∷ 0x82 ∷ 0x82 ∷ 0x82 ∷ 0x82 ∷ 0x82 ∷ 0x82 ∷ 0x82 ∷ 0x80 ∷ []))
    ∷ (transmitted 106 108 0 139 100, confirmed true)
    ∷ (state, whole ((2 ∷ 1 ∷ 1 ∷ 1 ∷ 101 ∷ 4 ∷ 111 ∷ 1 ∷ 0 ∷ 0 ∷ 0 ∷ 0 ∷ 0 ∷ 0 ∷ 0 ∷ 5000 ∷ []) ∷ (1 ∷ 0 ∷ 17 ∷ 3 ∷ 100 ∷ 5 ∷ 112 ∷ 7 ∷ 0 ∷ 0 ∷ 0 ∷ 0 ∷ 0 ∷ 0 ∷ 0 ∷ 5000 ∷ []) ∷ []) [] [] (6 ∷ 139 ∷ 100 ∷ 113 ∷ []))
    ∷ []

-- a waiting order of three frames is put first: its last frame again; a status that shows none queues both Continues
none_heard : List (Call × Line)
none_heard =
    (enqueue (Tmsi20 1) Arch (replicate 17 65) 1 5000 10 100, owner 100)
    ∷ (prepare 10 100, frame 100 101 0 0 (0x61 ∷ 0x40 ∷ 0x00 ∷ 0x00 ∷ 0x20 ∷ 0x00 ∷ 0x45 ∷ 0x05 ∷ 0x05 ∷ 0x05 ∷ 0x05 ∷ 0x05 ∷ 0x05 ∷ 0x00 ∷ []))
    ∷ (submitted 100 101 0 10 100, done)
    ∷ (prepare 10 100, frame 100 102 1 0 (0x61 ∷ 0x80 ∷ 0x00 ∷ 0x02 ∷ 0x82 ∷ 0x82 ∷ 0x82 ∷ 0x82 ∷ 0x82 ∷ 0x82 ∷ 0x82 ∷ 0x82 ∷ 0x82 ∷ 0x80 ∷ []))
    ∷ (submitted 100 102 1 10 100, done)
    ∷ (prepare 10 100, frame 100 103 2 0 (0x61 ∷ 0x80 ∷ 0x01 ∷ 0x05 ∷ replicate 10 0))
    ∷ (submitted 100 103 2 10 100, done)
    ∷ (transmitted 100 101 0 11 100, confirmed false)
    ∷ (transmitted 100 102 1 11 100, confirmed false)
    ∷ (transmitted 100 103 2 11 100, confirmed true)
    ∷ (prioritize 0 12 100, frame 100 104 2 0 (0x61 ∷ 0x80 ∷ 0x01 ∷ 0x05 ∷ replicate 10 0))
    ∷ (submitted 100 104 2 12 100, done)
    ∷ (transmitted 100 104 2 12 100, confirmed true)
    ∷ (status 0 0 13 100, answer true)
    ∷ (queue 0, numbers (1 ∷ 2 ∷ []))
    ∷ (state, whole ((1 ∷ 0 ∷ 17 ∷ 3 ∷ 100 ∷ 0 ∷ 100 ∷ 6 ∷ 0 ∷ 7 ∷ 0 ∷ 0 ∷ 14 ∷ 13 ∷ 0 ∷ 5000 ∷ []) ∷ []) [] [] (1 ∷ 13 ∷ 100 ∷ 105 ∷ []))
    ∷ []

-- a selected frame stays when others expire, are complete, are replaced or restart; it goes when its own transfer does
others_stay : List (Call × Line)
others_stay =
    (enqueue (Tmsi20 1) Arch (65 ∷ []) 1 200 10 100, owner 100)
    ∷ (enqueue (Tmsi20 2) Arch (66 ∷ []) 2 5000 10 100, owner 101)
    ∷ (enqueue (Tmsi20 3) Arch (67 ∷ []) 3 300 10 100, owner 102)
    ∷ (prioritize 1 10 100, frame 101 103 0 1 (0x61 ∷ 0x40 ∷ 0x00 ∷ 0x00 ∷ 0x40 ∷ 0x48 ∷ 0x05 ∷ 0x08 ∷ replicate 6 0))
    ∷ (advance 11 200, done)
    ∷ (prepare 11 200, frame 101 103 0 1 (0x61 ∷ 0x40 ∷ 0x00 ∷ 0x00 ∷ 0x40 ∷ 0x48 ∷ 0x05 ∷ 0x08 ∷ replicate 6 0))
    ∷ (status 99 0 11 300, answer false)
    ∷ (pop, event 1 1)
    ∷ (pop, event 1 3)
    ∷ (enqueue (Tmsi20 4) Arch (68 ∷ []) 4 400 11 300, owner 104)
    ∷ (submitted 101 103 0 12 300, done)
    ∷ (prepare 12 300, frame 104 105 0 3 (0x61 ∷ 0x40 ∷ 0x00 ∷ 0x00 ∷ 0x80 ∷ 0xc8 ∷ 0x05 ∷ 0x10 ∷ replicate 6 0))
    ∷ (transmitted 101 103 0 13 300, confirmed true)
    ∷ (status 1 0 14 300, answer true)
    ∷ (pop, event 0 2)
    ∷ (enqueue (Tmsi20 5) Arch (69 ∷ []) 5 5000 14 300, owner 106)
    ∷ (enqueue (Tmsi20 5) Arch (70 ∷ []) 6 5000 14 300, owner 107)
    ∷ (interrupt 5 14 300, answer true)
    ∷ (prepare 14 300, frame 104 105 0 3 (0x61 ∷ 0x40 ∷ 0x00 ∷ 0x00 ∷ 0x80 ∷ 0xc8 ∷ 0x05 ∷ 0x10 ∷ replicate 6 0))
    ∷ (advance 15 400, done)
    ∷ (state, whole ((6 ∷ 1 ∷ 1 ∷ 1 ∷ 107 ∷ 6 ∷ 108 ∷ 1 ∷ 0 ∷ 0 ∷ 0 ∷ 0 ∷ 0 ∷ 0 ∷ 0 ∷ 5000 ∷ []) ∷ []) (2 ∷ 5 ∷ 1 ∷ 4 ∷ []) [] (7 ∷ 15 ∷ 400 ∷ 109 ∷ []))
    ∷ (prepare 15 400, frame 108 109 0 6 (0x61 ∷ 0x40 ∷ 0x00 ∷ 0x00 ∷ 0xa1 ∷ 0x88 ∷ 0x05 ∷ 0x18 ∷ replicate 6 0))
    ∷ (enqueue (Tmsi20 5) Arch (71 ∷ []) 7 600 15 400, owner 110)
    ∷ (state, whole ((7 ∷ 0 ∷ 1 ∷ 1 ∷ 110 ∷ 7 ∷ 110 ∷ 1 ∷ 0 ∷ 0 ∷ 0 ∷ 0 ∷ 0 ∷ 0 ∷ 0 ∷ 600 ∷ []) ∷ []) (2 ∷ 5 ∷ 1 ∷ 4 ∷ 2 ∷ 6 ∷ []) [] (8 ∷ 15 ∷ 400 ∷ 111 ∷ []))
    ∷ (cancel_all, done)
    ∷ (held 6, number 5000)
    ∷ (held 7, number 600)
    ∷ (pop, event 2 5)
    ∷ (pop, event 1 4)
    ∷ []

-- an overdue transfer is live until `advance`; either clock gone back is refused 22, and neither moves; an echo over 127 is no transfer's
overdue : List (Call × Line)
overdue =
    (enqueue (Tmsi20 1) Arch (65 ∷ []) 1 50 10 10, owner 100)
    ∷ (interrupt 9 11 50, answer false)
    ∷ (pending, number 1)
    ∷ (contains (Tmsi20 1), answer true)
    ∷ (has_echo 0, answer true)
    ∷ (identity_for_echo 0, to (Tmsi20 1))
    ∷ (ready, answer true)
    ∷ (can_enqueue 11 50, answer false)
    ∷ (enqueue (Tmsi20 2) Arch (66 ∷ []) 2 500 11 50, refused 20)
    ∷ (cancel_all, done)
    ∷ (pop, event 2 1)
    ∷ (can_enqueue 5 5, answer true)
    ∷ (enqueue (Tmsi20 1) Arch (65 ∷ []) 3 100 11 50, owner 101)
    ∷ (prioritize 129 11 50, nothing)
    ∷ (prepare 11 50, frame 101 102 0 1 (0x61 ∷ 0x40 ∷ 0x00 ∷ 0x00 ∷ 0x20 ∷ 0x48 ∷ 0x05 ∷ 0x04 ∷ replicate 6 0))
    ∷ (submitted 101 102 0 11 50, done)
    ∷ (advance 10 100, refused 22)
    ∷ (advance 12 49, refused 22)
    ∷ (interrupt 129 11 50, answer false)
    ∷ (status 129 0 11 50, answer false)
    ∷ (state, whole ((3 ∷ 0 ∷ 1 ∷ 1 ∷ 101 ∷ 1 ∷ 101 ∷ 0 ∷ 1 ∷ 0 ∷ 0 ∷ 0 ∷ 12 ∷ 12 ∷ 0 ∷ 100 ∷ []) ∷ []) [] [] (2 ∷ 11 ∷ 50 ∷ 103 ∷ []))
    ∷ (transmitted 101 102 1 12 100, unknown)
    ∷ (submitted_message 101 102 0, number 3)
    ∷ (advance 12 100, done)
    ∷ (pop, event 1 3)
    ∷ (enqueue (Tmsi20 1) Arch (65 ∷ []) 4 200 12 100, owner 103)
    ∷ (interrupt 9 12 200, answer false)
    ∷ (cancel (Tmsi20 1), answer true)
    ∷ (pop, event 2 4)
    ∷ []

-- identities of other types with one value are others; the lowest n is taken, and events do not count as transfers
same_number : List (Call × Line)
same_number =
    (enqueue (Tmsi20 1) Arch (65 ∷ []) 1 5000 10 100, owner 100)
    ∷ (enqueue (Tmsi24 1) Arch (66 ∷ []) 2 5000 10 100, owner 101)
    ∷ (enqueue (Tmsi20 2) Arch (67 ∷ []) 3 5000 10 100, owner 102)
    ∷ (order, numbers (1 ∷ 2 ∷ 3 ∷ []))
    ∷ (contains (Min34 1), answer false)
    ∷ (contains (Tmsi24 1), answer true)
    ∷ (identity_for_echo 1, to (Tmsi24 1))
    ∷ (cancel (Min34 1), answer false)
    ∷ (cancel (Tmsi24 1), answer true)
    ∷ (cancel (Tmsi20 1), answer true)
    ∷ (order, numbers (3 ∷ []))
    ∷ (can_enqueue 10 100, answer true)
    ∷ (enqueue (Min34 2) Smsch (68 ∷ []) 4 5000 10 100, owner 103)
    ∷ (state, whole ((3 ∷ 2 ∷ 1 ∷ 1 ∷ 102 ∷ 2 ∷ 102 ∷ 1 ∷ 0 ∷ 0 ∷ 0 ∷ 0 ∷ 0 ∷ 0 ∷ 0 ∷ 5000 ∷ []) ∷ (4 ∷ 0 ∷ 1 ∷ 1 ∷ 103 ∷ 3 ∷ 103 ∷ 1 ∷ 0 ∷ 0 ∷ 0 ∷ 0 ∷ 0 ∷ 0 ∷ 0 ∷ 5000 ∷ []) ∷ []) (2 ∷ 2 ∷ 2 ∷ 1 ∷ []) [] (4 ∷ 10 ∷ 100 ∷ 104 ∷ []))
    ∷ []

-- the next echo is held and free ones stand on both sides: 5 at 50; at 100 9, 12, then round to 2, 3; then none
around : List (Call × Line)
around =
    (can_enqueue 10 49, answer false)
    ∷ (can_enqueue 10 50, answer true)
    ∷ (enqueue (Tmsi20 1) Arch (65 ∷ []) 1 5000 10 50, owner 228)
    ∷ (identity_for_echo 5, to (Tmsi20 1))
    ∷ (enqueue (Tmsi20 2) Arch (66 ∷ []) 2 5000 10 99, refused 21)
    ∷ (enqueue (Tmsi20 2) Arch (66 ∷ []) 2 5000 10 100, owner 229)
    ∷ (identity_for_echo 9, to (Tmsi20 2))
    ∷ (can_enqueue 10 99, answer false)
    ∷ (can_enqueue 4 100, answer false)
    ∷ (interrupt 5 10 100, answer true)
    ∷ (identity_for_echo 12, to (Tmsi20 1))
    ∷ (enqueue (Tmsi20 3) Arch (67 ∷ []) 3 5000 10 100, owner 231)
    ∷ (enqueue (Tmsi20 4) Arch (68 ∷ []) 4 5000 10 100, owner 232)
    ∷ (enqueue (Tmsi20 5) Arch (69 ∷ []) 5 5000 10 100, refused 21)
    ∷ (state, whole ((1 ∷ 0 ∷ 1 ∷ 1 ∷ 228 ∷ 12 ∷ 230 ∷ 1 ∷ 0 ∷ 0 ∷ 0 ∷ 0 ∷ 0 ∷ 0 ∷ 0 ∷ 5000 ∷ []) ∷ (2 ∷ 1 ∷ 1 ∷ 1 ∷ 229 ∷ 9 ∷ 229 ∷ 1 ∷ 0 ∷ 0 ∷ 0 ∷ 0 ∷ 0 ∷ 0 ∷ 0 ∷ 5000 ∷ []) ∷ (3 ∷ 2 ∷ 1 ∷ 1 ∷ 231 ∷ 2 ∷ 231 ∷ 1 ∷ 0 ∷ 0 ∷ 0 ∷ 0 ∷ 0 ∷ 0 ∷ 0 ∷ 5000 ∷ []) ∷ (4 ∷ 3 ∷ 1 ∷ 1 ∷ 232 ∷ 3 ∷ 232 ∷ 1 ∷ 0 ∷ 0 ∷ 0 ∷ 0 ∷ 0 ∷ 0 ∷ 0 ∷ 5000 ∷ []) ∷ []) [] [] (4 ∷ 10 ∷ 100 ∷ 233 ∷ []))
    ∷ (interrupt 9 11 100, answer true)
    ∷ (pop, event 21 2)
    ∷ (held 9, number 5000)
    ∷ (order, numbers (1 ∷ 3 ∷ 4 ∷ []))
    ∷ []

-- five frames on Arch: each takes one token, and the last alone is polled. A Continue is refused by either clock and by each number of its token, and
-- a refusal for the token leaves the clock moved; one that is in flight again is known by its last submission
five_on_arch : List (Call × Line)
five_on_arch =
    (enqueue (Tmsi20 1) Arch (1 ∷ 2 ∷ 3 ∷ 4 ∷ 5 ∷ 6 ∷ 7 ∷ 8 ∷ 9 ∷ 10 ∷ 11 ∷ 12 ∷ 13 ∷ 14 ∷ 15 ∷ 16 ∷ 17 ∷ 18 ∷ 19 ∷ 20 ∷ 21 ∷ 22 ∷ 23 ∷ 24 ∷ 25 ∷ 26 ∷ 27 ∷ 28 ∷ 29 ∷ 30 ∷ 31 ∷ 32 ∷ 33 ∷ 34 ∷ 35 ∷ 36 ∷ 37 ∷ []) 1 5000 10 100, owner 100)
    ∷ (prepare 10 100, frame 100 101 0 0 (0x61 ∷ 0x40 ∷ 0x00 ∷ 0x00 ∷ 0x20 ∷ 0x00 ∷ 0x94 ∷ 0x04 ∷ 0x08 ∷ 0x0c ∷ 0x10 ∷ 0x14 ∷ 0x18 ∷ 0x18 ∷ []))
    ∷ (submitted 100 101 0 10 100, done)
    ∷ (prepare 10 100, frame 100 102 1 0 (0x61 ∷ 0x80 ∷ 0x00 ∷ 0x02 ∷ 0x10 ∷ 0x12 ∷ 0x14 ∷ 0x16 ∷ 0x18 ∷ 0x1a ∷ 0x1c ∷ 0x1e ∷ 0x20 ∷ 0x20 ∷ []))
    ∷ (submitted 100 102 1 9 100, refused 22)
    ∷ (submitted 100 102 1 10 99, refused 22)
    ∷ (submitted 100 101 1 11 101, refused 24)
    ∷ (submitted 101 102 1 11 101, refused 24)
    ∷ (submitted 100 102 2 11 101, refused 24)
    ∷ (state, whole ((1 ∷ 0 ∷ 37 ∷ 5 ∷ 100 ∷ 0 ∷ 100 ∷ 30 ∷ 1 ∷ 0 ∷ 0 ∷ 0 ∷ 11 ∷ 11 ∷ 0 ∷ 5000 ∷ []) ∷ []) [] (100 ∷ 102 ∷ 1 ∷ 0 ∷ []) (1 ∷ 11 ∷ 101 ∷ 103 ∷ []))
    ∷ (submitted 100 102 1 12 102, done)
    ∷ (state, whole ((1 ∷ 0 ∷ 37 ∷ 5 ∷ 100 ∷ 0 ∷ 100 ∷ 28 ∷ 3 ∷ 0 ∷ 0 ∷ 0 ∷ 13 ∷ 13 ∷ 0 ∷ 5000 ∷ []) ∷ []) [] [] (1 ∷ 12 ∷ 102 ∷ 103 ∷ []))
    ∷ (prepare 12 102, frame 100 103 2 0 (0x61 ∷ 0x80 ∷ 0x00 ∷ 0x05 ∷ 0x12 ∷ 0x13 ∷ 0x14 ∷ 0x15 ∷ 0x16 ∷ 0x17 ∷ 0x18 ∷ 0x19 ∷ 0x1a ∷ 0x18 ∷ []))
    ∷ (submitted 100 103 2 12 102, done)
    ∷ (prepare 12 102, frame 100 104 3 0 (0x61 ∷ 0x80 ∷ 0x00 ∷ 0x09 ∷ 0x8e ∷ 0x0e ∷ 0x8f ∷ 0x0f ∷ 0x90 ∷ 0x10 ∷ 0x91 ∷ 0x11 ∷ 0x92 ∷ 0x10 ∷ []))
    ∷ (submitted 100 104 3 12 102, done)
    ∷ (submitted_message 100 104 3, nothing)
    ∷ (prepare 12 102, frame 100 105 4 0 (0x61 ∷ 0x80 ∷ 0x01 ∷ 0x0d ∷ 0x40 ∷ replicate 9 0))
    ∷ (state, whole ((1 ∷ 0 ∷ 37 ∷ 5 ∷ 100 ∷ 0 ∷ 100 ∷ 16 ∷ 15 ∷ 0 ∷ 0 ∷ 0 ∷ 13 ∷ 13 ∷ 0 ∷ 5000 ∷ []) ∷ []) [] (100 ∷ 105 ∷ 4 ∷ 0 ∷ []) (1 ∷ 12 ∷ 102 ∷ 106 ∷ []))
    ∷ (submitted 100 105 4 12 102, done)
    ∷ (submitted_message 100 105 4, number 1)
    ∷ (pending, number 1)
    ∷ (transmitted 100 101 3 13 102, unknown)
    ∷ (transmitted 100 105 3 13 102, unknown)
    ∷ (transmitted 100 104 3 13 102, confirmed false)
    ∷ (transmitted 100 104 3 13 102, unknown)
    ∷ (transmitted 100 104 5 13 102, unknown)
    ∷ (transmitted 100 101 0 13 102, confirmed false)
    ∷ (transmitted 100 102 1 13 102, confirmed false)
    ∷ (transmitted 100 103 2 13 102, confirmed false)
    ∷ (transmitted 100 105 4 13 102, confirmed true)
    ∷ (state, whole ((1 ∷ 0 ∷ 37 ∷ 5 ∷ 100 ∷ 0 ∷ 100 ∷ 0 ∷ 0 ∷ 31 ∷ 0 ∷ 0 ∷ 13 ∷ 13 ∷ 14 ∷ 5000 ∷ []) ∷ []) [] [] (1 ∷ 13 ∷ 102 ∷ 106 ∷ []))
    ∷ (pending, number 1)
    ∷ (status 0 7 14 102, answer true)
    ∷ (queue 0, numbers (4 ∷ []))
    ∷ (prepare 14 102, frame 100 106 4 0 (0x61 ∷ 0x80 ∷ 0x01 ∷ 0x0d ∷ 0x40 ∷ replicate 9 0))
    ∷ (submitted 100 106 4 14 102, done)
    ∷ (word 4, number 106)
    ∷ (transmitted 100 105 4 14 102, unknown)
    ∷ (transmitted 100 106 4 15 102, confirmed true)
    ∷ (status 0 8 16 102, answer true)
    ∷ (pop, event 0 1)
    ∷ (pending, number 0)
    ∷ []

-- a selected Continue stays while others are refreshed, cancelled, restarted or complete, and goes when another echo is put first or its own order is
-- replaced; a Continue of another order, of another submission or confirmed twice is unknown
of_continues : List (Call × Line)
of_continues =
    (enqueue (Tmsi20 1) Arch (replicate 7 65) 1 5000 10 100, owner 100)
    ∷ (enqueue (Tmsi20 2) Arch (replicate 7 66) 2 5000 10 100, owner 101)
    ∷ (prepare 10 100, frame 100 102 0 0 (0x61 ∷ 0x40 ∷ 0x00 ∷ 0x00 ∷ 0x20 ∷ 0x00 ∷ 0x1d ∷ 0x05 ∷ 0x05 ∷ 0x05 ∷ 0x05 ∷ 0x05 ∷ 0x05 ∷ 0x00 ∷ []))
    ∷ (submitted 100 102 0 10 100, done)
    ∷ (prepare 10 100, frame 101 103 0 1 (0x61 ∷ 0x40 ∷ 0x00 ∷ 0x00 ∷ 0x40 ∷ 0x40 ∷ 0x1d ∷ 0x09 ∷ 0x09 ∷ 0x09 ∷ 0x09 ∷ 0x09 ∷ 0x09 ∷ 0x08 ∷ []))
    ∷ (submitted 101 103 0 10 100, done)
    ∷ (prepare 10 100, frame 100 104 1 0 (0x61 ∷ 0x80 ∷ 0x01 ∷ 0x02 ∷ replicate 10 0))
    ∷ (prioritize 0 10 100, frame 100 104 1 0 (0x61 ∷ 0x80 ∷ 0x01 ∷ 0x02 ∷ replicate 10 0))
    ∷ (refresh 26 100, done)
    ∷ (order, numbers (1 ∷ 2 ∷ []))
    ∷ (cancel (Tmsi20 2), answer true)
    ∷ (prepare 26 100, frame 100 104 1 0 (0x61 ∷ 0x80 ∷ 0x01 ∷ 0x02 ∷ replicate 10 0))
    ∷ (pop, event 2 2)
    ∷ (enqueue (Tmsi20 2) Arch (replicate 7 66) 3 5000 26 100, owner 105)
    ∷ (prioritize 2 26 100, frame 105 106 0 2 (0x61 ∷ 0x40 ∷ 0x00 ∷ 0x00 ∷ 0x40 ∷ 0x80 ∷ 0x1d ∷ 0x09 ∷ 0x09 ∷ 0x09 ∷ 0x09 ∷ 0x09 ∷ 0x09 ∷ 0x08 ∷ []))
    ∷ (state, whole ((3 ∷ 1 ∷ 7 ∷ 2 ∷ 105 ∷ 2 ∷ 105 ∷ 3 ∷ 0 ∷ 0 ∷ 0 ∷ 0 ∷ 0 ∷ 0 ∷ 0 ∷ 5000 ∷ []) ∷ (1 ∷ 0 ∷ 7 ∷ 2 ∷ 100 ∷ 0 ∷ 100 ∷ 2 ∷ 1 ∷ 0 ∷ 0 ∷ 0 ∷ 11 ∷ 11 ∷ 0 ∷ 5000 ∷ []) ∷ []) [] (105 ∷ 106 ∷ 0 ∷ 2 ∷ []) (3 ∷ 26 ∷ 100 ∷ 107 ∷ []))
    ∷ (submitted 100 104 1 26 100, refused 24)
    ∷ (submitted 105 106 0 26 100, done)
    ∷ (prioritize 0 26 100, frame 100 107 1 0 (0x61 ∷ 0x80 ∷ 0x01 ∷ 0x02 ∷ replicate 10 0))
    ∷ (interrupt 2 26 100, answer true)
    ∷ (state, whole ((1 ∷ 0 ∷ 7 ∷ 2 ∷ 100 ∷ 0 ∷ 100 ∷ 2 ∷ 1 ∷ 0 ∷ 0 ∷ 0 ∷ 11 ∷ 11 ∷ 0 ∷ 5000 ∷ []) ∷ (3 ∷ 1 ∷ 7 ∷ 2 ∷ 105 ∷ 3 ∷ 108 ∷ 3 ∷ 0 ∷ 0 ∷ 0 ∷ 0 ∷ 0 ∷ 0 ∷ 0 ∷ 5000 ∷ []) ∷ []) [] (100 ∷ 107 ∷ 1 ∷ 0 ∷ []) (4 ∷ 26 ∷ 100 ∷ 109 ∷ []))
    ∷ (submitted 100 107 1 27 100, done)
    ∷ (prepare 27 100, frame 108 109 0 3 (0x61 ∷ 0x40 ∷ 0x00 ∷ 0x00 ∷ 0x40 ∷ 0xc0 ∷ 0x1d ∷ 0x09 ∷ 0x09 ∷ 0x09 ∷ 0x09 ∷ 0x09 ∷ 0x09 ∷ 0x08 ∷ []))
    ∷ (submitted 108 109 0 27 100, done)
    ∷ (prepare 27 100, frame 108 110 1 3 (0x61 ∷ 0x80 ∷ 0x19 ∷ replicate 11 0))
    ∷ (transmitted 100 102 0 27 100, confirmed false)
    ∷ (transmitted 108 107 1 27 100, unknown)
    ∷ (transmitted 100 102 1 27 100, unknown)
    ∷ (transmitted 100 107 1 27 100, confirmed true)
    ∷ (transmitted 100 107 1 27 100, unknown)
    ∷ (status 0 1 28 100, answer true)
    ∷ (pop, event 0 1)
    ∷ (prepare 28 100, frame 108 110 1 3 (0x61 ∷ 0x80 ∷ 0x19 ∷ replicate 11 0))
    ∷ (pending, number 1)
    ∷ (enqueue (Tmsi20 2) Smsch (replicate 7 67) 4 5000 28 100, owner 111)
    ∷ (state, whole ((4 ∷ 0 ∷ 7 ∷ 2 ∷ 111 ∷ 4 ∷ 111 ∷ 3 ∷ 0 ∷ 0 ∷ 0 ∷ 0 ∷ 0 ∷ 0 ∷ 0 ∷ 5000 ∷ []) ∷ []) (2 ∷ 3 ∷ []) [] (5 ∷ 28 ∷ 100 ∷ 112 ∷ []))
    ∷ (submitted 108 110 1 28 100, refused 24)
    ∷ (pop, event 2 3)
    ∷ []

-- a message of 100 octets over one of 255: what is past it stays, and so does the next order's
over_another : List (Call × Line)
over_another =
    (enqueue (Tmsi20 1) Arch (replicate 255 65) 1 5000 10 100, owner 100)
    ∷ (enqueue (Tmsi20 2) Arch (replicate 255 66) 2 5000 10 100, owner 101)
    ∷ (cancel (Tmsi20 1), answer true)
    ∷ (pop, event 2 1)
    ∷ (enqueue (Tmsi20 3) Arch (replicate 100 67) 3 5000 10 100, owner 102)
    ∷ (stored 0 2, numbers (67 ∷ 67 ∷ []))
    ∷ (stored 98 4, numbers (67 ∷ 67 ∷ 65 ∷ 65 ∷ []))
    ∷ (stored 252 5, numbers (65 ∷ 65 ∷ 65 ∷ 66 ∷ 66 ∷ []))
    ∷ (stored 509 2, numbers (66 ∷ 0 ∷ []))
    ∷ []

-- a guard, a first usable block and blocks over 32 bits, and a completion of 64: all are kept in full
large : List (Call × Line)
large =
    (can_enqueue 8589934591 0, answer false)
    ∷ (can_enqueue 8589934592 0, answer true)
    ∷ (enqueue (Tmsi20 1) Arch (65 ∷ []) 18446744073709551615 5000 8589934591 100, refused 21)
    ∷ (enqueue (Tmsi20 1) Arch (65 ∷ []) 18446744073709551615 5000 8589934592 100, owner 100)
    ∷ (held 0, number 1099511632781)
    ∷ (state, whole ((18446744073709551615 ∷ 0 ∷ 1 ∷ 1 ∷ 100 ∷ 0 ∷ 100 ∷ 1 ∷ 0 ∷ 0 ∷ 0 ∷ 0 ∷ 0 ∷ 0 ∷ 0 ∷ 5000 ∷ []) ∷ []) [] [] (1 ∷ 8589934592 ∷ 100 ∷ 101 ∷ []))
    ∷ (prepare 8589934592 100, frame 100 101 0 0 (0x61 ∷ 0x40 ∷ 0x00 ∷ 0x00 ∷ 0x20 ∷ 0x08 ∷ 0x05 ∷ 0x04 ∷ replicate 6 0))
    ∷ (submitted 100 101 0 8589934592 100, done)
    ∷ (submitted_message 100 101 0, number 18446744073709551615)
    ∷ (transmitted 100 101 0 8589934593 100, confirmed true)
    ∷ (pending, number 1)
    ∷ (advance 8589934655 100, done)
    ∷ (held 0, number 1099511632781)
    ∷ (advance 8589934656 100, done)
    ∷ (state, whole ((18446744073709551615 ∷ 0 ∷ 1 ∷ 1 ∷ 100 ∷ 1 ∷ 102 ∷ 1 ∷ 0 ∷ 0 ∷ 0 ∷ 0 ∷ 0 ∷ 0 ∷ 0 ∷ 5000 ∷ []) ∷ []) [] [] (2 ∷ 8589934656 ∷ 100 ∷ 103 ∷ []))
    ∷ (prepare 8589934656 100, frame 102 103 0 1 (0x61 ∷ 0x40 ∷ 0x00 ∷ 0x00 ∷ 0x20 ∷ 0x48 ∷ 0x05 ∷ 0x04 ∷ replicate 6 0))
    ∷ (submitted 102 103 0 8589934656 100, done)
    ∷ (transmitted 102 103 0 8589934656 100, confirmed true)
    ∷ (status 1 0 8589934657 100, answer true)
    ∷ (pop, event 0 18446744073709551615)
    ∷ (can_enqueue 8589934657 1099511632780, answer true)
    ∷ []

-- 26 bits of a status are read, and no more: Continues 0 to 25 are the frames 1 to 26
shows_26 : (shown 0xffffffff ≡ 134217726) × (shown 0xfc000000 ≡ 0)
shows_26 = (refl, refl)

-- ---- the constructor

-- capacity 1 to 128; any other is refused 19
made : (new_of 0 1000 20 100 ≡ refuses 19) × (new_of 1 1000 20 100 ≡ gives (fresh 1 1000 20 100)) × (new_of 128 1000 20 100 ≡ gives (fresh 128 1000 20 100)) × (new_of 129 1000 20 100 ≡ refuses 19)
unfolding new_of
made = (refl, refl, refl, refl)

-- ---- one computed test of each

settled : Lives (fresh 4 1000 0 100) one_frame
    × Lives (fresh 4 0 0 100) three_frames
    × Lives (fresh 4 1000 0 100) restarts
    × Lives (fresh 4 0 0 100) waits
    × Lives (fresh 4 0 0 100) equal_ages
    × Lives (fresh 4 1000 0 100) replacement
    × Lives (crowded 1000000 (fresh 2 0 0 100)) shared_echo
    × Lives (fresh 2 0 0 100) expires
    × Lives (fresh 4 0 0 100) prioritized
    × Lives (fresh 4 0 0 100) interrupted
    × Lives (crowded 1000000 (fresh 2 0 0 100)) shortage
    × Lives (fresh 2 0 0 100) answered_again
    × Lives (fresh 1 1000 20 18446744073709551104) store_short
    × Lives (fresh 2 1000 0 18446744073709551102) tokens_short
    × Lives (fresh 1 1000 20 18446744073709550000) in_order
    × Lives (crowded 1000000 (fresh 2 1000 0 100)) no_echo
    × Lives (fresh 4 0 0 100) refreshes
    × Lives (fresh 4 0 0 100) later_frames
    × Lives (fresh 2 0 0 100) in_flight_again
    × Lives (fresh 4 0 0 100) at_the_deadline
    × Lives (fresh 4 0 0 100) two_at_once
    × Lives (fresh 4 0 0 100) served_by_age
    × Lives (fresh 4 1000 0 100) missing
    × Lives (fresh 4 1000 0 100) forgotten
    × Lives (fresh 4 0 0 100) none_heard
    × Lives (fresh 4 0 0 100) others_stay
    × Lives (fresh 1 0 0 100) overdue
    × Lives (fresh 3 0 0 100) same_number
    × Lives (left deadlines (fresh 8 0 5 100)) around
    × Lives (fresh 4 0 0 100) five_on_arch
    × Lives (fresh 4 0 0 100) of_continues
    × Lives (fresh 2 0 0 100) over_another
    × Lives (fresh 100 1099511627781 8589934592 100) large
unfolding one_frame three_frames restarts waits equal_ages replacement shared_echo expires prioritized interrupted shortage answered_again store_short tokens_short in_order no_echo refreshes later_frames in_flight_again at_the_deadline two_at_once served_by_age missing forgotten none_heard others_stay overdue same_number around five_on_arch of_continues over_another large deadlines octets bits_of bits value layout up_to any_set same in_range encodable packed begin_frame continue_frame encode_of count_of frame_of ones ones_in count_trailing_zeros frames_of free_echo done_of settle_of fate_of step walk walked advance_of grant_of accepts enqueue_of packed_of choose prepare_of interrupt_of prioritize_at prepare_prioritized_of submitted_at submitted_of submitted_message_of transmitted_at transmitted_of status_at status_of cancel_of cancel_transaction_of cancel_all_of queue_waiting oldest serve_oldest refresh_waiting_of can_enqueue_of identity_for_echo_of pop_event_of
settled = (refl, refl, refl, refl, refl, refl, refl, refl, refl, refl, refl, refl, refl, refl, refl, refl, refl, refl, refl, refl, refl, refl, refl, refl, refl, refl, refl, refl, refl, refl, refl, refl, refl)
