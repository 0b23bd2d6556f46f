-- What the constructor makes is Sound, and so is a sender with a frame in flight, another selected and an event waiting: the
-- invariant asks for nothing that cannot be. Assumes nothing.
use Rattle.std.proofs.Common.{◌≡◌, ℕ, ◌≤◌, false, [], ◌∷◌, ◌++◌, replicate, Some, None, Option, sym, refl, true≢false, zero-le, lit≤}
use lib.Count.{ones, ones_in, count_trailing_zeros}
use borrow.Author.Tests.{eqb-false}
use Rattle.field.specs.Bits.{bits, value, bits_of, octets}
use Rattle.field.specs.Layout.{layout, up_to, any_set}
use Rattle.token.specs.Token.{stop}
use Rattle.rach.specs.Identity.{same, in_range, encodable}
use Rattle.rach.specs.declared.MobileIdentity.TheVariants.{Tmsi20}
use Rattle.spach.specs.declared.Channel.TheVariants.{Arch}
use Rattle.spach.specs.Refusal.{After}
use Rattle.arq.specs.Frame.{packed, begin_frame, continue_frame}
use Rattle.arq.specs.Encode.{encode_of}
use Rattle.arq.specs.Cut.{count_of, frame_of}
use Rattle.transfer.specs.declared.Event.TheVariants.{Cancelled}
use Rattle.transfer.specs.declared.Request.{Request}
use Rattle.transfer.specs.declared.Transfer.{Transfer}
use Rattle.transfer.specs.declared.PreparedFrame.{PreparedFrame}
use Rattle.transfer.specs.State.{View, Lent, fresh}
use Rattle.transfer.specs.Echo.{free_echo}
use Rattle.transfer.specs.Transfer.{done_of, settle_of}
use Rattle.transfer.specs.Advance.{fate_of, step, walk, walked}
use Rattle.transfer.specs.Enqueue.{grant_of, accepts, enqueue_of}
use Rattle.transfer.specs.Prepare.{packed_of, choose, prepare_of}
use Rattle.transfer.specs.Submitted.{submitted_at, submitted_of}
use Rattle.transfer.specs.Cancel.{cancel_of}
use Rattle.transfer.specs.Invariant.{all_none, all_more, any-here, pairs-none, pairs-more, Live, Different, Sound}

-- ---- the constructor

pub fresh_sound : (capacity guard first_block first : ℕ) → 1 ≤ capacity → capacity ≤ 128 → first ≤ stop → Sound (fresh capacity guard first_block first)
fresh_sound capacity guard first_block first some_capacity most_capacity counter =
    record {
      some_capacity = some_capacity;
      most_capacity = most_capacity;
      live = zero-le;
      accounted = zero-le;
      echoes = refl;
      next_echo = lit≤ tt;
      transfers = all_none;
      different = pairs-none;
      selected = tt;
      counter = counter;
    }

-- ---- a busy sender

-- a transfer with frames in flight or queued, that had progress at block 10 or none yet
abbrev transfer : (value completion octets frames n owner echo queue flight : ℕ) → Option ℕ → Transfer
transfer value completion octs count n owner echo queue flight since = record {
  parcel = record { identity = Tmsi20 value; completion = completion; deadline_ms = 5000; owner = record { 0 = owner }; channel = Arch; octets = octs; frames = count; n = n };
  generation = record { 0 = owner };
  sets = record { queue = queue; in_flight = flight; transmitted = 0; observed = 0; received_status = false };
  echo = echo;
  blocks = record { last_progress = since; last_frame = since; waiting_since = None };
}

-- three frames, the first in flight; one frame, selected
abbrev sent : Transfer
sent = transfer 1 1 17 3 0 100 0 6 1 (Some 10)

abbrev next : Transfer
next = transfer 2 2 1 1 1 102 2 1 0 None

abbrev frame : PreparedFrame
frame = record {
  identity = Tmsi20 2;
  octets = 0x61 ∷ 0x40 ∷ 0x00 ∷ 0x00 ∷ 0x40 ∷ 0x88 ∷ 0x05 ∷ 0x08 ∷ replicate 6 0;
  token = record { generation = record { 0 = 102 }; submission = record { 0 = 104 }; frame = 0 };
  partial_echo = 2;
}

-- what `enqueue` to 1, `enqueue` and `cancel` to 3, `enqueue` to 2, `prepare`, `submitted` and `prepare` leave
abbrev pub busy : View
busy = record {
  limits = record { capacity = 4; startup_until_block = 0; echo_guard_ms = 1000 };
  clock = record { last_block = 10; last_ms = 100 };
  transfers = next ∷ sent ∷ [];
  events = Cancelled 3 ∷ [];
  echoes = record { echo_until_ms = replicate 3 6000 ++ replicate 125 0; next_echo = 3 };
  selected = Some frame;
  next_token = 105;
}

-- the requests, and the calls one after the other
abbrev request : (value completion : ℕ) → Request
request value completion = record { identity = Tmsi20 value; channel = Arch; completion = completion; deadline_ms = 5000 }

abbrev life : After (Option PreparedFrame) View
life =
    let lent : Lent = record { octets = replicate 32640 0; words = replicate 3456 0 } in
    let a = enqueue_of (fresh 4 1000 0 100) lent (request 1 1) (replicate 17 0x41) 10 100 in
    let b = enqueue_of a.sender a.lent (request 3 3) (0x43 ∷ []) 10 100 in
    let c = cancel_of b.sender (Tmsi20 3) in
    let d = enqueue_of c.state b.lent (request 2 2) (0x42 ∷ []) 10 100 in
    let e = prepare_of d.sender d.lent 10 100 in
    let f = submitted_of e.state d.lent (record { generation = record { 0 = 100 }; submission = record { 0 = 103 }; frame = 0 }) 10 100 in
    prepare_of f.sender f.lent 10 100

busy_reached : life.state ≡ busy
unfolding octets bits_of bits value layout up_to any_set same in_range encodable packed begin_frame continue_frame encode_of count_of frame_of ones ones_in count_trailing_zeros free_echo done_of settle_of fate_of step walk walked grant_of accepts enqueue_of packed_of choose prepare_of submitted_at submitted_of cancel_of
busy_reached = refl

-- ---- and it is Sound

next_live : Live busy.limits busy.clock busy.echoes busy.next_token next
unfolding encodable in_range
next_live = record {
  accepted = record { identity = refl; channel = eqb-false 3 7 refl; some_octets = lit≤ tt; most_octets = lit≤ tt; frames = refl };
  sets = record {
    queue = lit≤ tt;
    in_flight = lit≤ tt;
    transmitted = lit≤ tt;
    observed = lit≤ tt;
    disjoint = refl;
    no_begin = refl;
    went-out = refl;
    begin_first = λ e. absurd (true≢false (sym e));
    submitted = λ e. absurd (true≢false (sym e));
  };
  timed = record { progress = tt; waiting = tt; last_frame = tt };
  holds = record { echo = lit≤ tt; fits = lit≤ tt; held = λ e. refl };
  place = lit≤ tt;
  usable = lit≤ tt;
  owner = lit≤ tt;
  generation = lit≤ tt;
}

sent_live : Live busy.limits busy.clock busy.echoes busy.next_token sent
unfolding encodable in_range
sent_live = record {
  accepted = record { identity = refl; channel = eqb-false 3 7 refl; some_octets = lit≤ tt; most_octets = lit≤ tt; frames = refl };
  sets = record {
    queue = lit≤ tt;
    in_flight = lit≤ tt;
    transmitted = lit≤ tt;
    observed = lit≤ tt;
    disjoint = refl;
    no_begin = refl;
    went-out = refl;
    begin_first = λ e. absurd (true≢false (sym e));
    submitted = λ e. refl;
  };
  timed = record { progress = lit≤ tt; waiting = tt; last_frame = lit≤ tt };
  holds = record { echo = lit≤ tt; fits = lit≤ tt; held = λ e. refl };
  place = lit≤ tt;
  usable = lit≤ tt;
  owner = lit≤ tt;
  generation = lit≤ tt;
}

next_sent : Different busy.clock next sent
unfolding same
next_sent = record {
  identity = refl;
  place = eqb-false 1 0 refl;
  owner = eqb-false 102 100 refl;
  generation = eqb-false 102 100 refl;
  echo = λ a b. eqb-false 2 0 refl;
}

pub busy_sound : Sound busy
unfolding count_trailing_zeros
busy_sound = record {
  some_capacity = lit≤ tt;
  most_capacity = lit≤ tt;
  live = lit≤ tt;
  accounted = lit≤ tt;
  echoes = refl;
  next_echo = lit≤ tt;
  transfers = all_more next_live (all_more sent_live all_none);
  different = pairs-more (all_more next_sent all_none) (pairs-more all_none pairs-none);
  selected = (any-here (record { generation = refl; ready = refl; frame = refl; echo = refl; identity = refl }), lit≤ tt);
  counter = lit≤ tt;
}
