-- What every sender is that the constructor and the calls make; no caller has to know it. Read `Sound`, near the end,
-- first.
-- Assumes nothing.
use Rattle.std.specs.Prelude.{◌≡◌, true, false, List, [], ◌∷◌, ◌≢◌, ℕ, ◌+◌, ◌*◌, ◌^◌, ◌≤◌, ◌<◌, length, get_or}
use Rattle.std.specs.Prelude.{Option, None, Some}
use Rattle.std.specs.Int.Bits.{bit_and}
use Rattle.token.specs.Token.{stop}
use Rattle.rach.specs.Identity.{same, encodable}
use Rattle.spach.specs.Header.{usage_of}
use Rattle.arq.specs.Cut.{continues}
use Rattle.transfer.specs.declared.Transfer.{Transfer}
use Rattle.transfer.specs.declared.PreparedFrame.{PreparedFrame}
use Rattle.transfer.specs.Queue.{is_empty, has, front}
use Rattle.transfer.specs.State.{Limits, Echoes, Clock, View}
use Rattle.transfer.specs.Echo.{held_until}
use Rattle.transfer.specs.Transfer.{is_set, went_out}
use Rattle.transfer.specs.Advance.{overdue}
use Rattle.transfer.specs.Prepare.{is_ready}

-- ---- lists

module _ {A : Type 0} where
  -- every element is such
  pub data All (P : A → Type 0) : List A → Type 0 where
    all_none : All P []
    all_more : {x : A} {l : List A} → P x → All P l → All P (x ∷ l)

  -- some element is such
  pub data Any (P : A → Type 0) : List A → Type 0 where
    any-here : {x : A} {l : List A} → P x → Any P (x ∷ l)
    any-later : {x : A} {l : List A} → Any P l → Any P (x ∷ l)

  -- every element and every later one are related so
  pub data Pairs (R : A → A → Type 0) : List A → Type 0 where
    pairs-none : Pairs R []
    pairs-more : {x : A} {l : List A} → All (R x) l → Pairs R l → Pairs R (x ∷ l)

-- ---- optional blocks

-- not after a block
abbrev pub ByBlock : ℕ → Option ℕ → Type 0
ByBlock block None = Unit
ByBlock block (Some b) = b ≤ block

-- not after another, which is there if this one is
abbrev pub NotAfter : Option ℕ → Option ℕ → Type 0
NotAfter None t = Unit
NotAfter (Some a) None = ⊥
NotAfter (Some a) (Some b) = a ≤ b

-- ---- one transfer

-- what `enqueue` accepted: the cut gives each of its frames
pub record Accepted (x : Transfer) : Type 0 where
  pub identity : encodable x.parcel.identity ≡ true
  pub channel : usage_of x.parcel.channel ≢ 7
  pub some_octets : 1 ≤ x.parcel.octets
  pub most_octets : x.parcel.octets ≤ 255
  pub frames : x.parcel.frames ≡ 1 + continues x.parcel.identity x.parcel.octets

-- the sets of its frames
pub record SetsAgree (x : Transfer) : Type 0 where
  -- only frames that there are
  pub queue : x.sets.queue < 2 ^ x.parcel.frames
  pub in_flight : x.sets.in_flight < 2 ^ x.parcel.frames
  pub transmitted : x.sets.transmitted < 2 ^ x.parcel.frames
  pub observed : x.sets.observed < 2 ^ x.parcel.frames
  -- no frame is queued and in flight
  pub disjoint : bit_and x.sets.queue x.sets.in_flight ≡ 0
  -- a status shows Continues alone, and only what went out is observed
  pub no_begin : has x.sets.observed 0 ≡ false
  pub went-out : bit_and x.sets.observed (went_out x) ≡ x.sets.observed
  -- a status is kept only once the Begin went out
  pub begin_first : x.sets.received_status ≡ true → has (went_out x) 0 ≡ true
  -- with an empty queue a frame was submitted
  pub submitted : is_empty x.sets.queue ≡ true → is_set x.blocks.last_frame ≡ true

-- its blocks: none after the clock, and the last frame was progress
pub record Timed (block : ℕ) (x : Transfer) : Type 0 where
  pub progress : ByBlock block x.blocks.last_progress
  pub waiting : ByBlock block x.blocks.waiting_since
  pub last_frame : NotAfter x.blocks.last_frame x.blocks.last_progress

-- its echo is one of the 128; while it is not overdue, that echo is held until its deadline plus guard (an overdue one's may be
-- another's already)
pub record Holds (l : Limits) (c : Clock) (e : Echoes) (x : Transfer) : Type 0 where
  pub echo : x.echo < 128
  -- deadline plus guard fits in 64 bits
  pub fits : held_until l x.parcel.deadline_ms ≤ stop
  pub held : overdue c x ≡ false → get_or e.echo_until_ms x.echo 0 ≡ held_until l x.parcel.deadline_ms

-- a live transfer, under limits, at a clock, with these echoes and this next token
pub record Live (l : Limits) (c : Clock) (e : Echoes) (next : ℕ) (x : Transfer) : Type 0 where
  pub accepted : Accepted x
  pub sets : SetsAgree x
  pub timed : Timed c.last_block x
  pub holds : Holds l c e x
  -- its place in the lent store
  pub place : x.parcel.n < l.capacity
  -- the first usable block has come
  pub usable : l.startup_until_block ≤ c.last_block
  -- its numbers came from the counter
  pub owner : x.parcel.owner.0 < next
  pub generation : x.generation.0 < next

-- two live transfers
pub record Different (c : Clock) (x y : Transfer) : Type 0 where
  pub identity : same x.parcel.identity y.parcel.identity ≡ false
  pub place : x.parcel.n ≢ y.parcel.n
  pub owner : x.parcel.owner.0 ≢ y.parcel.owner.0
  pub generation : x.generation.0 ≢ y.generation.0
  -- two share an echo only where one is overdue
  pub echo : overdue c x ≡ false → overdue c y ≡ false → x.echo ≢ y.echo

-- ---- the selection

-- the frame f is the front of the transfer's queue
pub record Chosen (f : PreparedFrame) (x : Transfer) : Type 0 where
  pub generation : f.token.generation.0 ≡ x.generation.0
  pub ready : is_ready x ≡ true
  pub frame : f.token.frame ≡ front x.sets.queue
  pub echo : f.partial_echo ≡ x.echo
  pub identity : f.identity ≡ x.parcel.identity

-- a selected frame is a live transfer's, under a submission of the counter
abbrev pub Selected : List Transfer → (next : ℕ) → Option PreparedFrame → Type 0
Selected l next None = Unit
Selected l next (Some f) = Any (Chosen f) l × (f.token.submission.0 < next)

-- ---- the sender

-- what every sender is that the constructor and the calls make
pub record Sound (v : View) : Type 0 where
  pub some_capacity : 1 ≤ v.limits.capacity
  pub most_capacity : v.limits.capacity ≤ 128
  -- live at most capacity, and with the waiting events at most twice that
  pub live : length v.transfers ≤ v.limits.capacity
  pub accounted : length v.transfers + length v.events ≤ 2 * v.limits.capacity
  pub echoes : length v.echoes.echo_until_ms ≡ 128
  pub next_echo : v.echoes.next_echo < 128
  pub transfers : All (Live v.limits v.clock v.echoes v.next_token) v.transfers
  pub different : Pairs (Different v.clock) v.transfers
  pub selected : Selected v.transfers v.next_token v.selected
  pub counter : v.next_token ≤ stop
