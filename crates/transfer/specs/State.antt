-- 01, module 6: what a sender is, on lists, and what a call with a clock does first. Believe the records of this file: all else is
-- said of them.
-- Assumes nothing.
use Rattle.std.specs.Prelude.{Bool, cond, false, ◌||◌, List, [], ℕ, eqb, ltb, length, get_or, set, replicate}
use Rattle.std.specs.Prelude.{Option, None, Some}
use Rattle.token.specs.Token.{fewer_than, number_after}
use Rattle.rach.specs.declared.MobileIdentity.TheVariants.{Tmsi20}
use Rattle.spach.specs.declared.Channel.TheVariants.{Arch}
use Rattle.spach.specs.Refusal.{Outcome, gives, refuses, refuse, After}
pub use Rattle.transfer.specs.declared.Limits.{Limits}
pub use Rattle.transfer.specs.declared.Clock.{Clock}
use Rattle.transfer.specs.declared.Error.{Error}
use Rattle.transfer.specs.declared.Event.{Event}
use Rattle.transfer.specs.declared.Event.TheVariants.{Complete, Expired, Cancelled, Failed}
use Rattle.transfer.specs.declared.Generation.{Generation}
use Rattle.transfer.specs.declared.Transfer.{Transfer}
use Rattle.transfer.specs.declared.PreparedFrame.{PreparedFrame}
use Rattle.transfer.specs.Constants.{echo_values, store_octets, store_words, call_tokens}
use Rattle.transfer.specs.Lists.{position, remove_at, push_back}

-- ---- the state

-- until when each of the 128 echoes is held, and where the next search starts
pub record Echoes : Type 0 where
  pub echo_until_ms : List ℕ
  pub next_echo : ℕ

-- a sender
pub record View : Type 0 where
  -- what the constructor was given: the capacity, the first usable block, guard milliseconds (a record of src/lib.rt)
  pub limits : Limits
  -- the block and the milliseconds of the last clock that was accepted (a record of src/lib.rt)
  pub clock : Clock
  -- live transfers, overdue ones too, in the order in which they are served
  pub transfers : List Transfer
  -- events that wait to be taken, oldest first
  pub events : List Event
  pub echoes : Echoes
  -- the frame that was prepared last, until it is submitted or dropped
  pub selected : Option PreparedFrame
  -- the next number of the token counter
  pub next_token : ℕ

-- what a call is lent: message n in octets 255n to 255n + 254; in words 27n to 27n + 26, by frame, the last submission handed in
pub record Lent : Type 0 where
  pub octets : List ℕ
  pub words : List ℕ

-- ---- the state with one thing changed

-- at another clock
abbrev pub with_clock : View → Clock → View
with_clock v c = record { limits = v.limits; clock = c; transfers = v.transfers; events = v.events; echoes = v.echoes; selected = v.selected; next_token = v.next_token }

-- with other transfers
abbrev pub with_transfers : View → List Transfer → View
with_transfers v l = record { limits = v.limits; clock = v.clock; transfers = l; events = v.events; echoes = v.echoes; selected = v.selected; next_token = v.next_token }

-- with other events
abbrev pub with_events : View → List Event → View
with_events v l = record { limits = v.limits; clock = v.clock; transfers = v.transfers; events = l; echoes = v.echoes; selected = v.selected; next_token = v.next_token }

-- one more event waits
abbrev pub with_event : View → Event → View
with_event v e = with_events v (push_back v.events e)

-- with other holds of echoes
abbrev pub with_echoes : View → Echoes → View
with_echoes v e = record { limits = v.limits; clock = v.clock; transfers = v.transfers; events = v.events; echoes = e; selected = v.selected; next_token = v.next_token }

-- with another frame selected, or none
abbrev pub with_selected : View → Option PreparedFrame → View
with_selected v s = record { limits = v.limits; clock = v.clock; transfers = v.transfers; events = v.events; echoes = v.echoes; selected = s; next_token = v.next_token }

-- `Arc::new`: the next token number is taken
abbrev pub token_taken : View → View
token_taken v = record { limits = v.limits; clock = v.clock; transfers = v.transfers; events = v.events; echoes = v.echoes; selected = v.selected; next_token = number_after v.next_token }

-- ---- the constructor

-- no transfer, no event, every echo free, both clocks at 0
abbrev pub fresh : (capacity guard first_block first : ℕ) → View
fresh capacity guard first_block first = record {
  limits = record { capacity = capacity; startup_until_block = first_block; echo_guard_ms = guard };
  clock = record { last_block = 0; last_ms = 0 };
  transfers = [];
  events = [];
  echoes = record { echo_until_ms = replicate echo_values 0; next_echo = 0 };
  selected = None;
  next_token = first;
}

-- `try_new` and `after_restart`: capacity not 1 to 128 is refused 19
unfoldable pub new_of : (capacity guard first_block first : ℕ) → Outcome View
new_of capacity guard first_block first = refuse (eqb capacity 0 || ltb echo_values capacity) 19 (gives (fresh capacity guard first_block first))

-- ---- what a call with a clock does first

-- store short: fewer than 32,640 octets or fewer than 3,456 words
abbrev pub short : Lent → Bool
short m = ltb (length m.octets) store_octets || ltb (length m.words) store_words

-- `clock`: gone back, either of them, is refused 22; else both move
abbrev pub ticked : View → (block now : ℕ) → Outcome View
ticked v block now =
    refuse (ltb block v.clock.last_block || ltb now v.clock.last_ms) 22
    (gives (with_clock v (record { last_block = block; last_ms = now })))

-- 16; fewer than 512 tokens left 18; 22
abbrev pub admitted : View → Lent → (block now : ℕ) → Outcome View
admitted v m block now = refuse (short m) 16 (refuse (fewer_than call_tokens v.next_token) 18 (ticked v block now))

-- what a call says, and the sender that it leaves
abbrev pub says : {A : Type 0} → A → View → After A View
says a v = record { outcome = gives a; state = v }

-- what `enqueue` and `submitted` leave, which write to the lent memory
pub record Out (A : Type 0) : Type 0 where
  pub outcome : Outcome A
  pub sender : View
  pub lent : Lent

-- a refusal gives its number, and writes nothing
abbrev pub refusal : {A : Type 0} → ℕ → View → Lent → Out A
refusal n v m = record { outcome = refuses n; sender = v; lent = m }

-- a refusal leaves this sender and the lent memory; else the call goes on
abbrev pub goes_on : {A B : Type 0} → View → Lent → Outcome A → (A → Out B) → Out B
goes_on v m (gives a) f = f a
goes_on v m (refuses n) f = refusal n v m

-- ---- the list of transfers

-- the blank transfer, which stands where none is found
abbrev pub blank_transfer : Transfer
blank_transfer = record {
  parcel = record { identity = Tmsi20 0; completion = 0; deadline_ms = 0; owner = record { 0 = 0 }; channel = Arch; octets = 0; frames = 0; n = 0 };
  generation = record { 0 = 0 };
  sets = record { queue = 0; in_flight = 0; transmitted = 0; observed = 0; received_status = false };
  echo = 0;
  blocks = record { last_progress = None; last_frame = None; waiting_since = None };
}

-- the first transfer that passes the test, and its place; or what is said if there is none
abbrev pub seek : {A : Type 0} → (test : Transfer → Bool) → List Transfer → (nothing : A) → (found : ℕ → Transfer → A) → A
seek test l nothing found = let i = position test l in cond (ltb i (length l)) (found i (get_or l i blank_transfer)) nothing

-- the transfer at a place is another
abbrev pub put_at : View → (place : ℕ) → Transfer → View
put_at v place x = with_transfers v (set v.transfers place x)

-- a transfer of this echo
abbrev pub of_echo : (echo : ℕ) → Transfer → Bool
of_echo echo x = eqb x.echo echo

-- a transfer of this generation
abbrev pub of_generation : Generation → Transfer → Bool
of_generation g x = eqb x.generation.0 g.0

-- the selection without a frame of this generation
abbrev pub unselect : Generation → Option PreparedFrame → Option PreparedFrame
unselect g None = None
unselect g (Some f) = cond (eqb f.token.generation.0 g.0) None (Some f)

-- `clear_selected`: a frame of this generation is not selected any more
abbrev pub clear_selected : View → Generation → View
clear_selected v g = with_selected v (unselect g v.selected)

-- how a transfer ends
pub data How : Type 0 where
  completes : How
  expires : How
  cancels : How
  fails : Error → How

-- the event of a transfer that ends so: it tells the request's completion
abbrev pub event_of : Transfer → How → Event
event_of x completes = Complete x.parcel.completion
event_of x expires = Expired x.parcel.completion
event_of x cancels = Cancelled x.parcel.completion
event_of x (fails error) = Failed x.parcel.completion error

-- a transfer ends: its event waits, and no frame of it is selected
abbrev pub ended : View → Transfer → Event → View
ended v x e = with_event (clear_selected v x.generation) e

-- the transfer at a place is taken out, and Cancelled; its echo stays held
abbrev pub cancel_at : View → (place : ℕ) → Transfer → View
cancel_at v place x = ended (with_transfers v (remove_at place v.transfers)) x (event_of x cancels)
