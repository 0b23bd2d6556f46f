-- 01, module 6: a transfer, in the order of the Rust's `Transfer`: its frames, `done`, `settle`; and how it begins, at first
-- and after a restart. Believe `done_of` and `settle_of`, and what `begun` queues. Assumes nothing.
use Rattle.std.specs.Prelude.{Option, None, Some}
use Rattle.std.specs.Prelude.{Bool, true, false, cond, not, ◌&&◌, ◌||◌, List, ℕ, ◌-◌, ◌*◌, leb, take, drop}
use Rattle.std.specs.Int.Bits.{bit_or}
use Rattle.spach.specs.declared.Channel.{Channel}
use Rattle.arq.specs.declared.ResponseMode.TheVariants.{Contention}
use Rattle.arq.specs.declared.ArqHeader.{ArqHeader}
use Rattle.arq.specs.Frame.{blank_header}
use Rattle.transfer.specs.declared.Parcel.{Parcel}
use Rattle.transfer.specs.declared.Sets.{Sets}
use Rattle.transfer.specs.declared.Blocks.{Blocks}
use Rattle.transfer.specs.declared.Transfer.{Transfer}
use Rattle.transfer.specs.Constants.{restart_blocks, message_octets_lem}
use Rattle.transfer.specs.Queue.{is_empty, first_frames, continues_of, frame_alone, without, full}

-- ---- optional blocks

-- at least so many blocks have passed since
abbrev pub passed : (limit block : ℕ) → Option ℕ → Bool
passed limit block None = false
passed limit block (Some b) = leb limit (block - b)

-- there is a block
abbrev pub is_set : Option ℕ → Bool
is_set None = false
is_set (Some b) = true

-- `get_or_insert`
abbrev pub or_from : (block : ℕ) → Option ℕ → Option ℕ
or_from block None = Some block
or_from block (Some b) = Some b

-- ---- frames

-- `create_frames`: the header of the cut has no flag, the echo, and Contention; polling is set where a frame is prepared
abbrev pub header_of : Channel → (echo : ℕ) → (polling : Bool) → ArqHeader
header_of channel echo polling = record { channel = channel; flags = blank_header.flags; partial_echo = echo; polling = polling; response_mode = Contention }

-- message n, in its own 255 octets of the lent store, from the first
abbrev pub message_of : Transfer → (octets : List ℕ) → List ℕ
message_of x octets = take x.parcel.octets (drop (message_octets_lem * x.parcel.n) octets)

-- with other sets
abbrev pub with_sets : Transfer → Sets → Transfer
with_sets x s = record { parcel = x.parcel; generation = x.generation; sets = s; echo = x.echo; blocks = x.blocks }

-- with other blocks
abbrev pub with_blocks : Transfer → Blocks → Transfer
with_blocks x b = record { parcel = x.parcel; generation = x.generation; sets = x.sets; echo = x.echo; blocks = b }

-- waiting since another block, or not at all
abbrev pub waiting_from : Transfer → Option ℕ → Transfer
waiting_from x s = with_blocks x (record { last_progress = x.blocks.last_progress; last_frame = x.blocks.last_frame; waiting_since = s })

-- with another queue
abbrev pub queued : Transfer → (queue : ℕ) → Transfer
queued x q = with_sets x (record { queue = q; in_flight = x.sets.in_flight; transmitted = x.sets.transmitted; observed = x.sets.observed; received_status = x.sets.received_status })

-- nothing queued and nothing in flight
abbrev pub idle : Transfer → Bool
idle x = is_empty x.sets.queue && is_empty x.sets.in_flight

-- the last frame queued again
abbrev pub last_queued : Transfer → Transfer
last_queued x = queued x (frame_alone (x.parcel.frames - 1))

-- every frame is transmitted
abbrev pub all_transmitted : Transfer → Bool
all_transmitted x = full x.parcel.frames x.sets.transmitted

-- the frames that went out: transmitted, or in flight
abbrev pub went_out : Transfer → ℕ
went_out x = bit_or x.sets.transmitted x.sets.in_flight

-- ---- done

-- a status came, nothing is in flight, every frame is transmitted and every Continue observed; the queue is not looked at
unfoldable pub done_of : Transfer → Bool
done_of x =
    x.sets.received_status
    && (is_empty x.sets.in_flight
    && (all_transmitted x
    && full (x.parcel.frames - 1) x.sets.observed))

-- ---- settle

-- the Continues that are not observed are queued again, and the status is used up
abbrev pub requeued : Transfer → Transfer
requeued x =
    waiting_from
    (with_sets x (record {
      queue = without (continues_of x.parcel.frames) x.sets.observed;
      in_flight = x.sets.in_flight;
      transmitted = x.sets.transmitted;
      observed = x.sets.observed;
      received_status = false;
    }))
    None

-- it waits from this block on, unless it does so already
abbrev pub waits : (block : ℕ) → Transfer → Transfer
waits block x = waiting_from x (or_from block x.blocks.waiting_since)

-- with frames queued or in flight, or when done, it stays as it is
unfoldable pub settle_of : (block : ℕ) → Transfer → Transfer
settle_of block x =
    cond (not (idle x) || done_of x) x
    (cond x.sets.received_status (requeued x) (waits block x))

-- ---- restart

-- 64 blocks since progress or waiting
abbrev pub restart_due : (block : ℕ) → Transfer → Bool
restart_due block x = passed restart_blocks block x.blocks.last_progress || passed restart_blocks block x.blocks.waiting_since

-- a transfer begins, and begins again: under an echo and a generation all frames are queued, and nothing is left of before
abbrev pub begun : Parcel → (echo generation : ℕ) → Transfer
begun p echo generation = record {
  parcel = p;
  generation = record { 0 = generation };
  sets = record { queue = first_frames p.frames; in_flight = 0; transmitted = 0; observed = 0; received_status = false };
  echo = echo;
  blocks = record { last_progress = None; last_frame = None; waiting_since = None };
}
