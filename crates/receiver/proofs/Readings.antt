-- What each reading of the receiver's answers, map and slots says: every value is told as it is. Assumes nothing.
use Rattle.std.proofs.Common.{◌≡◌, ℕ, ◌+◌, ◌*◌, ◌/◌, ◌%◌, ◌^◌, ◌<◌, true, false, List, [], ◌∷◌, ◌++◌, length, get_or, take, replicate, slice_set, bit_or, Some, None, Ok, Err, Option, Result, flat_map, refl, get_or-set_other, get_or-set_same}
use Rattle.field.specs.Bits.{bits_of, octets}
use Rattle.rach.specs.declared.MobileIdentity.{MobileIdentity}
use Rattle.spach.specs.declared.SpachError.{SpachError}
use Rattle.spach.specs.Refusal.{Outcome, gives, refuses, number_of, by_number}
use Rattle.arq.specs.declared.ArqFrame.{ArqFrame}
use Rattle.arq.specs.Frame.{room}
use Rattle.receiver.specs.declared.transaction.Transaction.{Transaction}
use Rattle.receiver.specs.declared.ArqReassembler.{ArqReassembler}
use Rattle.receiver.specs.declared.ArqStatus.{ArqStatus}
use Rattle.receiver.specs.declared.Reception.{Reception}
use Rattle.receiver.specs.declared.Reception.TheVariants.{Accepted}
use Rattle.receiver.specs.Demand3.{Push, handed, runs}
use Rattle.receiver.specs.Map.{bit_of, In, with_bit}
use Rattle.receiver.specs.Receiver.{Out, slot_at, needed, due, request_of, gathered, assembled, finish, pushed, replaced_by, stored, marked}
use Rattle.receiver.proofs.Assembled.{gathered_more}

-- an answer and a push, their refusals by number
pub answers_say : {A : Type 0} → ((a : A) → by_number number_of (Ok a) ≡ gives a) × ((e : SpachError) → by_number {A = A} number_of (Err e) ≡ refuses (number_of e))
answers_say = (λ a. refl, λ e. refl)

pub pushed-says : (s : ArqReassembler) (r : Result Reception SpachError) (b : List ℕ) → pushed (s, r) b ≡ record { outcome = by_number number_of r; receiver = s; buffer = b }
pushed-says s r b = refl

-- ---- the map and the slots

-- bit k of the map has the weight 2^k
pub map-says : (m k : ℕ) → (bit_of m k ≡ m / 2 ^ k % 2) × (In k m ≡ (m / 2 ^ k % 2 ≡ 1)) × (with_bit m k ≡ bit_or m (2 ^ k))
map-says m k = (refl, refl, refl)

-- slot k is element k; written, it has the ten octets, and the others stay
pub slots_say : (slots : List (List ℕ)) (d : List ℕ) (k : ℕ) → (slot_at slots k ≡ get_or slots k [])
    × (k < length slots → slot_at (slice_set slots k d) k ≡ d) × ((j : ℕ) → (j ≡ k → ⊥) → slot_at (slice_set slots k d) j ≡ slot_at slots j)
slots_say slots d k = (refl, (λ l. get_or-set_same slots k d [] l), (λ j n. get_or-set_other slots k j d [] n))

-- of each slot 79 bits are taken, in order
pub gathered-says : (slots : List (List ℕ)) (n : ℕ) → (gathered slots n ≡ flat_map (λ d. take 79 (bits_of d)) (take n slots))
    × (n < length slots → gathered slots (n + 1) ≡ gathered slots n ++ take 79 (bits_of (slot_at slots n)))
unfolding gathered
gathered-says slots n = (refl, gathered_more slots n)

-- the message: the Begin's data bits, as many as the type has room for, then the slots', and of all that its octets
pub assembled-says : (i : MobileIdentity) (t : Transaction) → let n = t.message_octets in
    assembled i t ≡ octets n (take (8 * n) (take (room i) (bits_of t.begin_data) ++ gathered t.slots (needed i t)))
unfolding assembled
assembled-says i t = refl

-- ---- pushes in turn

-- a frame that is accepted and does not deliver leaves what it came to
pub finish-says : (f : ArqFrame) (i : MobileIdentity) (t : Transaction) (b : List ℕ) → due i t ≡ false
    → finish f i t b ≡ record { outcome = gives (Accepted None (request_of f.header t)); receiver = record { identity = i; transaction = Some t }; buffer = b }
unfolding finish
finish-says f i t b e = rw e

-- a list of pushes: each goes on from what the one before it returned, or, if that was refused, was given
pub runs_say : (new : MobileIdentity → Outcome ArqReassembler) (push : ArqReassembler → List ℕ → List ℕ → Out) (status : ArqReassembler → Option ArqStatus) (given returned s : ArqReassembler) (r : Reception) (n : ℕ) (p : Push) (l : List Push)
    → (handed given returned (gives r) ≡ returned) × (handed given returned (refuses n) ≡ given)
    × (runs new push status s [] ≡ s) × (runs new push status s (p ∷ l) ≡ runs new push status (let o = push s p.octets p.buffer in handed s o.receiver o.outcome) l)
runs_say new push status given returned s r n p l = (refl, refl, refl, refl)

-- what frames leave, field by field: a Begin, a Continue, a delivery
pub replaced-says : (f : ArqFrame) → replaced_by f ≡ record {
  channel = f.header.channel;
  flags = f.header.flags;
  partial_echo = f.header.partial_echo;
  message_octets = f.message_octets;
  begin_data = f.begin_data;
  slots = replicate 26 (replicate 10 0);
  received_frames = 0;
  delivered = false;
}
replaced-says f = refl

pub stored-says : (t : Transaction) (f : ArqFrame) → stored t f ≡ record {
  channel = t.channel;
  flags = t.flags;
  partial_echo = t.partial_echo;
  message_octets = t.message_octets;
  begin_data = t.begin_data;
  slots = slice_set t.slots f.frame_number f.continue_data;
  received_frames = with_bit t.received_frames f.frame_number;
  delivered = t.delivered;
}
stored-says t f = refl

pub marked-says : (t : Transaction) → marked t ≡ record {
  channel = t.channel;
  flags = t.flags;
  partial_echo = t.partial_echo;
  message_octets = t.message_octets;
  begin_data = t.begin_data;
  slots = t.slots;
  received_frames = t.received_frames;
  delivered = true;
}
marked-says t = refl
