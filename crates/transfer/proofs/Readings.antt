-- What each reading of an answer of the sender says: every value is told as it is. Assumes nothing.
use Rattle.std.proofs.Common.{◌≡◌, ℕ, suc, ◌-◌, ◌/◌, ◌%◌, ◌^◌, false, cond, not, eqb, [], ◌∷◌, bit_and, bit_xor, Some, None, refl}
use Rattle.spach.specs.Refusal.{gives, refuses, After}
use Rattle.transfer.specs.declared.Event.{Event}
use Rattle.transfer.specs.Queue.{has, first_frames, continues_of, frame_alone, without, frames_from, frames_of}
use Rattle.transfer.specs.State.{View, Lent, Out, says, refusal, goes_on, blank_transfer}
use Rattle.transfer.specs.Numbers.{ending_of, next_of, refusal_of, failed}
use Rattle.transfer.specs.declared.Event.TheVariants as events
use Rattle.rach.specs.declared.MobileIdentity.TheVariants.{Tmsi20}
use Rattle.spach.specs.declared.Channel.TheVariants.{Arch}
use Rattle.transfer.specs.declared.Error.{Error}
use Rattle.transfer.specs.declared.Transfer.{Transfer}
use Rattle.transfer.specs.Refresh.{blocks_since, age_of}

-- `pop_event`; what an event says is in Leaves, `endings`
pub next_says : (next_of None ≡ None) × ((e : Event) → next_of (Some e) ≡ Some (ending_of e))
next_says = (refl, λ e. refl)

-- ---- words of the calls' definitions

-- a refusal leaves this sender and writes nothing; else the call goes on
pub goes_on_says : {A B : Type 0} (v : View) (m : Lent) (a : A) (n : ℕ) (f : A → Out B) → (goes_on v m (gives a) f ≡ f a) × (goes_on v m (refuses n) f ≡ record { outcome = refuses n; sender = v; lent = m })
goes_on_says v m a n f = (refl, refl)

pub refusal-says : {A : Type 0} (n : ℕ) (v : View) (m : Lent) → ◌≡◌ {A = Out A} (refusal n v m) (record { outcome = refuses n; sender = v; lent = m })
refusal-says n v m = refl

-- what a call says, and leaves
pub says-says : {A : Type 0} (a : A) (v : View) → ◌≡◌ {A = After A View} (says a v) (record { outcome = gives a; state = v })
says-says a v = refl

-- frame k is in a set whose bit of weight 2^k is set
pub has_exactly : (q k : ℕ) → has q k ≡ eqb (q / 2 ^ k % 2) 1
has_exactly q k = refl

-- the first n frames, the Continues among them, a frame alone, those of one set that are not in another
pub sets_say : (n k a b : ℕ) → (first_frames n ≡ 2 ^ n - 1) × (continues_of n ≡ 2 ^ n - 2) × (frame_alone k ≡ 2 ^ k) × (without a b ≡ bit_xor a (bit_and a b))
sets_say n k a b = (refl, refl, refl, refl)

-- a Failed event tells its error's number, whatever the error
pub failure_says : (completion : ℕ) (e : Error) → ending_of (events.Failed completion e) ≡ failed completion (refusal_of e)
failure_says completion e = refl

-- where no transfer is found: every number 0, nothing set
pub blank_transfer_says : blank_transfer ≡ record {
  parcel = record { identity = Tmsi20 0; completion = 0; deadline_ms = 0; owner = record { 0 = 0 }; channel = Arch; octets = 0; frames = 0; n = 0 };
  generation = record { 0 = 0 };
  sets = record { queue = 0; in_flight = 0; transmitted = 0; observed = 0; received_status = false };
  echo = 0;
  blocks = record { last_progress = None; last_frame = None; waiting_since = None };
}
blank_transfer_says = refl

-- a set as the Rust's list has it: the frame of the lowest bit, if that is set, then those of the other bits
pub frames_from_say : (n k q : ℕ) → (frames_from 0 k q ≡ []) × (frames_from (suc n) k q ≡ cond (eqb (q % 2) 1) (k ∷ frames_from n (suc k) (q / 2)) (frames_from n (suc k) (q / 2)))
frames_from_say n k q = (refl, refl)

-- of 27 bits, from frame 0 on
pub frames_of_says : (q : ℕ) → frames_of q ≡ frames_from 27 0 q
unfolding frames_of
frames_of_says q = refl

-- an age: blocks since the last frame; 0 of a transfer that is not ready
pub age_says : (block b : ℕ) (x : Transfer) → (blocks_since block None ≡ 0) × (blocks_since block (Some b) ≡ block - b) × (age_of block x ≡ cond (not (eqb x.sets.queue 0)) (blocks_since block x.blocks.last_frame) 0)
age_says block b x = (refl, refl, refl)
