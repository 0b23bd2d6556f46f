-- 01, "Refused, operation by operation": refusals by number, and answers that are a value or a refusal. Assumes nothing.
use Rattle.std.specs.Prelude.{Bool, true, false, ℕ, Result, Ok, Err}
use Rattle.spach.specs.declared.SpachError.{SpachError}
use Rattle.spach.specs.declared.SpachError.TheVariants.{Length, Identity, UnsupportedUsage, UnsupportedFrame, Encrypted, Reserved, Filler, PartialEcho, FrameNumber, Payload, DuplicateConflict, Padding, Room, Tokens}

-- SpachError's numbers; Padding, Room and Tokens are added to the Rust's
abbrev pub number_of : SpachError → ℕ
number_of Length = 1
number_of Identity = 2
number_of UnsupportedUsage = 3
number_of UnsupportedFrame = 4
number_of Encrypted = 5
number_of Reserved = 6
number_of Filler = 7
number_of PartialEcho = 11
number_of FrameNumber = 12
number_of Payload = 13
number_of DuplicateConflict = 14
number_of Padding = 15
number_of Room = 16
number_of Tokens = 18

-- what a call comes to: a value, or a refusal by its number
pub data Outcome (A : Type 0) : Type 0 where
  gives : A → Outcome A
  refuses : ℕ → Outcome A

-- refused by the number n if the test holds, else what follows
abbrev pub refuse : {A : Type 0} → Bool → ℕ → Outcome A → Outcome A
refuse true n o = refuses n
refuse false n o = o

-- a refusal stays; a value goes on
abbrev pub and_then : {A B : Type 0} → Outcome A → (A → Outcome B) → Outcome B
and_then (gives a) f = f a
and_then (refuses n) f = refuses n

-- an answer, its refusal by number
abbrev pub by_number : {A E : Type 0} → (E → ℕ) → Result A E → Outcome A
by_number number (Ok a) = gives a
by_number number (Err e) = refuses (number e)

-- what a call leaves: its outcome, and the state afterwards
pub record After (A S : Type 0) : Type 0 where
  pub outcome : Outcome A
  pub state : S

-- that of a call which hands back the state and its answer, the refusal by number
abbrev pub left : {S A E : Type 0} → (E → ℕ) → S × Result A E → After A S
left number r = record { outcome = by_number number r.1; state = r.0 }

-- a refusal leaves the state s as it was; else the call goes on with the state that was let through
abbrev pub onward : {A S : Type 0} → S → Outcome S → (S → After A S) → After A S
onward s (gives t) f = f t
onward s (refuses n) f = record { outcome = refuses n; state = s }
