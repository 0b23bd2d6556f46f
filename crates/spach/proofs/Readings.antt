-- What each reading of an answer says, case by case: the numbers are 01's, and every value is told as it is; and header A and address read at
-- any offset of any bits, by the fields. Assumes nothing.
use Rattle.std.proofs.Common.{◌≡◌, ℕ, ◌+◌, Bool, true, false, cond, not, eqb, List, Ok, Err, Result, refl}
use Rattle.field.specs.Bits.{field}
use Rattle.rach.specs.Identity.{width_of, identity_of}
use Rattle.spach.specs.declared.SpachError.TheVariants.{Length, Identity, UnsupportedUsage, UnsupportedFrame, Encrypted, Reserved, Filler, PartialEcho, FrameNumber, Payload, DuplicateConflict, Padding, Room, Tokens}
use Rattle.spach.specs.declared.Channel.{Channel}
use Rattle.spach.specs.declared.Channel.TheVariants.{Arch, Smsch, Pch}
use Rattle.spach.specs.declared.HeaderA.{HeaderA}
use Rattle.spach.specs.Refusal.{number_of, Outcome, gives, refuses, refuse, and_then, by_number, After, left, onward}
use Rattle.spach.specs.Header.{channel_of, header_a_at, address_at, usage_of}

-- the numbers of the errors
pub numbers : (number_of Length ≡ 1) × (number_of Identity ≡ 2) × (number_of UnsupportedUsage ≡ 3) × (number_of UnsupportedFrame ≡ 4) × (number_of Encrypted ≡ 5) × (number_of Reserved ≡ 6) × (number_of Filler ≡ 7)
    × (number_of PartialEcho ≡ 11) × (number_of FrameNumber ≡ 12) × (number_of Payload ≡ 13) × (number_of DuplicateConflict ≡ 14) × (number_of Padding ≡ 15) × (number_of Room ≡ 16) × (number_of Tokens ≡ 18)
numbers = (refl, refl, refl, refl, refl, refl, refl, refl, refl, refl, refl, refl, refl, refl)

-- an answer is its value, or the number of its error; and a call that hands back the state leaves that state and its answer
module _ {A E : Type 0} (number : E → ℕ) where
  pub by_number-says : (a : A) (x : E) → (by_number number (Ok a) ≡ gives a) × (by_number {A = A} number (Err x) ≡ refuses (number x))
  by_number-says a x = (refl, refl)

  pub left-says : {S : Type 0} (s : S) (r : Result A E) → left number (s, r) ≡ record { outcome = by_number number r; state = s }
  left-says s r = refl

module _ {A : Type 0} where
  -- a test that holds refuses by its number, whatever follows; else it is what follows
  pub refuse-says : (n : ℕ) (o : Outcome A) → (refuse true n o ≡ refuses n) × (refuse false n o ≡ o)
  refuse-says n o = (refl, refl)

  -- with a value on to the next; a refusal stays
  pub then_says : {B : Type 0} (a : A) (n : ℕ) (f : A → Outcome B) → (and_then (gives a) f ≡ f a) × (and_then (refuses n) f ≡ refuses n)
  then_says a n f = (refl, refl)

  -- a refusal leaves the state; else the call goes on with what was let through
  pub onward-says : {S : Type 0} (s t : S) (n : ℕ) (f : S → After A S) → (onward s (gives t) f ≡ f t) × (onward s (refuses n) f ≡ record { outcome = refuses n; state = s })
  onward-says s t n f = (refl, refl)

-- ---- read at any offset

module _ (o : ℕ) (bs : List Bool) where
  -- header A of a channel: the fourth flag 6, then the three flags
  abbrev flagged : Channel → Outcome HeaderA
  flagged c =
      refuse (not (eqb (field (o + 6) 1 bs) 0)) 6
      (gives
      (record {
        channel = c;
        flags = record { pch_continuation = not (eqb (field (o + 3) 1 bs) 0); bcch_change = not (eqb (field (o + 4) 1 bs) 0); paging_frame_modifier = not (eqb (field (o + 5) 1 bs) 0); reservation_response = false };
        reader = record { offset = o + 7 };
      }))

  -- usage 3, 4 or 7, and no other
  pub header_a_exactly : header_a_at o bs ≡ cond (eqb (field o 3 bs) 3) (flagged Arch) (cond (eqb (field o 3 bs) 4) (flagged Smsch) (cond (eqb (field o 3 bs) 7) (flagged Pch) (refuses 3)))
  unfolding header_a_at
  header_a_exactly = go (eqb (field o 3 bs) 3) (eqb (field o 3 bs) 4) (eqb (field o 3 bs) 7)
    where
      go : (a s p : Bool) → and_then (cond a (gives Arch) (cond s (gives Smsch) (cond p (gives Pch) (refuses 3)))) flagged ≡ cond a (flagged Arch) (cond s (flagged Smsch) (cond p (flagged Pch) (refuses 3)))
      go true s p = refl
      go false true p = refl
      go false false true = refl
      go false false false = refl

  -- the bit after the type 4, encrypted 5, the value 0 2
  pub address_exactly : let w = width_of (field o 2 bs) in address_at o bs
      ≡ refuse (not (eqb (field (o + 2) 1 bs) 0)) 4
      (refuse (not (eqb (field (o + 4) 1 bs) 0)) 5
      (refuse (eqb (field (o + 5) w bs) 0) 2
      (gives (record { identity = identity_of (field o 2 bs) (field (o + 5) w bs); reservation_response = not (eqb (field (o + 3) 1 bs) 0); reader = record { offset = o + 5 + w } }))))
  unfolding address_at
  address_exactly = refl

-- a usage alone, whatever the number
pub channel_of_exactly : (u : ℕ) → channel_of u ≡ cond (eqb u 3) (gives Arch) (cond (eqb u 4) (gives Smsch) (cond (eqb u 7) (gives Pch) (refuses 3)))
channel_of_exactly u = refl

-- the usages
pub usages_say : (usage_of Arch ≡ 3) × (usage_of Smsch ≡ 4) × (usage_of Pch ≡ 7)
usages_say = (refl, refl, refl)
