-- Laws on the identity at the front of an input. Assumes nothing.
use Rattle.std.proofs.Common.{◌≡◌, ℕ, ◌≤◌, Bool, true, false, List, length, take, drop, get_or, ltb, ap, ◌∙◌, arith, inl, inr, length-drop, length-take-le, get_or-take, ◌+◌, w64}
use Rattle.std.proofs.lemmas.Bool.{cases_lt}
use Rattle.std.proofs.lemmas.Grind.{get_or_after_one}
use Rattle.std.proofs.lemmas.List.{get_or_past}
use Rattle.std.specs.Int.{from_be_bytes}
use Rattle.field.specs.Bits.{Octets, value, bits_of, field}
use Rattle.field.proofs.Window.{be-value, window-bits}
use Rattle.rach.specs.declared.MobileIdentity.{MobileIdentity}
use Rattle.spach.specs.Refusal.{Outcome, gives, refuses, refuse, and_then}
use Rattle.spach.specs.Identity.{accept_identity}
use Rattle.receiver.specs.declared.ArqReassembler.{ArqReassembler}
use Rattle.receiver.specs.Receiver.{new_of}
use Rattle.receiver.specs.Valid.{Valid}
use Rattle.receiver.proofs.Valid.{valid_new}
use Rattle.listing.specs.Session.{open_of}
use Rattle.listing.proofs.Exactly.{open_short}

-- octets 1 to 8 as one number
pub eight : (xs : List ℕ) → 9 ≤ length xs → Octets xs → from_be_bytes w64 (take 8 (drop 1 xs)) ≡ field 8 64 (bits_of xs)
unfolding field
eight xs h o = be-value (take 8 (drop 1 xs)) all part ∙ ap value (window-bits xs 1 8)
  where
    all : length (take 8 (drop 1 xs)) ≡ 8
    all = length-take-le 8 (drop 1 xs) (omega (arith, length-drop 1 xs))

    part : Octets (take 8 (drop 1 xs))
    part i =
        elim (cases_lt i 8) [
          | inl lt ↦ omega (arith, get_or-take 8 (drop 1 xs) i 0 lt, get_or_after_one xs i 0, o (1 + i))
          | inr past ↦ omega (arith, get_or_past (take 8 (drop 1 xs)) i 0 (omega (arith, all, past)))
        ]

-- ---- an accepted identity makes a valid state

pub opened_valid : (xs : List ℕ) (s : ArqReassembler) → open_of xs ≡ gives s → Valid s
unfolding open_of
opened_valid xs s e = by (ltb (length xs) 9) (accept_identity (get_or xs 0 0) (field 8 64 (bits_of xs))) e
  where
    by : (t : Bool) (o : Outcome MobileIdentity) → refuse t 2 (and_then o new_of) ≡ gives s → Valid s
    by true o q = absurd cc
    by false (refuses n) q = absurd cc
    by false (gives i) q = valid_new i s q

pub opened_nine : (xs : List ℕ) (s : ArqReassembler) → open_of xs ≡ gives s → 9 ≤ length xs
opened_nine xs s e =
    elim (cases_lt (length xs) 9) [
      | inl short ↦ let refused = open_short xs short in absurd cc
      | inr full ↦ full
    ]
