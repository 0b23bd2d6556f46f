-- 01, modules 2 and 3: header A, header B and the address, laid out and read. The Rust's remark is for all three together:
-- IS-136.1-A Figures 5-23/24/31/32 and Table 5-7. Assumes nothing.
use Rattle.std.specs.Prelude.{Bool, false, cond, not, List, [], ◌∷◌, ℕ, ◌+◌, eqb}
use Rattle.field.specs.Bits.{bit, field}
use Rattle.rach.specs.Identity.{type_of, value_of, width_of, identity_of}
use Rattle.rach.specs.declared.MobileIdentity.{MobileIdentity}
use Rattle.spach.specs.declared.Channel.{Channel}
use Rattle.spach.specs.declared.Channel.TheVariants.{Arch, Smsch, Pch}
use Rattle.spach.specs.declared.HeaderFlags.{HeaderFlags}
use Rattle.spach.specs.declared.HeaderA.{HeaderA}
use Rattle.spach.specs.declared.Address.{Address}
use Rattle.spach.specs.Refusal.{Outcome, gives, refuses, refuse, and_then}

-- ---- laid out: each field a width in bits and a number, in the order in which they are sent

-- usage: Arch 3, Smsch 4, Pch 7
abbrev pub usage_of : Channel → ℕ
usage_of Arch = 3
usage_of Smsch = 4
usage_of Pch = 7

-- header A: usage 3 bits, three flags, one zero
abbrev pub header_a : Channel → HeaderFlags → List (ℕ × ℕ)
header_a c f =
    (3, usage_of c)
    ∷ (1, bit f.pch_continuation)
    ∷ (1, bit f.bcch_change)
    ∷ (1, bit f.paging_frame_modifier)
    ∷ (1, 0)
    ∷ []

-- header B: kind 3 bits, identity type 2, one bit, reservation response
abbrev pub header_b : ℕ → ℕ → HeaderFlags → List (ℕ × ℕ)
header_b kind type f =
    (3, kind)
    ∷ (2, type)
    ∷ (1, 0)
    ∷ (1, bit f.reservation_response)
    ∷ []

-- a Begin's address: encrypted bit, identity, which has its type's width
abbrev pub address_of : ℕ → ℕ → List (ℕ × ℕ)
address_of type v =
    (1, 0)
    ∷ (width_of type, v)
    ∷ []

-- of an identity
abbrev pub address : MobileIdentity → List (ℕ × ℕ)
address i = address_of (type_of i) (value_of i)

-- ---- read

-- some bit of a field is set
abbrev pub nonzero : ℕ → Bool
nonzero n = not (eqb n 0)

-- the bit at offset o is set
abbrev pub is_set : ℕ → List Bool → Bool
is_set o bs = nonzero (field o 1 bs)

-- the channel of a usage, or 3
abbrev pub channel_of : ℕ → Outcome Channel
channel_of u = cond (eqb u 3) (gives Arch) (cond (eqb u 4) (gives Smsch) (cond (eqb u 7) (gives Pch) (refuses 3)))

-- header A at offset o: usage not 3, 4, 7 3; fourth flag 6
unfoldable pub header_a_at : ℕ → List Bool → Outcome HeaderA
header_a_at o bs =
    and_then (channel_of (field o 3 bs)) (λ c.
    refuse (is_set (o + 6) bs) 6
    (gives
    (record {
      channel = c;
      flags = record {
        pch_continuation = is_set (o + 3) bs;
        bcch_change = is_set (o + 4) bs;
        paging_frame_modifier = is_set (o + 5) bs;
        reservation_response = false;
      };
      reader = record { offset = o + 7 };
    })))

-- the identity of type t at offset o: zero 2
abbrev pub identity_at : ℕ → ℕ → Bool → List Bool → Outcome Address
identity_at t o response bs =
    refuse (eqb (field o (width_of t) bs) 0) 2
    (gives
    (record {
      identity = identity_of t (field o (width_of t) bs);
      reservation_response = response;
      reader = record { offset = o + width_of t };
    }))

-- the Rust's `read_address` at offset o, which starts in header B: identity type 2 bits, one bit (set: 4),
-- reservation response, encrypted bit (set: 5), identity (zero: 2)
unfoldable pub address_at : ℕ → List Bool → Outcome Address
address_at o bs =
    refuse (is_set (o + 2) bs) 4
    (refuse (is_set (o + 4) bs) 5
    (identity_at (field o 2 bs) (o + 5) (is_set (o + 3) bs) bs))
