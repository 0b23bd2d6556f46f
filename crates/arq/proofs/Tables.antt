-- 01, module 3 and "Refused": the words of the laws (proofs/Theorems.antt) that hold encode, decode and the cut to 01 over all inputs: the
-- refusals as tables of tests and numbers, the bits of a frame as one table, what is read of a frame, and what a frame given out
-- is. Each is said by the fields themselves, apart from the definitions that it holds; the words of refusals, bits and identities that it
-- uses are held by laws of their own (`Readings` of spach, `Exactly` of field, `Laws` of rach). Assumes nothing.
use Rattle.std.proofs.Common.{◌≡◌, ℕ, ◌+◌, ◌-◌, ◌*◌, ◌%◌, ◌<◌, min, Bool, false, cond, not, ◌||◌, eqb, ltb, List, [], ◌∷◌, length, take, drop, replicate}
use Rattle.field.specs.Bits.{bit, bits_of, field}
use Rattle.field.specs.Layout.{up_to, any_set}
use Rattle.rach.specs.Identity.{type_of, value_of, width_of, encodable}
use Rattle.rach.specs.declared.MobileIdentity.{MobileIdentity}
use Rattle.rach.specs.declared.MobileIdentity.TheVariants.{Tmsi20}
use Rattle.spach.specs.Refusal.{Outcome, gives, refuses, refuse}
use Rattle.spach.specs.Header.{usage_of}
use Rattle.arq.specs.declared.FrameKind.TheVariants.{Begin, Continue}
use Rattle.arq.specs.declared.ArqHeader.{ArqHeader}
use Rattle.arq.specs.declared.ArqFrame.{ArqFrame}
use Rattle.arq.specs.Frame.{mode_of}

-- ---- refusals as tables

-- whether a call refuses, and by which number
abbrev pub said : {A : Type 0} → Outcome A → Outcome Unit
said (gives a) = gives tt
said (refuses n) = refuses n

-- a table of tests and numbers: refused by the number of the first test that holds, else what follows
abbrev pub table : {A : Type 0} → List (Bool × ℕ) → Outcome A → Outcome A
table [] o = o
table (r ∷ rs) o = refuse r.0 r.1 (table rs o)

-- *Encode* of a Begin: Pch 3; echo over 127 11; identity 2; bit count over its room 13; set bit past 8 times the octet count 7
abbrev pub begin_table : ArqFrame → List (Bool × ℕ)
begin_table f =
    (eqb (usage_of f.header.channel) 7, 3)
    ∷ (ltb 127 f.header.partial_echo, 11)
    ∷ (not (encodable f.identity), 2)
    ∷ (ltb (75 - width_of (type_of f.identity)) f.begin_bits, 13)
    ∷ (any_set (drop (8 * f.message_octets) (take f.begin_bits (bits_of f.begin_data))), 7)
    ∷ []

-- of a Continue: Pch 3; echo over 127 11; number over 25 12
abbrev pub continue_table : ArqFrame → List (Bool × ℕ)
continue_table f =
    (eqb (usage_of f.header.channel) 7, 3)
    ∷ (ltb 127 f.header.partial_echo, 11)
    ∷ (ltb 25 f.frame_number, 12)
    ∷ []

-- *Cut*: over 255 octets 1; Pch 3; echo over 127 11; identity 2
abbrev pub cut_table : ArqHeader → MobileIdentity → List ℕ → List (Bool × ℕ)
cut_table h i m =
    (ltb 255 (length m), 1)
    ∷ (eqb (usage_of h.channel) 7, 3)
    ∷ (ltb 127 h.partial_echo, 11)
    ∷ (not (encodable i), 2)
    ∷ []

-- *Decode* up to the kind: not 14 octets 1; padding 15; usage not 3, 4, 7 3; fourth flag 6; Pch 3; kind 4
abbrev pub open_table : List ℕ → List (Bool × ℕ)
open_table xs =
    let bs = bits_of xs in
    (not (eqb (length xs) 14), 1)
    ∷ (not (eqb (field 109 3 bs) 0), 15)
    ∷ (not (eqb (field 0 3 bs) 3 || eqb (field 0 3 bs) 4 || eqb (field 0 3 bs) 7), 3)
    ∷ (not (eqb (field 6 1 bs) 0), 6)
    ∷ (eqb (field 0 3 bs) 7, 3)
    ∷ (not (eqb (field 7 3 bs) 5 || eqb (field 7 3 bs) 6), 4)
    ∷ []

-- a Begin, whose identity has w bits: the bit after the type 4; encrypted 5; identity zero 2; reserved 6; filler 7
abbrev pub read_begin_table : ℕ → List Bool → List (Bool × ℕ)
read_begin_table w bs =
    (not (eqb (field 12 1 bs) 0), 4)
    ∷ (not (eqb (field 14 1 bs) 0), 5)
    ∷ (eqb (field 15 w bs) 0, 2)
    ∷ (not (eqb (field (15 + w + 7) 2 bs) 0), 6)
    ∷ (any_set (drop (8 * field (15 + w + 11) 8 bs) (take (75 - w) (drop (15 + w + 19) bs))), 7)
    ∷ []

-- a Continue: reserved 6; number over 25 12
abbrev pub read_continue_table : List Bool → List (Bool × ℕ)
read_continue_table bs =
    (not (eqb (field 21 2 bs) 0), 6)
    ∷ (ltb 25 (field 25 5 bs), 12)
    ∷ []

-- all of *Decode*
abbrev pub decode_table : List ℕ → Outcome Unit
decode_table xs =
    let bs = bits_of xs in
    table (open_table xs)
    (cond (eqb (field 7 3 bs) 5) (table (read_begin_table (width_of (field 10 2 bs)) bs) (gives tt))
    (table (read_continue_table bs) (gives tt)))

-- ---- the bits of a frame

-- a Begin up to its data, as one table of widths and numbers
abbrev pub begin_bits_lem : ArqFrame → List (ℕ × ℕ)
begin_bits_lem f =
    (3, usage_of f.header.channel)
    ∷ (1, bit f.header.flags.pch_continuation)
    ∷ (1, bit f.header.flags.bcch_change)
    ∷ (1, bit f.header.flags.paging_frame_modifier)
    ∷ (1, 0)
    ∷ (3, 5)
    ∷ (2, type_of f.identity)
    ∷ (1, 0)
    ∷ (1, bit f.header.flags.reservation_response)
    ∷ (1, 0)
    ∷ (width_of (type_of f.identity), value_of f.identity)
    ∷ (7, f.header.partial_echo)
    ∷ (2, 0)
    ∷ (1, bit f.header.polling)
    ∷ (1, mode_of f.header.response_mode)
    ∷ (8, f.message_octets)
    ∷ []

-- a Continue up to its data
abbrev pub continue_bits : ArqFrame → List (ℕ × ℕ)
continue_bits f =
    (3, usage_of f.header.channel)
    ∷ (1, bit f.header.flags.pch_continuation)
    ∷ (1, bit f.header.flags.bcch_change)
    ∷ (1, bit f.header.flags.paging_frame_modifier)
    ∷ (1, 0)
    ∷ (3, 6)
    ∷ (2, f.identity_type)
    ∷ (1, 0)
    ∷ (1, bit f.header.flags.reservation_response)
    ∷ (7, f.header.partial_echo)
    ∷ (2, 0)
    ∷ (1, bit f.header.polling)
    ∷ (1, mode_of f.header.response_mode)
    ∷ (5, f.frame_number)
    ∷ []

-- ---- what is read

-- two Begins agree on what only a Begin has: identity, octet count, bit count, and as many data bits
pub record BeginAlike (f g : ArqFrame) : Type 0 where
  pub identity : f.identity ≡ g.identity
  pub count : f.message_octets ≡ g.message_octets
  pub bits : f.begin_bits ≡ g.begin_bits
  pub read : take f.begin_bits (bits_of f.begin_data) ≡ take g.begin_bits (bits_of g.begin_data)

-- two Continues: the low two bits of the type, number, 79 data bits
pub record ContinueAlike (f g : ArqFrame) : Type 0 where
  pub type : f.identity_type % 4 ≡ g.identity_type % 4
  pub number : f.frame_number ≡ g.frame_number
  pub read : take 79 (bits_of f.continue_data) ≡ take 79 (bits_of g.continue_data)

-- two frames agree on what is read of their kind
pub record ReadAlike (f g : ArqFrame) : Type 0 where
  pub kind : f.kind ≡ g.kind
  pub header : f.header ≡ g.header
  pub as_begin : f.kind ≡ Begin → BeginAlike f g
  pub as_continue : f.kind ≡ Continue → ContinueAlike f g

-- the octets of two frames agree but for the bit after the identity type, bit 12
pub record SkippedAlike (xs ys : List ℕ) : Type 0 where
  pub size : length xs ≡ length ys
  pub before : take 12 (bits_of xs) ≡ take 12 (bits_of ys)
  pub behind : drop 13 (bits_of xs) ≡ drop 13 (bits_of ys)

-- ---- what is given out

-- a Begin given out: its unread bits are zero, and so is all that only a Continue has
pub record BeginOut (f : ArqFrame) : Type 0 where
  pub octets : length f.begin_data ≡ 7
  pub unread : any_set (drop f.begin_bits (bits_of f.begin_data)) ≡ false
  pub type : f.identity_type ≡ 0
  pub number : f.frame_number ≡ 0
  pub other : f.continue_data ≡ replicate 10 0

-- a Continue given out: its type is one of the four, its last bit is zero, and so is all that only a Begin has (an identity: Tmsi20 of 0)
pub record ContinueOut (f : ArqFrame) : Type 0 where
  pub type : f.identity_type < 4
  pub octets : length f.continue_data ≡ 10
  pub unread : any_set (drop 79 (bits_of f.continue_data)) ≡ false
  pub identity : f.identity ≡ Tmsi20 0
  pub count : f.message_octets ≡ 0
  pub bits : f.begin_bits ≡ 0
  pub other : f.begin_data ≡ replicate 7 0

-- "In every frame given out, unread bits are zero and so are fields that only the other kind has"
pub record GivenOut (f : ArqFrame) : Type 0 where
  pub as_begin : f.kind ≡ Begin → BeginOut f
  pub as_continue : f.kind ≡ Continue → ContinueOut f

-- frame 0 of a message's cut: a Begin with the header, the identity, the count of octets, and the message's first bits, as many as there is room for
pub record CutBegin (h : ArqHeader) (i : MobileIdentity) (m : List ℕ) (f : ArqFrame) : Type 0 where
  pub kind : f.kind ≡ Begin
  pub header : f.header ≡ h
  pub identity : f.identity ≡ i
  pub count : f.message_octets ≡ length m
  pub bits : f.begin_bits ≡ min (8 * length m) (75 - width_of (type_of i))
  pub read : take f.begin_bits (bits_of f.begin_data) ≡ take (75 - width_of (type_of i)) (bits_of m)

-- its frame k + 1: Continue k with the header, the identity's type, the number k, and the next 79 bits, zero filled
pub record CutContinue (h : ArqHeader) (i : MobileIdentity) (m : List ℕ) (k : ℕ) (f : ArqFrame) : Type 0 where
  pub kind : f.kind ≡ Continue
  pub header : f.header ≡ h
  pub type : f.identity_type ≡ type_of i
  pub number : f.frame_number ≡ k
  pub read : take 79 (bits_of f.continue_data) ≡ up_to 79 (drop (75 - width_of (type_of i) + 79 * k) (bits_of m))
