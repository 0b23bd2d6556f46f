-- Decode in the parts that functions of src/read.rt answer: only their contracts need this. Together they come to Decode's
-- `decode_of` (proofs/Parts.antt). Offsets are bits: header A has 0 to 6; header B the kind at 7, the identity type at 10, the bit
-- after it at 12, the reservation response at 13; the address has 14 on. Assumes nothing.
use Rattle.std.specs.Prelude.{Bool, cond, not, List, ℕ, ◌+◌, ◌*◌, eqb, ltb, length, take, drop}
use Rattle.field.specs.Bits.{bits_of, field}
use Rattle.field.specs.Layout.{any_set}
use Rattle.spach.specs.declared.HeaderA.{HeaderA}
use Rattle.spach.specs.declared.Address.{Address}
use Rattle.spach.specs.Refusal.{Outcome, gives, refuses, refuse, and_then}
use Rattle.spach.specs.Header.{usage_of, is_set, header_a_at, address_at}
use Rattle.arq.specs.declared.FrameKind.TheVariants.{Begin, Continue}
use Rattle.arq.specs.declared.ArqHeader.{ArqHeader}
use Rattle.arq.specs.declared.ArqFrame.{ArqFrame}
use Rattle.arq.specs.Frame.{kind_of, room, a_begin, a_continue}
use Rattle.arq.specs.Decode.{mode_at}

-- the rest at offset o, which both kinds have: echo 7 bits, reserved 2, polling, response mode
abbrev pub header_at : HeaderA → Bool → ℕ → List Bool → ArqHeader
header_at a response o bs = record {
  channel = a.channel;
  flags = record {
    pch_continuation = a.flags.pch_continuation;
    bcch_change = a.flags.bcch_change;
    paging_frame_modifier = a.flags.paging_frame_modifier;
    reservation_response = response;
  };
  partial_echo = field o 7 bs;
  polling = is_set (o + 9) bs;
  response_mode = mode_at (is_set (o + 10) bs);
}

-- reserved 6; else what follows
abbrev pub reserved_checked : {A : Type 0} → ℕ → List Bool → Outcome A → Outcome A
reserved_checked o bs next = refuse (not (eqb (field (o + 7) 2 bs) 0)) 6 next

-- a Begin after its address: the rest and the octet count, then as many data bits as it has room for
abbrev pub decode_begin : HeaderA → List Bool → Address → Outcome ArqFrame
decode_begin h bs a =
    let o = a.reader.offset in
    let n = field (o + 11) 8 bs in
    let data_bits = take (room a.identity) (drop (o + 19) bs) in
    reserved_checked o bs
    (refuse (any_set (drop (8 * n) data_bits)) 7
    (gives (a_begin (header_at h a.reservation_response o bs) a.identity n (room a.identity) data_bits)))

-- a Continue from its identity type on: the bit after it is skipped
abbrev pub decode_continue : HeaderA → List Bool → Outcome ArqFrame
decode_continue h bs =
    let k = field 25 5 bs in
    reserved_checked 14 bs
    (refuse (ltb 25 k) 12
    (gives (a_continue (header_at h (is_set 13 bs) 14 bs) (field 10 2 bs) k (take 79 (drop 30 bs)))))

-- by kind; another is refused 4
abbrev pub decode_kind : HeaderA → List Bool → Outcome ArqFrame
decode_kind h bs =
    cond (eqb (field 7 3 bs) (kind_of Begin)) (and_then (address_at 10 bs) (decode_begin h bs))
    (cond (eqb (field 7 3 bs) (kind_of Continue)) (decode_continue h bs)
    (refuses 4))

-- Pch 3, after the fourth flag
abbrev pub decode_usage : HeaderA → List Bool → Outcome ArqFrame
decode_usage h bs = refuse (eqb (usage_of h.channel) 7) 3 (decode_kind h bs)

-- not 14 octets 1; padding 15; header A; then as above
abbrev pub decode_by_parts : List ℕ → Outcome ArqFrame
decode_by_parts xs =
    let bs = bits_of xs in
    refuse (not (eqb (length xs) 14)) 1
    (refuse (not (eqb (field 109 3 bs) 0)) 15
    (and_then (header_a_at 0 bs) (λ h.
    decode_usage h bs)))
