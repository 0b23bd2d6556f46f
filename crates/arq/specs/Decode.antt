-- 01, *Decode*: not 14 octets 1; padding 15; usage not 3, 4, 7 3; fourth flag 6; Pch 3; kind 4; Begin's bit after the
-- type 4; encrypted 5; identity zero 2; reserved 6; Begin filler 7; Continue number over 25 12. The fields are those of the tables
-- in spach's Header and in Frame: `reading` takes them one after the other, each in its table's width, and names them. The octets
-- are one information block whose CRC was found good. Assumes nothing.
use Rattle.std.specs.Prelude.{Bool, cond, not, ◌||◌, List, ℕ, ◌*◌, eqb, ltb, length, take, drop}
use Rattle.field.specs.Bits.{bits_of, field}
use Rattle.field.specs.Layout.{reading, any_set}
use Rattle.rach.specs.Identity.{identity_of}
use Rattle.spach.specs.declared.Channel.TheVariants.{Arch, Smsch, Pch}
use Rattle.spach.specs.Refusal.{Outcome, gives, refuse}
use Rattle.spach.specs.Header.{usage_of, header_a, header_b, address_of, nonzero}
use Rattle.arq.specs.declared.ResponseMode.{ResponseMode}
use Rattle.arq.specs.declared.ResponseMode.TheVariants.{Contention, Reservation}
use Rattle.arq.specs.declared.FrameKind.TheVariants.{Begin, Continue}
use Rattle.arq.specs.declared.ArqHeader.{ArqHeader}
use Rattle.arq.specs.declared.ArqFrame.{ArqFrame}
use Rattle.arq.specs.Frame.{kind_of, begin_rest, continue_rest, information_bits, continue_data_bits, room, blank_header, a_begin, a_continue}

-- response mode: 0 Contention, 1 Reservation
abbrev pub mode_at : Bool → ResponseMode
mode_at set = cond set Reservation Contention

-- the header of a frame by the numbers in its fields; of a usage that is not refused, Arch or Smsch
abbrev pub header_from : ℕ → ℕ → ℕ → ℕ → ℕ → ℕ → ℕ → ℕ → ArqHeader
header_from usage pch bcch modifier response echo polling mode = record {
  channel = cond (eqb usage (usage_of Arch)) Arch Smsch;
  flags = record {
    pch_continuation = nonzero pch;
    bcch_change = nonzero bcch;
    paging_frame_modifier = nonzero modifier;
    reservation_response = nonzero response;
  };
  partial_echo = echo;
  polling = nonzero polling;
  response_mode = mode_at (nonzero mode);
}

-- the refusals in 01's order, from the kind on of each kind (both have reserved), and the frame
unfoldable pub decode_of : List ℕ → Outcome ArqFrame
decode_of xs =
    let bs = bits_of xs in
    refuse (not (eqb (length xs) 14)) 1
    (refuse (nonzero (field information_bits 3 bs)) 15
    (reading (header_a Arch blank_header.flags) 0 bs (λ usage pch bcch modifier fourth o.
    refuse (not (eqb usage (usage_of Arch) || eqb usage (usage_of Smsch) || eqb usage (usage_of Pch))) 3
    (refuse (nonzero fourth) 6
    (refuse (eqb usage (usage_of Pch)) 3
    (reading (header_b 0 0 blank_header.flags) o bs (λ kind type after response o.
    refuse (not (eqb kind (kind_of Begin) || eqb kind (kind_of Continue))) 4
    (cond (eqb kind (kind_of Begin))
    -- a Begin
    (refuse (nonzero after) 4
    (reading (address_of type 0) o bs (λ encrypted value o.
    refuse (nonzero encrypted) 5
    (refuse (eqb value 0) 2
    (reading (begin_rest blank_header 0) o bs (λ echo reserved polling mode count o.
    let i = identity_of type value in
    let data_bits = take (room i) (drop o bs) in
    refuse (nonzero reserved) 6
    (refuse (any_set (drop (8 * count) data_bits)) 7
    (gives (a_begin (header_from usage pch bcch modifier response echo polling mode) i count (room i) data_bits)))))))))
    -- a Continue: the bit after its type is skipped
    (reading (continue_rest blank_header 0) o bs (λ echo reserved polling mode number o.
    refuse (nonzero reserved) 6
    (refuse (ltb 25 number) 12
    (gives (a_continue (header_from usage pch bcch modifier response echo polling mode) type number (take continue_data_bits (drop o bs)))))))))))))))
