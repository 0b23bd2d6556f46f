-- 01, module 3: frames there and back, and what the frames of a cut carry. Assumes nothing.
use Rattle.std.specs.Prelude.{Bool, List, ◌++◌, ℕ, suc, ◌%◌}
use Rattle.field.specs.Layout.{up_to, joined}
use Rattle.rach.specs.declared.MobileIdentity.{MobileIdentity}
use Rattle.spach.specs.Refusal.{Outcome, and_then}
use Rattle.arq.specs.declared.ArqHeader.{ArqHeader}
use Rattle.arq.specs.declared.ArqFrame.{ArqFrame}
use Rattle.arq.specs.Frame.{room, begin_data_lem, continue_data_lem, a_begin, a_continue}
use Rattle.arq.specs.Encode.{by_kind, encode_of}
use Rattle.arq.specs.Decode.{decode_of}
use Rattle.arq.specs.Cut.{cut_frame}

-- a frame encoded, and its octets decoded
abbrev pub there_and_back : ArqFrame → Outcome ArqFrame
there_and_back f = and_then (encode_of f) (λ p. decode_of p.octets)

-- a frame as it comes back: Begin data widened by zeros to the room, the low two bits of a Continue's type, and
-- nothing of what is not read
abbrev pub normal : ArqFrame → ArqFrame
normal f =
    by_kind f.kind (a_begin f.header f.identity f.message_octets (room f.identity) (begin_data_lem f))
    (a_continue f.header (f.identity_type % 4) f.frame_number (continue_data_lem f))

-- a frame whose Begin data is widened by zeros: the bit count becomes the room, and all else stays
abbrev pub widened : ArqFrame → ArqFrame
widened f = record {
  kind = f.kind;
  header = f.header;
  identity = f.identity;
  message_octets = f.message_octets;
  begin_data = f.begin_data;
  begin_bits = by_kind f.kind (room f.identity) f.begin_bits;
  identity_type = f.identity_type;
  frame_number = f.frame_number;
  continue_data = f.continue_data;
}

-- the bits that a cut's Begin, widened, and its first c Continues carry, in the order of the frames
abbrev pub carried : ArqHeader → MobileIdentity → List ℕ → ℕ → List Bool
carried h i m c = up_to (room i) (begin_data_lem (cut_frame h i m 0)) ++ joined c (λ k. continue_data_lem (cut_frame h i m (suc k)))
