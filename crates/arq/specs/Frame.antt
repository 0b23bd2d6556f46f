-- 01, module 3: the frames Begin and Continue, laid out bit by bit (the Rust: IS-136.1-A Figures 5-38/39 and 5.4.2). CRC and tail
-- bits are the physical layer's. Of the standard's letters the Rust uses PEA, the echo; FRNO, a Continue's number; MSID, the
-- identity. Assumes nothing.
use Rattle.std.specs.Prelude.{Bool, false, List, [], ◌∷◌, ◌++◌, ℕ, ◌-◌, take, replicate}
use Rattle.field.specs.Bits.{bit, bits_of, octets}
use Rattle.field.specs.Layout.{layout, up_to}
use Rattle.rach.specs.Identity.{type_of, width_of}
use Rattle.rach.specs.declared.MobileIdentity.{MobileIdentity}
use Rattle.rach.specs.declared.MobileIdentity.TheVariants.{Tmsi20}
use Rattle.spach.specs.declared.Channel.TheVariants.{Arch}
use Rattle.spach.specs.Header.{header_a, header_b, address}
use Rattle.arq.specs.declared.ResponseMode.{ResponseMode}
use Rattle.arq.specs.declared.ResponseMode.TheVariants.{Contention, Reservation}
use Rattle.arq.specs.declared.FrameKind.{FrameKind}
use Rattle.arq.specs.declared.FrameKind.TheVariants.{Begin, Continue}
use Rattle.arq.specs.declared.ArqHeader.{ArqHeader}
use Rattle.arq.specs.declared.ArqFrame.{ArqFrame}
use Rattle.arq.specs.declared.PackedFrame.{PackedFrame}

-- response mode: 0 Contention, 1 Reservation
abbrev pub mode_of : ResponseMode → ℕ
mode_of Contention = 0
mode_of Reservation = 1

-- kind: Begin 5, Continue 6
abbrev pub kind_of : FrameKind → ℕ
kind_of Begin = 5
kind_of Continue = 6

-- what follows header B and, in a Begin, the address: echo 7 bits, reserved 2, polling, response mode
abbrev pub rest_of : ArqHeader → List (ℕ × ℕ)
rest_of h =
    (7, h.partial_echo)
    ∷ (2, 0)
    ∷ (1, bit h.polling)
    ∷ (1, mode_of h.response_mode)
    ∷ []

-- in a Begin then octet count 8
abbrev pub begin_rest : ArqHeader → ℕ → List (ℕ × ℕ)
begin_rest h n = rest_of h ++ (8, n) ∷ []

-- in a Continue number 5
abbrev pub continue_rest : ArqHeader → ℕ → List (ℕ × ℕ)
continue_rest h k = rest_of h ++ (5, k) ∷ []

-- a Begin up to its data: header A, header B with its kind, address, the rest
abbrev pub begin : ArqHeader → MobileIdentity → ℕ → List (ℕ × ℕ)
begin h i n = header_a h.channel h.flags ++ header_b (kind_of Begin) (type_of i) h.flags ++ address i ++ begin_rest h n

-- a Continue up to its data: header A, header B with its kind, the rest
abbrev pub continue : ArqHeader → ℕ → ℕ → List (ℕ × ℕ)
continue h t k = header_a h.channel h.flags ++ header_b (kind_of Continue) t h.flags ++ continue_rest h k

-- INFORMATION_BITS: how many bits a frame has
abbrev pub information_bits : ℕ
information_bits = 109

-- CONTINUE_DATA_BITS: how many data bits a Continue has
abbrev pub continue_data_bits : ℕ
continue_data_bits = 79

-- Begin data holds 75 − width bits: 55, 51, 41, 25
abbrev pub room : MobileIdentity → ℕ
room i = 75 - width_of (type_of i)

-- the data bits of a Begin that are read: as many as its bit count says
abbrev pub begin_data_lem : ArqFrame → List Bool
begin_data_lem f = take f.begin_bits (bits_of f.begin_data)

-- of a Continue: all that it has
abbrev pub continue_data_lem : ArqFrame → List Bool
continue_data_lem f = take continue_data_bits (bits_of f.continue_data)

-- 109 bits in 14 octets, zero filled: the last three bits are padding and zero
unfoldable pub packed : List Bool → PackedFrame
packed bs = record { octets = octets 14 (up_to 112 bs) }

-- a Begin in its 14 octets: the fields up to its data, then the data bits that are read
unfoldable pub begin_frame : ArqFrame → PackedFrame
begin_frame f = packed (layout (begin f.header f.identity f.message_octets) ++ begin_data_lem f)

-- a Continue in its 14 octets
unfoldable pub continue_frame : ArqFrame → PackedFrame
continue_frame f = packed (layout (continue f.header f.identity_type f.frame_number) ++ continue_data_lem f)

-- a Begin as it is given out: the fields that only the other kind has are zero (an identity: Tmsi20 of 0)
abbrev pub a_begin_of : ArqHeader → MobileIdentity → ℕ → ℕ → List ℕ → ArqFrame
a_begin_of h i n bits octs = record {
  kind = Begin;
  header = h;
  identity = i;
  message_octets = n;
  begin_data = octs;
  begin_bits = bits;
  identity_type = 0;
  frame_number = 0;
  continue_data = replicate 10 0;
}

-- a Continue as it is given out
abbrev pub a_continue_of : ArqHeader → ℕ → ℕ → List ℕ → ArqFrame
a_continue_of h t k octs = record {
  kind = Continue;
  header = h;
  identity = Tmsi20 0;
  message_octets = 0;
  begin_data = replicate 7 0;
  begin_bits = 0;
  identity_type = t;
  frame_number = k;
  continue_data = octs;
}

-- and unread bits are zero: data bits in 7 octets, and in 10
abbrev pub a_begin : ArqHeader → MobileIdentity → ℕ → ℕ → List Bool → ArqFrame
a_begin h i n bits data_bits = a_begin_of h i n bits (octets 7 (up_to 56 data_bits))

-- a Continue's 79 data bits, in 10
abbrev pub a_continue : ArqHeader → ℕ → ℕ → List Bool → ArqFrame
a_continue h t k data_bits = a_continue_of h t k (octets 10 (up_to 80 data_bits))

-- a blank header: Arch, Contention, and every flag and number zero
abbrev pub blank_header : ArqHeader
blank_header = record {
  channel = Arch;
  flags = record { pch_continuation = false; bcch_change = false; paging_frame_modifier = false; reservation_response = false };
  partial_echo = 0;
  polling = false;
  response_mode = Contention;
}
