-- What holds of encode, decode and the cut, beside their definitions. Assumes nothing.
use Rattle.std.proofs.Common.{◌≡◌, ℕ, suc, ◌+◌, ◌-◌, ◌*◌, ◌^◌, ◌<◌, ◌≤◌, not, ltb, List, ◌++◌, length, take}
use Rattle.field.specs.Bits.{Octets, bits_of, octets, field, put}
use Rattle.field.specs.Layout.{layout, zeros, up_to}
use Rattle.rach.specs.Identity.{type_of, width_of}
use Rattle.rach.specs.declared.MobileIdentity.{MobileIdentity}
use Rattle.spach.specs.Refusal.{gives, refuse}
use Rattle.arq.specs.declared.FrameKind.TheVariants.{Begin, Continue}
use Rattle.arq.specs.declared.ArqHeader.{ArqHeader}
use Rattle.arq.specs.declared.ArqFrame.{ArqFrame}
use Rattle.arq.specs.declared.PackedFrame.{PackedFrame}
use Rattle.arq.specs.Frame.{room}
use Rattle.arq.specs.Encode.{encode_of}
use Rattle.arq.specs.Decode.{decode_of}
use Rattle.arq.specs.Cut.{continues, count_of, frame_of}
use Rattle.arq.specs.Round.{there_and_back, normal, widened, carried}
use Rattle.arq.proofs.Cuts.{carries, carries_all, carries_octets, count_holds, count_least, count_most}
use Rattle.arq.proofs.Round.{encode_back, cut-back}
use Rattle.arq.proofs.Reencoded.{decode_again, decode_same, decode_same-begin}
use Rattle.arq.proofs.Tables.{said, table, begin_table, continue_table, cut_table, decode_table, begin_bits_lem, continue_bits, ReadAlike, SkippedAlike, GivenOut, CutBegin, CutContinue}
use Rattle.arq.proofs.Exactly.{begin_said, continue_said, begin_lays, continue_lays, encode_alike, decode_said, decode_heard, continue_alike, count_said, frame_said, count_fits, frame_out, begin_given, continue_given}

-- What encode accepts is decoded to the same frame, as far as it is read. The premise holds of every frame: its octet
-- count is an octet.
pub encode_decodes : (f : ArqFrame) (p : PackedFrame) → f.message_octets < 2 ^ 8 → encode_of f ≡ gives p → decode_of p.octets ≡ gives (normal f)
encode_decodes = encode_back

-- "What `fragment_message` yields decodes to itself, Begin data widened by zeros."
pub cut_decodes : (h : ArqHeader) (i : MobileIdentity) (m : List ℕ) (k : ℕ) (f : ArqFrame) → frame_of h i m k ≡ gives f → there_and_back f ≡ gives (widened f)
cut_decodes = cut-back

-- "What `decode` accepts encodes to the same octets, the skipped bit excepted": that bit is written 0
pub decode_encodes : (xs : List ℕ) (f : ArqFrame) → decode_of xs ≡ gives f → encode_of f ≡ gives (record { octets = octets 14 (put 12 1 0 (bits_of xs)) })
decode_encodes xs f e = (decode_again xs f e).1.encoded

-- and where it is 0 already, as it is in a Begin, the octets are the same
pub decode_encodes_same : (xs : List ℕ) (f : ArqFrame) → Octets xs → decode_of xs ≡ gives f → field 12 1 (bits_of xs) ≡ 0 → encode_of f ≡ gives (record { octets = xs })
decode_encodes_same = decode_same

pub decode_encodes_begin : (xs : List ℕ) (f : ArqFrame) → Octets xs → decode_of xs ≡ gives f → f.kind ≡ Begin → encode_of f ≡ gives (record { octets = xs })
decode_encodes_begin = decode_same-begin

-- "Begin data holds 75 − width bits: 55, 51, 41, 25. The rest goes on in message order, 79 bits a Continue, numbered
-- from 0, zero filled."
pub cut_in_order : (h : ArqHeader) (i : MobileIdentity) (m : List ℕ) (c : ℕ) → carried h i m c ≡ up_to (room i + 79 * c) (bits_of m)
cut_in_order = carries

-- so the frames of the cut hold the whole message
pub cut-whole : (h : ArqHeader) (i : MobileIdentity) (m : List ℕ) → take (8 * length m) (carried h i m (continues i (length m))) ≡ bits_of m
cut-whole = carries_all

pub cut_octets : (h : ArqHeader) (i : MobileIdentity) (m : List ℕ) → Octets m
    → octets (length m) (take (8 * length m) (carried h i m (continues i (length m)))) ≡ m
cut_octets = carries_octets

-- "Invented frame counts, by the cut's rule": the count is the least whose frames have room for the message
pub cut_holds : (i : MobileIdentity) (n : ℕ) → 8 * n ≤ room i + 79 * continues i n
cut_holds = count_holds

pub cut_least : (i : MobileIdentity) (n k : ℕ) → k < continues i n → room i + 79 * k < 8 * n
cut_least = count_least

-- "255 octets, each type: 27 frames": no message has more
pub cut_most : (i : MobileIdentity) (n : ℕ) → n ≤ 255 → 1 + continues i n ≤ 27
cut_most = count_most

-- ---- held to 01 over all inputs, in the words of Tables: a definition that is changed, and its code alike, meets these no more

-- *Encode* refuses exactly so, a Begin and a Continue
pub encode_refuses_begin : (f : ArqFrame) → f.kind ≡ Begin → said (encode_of f) ≡ table (begin_table f) (gives tt)
encode_refuses_begin = begin_said

pub encode_refuses_continue : (f : ArqFrame) → f.kind ≡ Continue → said (encode_of f) ≡ table (continue_table f) (gives tt)
encode_refuses_continue = continue_said

-- what it gives: the table, the data bits that are read, zeros up to 109 bits, and three bits of padding
pub encode_lays_begin : (f : ArqFrame) (p : PackedFrame) → f.kind ≡ Begin → encode_of f ≡ gives p
    → bits_of p.octets ≡ layout (begin_bits_lem f) ++ (up_to (75 - width_of (type_of f.identity)) (take f.begin_bits (bits_of f.begin_data)) ++ zeros 3)
encode_lays_begin = begin_lays

pub encode_lays_continue : (f : ArqFrame) (p : PackedFrame) → f.kind ≡ Continue → encode_of f ≡ gives p
    → bits_of p.octets ≡ layout (continue_bits f) ++ (up_to 79 (take 79 (bits_of f.continue_data)) ++ zeros 3)
encode_lays_continue = continue_lays

-- "bits past the count are not read", nor what only the other kind has: frames that agree on what is read are answered alike
pub encode_reads : (f g : ArqFrame) → ReadAlike f g → encode_of f ≡ encode_of g
encode_reads = encode_alike

-- *Decode* refuses exactly so, in this order
pub decode_refuses : (xs : List ℕ) → said (decode_of xs) ≡ decode_table xs
decode_refuses = decode_said

-- "In every frame given out, unread bits are zero and so are fields that only the other kind has", by decode
pub decode_gives_out : (xs : List ℕ) (f : ArqFrame) → decode_of xs ≡ gives f → GivenOut f
decode_gives_out xs f e = (decode_heard xs f e).0

-- "`decode` .. skips it in Continue": the bit after the identity type changes nothing of what a Continue comes to
pub decode_skips : (xs ys : List ℕ) → field 7 3 (bits_of xs) ≡ 6 → SkippedAlike xs ys → decode_of xs ≡ decode_of ys
decode_skips = continue_alike

-- a Begin that was decoded has as many data bits as it has room for
pub decode_fills : (xs : List ℕ) (f : ArqFrame) → decode_of xs ≡ gives f → f.kind ≡ Begin → f.begin_bits ≡ 75 - width_of (type_of f.identity)
decode_fills xs f e = (decode_heard xs f e).1

-- *Cut*: both calls refuse exactly so, and frame k past the count besides
pub count_refuses : (h : ArqHeader) (i : MobileIdentity) (m : List ℕ) → count_of h i m ≡ table (cut_table h i m) (gives (1 + continues i (length m)))
count_refuses = count_said

pub frame_refuses : (h : ArqHeader) (i : MobileIdentity) (m : List ℕ) (k : ℕ) → said (frame_of h i m k) ≡ table (cut_table h i m) (refuse (not (ltb k (1 + continues i (length m)))) 12 (gives tt))
frame_refuses = frame_said

-- the count that is given: a Begin and the least number of Continues that with it have room for the message
pub count_exactly : (h : ArqHeader) (i : MobileIdentity) (m : List ℕ) (c : ℕ) → count_of h i m ≡ gives c
    → (1 ≤ c) × (8 * length m ≤ 75 - width_of (type_of i) + 79 * (c - 1)) × ((k : ℕ) → 8 * length m ≤ 75 - width_of (type_of i) + 79 * k → c ≤ 1 + k)
count_exactly = count_fits

-- the frames that are given: unread bits and the other kind's fields zero
pub cut_gives_out : (h : ArqHeader) (i : MobileIdentity) (m : List ℕ) (k : ℕ) (f : ArqFrame) → frame_of h i m k ≡ gives f → GivenOut f
cut_gives_out = frame_out

-- the Begin, and Continue k: the header goes into each as it is
pub cut_gives_begin : (h : ArqHeader) (i : MobileIdentity) (m : List ℕ) (f : ArqFrame) → frame_of h i m 0 ≡ gives f → CutBegin h i m f
cut_gives_begin = begin_given

pub cut_gives_continue : (h : ArqHeader) (i : MobileIdentity) (m : List ℕ) (k : ℕ) (f : ArqFrame) → frame_of h i m (suc k) ≡ gives f → CutContinue h i m k f
cut_gives_continue = continue_given
