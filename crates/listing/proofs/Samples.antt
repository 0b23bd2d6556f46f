-- Document 01's sample of `arq-show`, and its other words: listings of inputs, by the definitions. Assumes nothing.
use Rattle.std.proofs.Common.{◌≡◌, ℕ, List, [], ◌∷◌, ◌++◌, refl, codes}
use lib.Count.{ones, ones_in}
use Rattle.std.specs.Fmt.{digits}
use Rattle.hex.specs.Hex.{encode_with}
use Rattle.field.specs.Bits.{bits, value, bits_of, octets, field}
use Rattle.field.specs.Layout.{layout, up_to, any_set}
use Rattle.rach.specs.Identity.{same, in_range, encodable}
use Rattle.spach.specs.Identity.{accept_identity}
use Rattle.spach.specs.Header.{header_a_at, address_at}
use Rattle.arq.specs.Decode.{decode_of}
use Rattle.receiver.specs.Receiver.{new_of, gathered, assembled, finish, continued, push_frame, push_of}
use Rattle.listing.specs.Session.{open_of, rest_of, listing_of}

-- the frame of 01, all but its last octet
abbrev pub frame : List ℕ
frame = 97 ∷ 64 ∷ 0 ∷ 0 ∷ 33 ∷ 72 ∷ 5 ∷ 4 ∷ 0 ∷ 0 ∷ 0 ∷ 0 ∷ 0 ∷ []

-- 00, seven 00, 01, the frame, then it with last octet 01
abbrev pub input : List ℕ
input = (0 ∷ 0 ∷ 0 ∷ 0 ∷ 0 ∷ 0 ∷ 0 ∷ 0 ∷ 1 ∷ []) ++ frame ++ (0 ∷ []) ++ frame ++ (1 ∷ [])

abbrev pub output : List ℕ
output = codes "frame answer echo map text\n1 message 5 00000000 41\n2 refused-15 5 00000000 -\nmessages 1\n"

pub sample : listing_of input ≡ output
unfolding listing_of rest_of open_of digits encode_with new_of gathered assembled finish continued push_frame push_of decode_of header_a_at address_at accept_identity same in_range encodable bits value bits_of octets field layout up_to any_set ones ones_in
sample = refl

-- the other words: a Begin for Tmsi20 of 2, one of seven octets and an empty one for Tmsi20 of 1, then three octets of a
-- frame
abbrev pub others : List ℕ
others =
    (0 ∷ 0 ∷ 0 ∷ 0 ∷ 0 ∷ 0 ∷ 0 ∷ 0 ∷ 1 ∷ [])
    ++ (97 ∷ 64 ∷ 0 ∷ 0 ∷ 65 ∷ 64 ∷ 5 ∷ 4 ∷ 0 ∷ 0 ∷ 0 ∷ 0 ∷ 0 ∷ 0 ∷ [])
    ++ (97 ∷ 64 ∷ 0 ∷ 0 ∷ 33 ∷ 64 ∷ 29 ∷ 5 ∷ 5 ∷ 5 ∷ 5 ∷ 5 ∷ 5 ∷ 0 ∷ [])
    ++ (97 ∷ 64 ∷ 0 ∷ 0 ∷ 33 ∷ 64 ∷ 0 ∷ 0 ∷ 0 ∷ 0 ∷ 0 ∷ 0 ∷ 0 ∷ 0 ∷ [])
    ++ (97 ∷ 64 ∷ 0 ∷ [])

abbrev pub words : List ℕ
words = codes "frame answer echo map text\n1 ignored - 00000000 -\n2 heard 5 00000000 -\n3 message 5 00000000 empty\ncut 3\nmessages 1\n"

pub sample_words : listing_of others ≡ words
unfolding listing_of rest_of open_of digits encode_with new_of gathered assembled finish continued push_frame push_of decode_of header_a_at address_at accept_identity same in_range encodable bits value bits_of octets field layout up_to any_set ones ones_in
sample_words = refl

-- a short identity prints the one line `identity`
pub sample_identity : listing_of (0 ∷ 0 ∷ 0 ∷ 0 ∷ 0 ∷ 0 ∷ 0 ∷ 1 ∷ []) ≡ codes "identity\n"
unfolding listing_of open_of
sample_identity = refl
