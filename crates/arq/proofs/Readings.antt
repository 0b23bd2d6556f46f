-- What each word on a frame says, and that the constants of the program are those of the definitions. Assumes nothing.
use Rattle.std.proofs.Common.{◌≡◌, true, false, take, refl}
use Rattle.field.specs.Bits.{bits_of}
use Rattle.arq.specs.declared.TheConstants.{BEGIN, CONTINUE, INFORMATION_BITS, CONTINUE_DATA_BITS}
use Rattle.arq.specs.declared.ArqFrame.{ArqFrame}
use Rattle.arq.specs.declared.FrameKind.TheVariants.{Begin, Continue}
use Rattle.arq.specs.Frame.{begin_data_lem, continue_data_lem, mode_of, kind_of, information_bits, continue_data_bits, blank_header}
use Rattle.arq.specs.Encode.{by_kind}
use Rattle.spach.specs.declared.Channel.TheVariants.{Arch}
use Rattle.arq.specs.declared.ResponseMode.TheVariants.{Contention, Reservation}
use Rattle.arq.specs.Decode.{mode_at}

-- the data bits that a frame has
pub data_say : (f : ArqFrame) → (begin_data_lem f ≡ take f.begin_bits (bits_of f.begin_data)) × (continue_data_lem f ≡ take 79 (bits_of f.continue_data))
data_say f = (refl, refl)

-- by kind
pub kinds_say : {A : Type 0} (a b : A) → (by_kind Begin a b ≡ a) × (by_kind Continue a b ≡ b)
kinds_say a b = (refl, refl)

-- response mode, as laid and as read
pub modes_say : (mode_of Contention ≡ 0) × (mode_of Reservation ≡ 1) × (mode_at false ≡ Contention) × (mode_at true ≡ Reservation)
modes_say = (refl, refl, refl, refl)

-- the header whose tables Decode reads
pub blank_header_says : blank_header ≡ record { channel = Arch; flags = record { pch_continuation = false; bcch_change = false; paging_frame_modifier = false; reservation_response = false }; partial_echo = 0; polling = false; response_mode = Contention }
blank_header_says = refl

-- the constants of the program are those of the definitions
pub constants_say : (INFORMATION_BITS ≡ information_bits) × (CONTINUE_DATA_BITS ≡ continue_data_bits) × (BEGIN ≡ kind_of Begin) × (CONTINUE ≡ kind_of Continue)
constants_say = (refl, refl, refl, refl)
