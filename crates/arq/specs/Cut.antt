-- 01, *Cut* (the Rust: IS-136.1-A 5.4.2.1): over 255 octets 1; then 3, 11, 2 as encode; k not below the count 12. An empty
-- message is one Begin. (x - y stops at 0.) Assumes nothing.
use Rattle.std.specs.Prelude.{not, List, ℕ, zero, suc, ◌+◌, ◌-◌, ◌*◌, ◌/◌, min, ltb, length, take, drop}
use Rattle.field.specs.Bits.{bits_of}
use Rattle.field.specs.Layout.{up_to}
use Rattle.rach.specs.Identity.{type_of, encodable}
use Rattle.rach.specs.declared.MobileIdentity.{MobileIdentity}
use Rattle.spach.specs.Refusal.{Outcome, gives, refuse}
use Rattle.arq.specs.declared.ArqHeader.{ArqHeader}
use Rattle.arq.specs.declared.ArqFrame.{ArqFrame}
use Rattle.arq.specs.Frame.{continue_data_bits, room, a_begin, a_continue}
use Rattle.arq.specs.Encode.{header_checked}

-- how many Continues a message of n octets needs after its Begin, for what that has no room for: the quotient, rounded up
abbrev pub continues : MobileIdentity → ℕ → ℕ
continues i n = (8 * n - room i + (continue_data_bits - 1)) / continue_data_bits

-- the checks of both calls: over 255 octets 1; 3 and 11; identity 2
abbrev pub cut_checked : {A : Type 0} → ArqHeader → MobileIdentity → List ℕ → Outcome A → Outcome A
cut_checked h i m next =
    refuse (ltb 255 (length m)) 1
    (header_checked h
    (refuse (not (encodable i)) 2 next))

-- how many frames a message needs
unfoldable pub count_of : ArqHeader → MobileIdentity → List ℕ → Outcome ℕ
count_of h i m = cut_checked h i m (gives (1 + continues i (length m)))

-- frame 0 of a message is its Begin, frame k + 1 its Continue k: the header goes into each as it is
abbrev pub cut_frame : ArqHeader → MobileIdentity → List ℕ → ℕ → ArqFrame
cut_frame h i m zero = a_begin h i (length m) (min (8 * length m) (room i)) (take (room i) (bits_of m))
cut_frame h i m (suc k) = a_continue h (type_of i) k (up_to continue_data_bits (drop (room i + continue_data_bits * k) (bits_of m)))

-- frame k of a message, k from 0
unfoldable pub frame_of : ArqHeader → MobileIdentity → List ℕ → ℕ → Outcome ArqFrame
frame_of h i m k = cut_checked h i m (refuse (not (ltb k (1 + continues i (length m)))) 12 (gives (cut_frame h i m k)))
