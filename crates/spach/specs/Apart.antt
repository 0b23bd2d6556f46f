-- The numbers tell the errors apart: `Numbered` asks for this proof. Assumes nothing.
use Rattle.std.specs.Prelude.{◌≡◌, refl, cond, ℕ, eqb}
use Rattle.std.proofs.Common.{sym, ap, ◌∙◌}
use Rattle.spach.specs.declared.SpachError.{SpachError}
use Rattle.spach.specs.declared.SpachError.TheVariants.{Length, Identity, UnsupportedUsage, UnsupportedFrame, Encrypted, Reserved, Filler, PartialEcho, FrameNumber, Payload, DuplicateConflict, Padding, Room, Tokens}
use Rattle.spach.specs.Refusal.{number_of}

-- a reading that can be undone tells its arguments apart
pub apart : {A B : Type 0} (read : A → B) (back : B → A) → ((a : A) → back (read a) ≡ a) → (a b : A) → read a ≡ read b → a ≡ b
apart read back undo a b e = sym (undo a) ∙ ap back e ∙ undo b

-- the error of a number
abbrev pub error_of : ℕ → SpachError
error_of n =
    cond (eqb n (number_of Length)) Length
    (cond (eqb n (number_of Identity)) Identity
    (cond (eqb n (number_of UnsupportedUsage)) UnsupportedUsage
    (cond (eqb n (number_of UnsupportedFrame)) UnsupportedFrame
    (cond (eqb n (number_of Encrypted)) Encrypted
    (cond (eqb n (number_of Reserved)) Reserved
    (cond (eqb n (number_of Filler)) Filler
    (cond (eqb n (number_of PartialEcho)) PartialEcho
    (cond (eqb n (number_of FrameNumber)) FrameNumber
    (cond (eqb n (number_of Payload)) Payload
    (cond (eqb n (number_of DuplicateConflict)) DuplicateConflict
    (cond (eqb n (number_of Padding)) Padding
    (cond (eqb n (number_of Room)) Room Tokens))))))))))))

pub error_number : (e : SpachError) → error_of (number_of e) ≡ e
error_number Length = refl
error_number Identity = refl
error_number UnsupportedUsage = refl
error_number UnsupportedFrame = refl
error_number Encrypted = refl
error_number Reserved = refl
error_number Filler = refl
error_number PartialEcho = refl
error_number FrameNumber = refl
error_number Payload = refl
error_number DuplicateConflict = refl
error_number Padding = refl
error_number Room = refl
error_number Tokens = refl

pub numbers_apart : (a b : SpachError) → number_of a ≡ number_of b → a ≡ b
numbers_apart = apart number_of error_of error_number
