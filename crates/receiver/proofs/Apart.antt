-- The readings of the receiver's answers tell any two answers apart: the constructor's by `answers_apart`, and a push's. Assumes
-- nothing.
use Rattle.std.proofs.Common.{◌≡◌, ℕ, List, Result, ap, ap₂}
use Rattle.spach.specs.declared.SpachError.{SpachError}
use Rattle.spach.specs.Refusal.{number_of, by_number}
use Rattle.spach.proofs.Apart.{numbers_apart, answers_apart}
use Rattle.receiver.specs.declared.ArqReassembler.{ArqReassembler}
use Rattle.receiver.specs.declared.Reception.{Reception}
use Rattle.receiver.specs.Receiver.{pushed}

-- the constructor's
pub made_apart : (a b : Result ArqReassembler SpachError) → by_number number_of a ≡ by_number number_of b → a ≡ b
made_apart = answers_apart number_of numbers_apart

-- a push's answer, and with it state and buffer
pub pushed_apart : (a b : ArqReassembler × Result Reception SpachError) (x y : List ℕ) → pushed a x ≡ pushed b y → (a ≡ b) × (x ≡ y)
pushed_apart a b x y e =
    (ap₂ (λ (s : ArqReassembler) (r : Result Reception SpachError). (s, r)) (ap (λ o. o.receiver) e) (answers_apart number_of numbers_apart a.1 b.1 (ap (λ o. o.outcome) e)), ap (λ o. o.buffer) e)
