-- The readings of answers tell any two answers apart: nothing of an answer is left free. Assumes nothing.
use Rattle.std.proofs.Common.{◌≡◌, ℕ, Result}
use Rattle.spach.specs.declared.SpachError.{SpachError}
use Rattle.spach.specs.Refusal.{number_of, by_number}
use Rattle.spach.proofs.Apart.{numbers_apart, answers_apart}
use Rattle.arq.specs.declared.ArqFrame.{ArqFrame}
use Rattle.arq.specs.declared.PackedFrame.{PackedFrame}

pub counts_apart : (a b : Result ℕ SpachError) → by_number number_of a ≡ by_number number_of b → a ≡ b
counts_apart = answers_apart number_of numbers_apart

pub frames_apart : (a b : Result ArqFrame SpachError) → by_number number_of a ≡ by_number number_of b → a ≡ b
frames_apart = answers_apart number_of numbers_apart

pub encoded_apart : (a b : Result PackedFrame SpachError) → by_number number_of a ≡ by_number number_of b → a ≡ b
encoded_apart = answers_apart number_of numbers_apart
