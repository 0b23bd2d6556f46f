-- 01, "What changes shape": a transfer's queue always rises, so it is a 27-bit number whose front is its lowest set bit;
-- polling is set when one bit is left. The sets of frames that are in flight, transmitted and observed are such numbers too.
-- Believe `front` and `one_left`; `frames_of` is a set as the Rust's list has it. Assumes nothing.
use Rattle.std.specs.Prelude.{Bool, cond, List, [], ◌∷◌, ℕ, zero, suc, ◌-◌, ◌/◌, ◌%◌, ◌^◌, eqb}
use Rattle.std.specs.Int.Bits.{bit_and, bit_xor}
use Rattle.std.specs.Int.Count.{ones, count_trailing_zeros}
use Rattle.receiver.specs.Map.{bit_of}

-- no frame
abbrev pub is_empty : (q : ℕ) → Bool
is_empty q = eqb q 0

-- frame k is in the set
abbrev pub has : (q k : ℕ) → Bool
has q k = eqb (bit_of q k) 1

-- the frames 0 to n − 1
abbrev pub first_frames : (n : ℕ) → ℕ
first_frames n = 2 ^ n - 1

-- the Continues of n frames: 1 to n − 1
abbrev pub continues_of : (n : ℕ) → ℕ
continues_of n = 2 ^ n - 2

-- frame k alone
abbrev pub frame_alone : (k : ℕ) → ℕ
frame_alone k = 2 ^ k

-- those of a that are not in b
abbrev pub without : (a b : ℕ) → ℕ
without a b = bit_xor a (bit_and a b)

-- the front: the lowest frame; 32 of no frame
abbrev pub front : (q : ℕ) → ℕ
front q = count_trailing_zeros 32 q

-- polling: one frame is left
abbrev pub one_left : (q : ℕ) → Bool
one_left q = eqb (ones q) 1

-- the set has as many frames as there are, so all of them (it has no frame from n on)
abbrev pub full : (n q : ℕ) → Bool
full n q = eqb (ones q) n

-- the frames of n bits, the lowest of which is frame k's
abbrev pub frames_from : (n k q : ℕ) → List ℕ
frames_from zero k q = []
frames_from (suc n) k q = let later = frames_from n (suc k) (q / 2) in cond (eqb (q % 2) 1) (k ∷ later) later

-- the frames of a set, rising
unfoldable pub frames_of : (q : ℕ) → List ℕ
frames_of q = frames_from 27 0 q
