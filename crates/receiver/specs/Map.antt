-- 01: the received map is 26 bits of a 32-bit number, bit k of weight 2^k; it is read as the set of all k whose bit is
-- set. Assumes nothing.
use Rattle.std.specs.Prelude.{◌≡◌, ℕ, ◌/◌, ◌%◌, ◌^◌}
use Rattle.std.specs.Int.Bits.{bit_or}

-- bit k of a map, 0 or 1
abbrev pub bit_of : ℕ → ℕ → ℕ
bit_of m k = m / 2 ^ k % 2

-- k is in the map m
abbrev pub In : ℕ → ℕ → Type 0
In k m = bit_of m k ≡ 1

-- the map with k added
abbrev pub with_bit : ℕ → ℕ → ℕ
with_bit m k = bit_or m (2 ^ k)
