-- Octets as bits, and fields and runs of bits that lie inside octets: what functions over octets ask for and leave. Only contracts
-- need this. Assumes nothing.
use Rattle.std.specs.Prelude.{◌≡◌, Bool, List, ℕ, ◌+◌, ◌*◌, ◌≤◌, length}
use Rattle.field.specs.Bits.{bits_of, octets}

-- the octets xs are n, and their bits are bs
pub record Packs (xs : List ℕ) (n : ℕ) (bs : List Bool) : Type 0 where
  pub as_bits : bits_of xs ≡ bs
  pub as_octets : xs ≡ octets n bs

-- a field of 1 to 50 bits at bit offset o lies inside the octets xs, which are at most 4,096
pub record Placed (xs : List ℕ) (o w : ℕ) : Type 0 where
  pub some : 1 ≤ w
  pub most : w ≤ 50
  pub inside : o + w ≤ 8 * length xs
  pub short : length xs ≤ 4096

-- a run of n bits from bit offset o on lies inside the octets xs, which are at most 4,096
pub record Run (xs : List ℕ) (o n : ℕ) : Type 0 where
  pub inside : o + n ≤ 8 * length xs
  pub short : length xs ≤ 4096
