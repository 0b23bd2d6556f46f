-- Bits of packed octets, in the order in which they are sent: the first bit is the top bit of the first octet.
-- Assumes nothing.
use Rattle.std.specs.Prelude.{Bool, true, false, List, [], ◌∷◌, ◌++◌, ℕ, zero, suc, ◌+◌, ◌*◌, ◌/◌, ◌%◌, ◌^◌, ◌<◌, eqb, length, take, drop, get_or}

-- a number's lowest bit is set
abbrev pub odd : ℕ → Bool
odd n = eqb (n % 2) 1

-- what a bit counts for: 1 if set, else 0
abbrev pub bit : Bool → ℕ
bit true = 1
bit false = 0

-- a number as w bits, top bit first: of a number of more bits, its w low ones
unfoldable pub bits : ℕ → ℕ → List Bool
bits zero v = []
bits (suc w) v = odd (v / 2 ^ w) ∷ bits w v

-- the unsigned number that bits are, top bit first
unfoldable pub value : List Bool → ℕ
value [] = 0
value (b ∷ bs) = bit b * 2 ^ length bs + value bs

-- numbers of eight bits
abbrev pub Octets : List ℕ → Type 0
Octets xs = (i : ℕ) → get_or xs i 0 < 2 ^ 8

-- the bits of octets
unfoldable pub bits_of : List ℕ → List Bool
bits_of [] = []
bits_of (x ∷ xs) = bits 8 x ++ bits_of xs

-- bits as n octets
unfoldable pub octets : ℕ → List Bool → List ℕ
octets zero bs = []
octets (suc n) bs = value (take 8 bs) ∷ octets n (drop 8 bs)

-- the field of w bits at bit offset o, as a number
unfoldable pub field : ℕ → ℕ → List Bool → ℕ
field o w bs = value (take w (drop o bs))

-- bits with the number v in the field of w bits at bit offset o, and all others as they were
unfoldable pub put : ℕ → ℕ → ℕ → List Bool → List Bool
put o w v bs = take o bs ++ bits w v ++ drop (o + w) bs

-- bits with a run of others in the place of those from bit offset o on
unfoldable pub splice : ℕ → List Bool → List Bool → List Bool
splice o run bs = take o bs ++ run ++ drop (o + length run) bs
