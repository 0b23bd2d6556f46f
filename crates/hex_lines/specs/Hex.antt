-- Octets in lower-case hex, 32 to a line. Assumes nothing.
use Rattle.std.specs.Prelude.{List, [], ◌∷◌, ◌++◌, ℕ, zero, suc, ◌+◌, ◌/◌, length, take, drop}
use Rattle.hex.specs.Hex.{encode_lower}

-- n lines of 32 octets, each in hex with a newline after it; the last may be short
unfoldable pub lines_of : ℕ → List ℕ → List ℕ
lines_of zero xs = []
lines_of (suc n) xs = encode_lower (take 32 xs) ++ (10 ∷ []) ++ lines_of n (drop 32 xs)

-- all octets
unfoldable pub text_of : List ℕ → List ℕ
text_of xs = lines_of ((length xs + 31) / 32) xs
