-- Octets and a map in hex: the digits of one library are those of the other. Assumes nothing.
use Rattle.std.proofs.Common.{◌≡◌, ℕ, zero, suc, ◌/◌, ◌%◌, ◌<◌, ◌==◌, Bool, true, ◌&&◌, [], ◌∷◌, refl, arith, slice_index, inl, inr}
use Rattle.std.proofs.lemmas.Bool.{and_parts, cases_lt, eqb-true}
use Rattle.std.specs.Int.{to_be_bytes, w32}
use Rattle.io.specs.Digits.{last_digits, hex_digit_ascii}
use Rattle.hex.specs.Hex.{encode_with, encode_lower, lower_digits}

-- the digits below n are the same
abbrev same_below : ℕ → Bool
same_below zero = true
same_below (suc n) = (slice_index lower_digits n == hex_digit_ascii n) && same_below n

same_at : (n d : ℕ) → same_below n ≡ true → d < n → slice_index lower_digits d ≡ hex_digit_ascii d
same_at zero d e h = absurd (omega arith)
same_at (suc n) d e h =
    let parts = and_parts (slice_index lower_digits n == hex_digit_ascii n) (same_below n) e in
    elim (cases_lt d n) [
      | inl below ↦ same_at n d parts.1 below
      | inr top ↦
          let last : d ≡ n = omega arith in
          rw last (eqb-true _ _ parts.0)
    ]

pub digit_is : (d : ℕ) → d < 16 → slice_index lower_digits d ≡ hex_digit_ascii d
digit_is d h = same_at 16 d refl h

-- the lowest octet of a number has its last two digits
octet_is : (n : ℕ) → encode_lower (n % 256 ∷ []) ≡ last_digits 16 2 n
unfolding encode_with
octet_is n =
    let high : n % 256 / 16 ≡ n / 16 % 16 = omega arith in
    let low : n % 256 % 16 ≡ n % 16 = omega arith in
    rw (high, low, digit_is (n / 16 % 16) (omega arith), digit_is (n % 16) (omega arith))

-- a number of 32 bits as four octets in hex
pub hex_of_be_bytes : (n : ℕ) → encode_lower (to_be_bytes w32 n) ≡ last_digits 16 8 n
unfolding encode_with
hex_of_be_bytes n =
    let one : n / 256 ≡ n / 16 / 16 = omega arith in
    let two : n / 65536 ≡ n / 16 / 16 / 16 / 16 = omega arith in
    let three : n / 16777216 ≡ n / 16 / 16 / 16 / 16 / 16 / 16 = omega arith in
    let e = octet_is n in
    let f = octet_is (n / 256) in
    let g = octet_is (n / 65536) in
    let h = octet_is (n / 16777216) in
    cc
