-- Sets of frames as numbers, said bit by bit: what each operation does to bit k, and that the bits are the set. Assumes nothing.
use Rattle.std.proofs.Common.{◌≡◌, ℕ, zero, suc, ◌+◌, ◌-◌, ◌/◌, ◌%◌, ◌^◌, ◌<◌, ◌≤◌, min, max, Bool, true, false, not, ◌&&◌, ◌||◌, eqb, bit_and, bit_or, bit_xor, sym, refl, ap, ◌∙◌, ⊎_elim, div-one, arith, pow_mono, eq-eqb, ne_eqb, eqb-true}
use native.Mathlib.Nat.{zero-div, div-eq_of_lt, pow-succ', div-div-eq-div-mul}
use lib.Bits.{and_shr, xor_shr, and_step, xor_add_and, and_le_l, xor_lt}
use borrow.Author.Tests.{eqb-false}
use Rattle.receiver.specs.Map.{bit_of, with_bit}
use Rattle.receiver.proofs.Maps.{bit_here, bit_elsewhere, compared, bit-or}
use Rattle.transfer.specs.Queue.{has, frame_alone, without}

-- ---- one bit

-- a bit is 0 or 1
pub bit_low : (a k : ℕ) → bit_of a k < 2
bit_low a k = omega arith

-- the empty set has no bit
pub bit_none : (k : ℕ) → bit_of 0 k ≡ 0
bit_none k = rw zero-div

-- bit 0 is the odd one
pub bit_first : (a : ℕ) → bit_of a 0 ≡ a % 2
bit_first a = let z : a / 2 ^ 0 ≡ a = div-one a in rw z

-- the later bits are those of the half
pub bit_next : (a k : ℕ) → bit_of a (suc k) ≡ bit_of (a / 2) k
bit_next a k = rw (pow-succ' 2 k, ← div-div-eq-div-mul a 2 (2 ^ k))

-- ---- the operations

-- in both
pub bit-and : (a b k : ℕ) → bit_of (bit_and a b) k ≡ min (bit_of a k) (bit_of b k)
bit-and a b k = rw (and_shr a b k) (omega (arith, and_step (a / 2 ^ k) (b / 2 ^ k)))

-- in one of both
pub bit-xor : (a b k : ℕ) → bit_of (bit_xor a b) k ≡ (bit_of a k + bit_of b k) % 2
bit-xor a b k = rw (xor_shr a b k) (omega (arith, xor_add_and (a / 2 ^ k) (b / 2 ^ k)))

-- without: bit k stays where the other has none
pub bit-without : (a b k : ℕ) → bit_of (without a b) k ≡ bit_of a k - bit_of b k
bit-without a b k = omega (arith, bit-xor a (bit_and a b) k, bit-and a b k)

-- frame k alone: its bit is set
pub bit_alone : (k : ℕ) → bit_of (frame_alone k) k ≡ 1
bit_alone = bit_here

-- and no other
pub bit_others : (k j : ℕ) → (j ≡ k → ⊥) → bit_of (frame_alone k) j ≡ 0
bit_others = bit_elsewhere

-- a frame added: bit j is its own or was set
pub bit_added : (a k j : ℕ) → bit_of (with_bit a k) j ≡ max (bit_of a j) (bit_of (frame_alone k) j)
bit_added a k j = bit-or a (2 ^ k) j

-- ---- the bits are the set

-- equal bits of two numbers up to n
same_upto : (n a b : ℕ) → a ≤ n → b ≤ n → ((k : ℕ) → bit_of a k ≡ bit_of b k) → a ≡ b
same_upto zero a b la lb h = omega arith
same_upto (suc n) a b la lb h =
    let low : a % 2 ≡ b % 2 = sym (bit_first a) ∙ (h 0 ∙ bit_first b) in
    let high : a / 2 ≡ b / 2 = same_upto n (a / 2) (b / 2) (omega arith) (omega arith) (λ k. sym (bit_next a k) ∙ (h (suc k) ∙ bit_next b k)) in
    omega arith

-- equal bits, equal sets
pub same_bits : (a b : ℕ) → ((k : ℕ) → bit_of a k ≡ bit_of b k) → a ≡ b
same_bits a b h = same_upto (a + b) a b (omega arith) (omega arith) h

-- no bit, no frame
pub no_bits : (a : ℕ) → ((k : ℕ) → bit_of a k ≡ 0) → a ≡ 0
no_bits a h = same_bits a 0 (λ k. h k ∙ sym (bit_none k))

-- a set below 2 ^ n has no bit from n on
pub below_bits : (n a k : ℕ) → a < 2 ^ n → n ≤ k → bit_of a k ≡ 0
below_bits n a k h l = let e : a / 2 ^ k ≡ 0 = div-eq_of_lt (omega (arith, pow_mono {i = n} {j = k} l)) in rw e

-- what is left of a set is below what that was
pub without_low : (n a b : ℕ) → a < 2 ^ n → without a b < 2 ^ n
without_low n a b h = xor_lt n a (bit_and a b) h (omega (arith, and_le_l a b))

-- ---- has

-- a frame of the set has its bit
pub has-bit : (a k : ℕ) → has a k ≡ true → bit_of a k ≡ 1
has-bit a k h = eqb-true (bit_of a k) 1 h

-- any other has not
pub lacks_bit : (a k : ℕ) → has a k ≡ false → bit_of a k ≡ 0
lacks_bit a k h = let f = eqb-false (bit_of a k) 1 h in go (bit_of a k) refl f
  where
    go : (b : ℕ) → bit_of a k ≡ b → (bit_of a k ≡ 1 → ⊥) → bit_of a k ≡ 0
    go zero e f = e
    go (suc b) e f = absurd (f (omega arith))

-- and the other way round
pub bit-has : (a k : ℕ) → bit_of a k ≡ 1 → has a k ≡ true
bit-has a k h = eq-eqb (bit_of a k) 1 h

-- neither has one without
pub bit_lacks : (a k : ℕ) → bit_of a k ≡ 0 → has a k ≡ false
bit_lacks a k h = ne_eqb (bit_of a k) 1 (λ e. omega arith)

-- ---- has, of each operation

-- what holds of the four pairs of digits
two_digits : (P : ℕ → ℕ → Type 0) → P 0 0 → P 0 1 → P 1 0 → P 1 1 → (p q : ℕ) → p < 2 → q < 2 → P p q
two_digits P a b c d zero zero h k = a
two_digits P a b c d zero (suc zero) h k = b
two_digits P a b c d zero (suc (suc q)) h k = absurd (omega arith)
two_digits P a b c d (suc zero) zero h k = c
two_digits P a b c d (suc zero) (suc zero) h k = d
two_digits P a b c d (suc zero) (suc (suc q)) h k = absurd (omega arith)
two_digits P a b c d (suc (suc p)) q h k = absurd (omega arith)

-- the frames of either set
pub has_or : (a b k : ℕ) → has (bit_or a b) k ≡ (has a k || has b k)
has_or a b k = ap (λ (n : ℕ). eqb n 1) (bit-or a b k) ∙ two_digits (λ p q. eqb (max p q) 1 ≡ (eqb p 1 || eqb q 1)) refl refl refl refl (bit_of a k) (bit_of b k) (bit_low a k) (bit_low b k)

-- of both
pub has_and : (a b k : ℕ) → has (bit_and a b) k ≡ (has a k && has b k)
has_and a b k = ap (λ (n : ℕ). eqb n 1) (bit-and a b k) ∙ two_digits (λ p q. eqb (min p q) 1 ≡ (eqb p 1 && eqb q 1)) refl refl refl refl (bit_of a k) (bit_of b k) (bit_low a k) (bit_low b k)

-- of the one and not of the other
pub has-without : (a b k : ℕ) → has (without a b) k ≡ (has a k && not (has b k))
has-without a b k = ap (λ (n : ℕ). eqb n 1) (bit-without a b k) ∙ two_digits (λ p q. eqb (p - q) 1 ≡ (eqb p 1 && not (eqb q 1))) refl refl refl refl (bit_of a k) (bit_of b k) (bit_low a k) (bit_low b k)

-- frame k alone
pub has_alone : (k j : ℕ) → has (frame_alone k) j ≡ eqb j k
has_alone k j = ⊎_elim here (⊎_elim same there) (compared j k)
  where
    here : j < k → has (frame_alone k) j ≡ eqb j k
    here h = let n : j ≡ k → ⊥ = λ e. omega arith in bit_lacks (frame_alone k) j (bit_others k j n) ∙ sym (ne_eqb j k n)

    same : j ≡ k → has (frame_alone k) j ≡ eqb j k
    same e = rw e (bit-has (frame_alone k) k (bit_alone k) ∙ sym (eq-eqb k k refl))

    there : k < j → has (frame_alone k) j ≡ eqb j k
    there h = let n : j ≡ k → ⊥ = λ e. omega arith in bit_lacks (frame_alone k) j (bit_others k j n) ∙ sym (ne_eqb j k n)

-- frame k added
pub has_added : (a k j : ℕ) → has (with_bit a k) j ≡ (has a j || eqb j k)
has_added a k j = has_or a (frame_alone k) j ∙ ap (λ (t : Bool). has a j || t) (has_alone k j)

-- equal frames, equal sets
pub same_frames : (a b : ℕ) → ((k : ℕ) → has a k ≡ has b k) → a ≡ b
same_frames a b h = same_bits a b (λ k. go k (has a k) refl (sym (h k)))
  where
    go : (k : ℕ) (t : Bool) → has a k ≡ t → has b k ≡ has a k → bit_of a k ≡ bit_of b k
    go k true e f = has-bit a k e ∙ sym (has-bit b k (f ∙ e))
    go k false e f = lacks_bit a k e ∙ sym (lacks_bit b k (f ∙ e))
