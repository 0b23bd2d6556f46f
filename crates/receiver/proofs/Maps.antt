-- Laws of the received map: which numbers are in it, and what its count of ones says. Assumes nothing.
use Rattle.std.proofs.Common.{◌≡◌, ℕ, zero, suc, ◌+◌, ◌-◌, ◌*◌, ◌/◌, ◌%◌, ◌^◌, ◌<◌, max, ◌⊎◌, bit_or, inl, inr, ⊎_elim, one-mul, pow-suc, div-one, arith, pow-add}
use native.Mathlib.Nat.{zero-div, div-eq_of_lt, mul-mod_left, pow-succ', div-div-eq-div-mul}
use native.Mathlib.Decide.{ℕ_discrete}
use lib.Bits.{or_shr, or_step, or_lt}
use lib.Pow.{pow-lt, shl-shr}
use lib.Count.{ones, ones-le, ones_step}
use Rattle.std.proofs.lemmas.Bool.{cases_order}
use Rattle.receiver.specs.Map.{bit_of, In, with_bit}

-- ---- one number added

-- nothing is in the empty map
pub none_in : (k : ℕ) → In k 0 → ⊥
none_in k h = let e : bit_of 0 k ≡ 0 = rw zero-div in omega arith

pub bit-or : (a b k : ℕ) → bit_of (bit_or a b) k ≡ max (bit_of a k) (bit_of b k)
bit-or a b k = rw (or_shr a b k) (omega (arith, or_step (a / 2 ^ k) (b / 2 ^ k)))

-- two numbers are equal or differ one way round
pub compared : (j k : ℕ) → (j < k) ⊎ ((j ≡ k) ⊎ (k < j))
compared j k = ⊎_elim (λ e. inr (inl e)) (⊎_elim inl (λ h. inr (inr h))) (cases_order j k)

-- 2 ^ k has bit k and no other
pub bit_here : (k : ℕ) → bit_of (2 ^ k) k ≡ 1
bit_here k = let e : 2 ^ k / 2 ^ k ≡ 1 = rw one-mul at (shl-shr 1 k) in rw e

bit_below : (j d : ℕ) → bit_of (2 ^ (suc d + j)) j ≡ 0
bit_below j d =
    let e : 2 ^ (suc d + j) / 2 ^ j ≡ 2 ^ d * 2 = rw (pow-add 2 (suc d) j, shl-shr (2 ^ suc d) j) (pow-suc 2 d) in
    rw e (mul-mod_left (2 ^ d) 2)

-- it has no other bit
pub bit_elsewhere : (k j : ℕ) → (j ≡ k → ⊥) → bit_of (2 ^ k) j ≡ 0
bit_elsewhere k j ne = ⊎_elim (λ e. absurd (ne e)) (⊎_elim below above) (cases_order j k)
  where
    below : j < k → bit_of (2 ^ k) j ≡ 0
    below h = let e : k ≡ suc (k - suc j) + j = omega arith in rw e (bit_below j (k - suc j))

    above : k < j → bit_of (2 ^ k) j ≡ 0
    above h = let e : 2 ^ k / 2 ^ j ≡ 0 = div-eq_of_lt (pow-lt h) in rw e

-- the number that was added is in the map
pub in_added : (m k : ℕ) → In k (with_bit m k)
in_added m k = omega (arith, bit-or m (2 ^ k) k, bit_here k)

-- what was in it stays
pub in_kept : (m k j : ℕ) → In j m → In j (with_bit m k)
in_kept m k j h = go (ℕ_discrete j k)
  where
    go : Dec (j ≡ k) → In j (with_bit m k)
    go (yes e) = rw e (in_added m k)
    go (no ne) = omega (arith, bit-or m (2 ^ k) j, bit_elsewhere k j ne)

-- and nothing else comes into it
pub in_either : (m k j : ℕ) → In j (with_bit m k) → (j ≡ k) ⊎ In j m
in_either m k j h = go (ℕ_discrete j k)
  where
    go : Dec (j ≡ k) → (j ≡ k) ⊎ In j m
    go (yes e) = inl e
    go (no ne) = inr (omega (arith, bit-or m (2 ^ k) j, bit_elsewhere k j ne))

-- a map of numbers below n stays one
pub added_lt : (n m k : ℕ) → m < 2 ^ n → k < n → with_bit m k < 2 ^ n
added_lt n m k h l = or_lt n m (2 ^ k) h (pow-lt l)

-- ---- complete: of a map of numbers below n, as many ones as n says that all are there

bit_next : (m k : ℕ) → bit_of m (suc k) ≡ bit_of (m / 2) k
bit_next m k = rw (pow-succ' 2 k, ← div-div-eq-div-mul m 2 (2 ^ k))

half : (n m : ℕ) → m < 2 ^ suc n → m / 2 < 2 ^ n
half n m b = omega (arith, pow-suc 2 n)

-- as many ones as n: all below n are in it
pub ones_all : (n m : ℕ) → m < 2 ^ n → ones m ≡ n → (k : ℕ) → k < n → In k m
ones_all zero m b e k h = absurd (omega arith)
ones_all (suc n) m b e zero h =
    let z : m / 2 ^ 0 ≡ m = div-one m in
    rw z (omega (arith, ones_step m, ones-le n (m / 2) (half n m b)))
ones_all (suc n) m b e (suc k) h =
    rw (bit_next m k) (ones_all n (m / 2) (half n m b) (omega (arith, ones_step m, ones-le n (m / 2) (half n m b))) k (omega arith))

-- all below n are in it: as many ones as n
pub all_ones : (n m : ℕ) → m < 2 ^ n → ((k : ℕ) → k < n → In k m) → ones m ≡ n
all_ones zero m b h = omega (arith, ones-le 0 m b)
all_ones (suc n) m b h =
    let z : m / 2 ^ 0 ≡ m = div-one m in
    let low : m % 2 ≡ 1 = rw z at (h 0 (omega arith)) in
    omega (arith, ones_step m, all_ones n (m / 2) (half n m b) (λ k c. rw (bit_next m k) at (h (suc k) (omega arith))))

-- the empty map has no ones
pub ones_none : ones 0 ≡ 0
ones_none = omega (arith, ones-le 0 0 (omega arith))
