-- The first n frames and the Continues among them, how many they are, and how low the front of a set is. Assumes nothing.
use Rattle.std.proofs.Common.{◌≡◌, ℕ, zero, suc, ◌+◌, ◌-◌, ◌/◌, ◌%◌, ◌^◌, ◌<◌, ◌≤◌, Bool, true, false, ◌&&◌, ltb, sym, refl, ap, ◌∙◌, arith, pow_pos, ltb-false, ltb-true, le-ltb, lt-ltb}
use native.Mathlib.Nat.{two-pow-succ}
use lib.Count.{ones, ones_step, count_trailing_zeros, under}
use Rattle.receiver.specs.Map.{bit_of}
use Rattle.receiver.proofs.Maps.{ones_all, all_ones}
use Rattle.transfer.specs.Queue.{has, first_frames, continues_of, front}
use Rattle.transfer.proofs.Bitsets.{bit_first, bit_next, below_bits, bit-has, bit_lacks}

-- each of the first n frames is one of them
pub bit_firsts : (n k : ℕ) → k < n → bit_of (first_frames n) k ≡ 1
bit_firsts zero k h = absurd (omega arith)
bit_firsts (suc n) zero h = let two : 2 ^ suc n ≡ 2 ^ n + 2 ^ n = two-pow-succ n in bit_first (first_frames (suc n)) ∙ omega (arith, pow_pos n)
bit_firsts (suc n) (suc k) h =
    let two : 2 ^ suc n ≡ 2 ^ n + 2 ^ n = two-pow-succ n in
    let half : first_frames (suc n) / 2 ≡ first_frames n = omega (arith, pow_pos n) in
    bit_next (first_frames (suc n)) k ∙ (ap (λ (q : ℕ). bit_of q k) half ∙ bit_firsts n k (omega arith))

-- the later ones are its Continues
pub bit-continue : (n k : ℕ) → suc k < n → bit_of (continues_of n) (suc k) ≡ 1
bit-continue zero k h = absurd (omega arith)
bit-continue (suc n) k h =
    let two : 2 ^ suc n ≡ 2 ^ n + 2 ^ n = two-pow-succ n in
    let half : continues_of (suc n) / 2 ≡ first_frames n = omega (arith, pow_pos n) in
    bit_next (continues_of (suc n)) k ∙ (ap (λ (q : ℕ). bit_of q k) half ∙ bit_firsts n k (omega arith))

-- all of them and no Begin: one fewer than n
pub count_continues : (n q : ℕ) → q < 2 ^ n → 1 ≤ n → bit_of q 0 ≡ 0 → ((k : ℕ) → suc k < n → bit_of q (suc k) ≡ 1) → ones q ≡ n - 1
count_continues zero q low h b f = absurd (omega arith)
count_continues (suc n) q low h b f =
    let two : 2 ^ suc n ≡ 2 ^ n + 2 ^ n = two-pow-succ n in
    let even : q % 2 ≡ 0 = sym (bit_first q) ∙ b in
    let rest : ones (q / 2) ≡ n = all_ones n (q / 2) (omega arith) (λ k l. sym (bit_next q k) ∙ f k (omega arith)) in
    omega (arith, ones_step q)

-- and one fewer than n with no Begin: all of them
pub continues-counted : (n q : ℕ) → q < 2 ^ n → bit_of q 0 ≡ 0 → ones q ≡ n - 1 → (k : ℕ) → k < n - 1 → bit_of q (suc k) ≡ 1
continues-counted zero q low b e k l = absurd (omega arith)
continues-counted (suc n) q low b e k l =
    let two : 2 ^ suc n ≡ 2 ^ n + 2 ^ n = two-pow-succ n in
    let even : q % 2 ≡ 0 = sym (bit_first q) ∙ b in
    bit_next q k ∙ ones_all n (q / 2) (omega arith) (omega (arith, ones_step q)) k (omega arith)

low_digit : (d n k q : ℕ) → q % 2 ≡ d → 0 < q → q < 2 ^ k → ((m : ℕ) → 0 < q / 2 → q / 2 < 2 ^ m → count_trailing_zeros n (q / 2) < m) → under d (count_trailing_zeros n (q / 2)) < k
low_digit zero n zero q e p h f = absurd (omega arith)
low_digit zero n (suc k) q e p h f =
    let two : 2 ^ suc k ≡ 2 ^ k + 2 ^ k = two-pow-succ k in
    let r = f k (omega arith) (omega arith) in
    omega arith
low_digit (suc d) n zero q e p h f = absurd (omega arith)
low_digit (suc d) n (suc k) q e p h f = omega arith

trailing_low : (n k q : ℕ) → 0 < q → q < 2 ^ k → count_trailing_zeros n q < k
unfolding count_trailing_zeros
trailing_low zero zero q p h = absurd (omega arith)
trailing_low zero (suc k) q p h = omega arith
trailing_low (suc n) k q p h = low_digit (q % 2) n k q refl p h (λ m a b. trailing_low n m (q / 2) a b)

-- the front of a set of frames below k is below k
pub front_low : (k q : ℕ) → 0 < q → q < 2 ^ k → front q < k
front_low k q p h = trailing_low 32 k q p h

-- the Continues of n frames are those from 1 to n − 1
pub has-continues : (n k : ℕ) → has (continues_of n) k ≡ (ltb 0 k && ltb k n)
has-continues zero k = go k
  where
    go : (k : ℕ) → has (continues_of 0) k ≡ (ltb 0 k && ltb k 0)
    go zero = refl
    go (suc k) = rw (lt-ltb 0 (suc k) (omega arith), le-ltb (suc k) 0 (omega arith)) (bit_lacks 0 (suc k) (below_bits 0 0 (suc k) (omega arith) (omega arith)))
has-continues (suc n) zero =
    let two : 2 ^ suc n ≡ 2 ^ n + 2 ^ n = two-pow-succ n in
    bit_lacks (continues_of (suc n)) 0 (bit_first (continues_of (suc n)) ∙ omega (arith, pow_pos n))
has-continues (suc n) (suc k) = go (ltb (suc k) (suc n)) refl
  where
    go : (t : Bool) → ltb (suc k) (suc n) ≡ t → has (continues_of (suc n)) (suc k) ≡ (ltb 0 (suc k) && t)
    go true e = rw (lt-ltb 0 (suc k) (omega arith)) (bit-has (continues_of (suc n)) (suc k) (bit-continue (suc n) k (ltb-true (suc k) (suc n) e)))
    go false e = rw (lt-ltb 0 (suc k) (omega arith)) (bit_lacks (continues_of (suc n)) (suc k) (below_bits (suc n) (continues_of (suc n)) (suc k) (omega (arith, pow_pos (suc n))) (ltb-false (suc k) (suc n) e)))

-- and all n are those below n
pub has_firsts : (n k : ℕ) → has (first_frames n) k ≡ ltb k n
has_firsts n k = go (ltb k n) refl
  where
    go : (t : Bool) → ltb k n ≡ t → has (first_frames n) k ≡ t
    go true e = bit-has (first_frames n) k (bit_firsts n k (ltb-true k n e))
    go false e = bit_lacks (first_frames n) k (below_bits n (first_frames n) k (omega (arith, pow_pos n)) (ltb-false k n e))
