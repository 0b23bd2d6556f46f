-- A queue as a number beside the Rust's list of frames: its front, its length, frames put at its back, all frames. Assumes nothing.
use Rattle.std.proofs.Common.{◌≡◌, ℕ, zero, suc, ◌+◌, ◌-◌, ◌/◌, ◌%◌, ◌^◌, ◌<◌, ◌≤◌, Bool, true, cond, ◌||◌, eqb, ltb, ◌⊎◌, List, ◌∷◌, length, sym, refl, ap, ◌∙◌, inl, inr, zero-add, arith, le-ltb, lt-ltb, eq-eqb, ne_eqb}
use native.Mathlib.Nat.{two-pow-succ}
use lib.Count.{ones, count_trailing_zeros, under, ones_step}
use Rattle.receiver.specs.Map.{with_bit}
use Rattle.receiver.proofs.Maps.{compared}
use Rattle.transfer.specs.declared.Transfer.{Transfer}
use Rattle.transfer.specs.Queue.{has, first_frames, frame_alone, front, one_left, frames_from, frames_of}
use Rattle.transfer.specs.Transfer.{queued, idle, last_queued}
use Rattle.transfer.specs.Literal.{collected, last_pushed}
use Rattle.transfer.proofs.Bitsets.{bit_none, bit_lacks, has_alone, has_added, same_frames}
use Rattle.transfer.proofs.Frames.{has_firsts}
use Rattle.transfer.proofs.Alive.{idle_empty}

-- ---- the list of a queue

module _ (n k q : ℕ) (h : q < 2 ^ suc n) where
  abbrev rest : List ℕ
  rest = frames_from n (suc k) (q / 2)

  half : q / 2 < 2 ^ n
  half = let two : 2 ^ suc n ≡ 2 ^ n + 2 ^ n = two-pow-succ n in omega arith

-- it is as long as the set has frames
frames_length : (n k q : ℕ) → q < 2 ^ n → length (frames_from n k q) ≡ ones q
unfolding ones
frames_length zero k q h = let z : q ≡ 0 = omega arith in rw z
frames_length (suc n) k q h = go (q % 2) refl (frames_length n (suc k) (q / 2) (half n k q h))
  where
    go : (d : ℕ) → q % 2 ≡ d → length (rest n k q h) ≡ ones (q / 2) → length (cond (eqb d 1) (k ∷ rest n k q h) (rest n k q h)) ≡ ones q
    go zero e later = omega (arith, ones_step q)
    go (suc zero) e later = omega (arith, ones_step q)
    go (suc (suc d)) e later = absurd (omega arith)

-- and begins with the lowest
frames_first : (m n k q : ℕ) → 0 < q → q < 2 ^ n → n ≤ m → (more : List ℕ) × (frames_from n k q ≡ (k + count_trailing_zeros m q) ∷ more)
unfolding count_trailing_zeros
frames_first m zero k q p h l = absurd (omega arith)
frames_first zero (suc n) k q p h l = absurd (omega arith)
frames_first (suc m) (suc n) k q p h l = go (q % 2) refl (λ z. frames_first m n (suc k) (q / 2) z (half n k q h) (omega arith))
  where
    go : (d : ℕ) → q % 2 ≡ d → (0 < q / 2 → (more : List ℕ) × (rest n k q h ≡ (suc k + count_trailing_zeros m (q / 2)) ∷ more)) → (more : List ℕ) × (cond (eqb d 1) (k ∷ rest n k q h) (rest n k q h) ≡ (k + under d (count_trailing_zeros m (q / 2))) ∷ more)
    go zero e f =
        let r = f (omega arith) in
        let s : suc k + count_trailing_zeros m (q / 2) ≡ k + suc (count_trailing_zeros m (q / 2)) = omega arith in
        (r.0, r.1 ∙ ap (λ (i : ℕ). i ∷ r.0) s)
    go (suc zero) e f = (rest n k q h, ap (λ (i : ℕ). i ∷ rest n k q h) (omega arith))
    go (suc (suc d)) e f = absurd (omega arith)

-- a queue's list begins with its front, and has one frame exactly if one is left
pub listed_front : (q : ℕ) → 0 < q → q < 2 ^ 27 → (more : List ℕ) × (frames_of q ≡ front q ∷ more) × (eqb (length (front q ∷ more)) 1 ≡ one_left q)
unfolding frames_of
listed_front q p h =
    let r = frames_first 32 27 0 q p h (omega arith) in
    let first : frames_of q ≡ front q ∷ r.0 = r.1 ∙ ap (λ (i : ℕ). i ∷ r.0) (zero-add (front q)) in
    (r.0, first, ap (λ (n : ℕ). eqb n 1) (sym (ap (λ (l : List ℕ). length l) first) ∙ frames_length 27 0 q h))

-- ---- frames put into a queue

-- one put into an empty queue is alone in it
pub pushed_alone : (x : Transfer) → idle x ≡ true → last_pushed x ≡ last_queued x
pushed_alone x h =
    let k = x.parcel.frames - 1 in
    let z = (idle_empty x h).0 in
    ap (queued x) (same_frames (with_bit x.sets.queue k) (frame_alone k) (λ j. has_added x.sets.queue k j ∙ (ap (λ (q : ℕ). has q j || eqb j k) z ∙ (ap (λ (b : Bool). b || eqb j k) (bit_lacks 0 j (bit_none j)) ∙ sym (has_alone k j)))))

-- the frame that is put in last
collected-has : (n k : ℕ) → has (collected n) k ≡ ltb k n
collected-has zero k = bit_lacks 0 k (bit_none k) ∙ sym (le-ltb k 0 (omega arith))
collected-has (suc n) k = has_added (collected n) n k ∙ (ap (λ (b : Bool). b || eqb k n) (collected-has n k) ∙ go (compared k n))
  where
    go : (k < n) ⊎ ((k ≡ n) ⊎ (n < k)) → (ltb k n || eqb k n) ≡ ltb k (suc n)
    go (inl l) = rw (lt-ltb k n l, lt-ltb k (suc n) (omega arith))
    go (inr (inl e)) = rw (le-ltb k n (omega arith), eq-eqb k n e, lt-ltb k (suc n) (omega arith))
    go (inr (inr l)) = rw (le-ltb k n (omega arith), ne_eqb k n (λ e. omega arith), le-ltb k (suc n) (omega arith))

-- all frames are put in
pub collected_all : (n : ℕ) → collected n ≡ first_frames n
collected_all n = same_frames (collected n) (first_frames n) (λ k. collected-has n k ∙ sym (has_firsts n k))
