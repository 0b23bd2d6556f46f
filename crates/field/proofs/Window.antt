-- A run of octets as one number, and what shifts, masks and `|` do to such numbers. Assumes nothing.
use Rattle.std.proofs.Common.{◌≡◌, ℕ, suc, ◌+◌, ◌-◌, ◌*◌, ◌/◌, ◌%◌, ◌^◌, ◌<◌, ◌≤◌, min, Bool, List, [], ◌∷◌, ◌++◌, length, get_or, take, drop, bit_and, bit_or, fold, sym, refl, ap, ◌∙◌, ap₂, append-nil, lt_of_lt_of_le, mod-eq_of_lt, one-mul, arith, length-drop, take-append-drop, length-take, get_or-drop, take-suc, drop-drop, pow_pos, pow_mono, pow-add, shl_exact, w64}
use lib.Arith.{digits_lt}
use lib.Pow.{pow-lt}
use lib.Bits.{or_shifted, and_mask}
use lib.Seq.{take-length}
use Rattle.std.specs.Int.{from_be_bytes}
use Rattle.field.specs.Bits.{Octets, bits, value, bits_of, field}
use Rattle.field.specs.Spans.{Placed}
use Rattle.field.proofs.Laws.{bits_of-take, bits_of-drop, length-field, field-value, field-left, length-bits, value-append, value-bits_lt, bits_of-append, length-bits_of}

-- the number that the n octets from octet f on are, top octet first
abbrev pub window : List ℕ → ℕ → ℕ → ℕ
window s f n = value (bits_of (take n (drop f s)))

-- `(acc << 8) | x`, in 64 bits
pub shift_in : (acc x : ℕ) → acc < 2 ^ 56 → x < 2 ^ 8 → bit_or ((acc * 2 ^ 8) % 2 ^ 64) x ≡ acc * 2 ^ 8 + x
shift_in acc x h k = rw (shl_exact 56 8 64 h (omega arith)) (or_shifted acc 8 x k)

module _ (s : List ℕ) (f n : ℕ) where
  pub length-window : f + n ≤ length s → length (bits_of (take n (drop f s))) ≡ 8 * n
  length-window h = simp (length-bits_of, length-take, length-drop) (omega arith)

  -- one octet more
  pub window-suc : f + n < length s → get_or s (f + n) 0 < 2 ^ 8 → window s f (suc n) ≡ window s f n * 2 ^ 8 + get_or s (f + n) 0
  unfolding bits_of
  window-suc h k =
      let l : n < length (drop f s) = simp length-drop (omega arith) in
      ap (λ (x : List ℕ). value (bits_of x)) (take-suc (drop f s) n 0 l)
      ∙ ap value (bits_of-append (take n (drop f s)) (get_or (drop f s) n 0 ∷ []))
      ∙ ap (λ (x : ℕ). value (bits_of (take n (drop f s)) ++ (bits 8 x ++ []))) (get_or-drop f s n 0)
      ∙ ap (λ (x : List Bool). value (bits_of (take n (drop f s)) ++ x)) (append-nil (bits 8 (get_or s (f + n) 0)))
      ∙ value-append (bits_of (take n (drop f s))) (bits 8 (get_or s (f + n) 0))
      ∙ ap₂ (λ (x y : ℕ). window s f n * 2 ^ x + y) (length-bits 8 (get_or s (f + n) 0)) (value-bits_lt 8 k)

-- eight octets as one number
pub be-value : (s : List ℕ) → length s ≡ 8 → Octets s → from_be_bytes w64 s ≡ value (bits_of s)
unfolding bits_of value
be-value s l o =
    let none : window s 0 0 ≡ 0 = refl in
    let all : window s 0 8 ≡ value (bits_of s) = ap (λ (x : List ℕ). value (bits_of x)) (ap (λ (n : ℕ). take n s) (sym l) ∙ take-length s) in
    omega (
      arith,
      window-suc s 0 0 (omega arith) (o 0),
      window-suc s 0 1 (omega arith) (o 1),
      window-suc s 0 2 (omega arith) (o 2),
      window-suc s 0 3 (omega arith) (o 3),
      window-suc s 0 4 (omega arith) (o 4),
      window-suc s 0 5 (omega arith) (o 5),
      window-suc s 0 6 (omega arith) (o 6),
      window-suc s 0 7 (omega arith) (o 7),
    )

-- fewer octets, shifted in one after the other
pub fold-value : (s : List ℕ) (k : ℕ) {a : ℕ} → Octets s → k + length s ≤ 8 → a < 2 ^ (8 * k)
    → fold (λ (x y : ℕ). bit_or ((x * 2 ^ 8) % 2 ^ 64) y) a s ≡ a * 2 ^ (8 * length s) + value (bits_of s)
unfolding bits_of value
fold-value [] k {a} o l h = omega arith
fold-value (x ∷ s) k {a} o l h =
    let b : a < 2 ^ 56 = lt_of_lt_of_le h (pow_mono {i = 8 * k} {j = 56} (omega arith)) in
    let m : 8 * suc k ≡ 8 * k + 8 = omega arith in
    let n : 8 * suc (length s) ≡ 8 * length s + 8 = omega arith in
    let next : a * 2 ^ 8 + x < 2 ^ (8 * suc k) = rw (m, pow-add 2 (8 * k) 8) (digits_lt h (o 0)) in
    let v : value (bits 8 x ++ bits_of s) ≡ x * 2 ^ (8 * length s) + value (bits_of s) =
    value-append (bits 8 x) (bits_of s) ∙ ap₂ (λ (y z : ℕ). y * 2 ^ z + value (bits_of s)) (value-bits_lt 8 (o 0)) (length-bits_of s) in
    ap (λ (y : ℕ). fold (λ (y z : ℕ). bit_or ((y * 2 ^ 8) % 2 ^ 64) z) y s) (shift_in a x b (o 0))
    ∙ fold-value s (suc k) (λ i. o (suc i)) (omega arith) next
    ∙ rw (n, pow-add 2 (8 * length s) 8, v) (omega arith)

-- `(1 << w) - 1`, in 64 bits
pub one_shl : (w : ℕ) → w < 64 → (1 * 2 ^ w) % 2 ^ 64 ≡ 2 ^ w
one_shl w h = rw one-mul (mod-eq_of_lt (pow-lt h))

-- a mask of w bits can be made
pub one_shl_pos : (w : ℕ) → w < 64 → 1 ≤ (1 * 2 ^ w) % 2 ^ 64
one_shl_pos w h = rw (one_shl w h) (pow_pos w)

-- a field of a part of the bits is one of the whole
pub field_part : (q m p w : ℕ) (bs : List Bool) → q + m ≤ length bs → p + w ≤ m → field p w (take m (drop q bs)) ≡ field (q + p) w bs
unfolding field
field_part q m p w bs h k =
    let l : p + w ≤ length (take m (drop q bs)) = simp (length-take, length-drop) (omega arith) in
    sym (field-left p w (take m (drop q bs)) (drop m (drop q bs)) l)
    ∙ ap (field p w) (take-append-drop m (drop q bs))
    ∙ ap (λ (x : List Bool). value (take w x)) (drop-drop p q bs)

-- the octets from f on hold the field of w bits at bit offset o
pub record Holds (s : List ℕ) (o w f n : ℕ) : Type 0 where
  pub starts : 8 * f ≤ o
  pub ends : o + w ≤ 8 * (f + n)
  pub there : f + n ≤ length s
  pub word : n ≤ 8
  pub some : 1 ≤ w
  pub most : w ≤ 50

-- eight octets from the field's first on, or the last eight, hold it
pub window_holds : (s : List ℕ) (o w n f : ℕ) → Placed s o w → n ≡ min (length s) 8 → f ≡ min (o / 8) (length s - n) → Holds s o w f n
window_holds s o w n f p en ef = omega arith

-- the n octets from f on, as the bits that they are in the whole
pub window-bits : (s : List ℕ) (f n : ℕ) → bits_of (take n (drop f s)) ≡ take (8 * n) (drop (8 * f) (bits_of s))
window-bits s f n = sym (bits_of-take n (drop f s)) ∙ ap (take (8 * n)) (sym (bits_of-drop f s))

-- the octets that hold a field, shifted and masked
pub read_law : (s : List ℕ) (o w f n : ℕ) {x : ℕ} → Holds s o w f n → x ≡ window s f n
    → bit_and (x / 2 ^ (8 * (f + n) - (o + w))) ((1 * 2 ^ w) % 2 ^ 64 - 1) ≡ field o w (bits_of s)
read_law s o w f n h ex =
    let octs : List Bool = bits_of (take n (drop f s)) in
    let l : length octs ≡ 8 * n = length-window s f n h.there in
    let k : 8 * (f + n) - (o + w) ≡ length octs - ((o - 8 * f) + w) = omega arith in
    let b : 8 * f + 8 * n ≤ length (bits_of s) = omega (arith, length-bits_of s) in
    let e : 8 * f + (o - 8 * f) ≡ o = omega arith in
    ap₂ (λ (y m : ℕ). bit_and (y / 2 ^ (8 * (f + n) - (o + w))) (m - 1)) ex (one_shl w (omega arith))
    ∙ and_mask (window s f n / 2 ^ (8 * (f + n) - (o + w))) w
    ∙ ap (λ (m : ℕ). window s f n / 2 ^ m % 2 ^ w) k
    ∙ field-value (o - 8 * f) w octs (omega arith)
    ∙ ap (field (o - 8 * f) w) (window-bits s f n)
    ∙ field_part (8 * f) (8 * n) (o - 8 * f) w (bits_of s) b (omega arith)
    ∙ ap (λ (m : ℕ). field m w (bits_of s)) e

-- a field of a field, by division: what follows it in the wider one is shifted out, what precedes it is masked out
pub subfield : (o w p u : ℕ) (bs : List Bool) {x : ℕ} → o + w ≤ length bs → p + u ≤ w → x ≡ field o w bs → x / 2 ^ (w - (p + u)) % 2 ^ u ≡ field (o + p) u bs
unfolding field
subfield o w p u bs h k e =
    let l : length (take w (drop o bs)) ≡ w = length-field o w bs h in
    ap (λ (x : ℕ). x / 2 ^ (w - (p + u)) % 2 ^ u) e
    ∙ ap (λ (n : ℕ). value (take w (drop o bs)) / 2 ^ (n - (p + u)) % 2 ^ u) (sym l)
    ∙ field-value p u (take w (drop o bs)) (rw l k)
    ∙ field_part o w p u bs h k
