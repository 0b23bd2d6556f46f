-- Fields put into bits: one after another, into an octet, into a part. And what a run of octets with a field put into it is as a number.
-- Assumes nothing.
use Rattle.std.proofs.Common.{◌≡◌, ℕ, zero, suc, ◌+◌, ◌-◌, ◌*◌, ◌/◌, ◌%◌, ◌^◌, ◌<◌, ◌≤◌, min, Bool, List, [], ◌∷◌, ◌++◌, length, take, drop, bit_and, sym, refl, ap, ◌∙◌, ap₂, append_assoc, append-nil, lt_of_le_of_lt, add-zero, add_assoc, add-suc, mod-lt, mod-eq_of_lt, pow-suc, zero-add, div-one, arith, length-append, length-drop, take-append-drop, length-take, take-take, drop-drop, take_at, take-add, pow_pos, pow-add, shl_exact, shr-shr, shr_lt}
use native.Mathlib.Nat.{zero-min, min-zero, suc-min-suc}
use lib.Arith.{digits_lt}
use lib.Pow.{high, low, split}
use lib.Bits.{and_mask}
use lib.Seq.{take-nil, take-length, drop-append-add, drop-append-le}
use Rattle.std.specs.Int.{byte_at, bytes_high_first}
use borrow.Rule.Slice.PartMut.{put_mid}
use Rattle.field.specs.Bits.{bits, value, bits_of, field, put, splice}
use Rattle.field.proofs.Laws.{length-bits, length-field, length-put, value_lt, value-append, value-bits, bits-append, bits-value, bits-mod, bits_of-append, bits_of-take, bits_of-drop, length-bits_of}
use Rattle.field.proofs.Window.{window, Holds, window-bits, one_shl, length-window}

-- n octets count up to 2 ^ (8 * n)
octets_pow : (n : ℕ) → 256 ^ n ≡ 2 ^ (8 * n)
octets_pow zero = refl
octets_pow (suc n) =
    let e : 8 * suc n ≡ 8 * n + 8 = omega arith in
    pow-suc 256 n ∙ ap (λ (m : ℕ). m * 256) (octets_pow n) ∙ sym (pow-add 2 (8 * n) 8) ∙ ap (λ (m : ℕ). 2 ^ m) (sym e)

-- byte n of a number
byte : (n x : ℕ) → byte_at n x ≡ x / 2 ^ (8 * n) % 2 ^ 8
byte zero x = rw (div-one x)
byte (suc n) x = ap (λ (m : ℕ). x / m % 2 ^ 8) (octets_pow (suc n))

-- the low n octets of a number, the highest first, are its low bits
pub be-bits : (n x : ℕ) → bits_of (bytes_high_first n x) ≡ bits (8 * n) x
unfolding bits_of bits
be-bits zero x = refl
be-bits (suc n) x =
    let e : 8 * suc n ≡ 8 + 8 * n = omega arith in
    ap₂ (λ (a b : List Bool). a ++ b) (ap (bits 8) (byte n x) ∙ bits-mod 8 (x / 2 ^ (8 * n))) (be-bits n x)
    ∙ sym (bits-append 8 (8 * n) x)
    ∙ ap (λ (m : ℕ). bits m x) (sym e)

-- the last n octets of more are the low n
pub low_octets : (k n x : ℕ) → drop k (bytes_high_first (n + k) x) ≡ bytes_high_first n x
low_octets zero n x = ap (λ (m : ℕ). bytes_high_first m x) (add-zero n)
low_octets (suc k) n x = ap (λ (m : ℕ). drop (suc k) (bytes_high_first m x)) (add-suc n k) ∙ low_octets k n x

length-bytes : (n x : ℕ) → length (bytes_high_first n x) ≡ n
length-bytes zero x = refl
length-bytes (suc n) x = ap suc (length-bytes n x)

pub last_octets : (n x : ℕ) → n ≤ 8 → take (8 - (8 - n)) (drop (8 - n) (bytes_high_first 8 x)) ≡ bytes_high_first n x
last_octets n x h =
    let m : 8 ≡ n + (8 - n) = omega arith in
    let t : 8 - (8 - n) ≡ length (bytes_high_first n x) = omega (arith, length-bytes n x) in
    ap₂ take t (ap (λ (k : ℕ). drop (8 - n) (bytes_high_first k x)) m ∙ low_octets (8 - n) n x) ∙ take-length (bytes_high_first n x)

-- n octets from octet f on
pub length-mid : (s : List ℕ) (f n : ℕ) → f + n ≤ length s → length (take n (drop f s)) ≡ n
length-mid s f n h = simp (length-take, length-drop) (omega arith)

-- octets put in the place of n others, from octet f on
pub mid-put : (s ys : List ℕ) (f n y : ℕ) → bits_of ys ≡ bits (8 * n) y → bits_of (put_mid f n s ys) ≡ put (8 * f) (8 * n) y (bits_of s)
unfolding put
mid-put s ys f n y e =
    bits_of-append (take f s) (ys ++ drop n (drop f s))
    ∙ ap₂ (λ (a b : List Bool). a ++ b) (sym (bits_of-take f s))
    (bits_of-append ys (drop n (drop f s))
    ∙ ap₂ (λ (a b : List Bool). a ++ b) e
    (sym (bits_of-drop n (drop f s)) ∙ ap (drop (8 * n)) (sym (bits_of-drop f s)) ∙ drop-drop (8 * n) (8 * f) (bits_of s)))
    ∙ sym (append_assoc (take (8 * f) (bits_of s)) (bits (8 * n) y) (drop (8 * f + 8 * n) (bits_of s)))

-- the first n bits of some, and those after them, as numbers
pub value-take : (n : ℕ) (bs : List Bool) → n ≤ length bs → value (take n bs) ≡ value bs / 2 ^ (length bs - n)
value-take n bs h =
    let l : length (drop n bs) ≡ length bs - n = length-drop n bs in
    let e : value bs ≡ value (take n bs) * 2 ^ length (drop n bs) + value (drop n bs) =
    ap value (sym (take-append-drop n bs)) ∙ value-append (take n bs) (drop n bs) in
    rw (← l) (sym (high (value (take n bs)) (length (drop n bs)) (value_lt (drop n bs))) ∙ ap (λ (x : ℕ). x / 2 ^ length (drop n bs)) (sym e))

pub value-drop : (n : ℕ) (bs : List Bool) → n ≤ length bs → value (drop n bs) ≡ value bs % 2 ^ (length bs - n)
value-drop n bs h =
    let l : length (drop n bs) ≡ length bs - n = length-drop n bs in
    let e : value bs ≡ value (take n bs) * 2 ^ length (drop n bs) + value (drop n bs) =
    ap value (sym (take-append-drop n bs)) ∙ value-append (take n bs) (drop n bs) in
    rw (← l) (sym (low (value (take n bs)) (length (drop n bs)) (value_lt (drop n bs))) ∙ ap (λ (x : ℕ). x % 2 ^ length (drop n bs)) (sym e))

-- the number of bits with a field put into them
pub value-put : (r w k v : ℕ) (bs : List Bool) → length bs ≡ r + w + k
    → value (put r w v bs) ≡ (value bs / 2 ^ (k + w) * 2 ^ w + v % 2 ^ w) * 2 ^ k + value bs % 2 ^ k
unfolding put
value-put r w k v bs e =
    let a : length (drop (r + w) bs) ≡ k = simp length-drop (omega arith) in
    let b : length bs - r ≡ k + w = omega arith in
    let d : length bs - (r + w) ≡ k = omega arith in
    let t : value (take r bs) ≡ value bs / 2 ^ (k + w) = value-take r bs (omega arith) ∙ ap (λ (m : ℕ). value bs / 2 ^ m) b in
    let u : value (drop (r + w) bs) ≡ value bs % 2 ^ k = value-drop (r + w) bs (omega arith) ∙ ap (λ (m : ℕ). value bs % 2 ^ m) d in
    value-append (take r bs ++ bits w v) (drop (r + w) bs)
    ∙ ap₂ (λ (x y : ℕ). x * 2 ^ y + value (drop (r + w) bs)) (value-append (take r bs) (bits w v)) a
    ∙ ap₂ (λ (x y : ℕ). (value (take r bs) * 2 ^ x + y) * 2 ^ k + value (drop (r + w) bs)) (length-bits w v) (value-bits w v)
    ∙ ap₂ (λ (x y : ℕ). (x * 2 ^ w + v % 2 ^ w) * 2 ^ k + y) t u

-- a number is what stands above w of its bits, those bits, and what stands below them
around : (x w k : ℕ) → x ≡ (x / 2 ^ (k + w) * 2 ^ w + x / 2 ^ k % 2 ^ w) * 2 ^ k + x % 2 ^ k
around x w k =
    sym (split x k)
    ∙ ap (λ (m : ℕ). m * 2 ^ k + x % 2 ^ k)
    (sym (split (x / 2 ^ k) w) ∙ ap (λ (m : ℕ). m * 2 ^ w + x / 2 ^ k % 2 ^ w) (shr-shr x k w))

-- `exchange`, in 64 bits: w bits of a number taken away, and as many others added
module _ (x k w v : ℕ) (fits : x < 2 ^ 64) (some : 1 ≤ w) (most : w ≤ 50) (word : k + w ≤ 64) where
  old_bits : (bit_and (x / 2 ^ k) ((1 * 2 ^ w) % 2 ^ 64 - 1) * 2 ^ k) % 2 ^ 64 ≡ x / 2 ^ k % 2 ^ w * 2 ^ k
  old_bits =
      let le : x / 2 ^ k % 2 ^ w * 2 ^ k ≤ x = omega (arith, around x w k) in
      ap (λ (m : ℕ). (bit_and (x / 2 ^ k) (m - 1) * 2 ^ k) % 2 ^ 64) (one_shl w (omega arith))
      ∙ ap (λ (m : ℕ). (m * 2 ^ k) % 2 ^ 64) (and_mask (x / 2 ^ k) w)
      ∙ mod-eq_of_lt (lt_of_le_of_lt le fits)

  new_bits : (bit_and v ((1 * 2 ^ w) % 2 ^ 64 - 1) * 2 ^ k) % 2 ^ 64 ≡ v % 2 ^ w * 2 ^ k
  new_bits =
      ap (λ (m : ℕ). (bit_and v (m - 1) * 2 ^ k) % 2 ^ 64) (one_shl w (omega arith))
      ∙ ap (λ (m : ℕ). (m * 2 ^ k) % 2 ^ 64) (and_mask v w)
      ∙ shl_exact w k 64 (mod-lt v (pow_pos w)) (omega arith)

  pub old_le : (bit_and (x / 2 ^ k) ((1 * 2 ^ w) % 2 ^ 64 - 1) * 2 ^ k) % 2 ^ 64 ≤ x
  old_le = rw old_bits (omega (arith, around x w k))

  pub exchanged : (x - (bit_and (x / 2 ^ k) ((1 * 2 ^ w) % 2 ^ 64 - 1) * 2 ^ k) % 2 ^ 64) + (bit_and v ((1 * 2 ^ w) % 2 ^ 64 - 1) * 2 ^ k) % 2 ^ 64
      ≡ (x / 2 ^ (k + w) * 2 ^ w + v % 2 ^ w) * 2 ^ k + x % 2 ^ k
  exchanged = rw (old_bits, new_bits) (omega (arith, around x w k))

  pub exchanged_lt : (x / 2 ^ (k + w) * 2 ^ w + v % 2 ^ w) * 2 ^ k + x % 2 ^ k < 2 ^ 64
  exchanged_lt =
      let j : ℕ = 64 - (k + w) in
      let a : j + (k + w) ≡ 64 = omega arith in
      let b : j + w + k ≡ 64 = omega arith in
      let h : x / 2 ^ (k + w) < 2 ^ j = shr_lt j (k + w) (rw a fits) in
      let m : x / 2 ^ (k + w) * 2 ^ w + v % 2 ^ w < 2 ^ (j + w) = rw (pow-add 2 j w) (digits_lt h (mod-lt v (pow_pos w))) in
      let l : (x / 2 ^ (k + w) * 2 ^ w + v % 2 ^ w) * 2 ^ k + x % 2 ^ k < 2 ^ (j + w + k) = rw (pow-add 2 (j + w) k) (digits_lt m (mod-lt x (pow_pos k))) in
      rw b at l

regroup : (a b c d e : List Bool) → (a ++ ((b ++ c) ++ d)) ++ e ≡ ((a ++ b) ++ c) ++ (d ++ e)
regroup a b c d e = simp append_assoc

-- a field put into a part
pub put_part : (q m p w v : ℕ) (bs : List Bool) → q + m ≤ length bs → p + w ≤ m
    → (take q bs ++ put p w v (take m (drop q bs))) ++ drop (q + m) bs ≡ put (q + p) w v bs
unfolding put
put_part q m p w v bs h k =
    let t : List Bool = drop q bs in
    let l : p + w ≤ length (take m t) = simp (length-take, length-drop) (omega arith) in
    let e : take p (take m t) ≡ take p t = take-take p m t (omega arith) in
    let d : drop (p + w) (take m t) ++ drop (q + m) bs ≡ drop (q + p + w) bs =
    ap (λ (x : List Bool). drop (p + w) (take m t) ++ x) (sym (drop-drop m q bs))
    ∙ sym (drop-append-le (p + w) (take m t) (drop m t) l)
    ∙ ap (drop (p + w)) (take-append-drop m t)
    ∙ drop-drop (p + w) q bs
    ∙ ap (λ (x : ℕ). drop x bs) (sym (add_assoc q p w)) in
    regroup (take q bs) (take p (take m t)) (bits w v) (drop (p + w) (take m t)) (drop (q + m) bs)
    ∙ ap₂ (λ (x y : List Bool). (x ++ bits w v) ++ y) (ap (λ (x : List Bool). take q bs ++ x) e ∙ sym (take-add q p bs)) d

-- the octets that hold a field, loaded, changed and stored
pub write_law : (s : List ℕ) (o w v f n : ℕ) {x y : ℕ} → Holds s o w f n → x ≡ window s f n
    → y ≡ (x / 2 ^ (8 * (f + n) - (o + w) + w) * 2 ^ w + v % 2 ^ w) * 2 ^ (8 * (f + n) - (o + w)) + x % 2 ^ (8 * (f + n) - (o + w))
    → put (8 * f) (8 * n) y (bits_of s) ≡ put o w v (bits_of s)
unfolding put
write_law s o w v f n {x} {y} h ex ey =
    let k : ℕ = 8 * (f + n) - (o + w) in
    let r : ℕ = o - 8 * f in
    let octs : List Bool = bits_of (take n (drop f s)) in
    let l : length octs ≡ 8 * n = length-window s f n h.there in
    let num : y ≡ value (put r w v octs) =
    ey ∙ ap (λ (z : ℕ). (z / 2 ^ (k + w) * 2 ^ w + v % 2 ^ w) * 2 ^ k + z % 2 ^ k) ex ∙ sym (value-put r w k v octs (omega arith)) in
    let b : bits (8 * n) y ≡ put r w v octs = ap (bits (8 * n)) num ∙ bits-value (8 * n) (put r w v octs) (length-put r w octs (omega arith) v ∙ l) in
    let e : 8 * f + r ≡ o = omega arith in
    ap (λ (z : List Bool). (take (8 * f) (bits_of s) ++ z) ++ drop (8 * f + 8 * n) (bits_of s)) (b ∙ ap (put r w v) (window-bits s f n))
    ∙ put_part (8 * f) (8 * n) r w v (bits_of s) (omega (arith, length-bits_of s)) (omega arith)
    ∙ ap (λ (z : ℕ). put z w v (bits_of s)) e

-- nothing spliced
pub splice-nil : (o : ℕ) (bs : List Bool) → splice o [] bs ≡ bs
unfolding splice
splice-nil o bs = rw (append-nil (take o bs), add-zero o) (take-append-drop o bs)

-- a turn of the loop that copies bits: w bits more
pub copy_step : (bs src : List Bool) (d s k w : ℕ) → s + (k + w) ≤ length src → d + (k + w) ≤ length bs
    → put (d + k) w (field (s + k) w src) (splice d (take k (drop s src)) bs) ≡ splice d (take (k + w) (drop s src)) bs
unfolding put splice field
copy_step bs src d s k w hs hd =
    let r : List Bool = take k (drop s src) in
    let p : List Bool = take d bs ++ r in
    let lr : length r ≡ k = length-field s k src (omega arith) in
    let lp : length p ≡ d + k = simp (length-append, length-take, length-drop) (omega arith) in
    let lf : length (take (k + w) (drop s src)) ≡ k + w = length-field s (k + w) src hs in
    let t : take (d + k) (p ++ drop (d + length r) bs) ≡ p = take_at p (drop (d + length r) bs) (d + k) lp in
    let g : d + length r + w ≡ d + length (take (k + w) (drop s src)) = omega arith in
    let e : drop (d + k + w) (p ++ drop (d + length r) bs) ≡ drop (d + length (take (k + w) (drop s src))) bs =
    ap (λ (m : ℕ). drop (m + w) (p ++ drop (d + length r) bs)) (sym lp)
    ∙ drop-append-add p (drop (d + length r) bs) w
    ∙ drop-drop w (d + length r) bs
    ∙ ap (λ (m : ℕ). drop m bs) g in
    let f : r ++ bits w (value (take w (drop (s + k) src))) ≡ take (k + w) (drop s src) =
    ap (λ (l : List Bool). r ++ l) (bits-value w (take w (drop (s + k) src)) (length-field (s + k) w src (omega arith)) ∙ ap (take w) (sym (drop-drop k s src)))
    ∙ sym (take-add k w (drop s src)) in
    ap₂ (λ (a b : List Bool). (a ++ bits w (value (take w (drop (s + k) src)))) ++ b) t e
    ∙ ap (λ (l : List Bool). l ++ drop (d + length (take (k + w) (drop s src))) bs)
    (append_assoc (take d bs) r (bits w (value (take w (drop (s + k) src)))) ∙ ap (λ (l : List Bool). take d bs ++ l) f)

-- so of octets
pub copied : (old dst src new : List ℕ) (d o k w : ℕ) {v : ℕ}
    → bits_of new ≡ put (d + k) w v (bits_of dst) → v ≡ field (o + k) w (bits_of src) → bits_of dst ≡ splice d (take k (drop o (bits_of src))) (bits_of old)
    → o + (k + w) ≤ 8 * length src → d + (k + w) ≤ 8 * length old
    → bits_of new ≡ splice d (take (k + w) (drop o (bits_of src))) (bits_of old)
copied old dst src new d o k w en ev ed hs hd =
    en
    ∙ ap₂ (λ (x : ℕ) (bs : List Bool). put (d + k) w x bs) ev ed
    ∙ copy_step (bits_of old) (bits_of src) d o k w (omega (arith, length-bits_of src)) (omega (arith, length-bits_of old))

-- a run after what was written
pub splice-append : (p z run : List Bool) (o : ℕ) → length p ≡ o → splice o run (p ++ z) ≡ (p ++ run) ++ drop (length run) z
unfolding splice
splice-append p z run o e =
    ap₂ (λ (a b : List Bool). (a ++ run) ++ b) (take_at p z o e)
    (ap (λ (m : ℕ). drop (m + length run) (p ++ z)) (sym e) ∙ drop-append-add p z (length run))

-- a run right after another
pub splice_next : (o : ℕ) (p run bs : List Bool) → o + length p ≤ length bs → splice (o + length p) run (splice o p bs) ≡ splice o (p ++ run) bs
unfolding splice
splice_next o p run bs h =
    let e : length (take o bs ++ p) ≡ o + length p = simp (length-append, length-take) (omega arith) in
    let g : o + length p + length run ≡ o + length (p ++ run) = omega (arith, length-append p run) in
    splice-append (take o bs ++ p) (drop (o + length p) bs) run (o + length p) e
    ∙ ap₂ (λ (a b : List Bool). a ++ b) (append_assoc (take o bs) p run)
    (drop-drop (length run) (o + length p) bs ∙ ap (λ (m : ℕ). drop m bs) g)

-- no more than a bits of no more than b
pub take_min : (a b : ℕ) (l : List Bool) → take a (take b l) ≡ take (min a b) l
take_min zero b l = rw (zero-min b)
take_min (suc a) zero l = rw (min-zero (suc a))
take_min (suc a) (suc b) [] = rw (take-nil (min (suc a) (suc b)))
take_min (suc a) (suc b) (x ∷ l) = rw (suc-min-suc a b) (ap (λ (t : List Bool). x ∷ t) (take_min a b l))

-- a field is a run of bits
pub put-splice : (o w v : ℕ) (bs : List Bool) → put o w v bs ≡ splice o (bits w v) bs
unfolding put splice
put-splice o w v bs = rw (length-bits w v)

-- a run right after what was written from the front
pub splice-after : (p run bs : List Bool) (n : ℕ) → n ≡ length p → length p ≤ length bs → splice n run (splice 0 p bs) ≡ splice 0 (p ++ run) bs
splice-after p run bs n e h =
    ap (λ (m : ℕ). splice m run (splice 0 p bs)) (e ∙ sym (zero-add (length p))) ∙ splice_next 0 p run bs (rw (zero-add (length p)) h)
