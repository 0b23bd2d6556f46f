-- What bits, fields and layouts are, line by line and by plain numbers: the laws of all crates rest on these definitions. Assumes nothing.
use Rattle.std.proofs.Common.{◌≡◌, ℕ, zero, suc, ◌+◌, ◌*◌, ◌/◌, ◌%◌, ◌^◌, ◌<◌, Bool, true, false, eqb, ◌↔◌, List, [], ◌∷◌, ◌++◌, length, get_or, take, drop, refl, true≢false}
use Rattle.field.specs.Bits.{bits, value, Octets, bits_of, octets, field, put, splice}
use Rattle.field.specs.Layout.{layout, up_to, joined, any_set, FromFields, reading}

-- ---- bits and numbers

-- a number as bits, top bit first
pub bits_exactly : (w v : ℕ) → (bits 0 v ≡ []) × (bits (suc w) v ≡ eqb (v / 2 ^ w % 2) 1 ∷ bits w v)
unfolding bits
bits_exactly w v = (refl, refl)

-- bits as a number
pub value_exactly : (bs : List Bool) → (value [] ≡ 0) × (value (true ∷ bs) ≡ 1 * 2 ^ length bs + value bs) × (value (false ∷ bs) ≡ 0 * 2 ^ length bs + value bs)
unfolding value
value_exactly bs = (refl, refl, refl)

-- octets as bits
pub bits_of_exactly : (x : ℕ) (xs : List ℕ) → (bits_of [] ≡ []) × (bits_of (x ∷ xs) ≡ bits 8 x ++ bits_of xs)
unfolding bits_of
bits_of_exactly x xs = (refl, refl)

-- bits as octets
pub octets_exactly : (n : ℕ) (bs : List Bool) → (octets 0 bs ≡ []) × (octets (suc n) bs ≡ value (take 8 bs) ∷ octets n (drop 8 bs))
unfolding octets
octets_exactly n bs = (refl, refl)

-- octets are below 256
pub octet_exactly : (xs : List ℕ) → Octets xs ≡ ((i : ℕ) → get_or xs i 0 < 2 ^ 8)
octet_exactly xs = refl

-- ---- fields

-- a field read, of any width at any offset
pub field_exactly : (o w : ℕ) (bs : List Bool) → field o w bs ≡ value (take w (drop o bs))
unfolding field
field_exactly o w bs = refl

-- a field written
pub put_exactly : (o w v : ℕ) (bs : List Bool) → put o w v bs ≡ take o bs ++ bits w v ++ drop (o + w) bs
unfolding put
put_exactly o w v bs = refl

-- a run written
pub splice_exactly : (o : ℕ) (run bs : List Bool) → splice o run bs ≡ take o bs ++ run ++ drop (o + length run) bs
unfolding splice
splice_exactly o run bs = refl

-- ---- layouts

-- the rows of a layout, in order
pub layout_exactly : (w v : ℕ) (fs : List (ℕ × ℕ)) → (layout [] ≡ []) × (layout ((w, v) ∷ fs) ≡ bits w v ++ layout fs)
unfolding layout
layout_exactly w v fs = (refl, refl)

-- bits widened by zeros, or cut
pub up_to_exactly : (n : ℕ) (b : Bool) (bs : List Bool) → (up_to 0 bs ≡ []) × (up_to (suc n) [] ≡ false ∷ up_to n []) × (up_to (suc n) (b ∷ bs) ≡ b ∷ up_to n bs)
unfolding up_to
up_to_exactly n b bs = (refl, refl, refl)

-- runs one after the other
pub joined_exactly : (n : ℕ) (run : ℕ → List Bool) → (joined 0 run ≡ []) × (joined (suc n) run ≡ joined n run ++ run n)
unfolding joined
joined_exactly n run = (refl, refl)

-- some bit is set: unless every bit, wherever it stands, is not
pub any-set_exactly : (bs : List Bool) → (any_set bs ≡ false) ↔ ((k : ℕ) → get_or bs k false ≡ false)
unfolding any_set
any-set_exactly [] = ((λ e k. refl), (λ f. refl))
any-set_exactly (true ∷ bs) = ((λ e. absurd (true≢false e)), (λ f. absurd (true≢false (f 0))))
any-set_exactly (false ∷ bs) = let r = any-set_exactly bs in ((λ e k. at (r.0 e) k), (λ f. r.1 (λ k. f (suc k))))
  where
    at : ((k : ℕ) → get_or bs k false ≡ false) → (k : ℕ) → get_or (false ∷ bs) k false ≡ false
    at f zero = refl
    at f (suc k) = f k

-- a layout read: each field at the offset at which the one before it ends
pub reading_exactly : {A : Type 0} (w v o : ℕ) (fs : List (ℕ × ℕ)) (bs : List Bool) (k : ℕ → A) (j : ℕ → FromFields fs A)
    → (reading {A = A} [] o bs k ≡ k o) × (reading {A = A} ((w, v) ∷ fs) o bs j ≡ reading {A = A} fs (o + w) bs (j (field o w bs)))
reading_exactly w v o fs bs k j = (refl, refl)
