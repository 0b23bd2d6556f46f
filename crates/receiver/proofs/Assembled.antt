-- The message is put together from the Begin's bits and the slots', one run after the other. Assumes nothing.
use Rattle.std.proofs.Common.{◌≡◌, ℕ, zero, suc, ◌+◌, ◌-◌, ◌*◌, ◌<◌, ◌≤◌, min, Bool, List, [], ◌∷◌, ◌++◌, length, take, drop, flat_map, sym, refl, ap, ◌∙◌, ap₂, append_assoc, append-nil, add-one, arith, length-append, length-take, length-take-le, take_all, take-take, take_at, below_more}
use lib.Seq.{take-append-add}
use Rattle.std.proofs.lemmas.List.{take_more}
use Rattle.std.proofs.lemmas.List.Concat.{flat_map-append}
use Rattle.field.specs.Bits.{value, bits_of, octets, splice}
use Rattle.field.specs.Layout.{zeros}
use Rattle.field.proofs.Laws.{length-bits_of}
use Rattle.field.proofs.Put.{splice-after}
use Rattle.field.proofs.Set.{drop-take}
use Rattle.rach.specs.Identity.{type_of}
use Rattle.rach.specs.declared.MobileIdentity.{MobileIdentity}
use Rattle.rach.proofs.Laws.{width_least}
use Rattle.arq.specs.Frame.{room}
use Rattle.receiver.specs.declared.transaction.Transaction.{Transaction}
use Rattle.receiver.specs.Receiver.{needed, first_bit, slot_at, gathered, assembled}

-- the data bits of a slot
abbrev pub slot_bits : List ℕ → List Bool
slot_bits d = take 79 (bits_of d)

-- one slot more
pub gathered_more : (slots : List (List ℕ)) (k : ℕ) → k < length slots → gathered slots (k + 1) ≡ gathered slots k ++ slot_bits (slot_at slots k)
unfolding gathered
gathered_more slots k h =
    ap (flat_map slot_bits) (take_more slots k [] h)
    ∙ flat_map-append slot_bits (take k slots) (slot_at slots k ∷ [])
    ∙ ap (λ (l : List Bool). flat_map slot_bits (take k slots) ++ l) (append-nil (slot_bits (slot_at slots k)))

-- the first n slots are there, of ten octets each
pub record Sized (slots : List (List ℕ)) (n : ℕ) : Type 0 where
  pub size : n ≤ length slots
  pub ten : (k : ℕ) → k < n → length (slot_at slots k) ≡ 10

pub sized_none : (slots : List (List ℕ)) → Sized slots 0
sized_none slots = record { size = omega arith; ten = λ k l. absurd (omega arith) }

pub sized_more : (slots : List (List ℕ)) (n : ℕ) → n < length slots → length (slot_at slots n) ≡ 10 → Sized slots n → Sized slots (n + 1)
sized_more slots n h e s = record { size = omega arith; ten = below_more (λ k. length (slot_at slots k) ≡ 10) n s.ten e }

length-gathered : (slots : List (List ℕ)) (n : ℕ) → Sized slots n → length (gathered slots n) ≡ 79 * n
unfolding gathered
length-gathered slots zero h = refl
length-gathered slots (suc n) h =
    let before : Sized slots n = record { size = omega (arith, h.size); ten = λ k l. h.ten k (omega arith) } in
    let last : length (slot_bits (slot_at slots n)) ≡ 79 = simp (length-take, length-bits_of) (omega (arith, h.ten n (omega arith))) in
    ap (λ (k : ℕ). length (gathered slots k)) (sym (add-one n))
    ∙ ap length (gathered_more slots n (omega (arith, h.size)))
    ∙ length-append (gathered slots n) (slot_bits (slot_at slots n))
    ∙ omega (arith, length-gathered slots n before)

-- the first octets of bits
take-octets : (n k : ℕ) (bs : List Bool) → n ≤ k → take n (octets k bs) ≡ octets n (take (8 * n) bs)
unfolding octets
take-octets zero k bs h = refl
take-octets (suc n) zero bs h = absurd (omega arith)
take-octets (suc n) (suc k) bs h =
    let a : take 8 (take (8 * suc n) bs) ≡ take 8 bs = take-take 8 (8 * suc n) bs (omega arith) in
    let c : 8 * suc n - 8 ≡ 8 * n = omega arith in
    let d : drop 8 (take (8 * suc n) bs) ≡ take (8 * n) (drop 8 bs) = drop-take 8 (8 * suc n) bs ∙ ap (λ (m : ℕ). take m (drop 8 bs)) c in
    ap₂ (λ (x : ℕ) (l : List ℕ). x ∷ l) (ap value (sym a)) (take-octets n k (drop 8 bs) (omega arith) ∙ ap (octets n) (sym d))

module _ (i : MobileIdentity) (t : Transaction) where
  -- the Begin's bits, then those of k slots
  abbrev pub joined : ℕ → List Bool
  joined k = take (room i) (bits_of t.begin_data) ++ gathered t.slots k

  -- what the message has of them
  abbrev pub parts : ℕ → List Bool
  parts k = take (min (8 * t.message_octets) (room i + 79 * k)) (joined k)

  module _ (seven : length t.begin_data ≡ 7) where
    length-joined : (k : ℕ) → Sized t.slots k → length (joined k) ≡ room i + 79 * k
    length-joined k h =
        let r : length (take (room i) (bits_of t.begin_data)) ≡ room i = length-take-le (room i) (bits_of t.begin_data) (omega (arith, length-bits_of t.begin_data, width_least (type_of i))) in
        length-append (take (room i) (bits_of t.begin_data)) (gathered t.slots k)
        ∙ ap₂ (λ (x y : ℕ). x + y) r (length-gathered t.slots k h)

    -- at first the Begin's
    pub parts_none : take (first_bit i t 0) (bits_of t.begin_data) ≡ parts 0
    unfolding gathered
    parts_none =
        let r : ℕ = room i in
        let n : ℕ = 8 * t.message_octets in
        let e : min n r + 79 * 0 ≡ min n (r + 79 * 0) = omega arith in
        sym (take-take (first_bit i t 0) r (bits_of t.begin_data) (omega arith))
        ∙ ap₂ take e (sym (append-nil (take r (bits_of t.begin_data))))

    -- then one slot's more
    pub parts_more : (k : ℕ) → k < needed i t → k < 26 → k < length t.slots → Sized t.slots k
        → splice (first_bit i t k) (take (min 79 (8 * t.message_octets - first_bit i t k)) (bits_of (slot_at t.slots k))) (splice 0 (parts k) (zeros 2040))
        ≡ splice 0 (parts (k + 1)) (zeros 2040)
    parts_more k h l more_slots sized =
        let r : ℕ = room i in
        let n : ℕ = 8 * t.message_octets in
        let j : ℕ = min 79 (n - first_bit i t k) in
        let slot : List Bool = bits_of (slot_at t.slots k) in
        let lj : length (joined k) ≡ r + 79 * k = length-joined k sized in
        let whole : parts k ≡ joined k = take_all (min n (r + 79 * k)) (joined k) (omega arith) in
        let lp : length (parts k) ≡ first_bit i t k = ap length whole ∙ lj ∙ omega arith in
        let run : take j slot ≡ take j (take 79 slot) = sym (take-take j 79 slot (omega arith)) in
        let more : joined (k + 1) ≡ joined k ++ take 79 slot =
        ap (λ (g : List Bool). take r (bits_of t.begin_data) ++ g) (gathered_more t.slots k more_slots)
        ∙ sym (append_assoc (take r (bits_of t.begin_data)) (gathered t.slots k) (take 79 slot)) in
        let count : min n (r + 79 * (k + 1)) ≡ length (joined k) + j = omega arith in
        splice-after (parts k) (take j slot) (zeros 2040) (first_bit i t k) (sym lp) (omega (arith, width_least (type_of i)))
        ∙ ap (λ (p : List Bool). splice 0 p (zeros 2040))
        (ap₂ (λ (a b : List Bool). a ++ b) whole run
        ∙ sym (take-append-add (joined k) (take 79 slot) j)
        ∙ ap₂ take (sym count) (sym more))

    -- and with all of them the message
    pub parts_all : t.message_octets < 256 → Sized t.slots (needed i t) → {m : List ℕ} → m ≡ octets 255 (splice 0 (parts (needed i t)) (zeros 2040))
        → take t.message_octets m ≡ assembled i t
    unfolding assembled splice
    parts_all few sized e =
        let n : ℕ = t.message_octets in
        let r : ℕ = room i in
        let lj : length (joined (needed i t)) ≡ r + 79 * needed i t = length-joined (needed i t) sized in
        let c : min (8 * n) (r + 79 * needed i t) ≡ 8 * n = omega arith in
        let lp : length (parts (needed i t)) ≡ 8 * n = rw c (length-take-le (8 * n) (joined (needed i t)) (omega arith)) in
        ap (take n) e
        ∙ take-octets n 255 (splice 0 (parts (needed i t)) (zeros 2040)) (omega arith)
        ∙ ap (octets n) (take_at (parts (needed i t)) (drop (0 + length (parts (needed i t))) (zeros 2040)) (8 * n) lp)
        ∙ ap (λ (k : ℕ). octets n (take k (joined (needed i t)))) c
