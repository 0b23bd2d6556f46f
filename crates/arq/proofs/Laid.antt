-- What encode lays is what decode reads. Assumes nothing.
use Rattle.std.proofs.Common.{◌≡◌, ℕ, ◌+◌, ◌*◌, ◌%◌, ◌^◌, ◌<◌, ◌≤◌, Bool, true, false, cond, not, eqb, List, [], ◌∷◌, ◌++◌, length, take, drop, sym, refl, ap, ◌∙◌, append_assoc, mod-eq_of_lt, arith, length-append, drop_of_length-le, take_at, drop_at, le-ltb}
use Rattle.field.specs.Bits.{bit, value, bits_of, field}
use Rattle.field.specs.Layout.{layout, zeros, up_to, any_set}
use Rattle.field.proofs.Laws.{field_right, length-octets}
use Rattle.field.proofs.Layouts.{total, length-layout, place, width, number, layout-append, field-layout}
use Rattle.field.proofs.Cuts.{length-up_to, up_to-nil, up_to_add, up_to-append, up_to_twice, bits_of_filled, any_set-up_to}
use Rattle.rach.specs.Identity.{type_of, width_of, encodable}
use Rattle.rach.specs.declared.MobileIdentity.{MobileIdentity}
use Rattle.rach.proofs.Laws.{width_most}
use Rattle.spach.specs.declared.HeaderA.{HeaderA}
use Rattle.spach.specs.Refusal.{gives}
use Rattle.spach.specs.Header.{usage_of, header_a, header_b, address, is_set, header_a_at, address_at}
use Rattle.spach.proofs.Laid.{flag_laid, without_response, header_a_laid, address_reads}
use Rattle.arq.specs.declared.ResponseMode.{ResponseMode}
use Rattle.arq.specs.declared.ResponseMode.TheVariants.{Contention, Reservation}
use Rattle.arq.specs.declared.ArqHeader.{ArqHeader}
use Rattle.arq.specs.Frame.{mode_of, rest_of, begin, continue, room, packed, a_begin, a_continue}
use Rattle.arq.specs.Decode.{decode_of}
use Rattle.arq.specs.Parts.{header_at, decode_kind}
use Rattle.arq.proofs.Parts.{decode_parts}

-- a response mode that was laid
pub mode_laid : (m : ResponseMode) {x : ℕ} → x ≡ mode_of m % 2 ^ 1 → cond (not (eqb x 0)) Reservation Contention ≡ m
mode_laid Contention e = rw e
mode_laid Reservation e = rw e

-- header A as it is read of a header that was laid
abbrev pub header_a_of : ArqHeader → HeaderA
header_a_of h = record { channel = h.channel; flags = without_response h.flags; reader = record { offset = 7 } }

-- the header that was laid is read
pub header_laid : (h : ArqHeader) (o : ℕ) (bs : List Bool) {r : Bool} → r ≡ h.flags.reservation_response
    → field o 7 bs ≡ h.partial_echo → field (o + 9) 1 bs ≡ bit h.polling % 2 ^ 1 → field (o + 10) 1 bs ≡ mode_of h.response_mode % 2 ^ 1
    → header_at (header_a_of h) r o bs ≡ h
header_laid h o bs er ee ep em = rw (er, ee, flag_laid h.polling ep, mode_laid h.response_mode em)

-- a table and its data in a packed frame, 109 bits in all
module _ (fs : List (ℕ × ℕ)) (r : ℕ) (d : List Bool) (whole : total fs + r ≡ 109) (fits : length d ≤ r) where
  abbrev pub laid : List Bool
  laid = layout fs ++ (up_to r d ++ zeros 3)

  -- its bits: the table, the data filled with zeros, and three bits of padding
  pub packed-bits : bits_of (packed (layout fs ++ d)).octets ≡ laid
  unfolding packed
  packed-bits =
      let n : 112 ≡ length (layout fs) + (r + 3) = omega (arith, length-layout fs) in
      let e : drop r d ≡ [] = drop_of_length-le d fits in
      bits_of_filled 14 (layout fs ++ d)
      ∙ ap (λ (m : ℕ). up_to m (layout fs ++ d)) n
      ∙ up_to-append (layout fs) d (r + 3)
      ∙ ap (λ (l : List Bool). layout fs ++ l) (up_to_add r 3 d ∙ ap (λ (l : List Bool). up_to r d ++ l) (ap (up_to 3) e ∙ up_to-nil 3))

  -- the padding reads as 0
  pub padding_laid : field 109 3 laid ≡ 0
  unfolding field value
  padding_laid =
      let n : 109 ≡ length (layout fs ++ up_to r d) + 0 = omega (arith, length-append (layout fs) (up_to r d), length-layout fs, length-up_to r d) in
      ap (field 109 3) (sym (append_assoc (layout fs) (up_to r d) (zeros 3)))
      ∙ ap (λ (m : ℕ). field m 3 ((layout fs ++ up_to r d) ++ zeros 3)) n
      ∙ field_right 0 3 (layout fs ++ up_to r d) (zeros 3)

  -- the data, read from the table's end on
  pub data_laid : (o : ℕ) → total fs ≡ o → take r (drop o laid) ≡ up_to r d
  data_laid o e =
      ap (take r) (drop_at (layout fs) (up_to r d ++ zeros 3) o (length-layout fs ∙ e))
      ∙ take_at (up_to r d) (zeros 3) r (length-up_to r d)

-- octets, decoded up to the kind
pub decode_opens : (xs : List ℕ) (bs : List Bool) {a : HeaderA} → length xs ≡ 14 → bits_of xs ≡ bs → field 109 3 bs ≡ 0
    → header_a_at 0 bs ≡ gives a → eqb (usage_of a.channel) 7 ≡ false → decode_of xs ≡ decode_kind a bs
decode_opens xs bs n b p e u = rw (decode_parts xs, b, n, p, e, u)

-- a packed frame, decoded up to the kind: what is left is to read the rest of the table and the data
pub opens : (h : ArqHeader) (fs : List (ℕ × ℕ)) (r : ℕ) (d : List Bool) → total (header_a h.channel h.flags ++ fs) + r ≡ 109 → length d ≤ r
    → eqb (usage_of h.channel) 7 ≡ false
    → decode_of (packed (layout (header_a h.channel h.flags ++ fs) ++ d)).octets
    ≡ decode_kind (header_a_of h) (layout (header_a h.channel h.flags ++ fs) ++ (up_to r d ++ zeros 3))
unfolding packed
opens h fs r d whole fits u =
    let a : List (ℕ × ℕ) = header_a h.channel h.flags in
    let t : List Bool = up_to r d ++ zeros 3 in
    let e : layout (a ++ fs) ++ t ≡ layout a ++ (layout fs ++ t) = ap (λ (l : List Bool). l ++ t) (layout-append a fs) ∙ append_assoc (layout a) (layout fs) t in
    decode_opens (packed (layout (a ++ fs) ++ d)).octets (layout (a ++ fs) ++ t)
    (length-octets 14 (up_to 112 (layout (a ++ fs) ++ d)))
    (packed-bits (a ++ fs) r d whole fits)
    (padding_laid (a ++ fs) r d whole fits)
    (ap (header_a_at 0) e ∙ header_a_laid h.channel h.flags (layout fs ++ t))
    u

-- a Continue by its fields
pub kind_continue : (a : HeaderA) (bs : List Bool) {h : ArqHeader} {t k : ℕ} {d : List Bool} → field 7 3 bs ≡ 6 → field 21 2 bs ≡ 0 → field 25 5 bs ≡ k → k ≤ 25
    → header_at a (is_set 13 bs) 14 bs ≡ h → field 10 2 bs ≡ t → take 79 (drop 30 bs) ≡ d
    → decode_kind a bs ≡ gives (a_continue h t k d)
kind_continue a bs ek er en l eh et ed = rw (ek, er, en, le-ltb _ _ l, eh, et, ed)

-- a Begin by its fields
pub kind_begin : (a : HeaderA) (bs : List Bool) (i : MobileIdentity) (r : Bool) (o : ℕ) {h : ArqHeader} {n : ℕ} {d : List Bool} → field 7 3 bs ≡ 5
    → address_at 10 bs ≡ gives (record { identity = i; reservation_response = r; reader = record { offset = o } })
    → field (o + 7) 2 bs ≡ 0 → field (o + 11) 8 bs ≡ n → take (room i) (drop (o + 19) bs) ≡ d → any_set (drop (8 * n) d) ≡ false
    → header_at a r o bs ≡ h
    → decode_kind a bs ≡ gives (a_begin h i n (room i) d)
kind_begin a bs i r o ek ea er en ed ef eh = rw (ek, ea, er, en, ed, ef, eh)

module _ (h : ArqHeader) (usage : eqb (usage_of h.channel) 7 ≡ false) (echo : h.partial_echo < 2 ^ 7) where
  -- a Continue, laid and decoded
  pub continue-decoded : (t k : ℕ) (d : List Bool) → k ≤ 25 → length d ≤ 79
      → decode_of (packed (layout (continue h t k) ++ d)).octets ≡ gives (a_continue h (t % 4) k d)
  continue-decoded t k d l fits =
      let fs : List (ℕ × ℕ) = continue h t k in
      let bs : List Bool = layout fs ++ (up_to 79 d ++ zeros 3) in
      let at : (j : ℕ) → j < 14 → _ = λ j m. field-layout fs (up_to 79 d ++ zeros 3) j m in
      opens h (header_b 6 t h.flags ++ rest_of h ++ (5, k) ∷ []) 79 d refl fits usage
      ∙ kind_continue (header_a_of h) bs (at 5 (omega arith)) (at 10 (omega arith)) (at 13 (omega arith) ∙ mod-eq_of_lt (omega arith)) l
      (header_laid h 14 bs (flag_laid h.flags.reservation_response (at 8 (omega arith))) (at 9 (omega arith) ∙ mod-eq_of_lt echo) (at 11 (omega arith)) (at 12 (omega arith)))
      (at 6 (omega arith))
      (data_laid fs 79 d refl fits 30 refl)
      ∙ rw (up_to_twice 80 79 d fits)

  -- a Begin, laid and decoded
  pub begin-decoded : (i : MobileIdentity) (n : ℕ) (d : List Bool) → encodable i ≡ true → n < 2 ^ 8 → length d ≤ room i → any_set (drop (8 * n) d) ≡ false
      → decode_of (packed (layout (begin h i n) ++ d)).octets ≡ gives (a_begin h i n (room i) d)
  begin-decoded i n d en l fits clear =
      let fs : List (ℕ × ℕ) = begin h i n in
      let w : ℕ = width_of (type_of i) in
      let t : List Bool = up_to (room i) d ++ zeros 3 in
      let bs : List Bool = layout fs ++ t in
      let at : (j : ℕ) → j < 16 → _ = λ j m. field-layout fs t j m in
      let rest : (j o : ℕ) → j < 16 → place fs j ≡ o → field o (width fs j) bs ≡ number fs j % 2 ^ width fs j =
      λ j o m e. ap (λ (x : ℕ). field x (width fs j) bs) (sym e) ∙ at j m in
      let whole : total fs + room i ≡ 109 = omega (arith, width_most (type_of i)) in
      opens h (header_b 5 (type_of i) h.flags ++ address i ++ rest_of h ++ (8, n) ∷ []) (room i) d whole fits usage
      ∙ kind_begin (header_a_of h) bs i h.flags.reservation_response (15 + w) (at 5 (omega arith))
      (address_reads 10 bs i h.flags.reservation_response en (at 6 (omega arith)) (at 7 (omega arith)) (at 8 (omega arith)) (at 9 (omega arith)) (at 10 (omega arith)))
      (rest 12 (15 + w + 7) (omega arith) (omega arith))
      (rest 15 (15 + w + 11) (omega arith) (omega arith) ∙ mod-eq_of_lt l)
      (data_laid fs (room i) d whole fits (15 + w + 19) (omega arith))
      (any_set-up_to (room i) (8 * n) d fits ∙ clear)
      (header_laid h (15 + w) bs refl (rest 11 (15 + w) (omega arith) (omega arith) ∙ mod-eq_of_lt echo) (rest 13 (15 + w + 9) (omega arith) (omega arith)) (rest 14 (15 + w + 10) (omega arith) (omega arith)))
      ∙ rw (up_to_twice 56 (room i) d fits)
