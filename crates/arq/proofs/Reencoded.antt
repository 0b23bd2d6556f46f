-- What decode accepts is encoded to the same octets. Assumes nothing.
use Rattle.std.proofs.Common.{◌≡◌, ℕ, zero, suc, ◌+◌, ◌-◌, ◌*◌, ◌^◌, ◌<◌, ◌≤◌, Bool, true, false, cond, not, eqb, ltb, List, [], ◌∷◌, ◌++◌, length, take, drop, sym, refl, ap, ◌∙◌, ap₂, append_assoc, add_assoc, arith, length-append, length-drop, take_all, ltb-false, eqb-true}
use borrow.Author.Tests.{not-false}
use Rattle.field.specs.Bits.{Octets, bit, bits, value, bits_of, octets, field, put}
use Rattle.field.specs.Layout.{layout, zeros, up_to, any_set}
use Rattle.field.proofs.Laws.{field_lt, length-field, length-put, put-field, run_and_rest, value_inj, length-bits_of, octets-bits_of}
use Rattle.field.proofs.Layouts.{layout-append, reads, sum, layout_reads}
use Rattle.field.proofs.Cuts.{up_to_fill}
use Rattle.rach.specs.Identity.{type_of, value_of, width_of, identity_of, encodable}
use Rattle.rach.specs.declared.MobileIdentity.{MobileIdentity}
use Rattle.rach.proofs.Laws.{width_most, value_identity, type_identity, identity_encodable}
use Rattle.spach.specs.declared.HeaderA.{HeaderA}
use Rattle.spach.specs.declared.Address.{Address}
use Rattle.spach.specs.Refusal.{gives, refuses, and_then}
use Rattle.spach.specs.Header.{usage_of, header_a, is_set, header_a_at, address_at}
use Rattle.spach.proofs.Outcomes.{passed, then-gives}
use Rattle.spach.proofs.Given.{flag-read, header_a_given, address_given}
use Rattle.arq.specs.declared.ResponseMode.TheVariants.{Contention, Reservation}
use Rattle.arq.specs.declared.FrameKind.TheVariants.{Begin}
use Rattle.arq.specs.declared.ArqHeader.{ArqHeader}
use Rattle.arq.specs.declared.ArqFrame.{ArqFrame}
use Rattle.arq.specs.Frame.{mode_of, rest_of, room, packed, a_begin, a_continue}
use Rattle.arq.specs.Encode.{encode_of}
use Rattle.arq.specs.Decode.{decode_of}
use Rattle.arq.specs.Parts.{header_at, decode_begin, decode_continue, decode_kind}
use Rattle.arq.proofs.Round.{begin_encoded, continue_encoded}
use Rattle.arq.proofs.Parts.{decode_parts}

-- a response mode that was read
pub mode_read : (n : ℕ) → n < 2 ^ 1 → mode_of (cond (not (eqb n 0)) Reservation Contention) ≡ n
mode_read zero h = refl
mode_read (suc zero) h = refl
mode_read (suc (suc n)) h = absurd (omega arith)

-- what follows the address, and a field of u bits after it, is the table of its fields
pub rest_of_given : (a : HeaderA) (r : Bool) (o u : ℕ) (bs : List Bool) → o + 11 ≤ length bs → field (o + 7) 2 bs ≡ 0
    → rest_of (header_at a r o bs) ++ (u, field (o + 11) u bs) ∷ [] ≡ reads (7 ∷ 2 ∷ 1 ∷ 1 ∷ u ∷ []) o bs
rest_of_given a r o u bs n e =
    simp add_assoc
    (rw (e, flag-read (field (o + 9) 1 bs) (field_lt (o + 9) 1 bs (omega arith)), mode_read (field (o + 10) 1 bs) (field_lt (o + 10) 1 bs (omega arith))))

-- a frame that was read of bits: it is encoded to them again, but for the bit after the identity type, which in a Begin
-- was not set
pub record Reencoded (bs : List Bool) (f : ArqFrame) : Type 0 where
  pub encoded : encode_of f ≡ gives (record { octets = octets 14 (put 12 1 0 bs) })
  pub begin_unset : f.kind ≡ Begin → field 12 1 bs ≡ 0

-- the bits of a frame: 112, the last three not set
module _ (bs : List Bool) (size : length bs ≡ 112) (padding : field 109 3 bs ≡ 0) where
  -- the padding is three zeros
  last_unset : zeros 3 ≡ drop 109 bs
  unfolding field value
  last_unset =
      let n : length (drop 109 bs) ≡ 3 = simp length-drop (omega arith) in
      let e : value (drop 109 bs) ≡ 0 = ap value (sym (take_all 3 (drop 109 bs) (omega arith))) ∙ padding in
      value_inj (zeros 3) (drop 109 bs) (sym n) (sym e)

  -- a table of all fields but the bit after the identity type, and the data, laid again
  relaid : (front rest : List (ℕ × ℕ)) (ws : List ℕ) (q r : ℕ) → front ≡ reads (3 ∷ 1 ∷ 1 ∷ 1 ∷ 1 ∷ 3 ∷ 2 ∷ []) 0 bs → rest ≡ reads ws 13 bs
      → 13 + sum ws ≡ q → q + r ≡ 109
      → packed (layout (front ++ (1, 0) ∷ rest) ++ take r (drop q bs)) ≡ record { octets = octets 14 (put 12 1 0 bs) }
  unfolding packed put layout
  relaid front rest ws q r ef er eq whole =
      let all : List Bool = layout (front ++ (1, 0) ∷ rest) ++ take r (drop q bs) in
      let f : layout front ≡ take 12 bs = ap layout ef ∙ layout_reads (3 ∷ 1 ∷ 1 ∷ 1 ∷ 1 ∷ 3 ∷ 2 ∷ []) 0 bs (omega arith) in
      let g : layout rest ≡ take (sum ws) (drop 13 bs) = ap layout er ∙ layout_reads ws 13 bs (omega arith) in
      let l : layout (front ++ (1, 0) ∷ rest) ≡ take 12 bs ++ (bits 1 0 ++ take (sum ws) (drop 13 bs)) = layout-append front ((1, 0) ∷ rest) ∙ rw (f, g) in
      let d : take r (drop q bs) ++ drop 109 bs ≡ drop q bs = rw whole at (run_and_rest q r bs) in
      let t : take (sum ws) (drop 13 bs) ++ drop q bs ≡ drop 13 bs = rw eq at (run_and_rest 13 (sum ws) bs) in
      let same : all ++ drop 109 bs ≡ put 12 1 0 bs = rw l (simp append_assoc (rw (d, t))) in
      let n : length all ≡ 109 = omega (arith, ap length same, length-append all (drop 109 bs), length-drop 109 bs, length-put 12 1 bs (omega arith) 0) in
      let u : up_to 112 all ≡ put 12 1 0 bs =
      up_to_fill 112 all (omega arith) ∙ ap (λ (k : ℕ). all ++ zeros (112 - k)) n ∙ ap (λ (z : List Bool). all ++ z) last_unset ∙ same in
      rw u

  -- header A was read of them
  module _ (a : HeaderA) (opened : header_a_at 0 bs ≡ gives a) (usage : eqb (usage_of a.channel) 7 ≡ false) where
    -- the table up to the identity type
    front_given : {k t : ℕ} → field 7 3 bs ≡ k → field 10 2 bs ≡ t → header_a a.channel a.flags ++ (3, k) ∷ (2, t) ∷ [] ≡ reads (3 ∷ 1 ∷ 1 ∷ 1 ∷ 1 ∷ 3 ∷ 2 ∷ []) 0 bs
    front_given {k} {t} ek et =
        ap (λ (l : List (ℕ × ℕ)). l ++ (3, k) ∷ (2, t) ∷ []) (header_a_given bs a (omega arith) opened) ∙ rw (ek, et)

    -- the reservation response
    response_given : bit (is_set 13 bs) ≡ field 13 1 bs
    response_given = flag-read (field 13 1 bs) (field_lt 13 1 bs (omega arith))

    -- a Continue that was read is encoded again
    continue_again : (f : ArqFrame) → field 7 3 bs ≡ 6 → decode_continue a bs ≡ gives f → Reencoded bs f
    continue_again f k e =
        let h : ArqHeader = header_at a (is_set 13 bs) 14 bs in
        let x = passed (not (eqb (field 21 2 bs) 0)) 6 _ e in
        let y = passed (ltb 25 (field 25 5 bs)) 12 _ x.1 in
        let same : a_continue h (field 10 2 bs) (field 25 5 bs) (take 79 (drop 30 bs)) ≡ f = cc in
        let z : field 21 2 bs ≡ 0 = eqb-true (field 21 2 bs) 0 (not-false _ x.0) in
        record {
          begin_unset = λ b. let z : ◌≡◌ {A = ℕ} 0 1 = cc in absurd (omega arith);
          encoded =
              rw (← same)
              (continue_encoded h usage (field_lt 14 7 bs (omega arith)) (field 10 2 bs) (field 25 5 bs) (take 79 (drop 30 bs)) (length-field 30 79 bs (omega arith)) (ltb-false 25 (field 25 5 bs) y.0)
              ∙ ap gives
              (relaid (header_a a.channel a.flags ++ (3, 6) ∷ (2, field 10 2 bs) ∷ []) ((1, bit (is_set 13 bs)) ∷ (rest_of h ++ (5, field 25 5 bs) ∷ []))
              (1 ∷ 7 ∷ 2 ∷ 1 ∷ 1 ∷ 5 ∷ []) 30 79 (front_given k refl)
              (ap₂ (λ (n : ℕ) (l : List (ℕ × ℕ)). (1, n) ∷ l) response_given (rest_of_given a (is_set 13 bs) 14 5 bs (omega arith) z))
              refl refl));
        }

    -- a Begin's table from the reservation response on
    rest_given : (i : MobileIdentity) (w : ℕ) → width_of (type_of i) ≡ w → value_of i ≡ field 15 w bs → field 14 1 bs ≡ 0 → w ≤ 50 → field (15 + w + 7) 2 bs ≡ 0
        → (1, bit (is_set 13 bs)) ∷ (1, 0) ∷ (width_of (type_of i), value_of i) ∷ (rest_of (header_at a (is_set 13 bs) (15 + w) bs) ++ (8, field (15 + w + 11) 8 bs) ∷ [])
        ≡ reads (1 ∷ 1 ∷ w ∷ 7 ∷ 2 ∷ 1 ∷ 1 ∷ 8 ∷ []) 13 bs
    rest_given i w ew ev ey l z =
        let c : rest_of (header_at a (is_set 13 bs) (15 + w) bs) ++ (8, field (15 + w + 11) 8 bs) ∷ [] ≡ reads (7 ∷ 2 ∷ 1 ∷ 1 ∷ 8 ∷ []) (15 + w) bs =
        rest_of_given a (is_set 13 bs) (15 + w) 8 bs (omega arith) z in
        rw (response_given, ew, ev, ey) (ap (λ (l : List (ℕ × ℕ)). (1, field 13 1 bs) ∷ (1, 0) ∷ (w, field 15 w bs) ∷ l) c)

    -- and so is a Begin
    begin_again : (f : ArqFrame) (d : Address) → field 7 3 bs ≡ 5 → address_at 10 bs ≡ gives d → decode_begin a bs d ≡ gives f → Reencoded bs f
    begin_again f d k g e =
        let t : ℕ = field 10 2 bs in
        let w : ℕ = width_of t in
        let v : ℕ = field 15 w bs in
        let i : MobileIdentity = identity_of t v in
        let o : ℕ = 15 + w in
        let n : ℕ = field (o + 11) 8 bs in
        let data_bits : List Bool = take (room i) (drop (o + 19) bs) in
        let h : ArqHeader = header_at a (is_set 13 bs) o bs in
        let m : w ≤ 50 = width_most t in
        let l : t < 4 = field_lt 10 2 bs (omega arith) in
        let ty : type_of i ≡ t = type_identity t v l in
        let tw : width_of (type_of i) ≡ w = ap width_of ty in
        let p = address_given 10 bs d g in
        let e' : decode_begin a bs (record { identity = i; reservation_response = is_set 13 bs; reader = record { offset = o } }) ≡ gives f = ap (decode_begin a bs) p.3 ∙ e in
        let x = passed (not (eqb (field (o + 7) 2 bs) 0)) 6 _ e' in
        let y = passed (any_set (drop (8 * n) data_bits)) 7 _ x.1 in
        let same : a_begin h i n (room i) data_bits ≡ f = cc in
        let z : field (o + 7) 2 bs ≡ 0 = eqb-true (field (o + 7) 2 bs) 0 (not-false _ x.0) in
        let en : encodable i ≡ true = identity_encodable t v l p.2 (field_lt 15 w bs (omega arith)) in
        record {
          begin_unset = λ b. p.0;
          encoded =
              rw (← same)
              (begin_encoded h usage (field_lt o 7 bs (omega arith)) i n (room i) data_bits en (length-field (o + 19) (room i) bs (omega arith)) (omega arith) y.0
              ∙ ap gives
              (relaid (header_a a.channel a.flags ++ (3, 5) ∷ (2, type_of i) ∷ []) ((1, bit (is_set 13 bs)) ∷ (1, 0) ∷ (width_of (type_of i), value_of i) ∷ (rest_of h ++ (8, n) ∷ []))
              (1 ∷ 1 ∷ w ∷ 7 ∷ 2 ∷ 1 ∷ 1 ∷ 8 ∷ []) (o + 19) (room i) (front_given k (sym ty))
              (rest_given i w tw (value_identity t v) p.1 m z)
              (omega arith) (omega arith)));
        }

    -- and so both kinds
    kind_again : (f : ArqFrame) → decode_kind a bs ≡ gives f → Reencoded bs f
    kind_again f e = go (eqb (field 7 3 bs) 5) (eqb (field 7 3 bs) 6) refl refl e
      where
        go : (x y : Bool) → eqb (field 7 3 bs) 5 ≡ x → eqb (field 7 3 bs) 6 ≡ y
            → cond x (and_then (address_at 10 bs) (decode_begin a bs)) (cond y (decode_continue a bs) (refuses 4)) ≡ gives f → Reencoded bs f
        go true y p q e =
            let g = then-gives (address_at 10 bs) (decode_begin a bs) e in
            begin_again f g.0 (eqb-true (field 7 3 bs) 5 p) g.1 g.2
        go false true p q e = continue_again f (eqb-true (field 7 3 bs) 6 q) e
        go false false p q e = let z : ◌≡◌ {A = ℕ} 0 1 = cc in absurd (omega arith)

-- what decode accepts is 14 octets, and is encoded again
pub decode_again : (xs : List ℕ) (f : ArqFrame) → decode_of xs ≡ gives f → (length xs ≡ 14) × Reencoded (bits_of xs) f
decode_again xs f e =
    let bs : List Bool = bits_of xs in
    let x = passed (not (eqb (length xs) 14)) 1 _ (sym (decode_parts xs) ∙ e) in
    let y = passed (not (eqb (field 109 3 bs) 0)) 15 _ x.1 in
    let g = then-gives (header_a_at 0 bs) _ y.1 in
    let u = passed (eqb (usage_of g.0.channel) 7) 3 _ g.2 in
    let n : length xs ≡ 14 = eqb-true (length xs) 14 (not-false _ x.0) in
    let z : field 109 3 bs ≡ 0 = eqb-true (field 109 3 bs) 0 (not-false _ y.0) in
    (n, kind_again bs (length-bits_of xs ∙ ap (λ (m : ℕ). 8 * m) n) z g.0 g.1 u.0 f u.1)

-- the octets are the same where the bit after the identity type is not set, as in every Begin
pub decode_same : (xs : List ℕ) (f : ArqFrame) → Octets xs → decode_of xs ≡ gives f → field 12 1 (bits_of xs) ≡ 0 → encode_of f ≡ gives (record { octets = xs })
decode_same xs f o e z =
    let r = decode_again xs f e in
    let s : length (bits_of xs) ≡ 112 = length-bits_of xs ∙ ap (λ (m : ℕ). 8 * m) r.0 in
    let p : put 12 1 0 (bits_of xs) ≡ bits_of xs = ap (λ (v : ℕ). put 12 1 v (bits_of xs)) (sym z) ∙ put-field 12 1 (bits_of xs) (omega arith) in
    let q : octets 14 (put 12 1 0 (bits_of xs)) ≡ xs = ap₂ octets (sym r.0) p ∙ octets-bits_of xs o in
    rw q at r.1.encoded

pub decode_same-begin : (xs : List ℕ) (f : ArqFrame) → Octets xs → decode_of xs ≡ gives f → f.kind ≡ Begin → encode_of f ≡ gives (record { octets = xs })
decode_same-begin xs f o e k = decode_same xs f o e ((decode_again xs f e).1.begin_unset k)
