-- Frames encoded and decoded again, and the frames of a cut among them. Assumes nothing.
use Rattle.std.proofs.Common.{◌≡◌, ℕ, zero, suc, ◌+◌, ◌*◌, ◌%◌, ◌^◌, ◌<◌, ◌≤◌, min, Bool, true, false, not, eqb, ltb, List, ◌++◌, length, take, drop, ◌∙◌, mod-eq_of_lt, arith, drop_of_length-le, length-take, ltb-false, ltb-true, le-ltb}
use borrow.Author.Tests.{not-false}
use Rattle.field.specs.Bits.{bits_of}
use Rattle.field.specs.Layout.{layout, up_to, any_set}
use Rattle.field.proofs.Laws.{length-bits_of}
use Rattle.field.proofs.Cuts.{length-up_to, bits-kept}
use Rattle.rach.specs.Identity.{type_of, encodable}
use Rattle.rach.specs.declared.MobileIdentity.{MobileIdentity}
use Rattle.rach.proofs.Laws.{type_lt}
use Rattle.spach.specs.Refusal.{Outcome, gives, refuse}
use Rattle.spach.specs.Header.{usage_of}
use Rattle.arq.specs.declared.FrameKind.{FrameKind}
use Rattle.arq.specs.declared.FrameKind.TheVariants.{Begin, Continue}
use Rattle.arq.specs.declared.ArqHeader.{ArqHeader}
use Rattle.arq.specs.declared.ArqFrame.{ArqFrame}
use Rattle.arq.specs.declared.PackedFrame.{PackedFrame}
use Rattle.arq.specs.Frame.{room, begin, continue, begin_data_lem, continue_data_lem, packed, begin_frame, continue_frame, a_begin, a_continue}
use Rattle.arq.specs.Encode.{header_checked, begin_checked, continue_checked, by_kind, encode_of}
use Rattle.arq.specs.Decode.{decode_of}
use Rattle.arq.specs.Cut.{continues, cut_frame, frame_of}
use Rattle.arq.specs.Round.{there_and_back, normal, widened}
use Rattle.spach.proofs.Outcomes.{passed}
use Rattle.arq.proofs.Cuts.{room_most, count_most}
use Rattle.arq.proofs.Laid.{begin-decoded, continue-decoded}

-- a header that encode and the cut accept
pub header_accepted : {A : Type 0} (h : ArqHeader) (o : Outcome A) {a : A} → header_checked h o ≡ gives a
    → (eqb (usage_of h.channel) 7 ≡ false) × (h.partial_echo < 2 ^ 7) × (o ≡ gives a)
header_accepted h o e =
    let p = passed (eqb (usage_of h.channel) 7) 3 (refuse (ltb 127 h.partial_echo) 11 o) e in
    let q = passed (ltb 127 h.partial_echo) 11 o p.1 in
    let l : h.partial_echo ≤ 127 = ltb-false 127 h.partial_echo q.0 in
    (p.0, omega arith, q.1)

module _ (f : ArqFrame) (usage : eqb (usage_of f.header.channel) 7 ≡ false) (echo : f.header.partial_echo < 2 ^ 7) where
  -- a Begin that encode accepts is decoded
  begin_back : (p : PackedFrame) → f.message_octets < 2 ^ 8 → begin_checked f (gives (begin_frame f)) ≡ gives p
      → decode_of p.octets ≡ gives (a_begin f.header f.identity f.message_octets (room f.identity) (begin_data_lem f))
  unfolding begin_frame
  begin_back p l e =
      let i : MobileIdentity = f.identity in
      let x = passed (not (encodable i)) 2 _ e in
      let y = passed (ltb (room i) f.begin_bits) 13 _ x.1 in
      let z = passed (any_set (drop (8 * f.message_octets) (begin_data_lem f))) 7 _ y.1 in
      let r : f.begin_bits ≤ room i = ltb-false (room i) f.begin_bits y.0 in
      let fits : length (begin_data_lem f) ≤ room i = simp length-take (omega arith) in
      let same : begin_frame f ≡ p = cc in
      rw (← same) (begin-decoded f.header usage echo i f.message_octets (begin_data_lem f) (not-false (encodable i) x.0) l fits z.0)

  -- and so is a Continue
  continue_back : (p : PackedFrame) → continue_checked f (gives (continue_frame f)) ≡ gives p
      → decode_of p.octets ≡ gives (a_continue f.header (f.identity_type % 4) f.frame_number (continue_data_lem f))
  unfolding continue_frame
  continue_back p e =
      let x = passed (ltb 25 f.frame_number) 12 _ e in
      let fits : length (continue_data_lem f) ≤ 79 = simp length-take (omega arith) in
      let same : continue_frame f ≡ p = cc in
      rw (← same) (continue-decoded f.header usage echo f.identity_type f.frame_number (continue_data_lem f) (ltb-false 25 f.frame_number x.0) fits)

-- what encode accepts is decoded, as `normal` says
pub encode_back : (f : ArqFrame) (p : PackedFrame) → f.message_octets < 2 ^ 8 → encode_of f ≡ gives p → decode_of p.octets ≡ gives (normal f)
unfolding encode_of
encode_back f p l e =
    let x = header_accepted f.header (by_kind f.kind (begin_checked f (gives (begin_frame f))) (continue_checked f (gives (continue_frame f)))) e in
    go f.kind x.0 x.1 x.2
  where
    go : (k : FrameKind) → eqb (usage_of f.header.channel) 7 ≡ false → f.header.partial_echo < 2 ^ 7 → by_kind k (begin_checked f (gives (begin_frame f))) (continue_checked f (gives (continue_frame f))) ≡ gives p
        → decode_of p.octets ≡ gives (by_kind k (a_begin f.header f.identity f.message_octets (room f.identity) (begin_data_lem f)) (a_continue f.header (f.identity_type % 4) f.frame_number (continue_data_lem f)))
    go Begin u o b = begin_back f u o p l b
    go Continue u o b = continue_back f u o p b

module _ (h : ArqHeader) (usage : eqb (usage_of h.channel) 7 ≡ false) (echo : h.partial_echo < 2 ^ 7) where
  -- a Begin that was given out, with as many data bits as it counts, is encoded
  pub begin_encoded : (i : MobileIdentity) (n b : ℕ) (d : List Bool) → encodable i ≡ true → length d ≡ b → b ≤ room i → any_set (drop (8 * n) d) ≡ false
      → encode_of (a_begin h i n b d) ≡ gives (packed (layout (begin h i n) ++ d))
  unfolding encode_of begin_frame
  begin_encoded i n b d en e l clear =
      let k : begin_data_lem (a_begin h i n b d) ≡ d = bits-kept 7 b d e (omega (arith, room_most i)) in
      let o : ltb 127 h.partial_echo ≡ false = le-ltb 127 h.partial_echo (omega arith) in
      rw (usage, o, en, le-ltb (room i) b l, k, clear)

  -- and so is a Continue
  pub continue_encoded : (t k : ℕ) (d : List Bool) → length d ≡ 79 → k ≤ 25 → encode_of (a_continue h t k d) ≡ gives (packed (layout (continue h t k) ++ d))
  unfolding encode_of continue_frame
  continue_encoded t k d e l =
      let r : continue_data_lem (a_continue h t k d) ≡ d = bits-kept 10 79 d e (omega arith) in
      let o : ltb 127 h.partial_echo ≡ false = le-ltb 127 h.partial_echo (omega arith) in
      rw (usage, o, le-ltb 25 k l, r)

  -- the frames of a cut are decoded to themselves
  cut_frame_back : (i : MobileIdentity) (m : List ℕ) (k : ℕ) → length m ≤ 255 → encodable i ≡ true → k < 1 + continues i (length m)
      → there_and_back (cut_frame h i m k) ≡ gives (widened (cut_frame h i m k))
  unfolding any_set
  cut_frame_back i m zero l en c =
      let d : List Bool = take (room i) (bits_of m) in
      let b : ℕ = min (8 * length m) (room i) in
      let e : length d ≡ b = simp (length-take, length-bits_of) (omega arith) in
      let short : length d ≤ 8 * length m = omega arith in
      let clear : any_set (drop (8 * length m) d) ≡ false = rw (drop_of_length-le d short) in
      rw (begin_encoded i (length m) b d en e (omega arith) clear) (begin-decoded h usage echo i (length m) d en (omega arith) (omega arith) clear)
  cut_frame_back i m (suc k) l en c =
      let d : List Bool = up_to 79 (drop (room i + 79 * k) (bits_of m)) in
      let e : length d ≡ 79 = length-up_to 79 (drop (room i + 79 * k) (bits_of m)) in
      let j : k ≤ 25 = omega (arith, count_most i (length m) l) in
      rw (continue_encoded (type_of i) k d e j) (continue-decoded h usage echo (type_of i) k d j (omega arith) ∙ rw (mod-eq_of_lt (type_lt i)))

-- what the cut gives is decoded to itself: the Begin widened, a Continue as it is
pub cut-back : (h : ArqHeader) (i : MobileIdentity) (m : List ℕ) (k : ℕ) (f : ArqFrame) → frame_of h i m k ≡ gives f → there_and_back f ≡ gives (widened f)
unfolding frame_of
cut-back h i m k f e =
    let x = passed (ltb 255 (length m)) 1 _ e in
    let y = header_accepted h _ x.1 in
    let z = passed (not (encodable i)) 2 _ y.2 in
    let v = passed (not (ltb k (1 + continues i (length m)))) 12 _ z.1 in
    let l : length m ≤ 255 = ltb-false 255 (length m) x.0 in
    let c : k < 1 + continues i (length m) = ltb-true k (1 + continues i (length m)) (not-false _ v.0) in
    let same : cut_frame h i m k ≡ f = cc in
    rw (← same) (cut_frame_back h y.0 y.1 i m k l (not-false (encodable i) z.0) c)
