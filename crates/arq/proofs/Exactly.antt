-- Encode, decode and the cut held to the words of Tables. Assumes nothing.
use Rattle.std.proofs.Common.{◌≡◌, ℕ, zero, suc, ◌+◌, ◌-◌, ◌*◌, ◌%◌, ◌^◌, ◌<◌, ◌≤◌, min, Bool, true, false, cond, not, ◌||◌, eqb, ltb, List, [], ◌∷◌, ◌++◌, length, take, drop, sym, refl, ap, ◌∙◌, subst, arith, length-take, take-take, drop-drop, ltb-false, eqb-true}
use native.Mathlib.Nat.{pow-le-pow_right}
use borrow.Author.Tests.{not-false}
use Rattle.field.specs.Bits.{bits, value, bits_of, octets, field}
use Rattle.field.specs.Layout.{layout, zeros, up_to, any_set}
use Rattle.field.proofs.Laws.{bits-mod, value_lt, field_lt, length-bits_of, length-octets}
use Rattle.field.proofs.Cuts.{length-up_to, bits_of_filled, any_set-up_to}
use Rattle.field.proofs.Set.{any_set_none}
use Rattle.rach.specs.Identity.{type_of, width_of, identity_of, encodable}
use Rattle.rach.specs.declared.MobileIdentity.{MobileIdentity}
use Rattle.rach.proofs.Laws.{type_lt, width_most, type_identity}
use Rattle.spach.specs.declared.Channel.{Channel}
use Rattle.spach.specs.declared.Channel.TheVariants.{Arch, Smsch, Pch}
use Rattle.spach.specs.declared.HeaderA.{HeaderA}
use Rattle.spach.specs.declared.Address.{Address}
use Rattle.spach.specs.Refusal.{Outcome, gives, refuses, refuse, and_then}
use Rattle.spach.specs.Header.{usage_of, is_set, header_a_at, address_at}
use Rattle.spach.proofs.Outcomes.{passed, then-gives, gives_same}
use Rattle.arq.specs.declared.FrameKind.{FrameKind}
use Rattle.arq.specs.declared.FrameKind.TheVariants.{Begin, Continue}
use Rattle.arq.specs.declared.ArqHeader.{ArqHeader}
use Rattle.arq.specs.declared.ArqFrame.{ArqFrame}
use Rattle.arq.specs.declared.PackedFrame.{PackedFrame}
use Rattle.arq.specs.Frame.{begin, continue, room, begin_data_lem, continue_data_lem, packed, begin_frame, continue_frame, a_begin, a_continue}
use Rattle.arq.specs.Encode.{header_checked, begin_checked, continue_checked, by_kind, encode_of}
use Rattle.arq.specs.Decode.{decode_of}
use Rattle.arq.specs.Parts.{header_at, decode_begin, decode_continue, decode_kind, decode_usage, decode_by_parts}
use Rattle.arq.specs.Cut.{continues, cut_frame, count_of, frame_of}
use Rattle.arq.proofs.Tables.{said, table, begin_table, continue_table, cut_table, read_begin_table, read_continue_table, decode_table, begin_bits_lem, continue_bits, BeginAlike, ContinueAlike, ReadAlike, SkippedAlike, GivenOut, CutBegin, CutContinue}
use Rattle.arq.proofs.Cuts.{room_most, begin_holds, continue_holds}
use Rattle.arq.proofs.Laid.{packed-bits}
use Rattle.arq.proofs.Parts.{then_refuse, decode_parts}
use Rattle.arq.proofs.Round.{header_accepted}

-- ---- refusals

said_refuse : {A : Type 0} (t : Bool) (n : ℕ) (o : Outcome A) → said (refuse t n o) ≡ refuse t n (said o)
said_refuse true n o = refl
said_refuse false n o = refl

-- what follows a test counts only where the test does not hold
refuse-same : {A : Type 0} (t : Bool) (n : ℕ) {o p : Outcome A} → (t ≡ false → o ≡ p) → refuse t n o ≡ refuse t n p
refuse-same true n h = refl
refuse-same false n h = h refl

-- one row of a table
row : {A : Type 0} (t : Bool) (n : ℕ) (o : Outcome A) {p : Outcome Unit} → said o ≡ p → said (refuse t n o) ≡ refuse t n p
row t n o h = said_refuse t n o ∙ ap (refuse t n) h

-- and of one that is followed by another call
then_row : {A B : Type 0} (t : Bool) (n : ℕ) (o : Outcome A) (f : A → Outcome B) {p : Outcome Unit} → said (and_then o f) ≡ p → said (and_then (refuse t n o) f) ≡ refuse t n p
then_row t n o f h = ap said (then_refuse t n o f) ∙ row t n (and_then o f) h

-- ---- encode

-- by the parts of a Begin that are read
abbrev begins : ArqHeader → MobileIdentity → ℕ → ℕ → List Bool → Outcome PackedFrame
begins h i n b d = header_checked h (refuse (not (encodable i)) 2 (refuse (ltb (room i) b) 13 (refuse (any_set (drop (8 * n) d)) 7 (gives (packed (layout (begin h i n) ++ d))))))

-- and of a Continue
abbrev goes_on : ArqHeader → List Bool → ℕ → List Bool → Outcome PackedFrame
goes_on h front k d = header_checked h (refuse (ltb 25 k) 12 (gives (packed (front ++ d))))

module _ (f : ArqFrame) where
  encode_begin : f.kind ≡ Begin → encode_of f ≡ begins f.header f.identity f.message_octets f.begin_bits (begin_data_lem f)
  unfolding encode_of begin_frame
  encode_begin e = ap (λ (k : FrameKind). header_checked f.header (by_kind k (begin_checked f (gives (begin_frame f))) (continue_checked f (gives (continue_frame f))))) e

  encode_continue : f.kind ≡ Continue → encode_of f ≡ goes_on f.header (layout (continue f.header f.identity_type f.frame_number)) f.frame_number (continue_data_lem f)
  unfolding encode_of continue_frame
  encode_continue e = ap (λ (k : FrameKind). header_checked f.header (by_kind k (begin_checked f (gives (begin_frame f))) (continue_checked f (gives (continue_frame f))))) e

  pub begin_said : f.kind ≡ Begin → said (encode_of f) ≡ table (begin_table f) (gives tt)
  begin_said e =
      ap said (encode_begin e)
      ∙ row (eqb (usage_of f.header.channel) 7) 3 _ (row (ltb 127 f.header.partial_echo) 11 _ (row (not (encodable f.identity)) 2 _
      (row (ltb (room f.identity) f.begin_bits) 13 _ (row (any_set (drop (8 * f.message_octets) (begin_data_lem f))) 7 _ refl))))

  pub continue_said : f.kind ≡ Continue → said (encode_of f) ≡ table (continue_table f) (gives tt)
  continue_said e =
      ap said (encode_continue e)
      ∙ row (eqb (usage_of f.header.channel) 7) 3 _ (row (ltb 127 f.header.partial_echo) 11 _ (row (ltb 25 f.frame_number) 12 _ refl))

  module _ (p : PackedFrame) where
    pub begin_lays : f.kind ≡ Begin → encode_of f ≡ gives p
        → bits_of p.octets ≡ layout (begin_bits_lem f) ++ (up_to (75 - width_of (type_of f.identity)) (take f.begin_bits (bits_of f.begin_data)) ++ zeros 3)
    begin_lays k e =
        let i : MobileIdentity = f.identity in
        let x = header_accepted f.header _ (sym (encode_begin k) ∙ e) in
        let y = passed (not (encodable i)) 2 _ x.2 in
        let z = passed (ltb (room i) f.begin_bits) 13 _ y.1 in
        let v = passed (any_set (drop (8 * f.message_octets) (begin_data_lem f))) 7 _ z.1 in
        let r : f.begin_bits ≤ room i = ltb-false (room i) f.begin_bits z.0 in
        let fits : length (begin_data_lem f) ≤ room i = simp length-take (omega arith) in
        let same : packed (layout (begin_bits_lem f) ++ begin_data_lem f) ≡ p = gives_same v.1 in
        rw (← same) (packed-bits (begin_bits_lem f) (room i) (begin_data_lem f) (omega (arith, width_most (type_of i))) fits)

    pub continue_lays : f.kind ≡ Continue → encode_of f ≡ gives p → bits_of p.octets ≡ layout (continue_bits f) ++ (up_to 79 (take 79 (bits_of f.continue_data)) ++ zeros 3)
    continue_lays k e =
        let x = header_accepted f.header _ (sym (encode_continue k) ∙ e) in
        let y = passed (ltb 25 f.frame_number) 12 _ x.2 in
        let fits : length (continue_data_lem f) ≤ 79 = simp length-take (omega arith) in
        let same : packed (layout (continue_bits f) ++ continue_data_lem f) ≡ p = gives_same y.1 in
        rw (← same) (packed-bits (continue_bits f) 79 (continue_data_lem f) refl fits)

-- of a Continue's type only the low two bits are laid
two-bits : (h : ArqHeader) (t k : ℕ) → layout (continue h (t % 4) k) ≡ layout (continue h t k)
unfolding layout
two-bits h t k = let e : bits 2 (t % 4) ≡ bits 2 t = bits-mod 2 t in rw e

module _ (f g : ArqFrame) where
  begins_alike : f.header ≡ g.header → BeginAlike f g
      → begins f.header f.identity f.message_octets f.begin_bits (begin_data_lem f) ≡ begins g.header g.identity g.message_octets g.begin_bits (begin_data_lem g)
  begins_alike e a =
      ap (λ (h : ArqHeader). begins h f.identity f.message_octets f.begin_bits (begin_data_lem f)) e
      ∙ ap (λ (i : MobileIdentity). begins g.header i f.message_octets f.begin_bits (begin_data_lem f)) a.identity
      ∙ ap (λ (n : ℕ). begins g.header g.identity n f.begin_bits (begin_data_lem f)) a.count
      ∙ ap (λ (b : ℕ). begins g.header g.identity g.message_octets b (begin_data_lem f)) a.bits
      ∙ ap (begins g.header g.identity g.message_octets g.begin_bits) a.read

  fronts_alike : f.header ≡ g.header → ContinueAlike f g
      → layout (continue f.header f.identity_type f.frame_number) ≡ layout (continue g.header g.identity_type g.frame_number)
  fronts_alike e a =
      sym (two-bits f.header f.identity_type f.frame_number)
      ∙ ap (λ (t : ℕ). layout (continue f.header t f.frame_number)) a.type
      ∙ two-bits f.header g.identity_type f.frame_number
      ∙ ap (λ (k : ℕ). layout (continue f.header g.identity_type k)) a.number
      ∙ ap (λ (h : ArqHeader). layout (continue h g.identity_type g.frame_number)) e

  goes_alike : f.header ≡ g.header → ContinueAlike f g
      → goes_on f.header (layout (continue f.header f.identity_type f.frame_number)) f.frame_number (continue_data_lem f)
      ≡ goes_on g.header (layout (continue g.header g.identity_type g.frame_number)) g.frame_number (continue_data_lem g)
  goes_alike e a =
      ap (λ (l : List Bool). goes_on f.header l f.frame_number (continue_data_lem f)) (fronts_alike e a)
      ∙ ap (λ (h : ArqHeader). goes_on h (layout (continue g.header g.identity_type g.frame_number)) f.frame_number (continue_data_lem f)) e
      ∙ ap (λ (k : ℕ). goes_on g.header (layout (continue g.header g.identity_type g.frame_number)) k (continue_data_lem f)) a.number
      ∙ ap (goes_on g.header (layout (continue g.header g.identity_type g.frame_number)) g.frame_number) a.read

  -- nothing else is read
  pub encode_alike : ReadAlike f g → encode_of f ≡ encode_of g
  encode_alike a = by f.kind refl
    where
      by : (k : FrameKind) → f.kind ≡ k → encode_of f ≡ encode_of g
      by Begin e = encode_begin f e ∙ begins_alike a.header (a.as_begin e) ∙ sym (encode_begin g (sym a.kind ∙ e))
      by Continue e = encode_continue f e ∙ goes_alike a.header (a.as_continue e) ∙ sym (encode_continue g (sym a.kind ∙ e))

-- ---- decode

module _ (bs : List Bool) where
  abbrev usage_at : ℕ
  usage_at = field 0 3 bs

  -- header A and Pch, whatever follows them
  module _ (o : Outcome Unit) (goes : (a : HeaderA) → said (decode_kind a bs) ≡ o) where
    abbrev headed : Channel → HeaderA
    headed c = record {
      channel = c;
      flags = record { pch_continuation = is_set 3 bs; bcch_change = is_set 4 bs; paging_frame_modifier = is_set 5 bs; reservation_response = false };
      reader = record { offset = 7 };
    }

    by_channel : (c : Channel) (z : Bool) → eqb (usage_of c) 7 ≡ z
        → said (and_then (refuse (is_set 6 bs) 6 (gives (headed c))) (λ a. decode_usage a bs)) ≡ refuse (is_set 6 bs) 6 (refuse z 3 o)
    by_channel c z e =
        then_row (is_set 6 bs) 6 (gives (headed c)) (λ a. decode_usage a bs)
        (row (eqb (usage_of c) 7) 3 _ (goes (headed c)) ∙ ap (λ (x : Bool). refuse x 3 o) e)

    usage_said : said (and_then (header_a_at 0 bs) (λ a. decode_usage a bs))
        ≡ table ((not (eqb usage_at 3 || eqb usage_at 4 || eqb usage_at 7), 3) ∷ (not (eqb (field 6 1 bs) 0), 6) ∷ (eqb usage_at 7, 3) ∷ []) o
    unfolding header_a_at
    usage_said = by (eqb usage_at 3) (eqb usage_at 4) (eqb usage_at 7) refl refl refl
      where
        by : (x y z : Bool) → eqb usage_at 3 ≡ x → eqb usage_at 4 ≡ y → eqb usage_at 7 ≡ z
            → said (and_then (and_then (cond x (gives Arch) (cond y (gives Smsch) (cond z (gives Pch) (refuses 3)))) (λ c. refuse (is_set 6 bs) 6 (gives (headed c)))) (λ a. decode_usage a bs))
            ≡ table ((not (x || y || z), 3) ∷ (not (eqb (field 6 1 bs) 0), 6) ∷ (z, 3) ∷ []) o
        by true y true p q r = let a = eqb-true usage_at 3 p in let b = eqb-true usage_at 7 r in absurd (omega arith)
        by true y false p q r = by_channel Arch false refl
        by false true true p q r = let a = eqb-true usage_at 4 q in let b = eqb-true usage_at 7 r in absurd (omega arith)
        by false true false p q r = by_channel Smsch false refl
        by false false true p q r = by_channel Pch true refl
        by false false false p q r = refl

  -- a Begin; the two bits of a type are below 4
  read_begin_said : (a : HeaderA) → 12 ≤ length bs → said (and_then (address_at 10 bs) (decode_begin a bs)) ≡ table (read_begin_table (width_of (field 10 2 bs)) bs) (gives tt)
  unfolding address_at
  read_begin_said a n =
      let t : ℕ = field 10 2 bs in
      let w : ℕ = width_of t in
      let i : MobileIdentity = identity_of t (field 15 w bs) in
      let d : Address = record { identity = i; reservation_response = is_set 13 bs; reader = record { offset = 15 + w } } in
      let e : room i ≡ 75 - w = ap (λ (x : ℕ). 75 - width_of x) (type_identity t (field 15 w bs) (field_lt 10 2 bs n)) in
      let unset : ℕ → Bool = λ r. any_set (drop (8 * field (15 + w + 11) 8 bs) (take r (drop (15 + w + 19) bs))) in
      then_row (is_set 12 bs) 4 _ (decode_begin a bs)
      (then_row (is_set 14 bs) 5 _ (decode_begin a bs)
      (then_row (eqb (field 15 w bs) 0) 2 (gives d) (decode_begin a bs)
      (row (not (eqb (field (15 + w + 7) 2 bs) 0)) 6 _ (row (unset (room i)) 7 _ refl ∙ ap (λ (r : ℕ). refuse (unset r) 7 (gives tt)) e))))

  read_continue_said : (a : HeaderA) → said (decode_continue a bs) ≡ table (read_continue_table bs) (gives tt)
  read_continue_said a = row (not (eqb (field 21 2 bs) 0)) 6 _ (row (ltb 25 (field 25 5 bs)) 12 _ refl)

  kind_said : (a : HeaderA) → 12 ≤ length bs
      → said (decode_kind a bs) ≡ refuse (not (eqb (field 7 3 bs) 5 || eqb (field 7 3 bs) 6)) 4
      (cond (eqb (field 7 3 bs) 5) (table (read_begin_table (width_of (field 10 2 bs)) bs) (gives tt)) (table (read_continue_table bs) (gives tt)))
  kind_said a n = by (eqb (field 7 3 bs) 5) (eqb (field 7 3 bs) 6)
    where
      by : (x y : Bool) → said (cond x (and_then (address_at 10 bs) (decode_begin a bs)) (cond y (decode_continue a bs) (refuses 4)))
          ≡ refuse (not (x || y)) 4 (cond x (table (read_begin_table (width_of (field 10 2 bs)) bs) (gives tt)) (table (read_continue_table bs) (gives tt)))
      by true y = read_begin_said a n
      by false true = read_continue_said a
      by false false = refl

pub decode_said : (xs : List ℕ) → said (decode_of xs) ≡ decode_table xs
decode_said xs =
    let bs : List Bool = bits_of xs in
    ap said (decode_parts xs)
    ∙ said_refuse (not (eqb (length xs) 14)) 1 _
    ∙ refuse-same (not (eqb (length xs) 14)) 1
    (λ e. let n : length xs ≡ 14 = eqb-true (length xs) 14 (not-false _ e) in
    let l : 12 ≤ length bs = omega (arith, length-bits_of xs) in
    row (not (eqb (field 109 3 bs) 0)) 15 _ (usage_said bs _ (λ a. kind_said bs a l)))

-- ---- what is given out

-- bits past those that are held in n octets
unread : (n k : ℕ) (bs : List Bool) → length bs ≤ 8 * n → length bs ≤ k → any_set (drop k (bits_of (octets n (up_to (8 * n) bs)))) ≡ false
unread n k bs l h = ap (λ (b : List Bool). any_set (drop k b)) (bits_of_filled n bs) ∙ any_set-up_to (8 * n) k bs l ∙ any_set_none k bs h

begin_out : (h : ArqHeader) (i : MobileIdentity) (n b : ℕ) (d : List Bool) → length d ≤ 56 → length d ≤ b → GivenOut (a_begin h i n b d)
begin_out h i n b d l m = record {
  as_begin = λ e. record { octets = length-octets 7 (up_to 56 d); unread = unread 7 b d l m; type = refl; number = refl; other = refl };
  as_continue = λ e. let z : ◌≡◌ {A = ℕ} 0 1 = cc in absurd (omega arith);
}

continue_out : (h : ArqHeader) (t k : ℕ) (d : List Bool) → t < 4 → length d ≤ 79 → GivenOut (a_continue h t k d)
continue_out h t k d m l = record {
  as_begin = λ e. let z : ◌≡◌ {A = ℕ} 0 1 = cc in absurd (omega arith);
  as_continue = λ e. record { type = m; octets = length-octets 10 (up_to 80 d); unread = unread 10 79 d (omega arith) l; identity = refl; count = refl; bits = refl; other = refl };
}

-- two bits are a type
type_small : (bs : List Bool) → field 10 2 bs < 4
unfolding field
type_small bs =
    let l : length (take 2 (drop 10 bs)) ≤ 2 = simp length-take (omega arith) in
    let p : 2 ^ length (take 2 (drop 10 bs)) ≤ 2 ^ 2 = pow-le-pow_right {n = 2} (omega arith) {i = length (take 2 (drop 10 bs))} {j = 2} l in
    omega (arith, value_lt (take 2 (drop 10 bs)))

-- what decode gives, and how many data bits a Begin of it has
abbrev Heard : ArqFrame → Type 0
Heard f = GivenOut f × (f.kind ≡ Begin → f.begin_bits ≡ 75 - width_of (type_of f.identity))

module _ (a : HeaderA) (bs : List Bool) (f : ArqFrame) where
  begin-heard : (d : Address) → decode_begin a bs d ≡ gives f → Heard f
  begin-heard d e =
      let o : ℕ = d.reader.offset in
      let i : MobileIdentity = d.identity in
      let n : ℕ = field (o + 11) 8 bs in
      let data_bits : List Bool = take (room i) (drop (o + 19) bs) in
      let x = passed (not (eqb (field (o + 7) 2 bs) 0)) 6 _ e in
      let y = passed (any_set (drop (8 * n) data_bits)) 7 _ x.1 in
      let same : a_begin (header_at a d.reservation_response o bs) i n (room i) data_bits ≡ f = gives_same y.1 in
      let m : length data_bits ≤ room i = simp length-take (omega arith) in
      subst Heard same (begin_out (header_at a d.reservation_response o bs) i n (room i) data_bits (omega (arith, room_most i)) m, λ z. refl)

  continue-heard : decode_continue a bs ≡ gives f → Heard f
  continue-heard e =
      let h : ArqHeader = header_at a (is_set 13 bs) 14 bs in
      let d : List Bool = take 79 (drop 30 bs) in
      let x = passed (not (eqb (field 21 2 bs) 0)) 6 _ e in
      let y = passed (ltb 25 (field 25 5 bs)) 12 _ x.1 in
      let same : a_continue h (field 10 2 bs) (field 25 5 bs) d ≡ f = gives_same y.1 in
      let m : length d ≤ 79 = simp length-take (omega arith) in
      subst Heard same (continue_out h (field 10 2 bs) (field 25 5 bs) d (type_small bs) m, λ z. let v : ◌≡◌ {A = ℕ} 0 1 = cc in absurd (omega arith))

  kind_heard : decode_kind a bs ≡ gives f → Heard f
  kind_heard = by (eqb (field 7 3 bs) 5) (eqb (field 7 3 bs) 6)
    where
      by : (x y : Bool) → cond x (and_then (address_at 10 bs) (decode_begin a bs)) (cond y (decode_continue a bs) (refuses 4)) ≡ gives f → Heard f
      by true y e = let g = then-gives (address_at 10 bs) (decode_begin a bs) e in begin-heard g.0 g.2
      by false true e = continue-heard e
      by false false e = let z : ◌≡◌ {A = ℕ} 0 1 = cc in absurd (omega arith)

pub decode_heard : (xs : List ℕ) (f : ArqFrame) → decode_of xs ≡ gives f → Heard f
decode_heard xs f e =
    let bs : List Bool = bits_of xs in
    let x = passed (not (eqb (length xs) 14)) 1 _ (sym (decode_parts xs) ∙ e) in
    let y = passed (not (eqb (field 109 3 bs) 0)) 15 _ x.1 in
    let g = then-gives (header_a_at 0 bs) _ y.1 in
    let u = passed (eqb (usage_of g.0.channel) 7) 3 _ g.2 in
    kind_heard g.0 bs f u.1

-- ---- the skipped bit

-- a part of the first n bits is that of them all
front : (p u n : ℕ) (cs : List Bool) → p + u ≤ n → take u (drop p (take n cs)) ≡ take u (drop p cs)
front zero u n cs l = take-take u n cs (omega arith)
front (suc p) u zero cs l = absurd (omega arith)
front (suc p) u (suc n) [] l = refl
front (suc p) u (suc n) (x ∷ cs) l = front p u n cs (omega arith)

then_same : {A B : Type 0} (o : Outcome A) (f g : A → Outcome B) → ((a : A) → f a ≡ g a) → and_then o f ≡ and_then o g
then_same (gives a) f g h = h a
then_same (refuses n) f g h = refl

module _ (ls bs : List Bool) (before : take 12 ls ≡ take 12 bs) (behind : drop 13 ls ≡ drop 13 bs) where
  -- fields up to it, and past it
  field_before : (p u : ℕ) → p + u ≤ 12 → field p u ls ≡ field p u bs
  unfolding field
  field_before p u l = ap value (sym (front p u 12 ls l) ∙ ap (λ (cs : List Bool). take u (drop p cs)) before ∙ front p u 12 bs l)

  past : (p : ℕ) → drop (13 + p) ls ≡ drop (13 + p) bs
  past p = sym (drop-drop p 13 ls) ∙ ap (drop p) behind ∙ drop-drop p 13 bs

  field_behind : (p u : ℕ) → field (13 + p) u ls ≡ field (13 + p) u bs
  unfolding field
  field_behind p u = ap (λ (cs : List Bool). value (take u cs)) (past p)

  header_skips : header_a_at 0 ls ≡ header_a_at 0 bs
  unfolding header_a_at
  header_skips = rw (field_before 0 3 (omega arith), field_before 3 1 (omega arith), field_before 4 1 (omega arith), field_before 5 1 (omega arith), field_before 6 1 (omega arith))

  continue_skips : (h : HeaderA) → decode_continue h ls ≡ decode_continue h bs
  continue_skips h =
      let response : field 13 1 ls ≡ field 13 1 bs = field_behind 0 1 in
      let echo : field 14 7 ls ≡ field 14 7 bs = field_behind 1 7 in
      let reserved : field 21 2 ls ≡ field 21 2 bs = field_behind 8 2 in
      let polling : field 23 1 ls ≡ field 23 1 bs = field_behind 10 1 in
      let mode : field 24 1 ls ≡ field 24 1 bs = field_behind 11 1 in
      let number : field 25 5 ls ≡ field 25 5 bs = field_behind 12 5 in
      let rest : drop 30 ls ≡ drop 30 bs = past 17 in
      rw (field_before 10 2 (omega arith), response, echo, reserved, polling, mode, number, rest)

  kind_skips : field 7 3 ls ≡ 6 → (h : HeaderA) → decode_kind h ls ≡ decode_kind h bs
  kind_skips k h =
      let j : field 7 3 bs ≡ 6 = sym (field_before 7 3 (omega arith)) ∙ k in
      rw (k, j) (continue_skips h)

-- it does not change what is decoded of a Continue
pub continue_alike : (xs ys : List ℕ) → field 7 3 (bits_of xs) ≡ 6 → SkippedAlike xs ys → decode_of xs ≡ decode_of ys
continue_alike xs ys k s = decode_parts xs ∙ (same ∙ sym (decode_parts ys))
  where
    ls : List Bool
    ls = bits_of xs

    bs : List Bool
    bs = bits_of ys

    padding : field 109 3 ls ≡ field 109 3 bs
    padding = field_behind ls bs s.before s.behind 96 3

    same : decode_by_parts xs ≡ decode_by_parts ys
    same =
        rw (s.size, padding, header_skips ls bs s.before s.behind)
        (ap (λ (o : Outcome ArqFrame). refuse (not (eqb (length ys) 14)) 1 (refuse (not (eqb (field 109 3 bs) 0)) 15 o))
        (then_same (header_a_at 0 bs) (λ h. decode_usage h ls) (λ h. decode_usage h bs) (λ h. ap (refuse (eqb (usage_of h.channel) 7) 3) (kind_skips ls bs s.before s.behind k h))))

-- ---- the cut

module _ (h : ArqHeader) (i : MobileIdentity) (m : List ℕ) where
  pub count_said : count_of h i m ≡ table (cut_table h i m) (gives (1 + continues i (length m)))
  unfolding count_of
  count_said = refl

  -- the count that is given is the least whose frames have room for the message
  pub count_fits : (c : ℕ) → count_of h i m ≡ gives c
      → (1 ≤ c) × (8 * length m ≤ 75 - width_of (type_of i) + 79 * (c - 1)) × ((k : ℕ) → 8 * length m ≤ 75 - width_of (type_of i) + 79 * k → c ≤ 1 + k)
  count_fits c e =
      let x = passed (ltb 255 (length m)) 1 _ (sym count_said ∙ e) in
      let y = header_accepted h _ x.1 in
      let z = passed (not (encodable i)) 2 _ y.2 in
      let same : 1 + continues i (length m) ≡ c = gives_same z.1 in
      (omega arith, omega arith, λ k l. omega arith)

  pub frame_said : (k : ℕ) → said (frame_of h i m k) ≡ table (cut_table h i m) (refuse (not (ltb k (1 + continues i (length m)))) 12 (gives tt))
  unfolding frame_of
  frame_said k =
      row (ltb 255 (length m)) 1 _ (row (eqb (usage_of h.channel) 7) 3 _ (row (ltb 127 h.partial_echo) 11 _ (row (not (encodable i)) 2 _ (row (not (ltb k (1 + continues i (length m)))) 12 _ refl))))

  -- what is given of a cut is its frame
  frame_same : (k : ℕ) (f : ArqFrame) → frame_of h i m k ≡ gives f → cut_frame h i m k ≡ f
  unfolding frame_of
  frame_same k f e =
      let x = passed (ltb 255 (length m)) 1 _ e in
      let y = header_accepted h _ x.1 in
      let z = passed (not (encodable i)) 2 _ y.2 in
      gives_same (passed (not (ltb k (1 + continues i (length m)))) 12 _ z.1).1

  cut_out : (k : ℕ) → GivenOut (cut_frame h i m k)
  cut_out zero =
      let d : List Bool = take (room i) (bits_of m) in
      let b : ℕ = min (8 * length m) (room i) in
      let l : length d ≤ b = simp (length-take, length-bits_of) (omega arith) in
      begin_out h i (length m) b d (omega (arith, room_most i)) l
  cut_out (suc k) =
      let d : List Bool = up_to 79 (drop (room i + 79 * k) (bits_of m)) in
      let l : length d ≡ 79 = length-up_to 79 (drop (room i + 79 * k) (bits_of m)) in
      continue_out h (type_of i) k d (type_lt i) (omega arith)

  pub frame_out : (k : ℕ) (f : ArqFrame) → frame_of h i m k ≡ gives f → GivenOut f
  frame_out k f e = subst GivenOut (frame_same k f e) (cut_out k)

  pub begin_given : (f : ArqFrame) → frame_of h i m 0 ≡ gives f → CutBegin h i m f
  begin_given f e =
      subst (CutBegin h i m) (frame_same 0 f e)
      (record { kind = refl; header = refl; identity = refl; count = refl; bits = refl; read = begin_holds h i m })

  pub continue_given : (k : ℕ) (f : ArqFrame) → frame_of h i m (suc k) ≡ gives f → CutContinue h i m k f
  continue_given k f e =
      subst (CutContinue h i m k) (frame_same (suc k) f e)
      (record { kind = refl; header = refl; type = refl; number = refl; read = continue_holds h i m k })
