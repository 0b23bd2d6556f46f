-- What is known of a frame that was heard, and of one that the cut gave. Assumes nothing.
use Rattle.std.proofs.Common.{◌≡◌, ℕ, suc, ◌+◌, ◌*◌, ◌^◌, ◌<◌, ◌≤◌, Bool, true, false, cond, not, eqb, ltb, List, length, take, drop, sym, refl, ap, ◌∙◌, subst, arith, ltb-false, ltb-true, eqb-true}
use borrow.Author.Tests.{not-false}
use Rattle.field.specs.Bits.{bits, value, bits_of, octets, field}
use Rattle.field.specs.Layout.{up_to, any_set}
use Rattle.field.proofs.Laws.{field_lt, length-field, length-bits_of, length-octets}
use Rattle.field.proofs.Cuts.{bits-kept, up_to_of_take, up_to-take}
use Rattle.rach.specs.Identity.{width_of, encodable}
use Rattle.rach.specs.declared.MobileIdentity.{MobileIdentity}
use Rattle.spach.specs.declared.HeaderA.{HeaderA}
use Rattle.spach.specs.declared.Address.{Address}
use Rattle.spach.specs.declared.Channel.TheVariants.{Arch, Smsch, Pch}
use Rattle.spach.specs.Refusal.{Outcome, gives, refuses, refuse, and_then}
use Rattle.spach.specs.Header.{usage_of, is_set, channel_of, header_a_at, address_at}
use Rattle.spach.proofs.Outcomes.{passed, then-gives}
use Rattle.arq.specs.declared.FrameKind.TheVariants.{Begin}
use Rattle.arq.specs.declared.ArqHeader.{ArqHeader}
use Rattle.arq.specs.declared.ArqFrame.{ArqFrame}
use Rattle.arq.specs.Frame.{room, begin_data_lem, continue_data_lem, a_begin, a_continue}
use Rattle.arq.specs.Decode.{decode_of}
use Rattle.arq.specs.Parts.{header_at, decode_begin, decode_continue, decode_kind}
use Rattle.arq.specs.Cut.{continues, cut_checked, cut_frame, count_of, frame_of}
use Rattle.arq.proofs.Cuts.{room_most, begin_holds, continue_holds}
use Rattle.arq.proofs.Decoded.{address_ends}
use Rattle.arq.proofs.Parts.{decode_parts}
use Rattle.arq.proofs.Round.{header_accepted}
use Rattle.receiver.specs.Demand3.{CutFrom, OfCut}

-- ---- decoded

-- a frame that decode gave: its numbers fit, and its data octets have no bit set that is not read
pub record Decoded (f : ArqFrame) : Type 0 where
  pub echo : f.header.partial_echo < 2 ^ 7
  pub count : f.message_octets < 2 ^ 8
  pub number : f.frame_number ≤ 25
  pub begin_data : f.begin_data ≡ octets 7 (up_to 56 (begin_data_lem f))
  pub begin_bits : f.kind ≡ Begin → f.begin_bits ≡ room f.identity
  pub continue_data : f.continue_data ≡ octets 10 (up_to 80 (continue_data_lem f))

module _ (a : HeaderA) (bs : List Bool) (size : length bs ≡ 112) (f : ArqFrame) where
  decoded_continue : decode_continue a bs ≡ gives f → Decoded f
  unfolding octets up_to value
  decoded_continue e =
      let d : List Bool = take 79 (drop 30 bs) in
      let x = passed (not (eqb (field 21 2 bs) 0)) 6 _ e in
      let y = passed (ltb 25 (field 25 5 bs)) 12 _ x.1 in
      let same : a_continue (header_at a (is_set 13 bs) 14 bs) (field 10 2 bs) (field 25 5 bs) d ≡ f = cc in
      rw (← same)
      (record {
        echo = field_lt 14 7 bs (omega arith);
        count = omega arith;
        number = ltb-false 25 (field 25 5 bs) y.0;
        begin_data = refl;
        begin_bits = λ k. cc;
        continue_data = ap (λ l. octets 10 (up_to 80 l)) (sym (bits-kept 10 79 d (length-field 30 79 bs (omega arith)) (omega arith)));
      })

  decoded_begin : (d : Address) → address_at 10 bs ≡ gives d → decode_begin a bs d ≡ gives f → Decoded f
  unfolding octets up_to value bits_of bits
  decoded_begin d g e =
      let i : MobileIdentity = d.identity in
      let o : ℕ = d.reader.offset in
      let l : List Bool = take (room i) (drop (o + 19) bs) in
      let n : ℕ = field (o + 11) 8 bs in
      let w = address_ends bs d (omega arith) (sym g) in
      let x = passed (not (eqb (field (o + 7) 2 bs) 0)) 6 _ e in
      let y = passed (any_set (drop (8 * n) l)) 7 _ x.1 in
      let same : a_begin (header_at a d.reservation_response o bs) i n (room i) l ≡ f = cc in
      rw (← same)
      (record {
        echo = field_lt o 7 bs (omega arith);
        count = field_lt (o + 11) 8 bs (omega arith);
        number = omega arith;
        begin_data = ap (λ l. octets 7 (up_to 56 l)) (sym (bits-kept 7 (room i) l (length-field (o + 19) (room i) bs (omega arith)) (omega (arith, room_most i))));
        begin_bits = λ k. refl;
        continue_data = refl;
      })

  decoded_kind : decode_kind a bs ≡ gives f → Decoded f
  decoded_kind e = go (eqb (field 7 3 bs) 5) (eqb (field 7 3 bs) 6) e
    where
      go : (x y : Bool) → cond x (and_then (address_at 10 bs) (decode_begin a bs)) (cond y (decode_continue a bs) (refuses 4)) ≡ gives f → Decoded f
      go true y e =
          let g = then-gives (address_at 10 bs) (decode_begin a bs) e in
          decoded_begin g.0 g.1 g.2
      go false true e = decoded_continue e
      go false false e = cc

-- every frame that decode gives is so
pub decoded : (xs : List ℕ) (f : ArqFrame) → decode_of xs ≡ gives f → Decoded f
decoded xs f e =
    let bs : List Bool = bits_of xs in
    let x = passed (not (eqb (length xs) 14)) 1 _ (sym (decode_parts xs) ∙ e) in
    let y = passed (not (eqb (field 109 3 bs) 0)) 15 _ x.1 in
    let g = then-gives (header_a_at 0 bs) _ y.1 in
    let u = passed (eqb (usage_of g.0.channel) 7) 3 _ g.2 in
    let n : length xs ≡ 14 = eqb-true (length xs) 14 (not-false _ x.0) in
    decoded_kind g.0 bs (length-bits_of xs ∙ ap (λ (m : ℕ). 8 * m) n) f u.1

-- ---- refused

-- what refuses, if it does, by a number of 15 at the most
pub record Within {A : Type 0} (o : Outcome A) : Type 0 where
  pub small : (n : ℕ) → o ≡ refuses n → n ≤ 15

within_gives : {A : Type 0} (a : A) → Within (gives a)
within_gives a = record { small = λ n e. cc }

within_refuses : {A : Type 0} (k : ℕ) → k ≤ 15 → Within {A = A} (refuses k)
within_refuses k l = record { small = λ n e. let q : k ≡ n = cc in omega arith }

within_refuse : {A : Type 0} (t : Bool) (k : ℕ) {o : Outcome A} → k ≤ 15 → Within o → Within (refuse t k o)
within_refuse true k l w = within_refuses k l
within_refuse false k l w = w

within_cond : {A : Type 0} (t : Bool) {o p : Outcome A} → Within o → Within p → Within (cond t o p)
within_cond true x y = x
within_cond false x y = y

within_then : {A B : Type 0} (o : Outcome A) {f : A → Outcome B} → Within o → ((a : A) → Within (f a)) → Within (and_then o f)
within_then (gives a) w g = g a
within_then (refuses k) w g = within_refuses k (w.small k refl)

module _ (bs : List Bool) where
  within_channel : (u : ℕ) → Within (channel_of u)
  within_channel u =
      within_cond (eqb u 3) (within_gives Arch) (within_cond (eqb u 4) (within_gives Smsch) (within_cond (eqb u 7) (within_gives Pch) (within_refuses 3 (omega arith))))

  within_header : Within (header_a_at 0 bs)
  unfolding header_a_at
  within_header = within_then (channel_of (field 0 3 bs)) (within_channel (field 0 3 bs)) (λ c. within_refuse (is_set 6 bs) 6 (omega arith) (within_gives _))

  within_address : Within (address_at 10 bs)
  unfolding address_at
  within_address =
      within_refuse (is_set 12 bs) 4 (omega arith)
      (within_refuse (is_set 14 bs) 5 (omega arith) (within_refuse (eqb (field 15 (width_of (field 10 2 bs)) bs) 0) 2 (omega arith) (within_gives _)))

  within_begin : (h : HeaderA) (a : Address) → Within (decode_begin h bs a)
  within_begin h a =
      let o : ℕ = a.reader.offset in
      within_refuse (not (eqb (field (o + 7) 2 bs) 0)) 6 (omega arith)
      (within_refuse (any_set (drop (8 * field (o + 11) 8 bs) (take (room a.identity) (drop (o + 19) bs)))) 7 (omega arith) (within_gives _))

  within_kind : (h : HeaderA) → Within (decode_kind h bs)
  within_kind h =
      within_cond (eqb (field 7 3 bs) 5) (within_then (address_at 10 bs) within_address (within_begin h))
      (within_cond (eqb (field 7 3 bs) 6)
      (within_refuse (not (eqb (field 21 2 bs) 0)) 6 (omega arith) (within_refuse (ltb 25 (field 25 5 bs)) 12 (omega arith) (within_gives _)))
      (within_refuses 4 (omega arith)))

-- decode's refusals are 1 to 15
within_decode : (xs : List ℕ) → Within (decode_of xs)
within_decode xs =
    let bs : List Bool = bits_of xs in
    subst Within (sym (decode_parts xs))
    (within_refuse (not (eqb (length xs) 14)) 1 (omega arith)
    (within_refuse (not (eqb (field 109 3 bs) 0)) 15 (omega arith)
    (within_then (header_a_at 0 bs) (within_header bs) (λ h. within_refuse (eqb (usage_of h.channel) 7) 3 (omega arith) (within_kind bs h)))))

-- so no refusal of decode is 16
pub decode_numbers : (xs : List ℕ) (n : ℕ) → decode_of xs ≡ refuses n → n ≤ 15
decode_numbers xs n e = (within_decode xs).small n e

-- ---- cut

module _ (h : ArqHeader) (i : MobileIdentity) (m : List ℕ) where
  -- what passes the checks of the cut
  cut_passed : {A : Type 0} (o : Outcome A) {a : A} → cut_checked h i m o ≡ gives a → o ≡ gives a
  cut_passed o e = (passed (not (encodable i)) 2 o (header_accepted h _ (passed (ltb 255 (length m)) 1 _ e).1).2).1

  -- the frame count is one more than the Continues needed
  pub count-is : {c : ℕ} → count_of h i m ≡ gives c → c ≡ 1 + continues i (length m)
  unfolding count_of
  count-is e = let r = cut_passed (gives (1 + continues i (length m))) e in cc

  -- the cut gives frame k of the message, and only below the count
  pub frame_is : (k : ℕ) {f : ArqFrame} → frame_of h i m k ≡ gives f → (f ≡ cut_frame h i m k) × (k < 1 + continues i (length m))
  unfolding frame_of
  frame_is k e =
      let p = passed (not (ltb k (1 + continues i (length m)))) 12 _ (cut_passed _ e) in
      ((cc), ltb-true k (1 + continues i (length m)) (not-false _ p.0))

-- the octets of Continue k of a message's cut
abbrev pub piece : MobileIdentity → List ℕ → ℕ → List ℕ
piece i m k = octets 10 (up_to 80 (up_to 79 (drop (room i + 79 * k) (bits_of m))))

module _ {h : ArqHeader} {i : MobileIdentity} {m : List ℕ} {f : ArqFrame} (d : Decoded f) where
  -- a decoded Begin that was cut from a message has its octet count
  pub begin_count : CutFrom h i m f → f.message_octets ≡ length m
  begin_count c = c.octets ∙ ap (λ (x : ArqFrame). x.message_octets) (frame_is h i m 0 c.first).0

  -- and its data bits are the message's first, filled with zeros
  pub begin_first : f.kind ≡ Begin → f.identity ≡ i → CutFrom h i m f → take (room i) (bits_of f.begin_data) ≡ up_to (room i) (bits_of m)
  begin_first k e c =
      let n : f.begin_bits ≡ room i = d.begin_bits k ∙ ap room e in
      let long : room i ≤ length (bits_of f.begin_data) =
      omega (arith, length-bits_of f.begin_data, ap length d.begin_data, length-octets 7 (up_to 56 (begin_data_lem f)), room_most i) in
      sym (up_to-take (room i) (bits_of f.begin_data) long)
      ∙ sym (up_to_of_take (room i) (bits_of f.begin_data))
      ∙ ap (λ (x : ℕ). up_to (room i) (take x (bits_of f.begin_data))) (sym n)
      ∙ c.data_bits
      ∙ ap (λ (x : ArqFrame). up_to (room i) (begin_data_lem x)) (frame_is h i m 0 c.first).0
      ∙ ap (up_to (room i)) (begin_holds h i m)
      ∙ up_to_of_take (room i) (bits_of m)

  -- a decoded Continue with the number and data of one of the cut's has a number that is needed
  pub continue_number : OfCut h i m f → f.frame_number < continues i (length m)
  continue_number c =
      let p = frame_is h i m (suc c.k) c.next in
      let n : f.frame_number ≡ c.k = c.number ∙ ap (λ (x : ArqFrame). x.frame_number) p.0 in
      omega arith

  -- and its octets are that one's
  pub continue-octets : OfCut h i m f → f.continue_data ≡ piece i m f.frame_number
  continue-octets c =
      let p = frame_is h i m (suc c.k) c.next in
      let n : f.frame_number ≡ c.k = c.number ∙ ap (λ (x : ArqFrame). x.frame_number) p.0 in
      d.continue_data
      ∙ ap (λ (l : List Bool). octets 10 (up_to 80 l)) (c.data_bits ∙ ap continue_data_lem p.0 ∙ continue_holds h i m c.k)
      ∙ ap (piece i m) (sym n)
