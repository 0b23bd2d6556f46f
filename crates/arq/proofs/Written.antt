-- The parts of a frame, written one after the other over zeros, are the frame. Assumes nothing.
use Rattle.std.proofs.Common.{◌≡◌, ℕ, zero, suc, ◌+◌, ◌*◌, ◌%◌, ◌^◌, ◌≤◌, Bool, true, false, List, [], ◌∷◌, ◌++◌, length, take, replicate, sym, refl, ap, ◌∙◌, append-nil, arith, length-append, length-take}
use lib.ListN.{replicate-append-replicate}
use Rattle.std.specs.Int.{from_bool}
use Rattle.field.specs.Bits.{bit, bits, value, bits_of, octets, put, splice}
use Rattle.field.specs.Layout.{layout, up_to, zeros}
use Rattle.field.proofs.Layouts.{total, length-layout, layout-append, value-layout, put-run}
use Rattle.field.proofs.Put.{put-splice, splice_next, splice-after}
use Rattle.field.proofs.Cuts.{splice-zeros}
use Rattle.rach.specs.Identity.{type_of, value_of, width_of, parts_of}
use Rattle.rach.specs.declared.IdentityParts.{IdentityParts}
use Rattle.rach.specs.declared.MobileIdentity.{MobileIdentity}
use Rattle.rach.proofs.Laws.{width_most}
use Rattle.spach.specs.declared.Channel.{Channel}
use Rattle.spach.specs.declared.Channel.TheVariants.{Arch, Smsch, Pch}
use Rattle.spach.specs.declared.HeaderFlags.{HeaderFlags}
use Rattle.spach.specs.Header.{usage_of, header_a, header_b, address}
use Rattle.arq.specs.declared.ResponseMode.{ResponseMode}
use Rattle.arq.specs.declared.ResponseMode.TheVariants.{Contention, Reservation}
use Rattle.arq.specs.declared.FrameKind.{FrameKind}
use Rattle.arq.specs.declared.FrameKind.TheVariants.{Begin, Continue}
use Rattle.arq.specs.declared.ArqHeader.{ArqHeader}
use Rattle.arq.specs.declared.ArqFrame.{ArqFrame}
use Rattle.arq.specs.Frame.{mode_of, kind_of, rest_of, begin, continue, room, begin_data_lem, continue_data_lem, packed, begin_frame, continue_frame}

-- a layout written as the number that it is
pub put-layout : (o : ℕ) (fs : List (ℕ × ℕ)) (bs : List Bool) {v : ℕ} → v ≡ value (layout fs) → put o (total fs) v bs ≡ splice o (layout fs) bs
put-layout o fs bs e = ap (λ v. put o (total fs) v bs) e ∙ put-run o (total fs) (layout fs) bs (length-layout fs)

-- a layout, and one more field after it
pub put_more : (o n w v : ℕ) (fs : List (ℕ × ℕ)) (bs : List Bool) → n ≡ o + total fs → n ≤ length bs
    → put n w v (splice o (layout fs) bs) ≡ splice o (layout (fs ++ (w, v) ∷ [])) bs
unfolding layout
put_more o n w v fs bs e h =
    let m : n ≡ o + length (layout fs) = rw (length-layout fs) e in
    let l : o + length (layout fs) ≤ length bs = rw (← m) h in
    put-splice n w v (splice o (layout fs) bs)
    ∙ ap (λ k. splice k (bits w v) (splice o (layout fs) bs)) m
    ∙ splice_next o (layout fs) (bits w v) bs l
    ∙ ap (λ r. splice o r bs) (ap (λ r. layout fs ++ r) (sym (append-nil (bits w v))) ∙ sym (layout-append fs ((w, v) ∷ [])))

-- the encrypted bit and the identity
zero_laid : 0 ≡ value (layout ((1, 0) ∷ []))
unfolding layout bits value
zero_laid = refl

pub address-written : (i : MobileIdentity) (bs : List Bool) {g : List Bool} {p : IdentityParts} → g ≡ put 14 1 0 bs → p ≡ parts_of i → 15 ≤ length bs
    → put 15 p.width p.value g ≡ splice 14 (layout (address i)) bs
address-written i bs {g} {p} eg ep h =
    ap (λ q. put 15 q.width q.value g) ep
    ∙ ap (put 15 (width_of (type_of i)) (value_of i)) (eg ∙ put-layout 14 ((1, 0) ∷ []) bs zero_laid)
    ∙ put_more 14 15 (width_of (type_of i)) (value_of i) ((1, 0) ∷ []) bs refl h

-- zero octets are bits that are not set
pub blank_bits : (n : ℕ) → bits_of (replicate n 0) ≡ zeros (8 * n)
unfolding bits_of bits
blank_bits zero = refl
blank_bits (suc n) =
    let e : 8 + 8 * n ≡ 8 * suc n = omega arith in
    ap (λ l. zeros 8 ++ l) (blank_bits n) ∙ replicate-append-replicate 8 (8 * n) false ∙ ap zeros e

-- the next part, after those that make the layout fs
part : (fs gs : List (ℕ × ℕ)) (n : ℕ) {bs : List Bool} → n ≡ total fs → n ≤ 112 → bs ≡ splice 0 (layout fs) (zeros 112)
    → splice n (layout gs) bs ≡ splice 0 (layout (fs ++ gs)) (zeros 112)
part fs gs n e h eb =
    let l : length (layout fs) ≤ length (zeros 112) = rw (length-layout fs, ← e) h in
    ap (splice n (layout gs)) eb
    ∙ splice-after (layout fs) (layout gs) (zeros 112) n (e ∙ sym (length-layout fs)) l
    ∙ ap (λ r. splice 0 r (zeros 112)) (sym (layout-append fs gs))

-- and the data last
whole : (fs : List (ℕ × ℕ)) (run : List Bool) (n : ℕ) {bs : List Bool} → n ≡ total fs → n + length run ≤ 112 → bs ≡ splice 0 (layout fs) (zeros 112)
    → splice n run bs ≡ up_to 112 (layout fs ++ run)
whole fs run n e h eb =
    let m : length (layout fs) ≡ n = length-layout fs ∙ sym e in
    let l : length (layout fs) ≤ length (zeros 112) = rw m (omega arith) in
    ap (splice n run) eb
    ∙ splice-after (layout fs) run (zeros 112) n (sym m) l
    ∙ splice-zeros 112 (layout fs ++ run) (rw (length-append (layout fs) run, m) h)

module _ (f : ArqFrame) where
  abbrev a : List (ℕ × ℕ)
  a = header_a f.header.channel f.header.flags

  -- header A, header B, address, rest, data
  pub begin-written : f.begin_bits ≤ room f.identity → {k : IdentityParts} {c n : ℕ} {r : List ℕ} {p q s t : List Bool} → k ≡ parts_of f.identity → c ≡ f.message_octets → n ≡ f.begin_bits
      → p ≡ splice 0 (layout a) (bits_of (replicate 14 0))
      → q ≡ splice 7 (layout (header_b 5 k.identity_type f.header.flags)) p
      → s ≡ splice 14 (layout (address f.identity)) q
      → t ≡ splice (15 + k.width) (layout (rest_of f.header ++ (8, c) ∷ [])) s
      → r ≡ octets 14 (splice (34 + k.width) (take n (bits_of f.begin_data)) t)
      → r ≡ (begin_frame f).octets
  unfolding begin_frame packed
  begin-written fits {k = k} {p = p} {q = q} {s = s} {t = t} ek ec en ep eq es et er =
      let h = f.header in
      let i = f.identity in
      let b = header_b 5 (type_of i) h.flags in
      let w = width_most (type_of i) in
      let l = length-take f.begin_bits (bits_of f.begin_data) in
      let e1 = ep ∙ ap (splice 0 (layout a)) (blank_bits 14) in
      let e2 = eq ∙ ap (λ (x : IdentityParts). splice 7 (layout (header_b 5 x.identity_type h.flags)) p) ek ∙ part a b 7 refl (omega arith) e1 in
      let e3 = es ∙ part (a ++ b) (address i) 14 refl (omega arith) e2 in
      let e4 = et ∙ ap (λ (x : ℕ). splice (15 + k.width) (layout (rest_of h ++ (8, x) ∷ [])) s) ec ∙ ap (λ (x : IdentityParts). splice (15 + x.width) (layout (rest_of h ++ (8, f.message_octets) ∷ [])) s) ek ∙ part (a ++ b ++ address i) (rest_of h ++ (8, f.message_octets) ∷ []) (15 + width_of (type_of i)) (omega arith) (omega arith) e3 in
      er ∙ ap (λ (x : ℕ). octets 14 (splice (34 + k.width) (take x (bits_of f.begin_data)) t)) en
      ∙ ap (λ (x : IdentityParts). octets 14 (splice (34 + x.width) (begin_data_lem f) t)) ek ∙ ap (octets 14) (whole (begin h i f.message_octets) (begin_data_lem f) (34 + width_of (type_of i)) (omega arith) (omega arith) e4)

  -- header A, header B, rest, data
  pub continue-written : {n : ℕ} {r : List ℕ} {p q s : List Bool} → n ≡ f.frame_number
      → p ≡ splice 0 (layout a) (bits_of (replicate 14 0))
      → q ≡ splice 7 (layout (header_b 6 f.identity_type f.header.flags)) p
      → s ≡ splice 14 (layout (rest_of f.header ++ (5, n) ∷ [])) q
      → r ≡ octets 14 (splice 30 (continue_data_lem f) s)
      → r ≡ (continue_frame f).octets
  unfolding continue_frame packed
  continue-written {q = q} en ep eq es er =
      let h = f.header in
      let b = header_b 6 f.identity_type h.flags in
      let l = length-take 79 (bits_of f.continue_data) in
      let e1 = ep ∙ ap (splice 0 (layout a)) (blank_bits 14) in
      let e2 = eq ∙ part a b 7 refl (omega arith) e1 in
      let e3 = es ∙ ap (λ (x : ℕ). splice 14 (layout (rest_of h ++ (5, x) ∷ [])) q) en ∙ part (a ++ b) (rest_of h ++ (5, f.frame_number) ∷ []) 14 refl (omega arith) e2 in
      er ∙ ap (octets 14) (whole (continue h f.identity_type f.frame_number) (continue_data_lem f) 30 refl (omega arith) e3)

-- ---- the numbers of the parts

bit_small : (b : Bool) → bit b % 2 ^ 1 ≡ from_bool b
bit_small true = refl
bit_small false = refl

usage_small : (c : Channel) → usage_of c % 2 ^ 3 ≡ usage_of c
usage_small Arch = refl
usage_small Smsch = refl
usage_small Pch = refl

mode_small : (m : ResponseMode) → mode_of m % 2 ^ 1 ≡ mode_of m
mode_small Contention = refl
mode_small Reservation = refl

pub header_a_number : (c : Channel) (f : HeaderFlags) {u p b m : ℕ}
    → u ≡ usage_of c → p ≡ from_bool f.pch_continuation → b ≡ from_bool f.bcch_change → m ≡ from_bool f.paging_frame_modifier
    → (((u * 2 + p) * 2 + b) * 2 + m) * 2 ≡ value (layout (header_a c f))
header_a_number c f eu ep eb em =
    omega (arith, value-layout (header_a c f), usage_small c, bit_small f.pch_continuation, bit_small f.bcch_change, bit_small f.paging_frame_modifier)

kind_small : (k : FrameKind) → kind_of k % 2 ^ 3 ≡ kind_of k
kind_small Begin = refl
kind_small Continue = refl

pub header_b_number : (k : FrameKind) (t : ℕ) (f : HeaderFlags) {n u r : ℕ} → n ≡ kind_of k → u ≡ t % 4 → r ≡ from_bool f.reservation_response
    → ((n * 4 + u) * 2) * 2 + r ≡ value (layout (header_b (kind_of k) t f))
header_b_number k t f en eu er =
    omega (arith, value-layout (header_b (kind_of k) t f), kind_small k, bit_small f.reservation_response)

pub rest_number : (h : ArqHeader) {e p m : ℕ} → e ≡ h.partial_echo % 128 → p ≡ from_bool h.polling → m ≡ mode_of h.response_mode
    → ((e * 4) * 2 + p) * 2 + m ≡ value (layout (rest_of h))
rest_number h ee ep em =
    omega (arith, value-layout (rest_of h), bit_small h.polling, mode_small h.response_mode)
