-- Decode's one page and its parts come to the same. Assumes nothing.
use Rattle.std.proofs.Common.{◌≡◌, ℕ, ◌+◌, ◌*◌, Bool, true, false, cond, not, ◌||◌, eqb, List, length, take, drop, sym, refl, ap, ◌∙◌, arith, eqb-true}
use Rattle.field.specs.Bits.{bits_of, field}
use Rattle.field.specs.Layout.{any_set}
use Rattle.rach.specs.Identity.{width_of, identity_of}
use Rattle.spach.specs.declared.Channel.{Channel}
use Rattle.spach.specs.declared.Channel.TheVariants.{Arch, Smsch, Pch}
use Rattle.spach.specs.declared.HeaderA.{HeaderA}
use Rattle.spach.specs.Refusal.{Outcome, gives, refuses, refuse, and_then}
use Rattle.spach.specs.Header.{usage_of, is_set, header_a_at, address_at}
use Rattle.arq.specs.declared.ArqHeader.{ArqHeader}
use Rattle.arq.specs.declared.ArqFrame.{ArqFrame}
use Rattle.arq.specs.Frame.{room, a_begin}
use Rattle.arq.specs.Decode.{mode_at, decode_of}
use Rattle.arq.specs.Parts.{decode_begin, decode_continue, decode_kind, decode_usage, decode_by_parts}

pub then_refuse : {A B : Type 0} (t : Bool) (n : ℕ) (o : Outcome A) (f : A → Outcome B) → and_then (refuse t n o) f ≡ refuse t n (and_then o f)
then_refuse true n o f = refl
then_refuse false n o f = refl

module _ (bs : List Bool) where
  -- header A as it was read, on a channel
  abbrev headed : Channel → HeaderA
  headed c = record {
    channel = c;
    flags = record { pch_continuation = is_set 3 bs; bcch_change = is_set 4 bs; paging_frame_modifier = is_set 5 bs; reservation_response = false };
    reader = record { offset = 7 };
  }

  -- a header, its polling and mode read at these offsets
  abbrev header_with : Channel → ℕ → ℕ → ℕ → ArqHeader
  header_with c o p m = record {
    channel = c;
    flags = record { pch_continuation = is_set 3 bs; bcch_change = is_set 4 bs; paging_frame_modifier = is_set 5 bs; reservation_response = is_set 13 bs };
    partial_echo = field o 7 bs;
    polling = is_set p bs;
    response_mode = mode_at (is_set m bs);
  }

  -- a Begin after its address, its polling, mode, octet count and data at these offsets
  abbrev begins : Channel → ℕ → ℕ → ℕ → ℕ → ℕ → Outcome ArqFrame
  begins c o p m n d =
      let i = identity_of (field 10 2 bs) (field 15 (width_of (field 10 2 bs)) bs) in
      refuse (not (eqb (field (o + 7) 2 bs) 0)) 6
      (refuse (any_set (drop (8 * field n 8 bs) (take (room i) (drop d bs)))) 7
      (gives (a_begin (header_with c o p m) i (field n 8 bs) (room i) (take (room i) (drop d bs)))))

  -- the same from the bit after its type on
  abbrev begins_from : Outcome ArqFrame → Outcome ArqFrame
  begins_from next = refuse (is_set 12 bs) 4 (refuse (is_set 14 bs) 5 (refuse (eqb (field 15 (width_of (field 10 2 bs)) bs) 0) 2 next))

  begin-same : (c : Channel) (o : ℕ) → begins c o (o + 7 + 2) (o + 7 + 2 + 1) (o + 7 + 2 + 1 + 1) (o + 7 + 2 + 1 + 1 + 8) ≡ begins c o (o + 9) (o + 10) (o + 11) (o + 19)
  begin-same c o =
      let p : o + 7 + 2 ≡ o + 9 = omega arith in
      let m : o + 9 + 1 ≡ o + 10 = omega arith in
      let n : o + 10 + 1 ≡ o + 11 = omega arith in
      let d : o + 11 + 8 ≡ o + 19 = omega arith in
      rw (p, m, n, d)

  begin_parts : (c : Channel) → begins_from (begins c (15 + width_of (field 10 2 bs)) (15 + width_of (field 10 2 bs) + 9) (15 + width_of (field 10 2 bs) + 10) (15 + width_of (field 10 2 bs) + 11) (15 + width_of (field 10 2 bs) + 19))
      ≡ and_then (address_at 10 bs) (decode_begin (headed c) bs)
  unfolding address_at
  begin_parts c =
      sym
      (then_refuse (is_set 12 bs) 4 _ (decode_begin (headed c) bs)
      ∙ ap (refuse (is_set 12 bs) 4)
      (then_refuse (is_set 14 bs) 5 _ (decode_begin (headed c) bs)
      ∙ ap (refuse (is_set 14 bs) 5) (then_refuse (eqb (field 15 (width_of (field 10 2 bs)) bs) 0) 2 _ (decode_begin (headed c) bs))))

  -- by kind
  abbrev kinds : Bool → Bool → Channel → Outcome ArqFrame
  kinds x y c =
      let o = 15 + width_of (field 10 2 bs) in
      refuse (not (x || y)) 4
      (cond x
      (begins_from (begins c o (o + 7 + 2) (o + 7 + 2 + 1) (o + 7 + 2 + 1 + 1) (o + 7 + 2 + 1 + 1 + 8)))
      (decode_continue (headed c) bs))

  kind_parts : (x y : Bool) (c : Channel) → kinds x y c ≡ cond x (and_then (address_at 10 bs) (decode_begin (headed c) bs)) (cond y (decode_continue (headed c) bs) (refuses 4))
  kind_parts true y c = ap begins_from (begin-same c (15 + width_of (field 10 2 bs))) ∙ begin_parts c
  kind_parts false true c = refl
  kind_parts false false c = refl

  -- a channel that is not Pch
  not_pch : (c : Channel) → eqb (usage_of c) 7 ≡ false
      → refuse (is_set 6 bs) 6 (kinds (eqb (field 7 3 bs) 5) (eqb (field 7 3 bs) 6) c) ≡ and_then (refuse (is_set 6 bs) 6 (gives (headed c))) (λ a. decode_usage a bs)
  not_pch c e =
      ap (refuse (is_set 6 bs) 6) (kind_parts (eqb (field 7 3 bs) 5) (eqb (field 7 3 bs) 6) c ∙ ap (λ (t : Bool). refuse t 3 (decode_kind (headed c) bs)) (sym e))
      ∙ sym (then_refuse (is_set 6 bs) 6 (gives (headed c)) (λ a. decode_usage a bs))

  -- from the usage on
  usage_parts : (x y z : Bool) → eqb (field 0 3 bs) 3 ≡ x → eqb (field 0 3 bs) 4 ≡ y → eqb (field 0 3 bs) 7 ≡ z
      → refuse (not (x || y || z)) 3 (refuse (is_set 6 bs) 6 (refuse z 3 (kinds (eqb (field 7 3 bs) 5) (eqb (field 7 3 bs) 6) (cond x Arch Smsch))))
      ≡ and_then (and_then (cond x (gives Arch) (cond y (gives Smsch) (cond z (gives Pch) (refuses 3)))) (λ c. refuse (is_set 6 bs) 6 (gives (headed c)))) (λ a. decode_usage a bs)
  usage_parts true y true p q r = let a = eqb-true (field 0 3 bs) 3 p in let b = eqb-true (field 0 3 bs) 7 r in absurd (omega arith)
  usage_parts true y false p q r = not_pch Arch refl
  usage_parts false true true p q r = let a = eqb-true (field 0 3 bs) 4 q in let b = eqb-true (field 0 3 bs) 7 r in absurd (omega arith)
  usage_parts false true false p q r = not_pch Smsch refl
  usage_parts false false true p q r = sym (then_refuse (is_set 6 bs) 6 (gives (headed Pch)) (λ a. decode_usage a bs))
  usage_parts false false false p q r = refl

-- the whole
pub decode_parts : (xs : List ℕ) → decode_of xs ≡ decode_by_parts xs
unfolding decode_of header_a_at
decode_parts xs =
    let bs : List Bool = bits_of xs in
    ap (λ (o : Outcome ArqFrame). refuse (not (eqb (length xs) 14)) 1 (refuse (not (eqb (field 109 3 bs) 0)) 15 o))
    (usage_parts bs (eqb (field 0 3 bs) 3) (eqb (field 0 3 bs) 4) (eqb (field 0 3 bs) 7) refl refl refl)
