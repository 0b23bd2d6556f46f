-- What the readers accept says all of its bits. Assumes nothing.
use Rattle.std.proofs.Common.{◌≡◌, ℕ, zero, suc, ◌+◌, ◌^◌, ◌<◌, ◌≤◌, Bool, true, false, cond, not, eqb, List, [], ◌∷◌, length, sym, refl, arith, eqb-true}
use borrow.Author.Tests.{eqb-false, not-false}
use Rattle.field.specs.Bits.{bit, field}
use Rattle.field.proofs.Laws.{field_lt}
use Rattle.field.proofs.Layouts.{reads}
use Rattle.rach.specs.Identity.{width_of, identity_of}
use Rattle.spach.specs.declared.Channel.{Channel}
use Rattle.spach.specs.declared.Channel.TheVariants.{Arch, Smsch, Pch}
use Rattle.spach.specs.declared.HeaderA.{HeaderA}
use Rattle.spach.specs.declared.Address.{Address}
use Rattle.spach.specs.Refusal.{gives, refuses}
use Rattle.spach.specs.Header.{usage_of, channel_of, header_a, is_set, header_a_at, address_at}
use Rattle.spach.proofs.Outcomes.{passed, then-gives}

-- a bit that was read
pub flag-read : (n : ℕ) → n < 2 ^ 1 → bit (not (eqb n 0)) ≡ n
flag-read zero h = refl
flag-read (suc zero) h = refl
flag-read (suc (suc n)) h = absurd (omega arith)

-- a bit that is not set
pub unset : (o : ℕ) (bs : List Bool) → is_set o bs ≡ false → field o 1 bs ≡ 0
unset o bs e = eqb-true (field o 1 bs) 0 (not-false (eqb (field o 1 bs) 0) e)

-- a usage that was read
pub usage_read : (u : ℕ) (c : Channel) → channel_of u ≡ gives c → usage_of c ≡ u
usage_read u c e = go (eqb u 3) (eqb u 4) (eqb u 7) refl refl refl e
  where
    go : (x y z : Bool) → eqb u 3 ≡ x → eqb u 4 ≡ y → eqb u 7 ≡ z → cond x (gives Arch) (cond y (gives Smsch) (cond z (gives Pch) (refuses 3))) ≡ gives c → usage_of c ≡ u
    go true y z p q r e = let s : Arch ≡ c = cc in rw (← s) (sym (eqb-true u 3 p))
    go false true z p q r e = let s : Smsch ≡ c = cc in rw (← s) (sym (eqb-true u 4 q))
    go false false true p q r e = let s : Pch ≡ c = cc in rw (← s) (sym (eqb-true u 7 r))
    go false false false p q r e = let z : ◌≡◌ {A = ℕ} 0 1 = cc in absurd (omega arith)

-- header A that was read is the table of its fields
pub header_a_given : (bs : List Bool) (a : HeaderA) → 7 ≤ length bs → header_a_at 0 bs ≡ gives a
    → header_a a.channel a.flags ≡ reads (3 ∷ 1 ∷ 1 ∷ 1 ∷ 1 ∷ []) 0 bs
unfolding header_a_at
header_a_given bs a n e =
    let x = then-gives (channel_of (field 0 3 bs)) _ e in
    let y = passed (is_set 6 bs) 6 _ x.2 in
    let bit_at : (o : ℕ) → o < 7 → bit (is_set o bs) ≡ field o 1 bs = λ o l. flag-read (field o 1 bs) (field_lt o 1 bs (omega arith)) in
    let same : a ≡ record {
      channel = x.0;
      flags = record { pch_continuation = is_set 3 bs; bcch_change = is_set 4 bs; paging_frame_modifier = is_set 5 bs; reservation_response = false };
      reader = record { offset = 7 };
    } = cc in
    rw (same, usage_read (field 0 3 bs) x.0 x.1, bit_at 3 (omega arith), bit_at 4 (omega arith), bit_at 5 (omega arith), unset 6 bs y.0)

-- what an address that was read says of its bits
pub address_given : (o : ℕ) (bs : List Bool) (d : Address) → address_at o bs ≡ gives d
    → (field (o + 2) 1 bs ≡ 0) × (field (o + 4) 1 bs ≡ 0) × (field (o + 5) (width_of (field o 2 bs)) bs ≡ 0 → ⊥)
    × (record {
      identity = identity_of (field o 2 bs) (field (o + 5) (width_of (field o 2 bs)) bs);
      reservation_response = is_set (o + 3) bs;
      reader = record { offset = o + 5 + width_of (field o 2 bs) };
    }
    ≡ d)
unfolding address_at
address_given o bs d e =
    let v : ℕ = field (o + 5) (width_of (field o 2 bs)) bs in
    let x = passed (is_set (o + 2) bs) 4 _ e in
    let y = passed (is_set (o + 4) bs) 5 _ x.1 in
    let z = passed (eqb v 0) 2 _ y.1 in
    (unset (o + 2) bs x.0, unset (o + 4) bs y.0, eqb-false v 0 z.0, (cc))
