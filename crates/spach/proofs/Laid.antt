-- What the tables lay is what the readers read. Assumes nothing.
use Rattle.std.proofs.Common.{◌≡◌, ℕ, ◌+◌, ◌%◌, ◌^◌, ◌<◌, Bool, true, false, not, eqb, List, ◌++◌, sym, refl, ◌∙◌, mod-eq_of_lt, arith}
use Rattle.field.specs.Bits.{bit, field}
use Rattle.field.specs.Layout.{layout}
use Rattle.field.proofs.Layouts.{field-layout}
use Rattle.rach.specs.Identity.{type_of, value_of, width_of, encodable}
use Rattle.rach.specs.declared.MobileIdentity.{MobileIdentity}
use Rattle.rach.proofs.Laws.{type_lt, identity_parts, range_in}
use Rattle.spach.specs.declared.Channel.{Channel}
use Rattle.spach.specs.declared.Channel.TheVariants.{Arch, Smsch, Pch}
use Rattle.spach.specs.declared.HeaderFlags.{HeaderFlags}
use Rattle.spach.specs.Refusal.{gives}
use Rattle.spach.specs.Header.{usage_of, channel_of, header_a, header_b, address, header_a_at, address_at}
use Rattle.spach.proofs.Laws.{header_a_read, address_identity, identity_read}

-- a flag that was laid
pub flag_laid : (b : Bool) {x : ℕ} → x ≡ bit b % 2 ^ 1 → not (eqb x 0) ≡ b
flag_laid true e = rw e
flag_laid false e = rw e

-- a usage that was laid
pub usage_laid : (c : Channel) {x : ℕ} → x ≡ usage_of c % 2 ^ 3 → channel_of x ≡ gives c
usage_laid Arch e = rw e
usage_laid Smsch e = rw e
usage_laid Pch e = rw e

-- header A, laid and read: its flags come back without the reservation response
abbrev pub without_response : HeaderFlags → HeaderFlags
without_response f = record {
  pch_continuation = f.pch_continuation;
  bcch_change = f.bcch_change;
  paging_frame_modifier = f.paging_frame_modifier;
  reservation_response = false;
}

pub header_a_laid : (c : Channel) (f : HeaderFlags) (t : List Bool)
    → header_a_at 0 (layout (header_a c f) ++ t) ≡ gives (record { channel = c; flags = without_response f; reader = record { offset = 7 } })
header_a_laid c f t =
    let at : (k : ℕ) → k < 5 → _ = λ k h. field-layout (header_a c f) t k h in
    sym (header_a_read 0 (layout (header_a c f) ++ t) (usage_laid c (at 0 (omega arith))) refl refl refl refl (at 4 (omega arith)) refl)
    ∙ rw (flag_laid f.pch_continuation (at 1 (omega arith)), flag_laid f.bcch_change (at 2 (omega arith)), flag_laid f.paging_frame_modifier (at 3 (omega arith)))

-- an address by its fields
pub address_reads : (o : ℕ) (bs : List Bool) (i : MobileIdentity) (r : Bool) → encodable i ≡ true → field o 2 bs ≡ type_of i % 2 ^ 2
    → field (o + 2) 1 bs ≡ 0 → field (o + 3) 1 bs ≡ bit r % 2 ^ 1 → field (o + 4) 1 bs ≡ 0
    → field (o + 5) (width_of (type_of i)) bs ≡ value_of i % 2 ^ width_of (type_of i)
    → address_at o bs ≡ gives (record { identity = i; reservation_response = r; reader = record { offset = o + 5 + width_of (type_of i) } })
unfolding encodable
address_reads o bs i r h et ex er ey ei =
    let p = range_in (value_of i) (width_of (type_of i)) h in
    let type : type_of i ≡ field o 2 bs = sym (et ∙ mod-eq_of_lt (type_lt i)) in
    let value : value_of i ≡ field (o + 5) (width_of (type_of i)) bs = sym (ei ∙ mod-eq_of_lt p.1) in
    let some : value_of i ≡ 0 → ⊥ = λ e. omega arith in
    sym (address_identity o bs type (sym ex) refl (sym ey) refl refl refl)
    ∙ rw (flag_laid r er) (sym (identity_read (o + 5) bs (type_of i) r refl value some (sym (identity_parts i)) refl))

-- an address, laid after header B and read from its identity type on
pub address_laid : (kind : ℕ) (i : MobileIdentity) (f : HeaderFlags) (t : List Bool) → encodable i ≡ true
    → address_at 3 (layout (header_b kind (type_of i) f ++ address i) ++ t)
    ≡ gives (record { identity = i; reservation_response = f.reservation_response; reader = record { offset = 8 + width_of (type_of i) } })
address_laid kind i f t h =
    let fs = header_b kind (type_of i) f ++ address i in
    let at : (k : ℕ) → k < 6 → _ = λ k h. field-layout fs t k h in
    address_reads 3 (layout fs ++ t) i f.reservation_response h
    (at 1 (omega arith)) (at 2 (omega arith)) (at 3 (omega arith)) (at 4 (omega arith)) (at 5 (omega arith))
