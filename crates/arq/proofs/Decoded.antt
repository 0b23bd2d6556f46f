-- Where an address that was read ends, and the ways out of decode up to header A. Assumes nothing.
use Rattle.std.proofs.Common.{◌≡◌, ℕ, ◌+◌, ◌≤◌, Bool, List, length, sym, ap, ◌∙◌, arith, eq-eqb, ne_eqb}
use Rattle.field.specs.Bits.{bits_of, field}
use Rattle.field.proofs.Laws.{field_lt}
use Rattle.rach.specs.Identity.{type_of, width_of}
use Rattle.rach.proofs.Laws.{type_identity, width_most}
use Rattle.spach.specs.declared.HeaderA.{HeaderA}
use Rattle.spach.specs.declared.Address.{Address}
use Rattle.spach.specs.Refusal.{Outcome, gives, refuses, and_then}
use Rattle.spach.specs.Header.{header_a_at, address_at}
use Rattle.spach.proofs.Given.{address_given}
use Rattle.arq.specs.Frame.{room}
use Rattle.arq.specs.Decode.{decode_of}
use Rattle.arq.specs.Parts.{decode_usage}
use Rattle.arq.proofs.Parts.{decode_parts}

-- an address that was read at bit 10 leaves room for the rest and the data, and no more
pub address_ends : (bs : List Bool) (d : Address) → 12 ≤ length bs → gives d ≡ address_at 10 bs → (d.reader.offset + 19 + room d.identity ≡ 109) × (d.reader.offset ≤ 65)
address_ends bs d n e =
    let g = address_given 10 bs d (sym e) in
    let t : type_of d.identity ≡ field 10 2 bs = ap (λ z. type_of z.identity) (sym g.3) ∙ type_identity (field 10 2 bs) _ (field_lt 10 2 bs n) in
    let o : d.reader.offset ≡ 15 + width_of (type_of d.identity) = ap (λ z. z.reader.offset) (sym g.3) ∙ ap (λ k. 15 + width_of k) (sym t) in
    let w = width_most (type_of d.identity) in
    omega arith

-- length, padding, header A
module _ (xs : List ℕ) where
  pub decode-length : (length xs ≡ 14 → ⊥) → refuses 1 ≡ decode_of xs
  decode-length h = rw (decode_parts xs, ne_eqb (length xs) 14 h)

  module _ (n : length xs ≡ 14) {x : ℕ} (ex : x ≡ field 109 3 (bits_of xs)) where
    pub decode_padding : (x ≡ 0 → ⊥) → refuses 15 ≡ decode_of xs
    decode_padding h = rw (decode_parts xs, eq-eqb (length xs) 14 n, ← ex, ne_eqb x 0 h)

    pub decode-header : {o : Outcome HeaderA} → x ≡ 0 → o ≡ header_a_at 0 (bits_of xs) → and_then o (λ a. decode_usage a (bits_of xs)) ≡ decode_of xs
    decode-header h eo = rw (decode_parts xs, eq-eqb (length xs) 14 n, ← ex, eq-eqb x 0 h, ← eo)
