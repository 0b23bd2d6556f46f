-- Laws of refusals, header A and the address: each way out of a reader, and which answer it is. Assumes nothing.
use Rattle.std.proofs.Common.{◌≡◌, ℕ, ◌+◌, ◌-◌, ◌*◌, ◌/◌, ◌%◌, ◌^◌, ◌≤◌, Bool, false, not, eqb, List, length, sym, ap, ◌∙◌, add-zero, zero-add, div-one, arith, eq-eqb, ne_eqb}
use Rattle.field.specs.Bits.{bits_of, field}
use Rattle.field.proofs.Laws.{length-bits_of}
use Rattle.field.proofs.Window.{subfield}
use Rattle.rach.specs.Identity.{width_of, identity_of}
use Rattle.rach.specs.declared.MobileIdentity.{MobileIdentity}
use Rattle.spach.specs.declared.Channel.{Channel}
use Rattle.spach.specs.Refusal.{gives, refuses}
use Rattle.spach.specs.Header.{channel_of, header_a_at, identity_at, address_at}

-- the fields of a run of w bits at offset o that was taken as one number x
pub record Parts (o w x : ℕ) (bs : List Bool) : Type 0 where
  pub at : (p u : ℕ) → p + u ≤ w → x / 2 ^ (w - (p + u)) % 2 ^ u ≡ field (o + p) u bs
  pub first : (u : ℕ) → u ≤ w → x / 2 ^ (w - u) % 2 ^ u ≡ field o u bs
  pub last : (p : ℕ) → p + 1 ≡ w → x % 2 ≡ field (o + p) 1 bs

pub part_of : (o w : ℕ) (bs : List Bool) {x : ℕ} → o + w ≤ length bs → x ≡ field o w bs → Parts o w x bs
part_of o w bs {x} h e =
    let at : (p u : ℕ) → p + u ≤ w → x / 2 ^ (w - (p + u)) % 2 ^ u ≡ field (o + p) u bs = λ p u k. subfield o w p u bs h k e in
    record {
      at = at;
      first = λ u k. ap (λ n. x / 2 ^ (w - n) % 2 ^ u) (sym (zero-add u)) ∙ at 0 u (omega arith) ∙ ap (λ n. field n u bs) (add-zero o);
      last = λ p k.
          let z : w - (p + 1) ≡ 0 = omega arith in
          let d : x / 2 ^ (w - (p + 1)) ≡ x = rw z (div-one x) in
          ap (λ n. n % 2) (sym d) ∙ at p 1 (omega arith);
    }

-- so of the bits of octets
pub part_read : (o w : ℕ) (xs : List ℕ) {x : ℕ} → o + w ≤ 8 * length xs → x ≡ field o w (bits_of xs) → Parts o w x (bits_of xs)
part_read o w xs h e = part_of o w (bits_of xs) (omega (arith, length-bits_of xs)) e

module _ (o : ℕ) (bs : List Bool) where
  -- header A: the usage, the fourth flag, the header
  pub header_a_usage : {n : ℕ} → channel_of (field o 3 bs) ≡ refuses n → refuses n ≡ header_a_at o bs
  unfolding header_a_at
  header_a_usage e = rw e

  pub header_a_reserved : {c : Channel} {x : ℕ} → channel_of (field o 3 bs) ≡ gives c → x ≡ field (o + 6) 1 bs → (x ≡ 0 → ⊥) → refuses 6 ≡ header_a_at o bs
  unfolding header_a_at
  header_a_reserved e ex h = rw (e, ← ex, ne_eqb _ 0 h)

  pub header_a_read : {c : Channel} {p b m x n : ℕ} → channel_of (field o 3 bs) ≡ gives c
      → p ≡ field (o + 3) 1 bs → b ≡ field (o + 4) 1 bs → m ≡ field (o + 5) 1 bs → x ≡ field (o + 6) 1 bs → x ≡ 0 → n ≡ o + 7
      → gives
      (record {
        channel = c;
        flags = record { pch_continuation = not (eqb p 0); bcch_change = not (eqb b 0); paging_frame_modifier = not (eqb m 0); reservation_response = false };
        reader = record { offset = n };
      })
      ≡ header_a_at o bs
  unfolding header_a_at
  header_a_read e ep eb em ex h en = rw (e, ← ex, eq-eqb _ 0 h, ep, eb, em, en)

  -- an identity that was read
  pub identity_read : (t : ℕ) (r : Bool) {x w n : ℕ} {i : MobileIdentity} → w ≡ width_of t → x ≡ field o w bs → (x ≡ 0 → ⊥) → i ≡ identity_of t x → n ≡ o + w
      → gives (record { identity = i; reservation_response = r; reader = record { offset = n } }) ≡ identity_at t o r bs
  identity_read t r ew ex h ei en = rw (← ew, ← ex, ne_eqb _ 0 h, ei, en)

  -- an address: the bit after the type, the encrypted bit, the identity
  pub address-bit : {x : ℕ} → x ≡ field (o + 2) 1 bs → (x ≡ 0 → ⊥) → refuses 4 ≡ address_at o bs
  unfolding address_at
  address-bit ex h = rw (← ex, ne_eqb _ 0 h)

  pub address_encrypted : {x y : ℕ} → x ≡ field (o + 2) 1 bs → x ≡ 0 → y ≡ field (o + 4) 1 bs → (y ≡ 0 → ⊥) → refuses 5 ≡ address_at o bs
  unfolding address_at
  address_encrypted ex h ey k = rw (← ex, ← ey, eq-eqb _ 0 h, ne_eqb _ 0 k)

  pub address_identity : {t x y r n : ℕ} → t ≡ field o 2 bs → x ≡ field (o + 2) 1 bs → x ≡ 0 → y ≡ field (o + 4) 1 bs → y ≡ 0 → r ≡ field (o + 3) 1 bs → n ≡ o + 5
      → identity_at t n (not (eqb r 0)) bs ≡ address_at o bs
  unfolding address_at
  address_identity et ex h ey k er en = rw (← ex, ← ey, eq-eqb _ 0 h, eq-eqb _ 0 k, et, er, en)
