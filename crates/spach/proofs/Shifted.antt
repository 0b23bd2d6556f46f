-- Header A and address are read alike at every offset: what is read at offset o is what is read at 0 of the bits from o on, with the
-- cursor so much further. Assumes nothing.
use Rattle.std.proofs.Common.{◌≡◌, ℕ, ◌+◌, Bool, true, false, eqb, List, take, drop, sym, refl, ap, ◌∙◌, add-zero, add_assoc, drop-drop}
use Rattle.field.specs.Bits.{value, field}
use Rattle.rach.specs.Identity.{width_of, identity_of}
use Rattle.spach.specs.declared.Channel.{Channel}
use Rattle.spach.specs.declared.HeaderA.{HeaderA}
use Rattle.spach.specs.declared.Address.{Address}
use Rattle.spach.specs.Refusal.{Outcome, gives, refuses, refuse, and_then}
use Rattle.spach.specs.Header.{is_set, channel_of, header_a_at, address_at}

module _ (o : ℕ) (bs : List Bool) where
  abbrev from : List Bool
  from = drop o bs

  -- a field, from an offset on
  field_from : (k w : ℕ) → field (o + k) w bs ≡ field k w from
  unfolding field
  field_from k w = ap (λ (l : List Bool). value (take w l)) (sym (drop-drop k o bs))

  field_first : (w : ℕ) → field o w bs ≡ field 0 w from
  field_first w = ap (λ (k : ℕ). field k w bs) (sym (add-zero o)) ∙ field_from 0 w

  -- header A with its cursor o further
  abbrev pub header_on : HeaderA → HeaderA
  header_on a = record { channel = a.channel; flags = a.flags; reader = record { offset = o + a.reader.offset } }

  -- header A as it is read of the bits from o on, with any cursor
  abbrev header_read : Channel → ℕ → HeaderA
  header_read c n = record {
    channel = c;
    flags = record { pch_continuation = is_set 3 from; bcch_change = is_set 4 from; paging_frame_modifier = is_set 5 from; reservation_response = false };
    reader = record { offset = n };
  }

  header_on_lem : (x : Outcome Channel) (t : Bool) → and_then x (λ c. refuse t 6 (gives (header_read c (o + 7)))) ≡ and_then (and_then x (λ c. refuse t 6 (gives (header_read c 7)))) (λ a. gives (header_on a))
  header_on_lem (gives c) true = refl
  header_on_lem (gives c) false = refl
  header_on_lem (refuses n) t = refl

  pub header_shifts : header_a_at o bs ≡ and_then (header_a_at 0 from) (λ a. gives (header_on a))
  unfolding header_a_at
  header_shifts = rw (field_first 3, field_from 3 1, field_from 4 1, field_from 5 1, field_from 6 1) (header_on_lem (channel_of (field 0 3 from)) (is_set 6 from))

  -- an address with its cursor o further
  abbrev pub address_on : Address → Address
  address_on a = record { identity = a.identity; reservation_response = a.reservation_response; reader = record { offset = o + a.reader.offset } }

  abbrev address_read : ℕ → Address
  address_read n = record { identity = identity_of (field 0 2 from) (field 5 (width_of (field 0 2 from)) from); reservation_response = is_set 3 from; reader = record { offset = n } }

  address_on_lem : (x y z : Bool) (n : ℕ) → refuse x 4 (refuse y 5 (refuse z 2 (gives (address_read (o + n))))) ≡ and_then (refuse x 4 (refuse y 5 (refuse z 2 (gives (address_read n))))) (λ a. gives (address_on a))
  address_on_lem true y z n = refl
  address_on_lem false true z n = refl
  address_on_lem false false true n = refl
  address_on_lem false false false n = refl

  pub address_shifts : address_at o bs ≡ and_then (address_at 0 from) (λ a. gives (address_on a))
  unfolding address_at
  address_shifts =
      let w : ℕ = width_of (field 0 2 from) in
      rw (field_first 2, field_from 2 1, field_from 3 1, field_from 4 1, field_from 5 w, add_assoc o 5 w) (address_on_lem (is_set 2 from) (is_set 4 from) (eqb (field 5 w from) 0) (5 + w))
