-- The frames of a cut hold the message's bits, in as few Continues as there can be. Assumes nothing.
use Rattle.std.proofs.Common.{◌≡◌, ℕ, suc, ◌+◌, ◌*◌, ◌<◌, ◌≤◌, min, Bool, List, ◌++◌, length, take, drop, sym, ap, ◌∙◌, ap₂, arith, length-take}
use Rattle.field.specs.Bits.{Octets, bits_of, octets}
use Rattle.field.specs.Layout.{up_to}
use Rattle.field.proofs.Laws.{length-bits_of, octets-bits_of}
use Rattle.field.proofs.Cuts.{length-up_to, take-up_to, up_to_of_take, bits-kept, joined_same, rejoin}
use Rattle.rach.specs.Identity.{type_of}
use Rattle.rach.specs.declared.MobileIdentity.{MobileIdentity}
use Rattle.rach.proofs.Laws.{width_least, width_most}
use Rattle.arq.specs.declared.ArqHeader.{ArqHeader}
use Rattle.arq.specs.Frame.{room, begin_data_lem, continue_data_lem}
use Rattle.arq.specs.Cut.{continues, cut_frame}
use Rattle.arq.specs.Round.{carried}

-- a Begin has room for 25 to 55 bits
pub room_least : (i : MobileIdentity) → 25 ≤ room i
room_least i = omega (arith, width_most (type_of i))

pub room_most : (i : MobileIdentity) → room i ≤ 55
room_most i = omega (arith, width_least (type_of i))

-- the count of Continues holds the message, no smaller one does, and there are 26 at the most
pub count_holds : (i : MobileIdentity) (n : ℕ) → 8 * n ≤ room i + 79 * continues i n
count_holds i n = omega arith

pub count_least : (i : MobileIdentity) (n k : ℕ) → k < continues i n → room i + 79 * k < 8 * n
count_least i n k h = omega arith

pub count_most : (i : MobileIdentity) (n : ℕ) → n ≤ 255 → 1 + continues i n ≤ 27
count_most i n h = omega (arith, room_least i)

module _ (h : ArqHeader) (i : MobileIdentity) (m : List ℕ) where
  -- what a cut's Begin holds: the message's first bits, as many as it has room for
  pub begin_holds : begin_data_lem (cut_frame h i m 0) ≡ take (room i) (bits_of m)
  begin_holds =
      let e : length (take (room i) (bits_of m)) ≡ min (8 * length m) (room i) = simp (length-take, length-bits_of) (omega arith) in
      bits-kept 7 (min (8 * length m) (room i)) (take (room i) (bits_of m)) e (omega (arith, room_most i))

  -- what its Continue k holds: the next 79 bits, filled with zeros
  pub continue_holds : (k : ℕ) → continue_data_lem (cut_frame h i m (suc k)) ≡ up_to 79 (drop (room i + 79 * k) (bits_of m))
  continue_holds k =
      let bs : List Bool = up_to 79 (drop (room i + 79 * k) (bits_of m)) in
      bits-kept 10 79 bs (length-up_to 79 (drop (room i + 79 * k) (bits_of m))) (omega arith)

  -- the frames carry the message's bits, filled with zeros
  pub carries : (c : ℕ) → carried h i m c ≡ up_to (room i + 79 * c) (bits_of m)
  carries c =
      ap₂ (λ (a b : List Bool). a ++ b) (ap (up_to (room i)) begin_holds ∙ up_to_of_take (room i) (bits_of m))
      (joined_same c (λ k. continue_data_lem (cut_frame h i m (suc k))) (λ k. up_to 79 (drop (room i + 79 * k) (bits_of m))) continue_holds)
      ∙ rejoin (room i) 79 c (bits_of m)

  -- and the whole message is there
  pub carries_all : take (8 * length m) (carried h i m (continues i (length m))) ≡ bits_of m
  carries_all =
      ap (take (8 * length m)) (carries (continues i (length m)))
      ∙ ap (λ (n : ℕ). take n (up_to (room i + 79 * continues i (length m)) (bits_of m))) (sym (length-bits_of m))
      ∙ take-up_to (room i + 79 * continues i (length m)) (bits_of m) (omega (arith, length-bits_of m, count_holds i (length m)))

  pub carries_octets : Octets m → octets (length m) (take (8 * length m) (carried h i m (continues i (length m)))) ≡ m
  carries_octets f = ap (octets (length m)) carries_all ∙ octets-bits_of m f
