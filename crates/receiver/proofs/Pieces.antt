-- The pieces of a cut, and the message put together of them. Assumes nothing.
use Rattle.std.proofs.Common.{◌≡◌, ℕ, zero, suc, ◌+◌, ◌-◌, ◌*◌, ◌<◌, ◌≤◌, Bool, false, List, [], ◌∷◌, ◌++◌, length, take, drop, sym, refl, ap, ◌∙◌, ap₂, add-one, arith, length-drop, drop-drop}
use lib.Seq.{drop-nil}
use Rattle.field.specs.Bits.{Octets, bits_of, octets}
use Rattle.field.specs.Layout.{up_to, any_set}
use Rattle.field.proofs.Laws.{length-bits_of, octets-bits_of}
use Rattle.field.proofs.Cuts.{length-up_to, up_to_add, take-up_to, bits-kept, any_set-up_to}
use Rattle.rach.specs.declared.MobileIdentity.{MobileIdentity}
use Rattle.arq.specs.Frame.{room}
use Rattle.arq.specs.Cut.{continues}
use Rattle.arq.proofs.Cuts.{count_holds}
use Rattle.receiver.specs.Receiver.{slot_at, gathered}
use Rattle.receiver.proofs.Assembled.{slot_bits, gathered_more}
use Rattle.receiver.proofs.Heard.{piece}

-- past the bits that were filled up no bit is set
no_filler : (n : ℕ) (d : List Bool) → any_set (drop (length d) (up_to n d)) ≡ false
unfolding up_to any_set
no_filler zero d = ap any_set (drop-nil (length d))
no_filler (suc n) [] = any_set-up_to (suc n) 0 [] (omega arith)
no_filler (suc n) (b ∷ d) = no_filler n d

module _ (i : MobileIdentity) (m : List ℕ) where
  -- the bits of Continue k's octets
  piece_bits : (k : ℕ) → take 79 (bits_of (piece i m k)) ≡ up_to 79 (drop (room i + 79 * k) (bits_of m))
  piece_bits k =
      let d : List Bool = drop (room i + 79 * k) (bits_of m) in
      bits-kept 10 79 (up_to 79 d) (length-up_to 79 d) (omega arith)

  -- slots that hold the cut's Continues hold the message's bits from the first one's on
  gathered-bits : (slots : List (List ℕ)) (n : ℕ) → n ≤ length slots → ((j : ℕ) → j < n → slot_at slots j ≡ piece i m j)
      → gathered slots n ≡ up_to (79 * n) (drop (room i) (bits_of m))
  unfolding gathered up_to
  gathered-bits slots zero l h = refl
  gathered-bits slots (suc n) l h =
      let d : List Bool = drop (room i) (bits_of m) in
      let e : 79 * suc n ≡ 79 * n + 79 = omega arith in
      let s : slot_bits (slot_at slots n) ≡ up_to 79 (drop (79 * n) d) =
      ap slot_bits (h n (omega arith)) ∙ piece_bits n ∙ ap (up_to 79) (sym (drop-drop (79 * n) (room i) (bits_of m))) in
      ap (gathered slots) (sym (add-one n))
      ∙ gathered_more slots n (omega arith)
      ∙ ap₂ (λ (a b : List Bool). a ++ b) (gathered-bits slots n (omega arith) (λ j c. h j (omega arith))) s
      ∙ sym (up_to_add (79 * n) 79 d)
      ∙ ap (λ (k : ℕ). up_to k d) (sym e)

  -- and with the Begin's bits they are the message
  pub message_whole : (slots : List (List ℕ)) → continues i (length m) ≤ length slots → Octets m → ((k : ℕ) → k < continues i (length m) → slot_at slots k ≡ piece i m k)
      → octets (length m) (take (8 * length m) (up_to (room i) (bits_of m) ++ gathered slots (continues i (length m)))) ≡ m
  message_whole slots few oc h =
      let n : ℕ = continues i (length m) in
      let l : length (bits_of m) ≤ room i + 79 * n = omega (arith, length-bits_of m, count_holds i (length m)) in
      let all : take (8 * length m) (up_to (room i + 79 * n) (bits_of m)) ≡ bits_of m =
      ap (λ (x : ℕ). take x (up_to (room i + 79 * n) (bits_of m))) (sym (length-bits_of m)) ∙ take-up_to (room i + 79 * n) (bits_of m) l in
      rw (gathered-bits slots n few h, ← up_to_add (room i) (79 * n) (bits_of m), all) (octets-bits_of m oc)

  -- a needed Continue has no filler bit set past the message's end
  pub piece_filler : (k : ℕ) → any_set (drop (8 * length m - (room i + 79 * k)) (take 79 (bits_of (piece i m k)))) ≡ false
  piece_filler k =
      let d : List Bool = drop (room i + 79 * k) (bits_of m) in
      let e : 8 * length m - (room i + 79 * k) ≡ length d = omega (arith, length-drop (room i + 79 * k) (bits_of m), length-bits_of m) in
      rw (piece_bits k, e) (no_filler 79 d)
