-- A copy to the front of a list, element by element, a part put back into its whole, and how many parts the lent memory has. Assumes nothing.
use Rattle.std.proofs.Common.{◌≡◌, ℕ, ◌+◌, ◌*◌, ◌≤◌, List, ◌++◌, length, take, drop, sym, refl, ap, ◌∙◌, append_assoc, arith, length-drop, take-append-drop, length-take-le, drop-drop}
use lib.Seq.{drop-append-le}
use Rattle.transfer.specs.Constants.{echo_values, message_octets_lem, message_words, store_octets, store_words}

module _ {A : Type 0} where
  -- a part of k elements from a on, whose first elements are now s: what the whole then is
  pub part_back : (x s : List A) (a k : ℕ) → length s ≤ k → a + k ≤ length x → take a x ++ ((s ++ drop (length s) (take k (drop a x))) ++ drop k (drop a x)) ≡ take a x ++ s ++ drop (a + length s) x
  part_back x s a k hs h =
      let long : length (take k (drop a x)) ≡ k = length-take-le k (drop a x) (simp length-drop (omega arith)) in
      let join : drop (length s) (take k (drop a x)) ++ drop k (drop a x) ≡ drop (length s) (drop a x) =
      sym (drop-append-le (length s) (take k (drop a x)) (drop k (drop a x)) (omega arith)) ∙ ap (λ (l : List A). drop (length s) l) (take-append-drop k (drop a x)) in
      rw (append_assoc s, join, drop-drop (length s) a x, append_assoc (take a x) s)

-- the lent memory has a part for each transfer, of octets and of words
pub store_sizes : (store_octets ≡ message_octets_lem * echo_values) × (store_words ≡ message_words * echo_values)
store_sizes = (refl, refl)
