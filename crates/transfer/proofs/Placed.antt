-- The library's searches are the definitions': the place of the first element that passes, and what is found there. Assumes nothing.
use Rattle.std.proofs.Common.{◌≡◌, ℕ, ◌+◌, ◌%◌, ◌<◌, Bool, true, false, cond, ltb, List, ◌++◌, length, get_or, take, drop, Some, None, Option, sym, refl, ap, ◌∙◌, arith}
use Rattle.std.specs.List as list
use Rattle.std.proofs.lemmas.List.Recursion.{is_position_or_len}
use Rattle.transfer.specs.declared.Transfer.{Transfer}
use Rattle.transfer.specs.Lists.{position}
use Rattle.transfer.specs.State.{Echoes, seek, blank_transfer}
use Rattle.transfer.specs.Echo.{free, around, free_echo}
use Rattle.transfer.proofs.EchoSearch.{around_long}

-- the place, if there is one
pub place_is : {A : Type 0} (p : A → Bool) (l : List A) → list.position p l ≡ cond (ltb (position p l) (length l)) (Some (position p l)) None
place_is p l = ap (λ (i : ℕ). cond (ltb i (length l)) (Some i) None) (sym (is_position_or_len (position p) p refl (λ x xs. ap (λ (n : ℕ). cond (p x) 0 n) (omega arith)) l))

-- of a place that was found: it is that of the definition, and in the list
pub place_found : {A : Type 0} (p : A → Bool) (l : List A) {i : ℕ} → list.position p l ≡ Some i → (position p l ≡ i) × (ltb (position p l) (length l) ≡ true)
place_found p l {i} e = go (ltb (position p l) (length l)) refl (sym (place_is p l) ∙ e)
  where
    go : (b : Bool) → ltb (position p l) (length l) ≡ b → cond b (Some (position p l)) None ≡ Some i → (position p l ≡ i) × (ltb (position p l) (length l) ≡ true)
    go true t q = (cc, t)
    go false t q = cc

-- and of none
pub place_none : {A : Type 0} (p : A → Bool) (l : List A) → list.position p l ≡ None → ltb (position p l) (length l) ≡ false
place_none p l e = go (ltb (position p l) (length l)) refl (sym (place_is p l) ∙ e)
  where
    go : (b : Bool) → ltb (position p l) (length l) ≡ b → cond b (Some (position p l)) None ≡ None → ltb (position p l) (length l) ≡ false
    go true t q = cc
    go false t q = t

-- what is said of the transfer at a place that was found, and where there is none
module _ {A : Type 0} (p : Transfer → Bool) (l : List Transfer) (nothing : A) (found : ℕ → Transfer → A) where
  pub seek_at : {i : ℕ} → Some i ≡ list.position p l → found i (get_or l i blank_transfer) ≡ seek p l nothing found
  seek_at e =
      let q = place_found p l (sym e) in
      rw (q.1, q.0)

  -- of one that stands there
  pub seek_there : {i : ℕ} {x : Transfer} → Some i ≡ list.position p l → x ≡ get_or l i blank_transfer → found i x ≡ seek p l nothing found
  seek_there {i} e is = ap (found i) is ∙ seek_at e

  pub seek_none : None ≡ list.position p l → nothing ≡ seek p l nothing found
  seek_none e = rw (place_none p l (sym e))

-- the search for a free echo, by how far from where it starts one is found: a is the list from there on, b what stands before
module _ (e : Echoes) (long : length e.echo_until_ms ≡ 128) (low : e.next_echo < 128) (now : ℕ) {a b : List ℕ} (p : a ≡ drop e.next_echo e.echo_until_ms) (q : b ≡ take e.next_echo e.echo_until_ms) {r : Option ℕ} (s : r ≡ list.position (free now) (a ++ b)) where
  same : r ≡ list.position (free now) (around e)
  same = rw (← p, ← q) s

  pub offset_found : {k : ℕ} → r ≡ Some k → Some ((e.next_echo + k) % 128) ≡ free_echo e now
  unfolding free_echo
  offset_found f =
      let w = place_found (free now) (around e) (sym same ∙ f) in
      let h = rw (around_long e.echo_until_ms e.next_echo long low) at w.1 in
      rw (h, w.0)

  pub offset_none : r ≡ None → None ≡ free_echo e now
  unfolding free_echo
  offset_none f = let h = rw (around_long e.echo_until_ms e.next_echo long low) at (place_none (free now) (around e) (sym same ∙ f)) in rw h
