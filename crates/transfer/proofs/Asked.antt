-- A search finds where some element passes. Assumes nothing.
use Rattle.std.proofs.Common.{◌≡◌, suc, Bool, true, false, cond, ◌||◌, ltb, List, [], ◌∷◌, length, sym, refl, ◌∙◌, arith, lt-ltb}
use lib.Dec.{leb-suc-suc}
use Rattle.transfer.specs.Lists.{position, any}

module _ {A : Type 0} (p : A → Bool) where
  -- some element passes exactly if a search ends before the end
  pub any_found : (l : List A) → any p l ≡ ltb (position p l) (length l)
  any_found [] = refl
  any_found (x ∷ l) = go (p x) (any_found l)
    where
      go : (b : Bool) → any p l ≡ ltb (position p l) (length l) → (b || any p l) ≡ ltb (cond b 0 (suc (position p l))) (suc (length l))
      go true e = sym (lt-ltb 0 (suc (length l)) (omega arith))
      go false e = e ∙ sym (leb-suc-suc (suc (position p l)) (length l))
