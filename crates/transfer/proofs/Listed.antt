-- Laws of `All`, `Some` and `Pairs`: with one element taken out of a list or put in, and with one at a place. Assumes nothing.
use Rattle.std.proofs.Common.{◌≡◌, ℕ, zero, suc, ◌<◌, ◌≤◌, Bool, true, false, cond, ◌||◌, ◌⊎◌, List, [], ◌∷◌, ◌++◌, length, get_or, take, drop, sym, refl, ap, ◌∙◌, subst, inl, inr, ⊎_elim, append-nil, arith}
use lib.Seq.{split_at}
use Rattle.transfer.specs.Lists.{position, any, remove_at, push_back}
use Rattle.transfer.specs.Invariant.{All, all_none, all_more, Any, any-here, any-later, Pairs, pairs-none, pairs-more}

-- ---- every element

module _ {A : Type 0} where
  -- what each implies
  pub all_map : {P Q : A → Type 0} {l : List A} → ((x : A) → P x → Q x) → All P l → All Q l
  all_map f all_none = all_none
  all_map f (all_more {x = x} p h) = all_more (f x p) (all_map f h)

  -- the first is
  pub all_head : {P : A → Type 0} {x : A} {l : List A} → All P (x ∷ l) → P x
  all_head (all_more p h) = p

  -- and the others are
  pub all_tail : {P : A → Type 0} {x : A} {l : List A} → All P (x ∷ l) → All P l
  all_tail (all_more p h) = h

  -- two of each at once
  pub all_both : {P Q : A → Type 0} {l : List A} → All P l → All Q l → All (λ x. P x × Q x) l
  all_both all_none k = all_none
  all_both (all_more p h) k = all_more (p, all_head k) (all_both h (all_tail k))

  -- put together
  pub all_append : {P : A → Type 0} (a b : List A) → All P a → All P b → All P (a ++ b)
  all_append [] b h k = k
  all_append (x ∷ a) b h k = all_more (all_head h) (all_append a b (all_tail h) k)

  -- and taken apart
  pub all_left : {P : A → Type 0} (a b : List A) → All P (a ++ b) → All P a
  all_left [] b h = all_none
  all_left (x ∷ a) b h = all_more (all_head h) (all_left a b (all_tail h))

  -- and the second part
  pub all_right : {P : A → Type 0} (a b : List A) → All P (a ++ b) → All P b
  all_right [] b h = h
  all_right (x ∷ a) b h = all_right a b (all_tail h)

  -- one taken out
  pub all_one : {P : A → Type 0} (a : List A) (x : A) (b : List A) → All P (a ++ x ∷ b) → P x
  all_one a x b h = all_head (all_right a (x ∷ b) h)

  -- and the others are so still
  pub all_rest : {P : A → Type 0} (a : List A) (x : A) (b : List A) → All P (a ++ x ∷ b) → All P (a ++ b)
  all_rest a x b h = all_append a b (all_left a (x ∷ b) h) (all_tail (all_right a (x ∷ b) h))

  -- one put in
  pub all_in : {P : A → Type 0} (a : List A) (x : A) (b : List A) → P x → All P (a ++ b) → All P (a ++ x ∷ b)
  all_in a x b p h = all_append a (x ∷ b) (all_left a b h) (all_more p (all_right a b h))

  -- ---- some element

  -- what it implies
  pub some-map : {P Q : A → Type 0} {l : List A} → ((x : A) → P x → Q x) → Any P l → Any Q l
  some-map f (any-here {x = x} p) = any-here (f x p)
  some-map f (any-later h) = any-later (some-map f h)

  -- it stands in the first part
  pub some_left : {P : A → Type 0} (a b : List A) → Any P a → Any P (a ++ b)
  some_left a b (any-here p) = any-here p
  some_left a b (any-later {l = l} h) = any-later (some_left l b h)

  -- or in the second
  pub some_right : {P : A → Type 0} (a b : List A) → Any P b → Any P (a ++ b)
  some_right [] b h = h
  some_right (x ∷ a) b h = any-later (some_right a b h)

  -- it is the first, or a later one
  pub some_cons : {P : A → Type 0} {x : A} {l : List A} → Any P (x ∷ l) → P x ⊎ Any P l
  some_cons (any-here p) = inl p
  some_cons (any-later h) = inr h

  -- one taken out: it was that one, or it is there still
  pub some_out : {P : A → Type 0} (a : List A) (x : A) (b : List A) → Any P (a ++ x ∷ b) → P x ⊎ Any P (a ++ b)
  some_out [] x b h = some_cons h
  some_out (y ∷ a) x b h = ⊎_elim (λ p. inr (any-here p)) (λ k. ⊎_elim inl (λ m. inr (any-later m)) (some_out a x b k)) (some_cons h)

  -- one put in
  pub some_one : {P : A → Type 0} (a : List A) (x : A) (b : List A) → P x → Any P (a ++ x ∷ b)
  some_one a x b p = some_right a (x ∷ b) (any-here p)

  -- and it stands there still
  pub some_in : {P : A → Type 0} (a : List A) (x : A) (b : List A) → Any P (a ++ b) → Any P (a ++ x ∷ b)
  some_in [] x b h = any-later h
  some_in (y ∷ a) x b h = ⊎_elim (λ p. any-here p) (λ k. any-later (some_in a x b k)) (some_cons h)

  -- one and the rest: what some element implies with a fact of every
  pub some_all : {P Q : A → Type 0} {B : Type 0} {l : List A} → ((x : A) → P x → Q x → B) → Any P l → All Q l → B
  some_all f (any-here {x = x} p) k = f x p (all_head k)
  some_all f (any-later h) k = some_all f h (all_tail k)

  -- where it stands
  pub some_split : {P : A → Type 0} {l : List A} → Any P l → (a : List A) × (x : A) × (b : List A) × (l ≡ a ++ x ∷ b) × P x
  some_split (any-here {x = x} {l = l} p) = ([], x, l, refl, p)
  some_split (any-later {x = y} h) = let s = some_split h in (y ∷ s.0, s.1, s.2, ap (λ (l : List A). y ∷ l) s.3, s.4)

  -- ---- every two

  -- what every two imply
  pub pairs_map : {R S : A → A → Type 0} {l : List A} → ((x y : A) → R x y → S x y) → Pairs R l → Pairs S l
  pairs_map f pairs-none = pairs-none
  pairs_map f (pairs-more {x = x} r h) = pairs-more (all_map (f x) r) (pairs_map f h)

  -- the first with every other
  pub pairs_head : {R : A → A → Type 0} {x : A} {l : List A} → Pairs R (x ∷ l) → All (R x) l
  pairs_head (pairs-more r h) = r

  -- and the others among themselves
  pub pairs_tail : {R : A → A → Type 0} {x : A} {l : List A} → Pairs R (x ∷ l) → Pairs R l
  pairs_tail (pairs-more r h) = h

  -- one taken out: the others are so still
  pub pairs_rest : {R : A → A → Type 0} (a : List A) (x : A) (b : List A) → Pairs R (a ++ x ∷ b) → Pairs R (a ++ b)
  pairs_rest [] x b h = pairs_tail h
  pairs_rest (y ∷ a) x b h = pairs-more (all_rest a x b (pairs_head h)) (pairs_rest a x b (pairs_tail h))

  module _ {R : A → A → Type 0} (s : (x y : A) → R x y → R y x) where
    -- and it is so with each of them
    pub pairs_one : (a : List A) (x : A) (b : List A) → Pairs R (a ++ x ∷ b) → All (R x) (a ++ b)
    pairs_one [] x b h = pairs_head h
    pairs_one (y ∷ a) x b h = all_more (s y x (all_one a x b (pairs_head h))) (pairs_one a x b (pairs_tail h))

    -- one put in
    pub pairs_in : (a : List A) (x : A) (b : List A) → All (R x) (a ++ b) → Pairs R (a ++ b) → Pairs R (a ++ x ∷ b)
    pairs_in [] x b k h = pairs-more k h
    pairs_in (y ∷ a) x b k h = pairs-more (all_in a x b (s x y (all_head k)) (pairs_head h)) (pairs_in a x b (all_tail k) (pairs_tail h))

  -- ---- lengths

  -- one more than without it
  pub length_in : (a : List A) (x : A) (b : List A) → length (a ++ x ∷ b) ≡ suc (length (a ++ b))
  length_in [] x b = refl
  length_in (y ∷ a) x b = ap suc (length_in a x b)

  -- a list without its element at a place
  pub length_removed : (l : List A) (i : ℕ) (d : A) → i < length l → length l ≡ suc (length (remove_at i l))
  length_removed l i d h = ap length (split_at l i d h) ∙ length_in (take i l) (get_or l i d) (drop (suc i) l)

  -- ---- behind a list

  -- what stands there
  pub at-end : (a : List A) (x : A) (b : List A) (d : A) → get_or (a ++ x ∷ b) (length a) d ≡ x
  at-end [] x b d = refl
  at-end (y ∷ a) x b d = at-end a x b d

  -- the list without it
  pub removed_end : (a : List A) (x : A) (b : List A) → remove_at (length a) (a ++ x ∷ b) ≡ a ++ b
  removed_end [] x b = refl
  removed_end (y ∷ a) x b = ap (λ (l : List A). y ∷ l) (removed_end a x b)

  -- there is such a place
  pub below_end : (a : List A) (x : A) (b : List A) → length a < length (a ++ x ∷ b)
  below_end [] x b = omega arith
  below_end (y ∷ a) x b = let h = below_end a x b in omega arith

  -- ---- at a place

  module _ (l : List A) (i : ℕ) (d : A) (h : i < length l) where
    -- the one at the place
    pub all-at : {P : A → Type 0} → All P l → P (get_or l i d)
    all-at {P} k = all_one (take i l) (get_or l i d) (drop (suc i) l) (subst (All P) (split_at l i d h) k)

    -- the others
    pub all_removed : {P : A → Type 0} → All P l → All P (remove_at i l)
    all_removed {P} k = all_rest (take i l) (get_or l i d) (drop (suc i) l) (subst (All P) (split_at l i d h) k)

    -- it is the one at the place, or one of the others
    pub some_removed : {P : A → Type 0} → Any P l → P (get_or l i d) ⊎ Any P (remove_at i l)
    some_removed {P} k = some_out (take i l) (get_or l i d) (drop (suc i) l) (subst (Any P) (split_at l i d h) k)

    -- the one at the place with every other
    pub pairs-at : {R : A → A → Type 0} → ((x y : A) → R x y → R y x) → Pairs R l → All (R (get_or l i d)) (remove_at i l)
    pairs-at {R} s k = pairs_one s (take i l) (get_or l i d) (drop (suc i) l) (subst (Pairs R) (split_at l i d h) k)

  -- ---- at the back

  -- one more, and every one is such
  pub all_back : {P : A → Type 0} (l : List A) (x : A) → P x → All P l → All P (push_back l x)
  all_back l x p h = all_append l (x ∷ []) h (all_more p all_none)

  -- one more, and every two are so
  pub pairs_back : {R : A → A → Type 0} (l : List A) (x : A) → ((x y : A) → R x y → R y x) → All (R x) l → Pairs R l → Pairs R (push_back l x)
  pairs_back {R} l x s k h = pairs_in s l x [] (subst (All (R x)) (sym (append-nil l)) k) (subst (Pairs R) (sym (append-nil l)) h)

  -- one more
  pub length_back : (l : List A) (x : A) → length (push_back l x) ≡ suc (length l)
  length_back l x = length_in l x [] ∙ ap (λ (m : List A). suc (length m)) (append-nil l)

  -- ---- tests

  -- none passes
  pub any_false : (p : A → Bool) (l : List A) → any p l ≡ false → All (λ x. p x ≡ false) l
  any_false p [] e = all_none
  any_false p (x ∷ l) e = go (p x) refl e (any_false p l)
    where
      go : (b : Bool) → p x ≡ b → (b || any p l) ≡ false → (any p l ≡ false → All (λ x. p x ≡ false) l) → All (λ x. p x ≡ false) (x ∷ l)
      go true q e f = let z : ◌≡◌ {A = ℕ} 0 1 = cc in absurd (omega arith)
      go false q e f = all_more q (f e)

  -- some passes
  pub any-true : (p : A → Bool) (l : List A) → any p l ≡ true → Any (λ x. p x ≡ true) l
  any-true p [] e = let z : ◌≡◌ {A = ℕ} 0 1 = cc in absurd (omega arith)
  any-true p (x ∷ l) e = go (p x) refl e (any-true p l)
    where
      go : (b : Bool) → p x ≡ b → (b || any p l) ≡ true → (any p l ≡ true → Any (λ x. p x ≡ true) l) → Any (λ x. p x ≡ true) (x ∷ l)
      go true q e f = any-here q
      go false q e f = any-later (f e)

  -- a search in vain
  pub position-none : (p : A → Bool) (l : List A) → length l ≤ position p l → All (λ x. p x ≡ false) l
  position-none p [] h = all_none
  position-none p (x ∷ l) h = go (p x) refl h (position-none p l)
    where
      go : (b : Bool) → p x ≡ b → suc (length l) ≤ cond b 0 (suc (position p l)) → (length l ≤ position p l → All (λ x. p x ≡ false) l) → All (λ x. p x ≡ false) (x ∷ l)
      go true q h f = absurd (omega arith)
      go false q h f = all_more q (f (omega arith))

  -- a search that finds
  pub position-found : (p : A → Bool) (d : A) (l : List A) → position p l < length l → p (get_or l (position p l) d) ≡ true
  position-found p d [] h = absurd (omega arith)
  position-found p d (x ∷ l) h = go (p x) refl h (position-found p d l)
    where
      go : (b : Bool) → p x ≡ b → cond b 0 (suc (position p l)) < suc (length l) → (position p l < length l → p (get_or l (position p l) d) ≡ true) → p (get_or (x ∷ l) (cond b 0 (suc (position p l))) d) ≡ true
      go true q h f = q
      go false q h f = f (omega arith)

  -- no earlier one passes
  pub position_before : (p : A → Bool) (d : A) (l : List A) (j : ℕ) → j < position p l → p (get_or l j d) ≡ false
  position_before p d [] j h = absurd (omega arith)
  position_before p d (x ∷ l) j h = go (p x) refl j h (position_before p d l)
    where
      go : (b : Bool) → p x ≡ b → (j : ℕ) → j < cond b 0 (suc (position p l)) → ((i : ℕ) → i < position p l → p (get_or l i d) ≡ false) → p (get_or (x ∷ l) j d) ≡ false
      go true q j h f = absurd (omega arith)
      go false q zero h f = q
      go false q (suc j) h f = f j (omega arith)

  -- ---- as many as there are numbers

  -- k numbers, each that of some element: there are k elements
  pub pigeon : (f : A → ℕ) (k : ℕ) (l : List A) → ((j : ℕ) → j < k → Any (λ x. f x ≡ j) l) → k ≤ length l
  pigeon f zero l h = omega arith
  pigeon f (suc k) l h =
      let s = some_split (h k (omega arith)) in
      let a = s.0 in
      let x = s.1 in
      let b = s.2 in
      let e : l ≡ a ++ x ∷ b = s.3 in
      let q : f x ≡ k = s.4 in
      let n : length l ≡ suc (length (a ++ b)) = ap length e ∙ length_in a x b in
      let r = pigeon f k (a ++ b) (λ j m. ⊎_elim (λ (w : f x ≡ j). absurd (omega arith)) (λ w. w) (some_out a x b (subst (Any (λ y. f y ≡ j)) e (h j (omega arith))))) in
      omega arith
