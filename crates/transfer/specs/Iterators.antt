-- The Rust's iterators, as lists: a range, `find`, `filter`, `filter_map`, `enumerate`, `max_by_key`. Read beside the Rust; `specs/Literal.antt`
-- alone uses them. Assumes nothing.
use Rattle.std.specs.Prelude.{Bool, cond, ℕ, zero, suc, ltb}
use mathlib.Core.List.{List, [], ◌∷◌, foldl}
use Rattle.std.specs.Prelude.{Option, None, Some}

-- the n numbers from k on; `0..n` from 0
abbrev pub range : (n k : ℕ) → List ℕ
range zero k = []
range (suc n) k = k ∷ range n (suc k)

module _ {A : Type 0} where
  -- `find`: the first that passes
  abbrev pub find : (test : A → Bool) → List A → Option A
  find test [] = None
  find test (x ∷ l) = cond (test x) (Some x) (find test l)

  -- `filter`: those that pass
  abbrev pub filter : (test : A → Bool) → List A → List A
  filter test [] = []
  filter test (x ∷ l) = cond (test x) (x ∷ filter test l) (filter test l)

  -- one in front, if there is one
  abbrev pub in_front : Option A → List A → List A
  in_front None l = l
  in_front (Some x) l = x ∷ l

  -- `enumerate`: each with its place, from i on
  abbrev pub enumerate : (i : ℕ) → List A → List (ℕ × A)
  enumerate i [] = []
  enumerate i (x ∷ l) = (i, x) ∷ enumerate (suc i) l

-- `filter_map`: what there is of each
abbrev pub filter_map : {A B : Type 0} → (A → Option B) → List A → List B
filter_map f [] = []
filter_map f (x ∷ l) = in_front (f x) (filter_map f l)

-- of two with a key the one with the greater, of equal ones the later
abbrev pub greater : ℕ × ℕ → ℕ × ℕ → ℕ × ℕ
greater a b = cond (ltb b.1 a.1) a b

-- `max_by_key`, the key being the second part
abbrev pub max_by_key : List (ℕ × ℕ) → Option (ℕ × ℕ)
max_by_key [] = None
max_by_key (p ∷ l) = Some (foldl greater p l)
