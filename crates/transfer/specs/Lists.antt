-- Lists as the Rust's deques: `position`, `any`, `remove` and `push_back`. Assumes nothing.
use Rattle.std.specs.List.{list_any}
use Rattle.std.specs.Prelude.{Bool, cond, List, [], ◌∷◌, ◌++◌, ℕ, suc, take, drop}

module _ {A : Type 0} where
  -- the place of the first element that passes, or the length if none does
  abbrev pub position : (A → Bool) → List A → ℕ
  position p [] = 0
  position p (x ∷ xs) = cond (p x) 0 (suc (position p xs))

  -- some element passes: the library's word, p x₁ || (p x₂ || ..)
  abbrev pub any : (A → Bool) → List A → Bool
  any p xs = list_any p xs

  -- the list without its element at i
  abbrev pub remove_at : ℕ → List A → List A
  remove_at i l = take i l ++ drop (suc i) l

  -- the list with one more at its back
  abbrev pub push_back : List A → A → List A
  push_back l x = l ++ x ∷ []
