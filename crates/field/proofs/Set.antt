-- Laws of bits that are set. Assumes nothing.
use Rattle.std.proofs.Common.{◌≡◌, ℕ, zero, suc, ◌+◌, ◌-◌, ◌≤◌, Bool, true, false, ◌||◌, List, [], ◌∷◌, ◌++◌, length, take, drop, sym, refl, ap, ◌∙◌, arith, drop_of_length-le, drop-drop, take-add, pow_pos}
use mathlib.Core.Bool.{or_assoc, or-true}
use native.Mathlib.Nat.{sub-zero, zero-sub, suc-sub-suc}
use lib.Seq.{take-nil}
use Rattle.field.specs.Bits.{value, field}
use Rattle.field.specs.Layout.{any_set, zeros}

-- of two runs of bits, one has a set bit
pub any_set-append : (a b : List Bool) → any_set (a ++ b) ≡ any_set a || any_set b
unfolding any_set
any_set-append [] b = refl
any_set-append (x ∷ a) b = ap (λ (y : Bool). x || y) (any_set-append a b) ∙ sym (or_assoc x (any_set a) (any_set b))

-- no bit is set in bits whose number is zero, and only there
pub value-zero : (bs : List Bool) → value bs ≡ 0 → any_set bs ≡ false
unfolding any_set value
value-zero [] e = refl
value-zero (true ∷ bs) e = absurd (omega (arith, pow_pos (length bs)))
value-zero (false ∷ bs) e = value-zero bs (omega arith)

pub zero-value : (bs : List Bool) → any_set bs ≡ false → value bs ≡ 0
unfolding any_set value
zero-value [] e = refl
zero-value (true ∷ bs) e = let z : ◌≡◌ {A = ℕ} 0 1 = cc in absurd (omega arith)
zero-value (false ∷ bs) e = omega (arith, zero-value bs e)

true_unless_false : (b : Bool) → (b ≡ false → ⊥) → b ≡ true
true_unless_false true h = refl
true_unless_false false h = absurd (h refl)

pub value_some : (bs : List Bool) → (value bs ≡ 0 → ⊥) → any_set bs ≡ true
value_some bs h = true_unless_false (any_set bs) (λ e. h (zero-value bs e))

-- filler is not set
pub any_set-zeros : (n : ℕ) → any_set (zeros n) ≡ false
unfolding any_set
any_set-zeros zero = refl
any_set-zeros (suc n) = any_set-zeros n

-- the next w of the bits from o on: where those before them are not set, one of them is, or none so far
module _ (bs : List Bool) (o k w : ℕ) {x : ℕ} (ex : x ≡ field (o + k) w bs) where
  split : take (k + w) (drop o bs) ≡ take k (drop o bs) ++ take w (drop (o + k) bs)
  split = take-add k w (drop o bs) ∙ ap (λ (l : List Bool). take k (drop o bs) ++ take w l) (drop-drop k o bs)

  pub none-set : any_set (take k (drop o bs)) ≡ false → x ≡ 0 → any_set (take (k + w) (drop o bs)) ≡ false
  unfolding field
  none-set h e = rw (split, any_set-append, h) (value-zero (take w (drop (o + k) bs)) (sym ex ∙ e))

  pub one_set : (n : ℕ) → k + w ≤ n → (x ≡ 0 → ⊥) → any_set (take n (drop o bs)) ≡ true
  unfolding field
  one_set n l h =
      let r : ℕ = n - (k + w) in
      let e : k + w + r ≡ n = omega arith in
      let s : any_set (take w (drop (o + k) bs)) ≡ true = value_some (take w (drop (o + k) bs)) (λ z. h (ex ∙ z)) in
      ap (λ (m : ℕ). any_set (take m (drop o bs))) (sym e)
      ∙ ap any_set (take-add (k + w) r (drop o bs))
      ∙ any_set-append (take (k + w) (drop o bs)) (take r (drop (k + w) (drop o bs)))
      ∙ ap (λ (l : List Bool). any_set l || any_set (take r (drop (k + w) (drop o bs)))) split
      ∙ ap (λ (b : Bool). b || any_set (take r (drop (k + w) (drop o bs)))) (any_set-append (take k (drop o bs)) (take w (drop (o + k) bs)) ∙ ap (λ (b : Bool). any_set (take k (drop o bs)) || b) s ∙ or-true (any_set (take k (drop o bs))))

-- the first n bits without their first m
pub drop-take : (m n : ℕ) (bs : List Bool) → drop m (take n bs) ≡ take (n - m) (drop m bs)
drop-take zero n bs = ap (λ (k : ℕ). take k bs) (sym (sub-zero n))
drop-take (suc m) zero bs = sym (ap (λ (k : ℕ). take k (drop (suc m) bs)) (zero-sub (suc m)))
drop-take (suc m) (suc n) [] = sym (take-nil (suc n - suc m))
drop-take (suc m) (suc n) (b ∷ bs) = drop-take m n bs ∙ ap (λ (k : ℕ). take k (drop m bs)) (sym (suc-sub-suc n m))

-- past the last of them no bit is set
pub any_set_none : (m : ℕ) (bs : List Bool) → length bs ≤ m → any_set (drop m bs) ≡ false
unfolding any_set
any_set_none m bs h = rw (drop_of_length-le bs {i = m} h)
