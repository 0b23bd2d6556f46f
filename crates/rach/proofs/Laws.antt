-- Laws of identities. Assumes nothing.
use Rattle.std.proofs.Common.{◌≡◌, ℕ, zero, suc, ◌^◌, ◌<◌, ◌≤◌, Bool, true, false, ◌&&◌, eqb, ltb, ◌↔◌, sym, refl, ap, ◌∙◌, arith, ltb-true, lt-ltb, eq-eqb, eqb-true}
use Rattle.rach.specs.Identity.{type_of, value_of, width_of, identity_of, parts_of, same, in_range, encodable}
use Rattle.rach.specs.contracts.MobileIdentityPartialEq.TheImpl.{ghosts}
use Rattle.rach.specs.declared.IdentityParts.{IdentityParts}
use Rattle.rach.specs.declared.MobileIdentity.{MobileIdentity}
use Rattle.rach.specs.declared.MobileIdentity.TheVariants.{Tmsi20, Tmsi24, Min34, Imsi50}

-- a type is two bits, a width 20 to 50
pub type_lt : (i : MobileIdentity) → type_of i < 4
type_lt (Tmsi20 v) = omega arith
type_lt (Tmsi24 v) = omega arith
type_lt (Min34 v) = omega arith
type_lt (Imsi50 v) = omega arith

pub width_least : (t : ℕ) → 20 ≤ width_of t
width_least zero = omega arith
width_least (suc zero) = omega arith
width_least (suc (suc zero)) = omega arith
width_least (suc (suc (suc zero))) = omega arith
width_least (suc (suc (suc (suc t)))) = omega arith

pub width_most : (t : ℕ) → width_of t ≤ 50
width_most zero = omega arith
width_most (suc zero) = omega arith
width_most (suc (suc zero)) = omega arith
width_most (suc (suc (suc zero))) = omega arith
width_most (suc (suc (suc (suc t)))) = omega arith

-- an identity is its type and its value, and the other way round
pub identity_parts : (i : MobileIdentity) → identity_of (type_of i) (value_of i) ≡ i
identity_parts (Tmsi20 v) = refl
identity_parts (Tmsi24 v) = refl
identity_parts (Min34 v) = refl
identity_parts (Imsi50 v) = refl

pub value_identity : (t v : ℕ) → value_of (identity_of t v) ≡ v
value_identity zero v = refl
value_identity (suc zero) v = refl
value_identity (suc (suc zero)) v = refl
value_identity (suc (suc (suc t))) v = refl

pub type_identity : (t v : ℕ) → t < 4 → type_of (identity_of t v) ≡ t
type_identity zero v h = refl
type_identity (suc zero) v h = refl
type_identity (suc (suc zero)) v h = refl
type_identity (suc (suc (suc zero))) v h = refl
type_identity (suc (suc (suc (suc t)))) v h = absurd (omega arith)

-- "Type and width: Tmsi20 0, 20; Tmsi24 1, 24; Min34 2, 34; Imsi50 3, 50": of every value
pub type_exactly : (v : ℕ) → (type_of (Tmsi20 v) ≡ 0) × (type_of (Tmsi24 v) ≡ 1) × (type_of (Min34 v) ≡ 2) × (type_of (Imsi50 v) ≡ 3)
type_exactly v = (refl, refl, refl, refl)

pub value_exactly : (v : ℕ) → (value_of (Tmsi20 v) ≡ v) × (value_of (Tmsi24 v) ≡ v) × (value_of (Min34 v) ≡ v) × (value_of (Imsi50 v) ≡ v)
value_exactly v = (refl, refl, refl, refl)

pub width_exactly : (width_of 0 ≡ 20) × (width_of 1 ≡ 24) × (width_of 2 ≡ 34) × (width_of 3 ≡ 50)
width_exactly = (refl, refl, refl, refl)

pub identity_exactly : (v : ℕ) → (identity_of 0 v ≡ Tmsi20 v) × (identity_of 1 v ≡ Tmsi24 v) × (identity_of 2 v ≡ Min34 v) × (identity_of 3 v ≡ Imsi50 v)
identity_exactly v = (refl, refl, refl, refl)

-- the parts of an identity, as that table has them
abbrev pub PartsAre : MobileIdentity → (type width value : ℕ) → Type 0
PartsAre (Tmsi20 x) t w v = (t ≡ 0) × (w ≡ 20) × (v ≡ x)
PartsAre (Tmsi24 x) t w v = (t ≡ 1) × (w ≡ 24) × (v ≡ x)
PartsAre (Min34 x) t w v = (t ≡ 2) × (w ≡ 34) × (v ≡ x)
PartsAre (Imsi50 x) t w v = (t ≡ 3) × (w ≡ 50) × (v ≡ x)

-- are these and no others
pub parts_exactly : (i : MobileIdentity) (p : IdentityParts) → (parts_of i ≡ p) ↔ PartsAre i p.identity_type p.width p.value
parts_exactly i p = (there i, back i)
  where
    there : (j : MobileIdentity) → parts_of j ≡ p → PartsAre j p.identity_type p.width p.value
    there (Tmsi20 x) e = (ap (λ q. q.identity_type) (sym e), ap (λ q. q.width) (sym e), ap (λ q. q.value) (sym e))
    there (Tmsi24 x) e = (ap (λ q. q.identity_type) (sym e), ap (λ q. q.width) (sym e), ap (λ q. q.value) (sym e))
    there (Min34 x) e = (ap (λ q. q.identity_type) (sym e), ap (λ q. q.width) (sym e), ap (λ q. q.value) (sym e))
    there (Imsi50 x) e = (ap (λ q. q.identity_type) (sym e), ap (λ q. q.width) (sym e), ap (λ q. q.value) (sym e))

    back : (j : MobileIdentity) → PartsAre j p.identity_type p.width p.value → parts_of j ≡ p
    back (Tmsi20 x) e = rw (← e.0, ← e.1, ← e.2)
    back (Tmsi24 x) e = rw (← e.0, ← e.1, ← e.2)
    back (Min34 x) e = rw (← e.0, ← e.1, ← e.2)
    back (Imsi50 x) e = rw (← e.0, ← e.1, ← e.2)

-- both tests hold
pub both : (a b : Bool) → a && b ≡ true → (a ≡ true) × (b ≡ true)
both true true e = (refl, refl)
both true false e = (refl, e)
both false true e = (e, refl)
both false false e = (e, e)

-- equal identities are the same identity
pub same_self : (i : MobileIdentity) → same i i ≡ true
unfolding same
same_self i = rw (eq-eqb (type_of i) (type_of i) refl, eq-eqb (value_of i) (value_of i) refl)

pub same_equal : (a b : MobileIdentity) → same a b ≡ true → a ≡ b
unfolding same
same_equal a b e =
    let p = both (eqb (type_of a) (type_of b)) (eqb (value_of a) (value_of b)) e in
    let t : type_of a ≡ type_of b = eqb-true (type_of a) (type_of b) p.0 in
    let v : value_of a ≡ value_of b = eqb-true (value_of a) (value_of b) p.1 in
    sym (identity_parts a) ∙ ap (λ (x : ℕ). identity_of x (value_of a)) t ∙ ap (identity_of (type_of b)) v ∙ identity_parts b

-- `==`, which is derived, answers the definition
pub eq_same : (a b : MobileIdentity) → ghosts.eq a b ≡ same a b
unfolding same
eq_same (Tmsi20 v) (Tmsi20 w) = refl
eq_same (Tmsi20 v) (Tmsi24 w) = refl
eq_same (Tmsi20 v) (Min34 w) = refl
eq_same (Tmsi20 v) (Imsi50 w) = refl
eq_same (Tmsi24 v) (Tmsi20 w) = refl
eq_same (Tmsi24 v) (Tmsi24 w) = refl
eq_same (Tmsi24 v) (Min34 w) = refl
eq_same (Tmsi24 v) (Imsi50 w) = refl
eq_same (Min34 v) (Tmsi20 w) = refl
eq_same (Min34 v) (Tmsi24 w) = refl
eq_same (Min34 v) (Min34 w) = refl
eq_same (Min34 v) (Imsi50 w) = refl
eq_same (Imsi50 v) (Tmsi20 w) = refl
eq_same (Imsi50 v) (Tmsi24 w) = refl
eq_same (Imsi50 v) (Min34 w) = refl
eq_same (Imsi50 v) (Imsi50 w) = refl

-- what the rule accepts, and only that
pub in-range : (v w : ℕ) → 0 < v → v < 2 ^ w → in_range v w ≡ true
unfolding in_range
in-range v w p h = rw (lt-ltb 0 v p, lt-ltb v (2 ^ w) h)

pub range_in : (v w : ℕ) → in_range v w ≡ true → (0 < v) × (v < 2 ^ w)
unfolding in_range
range_in v w e =
    let p = both (ltb 0 v) (ltb v (2 ^ w)) e in
    (ltb-true 0 v p.0, ltb-true v (2 ^ w) p.1)

-- "Encoding needs 1 to 2^width − 1": of every identity
pub encodable_exactly : (i : MobileIdentity) → (encodable i ≡ true) ↔ ((0 < value_of i) × (value_of i < 2 ^ width_of (type_of i)))
unfolding encodable
encodable_exactly i = (range_in (value_of i) (width_of (type_of i)), λ p. in-range (value_of i) (width_of (type_of i)) p.0 p.1)

-- the identity of a type and of a value in its range can be encoded
pub identity_encodable : (t v : ℕ) → t < 4 → (v ≡ 0 → ⊥) → v < 2 ^ width_of t → encodable (identity_of t v) ≡ true
unfolding encodable
identity_encodable t v l n h =
    let p : 0 < v = omega arith in
    rw (type_identity t v l, value_identity t v) (in-range v (width_of t) p h)
