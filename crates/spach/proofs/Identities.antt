-- Which identities are accepted, exactly: 01, "Encoding needs 1 to 2^width − 1". Assumes nothing.
use Rattle.std.proofs.Common.{◌≡◌, ℕ, ◌^◌, ◌<◌, Bool, true, false, not, ltb, ◌↔◌, refl, arith, ltb-false, le-ltb}
use borrow.Author.Tests.{not-false}
use Rattle.rach.specs.Identity.{type_of, value_of, width_of, identity_of, in_range, encodable}
use Rattle.rach.specs.declared.MobileIdentity.{MobileIdentity}
use Rattle.rach.proofs.Laws.{in-range, range_in}
use Rattle.spach.specs.Refusal.{Outcome, gives, refuses, refuse}
use Rattle.spach.specs.Identity.{check_identity, accept_identity}
use Rattle.spach.proofs.Outcomes.{passed}

-- refused by n, here or by what follows
refused_else : {A : Type 0} (t : Bool) (n : ℕ) (o : Outcome A) → (t ≡ false → o ≡ refuses n) → refuse t n o ≡ refuses n
refused_else true n o h = refl
refused_else false n o h = h refl

-- a type and a number are accepted exactly if the type is 0 to 3 and the number 1 to 2^width − 1
pub accepts_exactly : (t v : ℕ) → (accept_identity t v ≡ gives (identity_of t v)) ↔ ((t < 4) × (0 < v) × (v < 2 ^ width_of t))
unfolding accept_identity
accepts_exactly t v = (to, from)
  where
    to : refuse (ltb 3 t) 2 (refuse (not (in_range v (width_of t))) 2 (gives (identity_of t v))) ≡ gives (identity_of t v) → (t < 4) × (0 < v) × (v < 2 ^ width_of t)
    to e =
        let p = passed (ltb 3 t) 2 _ e in
        let q = passed (not (in_range v (width_of t))) 2 _ p.1 in
        let r = range_in v (width_of t) (not-false _ q.0) in
        let n = ltb-false 3 t p.0 in
        (omega arith, r.0, r.1)

    from : (t < 4) × (0 < v) × (v < 2 ^ width_of t) → refuse (ltb 3 t) 2 (refuse (not (in_range v (width_of t))) 2 (gives (identity_of t v))) ≡ gives (identity_of t v)
    from p = let h = p.0 in rw (le-ltb 3 t (omega arith), in-range v (width_of t) p.1 p.2)

-- and any other is refused 2
pub accepts_else : (t v : ℕ) → ((t < 4) × (0 < v) × (v < 2 ^ width_of t) → ⊥) → accept_identity t v ≡ refuses 2
unfolding accept_identity
accepts_else t v n =
    refused_else (ltb 3 t) 2 _
    (λ e. refused_else (not (in_range v (width_of t))) 2 _ (λ d. let r = range_in v (width_of t) (not-false _ d) in let m = ltb-false 3 t e in absurd (n (omega arith, r.0, r.1))))

-- so of an identity
pub checks_exactly : (i : MobileIdentity) → (check_identity i ≡ gives tt) ↔ ((0 < value_of i) × (value_of i < 2 ^ width_of (type_of i)))
unfolding check_identity encodable
checks_exactly i = (
  λ e. range_in (value_of i) (width_of (type_of i)) (not-false _ (passed (not (encodable i)) 2 _ e).0),
  λ p. rw (in-range (value_of i) (width_of (type_of i)) p.0 p.1),
)

-- and any other is refused 2
pub checks_else : (i : MobileIdentity) → ((0 < value_of i) × (value_of i < 2 ^ width_of (type_of i)) → ⊥) → check_identity i ≡ refuses 2
unfolding check_identity encodable
checks_else i n = refused_else (not (encodable i)) 2 _ (λ d. absurd (n (range_in (value_of i) (width_of (type_of i)) (not-false _ d))))
