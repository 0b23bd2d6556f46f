-- 01, module 1: MobileIdentity, its type, width and value. Values are as the air interface packs them: a MIN or an IMSI is no
-- decimal number. Assumes nothing.
use Rattle.std.specs.Prelude.{Bool, ◌&&◌, List, [], ◌∷◌, ℕ, zero, suc, ◌^◌, eqb, ltb, get_or}
use Rattle.rach.specs.declared.MobileIdentity.{MobileIdentity}
use Rattle.rach.specs.declared.MobileIdentity.TheVariants.{Tmsi20, Tmsi24, Min34, Imsi50}
use Rattle.rach.specs.declared.IdentityParts.{IdentityParts}

-- the identity type, as header B carries it
abbrev pub type_of : MobileIdentity → ℕ
type_of (Tmsi20 v) = 0
type_of (Tmsi24 v) = 1
type_of (Min34 v) = 2
type_of (Imsi50 v) = 3

-- its value
abbrev pub value_of : MobileIdentity → ℕ
value_of (Tmsi20 v) = v
value_of (Tmsi24 v) = v
value_of (Min34 v) = v
value_of (Imsi50 v) = v

-- the widths in bits of the values of types 0 to 3
abbrev pub widths : List ℕ
widths = 20 ∷ 24 ∷ 34 ∷ 50 ∷ []

-- the width of a type (two bits hold no type above 3)
abbrev pub width_of : ℕ → ℕ
width_of t = get_or widths t 50

-- the identity of a type and a value
abbrev pub identity_of : ℕ → ℕ → MobileIdentity
identity_of zero v = Tmsi20 v
identity_of (suc zero) v = Tmsi24 v
identity_of (suc (suc zero)) v = Min34 v
identity_of (suc (suc (suc n))) v = Imsi50 v

-- type, width and value
abbrev pub parts_of : MobileIdentity → IdentityParts
parts_of i = record { identity_type = type_of i; width = width_of (type_of i); value = value_of i }

-- equal means same type and value
unfoldable pub same : MobileIdentity → MobileIdentity → Bool
same a b = eqb (type_of a) (type_of b) && eqb (value_of a) (value_of b)

-- encoding needs 1 to 2^width − 1
unfoldable pub in_range : ℕ → ℕ → Bool
in_range v w = ltb 0 v && ltb v (2 ^ w)

-- an identity that encoding takes
unfoldable pub encodable : MobileIdentity → Bool
encodable i = in_range (value_of i) (width_of (type_of i))
