-- 01: encoding needs an identity of 1 to 2^width − 1; any other is refused 2. Assumes nothing.
use Rattle.std.specs.Prelude.{not, ℕ, ltb}
use Rattle.rach.specs.Identity.{identity_of, width_of, in_range, encodable}
use Rattle.rach.specs.declared.MobileIdentity.{MobileIdentity}
use Rattle.spach.specs.Refusal.{Outcome, gives, refuse}

-- 2 for an identity that cannot be encoded
unfoldable pub check_identity : MobileIdentity → Outcome Unit
check_identity i = refuse (not (encodable i)) 2 (gives tt)

-- the identity of a type and a value; 2 for a type above 3 and for a value that cannot be encoded
unfoldable pub accept_identity : ℕ → ℕ → Outcome MobileIdentity
accept_identity t v = refuse (ltb 3 t) 2 (refuse (not (in_range v (width_of t))) 2 (gives (identity_of t v)))
