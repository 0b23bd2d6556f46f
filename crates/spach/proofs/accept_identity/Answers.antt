-- `spach::accept_identity` meets its contract. Assumes nothing.
use Rattle.std.proofs.Common.{◌≡◌, ℕ, Bool, sym, ap, ◌∙◌, le-ltb, lt-ltb}
use Rattle.rach.specs.Identity.{width_of, in_range}
use Rattle.rach.proofs.Laws.{range_in}
use Rattle.spach.specs.Refusal.{gives}
use Rattle.spach.specs.Identity.{accept_identity}
use Rattle.spach.proofs.accept_identity.Goals as goal
use Rattle.spach.proofs.accept_identity.Goals.{then-identity_type-gt3-via-then-identity_type-gt3, then-identity_type-gt3-via-else-identity_type-gt3+then-not-in_range}

-- what the test of the range says
tested : (t v : ℕ) {w : ℕ} {r b : Bool} → w ≡ width_of t → r ≡ in_range v w → r ≡ b → in_range v (width_of t) ≡ b
tested t v ew er eb = ap (in_range v) (sym ew) ∙ sym er ∙ eb

pub returns-then-identity_type-gt3 : goal.returns-then-identity_type-gt3
unfolding accept_identity
returns-then-identity_type-gt3 c =
    elim c.then-identity_type-gt3.branch [
      | then-identity_type-gt3-via-then-identity_type-gt3 w ↦ rw (lt-ltb 3 c.args.identity_type w.if-identity_type-gt3.true)
      | then-identity_type-gt3-via-else-identity_type-gt3+then-not-in_range w ↦ rw (
        le-ltb 3 c.args.identity_type w.if-identity_type-gt3.false,
        tested c.args.identity_type c.args.value w.width_of.ensures w.in_range.ensures w.if-not-in_range.true,
      )
    ]

pub identity_of-requires : goal.identity_of-requires
identity_of-requires c = (range_in c.args.value (width_of c.args.identity_type) (tested c.args.identity_type c.args.value c.width_of.ensures c.in_range.ensures c.if-not-in_range.false)).1

pub returns : goal.returns
unfolding accept_identity
returns c =
    rw (le-ltb 3 c.args.identity_type c.if-identity_type-gt3.false, tested c.args.identity_type c.args.value c.width_of.ensures c.in_range.ensures c.if-not-in_range.false)
    (ap gives c.identity_of.ensures)
