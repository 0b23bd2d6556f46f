-- `arq::check::check_begin` meets its contract. Assumes nothing.
use Rattle.std.proofs.Common.{sym, ◌∙◌, le-ltb, lt-ltb}
use Rattle.spach.specs.Refusal.{number_of}
use Rattle.spach.proofs.Outcomes.{handed_on}
use Rattle.arq.proofs.Checks.{identity-checked, checks_refuse, checks_pass}
use Rattle.arq.proofs.check.check_begin.Goals as goal

pub returns-in_err-check_identity : goal.returns-in_err-check_identity
returns-in_err-check_identity c =
    handed_on number_of c.from_residual.result c.from_residual.ensures.1
    ∙ checks_refuse _ (identity-checked c.args.frame.identity _) c.in_err-check_identity.ensures

pub returns-then-room_of-bits : goal.returns-then-room_of-bits
returns-then-room_of-bits c =
    rw (← c.room_of.ensures.exact, ← c.from-bits.ensures, lt-ltb _ _ c.if-room_of-bits.true)
    (checks_pass _ (identity-checked c.args.frame.identity _) c.in_ok-check_identity.ensures)

pub returns-then-filler_set : goal.returns-then-filler_set
returns-then-filler_set c =
    rw (← c.room_of.ensures.exact, ← c.from-bits.ensures, ← c.from.ensures, le-ltb _ _ c.if-room_of-bits.false, sym c.filler_set.ensures ∙ c.if-filler_set.true)
    (checks_pass _ (identity-checked c.args.frame.identity _) c.in_ok-check_identity.ensures)

pub returns : goal.returns
returns c =
    rw (← c.room_of.ensures.exact, ← c.from-bits.ensures, ← c.from.ensures, le-ltb _ _ c.if-room_of-bits.false, sym c.filler_set.ensures ∙ c.if-filler_set.false)
    (checks_pass _ (identity-checked c.args.frame.identity _) c.in_ok-check_identity.ensures)
