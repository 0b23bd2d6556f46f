-- `spach::check_identity` meets its contract. Assumes nothing.
use Rattle.std.proofs.Common.{sym, ◌∙◌}
use Rattle.spach.specs.Identity.{check_identity}
use Rattle.spach.proofs.check_identity.Goals as goal

pub returns-then-encodable : goal.returns-then-encodable
unfolding check_identity
returns-then-encodable c = rw (sym c.encodable.ensures ∙ c.if-encodable.true)

pub returns-else-encodable : goal.returns-else-encodable
unfolding check_identity
returns-else-encodable c = rw (sym c.encodable.ensures ∙ c.if-encodable.false)
