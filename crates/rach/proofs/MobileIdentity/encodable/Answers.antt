-- `rach::MobileIdentity::encodable` meets its contract. Assumes nothing.
use Rattle.std.proofs.Common.{ap, ◌∙◌}
use Rattle.rach.specs.Identity.{in_range, encodable}
use Rattle.rach.proofs.MobileIdentity.encodable.Goals as goal

pub returns : goal.returns
unfolding encodable
returns c = c.in_range.ensures ∙ ap (λ p. in_range p.value p.width) c.parts-p.ensures
