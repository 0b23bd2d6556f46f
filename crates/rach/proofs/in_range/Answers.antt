-- `rach::in_range` meets its contract. Assumes nothing.
use Rattle.std.proofs.Common.{arith, lt-ltb}
use Rattle.field.proofs.Window.{one_shl}
use Rattle.rach.specs.Identity.{in_range}
use Rattle.rach.proofs.in_range.Goals as goal

pub returns-then-value-ne0 : goal.returns-then-value-ne0
unfolding in_range
returns-then-value-ne0 c = rw (one_shl c.args.width (omega arith), lt-ltb 0 c.args.value (omega arith))

pub returns-else-value-ne0 : goal.returns-else-value-ne0
unfolding in_range
returns-else-value-ne0 c = rw c.if-value-ne0.false
