-- `sender::Sender::try_new` meets its contract. Assumes nothing.
use Rattle.transfer.proofs.Fresh.{fresh_sound}
use Rattle.std.proofs.Common.{arith}
use Rattle.sender.proofs.Sender.try_new.Goals as goal

pub invariant_of-result : goal.invariant_of-result
invariant_of-result c =
    let a = c.args in
    rw c.fresh.ensures (fresh_sound a.capacity a.echo_guard_ms a.startup_until_block a.first (omega arith) (omega arith) (omega arith))
