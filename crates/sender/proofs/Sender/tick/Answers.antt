-- `sender::Sender::tick` meets its contract. Assumes nothing.
use Rattle.transfer.proofs.Invariant.{clock_kept}
use Rattle.sender.specs.View.{view_of}
use Rattle.sender.proofs.Sender.tick.Goals as goal

pub invariant_of-self : goal.invariant_of-self
invariant_of-self c = clock_kept (view_of c.self.inside.table) c.args.block c.args.now_ms c.if-block-clock.false c.if-now_ms-clock.false c.self.invariant
