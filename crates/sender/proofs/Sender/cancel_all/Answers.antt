-- `sender::Sender::cancel_all` meets its contract. Assumes nothing.
use Rattle.transfer.proofs.Calls.{cancel_all-kept}
use Rattle.sender.specs.View.{view_of}
use Rattle.sender.proofs.Sender.cancel_all.Goals as goal

pub invariant_of-self : goal.invariant_of-self
invariant_of-self c = rw c.cancel_each.ensures (cancel_all-kept (view_of c.self.inside.table) c.self.invariant)
