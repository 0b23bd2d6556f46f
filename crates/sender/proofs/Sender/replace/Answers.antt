-- `sender::Sender::replace` meets its contract. Assumes nothing.
use Rattle.transfer.specs.State.{cancel_at}
use Rattle.transfer.specs.Enqueue.{addressed}
use Rattle.transfer.proofs.Placed.{seek_at, seek_none}
use Rattle.sender.specs.View.{view_of}
use Rattle.sender.proofs.Sender.replace.Goals as goal

pub returns-in-Some : goal.returns-in-Some
returns-in-Some c =
    let v = view_of c.self.inside.table in
    rw (c.cancel_at.ensures, ← c.self.view_is) (seek_at (addressed c.args.identity) v.transfers v (cancel_at v) c.in-Some.ensures.place)

pub returns-in_default : goal.returns-in_default
returns-in_default c =
    let v = view_of c.self.inside.table in
    rw (← c.self.view_is) (seek_none (addressed c.args.identity) v.transfers v (cancel_at v) c.in_default.ensures.place)
