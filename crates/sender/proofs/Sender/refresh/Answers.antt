-- `sender::Sender::refresh` meets its contract. Assumes nothing.
use Rattle.std.proofs.Common.{◌≤◌, arith, length}
use Rattle.transfer.proofs.Calls.{queue_waiting-kept, serve_oldest-kept}
use Rattle.transfer.specs.Refresh.{queue_waiting}
use Rattle.sender.specs.View.{view_of}
use Rattle.sender.proofs.Sender.refresh.Goals as goal

pub serve_oldest-requires : goal.serve_oldest-requires
serve_oldest-requires c =
    let h = queue_waiting-kept (view_of c.self.inside.table) c.self.invariant in
    let live = h.live in
    let most = h.most_capacity in
    let few : length (queue_waiting (view_of c.self.inside.table)).transfers ≤ 128 = omega arith in
    rw (← c.queue_waiting.ensures) at few

pub invariant_of-self : goal.invariant_of-self
invariant_of-self c =
    let v = view_of c.self.inside.table in
    rw (c.serve_oldest.ensures, c.queue_waiting.ensures) (serve_oldest-kept (queue_waiting v) (queue_waiting-kept v c.self.invariant))
