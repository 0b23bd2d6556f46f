-- `sender::table::Table::queue_waiting` meets its contract. Assumes nothing.
use Rattle.std.proofs.Common.{◌≡◌, ◌++◌, map, take, drop}
use Rattle.transfer.specs.Refresh.{refreshed}
use Rattle.transfer.specs.State.{with_transfers}
use Rattle.sender.specs.View.{view_of}
use Rattle.sender.proofs.table.Table.queue_waiting.Given as goal

abbrev pub invariant-loop-i : goal.invariant-loop-i
invariant-loop-i l =
    let v = view_of l.initial.self in
    view_of l.self ≡ with_transfers v (map (refreshed v.clock.last_block) (take l.i v.transfers) ++ drop l.i v.transfers)
