-- `sender::table::Table::cancel_each` meets its contract. Assumes nothing.
use Rattle.std.proofs.Common.{◌≡◌, ◌++◌, map, take}
use Rattle.transfer.specs.State.{cancels, event_of}
use Rattle.sender.proofs.table.Table.cancel_each.Given as goal

abbrev pub invariant-loop-x : goal.invariant-loop-x
invariant-loop-x l = l.events.items ≡ l.initial.events.items ++ map (λ x. event_of x cancels) (take l.x-index l.x-items)
