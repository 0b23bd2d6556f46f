-- `sender::table::Table::walk` meets its contract. Assumes nothing.
use Rattle.sender.specs.View.{view_of}
use Rattle.sender.proofs.Turns.{Turning}
use Rattle.sender.proofs.table.Table.walk.Given as goal

abbrev pub invariant-loop-i : goal.invariant-loop-i
invariant-loop-i l = Turning (view_of l.initial.self) l.asked (view_of l.self) l.kept l.i
