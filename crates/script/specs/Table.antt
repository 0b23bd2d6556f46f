-- Rows of the table (script_wire/specs/Table.antt). Assumes nothing.
use Rattle.std.specs.Prelude.{ℕ}
use Rattle.script_leaf.specs.Table as leaf
use Rattle.script_store.specs.Table as store
use Rattle.script_codec.specs.Table as codec
use Rattle.script_receiver.specs.Table as receiver
use Rattle.script_inactivity.specs.Table as inactivity
use Rattle.script_procedure.specs.Table as procedure
use Rattle.script.specs.declared.Op.{Op}
use Rattle.script.specs.declared.Op.TheVariants.{Leaf, Store, Message, Receiver, Timer, Procedure}

abbrev pub row_of : Op → ℕ × ℕ × ℕ
row_of (Leaf op) = leaf.row_of op
row_of (Store op) = store.row_of op
row_of (Message op) = codec.row_of op
row_of (Receiver op) = receiver.row_of op
row_of (Timer op) = inactivity.row_of op
row_of (Procedure op) = procedure.row_of op
