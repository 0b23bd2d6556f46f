-- Rows of the table (script_wire/specs/Table.antt). Assumes nothing.
use Rattle.std.specs.Prelude.{ℕ}
use Rattle.script_receiver.specs.declared.Op.{Op}
use Rattle.script_receiver.specs.declared.Op.TheVariants.{New, Push, Reset, Status, Complete}

abbrev pub row_of : Op → ℕ × ℕ × ℕ
row_of New = (0x11, 9, 1)
row_of Push = (0x12, 36, 327)
row_of Reset = (0x13, 0, 1)
row_of Status = (0x14, 0, 7)
row_of Complete = (0x15, 0, 2)
