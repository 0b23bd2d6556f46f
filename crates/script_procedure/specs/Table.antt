-- Rows of the table (script_wire/specs/Table.antt). Assumes nothing.
use Rattle.std.specs.Prelude.{ℕ}
use Rattle.script_procedure.specs.declared.Op.{Op}
use Rattle.script_procedure.specs.declared.Op.TheVariants.{New, Reset, Active, Receive, Advance, Sent, State}

abbrev pub row_of : Op → ℕ × ℕ × ℕ
row_of New = (0x20, 17, 1)
row_of Reset = (0x21, 0, 1)
row_of Active = (0x22, 0, 2)
row_of Receive = (0x23, 44, 336)
row_of Advance = (0x24, 8, 19)
row_of Sent = (0x25, 25, 2)
row_of State = (0x26, 0, 42)
