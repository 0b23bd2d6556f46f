-- Rows of the table (script_wire/specs/Table.antt). Assumes nothing.
use Rattle.std.specs.Prelude.{ℕ}
use Rattle.script_inactivity.specs.declared.Op.{Op}
use Rattle.script_inactivity.specs.declared.Op.TheVariants.{New, Token, Owns, Reset, Observe, Received, Advance, Unsolicited, Solicited, State}

abbrev pub row_of : Op → ℕ × ℕ × ℕ
row_of New = (0x16, 8, 1)
row_of Token = (0x17, 0, 9)
row_of Owns = (0x18, 8, 2)
row_of Reset = (0x19, 0, 1)
row_of Observe = (0x1a, 8, 1)
row_of Received = (0x1b, 8, 1)
row_of Advance = (0x1c, 8, 2)
row_of Unsolicited = (0x1d, 17, 2)
row_of Solicited = (0x1e, 17, 2)
row_of State = (0x1f, 0, 35)
