-- Rows of the table (script_wire/specs/Table.antt). Assumes nothing.
use Rattle.std.specs.Prelude.{ℕ}
use Rattle.script_leaf.specs.declared.Op.{Op}
use Rattle.script_leaf.specs.declared.Op.TheVariants.{Parts, Check, Equal, Accept, HeaderA, Address}

abbrev pub row_of : Op → ℕ × ℕ × ℕ
row_of Parts = (0x01, 9, 11)
row_of Check = (0x02, 9, 1)
row_of Equal = (0x03, 18, 2)
row_of Accept = (0x04, 9, 10)
row_of HeaderA = (0x05, 15, 4)
row_of Address = (0x06, 15, 12)
