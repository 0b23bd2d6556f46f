-- Rows of the table (script_wire/specs/Table.antt). Assumes nothing.
use Rattle.std.specs.Prelude.{ℕ}
use Rattle.script_store.specs.declared.Op.{Op}
use Rattle.script_store.specs.declared.Op.TheVariants.{Take, Put, Fill, Dump, Copy}

abbrev pub row_of : Op → ℕ × ℕ × ℕ
row_of Take = (0x07, 3, 11)
row_of Put = (0x08, 11, 1)
row_of Fill = (0x09, 9, 1)
row_of Dump = (0x0a, 0, 65)
row_of Copy = (0x0b, 6, 1)
