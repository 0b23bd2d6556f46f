-- Rows of the table (script_wire/specs/Table.antt). Assumes nothing.
use Rattle.std.specs.Prelude.{ℕ}
use Rattle.script_codec.specs.declared.Op.{Op}
use Rattle.script_codec.specs.declared.Op.TheVariants.{Encode, Decode, Message, Count, Frame}

abbrev pub row_of : Op → ℕ × ℕ × ℕ
row_of Encode = (0x0c, 36, 15)
row_of Decode = (0x0d, 33, 37)
row_of Message = (0x0e, 9, 1)
row_of Count = (0x0f, 16, 2)
row_of Frame = (0x10, 18, 37)
