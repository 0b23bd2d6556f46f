-- `hex_lines::hex` meets its contract. The invariant: what is there, with the text of the octets to come, is the whole, and
-- they have room, and what follows is as it was. Assumes nothing.
use Rattle.std.proofs.Common.{◌≡◌, ◌+◌, ◌*◌, ◌≤◌, ◌++◌, length, take, drop}
use Rattle.std.specs.Slice.Iter.{chunks_rest, chunks_size}
use Rattle.hex_lines.specs.Hex.{text_of}
use Rattle.hex_lines.proofs.hex.Given as goal

abbrev pub invariant-loop-part : goal.invariant-loop-part
invariant-loop-part l = record {
  can_next : goal.iterator-loop-part.can_next l.part-iterator;
  ends : goal.iterator-loop-part.is_finite l.part-iterator;
  size : chunks_size l.part-iterator ≡ 32;
  room : l.to + 3 * length (chunks_rest l.part-iterator) ≤ 3 * length l.octets;
  text : take l.to l.text ++ text_of (chunks_rest l.part-iterator) ≡ text_of l.octets;
  rest : drop l.to l.text ≡ drop l.to l.initial.text;
}
