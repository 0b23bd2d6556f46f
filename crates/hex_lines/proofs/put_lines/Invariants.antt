-- `hex_lines::put_lines` meets its contract. The invariant: what is there, with the text of the octets to come, is the
-- whole, and they have room. Assumes nothing.
use Rattle.std.proofs.Common.{◌≡◌, ◌+◌, ◌*◌, ◌≤◌, ◌++◌, length}
use Rattle.std.specs.Slice.Iter.{chunks_rest, chunks_size}
use Rattle.arrayvec.specs.ArrayVec.{array_vec_len}
use Rattle.hex_lines.specs.Hex.{text_of}
use Rattle.hex_lines.proofs.put_lines.Given as goal

abbrev pub invariant-loop-line : goal.invariant-loop-line
invariant-loop-line g l = record {
  can_next : (goal.iterator-loop-line g).can_next l.line-iterator;
  ends : (goal.iterator-loop-line g).is_finite l.line-iterator;
  size : chunks_size l.line-iterator ≡ 32;
  room : array_vec_len l.text + 3 * length (chunks_rest l.line-iterator) ≤ g.row.N;
  text : l.text.items ++ text_of (chunks_rest l.line-iterator) ≡ l.initial.text.items ++ text_of l.octets;
}
