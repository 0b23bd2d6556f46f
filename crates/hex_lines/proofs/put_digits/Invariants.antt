-- `hex_lines::put_digits` meets its contract. The invariant: the digits of the octets so far are there. Assumes nothing.
use Rattle.std.proofs.Common.{◌≡◌, ◌+◌, ◌*◌, ◌++◌, take}
use Rattle.arrayvec.specs.ArrayVec.{array_vec_len}
use Rattle.hex.specs.Hex.{encode_lower}
use Rattle.hex_lines.proofs.put_digits.Given as goal

abbrev pub invariant-loop-octet : goal.invariant-loop-octet
invariant-loop-octet g l = record {
  length : array_vec_len l.text ≡ array_vec_len l.initial.text + 2 * l.octet-index;
  digits : l.text.items ≡ l.initial.text.items ++ encode_lower (take l.octet-index l.octets);
}
