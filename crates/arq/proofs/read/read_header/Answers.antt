-- `arq::read::read_header` meets its contract. Assumes nothing.
use Rattle.std.proofs.Common.{refl, arith}
use Rattle.spach.proofs.Laws.{part_read}
use Rattle.arq.proofs.read.read_header.Goals as goal

pub returns : goal.returns
returns c =
    let a = c.args in
    let part = part_read a.o 11 a.octets.now c.requires.inside c.read_field-bits.ensures.value in
    rw (c.mode_of.ensures, part.first 7 (omega arith), part.at 9 1 (omega arith), part.last 10 refl)
