-- `arq::write::with_header_a` meets its contract. Assumes nothing.
use Rattle.field.specs.Bits.{bits_of}
use Rattle.field.proofs.Laws.{repack}
use Rattle.spach.specs.Header.{header_a}
use Rattle.arq.proofs.Written.{put-layout}
use Rattle.arq.proofs.write.with_header_a.Goals as goal

pub returns : goal.returns
returns c =
    let a = c.args in
    repack c.with_field.ensures (put-layout 0 (header_a a.header.channel a.header.flags) (bits_of a.f) c.header_a_number.ensures)
