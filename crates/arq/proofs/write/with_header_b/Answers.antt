-- `arq::write::with_header_b` meets its contract. Assumes nothing.
use Rattle.field.specs.Bits.{bits_of}
use Rattle.field.proofs.Laws.{repack}
use Rattle.spach.specs.Header.{header_b}
use Rattle.arq.specs.Frame.{kind_of}
use Rattle.arq.proofs.Written.{put-layout}
use Rattle.arq.proofs.write.with_header_b.Goals as goal

pub returns : goal.returns
returns c =
    let a = c.args in
    repack c.with_field.ensures (put-layout 7 (header_b (kind_of a.kind) a.identity_type a.header.flags) (bits_of a.f) c.header_b_number.ensures)
