-- `arq::write::with_address` meets its contract. Assumes nothing.
use Rattle.std.proofs.Common.{arith}
use Rattle.field.specs.Bits.{bits_of}
use Rattle.field.proofs.Laws.{repack, length-bits_of}
use Rattle.arq.proofs.Written.{address-written}
use Rattle.arq.proofs.write.with_address.Goals as goal

pub returns : goal.returns
returns c =
    let a = c.args in
    repack c.with_field.ensures (address-written a.identity (bits_of a.f) c.with_field-g.ensures.as_bits c.parts-p.ensures (omega (arith, length-bits_of a.f)))
