-- `arq::read::decode_kind` meets its contract. Assumes nothing.
use Rattle.std.proofs.Common.{arith}
use Rattle.field.specs.Bits.{bits_of}
use Rattle.field.proofs.Laws.{length-bits_of}
use Rattle.arq.proofs.Decoded.{address_ends}
use Rattle.arq.proofs.read.decode_kind.Goals as goal

pub decode_begin-requires : goal.decode_begin-requires
decode_begin-requires c =
    let xs = c.args.octets.now in
    let d = address_ends (bits_of xs) c.in_ok-address-in-5.address (omega (arith, length-bits_of xs)) c.in_ok-address-in-5.ensures in
    record { ends = d.0; early = d.1 }
