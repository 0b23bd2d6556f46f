-- `arq::write::begin` meets its contract. Assumes nothing.
use Rattle.arq.proofs.Written.{begin-written}
use Rattle.arq.proofs.write.begin.Goals as goal

pub returns : goal.returns
returns c =
    begin-written c.args.frame c.requires c.parts-p.ensures c.from.ensures c.from-2.ensures c.with_header_a-a.ensures.as_bits c.with_header_b-b.ensures.as_bits
    c.with_address-c.ensures.as_bits c.with_rest-d.ensures.as_bits c.with_data.ensures.as_octets
