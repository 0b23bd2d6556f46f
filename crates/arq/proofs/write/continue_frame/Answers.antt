-- `arq::write::continue_frame` meets its contract. Assumes nothing.
use Rattle.arq.proofs.Written.{continue-written}
use Rattle.arq.proofs.write.continue_frame.Goals as goal

pub returns : goal.returns
returns c = continue-written c.args.frame c.from.ensures c.with_header_a-a.ensures.as_bits c.with_header_b-b.ensures.as_bits c.with_rest-c.ensures.as_bits c.with_data.ensures.as_octets
