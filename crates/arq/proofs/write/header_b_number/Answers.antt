-- `arq::write::header_b_number` meets its contract. Assumes nothing.
use Rattle.arq.proofs.Written.{header_b_number}
use Rattle.arq.proofs.write.header_b_number.Goals as goal

pub returns : goal.returns
returns c = header_b_number c.args.kind c.args.identity_type c.args.flags c.number-kind.ensures c.from-two.ensures c.from-response.ensures
