-- `arq::write::rest_number` meets its contract. Assumes nothing.
use Rattle.arq.proofs.Written.{rest_number}
use Rattle.arq.proofs.write.rest_number.Goals as goal

pub returns : goal.returns
returns c = rest_number c.args.header c.from-echo.ensures c.from-polling.ensures c.mode-m.ensures.exact
