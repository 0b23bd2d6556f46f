-- `arq::write::header_a_number` meets its contract. Assumes nothing.
use Rattle.std.proofs.Common.{◌∙◌}
use Rattle.arq.proofs.Written.{header_a_number}
use Rattle.arq.proofs.write.header_a_number.Goals as goal

pub returns : goal.returns
returns c = header_a_number c.args.channel c.args.flags (c.from-usage.ensures ∙ c.usage.ensures) c.from-pch.ensures c.from-bcch.ensures c.from-modifier.ensures
