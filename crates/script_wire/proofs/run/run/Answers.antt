-- `run::run` meets its contract: what an operation leaves of its room stays of the whole. Assumes nothing.
use Rattle.std.proofs.Common.{arith, ◌∙◌}
use Rattle.script_wire.proofs.Laws.{drop-put_mid-tail, drop-on}
use Rattle.script_wire.proofs.run.run.Goals as goal

pub loop-octet-preserved : goal.loop-octet-preserved
loop-octet-preserved g c =
    (omega arith, drop-put_mid-tail c.loop-octet.to c.run-to.result c.loop-octet.answers c.run-to.new.answers (omega arith) c.run-to.ensures.rest ∙ drop-on c.loop-octet.to c.run-to.result _ _ c.loop-octet.invariant.1)
