-- `procedure::ArqProcedure::try_new` meets its contract. Assumes nothing.
use Rattle.std.proofs.Common.{sym}
use Rattle.procedure.proofs.Invariant.{sound_made}
use Rattle.procedure.proofs.ArqProcedure.try_new.Goals as goal

pub returns-clause-sound : goal.returns-clause-sound
returns-clause-sound c = rw c.new.ensures.exact (sound_made c.args.identity c.args.first (sym c.in_ok-try_new.ensures))
