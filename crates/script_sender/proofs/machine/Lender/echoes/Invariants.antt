-- `machine::Lender::echoes` meets its contract. Assumes nothing.
use Rattle.std.proofs.Common.{◌≡◌, ◌*◌, length}
use Rattle.script_sender.proofs.machine.Lender.echoes.Given as goal

abbrev pub invariant-loop-time : goal.invariant-loop-time
invariant-loop-time l = (length l.times ≡ 16) × (length l.values ≡ 8 * l.time-index)
