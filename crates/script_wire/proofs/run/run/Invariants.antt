-- `run::run` meets its contract. The invariant: the end octet has room at `to`, and the answers from there on are as they
-- were. Assumes nothing.
use Rattle.std.proofs.Common.{◌≡◌, ◌<◌, length, drop}
use Rattle.script_wire.proofs.run.run.Given as goal

abbrev pub invariant-loop-octet : goal.invariant-loop-octet
invariant-loop-octet g l = (l.to < length l.answers) × (drop l.to l.answers ≡ drop l.to l.initial.answers)

abbrev pub decreases-loop-octet : goal.decreases-loop-octet
decreases-loop-octet g l = length l.left
