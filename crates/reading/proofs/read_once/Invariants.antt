-- `reading::read_once` meets its contract: reads that were interrupted took nothing. Assumes nothing.
use Rattle.std.specs.Io.KnownBytes.{Keeps}
use Rattle.reading.proofs.read_once.Given as goal

abbrev pub invariant-loop : goal.invariant-loop
invariant-loop g l = Keeps (g.R.Read.remaining l.initial.input) (g.R.Read.remaining l.input)
