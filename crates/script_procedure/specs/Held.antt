-- What a contract sees of a script's `Procedure`. Assumes nothing.
use Rattle.std.specs.Prelude.{Option}
use Rattle.procedure.specs.Procedure.{Procedure}

-- whether a procedure is held, and which
pub record Held : Type 0 where
  pub held : Option Procedure
