-- What contracts see of a `Life` and a `Clocked`: their fields. Assumes nothing.
use Rattle.std.specs.Prelude.{ℕ, List}
use Rattle.inactivity.specs.Inactivity.{Timer}
use Rattle.procedure.specs.Procedure.{Procedure}

-- a procedure, the buffer that it is lent, and the block of its calls
pub record Living : Type 0 where
  pub procedure : Procedure
  pub buffer : List ℕ
  pub block : ℕ

-- a timer
pub record Timed : Type 0 where
  pub timer : Timer
