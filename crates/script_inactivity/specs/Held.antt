-- What a contract sees of a script's `Timer`. Assumes nothing.
use Rattle.std.specs.Prelude.{Option}
use Rattle.inactivity.specs.Inactivity.{Timer}

-- whether a timer is held, and which
pub record Held : Type 0 where
  pub held : Option Timer
