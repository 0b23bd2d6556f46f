-- What the reading of `receive`'s answer says: every value is told as it is. What the others say is spach's `by_number-says` and `left-says`.
-- Assumes nothing.
use Rattle.std.proofs.Common.{◌≡◌, ℕ, List, Result, refl}
use Rattle.spach.specs.Refusal.{by_number}
use Rattle.inactivity.specs.declared.ProcedureError.{ProcedureError}
use Rattle.inactivity.specs.Inactivity.{refusal_of}
use Rattle.procedure.specs.declared.ReceiveEvent.{ReceiveEvent}
use Rattle.procedure.specs.Procedure.{Procedure, received}

pub received-says : (r : Procedure × Result ReceiveEvent ProcedureError) (b : List ℕ) → received r b ≡ record { outcome = by_number refusal_of r.1; procedure = r.0; buffer = b }
received-says r b = refl
