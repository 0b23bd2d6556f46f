-- The readings of the timer's answers tell any two answers apart: answer, and the timer beside it. Assumes nothing.
use Rattle.std.proofs.Common.{◌≡◌, Result}
use Rattle.spach.specs.declared.SpachError.{SpachError}
use Rattle.spach.specs.Refusal.{number_of, left}
use Rattle.spach.proofs.Apart.{numbers_apart, left_apart}
use Rattle.inactivity.specs.declared.InactivityAction.{InactivityAction}
use Rattle.inactivity.specs.declared.InactivityError.{InactivityError}
use Rattle.inactivity.specs.declared.ProcedureError.{ProcedureError}
use Rattle.inactivity.specs.Inactivity.{Timer, clock_number, refusal_of}
pub use Rattle.inactivity.specs.Apart.{clocks_apart, refused_by, refusal_number, refusals_apart}

pub observed_apart : (a b : Timer × Result Unit InactivityError) → left clock_number a ≡ left clock_number b → a ≡ b
observed_apart = left_apart clock_number clocks_apart

pub resets_apart : (a b : Timer × Result Unit SpachError) → left number_of a ≡ left number_of b → a ≡ b
resets_apart = left_apart number_of numbers_apart

pub acted_apart : (a b : Timer × Result InactivityAction ProcedureError) → left refusal_of a ≡ left refusal_of b → a ≡ b
acted_apart = left_apart refusal_of refusals_apart
