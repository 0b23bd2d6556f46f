-- The readings of the procedure's answers tell any two answers apart: answer, and the procedure beside it. Assumes nothing.
use Rattle.std.proofs.Common.{◌≡◌, ℕ, List, Result, ap}
use Rattle.spach.specs.declared.SpachError.{SpachError}
use Rattle.spach.specs.Refusal.{number_of, by_number, left}
use Rattle.spach.proofs.Apart.{numbers_apart, answers_apart, left_apart}
use Rattle.inactivity.specs.declared.ProcedureError.{ProcedureError}
use Rattle.inactivity.specs.Inactivity.{refusal_of}
use Rattle.inactivity.proofs.Apart.{refusals_apart}
use Rattle.procedure.specs.declared.ReceiveEvent.{ReceiveEvent}
use Rattle.procedure.specs.declared.TimerEvent.{TimerEvent}
use Rattle.procedure.specs.declared.SendEvent.{SendEvent}
use Rattle.procedure.specs.Procedure.{Procedure, Out, received}

pub made_apart : (a b : Result Procedure SpachError) → by_number number_of a ≡ by_number number_of b → a ≡ b
made_apart = answers_apart number_of numbers_apart

pub resets_apart : (a b : Procedure × Result Unit SpachError) → left number_of a ≡ left number_of b → a ≡ b
resets_apart = left_apart number_of numbers_apart

-- with the buffer
pub received_apart : (a b : Procedure × Result ReceiveEvent ProcedureError) (x y : List ℕ) → received a x ≡ received b y → (a ≡ b) × (x ≡ y)
received_apart a b x y e = (left_apart refusal_of refusals_apart a b (ap (λ (o : Out). record { outcome = o.outcome; state = o.procedure }) e), ap (λ (o : Out). o.buffer) e)

pub advanced_apart : (a b : Procedure × Result TimerEvent ProcedureError) → left refusal_of a ≡ left refusal_of b → a ≡ b
advanced_apart = left_apart refusal_of refusals_apart

pub sent_apart : (a b : Procedure × Result SendEvent ProcedureError) → left refusal_of a ≡ left refusal_of b → a ≡ b
sent_apart = left_apart refusal_of refusals_apart
