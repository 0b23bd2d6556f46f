-- The readings of the sender's answers tell any two answers apart: nothing of an answer is left free. Assumes nothing.
use Rattle.std.proofs.Common.{◌≡◌, Bool, Option, Result, ap, ap₂}
use Rattle.spach.specs.Refusal.{by_number, left}
use Rattle.spach.proofs.Apart.{answers_apart}
use Rattle.spach.proofs.Apart as answers
use Rattle.spach.proofs.Outcomes.{gives_same}
use Rattle.transfer.specs.declared.Error.{Error}
use Rattle.transfer.specs.declared.Event.{Event}
use Rattle.transfer.specs.declared.PreparedFrame.{PreparedFrame}
use Rattle.transfer.specs.declared.TransferToken.{TransferToken}
use Rattle.transfer.specs.Numbers.{refusal_of, next_of}
use Rattle.transfer.specs.State.{View, Lent, says}
use Rattle.transfer.proofs.Apart.{refusals_apart, events_apart}
use Rattle.sender.specs.View.{wrote}

-- the constructor's
pub made_apart : (a b : Result View Error) → by_number refusal_of a ≡ by_number refusal_of b → a ≡ b
made_apart = answers_apart refusal_of refusals_apart

-- ---- the answers of the calls with a clock

pub verdicts_apart : (a b : Result Unit Error) → by_number refusal_of a ≡ by_number refusal_of b → a ≡ b
verdicts_apart = answers_apart refusal_of refusals_apart

pub tokens_apart : (a b : Result TransferToken Error) → by_number refusal_of a ≡ by_number refusal_of b → a ≡ b
tokens_apart = answers_apart refusal_of refusals_apart

pub frames_apart : (a b : Result (Option PreparedFrame) Error) → by_number refusal_of a ≡ by_number refusal_of b → a ≡ b
frames_apart = answers_apart refusal_of refusals_apart

pub founds_apart : (a b : Result Bool Error) → by_number refusal_of a ≡ by_number refusal_of b → a ≡ b
founds_apart = answers_apart refusal_of refusals_apart

pub confirmations_apart : (a b : Result (Option Bool) Error) → by_number refusal_of a ≡ by_number refusal_of b → a ≡ b
confirmations_apart = answers_apart refusal_of refusals_apart

-- ---- with the sender that is handed back

pub left_apart : {A : Type 0} (a b : View × Result A Error) → left refusal_of a ≡ left refusal_of b → a ≡ b
left_apart = answers.left_apart refusal_of refusals_apart

-- and with the lent memory
pub wrote_apart : {A : Type 0} (a b : View × Result A Error) (m n : Lent) → wrote a m ≡ wrote b n → (a ≡ b) × (m ≡ n)
wrote_apart a b m n e = (ap₂ (λ v r. (v, r)) (ap (λ o. o.sender) e) (answers_apart refusal_of refusals_apart a.1 b.1 (ap (λ o. o.outcome) e)), ap (λ o. o.lent) e)

-- an event that is taken
pub popped_apart : (a b : Option Event) (v w : View) → says (next_of a) v ≡ says (next_of b) w → (a ≡ b) × (v ≡ w)
popped_apart a b v w e = (events_apart a b (gives_same (ap (λ x. x.outcome) e)), ap (λ x. x.state) e)
