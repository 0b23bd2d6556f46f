-- `sender::Sender::submitted_message` meets its contract. Assumes nothing.
use Rattle.std.proofs.Common.{◌≡◌, ◌∙◌, sym, true, false, cond, get_or, None, Some}
use Rattle.transfer.specs.State.{of_generation, blank_transfer}
use Rattle.transfer.specs.Queue.{full}
use Rattle.transfer.specs.Transfer.{went_out}
use Rattle.transfer.specs.Submitted.{submitted_message_of}
use Rattle.transfer.proofs.Placed.{seek_there, seek_none}
use Rattle.sender.specs.View.{view_of}
use Rattle.sender.proofs.Found.{there}
use Rattle.sender.proofs.Sender.submitted_message.Goals as goal

pub returns-in_err-place : goal.returns-in_err-place
unfolding submitted_message_of
returns-in_err-place c =
    rw (c.from_residual.ensures, ← c.self.view_is)
    (seek_none (of_generation c.args.token.generation) (view_of c.self.inside.table).transfers None (λ place x. cond (full x.parcel.frames (went_out x)) (Some x.parcel.completion) None) c.in_err-place.ensures.place)

pub returns-then-full : goal.returns-then-full
unfolding submitted_message_of
returns-then-full c =
    let x = get_or c.deref.result.now c.in_ok-place.place blank_transfer in
    let out : full x.parcel.frames (went_out x) ≡ true = rw (← c.went_out.ensures) (sym c.full.ensures ∙ c.if-full.true) in
    rw (← c.self.view_is)
    (rw out at (seek_there (of_generation c.args.token.generation) (view_of c.self.inside.table).transfers None (λ place x. cond (full x.parcel.frames (went_out x)) (Some x.parcel.completion) None) c.in_ok-place.ensures.place (there _ c.deref.ensures.0)))

pub returns-else-full : goal.returns-else-full
unfolding submitted_message_of
returns-else-full c =
    let x = get_or c.deref.result.now c.in_ok-place.place blank_transfer in
    let out : full x.parcel.frames (went_out x) ≡ false = rw (← c.went_out.ensures) (sym c.full.ensures ∙ c.if-full.false) in
    rw (← c.self.view_is)
    (rw out at (seek_there (of_generation c.args.token.generation) (view_of c.self.inside.table).transfers None (λ place x. cond (full x.parcel.frames (went_out x)) (Some x.parcel.completion) None) c.in_ok-place.ensures.place (there _ c.deref.ensures.0)))
