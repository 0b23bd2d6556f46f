-- `sender::Sender::cancel_found` meets its contract. Assumes nothing.
use Rattle.std.proofs.Common.{◌∙◌, false, sym, true}
use Rattle.transfer.proofs.Placed.{seek_at, seek_none}
use Rattle.transfer.specs.State.{cancel_at, says}
use Rattle.sender.proofs.Sender.cancel_found.Goals as goal

pub returns-in_default : goal.returns-in_default
returns-in_default c passes e =
    let v = c.args.self.now in
    seek_none passes v.transfers (says false v) (λ place x. says true (cancel_at v place x)) (sym c.in_default.is ∙ e)

pub returns : goal.returns
returns c passes e =
    let v = c.args.self.now in
    rw c.cancel_at.ensures
    (seek_at passes v.transfers (says false v) (λ place x. says true (cancel_at v place x)) (sym c.in-Some.is ∙ e))
