-- `sender::Sender::cancel_at` meets its contract. Assumes nothing.
use Rattle.std.proofs.Common.{◌≡◌, ◌<◌, ◌∙◌, length, get_or}
use Rattle.std.proofs.lemmas.List.{get_or_default}
use Rattle.transfer.specs.State.{blank_transfer}
use Rattle.transfer.proofs.Invariant.{cancel_kept}
use Rattle.sender.specs.View.{view_of}
use Rattle.sender.proofs.Sender.cancel_at.Goals as goal

pub invariant_of-self : goal.invariant_of-self
invariant_of-self c =
    let v = view_of c.self.inside.table in
    let lt : c.args.place < length v.transfers = rw (← c.self.view_is) at c.requires in
    let e : c.remove-x.result ≡ get_or v.transfers c.args.place blank_transfer = c.remove-x.ensures.value ∙ get_or_default v.transfers c.args.place c.remove-x.result blank_transfer lt in
    rw (c.end.ensures, c.remove-x.ensures.items, e) (cancel_kept v c.args.place lt c.self.invariant)
