-- `sender::Sender::hear` meets its contract. Assumes nothing.
use Rattle.std.proofs.Common.{◌∙◌, ap, sym, true}
use Rattle.transfer.specs.Advance.{walked}
use Rattle.transfer.specs.Queue.{has}
use Rattle.transfer.specs.State.{put_at, says}
use Rattle.transfer.proofs.Calls.{put-observed-kept}
use Rattle.sender.specs.View.{view_of}
use Rattle.sender.proofs.Found.{there}
use Rattle.sender.proofs.Heard.{heard_nowhere, heard_early, heard_shown}
use Rattle.sender.proofs.Sender.hear.Goals as goal

pub returns-in_default : goal.returns-in_default
returns-in_default c = rw (← c.self.view_is) (heard_nowhere (view_of c.self.inside.table) c.args.status c.in_default.ensures.place)

pub returns-then-not-has : goal.returns-then-not-has
returns-then-not-has c =
    rw (← c.self.view_is)
    (heard_early (view_of c.self.inside.table) (there _ c.deref.ensures.0) c.args.status c.in-Some.ensures.place (ap (λ o. has o 0) (sym c.went_out.ensures) ∙ sym c.if-not-has.ensures))

pub invariant_of-self : goal.invariant_of-self
invariant_of-self c =
    let v = view_of c.self.inside.table in
    let lt = c.in-Some.ensures.within in
    rw (c.put.ensures, c.observe-y.ensures)
    (put-observed-kept v c.in-Some.place c.args.status.received_frames _ lt (there _ c.deref.ensures.0) (ap (λ o. has o 0) (sym c.went_out.ensures) ∙ sym c.if-not-has.ensures) c.self.invariant)

pub returns : goal.returns
unfolding walked
returns c =
    let v = view_of c.self.inside.table in
    ap (says true) (c.walk.ensures.walked ∙ ap walked (c.put.ensures ∙ ap (put_at v c.in-Some.place) c.observe-y.ensures))
    ∙ rw (← c.self.view_is) (heard_shown v (there _ c.deref.ensures.0) c.args.status c.in-Some.ensures.place (ap (λ o. has o 0) (sym c.went_out.ensures) ∙ sym c.if-not-has.ensures))
