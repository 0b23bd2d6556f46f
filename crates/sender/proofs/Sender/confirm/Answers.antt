-- `sender::Sender::confirm` meets its contract. Assumes nothing.
use Rattle.std.proofs.Common.{◌∙◌, ap, sym, get_or, Some, arith}
use Rattle.transfer.specs.Advance.{walked}
use Rattle.transfer.specs.State.{blank_transfer, put_at, says}
use Rattle.transfer.specs.Submitted.{confirm_frame}
use Rattle.transfer.specs.Transfer.{all_transmitted}
use Rattle.transfer.proofs.Calls.{put-confirmed-kept}
use Rattle.transfer.proofs.Moves.{outstanding_frame}
use Rattle.sender.specs.View.{view_of}
use Rattle.sender.proofs.Found.{there}
use Rattle.sender.proofs.Heard.{words_room, outstanding_low, confirmed_nowhere, confirmed_lost, confirmed_found}
use Rattle.sender.proofs.Sender.confirm.Goals as goal

pub returns-in_err-place : goal.returns-in_err-place
returns-in_err-place c = rw (c.from_residual.ensures, ← c.self.view_is) (confirmed_nowhere (view_of c.self.inside.table) c.args.words.now c.args.token c.in_err-place.ensures.place)

pub is_outstanding-requires : goal.is_outstanding-requires
is_outstanding-requires c =
    words_room (view_of c.self.inside.table) (there _ c.deref.ensures.0) c.args.words.now c.args.token c.in_ok-place.ensures.within c.self.invariant c.requires.room

pub returns-then-not-is_outstanding : goal.returns-then-not-is_outstanding
returns-then-not-is_outstanding c =
    rw (← c.self.view_is)
    (confirmed_lost (view_of c.self.inside.table) (there _ c.deref.ensures.0) c.args.words.now c.args.token c.in_ok-place.ensures.place (sym c.if-not-is_outstanding.ensures))

pub confirm_frame-y-requires : goal.confirm_frame-y-requires
confirm_frame-y-requires c =
    let low = outstanding_low (view_of c.self.inside.table) (there _ c.deref.ensures.0) c.args.words.now c.args.token c.in_ok-place.ensures.within c.self.invariant (sym c.if-not-is_outstanding.ensures) in
    omega arith

pub invariant_of-self : goal.invariant_of-self
invariant_of-self c =
    let v = view_of c.self.inside.table in
    let t = c.args.token in
    let x = get_or c.deref.result.now c.in_ok-place.place blank_transfer in
    let lt = c.in_ok-place.ensures.within in
    let low = outstanding_frame t c.args.words.now x (sym c.if-not-is_outstanding.ensures) in
    rw (c.put.ensures, c.confirm_frame-y.ensures) (put-confirmed-kept v c.in_ok-place.place t.frame x lt (there _ c.deref.ensures.0) low c.self.invariant)

pub returns : goal.returns
unfolding walked
returns c =
    let v = view_of c.self.inside.table in
    let x = get_or c.deref.result.now c.in_ok-place.place blank_transfer in
    let y = c.confirm_frame-y.ensures in
    ap (says (Some c.all_transmitted.result)) (c.walk.ensures.walked ∙ ap walked (c.put.ensures ∙ ap (put_at v c.in_ok-place.place) y))
    ∙ (ap (λ b. says (Some b) (walked (put_at v c.in_ok-place.place (confirm_frame c.args.token.frame x)))) (c.all_transmitted.ensures ∙ ap all_transmitted y)
    ∙ rw (← c.self.view_is) (confirmed_found v (there _ c.deref.ensures.0) c.args.words.now c.args.token c.in_ok-place.ensures.place (sym c.if-not-is_outstanding.ensures)))
