-- `sender::Sender::prioritize` meets its contract. Assumes nothing.
use Rattle.std.proofs.Common.{◌∙◌, get_or}
use Rattle.transfer.specs.State.{blank_transfer}
use Rattle.transfer.proofs.Calls.{prioritized-kept}
use Rattle.sender.specs.View.{view_of}
use Rattle.sender.proofs.Chosen.{fronted_by, prioritize_none, prioritize_idle, prioritize_ready}
use Rattle.sender.proofs.Found.{there, frames_there}
use Rattle.sender.proofs.Sender.prioritize.Goals as goal

pub returns-in_default : goal.returns-in_default
returns-in_default c = rw (← c.self.view_is) (prioritize_none (view_of c.self.inside.table) c.args.store.now c.args.echo c.in_default.ensures.place)

pub repeated-x-requires : goal.repeated-x-requires
repeated-x-requires c = frames_there (view_of c.self.inside.table) (there _ c.deref.ensures.0) c.in-Some.ensures.within c.self.invariant

pub invariant_of-self : goal.invariant_of-self
invariant_of-self c =
    let v = view_of c.self.inside.table in
    let x = get_or c.deref.result.now c.in-Some.place blank_transfer in
    let lt = c.in-Some.ensures.within in
    rw (fronted_by v c.args.echo c.in-Some.place x c.repeated-x.ensures c.move_to_front.ensures c.select_only.ensures)
    (prioritized-kept v c.in-Some.place c.args.echo x lt (there _ c.deref.ensures.0) c.self.invariant)

pub returns-then-queue-eq0 : goal.returns-then-queue-eq0
returns-then-queue-eq0 c =
    let v = view_of c.self.inside.table in
    let x = get_or c.deref.result.now c.in-Some.place blank_transfer in
    rw (← c.self.view_is)
    (prioritize_idle v c.args.store.now c.args.echo c.in-Some.ensures.place (there _ c.deref.ensures.0) c.repeated-x.ensures
    (fronted_by v c.args.echo c.in-Some.place x c.repeated-x.ensures c.move_to_front.ensures c.select_only.ensures) c.if-queue-eq0.true)

pub invariant_of-self-2 : goal.invariant_of-self-2
invariant_of-self-2 c =
    let v = view_of c.self.inside.table in
    let x = get_or c.deref.result.now c.in-Some.place blank_transfer in
    let lt = c.in-Some.ensures.within in
    rw (fronted_by v c.args.echo c.in-Some.place x c.repeated-x.ensures c.move_to_front.ensures c.select_only.ensures)
    (prioritized-kept v c.in-Some.place c.args.echo x lt (there _ c.deref.ensures.0) c.self.invariant)

pub returns : goal.returns
returns c =
    let v = view_of c.self.inside.table in
    let x = get_or c.deref.result.now c.in-Some.place blank_transfer in
    rw (← c.self.view_is)
    (c.choose.ensures
    ∙ prioritize_ready v c.args.store.now c.args.echo c.in-Some.ensures.place (there _ c.deref.ensures.0) c.repeated-x.ensures
    (fronted_by v c.args.echo c.in-Some.place x c.repeated-x.ensures c.move_to_front.ensures c.select_only.ensures) c.if-queue-eq0.false)
