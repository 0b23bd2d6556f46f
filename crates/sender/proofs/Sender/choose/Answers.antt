-- `sender::Sender::choose` meets its contract. Assumes nothing.
use Rattle.std.proofs.Common.{◌<◌, ◌∙◌, sym, ap, subst, length}
use Rattle.token.specs.Token.{stop}
use Rattle.transfer.specs.Invariant.{Sound}
use Rattle.transfer.proofs.Calls.{choose-kept}
use Rattle.sender.specs.View.{view_of}
use Rattle.sender.proofs.Chosen.{chosen, chosen_none}
use Rattle.sender.proofs.Found.{there, message_room}
use Rattle.sender.proofs.Sender.choose.Goals as goal

pub returns-in_default-place_of_ready : goal.returns-in_default-place_of_ready
returns-in_default-place_of_ready c =
    rw (← c.self.view_is) (chosen_none (view_of c.self.inside.table) c.args.store.now c.in_default.is c.in_default-place_of_ready.ensures.place)

pub select-requires : goal.select-requires
select-requires c =
    message_room (view_of c.self.inside.table) (there _ c.deref.ensures.0) c.in-Some-place_of_ready.ensures.within c.self.invariant (length c.args.store.now) c.requires.room

pub invariant_of-self : goal.invariant_of-self
invariant_of-self c =
    let v = view_of c.self.inside.table in
    let room : v.next_token < stop = rw (← c.self.view_is) at c.requires.tokens in
    let e = c.select.ensures ∙ chosen v c.args.store.now c.in_default.is c.in-Some-place_of_ready.ensures.place (there _ c.deref.ensures.0) in
    subst Sound (sym (ap (λ a. a.state) e)) (choose-kept v c.args.store.now room c.self.invariant)

pub returns : goal.returns
returns c =
    rw (← c.self.view_is)
    (c.select.ensures ∙ chosen (view_of c.self.inside.table) c.args.store.now c.in_default.is c.in-Some-place_of_ready.ensures.place (there _ c.deref.ensures.0))
