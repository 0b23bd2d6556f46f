-- `sender::Sender::accept` meets its contract. Assumes nothing.
use Rattle.std.proofs.Common.{◌∙◌, ◌<◌, [], ap, sym, subst, refl, arith}
use Rattle.token.specs.Token.{stop}
use Rattle.transfer.specs.Enqueue.{lowest_n, replaced}
use Rattle.transfer.specs.Invariant.{Sound}
use Rattle.transfer.specs.State.{with_echoes}
use Rattle.transfer.proofs.Calls.{accepts-kept}
use Rattle.sender.specs.View.{view_of, lent}
use Rattle.sender.proofs.Granted.{accept_until, accept_echo, accept_octets, accept_frames, holding_sound, alone_room, alone_place, accept_leaves}
use Rattle.sender.proofs.Sender.accept.Goals as goal

pub overflow_add-until : goal.overflow_add-until
overflow_add-until c =
    let v = view_of c.self.inside.table in
    let fits = accept_until v c.args.request c.args.message.now c.args.grant c.self.invariant (rw (← c.self.view_is) at c.requires.granted) in
    omega (arith, fits)

pub hold-requires : goal.hold-requires
hold-requires c = accept_echo (view_of c.self.inside.table) c.args.request c.args.message.now c.args.grant c.self.invariant (rw (← c.self.view_is) at c.requires.granted)

pub invariant_of-self : goal.invariant_of-self
invariant_of-self c =
    rw c.hold.ensures (holding_sound (view_of c.self.inside.table) c.args.request c.args.message.now c.args.grant c.self.invariant (rw (← c.self.view_is) at c.requires.granted))

pub store_message-requires : goal.store_message-requires
store_message-requires c =
    let v = view_of c.self.inside.table in
    let r = c.args.request in
    let given = rw (← c.self.view_is) at c.requires.granted in
    let w = c.replace.ensures ∙ ap (λ e. replaced (with_echoes v e) r.identity) c.hold.ensures in
    (alone_place v r c.args.message.now c.args.grant c.self.invariant given w c.lowest_place-n.ensures, c.requires.room, accept_octets v r c.args.message.now c.args.grant c.self.invariant given)

pub newcomer-requires : goal.newcomer-requires
newcomer-requires c =
    let v = view_of c.self.inside.table in
    let r = c.args.request in
    let given = rw (← c.self.view_is) at c.requires.granted in
    let w = c.replace.ensures ∙ ap (λ e. replaced (with_echoes v e) r.identity) c.hold.ensures in
    (accept_octets v r c.args.message.now c.args.grant c.self.invariant given, accept_frames v r c.args.message.now c.args.grant c.self.invariant given, alone_place v r c.args.message.now c.args.grant c.self.invariant given w c.lowest_place-n.ensures)

pub push-requires : goal.push-requires
push-requires c =
    let v = view_of c.self.inside.table in
    let r = c.args.request in
    let given = rw (← c.self.view_is) at c.requires.granted in
    let w = c.replace.ensures ∙ ap (λ e. replaced (with_echoes v e) r.identity) c.hold.ensures in
    let few = alone_room v r c.args.message.now c.args.grant c.self.invariant given (c.self-2.view_is ∙ w) in
    (omega arith, few)

pub invariant_of-self-2 : goal.invariant_of-self-2
invariant_of-self-2 c =
    let v = view_of c.self.inside.table in
    let r = c.args.request in
    let given = rw (← c.self.view_is) at c.requires.granted in
    let w = c.replace.ensures ∙ ap (λ e. replaced (with_echoes v e) r.identity) c.hold.ensures in
    let n = c.lowest_place-n.ensures ∙ ap (λ u. lowest_n u.transfers) (sym c.self-2.view_is) in
    let e = accept_leaves v r c.args.message.now c.args.grant c.self.invariant given c.args.store.now [] {w = view_of c.self-2.inside.table} (c.self-2.view_is ∙ w) n c.store_message.ensures refl c.newcomer.ensures c.number_after-self-inside.ensures c.push.ensures.items in
    let room : v.next_token < stop = rw (← c.self.view_is) at c.requires.tokens in
    subst Sound (sym (ap (λ o. o.sender) e)) (accepts-kept v (lent c.args.store.now []) r c.args.message.now c.args.grant given room c.self.invariant)

pub returns : goal.returns
returns c words =
    let v = view_of c.self.inside.table in
    let r = c.args.request in
    let given = rw (← c.self.view_is) at c.requires.granted in
    let w = c.replace.ensures ∙ ap (λ e. replaced (with_echoes v e) r.identity) c.hold.ensures in
    let n = c.lowest_place-n.ensures ∙ ap (λ u. lowest_n u.transfers) (sym c.self-2.view_is) in
    rw (← c.self.view_is)
    (accept_leaves v r c.args.message.now c.args.grant c.self.invariant given c.args.store.now words {w = view_of c.self-2.inside.table} (c.self-2.view_is ∙ w) n c.store_message.ensures refl c.newcomer.ensures c.number_after-self-inside.ensures c.push.ensures.items)
