-- `sender::Sender::hand_in` meets its contract. Assumes nothing.
use Rattle.std.proofs.Common.{◌∙◌, [], sym, ap, subst, get_or, arith}
use Rattle.transfer.specs.Invariant.{Sound}
use Rattle.transfer.specs.Lists.{remove_at, push_back}
use Rattle.transfer.specs.State.{blank_transfer}
use Rattle.transfer.proofs.Calls.{submitted_at-kept}
use Rattle.sender.specs.View.{view_of, lent}
use Rattle.sender.proofs.Found.{there}
use Rattle.sender.proofs.Handed.{word_low, handed, submit_unfound, submit_behind, submit_front}
use Rattle.sender.proofs.Sender.hand_in.Goals as goal

pub returns-in_default : goal.returns-in_default
returns-in_default c octets =
    rw (← c.self.view_is) (submit_unfound (view_of c.self.inside.table) (lent octets c.args.words.now) c.args.token (sym c.is_selected.ensures ∙ c.if-not-is_selected.false) c.in_default.ensures.place)

pub returns-then-not-is_front : goal.returns-then-not-is_front
returns-then-not-is_front c octets =
    rw (← c.self.view_is)
    (submit_behind (view_of c.self.inside.table) (lent octets c.args.words.now) c.args.token (sym c.is_selected.ensures ∙ c.if-not-is_selected.false)
    c.in-Some.ensures.place (there _ c.deref.ensures.0) (sym c.is_front.ensures ∙ c.if-not-is_front.true))

pub overflow_mul-words : goal.overflow_mul-words
overflow_mul-words c =
    let low = word_low (view_of c.self.inside.table) (there _ c.deref.ensures.0) c.in-Some.ensures.within c.self.invariant c.args.token.frame (sym c.is_front.ensures ∙ c.if-not-is_front.false) c.from.ensures in
    omega arith

pub overflow_add-words : goal.overflow_add-words
overflow_add-words c =
    let low = word_low (view_of c.self.inside.table) (there _ c.deref.ensures.0) c.in-Some.ensures.within c.self.invariant c.args.token.frame (sym c.is_front.ensures ∙ c.if-not-is_front.false) c.from.ensures in
    omega arith

pub offset_bounds-words-from : goal.offset_bounds-words-from
offset_bounds-words-from c =
    let low = word_low (view_of c.self.inside.table) (there _ c.deref.ensures.0) c.in-Some.ensures.within c.self.invariant c.args.token.frame (sym c.is_front.ensures ∙ c.if-not-is_front.false) c.from.ensures in
    omega arith

pub bounds-words-from : goal.bounds-words-from
bounds-words-from c =
    let low = word_low (view_of c.self.inside.table) (there _ c.deref.ensures.0) c.in-Some.ensures.within c.self.invariant c.args.token.frame (sym c.is_front.ensures ∙ c.if-not-is_front.false) c.from.ensures in
    let long = c.requires in
    omega arith

pub invariant_of-self : goal.invariant_of-self
invariant_of-self c =
    let v = view_of c.self.inside.table in
    let t = c.args.token in
    let x = get_or c.deref.result.now c.in-Some.place blank_transfer in
    let l = c.push.ensures.items ∙ ap (λ l. push_back l c.in_flight.result) c.remove.ensures.items ∙ ap (λ y. push_back (remove_at c.in-Some.place v.transfers) y) c.in_flight.ensures in
    let e = handed v [] c.args.words.now t c.in-Some.place x l c.from.ensures
    ∙ submit_front v (lent [] c.args.words.now) t (sym c.is_selected.ensures ∙ c.if-not-is_selected.false) c.in-Some.ensures.place (there _ c.deref.ensures.0) (sym c.is_front.ensures ∙ c.if-not-is_front.false) in
    subst Sound (sym (ap (λ o. o.sender) e)) (submitted_at-kept v (lent [] c.args.words.now) t c.self.invariant)

pub returns : goal.returns
returns c octets =
    let v = view_of c.self.inside.table in
    let t = c.args.token in
    let x = get_or c.deref.result.now c.in-Some.place blank_transfer in
    let l = c.push.ensures.items ∙ ap (λ l. push_back l c.in_flight.result) c.remove.ensures.items ∙ ap (λ y. push_back (remove_at c.in-Some.place v.transfers) y) c.in_flight.ensures in
    rw (← c.self.view_is)
    (handed v octets c.args.words.now t c.in-Some.place x l c.from.ensures
    ∙ submit_front v (lent octets c.args.words.now) t (sym c.is_selected.ensures ∙ c.if-not-is_selected.false) c.in-Some.ensures.place (there _ c.deref.ensures.0) (sym c.is_front.ensures ∙ c.if-not-is_front.false))
