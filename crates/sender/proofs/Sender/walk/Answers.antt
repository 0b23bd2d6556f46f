-- `sender::Sender::walk` meets its contract. Assumes nothing.
use Rattle.std.proofs.Common.{◌≡◌, ◌+◌, ◌≤◌, ap}
use Rattle.token.specs.Token.{stop}
use Rattle.transfer.proofs.Calls.{walk-kept}
use Rattle.transfer.proofs.Walked.{walks_near}
use Rattle.sender.specs.Asked.{asked_at}
use Rattle.sender.specs.View.{view_of}
use Rattle.sender.proofs.Asked.{asked_all}
use Rattle.sender.proofs.Sender.walk.Goals as goal

pub invariant_of-self : goal.invariant_of-self
invariant_of-self c =
    let v = view_of c.self.inside.table in
    let room : 128 + v.next_token ≤ stop = rw (← c.self.view_is) at c.requires in
    rw c.walk.ensures (walk-kept v (asked_at c.args.asked v.transfers) (asked_all c.args.asked v.transfers) room c.self.invariant)

pub returns-clause-tokens : goal.returns-clause-tokens
returns-clause-tokens c =
    let v = view_of c.self.inside.table in
    let n = (walks_near v (asked_at c.args.asked v.transfers) (asked_all c.args.asked v.transfers) c.self.invariant).tokens in
    let e : c.walk.new.self.next_token ≡ _ = ap (λ u. u.next_token) c.walk.ensures in
    rw (← c.self.view_is, e) n
