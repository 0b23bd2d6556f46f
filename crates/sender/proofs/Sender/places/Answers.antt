-- `sender::Sender::places` meets its contract. Assumes nothing.
use Rattle.std.proofs.Common.{refl, arith}
use Rattle.sender.specs.View.{view_of}
use Rattle.sender.proofs.Found.{there, place_low}
use Rattle.sender.proofs.Granted.{none_taken}
use Rattle.sender.proofs.Sender.places.Goals as goal

pub loop-x-init : goal.loop-x-init
loop-x-init c = (refl, none_taken)

pub bounds-taken-from : goal.bounds-taken-from
bounds-taken-from c =
    let n = c.from.ensures in
    let v = view_of c.self.inside.table in
    let e = c.deref-x-items.ensures.0 in
    let lt = c.loop-x-test.true in
    let low = place_low v (there c.loop-x.x-index e) (rw (← e) lt) c.self.invariant in
    omega arith
