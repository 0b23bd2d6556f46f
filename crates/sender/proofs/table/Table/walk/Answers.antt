-- `sender::table::Table::walk` meets its contract. Assumes nothing.
use Rattle.std.proofs.Common.{◌∙◌, ap, arith}
use Rattle.transfer.specs.Advance.{walk}
use Rattle.sender.proofs.Asked.{flag_is}
use Rattle.sender.proofs.Found.{there}
use Rattle.sender.proofs.Turns.{turn_fits, turn_frames, turn_gone, turn_kept, turned_all}
use Rattle.sender.proofs.table.Table.walk.Goals as goal
use Rattle.sender.proofs.table.Table.walk.Goals.{in-Some, in_default}

pub turn-requires-clause-fits : goal.turn-requires-clause-fits
turn-requires-clause-fits c = turn_fits c.loop-i.invariant (omega (arith, c.loop-i-test.true, c.len-i-end.ensures.value)) (there _ c.deref.ensures.0) c.requires

pub turn-requires-clause-frames : goal.turn-requires-clause-frames
turn-requires-clause-frames c = turn_frames c.loop-i.invariant (omega (arith, c.loop-i-test.true, c.len-i-end.ensures.value)) (there _ c.deref.ensures.0) c.requires

pub loop-i-preserved : goal.loop-i-preserved
loop-i-preserved c =
    let lt = c.loop-i-test.true in
    let n = c.len-i-end.ensures.value in
    let asks = c.eq.ensures ∙ flag_is c.args.asked c.loop-i.i in
    let after = c.turn.ensures in
    let same = ap (λ a. a.items) after.same in
    elim c.match-turn.branch [
      | in-Some w ↦
          rw (w.kept-is) (turn_kept c.loop-i.invariant (omega arith) (there _ c.deref.ensures.0) c.turn.result asks after.step same after.guard after.one w.in-Some.is (rw w.self-is w.put.ensures))
      | in_default w ↦ rw (w.self-is, w.kept-is) (turn_gone c.loop-i.invariant (omega arith) (there _ c.deref.ensures.0) c.turn.result asks after.step same after.guard after.one w.in_default.is)
    ]

pub returns : goal.returns
unfolding walk
returns c =
    let n = c.len-i-end.ensures.value in
    let last = c.loop-i-test.false in
    rw c.truncate.ensures.items (turned_all c.loop-i.invariant (omega arith))
