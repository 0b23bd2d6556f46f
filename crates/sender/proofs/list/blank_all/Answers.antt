use Rattle.sender.proofs.Laid.{blanked}
use Rattle.sender.proofs.list.blank_all.Goals as goal

pub loop-place-preserved : goal.loop-place-preserved
loop-place-preserved g c =
    let l = c.loop-place in
    rw (c.blank.ensures, l.invariant) (blanked g.T.Blank.blank c.args.places.now l.place-index c.loop-place-test.true)
