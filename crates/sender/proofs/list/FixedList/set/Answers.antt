use Rattle.std.proofs.Common.{◌<◌, rules}
use Rattle.std.proofs.Math.Seq.{take-set-lt}
use Rattle.sender.proofs.list.FixedList.set.Goals as goal

pub returns : goal.returns
returns g c =
    let l = c.self.inside in
    let lt : c.args.index < l.len = search rules in
    rw (← c.self.view_is) (take-set-lt l.len l.places c.args.index c.args.x lt)
