use Rattle.std.proofs.Common.{take, ◌<◌, arith, length-take-le}
use Rattle.sender.proofs.Laid.{laid, cut}
use Rattle.sender.proofs.list.FixedList.truncate.Goals as goal

pub invariant_of-self : goal.invariant_of-self
invariant_of-self g c =
    let n = g.row.N in
    let l = c.self.inside in
    let lt : c.args.len < l.len = c.if-len-old.true in
    let h = c.self.invariant in
    laid n g.T.Blank.blank c.args.len (take c.args.len l.places) _ (length-take-le c.args.len l.places (omega (arith, h.0, h.1)))
    (omega (arith, h.0)) (cut n g.T.Blank.blank l.len l.places h c.args.len _ lt c.blank_all.ensures)
