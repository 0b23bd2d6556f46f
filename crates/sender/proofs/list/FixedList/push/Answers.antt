use Rattle.std.proofs.Common.{◌<◌, ◌+◌, ◌∙◌, [], ◌∷◌, ◌++◌, take, ap, arith, rules}
use Rattle.std.proofs.lemmas.List.{length_push}
use Rattle.sender.proofs.Laid.{laid, long, one_more}
use Rattle.sender.proofs.list.FixedList.push.Goals as goal

pub invariant_of-self : goal.invariant_of-self
invariant_of-self g c =
    let n = g.row.N in
    let l = c.self.inside in
    let front = take l.len l.places in
    let lt : l.len < n = search rules in
    laid n g.T.Blank.blank (l.len + 1) (front ++ c.args.x ∷ []) _
    (length_push front c.args.x ∙ ap (λ k. k + 1) (long n g.T.Blank.blank l.len l.places c.self.invariant))
    (omega arith) (one_more n g.T.Blank.blank l.len l.places c.self.invariant c.args.x lt)
