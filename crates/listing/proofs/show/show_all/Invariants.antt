-- `listing::show::show_all` meets its contract. Assumes nothing.
use Rattle.std.proofs.Common.{◌/◌}
use Rattle.listing.specs.Session.{new_session, Ready}
use Rattle.listing.proofs.Shown.{SoFar}
use Rattle.listing.proofs.show.show_all.Given as goal

abbrev pub invariant-loop-error : goal.invariant-loop-error
invariant-loop-error g l = record {
  ready : Ready l.session (l.left / 14);
  so_far : SoFar (new_session l.fn.receiver) l.limit (g.R.Read.remaining l.initial.input) (g.R.Read.remaining l.input) (g.W.Write.contents l.initial.output) (g.W.Write.contents l.output) l.session l.left l.said;
}

abbrev pub decreases-loop-error : goal.decreases-loop-error
decreases-loop-error g l = l.left
