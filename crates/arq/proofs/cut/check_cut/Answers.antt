-- `arq::cut::check_cut` meets its contract. Assumes nothing.
use Rattle.std.proofs.Common.{le-ltb}
use Rattle.spach.specs.Identity.{check_identity}
use Rattle.arq.proofs.Checks.{header_passed}
use Rattle.arq.proofs.cut.check_cut.Goals as goal

pub returns : goal.returns
unfolding check_identity
returns c = rw (le-ltb 255 _ c.if-message-gt255.false) (header_passed c.args.header c.in_ok-check_header.ensures c.check_identity.ensures)
