-- `sender::Sender::identity_for_echo` meets its contract. Assumes nothing.
use Rattle.std.proofs.Common.{None, Some}
use Rattle.transfer.specs.State.{of_echo}
use Rattle.transfer.specs.Queries.{identity_for_echo_of}
use Rattle.transfer.proofs.Placed.{seek_at, seek_none}
use Rattle.sender.specs.View.{view_of}
use Rattle.sender.proofs.Sender.identity_for_echo.Goals as goal

pub returns-in_err-place : goal.returns-in_err-place
unfolding identity_for_echo_of
returns-in_err-place c =
    let v = view_of c.self.inside.table in
    rw (c.from_residual.ensures, ← c.self.view_is) (seek_none (of_echo c.args.echo) v.transfers None (λ place x. Some x.parcel.identity) c.in_err-place.ensures.place)

pub returns : goal.returns
unfolding identity_for_echo_of
returns c =
    let v = view_of c.self.inside.table in
    rw (c.deref.ensures.0, ← c.self.view_is)
    (seek_at (of_echo c.args.echo) v.transfers None (λ place x. Some x.parcel.identity) c.in_ok-place.ensures.place)
