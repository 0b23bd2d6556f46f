-- `transfer::echo::Echoes::free_echo` meets its contract. Assumes nothing.
use Rattle.transfer.proofs.echo.Echoes.free_echo.Goals as goal
use Rattle.transfer.proofs.Placed.{offset_found, offset_none}

pub returns-in_err-offset-clause-echo : goal.returns-in_err-offset-clause-echo
returns-in_err-offset-clause-echo c =
    let v = c.self.invariant in
    rw (c.from_residual.ensures, ← c.self.view_is)
    (offset_none _ v.0 v.1 c.args.at c.split_at.ensures.back c.split_at.ensures.front c.offset_of_free.ensures.first c.in_err-offset.was)

pub returns-clause-echo : goal.returns-clause-echo
returns-clause-echo c =
    let v = c.self.invariant in
    rw (← c.self.view_is)
    (offset_found _ v.0 v.1 c.args.at c.split_at.ensures.back c.split_at.ensures.front c.offset_of_free.ensures.first c.in_ok-offset.was)
