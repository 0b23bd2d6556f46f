-- `sender::table::Table::oldest` meets its contract. Assumes nothing.
use Rattle.std.proofs.Common.{◌≡◌, ◌<◌, IfSome, length, unwrap_or}
use Rattle.sender.proofs.Oldest.{oldest_on}
use Rattle.transfer.specs.Refresh.{age_of}
use Rattle.sender.proofs.table.Table.oldest.Given as goal

abbrev pub invariant-loop-i : goal.invariant-loop-i
invariant-loop-i l =
    let age = age_of l.self.clock.last_block in
    let n = length l.x-items in
    IfSome l.oldest (λ k. k < l.i) × (oldest_on age l.x-items n 16 0 ≡ oldest_on age l.x-items (unwrap_or l.oldest n) l.top l.i)
