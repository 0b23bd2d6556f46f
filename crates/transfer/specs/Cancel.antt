-- 01, module 6: `cancel`, `cancel_transaction` and `cancel_all`. They never refuse, and have no clock. Believe each: they are the
-- Rust's lines. Assumes nothing.
use Rattle.std.specs.Prelude.{Bool, true, false, [], ◌++◌, map, eqb}
use Rattle.std.specs.Prelude.{None}
use Rattle.rach.specs.declared.MobileIdentity.{MobileIdentity}
use Rattle.spach.specs.Refusal.{After}
use Rattle.transfer.specs.declared.TransferToken.{TransferToken}
use Rattle.transfer.specs.declared.Transfer.{Transfer}
use Rattle.transfer.specs.State.{View, with_transfers, with_events, with_selected, says, seek, cancels, event_of, cancel_at}
use Rattle.transfer.specs.Enqueue.{addressed}

-- the first transfer that passes is taken out, and Cancelled; whether there was one
abbrev pub cancel_first : (Transfer → Bool) → View → After Bool View
cancel_first p v = seek p v.transfers (says false v) (λ place x. says true (cancel_at v place x))

-- by identity
unfoldable pub cancel_of : View → MobileIdentity → After Bool View
cancel_of v i = cancel_first (addressed i) v

-- a transfer of the token that `enqueue` answered
abbrev pub owned_by : TransferToken → Transfer → Bool
owned_by t x = eqb x.parcel.owner.0 t.0

-- by that token
unfoldable pub cancel_transaction_of : View → TransferToken → After Bool View
cancel_transaction_of v t = cancel_first (owned_by t) v

-- all of them, in their order; nothing is selected any more
unfoldable pub cancel_all_of : View → View
cancel_all_of v = with_selected (with_transfers (with_events v (v.events ++ map (λ x. event_of x cancels) v.transfers)) []) None
