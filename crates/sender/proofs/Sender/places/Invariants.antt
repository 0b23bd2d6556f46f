-- `sender::Sender::places` meets its contract. Assumes nothing.
use Rattle.std.proofs.Common.{◌≡◌, ℕ, ◌<◌, false, eqb, get_or, length, take}
use Rattle.transfer.specs.Lists.{any}
use Rattle.sender.proofs.Sender.places.Given as goal

abbrev pub invariant-loop-x : goal.invariant-loop-x
invariant-loop-x l = (length l.taken ≡ 128) × ((k : ℕ) → k < 128 → get_or l.taken k false ≡ any (λ x. eqb x.parcel.n k) (take l.x-index l.x-items))
