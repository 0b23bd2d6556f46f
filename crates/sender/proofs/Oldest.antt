-- The search for the oldest that has come to a place. Assumes nothing.
use Rattle.std.proofs.Common.{ℕ, List, map, drop}
use Rattle.transfer.specs.Refresh.{oldest_from}

-- the answer of a search that has come to place i
abbrev pub oldest_on : {A : Type 0} (age : A → ℕ) (s : List A) (best top i : ℕ) → ℕ
oldest_on age s best top i = oldest_from best top i (map age (drop i s))
