-- `field::any_set` meets its contract. The invariant: none of the bits passed is set. Assumes nothing.
use Rattle.std.proofs.Common.{◌≡◌, ◌-◌, ◌≤◌, false, take, drop}
use Rattle.field.specs.Bits.{bits_of}
use Rattle.field.specs.Layout.{any_set}
use Rattle.field.proofs.any_set.Given as goal

abbrev pub invariant-loop-k : goal.invariant-loop-k
invariant-loop-k l = (l.k ≤ l.n) × (any_set (take l.k (drop l.o (bits_of l.s))) ≡ false)

abbrev pub decreases-loop-k : goal.decreases-loop-k
decreases-loop-k l = l.n - l.k
