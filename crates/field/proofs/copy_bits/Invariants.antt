-- `field::copy_bits` meets its contract. The invariant: the first k bits are copied. Assumes nothing.
use Rattle.std.proofs.Common.{◌≡◌, ◌-◌, ◌≤◌, length, take, drop}
use Rattle.field.specs.Bits.{Octets, bits_of, splice}
use Rattle.field.proofs.copy_bits.Given as goal

abbrev pub invariant-loop-k : goal.invariant-loop-k
invariant-loop-k l =
    (l.k ≤ l.n) × (length l.dst ≡ length l.initial.dst) × Octets l.dst × (bits_of l.dst ≡ splice l.d (take l.k (drop l.o (bits_of l.src))) (bits_of l.initial.dst))

abbrev pub decreases-loop-k : goal.decreases-loop-k
decreases-loop-k l = l.n - l.k
