-- The protocol's tables of operations. A row has the op octet, the octets of the operands, and those of the longest
-- answer, the number octet with them. Assumes nothing.
use Rattle.std.specs.Prelude.{◌≡◌, ◌≢◌, ℕ, Result, Ok, Err}
use Rattle.script_wire.specs.declared.run.Unknown.{Unknown}

-- the operation that an octet names, or that no row has the octet
abbrev pub Names : {Op : Type 0} → (Op → ℕ × ℕ × ℕ) → ℕ → Result Op Unknown → Type 0
Names row octet (Ok op) = (row op).0 ≡ octet
Names row octet (Err unknown) = (op : _) → (row op).0 ≢ octet
