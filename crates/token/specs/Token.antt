-- 01, "What changes shape": tokens come from a rising 64-bit counter; each constructor takes the first number, each
-- `Arc::new` of the Rust the next. Assumes nothing.
use Rattle.std.specs.Prelude.{Bool, ℕ, ◌+◌, ◌-◌, min, ltb}

-- where the counter stops: 2^64 − 1
abbrev pub stop : ℕ
stop = 18446744073709551615

-- the number after n
abbrev pub number_after : ℕ → ℕ
number_after n = min (n + 1) stop

-- whether fewer than k tokens are left: 2^64 − 1 less the next
abbrev pub fewer_than : ℕ → ℕ → Bool
fewer_than k next = ltb (stop - next) k
