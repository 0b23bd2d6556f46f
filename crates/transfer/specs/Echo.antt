-- 01, module 6: echoes are sought from `next_echo` round 0 to 127, free when held until now or earlier.
-- Believe `free` and `around`, whose first free one is `free_echo`, and `held_until` and `hold`: until when an echo is held. Assumes nothing.
use Rattle.std.specs.Prelude.{Bool, cond, List, ◌++◌, ℕ, ◌+◌, ◌%◌, leb, ltb, take, drop, set}
use Rattle.std.specs.Prelude.{Option, None, Some}
use Rattle.transfer.specs.Constants.{echo_values}
use Rattle.transfer.specs.Lists.{position}
use Rattle.transfer.specs.State.{Limits, Echoes}

-- free: held until now or earlier
abbrev pub free : (now until : ℕ) → Bool
free now until = leb until now

-- the holds in the order of the search: from `next_echo` on, then from 0
abbrev pub around : Echoes → List ℕ
around e = drop e.next_echo e.echo_until_ms ++ take e.next_echo e.echo_until_ms

-- the first free echo of the search
unfoldable pub free_echo : Echoes → (now : ℕ) → Option ℕ
free_echo e now =
    let offset = position (free now) (around e) in
    cond (ltb offset echo_values) (Some ((e.next_echo + offset) % echo_values)) None

-- deadline plus guard: until then an echo is held
abbrev pub held_until : Limits → (deadline : ℕ) → ℕ
held_until l deadline = deadline + l.echo_guard_ms

-- an echo is held until then, and the next search starts behind it
abbrev pub hold : Echoes → (echo until : ℕ) → Echoes
hold e echo until = record { echo_until_ms = set e.echo_until_ms echo until; next_echo = (echo + 1) % echo_values }
