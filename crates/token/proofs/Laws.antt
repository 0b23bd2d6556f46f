-- The counter: it rises by one and stops at 2^64 − 1. Assumes nothing.
use Rattle.std.proofs.Common.{◌≡◌, ℕ, ◌+◌, ◌-◌, ◌^◌, ◌<◌, ◌≤◌, true, ◌↔◌, refl, arith, ltb-true, lt-ltb}
use Rattle.token.specs.Token.{stop, number_after, fewer_than}

-- the number at which it stops
pub stop_is : stop ≡ 2 ^ 64 - 1
stop_is = refl

-- below it each number is followed by the next
pub rises : (n : ℕ) → n < stop → number_after n ≡ n + 1
rises n h = omega arith

-- and it stays there
pub stays : number_after stop ≡ stop
stays = refl

-- fewer than k tokens are left exactly if k numbers on is past the stop
pub fewer_exactly : (k n : ℕ) → n ≤ stop → (fewer_than k n ≡ true) ↔ (stop < n + k)
fewer_exactly k n l = (λ e. let h = ltb-true (stop - n) k e in omega arith, λ h. lt-ltb (stop - n) k (omega arith))
