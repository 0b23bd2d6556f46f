-- Text in a lent buffer: what a call wrote. Assumes nothing.
use Rattle.std.specs.Prelude.{◌≡◌, List, ◌++◌, ℕ, ◌+◌, length, take, drop}

-- a call wrote x from place i on and nothing else; it answers the place after x
pub record Wrote (before after : List ℕ) (i end : ℕ) (x : List ℕ) : Type 0 where
  pub text : after ≡ take i before ++ x ++ drop end before
  pub place : end ≡ i + length x
