-- The readings of answers tell any two answers apart: nothing of an answer is left free. Assumes nothing.
use Rattle.std.proofs.Common.{◌≡◌, ℕ, cond, eqb, Ok, Err, Result, refl, ap, ap₂, arith}
use Rattle.spach.specs.contracts.ChannelPartialEq.TheImpl.{ghosts}
use Rattle.spach.specs.declared.Channel.{Channel}
use Rattle.spach.specs.declared.Channel.TheVariants.{Arch, Smsch, Pch}
use Rattle.spach.specs.Refusal.{by_number, left}
use Rattle.spach.specs.Header.{usage_of}
use Rattle.spach.proofs.Outcomes.{gives_same, refuses_same}
pub use Rattle.spach.specs.Apart.{apart, error_of, error_number, numbers_apart}

-- an answer is told by its reading, where its error's number tells the errors apart
module _ {A E : Type 0} (number : E → ℕ) (numbers : (a b : E) → number a ≡ number b → a ≡ b) where
  pub answers_apart : (a b : Result A E) → by_number number a ≡ by_number number b → a ≡ b
  answers_apart (Ok a) (Ok b) e = ap Ok (gives_same e)
  answers_apart (Ok a) (Err b) e = let z : ◌≡◌ {A = ℕ} 0 1 = cc in absurd (omega arith)
  answers_apart (Err a) (Ok b) e = let z : ◌≡◌ {A = ℕ} 0 1 = cc in absurd (omega arith)
  answers_apart (Err a) (Err b) e = ap Err (numbers a b (refuses_same e))

  -- and so are the state that a call hands back and its answer
  pub left_apart : {S : Type 0} (a b : S × Result A E) → left number a ≡ left number b → a ≡ b
  left_apart a b e = ap₂ (λ s r. (s, r)) (ap (λ x. x.state) e) (answers_apart a.1 b.1 (ap (λ x. x.outcome) e))

-- the channel of a usage
abbrev pub channel_by : ℕ → Channel
channel_by u = cond (eqb u 3) Arch (cond (eqb u 4) Smsch Pch)

pub usages_apart : (a b : Channel) → usage_of a ≡ usage_of b → a ≡ b
usages_apart = apart usage_of channel_by undo
  where
    undo : (a : Channel) → channel_by (usage_of a) ≡ a
    undo Arch = refl
    undo Smsch = refl
    undo Pch = refl

-- `==` on channels, which is derived, compares their usages
pub eq_usages : (a b : Channel) → ghosts.eq a b ≡ eqb (usage_of a) (usage_of b)
eq_usages Arch Arch = refl
eq_usages Arch Smsch = refl
eq_usages Arch Pch = refl
eq_usages Smsch Arch = refl
eq_usages Smsch Smsch = refl
eq_usages Smsch Pch = refl
eq_usages Pch Arch = refl
eq_usages Pch Smsch = refl
eq_usages Pch Pch = refl
