-- Laws of outcomes, and of answers read by number. Assumes nothing.
use Rattle.std.proofs.Common.{◌≡◌, ℕ, Bool, true, false, Ok, Err, Result, refl, ap, ◌∙◌, arith}
use Rattle.std.specs.Result.{IsErrAnd}
use Rattle.std.proofs.lemmas.Result.{err_from_is_err_and}
use Rattle.spach.specs.Refusal.{Outcome, gives, refuses, refuse, and_then, by_number, After, onward}

-- what gives a value past a test: the test does not hold, and the rest gives that value
pub passed : {A : Type 0} (t : Bool) (n : ℕ) (o : Outcome A) {a : A} → refuse t n o ≡ gives a → (t ≡ false) × (o ≡ gives a)
passed true n o e = let z : ◌≡◌ {A = ℕ} 0 1 = cc in absurd (omega arith)
passed false n o e = (refl, e)

-- what gives a value after another outcome: that one gives a value too, which goes on to it
pub then-gives : {A B : Type 0} (o : Outcome A) (f : A → Outcome B) {b : B} → and_then o f ≡ gives b → (a : A) × (o ≡ gives a) × (f a ≡ gives b)
then-gives (gives a) f e = (a, refl, e)
then-gives (refuses n) f e = let z : ◌≡◌ {A = ℕ} 0 1 = cc in absurd (omega arith)

-- outcomes that are equal give the same value
pub gives_same : {A : Type 0} {a b : A} → gives a ≡ gives b → a ≡ b
gives_same e = cc

-- and outcomes that refuse refuse by the same number
pub refuses_same : {A : Type 0} {m n : ℕ} → ◌≡◌ {A = Outcome A} (refuses m) (refuses n) → m ≡ n
refuses_same e = cc

-- an answer whose reading gives a value is that value
pub given : {A E : Type 0} (number : E → ℕ) (r : Result A E) {a : A} → by_number number r ≡ gives a → r ≡ Ok a
given number (Ok b) e = ap Ok (gives_same e)
given number (Err x) e = let z : ◌≡◌ {A = ℕ} 0 1 = cc in absurd (omega arith)

-- and one whose reading refuses is an error of that number
pub refused : {A E : Type 0} (number : E → ℕ) (r : Result A E) {n : ℕ} → by_number number r ≡ refuses n → (x : E) × (r ≡ Err x) × (number x ≡ n)
refused number (Ok b) e = let z : ◌≡◌ {A = ℕ} 0 1 = cc in absurd (omega arith)
refused number (Err x) e = (x, refl, refuses_same e)

-- where a `?` returns: what it hands on refuses by the number of what came to it
pub handed : {A E : Type 0} (number : E → ℕ) (r : Result A E) {Q : E → Type 0} {n : ℕ} → IsErrAnd r Q → ((x : E) → Q x → number x ≡ n) → by_number number r ≡ refuses n
handed number r h q = let p = err_from_is_err_and r h in ap (by_number number) p.1 ∙ ap refuses (q p.0 p.2)

-- and where the error goes on as it is
pub handed_on : {A E : Type 0} (number : E → ℕ) (r : Result A E) {y : E} → IsErrAnd r (λ x. x ≡ y) → by_number number r ≡ refuses (number y)
handed_on number r h = handed number r h (λ x e. ap number e)

-- a law of what a call leaves holds if it holds of the state as it was and of all that the call goes on to
pub onward_cases : {A S : Type 0} (P : S → Type 0) (s : S) (o : Outcome S) (f : S → After A S) → P s → ((t : S) → o ≡ gives t → P (f t).state) → P (onward s o f).state
onward_cases P s (gives t) f h k = k t refl
onward_cases P s (refuses n) f h k = h
