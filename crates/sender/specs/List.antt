-- What a contract sees of a `FixedList`: its elements. Believe `Items`. The two laws show that they tell all of it. Assumes nothing.
use Rattle.std.specs.Prelude.{◌≡◌, refl, ℕ, ◌-◌, ◌≤◌, List, ◌++◌, length, take, drop, replicate}
use Rattle.std.specs.Coded.{Coded, code_by, coded_list}
use Rattle.std.proofs.Common.{ap, sym, ◌∙◌, subst}
use Rattle.std.proofs.lemmas.List.{length-take-le, take-append-drop}

-- the elements, in order
pub record Items (T : Type 0) : Type 0 where
  pub items : List T

-- they are stored as their list
abbrev pub items_code : {T : Type 0} → Coded T → Coded (Items T)
items_code {T} code = code_by (List T) (coded_list code) (λ v. v.items) (λ l. record { items = l }) (λ _. refl)

-- the first len of n places are len
pub counted : {T : Type 0} (n len : ℕ) (places : List T) → len ≤ n → length places ≡ n → length (take len places) ≡ len
counted n len places within size = length-take-le len places (subst (λ m. len ≤ m) (sym size) within)

-- where the others are blank, they and blanks are all n
pub filled : {T : Type 0} (n len : ℕ) (places : List T) (blank : T) → len ≤ n → length places ≡ n → drop len places ≡ replicate (n - len) blank
    → take len places ++ replicate (n - length (take len places)) blank ≡ places
filled n len places blank within size rest =
    ap (λ m. take len places ++ replicate (n - m) blank) (counted n len places within size)
    ∙ (ap (λ l. take len places ++ l) (sym rest) ∙ take-append-drop len places)
