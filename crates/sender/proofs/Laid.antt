-- Laws of the places of a list: its elements, and blanks behind them. Assumes nothing.
use Rattle.std.proofs.Common.{◌≡◌, ℕ, ◌+◌, ◌-◌, ◌<◌, ◌≤◌, List, [], ◌∷◌, ◌++◌, length, take, drop, set, replicate, sym, ap, ◌∙◌, arith, suc, length-append}
use Rattle.std.proofs.lemmas.List.{take_at, drop_at, set_at, append_assoc, length-replicate, length-take-le, length-drop, take-append-drop, take_rest, drop_all, append-nil, take-take, take-set-le, replicate-append-replicate, replicate_more, drop_more, length_push}

module _ {T : Type 0} (n : ℕ) (blank : T) where
  -- n places: len elements, and blanks
  abbrev pub Laid : ℕ → List T → Type 0
  Laid len places = (len ≤ n) × (length places ≡ n) × (drop len places ≡ replicate (n - len) blank)

  -- these elements, and blanks
  pub laid : (len : ℕ) (l places : List T) → length l ≡ len → len ≤ n → places ≡ l ++ replicate (n - len) blank → Laid len places
  laid len l places long le e =
      let blanks = length-replicate (n - len) blank in
      (le, ap length e ∙ length-append l (replicate (n - len) blank) ∙ omega (arith, long, blanks), ap (drop len) e ∙ drop_at l (replicate (n - len) blank) len long)

  -- are those elements
  pub items_laid : (len : ℕ) (l places : List T) → length l ≡ len → places ≡ l ++ replicate (n - len) blank → take len places ≡ l
  items_laid len l places long e = ap (take len) e ∙ take_at l (replicate (n - len) blank) len long

  module _ (len : ℕ) (places : List T) (h : Laid len places) where
    -- how many
    pub long : length (take len places) ≡ len
    long = length-take-le len places (omega (arith, h.0, h.1))

    -- the places again
    pub parts : places ≡ take len places ++ replicate (n - len) blank
    parts = sym (take-append-drop len places) ∙ ap (λ l. take len places ++ l) h.2

    -- one fewer blank
    one_fewer : len < n → replicate (n - len) blank ≡ blank ∷ replicate (n - (len + 1)) blank
    one_fewer lt = let e : n - len ≡ suc (n - (len + 1)) = omega arith in ap (λ k. replicate k blank) e

    -- one more element
    pub one_more : (x : T) → len < n → set places len x ≡ (take len places ++ x ∷ []) ++ replicate (n - (len + 1)) blank
    one_more x lt =
        let front = take len places in
        ap (λ l. set l len x) (parts ∙ ap (λ l. front ++ l) (one_fewer lt))
        ∙ set_at front blank (replicate (n - (len + 1)) blank) x len long
        ∙ sym (append_assoc front (x ∷ []) (replicate (n - (len + 1)) blank))

    -- its first a elements, and blanks in place of the later ones
    pub cut : (a : ℕ) (ys : List T) → a < len
        → ys ≡ replicate (length (take (length (take len places) - a) (drop a (take len places)))) blank
        → (take a (take len places) ++ (ys ++ drop (length (take len places) - a) (drop a (take len places)))) ++ drop len places
        ≡ take a places ++ replicate (n - a) blank
    cut a ys lt e =
        let front = take len places in
        let rest : length (drop a front) ≡ len - a = length-drop a front ∙ ap (λ m. m - a) long in
        let some : length (take (length front - a) (drop a front)) ≡ len - a = ap length (take_rest front a) ∙ rest in
        let none : drop (length front - a) (drop a front) ≡ [] = drop_all (length front - a) (drop a front) (omega (arith, rest, long)) in
        let all : (len - a) + (n - len) ≡ n - a = omega (arith, h.0) in
        ap (λ l. (take a front ++ (ys ++ l)) ++ drop len places) none
        ∙ ap (λ l. (take a front ++ l) ++ drop len places) (append-nil ys ∙ e ∙ ap (λ m. replicate m blank) some)
        ∙ ap (λ l. (l ++ replicate (len - a) blank) ++ drop len places) (take-take a len places (omega arith))
        ∙ append_assoc (take a places) (replicate (len - a) blank) (drop len places)
        ∙ ap (λ l. take a places ++ l) (ap (λ l. replicate (len - a) blank ++ l) h.2 ∙ replicate-append-replicate (len - a) (n - len) blank ∙ ap (λ m. replicate m blank) all)

-- a list without the one that went to its end, which is then blank: what is left of a part that begins with it
pub taken_out : {T : Type 0} (len : ℕ) (zs ys rest : List T) (x blank : T) → ys ≡ zs ++ x ∷ [] → length ys ≡ len → take (len - 1) (set (ys ++ rest) (len - 1) blank) ≡ zs
taken_out len zs ys rest x blank e long =
    let size : length zs ≡ len - 1 = let m = sym (length_push zs x) ∙ sym (ap length e) ∙ long in omega (arith, m) in
    take-set-le (len - 1) (ys ++ rest) (len - 1) blank (omega arith)
    ∙ ap (λ l. take (len - 1) (l ++ rest)) e
    ∙ ap (take (len - 1)) (append_assoc zs (x ∷ []) rest)
    ∙ take_at zs (x ∷ rest) (len - 1) size

-- one more place blank
pub blanked : {T : Type 0} (blank : T) (xs : List T) (i : ℕ) → i < length xs
    → set (replicate i blank ++ drop i xs) i blank ≡ replicate (i + 1) blank ++ drop (i + 1) xs
blanked blank xs i lt =
    let rest = drop (i + 1) xs in
    ap (λ l. set (replicate i blank ++ l) i blank) (drop_more xs i blank lt)
    ∙ set_at (replicate i blank) _ rest blank i (length-replicate i blank)
    ∙ sym (append_assoc (replicate i blank) (blank ∷ []) rest)
    ∙ ap (λ l. l ++ rest) (replicate_more i blank)
