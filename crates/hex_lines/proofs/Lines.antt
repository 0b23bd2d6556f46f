-- Laws on lines that a loop puts one at a time, in hex or not. Assumes nothing.
use Rattle.std.proofs.Common.{◌≡◌, ℕ, suc, ◌+◌, ◌/◌, ◌<◌, ◌≤◌, ◌-◌, List, [], ◌∷◌, ◌++◌, length, take, drop, min, arith, ap, append_assoc, append-nil, length-append, inl, inr, take_at, drop_at, take_all, drop_of_length-le, drop-drop}
use Rattle.std.proofs.lemmas.Bool.{cases_lt}
use Rattle.std.proofs.lemmas.List.{nil_from_length}
use Rattle.hex.specs.Hex.{encode_lower}
use Rattle.hex_lines.specs.Hex.{lines_of, text_of}

-- what two lists share from i on they share from any later place on
pub drop_later : (xs ys : List ℕ) (i j : ℕ) → i ≤ j → drop i xs ≡ drop i ys → drop j xs ≡ drop j ys
drop_later xs ys i j h e =
    let later : i + (j - i) ≡ j = omega arith in
    rw (drop-drop (j - i) i xs, drop-drop (j - i) i ys, later) at (ap (drop (j - i)) e)

-- the first 32 octets, and the others; none if those are fewer
split : (line rest : List ℕ) → length line ≡ min 32 (length (line ++ rest)) → (take 32 (line ++ rest) ≡ line) × (drop 32 (line ++ rest) ≡ rest)
split line rest n =
    let all = length-append line rest in
    elim (cases_lt (length line) 32) [
      | inl short ↦
          let none : rest ≡ [] = nil_from_length rest (omega arith) in
          rw (none, append-nil) (take_all 32 line (omega arith), drop_of_length-le line {i = 32} (omega arith))
      | inr full ↦ (take_at line rest 32 (omega arith), drop_at line rest 32 (omega arith))
    ]

-- the text of the first line, and of the others
text_of-append : (line rest : List ℕ) → length line ≡ min 32 (length (line ++ rest)) → 0 < length (line ++ rest)
    → encode_lower line ++ (10 ∷ []) ++ text_of rest ≡ text_of (line ++ rest)
unfolding text_of lines_of
text_of-append line rest n h =
    let all = length-append line rest in
    let count : (length (line ++ rest) + 31) / 32 ≡ suc ((length rest + 31) / 32) = omega arith in
    let parts = split line rest n in
    rw (count, parts.0, parts.1)

-- a line more
pub text_more : (before after xs line rest : List ℕ) → after ≡ before ++ encode_lower line ++ (10 ∷ []) → xs ≡ line ++ rest → length line ≡ min 32 (length xs) → 0 < length xs
    → after ++ text_of rest ≡ before ++ text_of xs
text_more before after xs line rest e parts n h =
    rw (e, parts) (simp append_assoc (ap (λ t. before ++ t) (simp append_assoc at (text_of-append line rest (rw parts at n) (rw parts at h)))))
