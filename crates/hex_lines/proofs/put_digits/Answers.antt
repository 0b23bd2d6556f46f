-- `hex_lines::put_digits` meets its contract. Assumes nothing.
use Rattle.std.proofs.Common.{◌≡◌, ℕ, ◌+◌, ◌<◌, List, [], ◌∷◌, ◌++◌, length, take, get_or, refl, ap, ◌∙◌, append_assoc, rules}
use Rattle.std.proofs.lemmas.List.{take_more}
use Rattle.hex.specs.Hex.{encode_with, encode_lower, lower_digits}
use Rattle.hex_lines.proofs.put_digits.Goals as goal

encode_with-append : (t xs ys : List ℕ) → encode_with t (xs ++ ys) ≡ encode_with t xs ++ encode_with t ys
unfolding encode_with
encode_with-append t [] ys = refl
encode_with-append t (x ∷ xs) ys = rw (encode_with-append t xs ys)

-- an octet more
encode_lower-more : (xs : List ℕ) (i : ℕ) → i < length xs → encode_lower (take (i + 1) xs) ≡ encode_lower (take i xs) ++ encode_lower (get_or xs i 0 ∷ [])
encode_lower-more xs i h = ap encode_lower (take_more xs i 0 h) ∙ encode_with-append lower_digits (take i xs) (get_or xs i 0 ∷ [])

pub loop-octet-init : goal.loop-octet-init
unfolding encode_with
loop-octet-init g c = search rules

pub loop-octet-preserved : goal.loop-octet-preserved
loop-octet-preserved g c =
    let more = encode_lower-more c.args.octets.now c.loop-octet.octet-index c.loop-octet-test.true in
    record {
      length = search rules;
      digits =
          let written : c.encode_to_slice.new.output ≡ encode_lower (get_or c.args.octets.now c.loop-octet.octet-index 0 ∷ []) = search rules in
          let appended : c.try_extend_from_slice.new.self.items ≡ c.loop-octet.text.items ++ c.encode_to_slice.new.output = search rules in
          cc (append_assoc c.args.text.now.items (encode_lower (take c.loop-octet.octet-index c.args.octets.now)) (encode_lower (get_or c.args.octets.now c.loop-octet.octet-index 0 ∷ [])));
    }
