-- `hex_lines::hex` meets its contract. Assumes nothing.
use Rattle.std.proofs.Common.{◌≡◌, [], ◌∷◌, ◌++◌, ◌+◌, ◌*◌, length, take, arith, rules, sym, ap, ◌∙◌, append-nil, append_assoc, length-append}
use Rattle.std.proofs.lemmas.List.{nil_from_length}
use Rattle.std.proofs.lemmas.Slice.{take-put_mid, drop-put_mid}
use Rattle.hex.specs.Hex.{encode_lower}
use Rattle.hex_lines.specs.Hex.{lines_of, text_of}
use Rattle.hex_lines.proofs.Lines.{drop_later, text_more}
use Rattle.hex_lines.proofs.hex.Goals as goal

pub loop-part-preserved : goal.loop-part-preserved
loop-part-preserved c =
    let at = c.loop-part.invariant in
    let part = c.in-Some.part.now in
    let steps = c.in-Some.ensures.steps in
    let size = rw at.size at steps.1.1 in
    let all = ap length steps.1.0 ∙ length-append part _ in
    let count : c.len.result ≡ 2 * length part + 1 = search rules in
    let line : c.copy_from_slice.new.self ≡ encode_lower part ++ (10 ∷ []) = search rules in
    let put = take-put_mid c.loop-part.to _ c.loop-part.text c.copy_from_slice.new.self (c.loop-part.to + c.len.result) (search rules) (omega (arith, at.room, c.requires)) in
    let kept = drop-put_mid c.loop-part.to _ c.loop-part.text c.copy_from_slice.new.self (c.loop-part.to + c.len.result) (search rules) (omega (arith, at.room, c.requires)) (search rules) in
    let after = put ∙ ap (λ l. take c.loop-part.to c.loop-part.text ++ l) line ∙ sym (append_assoc (take c.loop-part.to c.loop-part.text) (encode_lower part) (10 ∷ [])) in record {
      can_next = search rules;
      ends = tt;
      size = search rules;
      room = omega (arith, at.room, count, all, size, steps.1.2);
      text = text_more _ _ _ part _ after steps.1.0 size steps.1.2 ∙ at.text;
      rest = kept ∙ drop_later _ _ c.loop-part.to (c.loop-part.to + c.len.result) (omega arith) at.rest;
    }

pub returns : goal.returns
unfolding text_of lines_of
returns c =
    let none = nil_from_length _ c.in-None.ensures.steps.1.0 in record {
      most = omega (arith, c.loop-part.invariant.room);
      rest = c.loop-part.invariant.rest;
      text = rw (none, append-nil) at c.loop-part.invariant.text;
    }
