-- `hex_lines::put_lines` meets its contract. Assumes nothing.
use Rattle.std.proofs.Common.{[], ◌∷◌, ◌++◌, length, arith, rules, ap, ◌∙◌, append-nil, length-append}
use Rattle.std.proofs.lemmas.List.{nil_from_length}
use Rattle.hex_lines.specs.Hex.{lines_of, text_of}
use Rattle.hex_lines.proofs.Lines.{text_more}
use Rattle.hex_lines.proofs.put_lines.Goals as goal

pub loop-line-preserved : goal.loop-line-preserved
loop-line-preserved g c =
    let steps = c.in-Some.ensures.steps in
    let size = c.loop-line.invariant.size in
    let all = ap length steps.1.0 ∙ length-append c.in-Some.line.now _ in
    let after = c.push.ensures.items ∙ ap (λ t. t ++ (10 ∷ [])) c.put_digits.ensures.items in record {
      can_next = search rules;
      ends = tt;
      size = search rules;
      room = omega (arith, c.loop-line.invariant.room, c.push.ensures.len, c.put_digits.ensures.len, all, steps.1.2);
      text = text_more c.loop-line.text.items _ _ c.in-Some.line.now _ after steps.1.0 (rw size at steps.1.1) steps.1.2 ∙ c.loop-line.invariant.text;
    }

pub returns : goal.returns
unfolding text_of lines_of
returns g c =
    let none = nil_from_length _ c.in-None.ensures.steps.1.0 in
    rw (none, append-nil) at c.loop-line.invariant.text
