-- `arq::read::decode` meets its contract. Assumes nothing.
use Rattle.std.proofs.Common.{ap, ◌∙◌}
use Rattle.field.specs.Bits.{bits_of, field}
use Rattle.spach.specs.Refusal.{number_of}
use Rattle.spach.specs.Header.{header_a_at}
use Rattle.spach.proofs.Outcomes.{handed_on}
use Rattle.arq.specs.Parts.{decode_usage}
use Rattle.arq.proofs.Decoded.{decode-length, decode_padding, decode-header}
use Rattle.arq.proofs.read.decode.Goals as goal

pub returns-in_default : goal.returns-in_default
returns-in_default c = decode-length c.args.octets.now c.in_default.ensures.1

pub returns-then-read_field-ne0 : goal.returns-then-read_field-ne0
returns-then-read_field-ne0 c =
    let w = c.in-Ok.ensures.1 in
    decode_padding c.args.octets.now w.long (c.read_field.ensures.value ∙ ap (λ l. field 109 3 (bits_of l)) w.same) c.if-read_field-ne0.true

pub returns-in_err-a : goal.returns-in_err-a
returns-in_err-a c =
    let w = c.in-Ok.ensures.1 in
    handed_on number_of c.from_residual.result c.from_residual.ensures.1
    ∙ decode-header c.args.octets.now w.long (c.read_field.ensures.value ∙ ap (λ l. field 109 3 (bits_of l)) w.same) c.if-read_field-ne0.false
    (c.in_err-a.ensures ∙ ap (λ l. header_a_at 0 (bits_of l)) w.same)

pub returns : goal.returns
returns c =
    let w = c.in-Ok.ensures.1 in
    c.decode_usage.ensures
    ∙ ap (λ l. decode_usage c.in_ok-a.a (bits_of l)) w.same
    ∙ decode-header c.args.octets.now w.long (c.read_field.ensures.value ∙ ap (λ l. field 109 3 (bits_of l)) w.same) c.if-read_field-ne0.false
    (c.in_ok-a.ensures ∙ ap (λ l. header_a_at 0 (bits_of l)) w.same)
