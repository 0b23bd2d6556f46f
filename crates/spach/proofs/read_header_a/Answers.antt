-- `spach::read_header_a` meets its contract. Assumes nothing.
use Rattle.std.proofs.Common.{sym, refl, ap, ◌∙◌, arith}
use Rattle.field.specs.Bits.{bits_of}
use Rattle.spach.specs.Refusal.{number_of}
use Rattle.spach.specs.Header.{channel_of}
use Rattle.spach.proofs.Outcomes.{handed_on}
use Rattle.spach.proofs.Laws.{part_read, header_a_usage, header_a_reserved, header_a_read}
use Rattle.spach.proofs.read_header_a.Goals as goal

pub returns-in_err-channel : goal.returns-in_err-channel
returns-in_err-channel c =
    let a = c.args in
    let part = part_read a.reader.offset 7 a.octets.now c.requires.inside c.take-bits.ensures.value in
    handed_on number_of c.from_residual.result c.from_residual.ensures.1
    ∙ header_a_usage a.reader.offset (bits_of a.octets.now) (ap channel_of (sym (part.first 3 (omega arith))) ∙ sym c.in_err-channel.ensures)

pub returns-then-bits-ne0 : goal.returns-then-bits-ne0
returns-then-bits-ne0 c =
    let a = c.args in
    let part = part_read a.reader.offset 7 a.octets.now c.requires.inside c.take-bits.ensures.value in
    header_a_reserved a.reader.offset (bits_of a.octets.now) (ap channel_of (sym (part.first 3 (omega arith))) ∙ sym c.in_ok-channel.ensures) (part.last 6 refl) c.if-bits-ne0.true

pub returns : goal.returns
returns c =
    let a = c.args in
    let part = part_read a.reader.offset 7 a.octets.now c.requires.inside c.take-bits.ensures.value in
    header_a_read a.reader.offset (bits_of a.octets.now) (ap channel_of (sym (part.first 3 (omega arith))) ∙ sym c.in_ok-channel.ensures)
    (part.at 3 1 (omega arith)) (part.at 4 1 (omega arith)) (part.at 5 1 (omega arith)) (part.last 6 refl) c.if-bits-ne0.false c.take-bits.ensures.next
