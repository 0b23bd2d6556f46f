-- `spach::read_address` meets its contract. Assumes nothing.
use Rattle.std.proofs.Common.{refl, ◌∙◌, arith}
use Rattle.field.specs.Bits.{bits_of}
use Rattle.spach.proofs.Laws.{part_read, address-bit, address_encrypted, address_identity}
use Rattle.spach.proofs.read_address.Goals as goal

pub returns-then-bits-ne0 : goal.returns-then-bits-ne0
returns-then-bits-ne0 c =
    let a = c.args in
    let part = part_read a.reader.offset 5 a.octets.now (omega arith) c.take-bits.ensures.value in
    address-bit a.reader.offset (bits_of a.octets.now) (part.at 2 1 (omega arith)) c.if-bits-ne0.true

pub returns-then-bits-ne0-2 : goal.returns-then-bits-ne0-2
returns-then-bits-ne0-2 c =
    let a = c.args in
    let part = part_read a.reader.offset 5 a.octets.now (omega arith) c.take-bits.ensures.value in
    address_encrypted a.reader.offset (bits_of a.octets.now) (part.at 2 1 (omega arith)) c.if-bits-ne0.false (part.last 4 refl) c.if-bits-ne0-2.true

pub returns : goal.returns
returns c =
    let a = c.args in
    let part = part_read a.reader.offset 5 a.octets.now (omega arith) c.take-bits.ensures.value in
    c.read_identity.ensures
    ∙ address_identity a.reader.offset (bits_of a.octets.now) (part.first 2 (omega arith)) (part.at 2 1 (omega arith)) c.if-bits-ne0.false (part.last 4 refl) c.if-bits-ne0-2.false
    (part.at 3 1 (omega arith)) c.take-bits.ensures.next
