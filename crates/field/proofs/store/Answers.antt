-- `field::store` meets its contract: both copy the last octets of x. Assumes nothing.
use Rattle.std.proofs.Common.{◌-◌, ◌*◌, length, take, drop, sym, ap, ◌∙◌}
use Rattle.field.specs.Bits.{bits, bits_of}
use Rattle.field.proofs.Put.{be-bits, last_octets}
use Rattle.field.proofs.store.Goals as goal

pub returns-then-n-eq8 : goal.returns-then-n-eq8
returns-then-n-eq8 c = ap bits_of (c.copy_from_slice.ensures.after ∙ c.to_be_bytes-bytes.ensures) ∙ be-bits 8 c.args.x ∙ ap (λ n. bits (8 * n) c.args.x) (sym c.if-n-eq8.true)

pub returns-else-n-eq8 : goal.returns-else-n-eq8
returns-else-n-eq8 c =
    let n = length c.args.octets.now in
    ap bits_of
    (c.copy_from_slice-else-n-eq8.ensures.after
    ∙ ap (λ l. take (8 - (8 - n)) (drop (8 - n) l)) c.to_be_bytes-bytes.ensures
    ∙ last_octets n c.args.x c.requires)
    ∙ be-bits n c.args.x
