-- `arq::write::with_rest` meets its contract. Assumes nothing.
use Rattle.std.proofs.Common.{◌+◌, refl, ap, ◌∙◌, arith}
use Rattle.field.specs.Bits.{bits_of, put}
use Rattle.field.proofs.Laws.{repack, length-bits_of}
use Rattle.arq.specs.Frame.{rest_of}
use Rattle.arq.proofs.Written.{put-layout, put_more}
use Rattle.arq.proofs.write.with_rest.Goals as goal

pub returns : goal.returns
returns c =
    let a = c.args in
    let e = c.with_field-g.ensures.as_bits ∙ put-layout a.o (rest_of a.header) (bits_of a.f) c.rest_number.ensures in
    repack c.with_field.ensures
    (ap (put (a.o + 11) a.w a.last) e
    ∙ put_more a.o (a.o + 11) a.w a.last (rest_of a.header) (bits_of a.f) refl (omega (arith, length-bits_of a.f)))
