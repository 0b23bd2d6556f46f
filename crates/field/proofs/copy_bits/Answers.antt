-- `field::copy_bits` meets its contract. Assumes nothing.
use Rattle.std.proofs.Common.{◌≡◌, ◌+◌, take, drop, sym, refl, ap, ◌∙◌, arith}
use Rattle.field.specs.Bits.{bits_of, splice}
use Rattle.field.proofs.Laws.{from_bits}
use Rattle.field.proofs.Put.{splice-nil, copied}
use Rattle.field.proofs.copy_bits.Goals as goal

pub loop-k-init : goal.loop-k-init
loop-k-init c =
    let a = c.args in
    (omega arith, refl, (λ i. (c.type_inv.dst i).fits), sym (splice-nil a.d (bits_of a.dst.now)))

pub loop-k-preserved : goal.loop-k-preserved
loop-k-preserved c =
    let a = c.args in
    let k = c.loop-k.k in
    let w = c.min-w.result in
    let n : k + w ≡ k + 50 = omega arith in (
      omega arith,
      c.write_field.auto.s ∙ c.loop-k.invariant.1,
      (λ i. (c.type_inv.dst i).fits),
      copied a.dst.now c.loop-k.dst a.src.now c.write_field.new.s a.d a.o k w c.write_field.ensures.as_bits c.read_field.ensures.value c.loop-k.invariant.3 (omega arith) (omega arith)
          ∙ ap (λ k. splice a.d (take k (drop a.o (bits_of a.src.now))) (bits_of a.dst.now)) n,
    )

pub returns : goal.returns
returns c =
    let a = c.args in
    let n : c.loop-k.k ≡ a.n = omega arith in
    let b = c.loop-k.invariant.3 ∙ ap (λ k. splice a.d (take k (drop a.o (bits_of a.src.now))) (bits_of a.dst.now)) n in
    record { as_bits = b; as_octets = from_bits c.loop-k.dst _ _ c.loop-k.invariant.2 c.loop-k.invariant.1 b }

pub returns-2 : goal.returns-2
returns-2 c =
    let a = c.args in
    let k = c.loop-k.k in
    let w = c.min-w.result in
    let n : k + w ≡ a.n = omega arith in
    let b =
    copied a.dst.now c.loop-k.dst a.src.now c.write_field.new.s a.d a.o k w c.write_field.ensures.as_bits c.read_field.ensures.value c.loop-k.invariant.3 (omega arith) (omega arith)
    ∙ ap (λ k. splice a.d (take k (drop a.o (bits_of a.src.now))) (bits_of a.dst.now)) n in
    record { as_bits = b; as_octets = from_bits c.write_field.new.s _ _ (λ i. (c.type_inv.dst i).fits) (c.write_field.auto.s ∙ c.loop-k.invariant.1) b }
