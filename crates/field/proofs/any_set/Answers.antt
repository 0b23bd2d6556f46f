use Rattle.std.proofs.Common.{◌≡◌, ◌+◌, take, drop, sym, refl, ap, ◌∙◌, arith}
use Rattle.field.specs.Bits.{bits_of}
use Rattle.field.specs.Layout.{any_set}
use Rattle.field.proofs.Set.{none-set, one_set}
use Rattle.field.proofs.any_set.Goals as goal

pub loop-k-init : goal.loop-k-init
unfolding any_set
loop-k-init c = (omega arith, refl)

pub returns-then-read_field-ne0 : goal.returns-then-read_field-ne0
returns-then-read_field-ne0 c =
    let a = c.args in
    sym (one_set (bits_of a.s.now) a.o c.loop-k.k c.min.result c.read_field.ensures.value a.n (omega arith) c.if-read_field-ne0.true)

pub loop-k-preserved : goal.loop-k-preserved
loop-k-preserved c =
    let a = c.args in
    let e : c.loop-k.k + c.min.result ≡ c.loop-k.k + 50 = omega arith in
    (omega arith, ap (λ k. any_set (take k (drop a.o (bits_of a.s.now)))) (sym e) ∙ none-set (bits_of a.s.now) a.o c.loop-k.k c.min.result c.read_field.ensures.value c.loop-k.invariant.1 c.if-read_field-ne0.false)

pub returns : goal.returns
returns c =
    let a = c.args in
    let e : c.loop-k.k ≡ a.n = omega arith in
    sym c.loop-k.invariant.1 ∙ ap (λ k. any_set (take k (drop a.o (bits_of a.s.now)))) e

pub returns-else-read_field-ne0 : goal.returns-else-read_field-ne0
returns-else-read_field-ne0 c =
    let a = c.args in
    let e : c.loop-k.k + c.min.result ≡ a.n = omega arith in
    sym (none-set (bits_of a.s.now) a.o c.loop-k.k c.min.result c.read_field.ensures.value c.loop-k.invariant.1 c.if-read_field-ne0.false)
    ∙ ap (λ k. any_set (take k (drop a.o (bits_of a.s.now)))) e
