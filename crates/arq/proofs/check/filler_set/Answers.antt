-- `arq::check::filler_set` meets its contract. Assumes nothing.
use Rattle.std.proofs.Common.{◌-◌, ◌≤◌, length, take, drop, sym, ap, ◌∙◌, arith, length-take, drop-drop, le-ltb}
use Rattle.field.specs.Bits.{bits_of}
use Rattle.field.specs.Layout.{any_set}
use Rattle.field.proofs.Set.{any_set_none, drop-take}
use Rattle.arq.proofs.check.filler_set.Goals as goal

pub returns-then-end-n : goal.returns-then-end-n
returns-then-end-n c =
    let a = c.args in
    let bs = bits_of a.octets.now in
    c.any_set.ensures ∙ ap (λ l. any_set (take (a.n - a.end) l)) (sym (drop-drop a.end a.o bs)) ∙ ap any_set (sym (drop-take a.end a.n (drop a.o bs)))

pub returns-else-end-n : goal.returns-else-end-n
returns-else-end-n c =
    let a = c.args in
    let bs = drop a.o (bits_of a.octets.now) in
    let l : length (take a.n bs) ≤ a.end = omega (arith, length-take a.n bs) in
    le-ltb a.end a.n (omega arith) ∙ sym (any_set_none a.end (take a.n bs) l)
