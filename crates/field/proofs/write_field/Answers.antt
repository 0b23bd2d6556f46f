-- `field::write_field` meets its contract. Assumes nothing.
use Rattle.std.proofs.Common.{◌≡◌, ◌+◌, ◌-◌, ◌*◌, ap, ◌∙◌, arith}
use borrow.Rule.Slice.PartMut.{same_len_mid}
use Rattle.field.specs.Bits.{bits, bits_of, put}
use Rattle.field.proofs.Laws.{from_bits}
use Rattle.field.proofs.Window.{window, window_holds}
use Rattle.field.proofs.Put.{write_law, mid-put, length-mid}
use Rattle.field.proofs.write_field.Goals as goal

pub returns : goal.returns
returns c =
    let a = c.args in
    let n = c.min-n in
    let f = c.window_start-first in
    let h = window_holds a.s.now a.o a.w n.result f.result c.requires n.ensures f.ensures in
    let e : f.result + n.result - f.result ≡ n.result = omega arith in
    let l = length-mid a.s.now f.result (f.result + n.result - f.result) (omega arith) in
    let b =
    mid-put a.s.now c.store.new.octets f.result (f.result + n.result - f.result) c.exchange.result (c.store.ensures ∙ ap (λ m. bits (8 * m) c.exchange.result) l)
    ∙ ap (λ m. put (8 * f.result) (8 * m) c.exchange.result (bits_of a.s.now)) e
    ∙ write_law a.s.now a.o a.w a.v f.result n.result h (c.load.ensures ∙ ap (window a.s.now f.result) e) c.exchange.ensures in
    record { as_bits = b; as_octets = from_bits _ _ _ (λ i. (c.type_inv.s i).fits) (same_len_mid f.result (f.result + n.result - f.result) a.s.now c.store.new.octets c.store.auto.octets) b }
