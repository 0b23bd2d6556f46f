-- `field::load` meets its contract: eight octets are read at once, fewer are shifted in. Assumes nothing.
use Rattle.std.proofs.Common.{◌≡◌, ◌*◌, ◌%◌, ◌^◌, bit_or, fold, ap, ◌∙◌, arith, w64, rules}
use Rattle.std.specs.Int.{from_be_bytes}
use Rattle.field.proofs.Window.{be-value, fold-value}
use Rattle.field.proofs.load.Goals as goal

pub returns-in-Ok : goal.returns-in-Ok
returns-in-Ok c =
    let w = c.in-Ok.ensures.1 in
    c.from_be_bytes.ensures ∙ ap (from_be_bytes w64) w.same ∙ be-value c.args.octets.now w.long (λ i. (c.type_inv.octets i).fits)

pub returns-in-Err : goal.returns-in-Err
returns-in-Err c =
    let e : c.fold.result ≡ fold (λ a x. bit_or ((a * 2 ^ 8) % 2 ^ 64) x) 0 c.args.octets.now = search rules in
    e ∙ fold-value c.args.octets.now 0 (λ i. (c.type_inv.octets i).fits) (omega arith) (omega arith) ∙ omega arith
