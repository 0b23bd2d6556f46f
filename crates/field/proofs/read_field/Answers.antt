-- `field::read_field` meets its contract. Assumes nothing.
use Rattle.std.proofs.Common.{◌≡◌, ◌+◌, ◌-◌, ap, ◌∙◌, arith}
use Rattle.field.proofs.Window.{window, window_holds, read_law}
use Rattle.field.proofs.read_field.Goals as goal

pub returns-clause-value : goal.returns-clause-value
returns-clause-value c =
    let a = c.args in
    let n = c.min-n in
    let f = c.window_start-first in
    let h = window_holds a.s.now a.o a.w n.result f.result c.requires n.ensures f.ensures in
    let e : f.result + n.result - f.result ≡ n.result = omega arith in
    read_law a.s.now a.o a.w f.result n.result h (c.load.ensures ∙ ap (window a.s.now f.result) e)
