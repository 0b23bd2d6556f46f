-- `arq::cut::fragment` meets its contract. Assumes nothing.
use Rattle.std.proofs.Common.{◌≡◌, suc, ◌-◌, sym, ap, ◌∙◌, arith}
use Rattle.spach.specs.Refusal.{number_of}
use Rattle.spach.proofs.Outcomes.{handed_on}
use Rattle.arq.specs.Cut.{cut_frame}
use Rattle.arq.proofs.Fragments.{frame_refused, frame_past, frame_cut}
use Rattle.arq.proofs.cut.fragment.Goals as goal

pub returns-in_err-check_cut : goal.returns-in_err-check_cut
returns-in_err-check_cut c =
    let a = c.args in
    handed_on number_of c.from_residual.result c.from_residual.ensures.1 ∙ frame_refused a.header a.identity a.message.now a.k c.in_err-check_cut.ensures

pub returns-then-frames_of-k : goal.returns-then-frames_of-k
returns-then-frames_of-k c =
    let a = c.args in
    frame_past a.header a.identity a.message.now a.k c.frames_of.ensures c.in_ok-check_cut.ensures c.if-frames_of-k.true

pub returns-then-k-eq0 : goal.returns-then-k-eq0
returns-then-k-eq0 c =
    let a = c.args in
    frame_cut a.header a.identity a.message.now a.k c.frames_of.ensures c.in_ok-check_cut.ensures c.if-frames_of-k.false
    (c.begin_of.ensures ∙ ap (cut_frame a.header a.identity a.message.now) (sym c.if-k-eq0.true))

pub returns-else-k-eq0 : goal.returns-else-k-eq0
returns-else-k-eq0 c =
    let a = c.args in
    let e : suc (a.k - 1) ≡ a.k = omega arith in
    frame_cut a.header a.identity a.message.now a.k c.frames_of.ensures c.in_ok-check_cut.ensures c.if-frames_of-k.false
    (c.continue_of.ensures ∙ ap (cut_frame a.header a.identity a.message.now) e)
