-- `arq::cut::fragment_count` meets its contract. Assumes nothing.
use Rattle.std.proofs.Common.{◌∙◌}
use Rattle.spach.specs.Refusal.{number_of}
use Rattle.spach.proofs.Outcomes.{handed_on}
use Rattle.arq.proofs.Fragments.{count_refused, count_given}
use Rattle.arq.proofs.cut.fragment_count.Goals as goal

pub returns-in_err-check_cut : goal.returns-in_err-check_cut
returns-in_err-check_cut c =
    let a = c.args in
    handed_on number_of c.from_residual.result c.from_residual.ensures.1 ∙ count_refused a.header a.identity a.message.now c.in_err-check_cut.ensures

pub returns : goal.returns
returns c =
    let a = c.args in
    count_given a.header a.identity a.message.now c.frames_of.ensures c.in_ok-check_cut.ensures
