-- `transfer::frame::packed_of` meets its contract. Assumes nothing.
use Rattle.std.proofs.Common.{◌∙◌}
use Rattle.spach.specs.Refusal.{number_of}
use Rattle.spach.proofs.Outcomes.{handed_on}
use Rattle.transfer.proofs.Framed.{cut_out, packed_by}
use Rattle.transfer.proofs.frame.packed_of.Goals as goal

pub returns-in_err-frame : goal.returns-in_err-frame
returns-in_err-frame c =
    let a = c.args in
    handed_on number_of c.from_residual.result c.from_residual.ensures.1
    ∙ packed_by a.x.now a.octets.now a.k a.polling (cut_out a.x.now a.octets.now c.from-start.ensures c.from.ensures) c.header_of-header.ensures c.in_err-frame.ensures

pub returns : goal.returns
returns c =
    let a = c.args in
    c.encode.ensures ∙ packed_by a.x.now a.octets.now a.k a.polling (cut_out a.x.now a.octets.now c.from-start.ensures c.from.ensures) c.header_of-header.ensures c.in_ok-frame.ensures
