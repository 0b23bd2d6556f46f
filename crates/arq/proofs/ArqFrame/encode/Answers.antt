-- `arq::ArqFrame::encode` meets its contract. Assumes nothing.
use Rattle.std.proofs.Common.{ap, ◌∙◌}
use Rattle.spach.specs.Refusal.{gives, number_of}
use Rattle.spach.proofs.Outcomes.{handed_on}
use Rattle.arq.specs.Frame.{begin_frame, continue_frame}
use Rattle.arq.specs.Encode.{by_kind}
use Rattle.arq.proofs.Checks.{encode_refused, encode_accepted}
use Rattle.arq.proofs.ArqFrame.encode.Goals as goal

pub returns-in_err-check_encode : goal.returns-in_err-check_encode
returns-in_err-check_encode c = handed_on number_of c.from_residual.result c.from_residual.ensures.1 ∙ encode_refused c.args.self c.in_err-check_encode.ensures

pub returns-in-Begin : goal.returns-in-Begin
returns-in-Begin c =
    let f = c.args.self in
    encode_accepted f c.in_ok-check_encode.ensures
    (ap (λ k. by_kind k (gives (begin_frame f)) (gives (continue_frame f))) c.in-Begin.is) c.begin-octets.ensures

pub returns-in-Continue : goal.returns-in-Continue
returns-in-Continue c =
    let f = c.args.self in
    encode_accepted f c.in_ok-check_encode.ensures
    (ap (λ k. by_kind k (gives (begin_frame f)) (gives (continue_frame f))) c.in-Continue.is) c.continue_frame-octets.ensures
