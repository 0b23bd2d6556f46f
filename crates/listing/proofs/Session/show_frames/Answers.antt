-- `listing::Session::show_frames` meets its contract. Assumes nothing.
use Rattle.std.proofs.Common.{◌≡◌, rules, arith, ap, ◌∙◌, length, length-append}
use Rattle.listing.specs.Session.{frames_of, after_of}
use Rattle.listing.proofs.Sessions.{going_more, after-runs}
use Rattle.listing.proofs.Session.show_frames.Goals as goal

pub loop-frame-preserved : goal.loop-frame-preserved
loop-frame-preserved g c =
    let at = c.loop-frame.invariant in
    let steps = c.in-Some.ensures.steps in
    let size = steps.1.1 ∙ at.size in
    let show = c.show_frame-self.ensures in
    let n = ap length steps.1.0 ∙ length-append c.in-Some.frame.now _ in record {
      can_next = search rules;
      ends = tt;
      size = search rules;
      room = omega (arith, at.room, show.len, n, size);
      going = going_more c.args.self c.args.octets.now c.args.text.now.items _ _ _ c.in-Some.frame.now _ _ _ at.going steps.1.0 size show.session show.items;
    }

pub returns-clause-state : goal.returns-clause-state
returns-clause-state g c =
    let session : c.loop-frame.self ≡ after_of c.args.self (frames_of c.args.octets.now) = search rules in
    ap (λ x. x.receiver) session ∙ after-runs c.args.self (frames_of c.args.octets.now)
