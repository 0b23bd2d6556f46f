-- `procedure::ArqProcedure::hear` meets its contract. Assumes nothing.
use Rattle.std.proofs.Common.{◌≡◌, true, false, Ok, sym, ap, ◌∙◌, subst, rules}
use Rattle.arq.specs.Encode.{by_kind}
use Rattle.inactivity.specs.Inactivity as I
use Rattle.procedure.specs.Procedure.{Procedure, Sound}
use Rattle.procedure.specs.Parts.{pushes, decoded}
use Rattle.procedure.proofs.Parts.{accepts_frame}
use Rattle.procedure.proofs.Invariant.{sound_pushed, sound_next, sound_timed}
use Rattle.procedure.proofs.ArqProcedure.hear.Goals as goal
use Rattle.procedure.proofs.ArqProcedure.hear.Goals.{in-Begin, in_default}

pub returns-in-Err-pushed-clause-sound : goal.returns-in-Err-pushed-clause-sound
returns-in-Err-pushed-clause-sound c h = sound_pushed _ c.args.octets.now _ _ _ c.push_frame-pushed.result c.requires c.in-Ok.ensures (subst Sound (sym c.self.view_is) h) c.push_frame-pushed.ensures

pub returns-in_default-reception-clause-sound : goal.returns-in_default-reception-clause-sound
returns-in_default-reception-clause-sound c h = sound_pushed _ c.args.octets.now _ _ _ c.push_frame-pushed.result c.requires c.in-Ok.ensures (subst Sound (sym c.self.view_is) h) c.push_frame-pushed.ensures

pub returns-clause-exact : goal.returns-clause-exact
returns-clause-exact c =
    let begin : c.match-matches.matches ≡ by_kind c.in-Ok.frame.kind true false = elim c.match-matches.branch [ in-Begin w ↦ search rules | in_default w ↦ search rules ] in
    accepts_frame _ _ _ _ c.push_frame-pushed.result c.push_frame-pushed.ensures (c.in-Ok-pushed.is ∙ ap (λ x. Ok x) c.in-Accepted.is) begin c.complete-complete.ensures c.timed-inactivity.ensures c.polled-status.ensures c.rest-rest.ensures.exact
    ∙ ap (λ (p : Procedure). pushes p c.args.buffer.now c.in-Ok.frame) c.self.view_is ∙ ap (decoded c.args.self c.args.buffer.now) c.in-Ok.ensures

pub returns-clause-sound : goal.returns-clause-sound
returns-clause-sound c h =
    let s = subst Sound (sym c.self.view_is) h in
    let t = subst I.Sound (sym c.timed-inactivity.ensures) (sound_timed _ _ _ s.inactivity) in
    c.rest-rest.ensures.sound (sound_next _ c.args.octets.now _ _ _ c.push_frame-pushed.result c.requires c.in-Ok.ensures s c.push_frame-pushed.ensures c.in-Accepted.message c.in-Accepted.status_request (c.in-Ok-pushed.is ∙ ap (λ x. Ok x) c.in-Accepted.is) t)
