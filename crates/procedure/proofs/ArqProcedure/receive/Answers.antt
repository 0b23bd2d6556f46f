-- `procedure::ArqProcedure::receive` meets its contract. Assumes nothing.
use Rattle.std.proofs.Common.{length, sym, ap, ◌∙◌, subst}
use Rattle.procedure.specs.Procedure.{Procedure, Sound, receive_of}
use Rattle.procedure.proofs.Parts.{receive_refused, receive_goes}
use Rattle.procedure.proofs.Invariant.{sound_let_through}
use Rattle.procedure.proofs.ArqProcedure.receive.Goals as goal

pub returns-in-Ok-clause-exact : goal.returns-in-Ok-clause-exact
returns-in-Ok-clause-exact c =
    c.hear.ensures.exact ∙ receive_goes _ _ _ _ c.in-Ok.ensures ∙ ap (λ (p : Procedure). receive_of p c.args.tdma_block c.args.octets.now c.args.buffer.now) c.self.view_is

pub returns-in-Ok-clause-sound : goal.returns-in-Ok-clause-sound
returns-in-Ok-clause-sound c h = c.hear.ensures.sound (sound_let_through _ c.args.tdma_block (length c.args.buffer.now) (sym c.in-Ok.ensures) (subst Sound (sym c.self.view_is) h))

pub returns-in-Err-clause-exact : goal.returns-in-Err-clause-exact
returns-in-Err-clause-exact c = rw (← c.self.view_is) (receive_refused _ _ c.args.octets.now _ c.in-Err.ensures)
