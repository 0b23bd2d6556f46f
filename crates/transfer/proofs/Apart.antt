-- Two errors of the sender that have one number are the same (specs/Apart.antt), and so are two events that are read alike. Assumes nothing.
use Rattle.std.proofs.Common.{◌≡◌, Some, None, Option, refl, ap}
use Rattle.transfer.specs.declared.Event.{Event}
use Rattle.transfer.specs.declared.Event.TheVariants as events
use Rattle.transfer.specs.Numbers.{Ending, complete, expired, cancelled, failed, ending_of, next_of}
use Rattle.spach.specs.Apart.{apart}
pub use Rattle.transfer.specs.Apart.{refused_by, refusal_number, refusals_apart}

-- the event of an ending
abbrev event_told : Ending → Event
event_told (complete c) = events.Complete c
event_told (expired c) = events.Expired c
event_told (cancelled c) = events.Cancelled c
event_told (failed c n) = events.Failed c (refused_by n)

event_ending : (e : Event) → event_told (ending_of e) ≡ e
event_ending (events.Complete c) = refl
event_ending (events.Expired c) = refl
event_ending (events.Cancelled c) = refl
event_ending (events.Failed c e) = ap (events.Failed c) (refusal_number e)

pub events_apart : (a b : Option Event) → next_of a ≡ next_of b → a ≡ b
events_apart = apart next_of back undo
  where
    back : Option Ending → Option Event
    back None = None
    back (Some x) = Some (event_told x)

    undo : (a : Option Event) → back (next_of a) ≡ a
    undo None = refl
    undo (Some e) = ap Some (event_ending e)
