-- A list of calls after which a frame is prepared: what `Faithful` says of it, computed. Assumes nothing.
use Rattle.std.proofs.Common.{◌≡◌, Bool, true, false, List, [], ◌∷◌, get_or, replicate, Some, sym, refl, ap, subst, arith}
use lib.Count.{ones, ones_in, count_trailing_zeros}
use Rattle.field.specs.Bits.{bits, value, bits_of, octets}
use Rattle.field.specs.Layout.{layout, up_to, any_set}
use Rattle.rach.specs.Identity.{same, in_range, encodable}
use Rattle.rach.specs.declared.MobileIdentity.TheVariants.{Tmsi20}
use Rattle.spach.specs.declared.Channel.TheVariants.{Arch}
use Rattle.spach.specs.Refusal.{gives, and_then}
use Rattle.arq.specs.Frame.{packed, begin_frame, continue_frame}
use Rattle.arq.specs.Encode.{encode_of}
use Rattle.arq.specs.Cut.{count_of, frame_of}
use Rattle.receiver.proofs.Instance.{octets_in}
use Rattle.transfer.specs.declared.Transfer.{Transfer}
use Rattle.transfer.specs.declared.PreparedFrame.{PreparedFrame}
use Rattle.transfer.specs.Echo.{free_echo}
use Rattle.transfer.specs.Transfer.{header_of, done_of, settle_of}
use Rattle.transfer.specs.Advance.{fate_of, step, walk, walked}
use Rattle.transfer.specs.Enqueue.{grant_of, accepts, enqueue_of}
use Rattle.transfer.specs.Prepare.{packed_of, choose, prepare_of, prioritize_at, prepare_prioritized_of}
use Rattle.transfer.specs.History.{Call, Enqueue, Prepare, PreparePrioritized, does, run_alone, IsFrameOf, Traced}
use Rattle.transfer.proofs.Faithful.{faithful}
use Rattle.transfer.proofs.Instance.{lends, sender, made, request}

-- two messages are accepted, and the first one's frame is selected
calls : List Call
calls = Enqueue (request 1 5000) (66 ∷ 67 ∷ []) 20 100 ∷ Enqueue (request 2 5000) (65 ∷ []) 20 100 ∷ Prepare 20 100 ∷ []

-- the second one's is asked for by its echo
call : Call
call = PreparePrioritized 1 21 100

-- the frame
frame : PreparedFrame
frame = record {
  identity = Tmsi20 2;
  octets = 0x61 ∷ 0x40 ∷ 0x00 ∷ 0x00 ∷ 0x40 ∷ 0x48 ∷ 0x05 ∷ 0x04 ∷ replicate 6 0;
  token = record { generation = record { 0 = 101 }; submission = record { 0 = 103 }; frame = 0 };
  partial_echo = 1;
}

-- it is prepared
prepared : let at = run_alone sender lends calls in (does at.0 at.1 call).frame ≡ Some frame
unfolding calls call frame run_alone octets bits_of bits value layout up_to any_set same in_range encodable packed begin_frame continue_frame encode_of count_of frame_of ones ones_in count_trailing_zeros free_echo done_of settle_of fate_of step walk walked grant_of accepts enqueue_of packed_of choose prepare_of prioritize_at prepare_prioritized_of
prepared = refl

-- and traced
traced : let at = run_alone sender lends calls in Traced sender lends calls (does at.0 at.1 call).sender frame
traced = faithful sender lends calls call frame made prepared

-- but not to the first one's message: the frame is none of its cut
not_other : (x : Transfer) → IsFrameOf frame x (request 2 5000) (66 ∷ 67 ∷ []) → ⊥
unfolding frame octets bits_of bits value layout up_to any_set same in_range encodable packed begin_frame encode_of frame_of
not_other x h = go h.polling (subst (λ e. and_then (frame_of (header_of Arch e h.polling) (Tmsi20 2) (66 ∷ 67 ∷ []) 0) encode_of ≡ gives (record { octets = frame.octets })) (sym h.echo) h.octets)
  where
    go : (polling : Bool) → and_then (frame_of (header_of Arch 1 polling) (Tmsi20 2) (66 ∷ 67 ∷ []) 0) encode_of ≡ gives (record { octets = frame.octets }) → ⊥
    go true e = let z = ap (λ o. get_or (octets_in o) 7 0) e in omega arith
    go false e = let z = ap (λ o. get_or (octets_in o) 7 0) e in omega arith
