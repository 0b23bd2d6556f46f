-- 01, *Encode*: Pch 3; echo over 127 11; Begin identity 2; Begin bit count over its room 13; set bit past 8 times the
-- octet count 7; Continue number over 25 12. Assumes nothing.
use Rattle.std.specs.Prelude.{not, ◌*◌, eqb, ltb, drop}
use Rattle.field.specs.Layout.{any_set}
use Rattle.rach.specs.Identity.{encodable}
use Rattle.spach.specs.Refusal.{Outcome, gives, refuse}
use Rattle.spach.specs.Header.{usage_of}
use Rattle.arq.specs.declared.FrameKind.{FrameKind}
use Rattle.arq.specs.declared.FrameKind.TheVariants.{Begin, Continue}
use Rattle.arq.specs.declared.ArqHeader.{ArqHeader}
use Rattle.arq.specs.declared.ArqFrame.{ArqFrame}
use Rattle.arq.specs.declared.PackedFrame.{PackedFrame}
use Rattle.arq.specs.Frame.{room, begin_data_lem, begin_frame, continue_frame}

-- Pch 3; echo over 127 11; else what follows
abbrev pub header_checked : {A : Type 0} → ArqHeader → Outcome A → Outcome A
header_checked h o = refuse (eqb (usage_of h.channel) 7) 3 (refuse (ltb 127 h.partial_echo) 11 o)

-- of a Begin: identity 2; bit count over its room 13; set bit past 8 times the octet count 7; else what follows
abbrev pub begin_checked : {A : Type 0} → ArqFrame → Outcome A → Outcome A
begin_checked f o =
    refuse (not (encodable f.identity)) 2
    (refuse (ltb (room f.identity) f.begin_bits) 13
    (refuse (any_set (drop (8 * f.message_octets) (begin_data_lem f))) 7 o))

-- of a Continue: number over 25 12; else what follows
abbrev pub continue_checked : {A : Type 0} → ArqFrame → Outcome A → Outcome A
continue_checked f o = refuse (ltb 25 f.frame_number) 12 o

-- the first for a Begin, the second for a Continue
abbrev pub by_kind : {A : Type 0} → FrameKind → A → A → A
by_kind Begin a b = a
by_kind Continue a b = b

-- 3 and 11; then of a Begin 2, 13, 7, of a Continue 12; else the frame as it is laid out
unfoldable pub encode_of : ArqFrame → Outcome PackedFrame
encode_of f =
    header_checked f.header
    (by_kind f.kind
    (begin_checked f (gives (begin_frame f)))
    (continue_checked f (gives (continue_frame f))))
