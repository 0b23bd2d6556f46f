-- 01, module 4: ArqReassembler. Its state, and what each call answers and leaves. Assumes nothing.
use Rattle.std.specs.Prelude.{Bool, true, false, cond, not, ◌&&◌, List, [], ◌++◌, ℕ, ◌+◌, ◌-◌, ◌*◌, min, eqb, ltb, length, take, drop, replicate, slice_index_or, slice_set, flat_map, bytes_eq, Option, Some, None, option_map, Result}
use Rattle.std.specs.Bool.{then_some}
use Rattle.std.specs.Option.{option_map_or}
use Rattle.std.specs.Int.Count.{ones}
use Rattle.field.specs.Bits.{bits_of, octets}
use Rattle.field.specs.Layout.{any_set}
use Rattle.rach.specs.Identity.{type_of, same, encodable}
use Rattle.rach.specs.declared.MobileIdentity.{MobileIdentity}
use Rattle.spach.specs.declared.SpachError.{SpachError}
use Rattle.spach.specs.Refusal.{Outcome, gives, refuses, refuse, number_of, by_number}
use Rattle.spach.specs.Header.{usage_of}
use Rattle.arq.specs.declared.ArqHeader.{ArqHeader}
use Rattle.arq.specs.declared.ArqFrame.{ArqFrame}
use Rattle.arq.specs.Frame.{continue_data_bits, room, continue_data_lem}
use Rattle.arq.specs.Encode.{by_kind}
use Rattle.arq.specs.Decode.{decode_of}
use Rattle.arq.specs.Cut.{continues}
use Rattle.receiver.specs.declared.transaction.Transaction.{Transaction}
use Rattle.receiver.specs.declared.ArqReassembler.{ArqReassembler}
use Rattle.receiver.specs.declared.ArqStatus.{ArqStatus}
use Rattle.receiver.specs.declared.StatusRequest.{StatusRequest}
use Rattle.receiver.specs.declared.SingleMessage.{SingleMessage}
use Rattle.receiver.specs.declared.Reception.{Reception}
use Rattle.receiver.specs.declared.Reception.TheVariants.{Ignored, Accepted}
use Rattle.receiver.specs.Map.{bit_of, with_bit}

-- ---- the state

-- what the constructor makes of an accepted identity, and what `reset` leaves: nothing is held
abbrev pub fresh : MobileIdentity → ArqReassembler
fresh i = record { identity = i; transaction = None }

-- made with a bad identity: 2
unfoldable pub new_of : MobileIdentity → Outcome ArqReassembler
new_of i = refuse (not (encodable i)) 2 (gives (fresh i))

-- the receiver for i that holds t
abbrev pub holding : MobileIdentity → Transaction → ArqReassembler
holding i t = record { identity = i; transaction = Some t }

-- the numbers needed are those below this
abbrev pub needed : MobileIdentity → Transaction → ℕ
needed i t = continues i t.message_octets

-- the ten octets of slot k
abbrev pub slot_at : List (List ℕ) → ℕ → List ℕ
slot_at slots k = slice_index_or slots k []

-- ---- accepted frames

-- a Begin for its identity replaces everything
abbrev pub replaced_by : ArqFrame → Transaction
replaced_by f = record {
  channel = f.header.channel;
  flags = f.header.flags;
  partial_echo = f.header.partial_echo;
  message_octets = f.message_octets;
  begin_data = f.begin_data;
  slots = replicate 26 (replicate 10 0);
  received_frames = 0;
  delivered = false;
}

-- a Continue goes into its slot and into the map
abbrev pub stored : Transaction → ArqFrame → Transaction
stored t f = record t {
  slots = slice_set t.slots f.frame_number f.continue_data;
  received_frames = with_bit t.received_frames f.frame_number;
}

-- the message was delivered
abbrev pub marked : Transaction → Transaction
marked t = record t { delivered = true }

-- ---- status, delivery

-- echo and map
abbrev pub status_of : Transaction → ArqStatus
status_of t = record { partial_echo = t.partial_echo; received_frames = t.received_frames }

-- `status`: of the transaction held
abbrev pub status_answer : ArqReassembler → Option ArqStatus
status_answer s = option_map status_of s.transaction

-- polled frames answer a status, with their own response mode
abbrev pub request_of : ArqHeader → Transaction → Option StatusRequest
request_of h t = then_some h.polling (record { status = status_of t; response_mode = h.response_mode })

-- complete, and not delivered yet: the map has as many ones as numbers are needed
abbrev pub due : MobileIdentity → Transaction → Bool
due i t = not t.delivered && eqb (ones t.received_frames) (needed i t)

-- the data bits of the first n slots
unfoldable pub gathered : List (List ℕ) → ℕ → List Bool
gathered slots n = flat_map (λ d. take continue_data_bits (bits_of d)) (take n slots)

-- the message: the Begin's data bits, then those of the slots
unfoldable pub assembled : MobileIdentity → Transaction → List ℕ
assembled i t =
    let n = t.message_octets in
    octets n (take (8 * n) (take (room i) (bits_of t.begin_data) ++ gathered t.slots (needed i t)))

-- what a delivery says: channel, flags and identity of the Begin, and the length
abbrev pub message_of : MobileIdentity → Transaction → SingleMessage
message_of i t = record {
  channel = t.channel;
  flags = t.flags;
  identity = i;
  length = t.message_octets;
}

-- ---- push

-- what a push leaves: the outcome, the state, the lent buffer
pub record Out : Type 0 where
  pub outcome : Outcome Reception
  pub receiver : ArqReassembler
  pub buffer : List ℕ

-- a refusal changes nothing
abbrev pub refusal : ℕ → ArqReassembler → List ℕ → Out
refusal n s b = record { outcome = refuses n; receiver = s; buffer = b }

-- Ignored changes nothing
abbrev pub ignored : ArqReassembler → List ℕ → Out
ignored s b = record { outcome = gives Ignored; receiver = s; buffer = b }

-- after an accepted frame: its status if polled; the message, once, when it is complete, to the front of the buffer
unfoldable pub finish : ArqFrame → MobileIdentity → Transaction → List ℕ → Out
finish f i t b =
    cond (due i t)
    (record {
      outcome = gives (Accepted (Some (message_of i t)) (request_of f.header t));
      receiver = holding i (marked t);
      buffer = assembled i t ++ drop t.message_octets b;
    })
    (record { outcome = gives (Accepted None (request_of f.header t)); receiver = holding i t; buffer = b })

-- a Continue of the transaction: same echo, channel and identity type
abbrev pub ours : MobileIdentity → Transaction → ArqFrame → Bool
ours i t f =
    eqb f.header.partial_echo t.partial_echo
    && (eqb (usage_of f.header.channel) (usage_of t.channel)
    && eqb f.identity_type (type_of i))

-- where Continue k's data start in the message: behind the Begin's data bits (all of a message that fits) and those of the
-- Continues before it
abbrev pub first_bit : MobileIdentity → Transaction → ℕ → ℕ
first_bit i t k = min (8 * t.message_octets) (room i) + continue_data_bits * k

-- a data bit of a Continue is set past the message
abbrev pub filler_past : MobileIdentity → Transaction → ArqFrame → Bool
filler_past i t f = any_set (drop (8 * t.message_octets - first_bit i t f.frame_number) (continue_data_lem f))

-- its slot is filled with other data
abbrev pub conflicts : Transaction → ArqFrame → Bool
conflicts t f = eqb (bit_of t.received_frames f.frame_number) 1 && not (bytes_eq (slot_at t.slots f.frame_number) f.continue_data)

-- the transaction with a Continue: number not below the needed count 12; filler past the message 7; filled slot with other
-- data 14
unfoldable pub continued : MobileIdentity → Transaction → ArqFrame → Outcome Transaction
continued i t f =
    refuse (not (ltb f.frame_number (needed i t))) 12
    (refuse (filler_past i t f) 7
    (refuse (conflicts t f) 14
    (gives (stored t f))))

-- what was refused changes nothing
abbrev pub accepted : ArqReassembler → List ℕ → ArqFrame → Outcome Transaction → Out
accepted s b f (gives t) = finish f s.identity t b
accepted s b f (refuses n) = refusal n s b

-- a Continue of the transaction held
abbrev pub push_continue : ArqReassembler → List ℕ → ArqFrame → Transaction → Out
push_continue s b f t = accepted s b f (continued s.identity t f)

-- foreign Begins, and Continues of another echo, channel or type or with no transaction, are Ignored
unfoldable pub push_frame : ArqReassembler → List ℕ → ArqFrame → Out
push_frame s b f =
    by_kind f.kind
    (cond (same f.identity s.identity) (finish f s.identity (replaced_by f) b) (ignored s b))
    (option_map_or (λ t. cond (ours s.identity t f) (push_continue s b f t) (ignored s b)) s.transaction (ignored s b))

-- decode's refusals come before
abbrev pub push_decoded : ArqReassembler → List ℕ → Outcome ArqFrame → Out
push_decoded s b (gives f) = push_frame s b f
push_decoded s b (refuses n) = refusal n s b

-- buffer under 255 octets 16; decode's; then as above
unfoldable pub push_of : ArqReassembler → List ℕ → List ℕ → Out
push_of s xs b = cond (ltb (length b) 255) (refusal 16 s b) (push_decoded s b (decode_of xs))

-- what a push leaves, its refusal by number
abbrev pub pushed : ArqReassembler × Result Reception SpachError → List ℕ → Out
pushed r b = record { outcome = by_number number_of r.1; receiver = r.0; buffer = b }

-- ---- the other calls

-- `reset`: nothing is held any more
abbrev pub reset_of : ArqReassembler → ArqReassembler
reset_of s = fresh s.identity

-- `complete`: the transaction held has delivered its message
abbrev pub complete_of : ArqReassembler → Bool
complete_of s = option_map_or (λ t. t.delivered) s.transaction false
