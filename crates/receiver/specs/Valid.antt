-- What every state is that the constructor, push and reset make. No call of the receiver asks for it; it is
-- part of what every procedure is, and the listing's functions ask for it. Assumes nothing.
use Rattle.std.specs.Prelude.{◌≡◌, true, ◌^◌, ◌<◌, length, All}
use Rattle.std.specs.Option.{ForSome}
use Rattle.field.specs.Bits.{Octets}
use Rattle.rach.specs.Identity.{encodable}
use Rattle.rach.specs.declared.MobileIdentity.{MobileIdentity}
use Rattle.receiver.specs.declared.transaction.Transaction.{Transaction}
use Rattle.receiver.specs.declared.ArqReassembler.{ArqReassembler}
use Rattle.receiver.specs.Receiver.{needed}

-- a transaction that a Begin opened and Continues filled
pub record Held (i : MobileIdentity) (t : Transaction) : Type 0 where
  -- echo and octet count are as a Begin carries them
  pub echo : t.partial_echo < 2 ^ 7
  pub count : t.message_octets < 2 ^ 8
  pub begin_size : length t.begin_data ≡ 7
  pub begin_octets : Octets t.begin_data
  pub slots_size : length t.slots ≡ 26
  pub slot_size : All (λ d. length d ≡ 10) t.slots
  pub slot_octets : All (λ d. Octets d) t.slots
  -- the map has only numbers that are needed: so a count of its ones shows completion
  pub low : t.received_frames < 2 ^ needed i t

-- what the constructor and the calls make
pub record Valid (s : ArqReassembler) : Type 0 where
  -- the identity was accepted
  pub identity : encodable s.identity ≡ true
  pub held : ForSome s.transaction (Held s.identity)
