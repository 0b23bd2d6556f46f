-- A transfer's frames: what the cut says of one, and what encoding then says. Assumes nothing.
use Rattle.std.proofs.Common.{◌≡◌, ℕ, ◌+◌, ◌-◌, ◌*◌, Bool, List, take, drop, ap, arith}
use Rattle.spach.specs.Refusal.{Outcome, and_then}
use Rattle.arq.specs.declared.ArqHeader.{ArqHeader}
use Rattle.arq.specs.declared.ArqFrame.{ArqFrame}
use Rattle.arq.specs.Encode.{encode_of}
use Rattle.arq.specs.Cut.{frame_of}
use Rattle.transfer.specs.declared.Transfer.{Transfer}
use Rattle.transfer.specs.Transfer.{header_of, message_of}
use Rattle.transfer.specs.Prepare.{packed_of}

-- the part of the lent store that is a transfer's message
pub cut_out : (x : Transfer) (octets : List ℕ) {n size : ℕ} → n ≡ x.parcel.n → size ≡ x.parcel.octets → take (255 * n + size - 255 * n) (drop (255 * n) octets) ≡ message_of x octets
cut_out x octets {n} {size} en es =
    let e : 255 * n + size - 255 * n ≡ x.parcel.octets = omega arith in
    rw (e, en)

-- what the cut says of a message under a header is what becomes of the frame
pub packed_by : (x : Transfer) (octets : List ℕ) (k : ℕ) (polling : Bool) {m : List ℕ} {h : ArqHeader} {o : Outcome ArqFrame}
    → m ≡ message_of x octets → h ≡ header_of x.parcel.channel x.echo polling → o ≡ frame_of h x.parcel.identity m k → and_then o encode_of ≡ packed_of x octets k polling
unfolding packed_of
packed_by x octets k polling {m} {h} {o} em eh e = ap (λ (o : Outcome ArqFrame). and_then o encode_of) (rw (← em, ← eh) e)
