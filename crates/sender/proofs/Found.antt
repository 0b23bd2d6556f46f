-- What a transfer is that the code read at a place of the list: it stands there, and is live. Assumes nothing.
use Rattle.std.proofs.Common.{◌≡◌, ℕ, ◌+◌, ◌*◌, ◌<◌, ◌≤◌, List, length, get_or, ap, arith}
use Rattle.transfer.specs.declared.Transfer.{Transfer}
use Rattle.transfer.specs.State.{View, blank_transfer}
use Rattle.transfer.specs.Invariant.{Live, Sound}
use Rattle.transfer.proofs.Alive.{frames_live}
use Rattle.transfer.proofs.Listed.{all-at}

-- m is the list as the code has it: what it read at a place of m stands there in the list
pub there : (i : ℕ) {l m : List Transfer} → m ≡ l → get_or m i blank_transfer ≡ get_or l i blank_transfer
there i e = ap (λ (l : List Transfer). get_or l i blank_transfer) e

-- x stands at place i
module _ (v : View) {i : ℕ} {x : Transfer} (is : x ≡ get_or v.transfers i blank_transfer) (lt : i < length v.transfers) (h : Sound v) where
  -- it is live
  pub live_there : Live v.limits v.clock v.echoes v.next_token x
  live_there = rw is (all-at v.transfers i blank_transfer lt h.transfers)

  -- it has 1 to 27 frames
  pub frames_there : (1 ≤ x.parcel.frames) × (x.parcel.frames ≤ 27)
  frames_there = frames_live x live_there

  -- its words are among the 3456
  pub place_low : x.parcel.n < 128
  place_low = let a = live_there.place in let b = h.most_capacity in omega arith

  -- its message is in the lent store
  pub message_room : (n : ℕ) → 32640 ≤ n → 255 * x.parcel.n + x.parcel.octets ≤ n
  message_room n long =
      let low = place_low in
      let most = live_there.accepted.most_octets in
      omega arith
