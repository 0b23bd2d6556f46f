-- The claims of History are not empty: a fresh sender takes echo 0, by restarts all the others, and echo 0 again exactly at the
-- deadline plus guard; a millisecond earlier it is refused. Assumes nothing.
use Rattle.std.proofs.Common.{◌≡◌, ℕ, zero, suc, List, [], ◌∷◌, length, get_or, replicate, refl, arith, leb-true}
use Rattle.transfer.specs.declared.Transfer.{Transfer}
use Rattle.rach.specs.Identity.{same, encodable, in_range}
use Rattle.rach.specs.declared.MobileIdentity.TheVariants.{Tmsi20}
use Rattle.spach.specs.declared.Channel.TheVariants.{Arch}
use Rattle.spach.specs.Refusal.{refuses}
use Rattle.arq.specs.Cut.{count_of}
use Rattle.transfer.specs.declared.Request.{Request}
use Rattle.transfer.specs.State.{View, Lent, fresh, new_of, blank_transfer}
use Rattle.transfer.specs.Echo.{free_echo}
use Rattle.transfer.specs.Transfer.{done_of, settle_of}
use Rattle.transfer.specs.Advance.{fate_of, step, walk}
use Rattle.transfer.specs.Enqueue.{grant_of, accepts, enqueue_of}
use Rattle.transfer.specs.Prepare.{interrupt_of}
use Rattle.transfer.specs.Invariant.{Any, any-here}
use Rattle.transfer.specs.History.{Enqueue, Interrupt, Told, after, run, Fresh, Takes}

-- the one element of a list
one : {P : Transfer → Type 0} (l : List Transfer) → length l ≡ 1 → P (get_or l 0 blank_transfer) → Any P l
one [] e p = absurd (omega arith)
one (x ∷ l) e p = any-here p

-- the lent memory
abbrev pub lends : Lent
lends = record { octets = replicate 32640 0; words = replicate 3456 0 }

-- four transfers, a guard of a second, the first block 20
abbrev pub sender : View
sender = fresh 4 1000 20 100

-- the constructor makes it
pub made : Fresh sender
unfolding new_of
made = record { capacity = 4; guard = 1000; first_block = 20; first = 100; fits = omega arith; made = refl }

-- an order to this identity with this deadline
abbrev pub request : (i deadline : ℕ) → Request
request i deadline = record { identity = Tmsi20 i; channel = Arch; completion = i; deadline_ms = deadline }

-- it is sent
c0 : Told
c0 = (lends, Enqueue (request 1 5000) (65 ∷ []) 20 100)

-- echo 0 is taken
takes_0 : Takes sender c0 0 5000
unfolding c0 encodable in_range same count_of free_echo grant_of accepts enqueue_of
takes_0 = one (after sender c0).transfers refl (refl, refl, leb-true 100 100 refl)

-- so many restarts, from the echo k on
turns : ℕ → ℕ → List Told
turns zero k = []
turns (suc n) k = (lends, Interrupt k 20 100) ∷ turns n (suc k)

-- by a restart the next
takes_1 : Takes (after sender c0) (lends, Interrupt 0 20 100) 1 5000
unfolding c0 encodable in_range same count_of free_echo grant_of accepts enqueue_of interrupt_of walk step fate_of done_of settle_of
takes_1 = one (after (after sender c0) (lends, Interrupt 0 20 100)).transfers refl (refl, refl, leb-true 101 101 refl)

-- after 127 restarts echo 0 again, 1000 ms after the deadline 5000
takes_again : Takes (run (after sender c0) (turns 127 0)) (lends, Enqueue (request 1 9000) (65 ∷ []) 20 6000) 0 9000
unfolding c0 encodable in_range same count_of free_echo grant_of accepts enqueue_of interrupt_of walk step fate_of done_of settle_of run turns
takes_again = one (after (run (after sender c0) (turns 127 0)) (lends, Enqueue (request 1 9000) (65 ∷ []) 20 6000)).transfers refl (refl, refl, leb-true 228 228 refl)

-- and not before
not-before : (enqueue_of (run (after sender c0) (turns 127 0)) lends (request 1 9000) (65 ∷ []) 20 5999).outcome ≡ refuses 21
unfolding c0 encodable in_range same count_of free_echo grant_of accepts enqueue_of interrupt_of walk step fate_of done_of settle_of run turns
not-before = refl
