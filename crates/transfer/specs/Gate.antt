-- The request's own question: when can a gate not fill the gaps of its order with pieces of a neighbour's? Read `Sent`, `InTime` and
-- `Listens`, what is asked for; then the claims: `HeldFor` and `OneOrder` of the sender, `Gate` of a gate that hears one sender, and
-- `GateOfTwo` of one that hears two, the second perhaps in the first one's place after a power failure. They are proved in
-- proofs/Orders.antt and Gate.antt; Misled.antt computes gates of which they speak, and the gate of the request. Assumes nothing.
use Rattle.std.specs.Prelude.{◌≡◌, ◌⊎◌, ℕ, ◌+◌, ◌≤◌, ◌<◌, length}
use Rattle.std.proofs.Common.{inl, inr}
use mathlib.Core.List.{List, [], ◌∷◌, ◌++◌, Memᴰ}
use Rattle.std.specs.Prelude.{Some}
use Rattle.field.specs.Bits.{Octets}
use Rattle.rach.specs.declared.MobileIdentity.{MobileIdentity}
use Rattle.spach.specs.Refusal.{gives}
use Rattle.arq.specs.declared.ArqFrame.{ArqFrame}
use Rattle.arq.specs.Decode.{decode_of}
use Rattle.arq.specs.Cut.{continues}
use Rattle.receiver.specs.declared.ArqReassembler.{ArqReassembler}
use Rattle.receiver.specs.Receiver.{new_of, push_of, status_answer}
use Rattle.receiver.specs.Demand3.{Push, heards, BeginFor, Such, Fitting, Delivers, Silent, runs, Holds}
use Rattle.transfer.specs.declared.TransferToken.{TransferToken}
use Rattle.transfer.specs.declared.Request.{Request}
use Rattle.transfer.specs.declared.PreparedFrame.{PreparedFrame}
use Rattle.transfer.specs.State.{View, Lent}
use Rattle.transfer.specs.Echo.{held_until}
use Rattle.transfer.specs.History.{Call, Enqueue, Done, does, Told, after, Fresh, Each, hold_of, Past, run_alone, Accepts, IsFrameOf, Traced}

-- ---- the sender

-- what a call does after others, the sender alone with its memory
abbrev pub doing : View → Lent → List Call → Call → Done
doing v m earlier c = let at = run_alone v m earlier in does at.0 at.1 c

-- a call that prepares a frame leaves the frame's echo held until deadline plus guard of its order
abbrev pub HeldFor : Type 0
HeldFor = (v : View) (m : Lent) (calls : List Call) (c : Call) (f : PreparedFrame) → Fresh v →
    let d = doing v m calls c in
    d.frame ≡ Some f → (t : Traced v m calls d.sender f) →
    hold_of d.sender f.partial_echo ≡ held_until v.limits t.request.deadline_ms

-- two frames of one echo, the second prepared while the first one's hold lasts, are of one order: the second is a frame of the
-- transfer, the request and the message that the first is traced to
abbrev pub OneOrder : Type 0
OneOrder = (v : View) (m : Lent) (calls between : List Call) (c d : Call) (f g : PreparedFrame) → Fresh v →
    let one = doing v m calls c in
    let two = doing v m (calls ++ c ∷ between) d in
    one.frame ≡ Some f → two.frame ≡ Some g → g.partial_echo ≡ f.partial_echo →
    two.sender.clock.last_ms < hold_of one.sender f.partial_echo →
    (t : Traced v m calls one.sender f) → IsFrameOf g t.transfer t.request t.message

-- ---- frames on the air

-- a frame that is heard was sent: over these calls the sender prepared a frame whose octets decode to it
pub record Sent (v : View) (m : Lent) (calls : List Call) (f : ArqFrame) : Type 0 where
  pub earlier : List Call
  pub call : Call
  pub later : List Call
  pub split : calls ≡ earlier ++ call ∷ later
  pub frame : PreparedFrame
  pub prepared : (doing v m earlier call).frame ≡ Some frame
  pub decodes : decode_of frame.octets ≡ gives f

-- the times of a frame that was sent, in milliseconds
pub record Times : Type 0 where
  -- when it was prepared
  pub prepared : ℕ
  -- until when its echo was held then: deadline plus guard of its order, as `HeldFor` says
  pub until : ℕ
  -- the guard of its sender
  pub guard : ℕ

-- by the sender's clock
abbrev pub times_of : {v : View} {m : Lent} {calls : List Call} {f : ArqFrame} → Sent v m calls f → Times
times_of {v} {m} s =
    let d = doing v m s.earlier s.call in
    record { prepared = d.sender.clock.last_ms; until = hold_of d.sender s.frame.partial_echo; guard = v.limits.echo_guard_ms }

-- a frame is in time for a Begin: prepared after it (`after-begin`) or at most a guard before it, and while the Begin's echo is held.
-- So is every frame that is heard after the Begin and before that hold ends, if it is on its way for at most a guard
abbrev pub InTime : (begin frame : Times) → Type 0
InTime b f = (b.prepared ≤ f.prepared + f.guard) × (f.prepared < b.until)

-- ---- the gate

-- what a gate of identity i hears in a list of pushes: first the Begin b for it, then no other. The Begin was sent, and each
-- Continue heard with its echo, channel and identity type was sent, in time; `Origin` says by whom. All else that it hears may come
-- from anywhere
pub record Listens (Origin : ArqFrame → Type 0) (times : (f : ArqFrame) → Origin f → Times) (i : MobileIdentity) (b : ArqFrame) (l : List Push) : Type 0 where
  pub rest : List ArqFrame
  pub first : heards l ≡ b ∷ rest
  pub own : BeginFor i b
  pub lone : (f : ArqFrame) → Memᴰ f rest → BeginFor i f → ⊥
  pub begin : Origin b
  pub pieces : (f : ArqFrame) → Memᴰ f rest → Such i b f → (s : Origin f) × InTime (times b begin) (times f s)

-- the gate gets its own order. The sender accepted a request for i with a message (under its token no other, as `AcceptedOnce`
-- says), and the list fits that message as demand 3 asks
pub record GetsOwn (v : View) (m : Lent) (calls : List Call) (i : MobileIdentity) (b : ArqFrame) (l : List Push) : Type 0 where
  pub request : Request
  pub message : List ℕ
  pub token : TransferToken
  pub accepted : Accepts v m calls request message token
  pub identity : request.identity ≡ i
  pub fits : Fitting i message b l
  -- so demand 3 holds of it: the map is what was heard, and the push that completes the set delivers exactly that message
  pub holds : (s : ArqReassembler) → new_of i ≡ gives s → Holds new_of push_of status_answer i message b (1 + continues i (length message)) s l
  -- and every push of the list delivers exactly that message, or nothing
  pub only : (s : ArqReassembler) → new_of i ≡ gives s → (a : List Push) (p : Push) (c : List Push) → l ≡ a ++ p ∷ c →
      let o = push_of (runs new_of push_of status_answer s a) p.octets p.buffer in
      Delivers message p.buffer o ⊎ Silent p.buffer o

-- the messages handed in are octets: in the code they are, in the definitions any numbers
abbrev pub InOctets : List Call → Type 0
InOctets calls = (r : Request) (message : List ℕ) (block now : ℕ) → Memᴰ (Enqueue r message block now) calls → Octets message

-- a gate that hears one sender so gets its own order
abbrev pub Gate : Type 0
Gate = (v : View) (m : Lent) (calls : List Call) (i : MobileIdentity) (b : ArqFrame) (l : List Push) → Fresh v → InOctets calls →
    Listens (Sent v m calls) (λ f s. times_of s) i b l → GetsOwn v m calls i b l

-- ---- two senders

-- the calls of a sender, each with the lent memory as it is then
unfoldable pub told : View → Lent → List Call → List Told
told v m [] = []
told v m (c ∷ l) = let d = does v m c in (m, c) ∷ told d.sender d.lent l

-- the second sender starts late: the premise of `TwoSenders`
abbrev pub StartsLate : (v : View) (m : Lent) (first : List Call) (w : View) (n : Lent) (second : List Call) → Type 0
StartsLate v m first w n second =
    Each (λ u c. w.limits.startup_until_block ≤ (after u c).clock.last_block → Past v (told v m first) (after u c).clock.last_ms) w (told w n second)

-- such a sender prepares no frame before every hold of the first has ended
abbrev pub LateFrames : Type 0
LateFrames = (v w : View) (m n : Lent) (first earlier later : List Call) (c : Call) (f : PreparedFrame) → Fresh v → Fresh w →
    StartsLate v m first w n (earlier ++ c ∷ later) → (doing w n earlier c).frame ≡ Some f →
    (echo : ℕ) → hold_of (run_alone v m first).0 echo ≤ (doing w n earlier c).sender.clock.last_ms

-- a frame that is heard was sent by the one or the other
abbrev pub SentByTwo : (v w : View) (m n : Lent) (first second : List Call) → ArqFrame → Type 0
SentByTwo v w m n first second f = Sent v m first f ⊎ Sent w n second f

-- its times
abbrev pub times_of_two : {v w : View} {m n : Lent} {first second : List Call} {f : ArqFrame} → SentByTwo v w m n first second f → Times
times_of_two (inl s) = times_of s
times_of_two (inr s) = times_of s

-- a gate that hears two senders so, the second starting late, gets its own order of the one or of the other
abbrev pub GateOfTwo : Type 0
GateOfTwo = (v w : View) (m n : Lent) (first second : List Call) (i : MobileIdentity) (b : ArqFrame) (l : List Push) → Fresh v → Fresh w →
    InOctets first → InOctets second → StartsLate v m first w n second →
    Listens (SentByTwo v w m n first second) (λ f s. times_of_two s) i b l → GetsOwn v m first i b l ⊎ GetsOwn w n second i b l
