-- The cell's side of the question which conditions keep a gate from its neighbour's pieces: what holds over any list of calls from a
-- fresh sender. (The gate's side is receiver/specs/Demand3.antt; Gate.antt joins them.) Read `Call`, `does` and `Takes`; then the claims: `OnlyTaken`, `TakenFree`,
-- `NoneBefore`, `TakenTwice` and `TakenApart` of one sender, `TwoSenders` of two, and `AcceptedOnce` and `Faithful` of the frames. They are
-- proved in proofs/Holds.antt, Taken.antt, Once.antt and Faithful.antt, by the moves of which every call is made (proofs/Moves.antt);
-- Instance.antt and Witness.antt show that they are not empty.
-- Assumes nothing.
use Rattle.std.specs.Prelude.{◌≡◌, ◌≢◌, Bool, List, [], ◌∷◌, ◌++◌, ℕ, ◌≤◌, get_or}
use Rattle.std.specs.Prelude.{Option, None, Some}
use Rattle.token.specs.Token.{stop}
use Rattle.rach.specs.declared.MobileIdentity.{MobileIdentity}
use Rattle.spach.specs.Refusal.{Outcome, gives, refuses, and_then, After}
use Rattle.arq.specs.Cut.{frame_of}
use Rattle.arq.specs.Encode.{encode_of}
use Rattle.receiver.specs.declared.ArqStatus.{ArqStatus}
use Rattle.transfer.specs.declared.TransferToken.{TransferToken}
use Rattle.transfer.specs.declared.FrameToken.{FrameToken}
use Rattle.transfer.specs.declared.Request.{Request}
use Rattle.transfer.specs.declared.Transfer.{Transfer}
use Rattle.transfer.specs.declared.PreparedFrame.{PreparedFrame}
use Rattle.transfer.specs.State.{View, Lent, Out, new_of}
use Rattle.transfer.specs.Numbers.{Ending}
use Rattle.transfer.specs.Echo.{held_until}
use Rattle.transfer.specs.Transfer.{header_of}
use Rattle.transfer.specs.Advance.{advance_of}
use Rattle.transfer.specs.Enqueue.{enqueue_of}
use Rattle.transfer.specs.Prepare.{prepare_of, interrupt_of, prepare_prioritized_of}
use Rattle.transfer.specs.Submitted.{submitted_of, transmitted_of}
use Rattle.transfer.specs.Status.{status_of}
use Rattle.transfer.specs.Cancel.{cancel_of, cancel_transaction_of, cancel_all_of}
use Rattle.transfer.specs.Refresh.{refresh_waiting_of}
use Rattle.transfer.specs.Queries.{pop_event_of}
use Rattle.transfer.specs.Invariant.{Any, Pairs}

-- ---- calls

-- a call, with what it is given beside the lent memory; the others of the API change nothing. (One more is a line here, a line in `does`
-- and a case of `does_leaves` in proofs/Moves.antt: what holds of all calls is proved of the moves.)
pub data Call : Type 0 where
  Enqueue : Request → (message : List ℕ) → (block now : ℕ) → Call
  Advance : (block now : ℕ) → Call
  Prepare : (block now : ℕ) → Call
  Interrupt : (echo block now : ℕ) → Call
  PreparePrioritized : (echo block now : ℕ) → Call
  Submitted : FrameToken → (block now : ℕ) → Call
  Transmitted : FrameToken → (block now : ℕ) → Call
  Status : ArqStatus → (block now : ℕ) → Call
  Cancel : MobileIdentity → Call
  CancelTransaction : TransferToken → Call
  CancelAll : Call
  RefreshWaiting : (block now : ℕ) → Call
  PopEvent : Call

-- a request that `enqueue` accepted: the token that it answered, the request, and its message
pub record Acceptance : Type 0 where
  pub token : TransferToken
  pub request : Request
  pub message : List ℕ

-- what a call leaves: the sender, the lent memory, the frame if it prepares one, what it accepted, and the event that it took
pub record Done : Type 0 where
  pub sender : View
  pub lent : Lent
  pub frame : Option PreparedFrame
  pub accepted : Option Acceptance
  pub popped : Option Ending

-- of a call that writes nothing
abbrev pub moves : Lent → View → Done
moves m v = record { sender = v; lent = m; frame = None; accepted = None; popped = None }

-- an acceptance, if the answer is one
abbrev pub acceptance_in : Request → (message : List ℕ) → Outcome TransferToken → Option Acceptance
acceptance_in r message (gives t) = Some (record { token = t; request = r; message = message })
acceptance_in r message (refuses n) = None

-- of `enqueue`, which writes to the lent memory
abbrev pub enqueues : Request → (message : List ℕ) → Out TransferToken → Done
enqueues r message o = record { sender = o.sender; lent = o.lent; frame = None; accepted = acceptance_in r message o.outcome; popped = None }

-- of `submitted`, which does so too
abbrev pub writes : {A : Type 0} → Out A → Done
writes o = record { sender = o.sender; lent = o.lent; frame = None; accepted = None; popped = None }

-- the frame of an answer
abbrev pub frame_in : Outcome (Option PreparedFrame) → Option PreparedFrame
frame_in (gives f) = f
frame_in (refuses n) = None

-- of `prepare` and `prepare_prioritized`
abbrev pub prepares : Lent → After (Option PreparedFrame) View → Done
prepares m a = record { sender = a.state; lent = m; frame = frame_in a.outcome; accepted = None; popped = None }

-- the event of an answer
abbrev pub event_in : Outcome (Option Ending) → Option Ending
event_in (gives e) = e
event_in (refuses n) = None

-- of `pop_event`
abbrev pub pops : Lent → After (Option Ending) View → Done
pops m a = record { sender = a.state; lent = m; frame = None; accepted = None; popped = event_in a.outcome }

-- each call by its definition
abbrev pub does : View → Lent → Call → Done
does v m (Enqueue r message block now) = enqueues r message (enqueue_of v m r message block now)
does v m (Advance block now) = moves m (advance_of v m block now).state
does v m (Prepare block now) = prepares m (prepare_of v m block now)
does v m (Interrupt echo block now) = moves m (interrupt_of v m echo block now).state
does v m (PreparePrioritized echo block now) = prepares m (prepare_prioritized_of v m echo block now)
does v m (Submitted t block now) = writes (submitted_of v m t block now)
does v m (Transmitted t block now) = moves m (transmitted_of v m t block now).state
does v m (Status s block now) = moves m (status_of v m s block now).state
does v m (Cancel i) = moves m (cancel_of v i).state
does v m (CancelTransaction t) = moves m (cancel_transaction_of v t).state
does v m CancelAll = moves m (cancel_all_of v)
does v m (RefreshWaiting block now) = moves m (refresh_waiting_of v m block now).state
does v m PopEvent = pops m (pop_event_of v)

-- a call with what it is lent, which may be other memory at each call
abbrev pub Told : Type 0
Told = Lent × Call

-- the sender after a call so told
abbrev pub after : View → Told → View
after v c = (does v c.0 c.1).sender

-- the sender after a list of calls
unfoldable pub run : View → List Told → View
run v [] = v
run v (c ∷ l) = run (after v c) l

-- a sender that the constructor made, with a first token of 64 bits
pub record Fresh (v : View) : Type 0 where
  pub capacity : ℕ
  pub guard : ℕ
  pub first_block : ℕ
  pub first : ℕ
  pub fits : first ≤ stop
  pub made : new_of capacity guard first_block first ≡ gives v

-- every call of the list, with the sender that it gets, is such
unfoldable pub Each : (View → Told → Type 0) → View → List Told → Type 0
Each P v [] = Unit
Each P v (c ∷ l) = P v c × Each P (after v c) l

-- ---- echoes

-- until when an echo is held
abbrev pub hold_of : View → (echo : ℕ) → ℕ
hold_of v echo = get_or v.echoes.echo_until_ms echo 0

-- a call takes an echo from the sender v: afterwards there is a live transfer of this echo and deadline, under a generation that
-- was not given out before
abbrev pub Takes : View → Told → (echo deadline : ℕ) → Type 0
Takes v c echo deadline = Any (λ x. (x.echo ≡ echo) × (x.parcel.deadline_ms ≡ deadline) × (v.next_token ≤ x.generation.0)) (after v c).transfers

-- an echo's hold changes only when it is taken
abbrev pub OnlyTaken : Type 0
OnlyTaken = (v : View) (calls : List Told) → Fresh v →
    Each (λ u c. (echo : ℕ) → hold_of (after u c) echo ≢ hold_of u echo → (deadline : ℕ) × Takes u c echo deadline) v calls

-- an echo is taken only if it is held until now or earlier, and is then held until deadline plus guard
abbrev pub TakenFree : Type 0
TakenFree = (v : View) (calls : List Told) → Fresh v →
    Each (λ u c. (echo deadline : ℕ) → Takes u c echo deadline →
    (hold_of u echo ≤ (after u c).clock.last_ms) × (hold_of (after u c) echo ≡ held_until v.limits deadline)) v calls

-- no echo is taken before the first usable block
abbrev pub NoneBefore : Type 0
NoneBefore = (v : View) (calls : List Told) → Fresh v →
    Each (λ u c. (echo deadline : ℕ) → Takes u c echo deadline → v.limits.startup_until_block ≤ (after u c).clock.last_block) v calls

-- whenever one echo is taken twice, the later time is at or after the earlier deadline plus guard
abbrev pub TakenTwice : Type 0
TakenTwice = (v : View) (calls between : List Told) (c d : Told) (echo deadline later : ℕ) → Fresh v →
    let first = run v calls in
    let second = run (after first c) between in
    Takes first c echo deadline → Takes second d echo later →
    held_until v.limits deadline ≤ (after second d).clock.last_ms

-- and in one call no echo is taken twice
abbrev pub TakenApart : Type 0
TakenApart = (v : View) (calls : List Told) → Fresh v →
    Each (λ u c. Pairs (λ x y. u.next_token ≤ x.generation.0 → u.next_token ≤ y.generation.0 → x.echo ≢ y.echo) (after u c).transfers) v calls

-- a time is at or after deadline plus guard of each taking of this echo that a sender makes over its calls
abbrev pub PastOf : (echo : ℕ) → View → List Told → (time : ℕ) → Type 0
PastOf echo v calls time = Each (λ u c. (deadline : ℕ) → Takes u c echo deadline → held_until v.limits deadline ≤ time) v calls

-- the same of every echo
abbrev pub Past : View → List Told → (time : ℕ) → Type 0
Past v calls time = (echo : ℕ) → PastOf echo v calls time

-- two senders, told the time by one clock that a power failure does not set back; the second may stand in the first one's place. If,
-- at every call of the second from its first usable block on, the time is at or after deadline plus guard of every echo that the first
-- took, then the second takes no echo that the first still holds. (A call that tells no time counts at the clock as it stands. That is
-- block 0 before the first call with a clock, so that a first usable block above 0 leaves those out.)
abbrev pub TwoSenders : Type 0
TwoSenders = (v w : View) (first second : List Told) → Fresh v → Fresh w →
    Each (λ u c. w.limits.startup_until_block ≤ (after u c).clock.last_block → Past v first (after u c).clock.last_ms) w second →
    Each (λ u c. (echo deadline : ℕ) → Takes u c echo deadline → PastOf echo v first (after u c).clock.last_ms) w second

-- ---- frames

-- the sender and the lent memory after a list of calls, nobody else writing that memory
unfoldable pub run_alone : View → Lent → List Call → View × Lent
run_alone v m [] = (v, m)
run_alone v m (c ∷ l) = let d = does v m c in run_alone d.sender d.lent l

-- somewhere in the list of calls this message was accepted for this request, under this token (by `enqueue`, which was given both:
-- `last_accepted`)
pub record Accepts (v : View) (m : Lent) (calls : List Call) (r : Request) (message : List ℕ) (t : TransferToken) : Type 0 where
  pub earlier : List Call
  pub call : Call
  pub later : List Call
  pub split : calls ≡ earlier ++ call ∷ later
  pub accepted :
      let at = run_alone v m earlier in
      (does at.0 at.1 call).accepted ≡ Some (record { token = t; request = r; message = message })

-- no token is given twice: what was accepted under it was accepted at one place of the list of calls, so it is one request with one
-- message
abbrev pub AcceptedOnce : Type 0
AcceptedOnce = (v : View) (m : Lent) (calls : List Call) (r s : Request) (a b : List ℕ) (t : TransferToken) → Fresh v →
    (p : Accepts v m calls r a t) (q : Accepts v m calls s b t) → (r ≡ s) × (a ≡ b) × (p.earlier ≡ q.earlier)

-- a frame is one of the transfer x, and its octets are frame k of the cut of that message under the echo of x, polled or not
pub record IsFrameOf (f : PreparedFrame) (x : Transfer) (r : Request) (message : List ℕ) : Type 0 where
  pub generation : f.token.generation ≡ x.generation
  pub echo : f.partial_echo ≡ x.echo
  pub identity : f.identity ≡ r.identity
  pub polling : Bool
  pub octets : and_then (frame_of (header_of r.channel x.echo polling) r.identity message f.token.frame) encode_of ≡ gives (record { octets = f.octets })

-- the transfer of a frame: live after the call, its message accepted under its owner's token
pub record Traced (v : View) (m : Lent) (calls : List Call) (w : View) (f : PreparedFrame) : Type 0 where
  pub request : Request
  pub message : List ℕ
  pub transfer : Transfer
  pub live : Any (λ x. x ≡ transfer) w.transfers
  pub accepted : Accepts v m calls request message transfer.parcel.owner
  pub frame : IsFrameOf f transfer request message

-- every prepared frame is frame k of the cut, under its transfer's present echo, of the message that was accepted for that transfer
abbrev pub Faithful : Type 0
Faithful = (v : View) (m : Lent) (calls : List Call) (c : Call) (f : PreparedFrame) → Fresh v →
    let at = run_alone v m calls in
    let d = does at.0 at.1 c in
    d.frame ≡ Some f → Traced v m calls d.sender f
