-- 01, module 6: the Rust's `enqueue`, `advance` and the calls that make it, step by step as they are written, with its searches, filters and
-- `max_by_key`; read it beside the Rust. The definitions leave out steps that change nothing, and count frames where the Rust looks at
-- each. Every call here is proved to be the definition that its contract cites, on every sender that calls make (proofs/Literal.antt), so no
-- contract names these. What is not the Rust's here either: sets of frames and tokens are numbers (`frames_of` lists a set as the Rust's queue
-- does), frames are cut when they are prepared, messages and submissions lie in the lent memory, a frame token's number is compared, and 16 and
-- 18 are added. Assumes nothing.
use Rattle.std.specs.Prelude.{Bool, true, false, cond, not, ◌&&◌, ◌||◌, List, [], ◌∷◌, ◌++◌, map, ℕ, zero, suc, ◌+◌, ◌-◌, ◌%◌, eqb, leb, ltb, length, get_or, set}
use Rattle.std.specs.Prelude.{Option, None, Some}
use Rattle.token.specs.Token.{stop}
use Rattle.spach.specs.Refusal.{Outcome, gives, refuses, refuse, After, onward}
use Rattle.arq.specs.declared.PackedFrame.{PackedFrame}
use Rattle.arq.specs.Cut.{count_of}
use Rattle.receiver.specs.declared.ArqStatus.{ArqStatus}
use Rattle.receiver.specs.Map.{with_bit}
use Rattle.transfer.specs.declared.Error.TheVariants.{EchoExhausted}
use Rattle.transfer.specs.declared.Event.TheVariants.{Complete, Expired, Failed}
use Rattle.transfer.specs.declared.FrameToken.{FrameToken}
use Rattle.transfer.specs.declared.Parcel.{Parcel}
use Rattle.transfer.specs.declared.PreparedFrame.{PreparedFrame}
use Rattle.transfer.specs.declared.Request.{Request}
use Rattle.transfer.specs.declared.Transfer.{Transfer}
use Rattle.transfer.specs.declared.TransferToken.{TransferToken}
use Rattle.transfer.specs.Constants.{echo_values, refresh_blocks}
use Rattle.transfer.specs.Iterators.{range, find, filter, enumerate, filter_map, max_by_key}
use Rattle.transfer.specs.Lists.{any, remove_at, push_back}
use Rattle.transfer.specs.Queue.{is_empty, has, frames_of}
use Rattle.transfer.specs.State.{Echoes, View, Lent, Out, with_transfers, with_echoes, with_selected, token_taken, ticked, admitted, says, goes_on, seek, put_at, of_echo, of_generation, clear_selected, ended, cancel_at, blank_transfer}
use Rattle.transfer.specs.Transfer.{header_of, with_sets, with_blocks, queued, idle, waits, restart_due, passed, is_set}
use Rattle.transfer.specs.Advance.{overdue, kept, unasked}
use Rattle.transfer.specs.Enqueue.{addressed, lowest_n, parcel_of, stored}
use Rattle.transfer.specs.Prepare.{is_ready, packed_of, only_echo}
use Rattle.transfer.specs.Submitted.{is_outstanding, confirm_frame}

-- ---- one transfer

-- `iter().all`: each of the numbers 0 to n − 1 passes
abbrev pub each : (n : ℕ) → (test : ℕ → Bool) → Bool
each zero test = true
each (suc n) test = test 0 && each n (λ k. test (suc k))

-- `done`: the Begin is transmitted, and each Continue observed and transmitted
unfoldable pub done_literal : Transfer → Bool
done_literal x =
    x.sets.received_status
    && (is_empty x.sets.in_flight
    && (has x.sets.transmitted 0
    && each (x.parcel.frames - 1) (λ index. has x.sets.observed (suc index) && has x.sets.transmitted (suc index))))

-- a loop over the Continues by index, the frame's number less 1: of the first n those that pass the test join the set
abbrev pub set_where : (n : ℕ) → (test : ℕ → Bool) → (q : ℕ) → ℕ
set_where zero test q = q
set_where (suc n) test q = let r = set_where n test q in cond (test n) (with_bit r (suc n)) r

-- `settle` after a status: each Continue that is not observed goes to the back of the queue
abbrev pub requeued_literal : Transfer → Transfer
requeued_literal x =
    with_blocks
    (with_sets x (record {
      queue = set_where (x.parcel.frames - 1) (λ index. not (has x.sets.observed (suc index))) x.sets.queue;
      in_flight = x.sets.in_flight;
      transmitted = x.sets.transmitted;
      observed = x.sets.observed;
      received_status = false;
    }))
    (record { last_progress = x.blocks.last_progress; last_frame = x.blocks.last_frame; waiting_since = None })

-- `settle`
unfoldable pub settle_literal : (block : ℕ) → Transfer → Transfer
settle_literal block x =
    cond (not (idle x) || done_literal x) x
    (cond x.sets.received_status (requeued_literal x) (waits block x))

-- `(0..n).collect()`: all of n frames queued
abbrev pub collected : (n : ℕ) → ℕ
collected zero = 0
collected (suc n) = with_bit (collected n) n

-- a transfer as `enqueue` makes it, and as a restart leaves it: a new echo and generation, every frame queued, nothing sent, seen or timed
abbrev pub starts_literal : Parcel → (echo generation : ℕ) → Transfer
starts_literal p echo generation = record {
  parcel = p;
  generation = record { 0 = generation };
  sets = record { queue = collected p.frames; in_flight = 0; transmitted = 0; observed = 0; received_status = false };
  echo = echo;
  blocks = record { last_progress = None; last_frame = None; waiting_since = None };
}

-- `queue.push_back(frames.len() - 1)`
abbrev pub last_pushed : Transfer → Transfer
last_pushed x = queued x (with_bit x.sets.queue (x.parcel.frames - 1))

-- what `status` does to the transfer: a Continue that the map shows is observed if it is transmitted or in flight
abbrev pub observes_literal : (map block : ℕ) → Transfer → Transfer
observes_literal map block x =
    with_blocks
    (with_sets x (record {
      queue = x.sets.queue;
      in_flight = x.sets.in_flight;
      transmitted = x.sets.transmitted;
      observed = set_where (x.parcel.frames - 1) (λ index. has map index && (has x.sets.transmitted (suc index) || has x.sets.in_flight (suc index))) x.sets.observed;
      received_status = true;
    }))
    (record { last_progress = Some block; last_frame = x.blocks.last_frame; waiting_since = None })

-- ---- advance

-- the search of `allocate_echo`: the 128 echoes in turn, from `next_echo` on
unfoldable pub search_literal : Echoes → (now : ℕ) → Option ℕ
search_literal e now = find (λ index. leb (get_or e.echo_until_ms index 0) now) (map (λ offset. (e.next_echo + offset) % echo_values) (range echo_values 0))

-- the echo that it found is held, and the next search starts behind it; none found is EchoExhausted (21)
abbrev pub takes_literal : Echoes → (until : ℕ) → Option ℕ → Outcome (ℕ × Echoes)
takes_literal e until None = refuses 21
takes_literal e until (Some index) = gives (index, record { echo_until_ms = set e.echo_until_ms index until; next_echo = (index + 1) % echo_values })

-- `allocate_echo`: before the first block 21; a sum that does not fit 23; else the echo, and the holds that it leaves
abbrev pub allocate_literal : View → (now deadline : ℕ) → Outcome (ℕ × Echoes)
allocate_literal v now deadline =
    let until = deadline + v.limits.echo_guard_ms in
    refuse (ltb v.clock.last_block v.limits.startup_until_block) 21
    (refuse (ltb stop until) 23
    (takes_literal v.echoes until (search_literal v.echoes now)))

-- a restart has asked it: EchoExhausted (21) is Failed; any other refusal ends `advance`, with the transfer back at the front. (A new
-- generation is a token; the counter is not the Rust's.)
abbrev pub restarting : View → Transfer → (later : List Transfer) → Outcome (ℕ × Echoes) → After Unit View
restarting v x later (gives a) = says tt (kept (token_taken (clear_selected (with_echoes v a.1) x.generation)) (starts_literal x.parcel a.0 v.next_token))
restarting v x later (refuses n) =
    cond (eqb n 21) (says tt (ended v x (Failed x.parcel.completion EchoExhausted)))
    (record { outcome = refuses n; state = with_transfers v (x ∷ later ++ v.transfers) })

-- one turn of the loop, for a transfer and its `restart_requested`: v has those that went on, and `later` come after it. (`block`
-- and `now_ms` are the clock's: `clock` has let them through.)
unfoldable pub turn : View → (asked : Bool) → Transfer → (later : List Transfer) → After Unit View
turn v asked x later =
    let late = overdue v.clock x in
    let y = settle_literal v.clock.last_block x in
    cond (late || done_literal x) (says tt (ended v x (cond late (Expired x.parcel.completion) (Complete x.parcel.completion))))
    (cond (asked || restart_due v.clock.last_block y)
    (restarting v y later (allocate_literal v v.clock.last_ms y.parcel.deadline_ms))
    (says tt (kept v y)))

-- the Rust's `?`: a refusal ends the call, and leaves the sender as it is by then
abbrev pub through : {A : Type 0} → Outcome Unit → View → (next : View → After A View) → After A View
through (gives u) v next = next v
through (refuses n) v next = record { outcome = refuses n; state = v }

-- the loop: a turn for each
unfoldable pub loop : View → List (Bool × Transfer) → After Unit View
loop v [] = says tt v
loop v (p ∷ l) = let a = turn v p.0 p.1 (map (λ q. q.1) l) in through a.outcome a.state (λ w. loop w l)

-- the loop over all transfers, marked or not, and what follows it
abbrev pub looping : {A : Type 0} → View → List (Bool × Transfer) → (next : View → After A View) → After A View
looping v l next = let a = loop (with_transfers v []) l in through a.outcome a.state next

-- `self.advance(block, now_ms)?`, where a call begins with it (with 16 and 18, which are added)
abbrev pub entering : {A : Type 0} → View → Lent → (block now : ℕ) → (next : View → After A View) → After A View
entering v m block now next = onward v (admitted v m block now) (λ w. looping w (unasked w.transfers) next)

-- and inside a call: `clock` once more, refused 22
abbrev pub advancing : {A : Type 0} → View → (block now : ℕ) → (next : View → After A View) → After A View
advancing v block now next = onward v (ticked v block now) (λ w. looping w (unasked w.transfers) next)

-- ---- enqueue

-- what `enqueue` tests, up to the cut under echo 0, which gives how many frames there are
abbrev pub asks_literal : View → Request → (message : List ℕ) → Outcome ℕ
asks_literal v r message =
    refuse (leb v.limits.capacity (length v.events)) 20
    (refuse (leb r.deadline_ms v.clock.last_ms) 23
    (refuse (eqb (length message) 0) 1
    (refuse (not (any (addressed r.identity) v.transfers) && eqb (length v.transfers) v.limits.capacity) 20
    (count_of (header_of r.channel 0 false) r.identity message))))

-- the old transfer to the identity is removed and Cancelled, the new one put at the back. (Its place n in the lent memory, and the message
-- there, are not the Rust's.)
abbrev pub pushes_literal : View → Lent → Request → (message : List ℕ) → (echo count : ℕ) → Out TransferToken
pushes_literal v m r message echo count =
    let w = seek (addressed r.identity) v.transfers v (cancel_at v) in
    let n = lowest_n w.transfers in
    let t = v.next_token in
    record {
      outcome = gives (record { 0 = t });
      sender = token_taken (with_transfers w (push_back w.transfers (starts_literal (parcel_of r message count n t) echo t)));
      lent = record { octets = stored m.octets n message; words = m.words };
    }

-- `enqueue`: the message is cut under echo 0, the echo allocated, the message cut again under it
unfoldable pub enqueue_literal : View → Lent → Request → (message : List ℕ) → (block now : ℕ) → Out TransferToken
enqueue_literal v m r message block now =
    goes_on v m (admitted v m block now) (λ w.
    goes_on w m (asks_literal w r message) (λ first.
    goes_on w m (allocate_literal w now r.deadline_ms) (λ a.
    let u = with_echoes w a.1 in
    goes_on u m (count_of (header_of r.channel a.0 false) r.identity message) (λ count. pushes_literal u m r message a.0 count))))

-- ---- the calls that advance

-- `advance`
unfoldable pub advance_literal : View → Lent → (block now : ℕ) → After Unit View
advance_literal v m block now = entering v m block now (says tt)

-- a frame that was encoded is selected, under the next token as its submission
abbrev pub selects_literal : View → Transfer → (index : ℕ) → Outcome PackedFrame → After (Option PreparedFrame) View
selects_literal v x index (refuses n) = record { outcome = refuses n; state = v }
selects_literal v x index (gives p) =
    let f : PreparedFrame = record {
      identity = x.parcel.identity;
      octets = p.octets;
      token = record { generation = x.generation; submission = record { 0 = v.next_token }; frame = index };
      partial_echo = x.echo;
    } in
    says (Some f) (with_selected (token_taken v) (Some f))

-- `queue.front()` and `queue.len() == 1`: the front, polled if it is the only one
abbrev pub front_literal : View → Transfer → (octets queue : List ℕ) → After (Option PreparedFrame) View
front_literal v x octets [] = says None v
front_literal v x octets (index ∷ more) = selects_literal v x index (packed_of x octets index (eqb (length (index ∷ more)) 1))

-- `prepare` after its `advance`: the selected frame; else the front of the first queue that is not empty
abbrev pub choose_literal : View → (octets : List ℕ) → (selected : Option PreparedFrame) → After (Option PreparedFrame) View
choose_literal v octets (Some f) = says (Some f) v
choose_literal v octets None = seek is_ready v.transfers (says None v) (λ place x. front_literal v x octets (frames_of x.sets.queue))

-- `prepare`
unfoldable pub prepare_literal : View → Lent → (block now : ℕ) → After (Option PreparedFrame) View
prepare_literal v m block now = entering v m block now (λ w. choose_literal w m.octets w.selected)

-- `interrupt`: the first transfer of the echo is marked, then `advance`
unfoldable pub interrupt_literal : View → Lent → (echo block now : ℕ) → After Bool View
interrupt_literal v m echo block now =
    onward v (admitted v m block now) (λ w.
    seek (of_echo echo) w.transfers (says false w) (λ place x.
    onward w (ticked w block now) (λ u. looping u (set (unasked u.transfers) place (true, x)) (says true))))

-- `prepare_prioritized`: the last frame is queued again if nothing is queued or in flight and a frame was submitted; it ends with the whole of
-- `prepare`, whose `advance` is the second
unfoldable pub prepare_prioritized_literal : View → Lent → (echo block now : ℕ) → After (Option PreparedFrame) View
prepare_prioritized_literal v m echo block now =
    entering v m block now (λ w.
    seek (of_echo echo) w.transfers (says None w) (λ place x.
    let y = cond (idle x && is_set x.blocks.last_frame) (last_pushed x) x in
    let u = with_selected (with_transfers w (y ∷ remove_at place w.transfers)) (only_echo echo w.selected) in
    cond (is_ready y) (advancing u block now (λ w. choose_literal w m.octets w.selected)) (says None u)))

-- `submitted_message`: each frame is transmitted or in flight
unfoldable pub submitted_message_literal : View → FrameToken → Option ℕ
submitted_message_literal v t =
    seek (of_generation t.generation) v.transfers None (λ place x.
    cond (each x.parcel.frames (λ index. has x.sets.transmitted index || has x.sets.in_flight index)) (Some x.parcel.completion) None)

-- `transmitted`: `completed` is called if each frame is transmitted; the transfer is settled, then `advance`
unfoldable pub transmitted_literal : View → Lent → FrameToken → (block now : ℕ) → After (Option Bool) View
transmitted_literal v m t block now =
    onward v (admitted v m block now) (λ w.
    seek (of_generation t.generation) w.transfers (says None w) (λ place x.
    let y = confirm_frame t.frame x in
    cond (is_outstanding t m.words x)
    (advancing (put_at w place (settle_literal block y)) block now (says (Some (each y.parcel.frames (has y.sets.transmitted)))))
    (says None w)))

-- `status`: the transfer is settled before the second `advance`
unfoldable pub status_literal : View → Lent → ArqStatus → (block now : ℕ) → After Bool View
status_literal v m s block now =
    entering v m block now (λ w.
    seek (of_echo s.partial_echo) w.transfers (says false w) (λ place x.
    let y = observes_literal s.received_frames block x in
    cond (not (has x.sets.transmitted 0) && not (has x.sets.in_flight 0)) (says false w)
    (advancing (put_at w place (settle_literal block y)) block now (says true))))

-- the first loop of `refresh_waiting`: 16 blocks after its last frame a transfer with nothing queued or in flight has its last frame queued
abbrev pub refresh_literal : (block : ℕ) → Transfer → Transfer
refresh_literal block x = cond (idle x && passed refresh_blocks block x.blocks.last_frame) (last_pushed x) x

-- `last_frame.map`: the age of a transfer at a place
abbrev pub aged_literal : (block place : ℕ) → Option ℕ → Option (ℕ × ℕ)
aged_literal block place None = None
aged_literal block place (Some last) = Some (place, block - last)

-- `oldest`: of those that have a frame queued and are at least 16 blocks old, the greatest age, of equal ones the last
abbrev pub oldest_literal : (block : ℕ) → List Transfer → Option (ℕ × ℕ)
oldest_literal block l =
    max_by_key
    (filter (λ p. leb refresh_blocks p.1)
    (filter_map (λ p. aged_literal block p.0 p.1.blocks.last_frame)
    (filter (λ p. is_ready p.1)
    (enumerate 0 l))))

-- it is removed, and pushed to the front
abbrev pub fronted_literal : View → (oldest : Option (ℕ × ℕ)) → View
fronted_literal v None = v
fronted_literal v (Some p) = with_transfers v (get_or v.transfers p.0 blank_transfer ∷ remove_at p.0 v.transfers)

-- `if self.selected.is_none()`
abbrev pub served_literal : View → (selected : Option PreparedFrame) → View
served_literal v None = fronted_literal v (oldest_literal v.clock.last_block v.transfers)
served_literal v (Some f) = v

-- `refresh_waiting`
unfoldable pub refresh_waiting_literal : View → Lent → (block now : ℕ) → After Unit View
refresh_waiting_literal v m block now = entering v m block now (λ w.
    let u = with_transfers w (map (refresh_literal block) w.transfers) in
    says tt (served_literal u u.selected))
