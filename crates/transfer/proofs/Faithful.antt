-- Every prepared frame is cut from the message that was accepted for its transfer. Assumes nothing.
use Rattle.std.proofs.Common.{◌≡◌, ℕ, ◌+◌, ◌-◌, ◌*◌, ◌<◌, ◌≤◌, Bool, ◌||◌, eqb, ltb, ◌≢◌, List, [], ◌∷◌, ◌++◌, length, take, drop, Some, None, Option, sym, refl, ap, ◌∙◌, subst, ⊎_elim, append_assoc, append-nil, arith, length-append, length-drop, take-append-drop, length-take-le, drop-drop, drop_at, ltb-false, ltb-true}
use Rattle.std.proofs.lemmas.Bool.{cases_Bool}
use lib.Seq.{take-append_seam, take-append-le, drop-append-le, drop-append-add}
use Rattle.spach.specs.Refusal.{gives}
use Rattle.spach.proofs.Outcomes.{passed}
use Rattle.arq.specs.declared.PackedFrame.{PackedFrame}
use Rattle.transfer.specs.declared.TransferToken.{TransferToken}
use Rattle.transfer.specs.declared.Generation.{Generation}
use Rattle.transfer.specs.declared.Request.{Request}
use Rattle.transfer.specs.declared.Parcel.{Parcel}
use Rattle.transfer.specs.declared.Transfer.{Transfer}
use Rattle.transfer.specs.declared.PreparedFrame.{PreparedFrame}
use Rattle.transfer.specs.Queue.{one_left}
use Rattle.transfer.specs.State.{View, Lent, fresh, new_of, with_echoes, token_taken}
use Rattle.transfer.specs.Echo.{held_until, hold}
use Rattle.transfer.specs.Transfer.{message_of, begun}
use Rattle.transfer.specs.Advance.{kept}
use Rattle.transfer.specs.Enqueue.{lowest_n, parcel_of, stored}
use Rattle.transfer.specs.Prepare.{packed_of, front_of, prepared_of}
use Rattle.transfer.specs.Invariant.{All, all_none, all_more, Any, any-here, any-later, Live, Different, Sound}
use Rattle.transfer.specs.History.{Call, Acceptance, Done, does, Fresh, run_alone, Accepts, Traced, Faithful}
use Rattle.transfer.proofs.Listed.{all_map, all_head, all_tail, all_both, all_one, all_left, pairs_one}
use Rattle.transfer.proofs.Alive.{SameParcel}
use Rattle.transfer.proofs.Invariant.{different_sym}
use Rattle.transfer.proofs.Lives.{does-kept, fresh_kept}
use Rattle.transfer.proofs.Moves.{Last, silent, tells_one, accepts_one, takes_one, last-told, does_leaves}
use Rattle.transfer.proofs.Carried.{Lasting, Drawn, Right, Carries, right_in, moves_carries}

-- ---- the lent octets

module _ {A : Type 0} where
  -- a part that lies in the first of two lists
  part_first : (a b : List A) (i k : ℕ) → i + k ≤ length a → take k (drop i (a ++ b)) ≡ take k (drop i a)
  part_first a b i k h = rw (drop-append-le i a b (omega arith)) (take-append-le k (drop i a) b (simp length-drop (omega arith)))

-- the message that was put there
stored_own : (o : List ℕ) (n : ℕ) (message : List ℕ) → 255 * n ≤ length o → take (length message) (drop (255 * n) (stored o n message)) ≡ message
stored_own o n message h =
    let p = take (255 * n) o in
    let q = drop (255 * n + length message) o in
    rw (append_assoc p message q, drop_at p (message ++ q) (255 * n) (length-take-le (255 * n) o h)) (take-append_seam message q)

-- another part of at most 255 octets is as it was
stored_other : (o : List ℕ) (n : ℕ) (message : List ℕ) (i k : ℕ) → 255 * n ≤ length o → length message ≤ 255 → k ≤ 255 → n ≢ i → take k (drop (255 * i) (stored o n message)) ≡ take k (drop (255 * i) o)
stored_other o n message i k h size low ne = ⊎_elim (λ t. before (ltb-true i n t)) (λ t. behind (ltb-false i n t)) (cases_Bool (ltb i n))
  where
    p : List ℕ
    p = take (255 * n) o

    q : List ℕ
    q = drop (255 * n + length message) o

    long : length p ≡ 255 * n
    long = length-take-le (255 * n) o h

    before : i < n → take k (drop (255 * i) (stored o n message)) ≡ take k (drop (255 * i) o)
    before lt =
        ap (λ (l : List ℕ). take k (drop (255 * i) l)) (append_assoc p message q) ∙ (part_first p (message ++ q) (255 * i) k (omega (arith, long))
        ∙ (sym (part_first p (drop (255 * n) o) (255 * i) k (omega (arith, long))) ∙ ap (λ (l : List ℕ). take k (drop (255 * i) l)) (take-append-drop (255 * n) o)))

    behind : n ≤ i → take k (drop (255 * i) (stored o n message)) ≡ take k (drop (255 * i) o)
    behind le =
        let lt : n < i = omega (arith, ne) in
        let j = 255 * i - (255 * n + length message) in
        let all : length (p ++ message) ≡ 255 * n + length message = length-append p message ∙ ap (λ (z : ℕ). z + length message) long in
        let e : 255 * i ≡ length (p ++ message) + j = omega arith in
        let f : 255 * n + length message + j ≡ 255 * i = omega arith in
        ap (take k) (ap (λ (z : ℕ). drop z (stored o n message)) e ∙ (drop-append-add (p ++ message) q j ∙ (drop-drop j (255 * n + length message) o ∙ ap (λ (z : ℕ). drop z o) f)))

-- ---- what holds after a list of calls

-- a parcel is an accepted request's, with its deadline, and its part of the lent octets holds the message
record From (v : View) (m : Lent) (calls : List Call) (octets : List ℕ) (p : Parcel) : Type 0 where
  request : Request
  message : List ℕ
  accepted : Accepts v m calls request message p.owner
  identity : p.identity ≡ request.identity
  channel : p.channel ≡ request.channel
  deadline : p.deadline_ms ≡ request.deadline_ms
  held : take p.octets (drop (255 * p.n) octets) ≡ message

-- a frame is one of the transfer, polled or not, by the lent octets
record CutOf (octets : List ℕ) (f : PreparedFrame) (x : Transfer) : Type 0 where
  generation : f.token.generation ≡ x.generation
  echo : f.partial_echo ≡ x.echo
  identity : f.identity ≡ x.parcel.identity
  polling : Bool
  packed : packed_of x octets f.token.frame polling ≡ gives (record { octets = f.octets })

-- their generation is one
cut_own : (octets : List ℕ) (f : PreparedFrame) (x : Transfer) → CutOf octets f x → f.token.generation.0 ≡ x.generation.0
cut_own octets f x c = ap (λ (g : Generation). g.0) c.generation

-- it is one of each transfer of the same parcel, generation and echo
cut_like : (octets : List ℕ) (f : PreparedFrame) (x y : Transfer) → SameParcel y x → CutOf octets f x → CutOf octets f y
unfolding packed_of
cut_like octets f x y s c = record { generation = c.generation ∙ sym s.1; echo = c.echo ∙ sym s.2; identity = rw s.0 c.identity; polling = c.polling; packed = rw (s.0, s.2) c.packed }

-- by octets that hold the same message, too
cut_held : (octets new : List ℕ) (f : PreparedFrame) (x : Transfer) → message_of x new ≡ message_of x octets → CutOf octets f x → CutOf new f x
unfolding packed_of
cut_held octets new f x e c = record { generation = c.generation; echo = c.echo; identity = c.identity; polling = c.polling; packed = rw e c.packed }

-- the front of a queue is one
cut-front : (octets : List ℕ) (x : Transfer) (p : PackedFrame) (submission : ℕ) → front_of x octets ≡ gives p → CutOf octets (prepared_of x p submission) x
cut-front octets x p submission e = record { generation = refl; echo = refl; identity = refl; polling = one_left x.sets.queue; packed = e }

-- an acceptance stays one when more is called
pub accepts_more : (v : View) (m : Lent) (calls more : List Call) (r : Request) (message : List ℕ) (t : TransferToken) → Accepts v m calls r message t → Accepts v m (calls ++ more) r message t
accepts_more v m calls more r message t a =
    record {
      earlier = a.earlier;
      call = a.call;
      later = a.later ++ more;
      split = ap (λ (l : List Call). l ++ more) a.split ∙ append_assoc a.earlier (a.call ∷ a.later) more;
      accepted = a.accepted;
    }

-- and a parcel stays an accepted request's, while its part holds its message
from_more : (v : View) (m : Lent) (calls more : List Call) (octets new : List ℕ) (p : Parcel) → take p.octets (drop (255 * p.n) new) ≡ take p.octets (drop (255 * p.n) octets) → From v m calls octets p → From v m (calls ++ more) new p
from_more v m calls more octets new p e h =
    record {
      request = h.request;
      message = h.message;
      accepted = accepts_more v m calls more h.request h.message p.owner h.accepted;
      identity = h.identity;
      channel = h.channel;
      deadline = h.deadline;
      held = e ∙ h.held;
    }

-- what some element is, with a fact of every one
some_with : {A : Type 0} {P Q R : A → Type 0} {l : List A} → ((x : A) → P x → Q x → R x) → Any P l → All Q l → Any R l
some_with f (any-here {x = x} p) k = any-here (f x p (all_head k))
some_with f (any-later h) k = any-later (some_with f h (all_tail k))

-- that element
some_which : {A : Type 0} {P Q : A → Type 0} {l : List A} → Any P l → All Q l → (x : A) × Any (λ y. y ≡ x) l × P x × Q x
some_which (any-here {x = x} p) k = (x, any-here refl, p, all_head k)
some_which (any-later h) k = let r = some_which h (all_tail k) in (r.0, any-later r.1, r.2, r.3)

-- the message of a transfer that begins is put into a part of its own
pub begun-stored : (octets : List ℕ) (r : Request) (message : List ℕ) (frames echo t : ℕ) (u : View) → let n = lowest_n u.transfers in let y = begun (parcel_of r message frames n t) echo t in
    32640 ≤ length octets → Sound (kept (token_taken u) y) → All (λ x. message_of x (stored octets n message) ≡ message_of x octets) u.transfers × (message_of y (stored octets n message) ≡ message)
begun-stored octets r message frames echo t u long s =
    (all_map (λ x d. stored_other octets n message x.parcel.n x.parcel.octets low alive.accepted.most_octets d.1.accepted.most_octets d.0.place) (all_both others (all_left l (y ∷ []) s.transfers)), stored_own octets n message low)
  where
    l : List Transfer
    l = u.transfers

    n : ℕ
    n = lowest_n l

    y : Transfer
    y = begun (parcel_of r message frames n t) echo t

    alive : Live u.limits u.clock u.echoes (token_taken u).next_token y
    alive = all_one l y [] s.transfers

    low : 255 * n ≤ length octets
    low = let p = alive.place in let q = s.most_capacity in omega arith

    others : All (Different u.clock y) l
    others = subst (All (Different u.clock y)) (append-nil l) (pairs_one (different_sym u.clock) l y [] s.different)

module _ (v : View) (m : Lent) where
  -- both
  abbrev traces : List Call → (octets : List ℕ) → Lasting
  traces calls octets = record { Parcelled = From v m calls octets; Framed = CutOf octets; own = cut_own octets; like = cut_like octets }

  -- of a sender and lent octets, after these calls
  abbrev Holds : List Call → (octets : List ℕ) → View → Type 0
  Holds calls octets w = Carries (traces calls octets) w

  -- with more calls, and other octets in which each live transfer's message stands
  holds_more : (calls more : List Call) (octets new : List ℕ) (w : View) → All (λ x. message_of x new ≡ message_of x octets) w.transfers → Holds calls octets w → Holds (calls ++ more) new w
  holds_more calls more octets new w e h = (all_map (λ x k. from_more v m calls more octets new x.parcel k.0 k.1) (all_both e h.0), go w.selected h.1)
    where
      go : (s : Option PreparedFrame) → Drawn (traces calls octets) w.transfers s → Drawn (traces (calls ++ more) new) w.transfers s
      go None k = tt
      go (Some f) k = some_with (λ x c q. cut_held octets new f x q c) k e

  -- and the same octets
  same-octets : (octets : List ℕ) (l : List Transfer) → All (λ x. message_of x octets ≡ message_of x octets) l
  same-octets octets [] = all_none
  same-octets octets (x ∷ l) = all_more refl (same-octets octets l)

  -- a call that leaves the octets
  holds_called : (calls : List Call) (c : Call) (octets : List ℕ) (w : View) → Holds calls octets w → Holds (calls ++ c ∷ []) octets w
  holds_called calls c octets w h = holds_more calls (c ∷ []) octets octets w (same-octets octets w.transfers) h

  -- ---- enqueue

  module _ (calls : List Call) (c : Call) (octets : List ℕ) (r : Request) (message : List ℕ) where
    -- a transfer begins, of a part of its own
    begins_holds : (frames echo t : ℕ) (u : View) → let n = lowest_n u.transfers in let y = begun (parcel_of r message frames n t) echo t in
        Accepts v m (calls ++ c ∷ []) r message (record { 0 = t }) → 32640 ≤ length octets → Sound (kept (token_taken u) y) → Holds calls octets u → Holds (calls ++ c ∷ []) (stored octets n message) (kept (token_taken u) y)
    begins_holds frames echo t u a long s h =
        let n = lowest_n u.transfers in
        let y = begun (parcel_of r message frames n t) echo t in
        let o = stored octets n message in
        let b = begun-stored octets r message frames echo t u long s in
        let k : Holds (calls ++ c ∷ []) o u = holds_more calls (c ∷ []) octets o u b.0 h in
        right_in (traces (calls ++ c ∷ []) o) u.transfers y [] u.selected (record { request = r; message = message; accepted = a; identity = refl; channel = refl; deadline = refl; held = b.1 })
        (subst (λ z. Right (traces (calls ++ c ∷ []) o) z u.selected) (sym (append-nil u.transfers)) k)

  -- what a call does last, if what it accepts is accepted
  last_holds : (calls : List Call) (c : Call) {octets : List ℕ} {w : View} {d : Done} → Last octets w c d
      → ((x : Acceptance) → d.accepted ≡ Some x → Accepts v m (calls ++ c ∷ []) x.request x.message x.token) → Sound d.sender → Holds calls octets w → Holds (calls ++ c ∷ []) d.lent.octets d.sender
  last_holds calls c {octets} {w = w} silent k s h = holds_called calls c octets w h
  last_holds calls c {octets} {w = w} (tells_one f e p) k s h = holds_called calls c octets w h
  last_holds calls c {octets} {w = w} (accepts_one r message g i long p) k s h =
      let t = w.next_token in
      begins_holds calls c octets r message g.frames g.echo t (with_echoes w (hold w.echoes g.echo (held_until w.limits r.deadline_ms))) (k (record { token = record { 0 = t }; request = r; message = message }) refl) long s h
  last_holds calls c {octets} {d = d} (takes_one e l q) k s h = holds_called calls c octets d.sender h

  -- ---- every call

  module _ (calls : List Call) (w : View) (lent : Lent) (h : Holds calls lent.octets w) where
    -- what a call accepts is accepted
    accepted_call : (c : Call) → run_alone v m calls ≡ (w, lent) → (x : Acceptance) → (does w lent c).accepted ≡ Some x → Accepts v m (calls ++ c ∷ []) x.request x.message x.token
    accepted_call c e x q = record { earlier = calls; call = c; later = []; split = refl; accepted = subst (λ (y : View × Lent). (does y.0 y.1 c).accepted ≡ Some x) (sym e) q }

    -- before what it does last
    middle_holds : (c : Call) (s : Sound w) → Holds calls lent.octets (does_leaves w lent c s).middle
    middle_holds c s = moves_carries (traces calls lent.octets) (cut-front lent.octets) (does_leaves w lent c s).quietly.made h

    -- each call
    does_holds : (c : Call) → run_alone v m calls ≡ (w, lent) → Sound w → Holds (calls ++ c ∷ []) (does w lent c).lent.octets (does w lent c).sender
    does_holds c e s = last_holds calls c (does_leaves w lent c s).last (accepted_call c e) (does-kept w lent c s) (middle_holds c s)

    -- a frame that is told is selected then, and the transfers and the selection come from the calls before
    told : (c : Call) (f : PreparedFrame) → Sound w → (does w lent c).frame ≡ Some f → Holds calls lent.octets (does w lent c).sender × ((does w lent c).sender.selected ≡ Some f)
    told c f s e = let l = last-told f (does_leaves w lent c s).last e in (subst (Holds calls lent.octets) l.0 (middle_holds c s), l.1)

  -- a selected frame is traced
  traced : (calls : List Call) (octets : List ℕ) (w : View) (f : PreparedFrame) → Holds calls octets w → w.selected ≡ Some f → Traced v m calls w f
  unfolding packed_of
  traced calls octets w f h e =
      let k = some_which (subst (Drawn (traces calls octets) w.transfers) e h.1) h.0 in
      let x = k.0 in
      let c : CutOf octets f x = k.2 in
      let p : From v m calls octets x.parcel = k.3 in
      record {
        request = p.request;
        message = p.message;
        transfer = x;
        live = k.1;
        accepted = p.accepted;
        frame = record { generation = c.generation; echo = c.echo; identity = c.identity ∙ p.identity; polling = c.polling; octets = rw (← p.channel, ← p.identity, ← p.held) c.packed };
      }

  -- ---- any list of calls

  -- the sender is Sound, and holds so
  abbrev After : List Call → Type 0
  After calls = let at = run_alone v m calls in Sound at.0 × Holds calls at.1.octets at.0

  -- one more call, at the end
  run_more : (w : View) (lent : Lent) (calls : List Call) (c : Call) → let at = run_alone w lent calls in let d = does at.0 at.1 c in run_alone w lent (calls ++ c ∷ []) ≡ (d.sender, d.lent)
  unfolding run_alone
  run_more w lent [] c = refl
  run_more w lent (b ∷ calls) c = let d = does w lent b in run_more d.sender d.lent calls c

  -- it leaves such a sender
  after_more : (calls : List Call) (c : Call) → After calls → After (calls ++ c ∷ [])
  after_more calls c h =
      let at = run_alone v m calls in
      subst (λ p. Sound p.0 × Holds (calls ++ c ∷ []) p.1.octets p.0) (sym (run_more v m calls c)) (does-kept at.0 at.1 c h.0, does_holds calls at.0 at.1 h.1 c refl h.0)

  -- and so do all
  after_all : (calls more : List Call) → After calls → After (calls ++ more)
  after_all calls [] h = subst After (sym (append-nil calls)) h
  after_all calls (c ∷ more) h = subst After (append_assoc calls (c ∷ []) more) (after_all (calls ++ c ∷ []) more (after_more calls c h))

-- what the constructor made
pub fresh_is : (v : View) (f : Fresh v) → fresh f.capacity f.guard f.first_block f.first ≡ v
unfolding new_of
fresh_is v f =
    let p = passed (eqb f.capacity 0 || ltb 128 f.capacity) 19 (gives (fresh f.capacity f.guard f.first_block f.first)) f.made in
    let q = p.1 in
    cc

-- a fresh sender has no transfer and no selection
fresh_holds : (v : View) (m : Lent) → Fresh v → Holds v m [] m.octets v
fresh_holds v m f = subst (λ w. Carries (traces v m [] m.octets) w) (fresh_is v f) (all_none, tt)

-- what holds after any list of calls from a fresh sender
after-fresh : (v : View) (m : Lent) (calls : List Call) → Fresh v → After v m calls
unfolding run_alone
after-fresh v m calls f = after_all v m [] calls (fresh_kept v f, fresh_holds v m f)

-- every prepared frame is frame k of the cut, under its transfer's present echo, of the message that was accepted for that transfer
pub faithful : Faithful
faithful v m calls c f fr e =
    let at = run_alone v m calls in
    let h = after-fresh v m calls fr in
    let k = told v m calls at.0 at.1 h.1 c f h.0 e in
    traced v m calls at.1.octets (does at.0 at.1 c).sender f k.0 k.1

-- a transfer with the request and the message that were accepted under its owner's token: its deadline is the request's
abbrev pub Ordered : View → Lent → List Call → Transfer → Type 0
Ordered v m calls x = (r : Request) × (message : List ℕ) × Accepts v m calls r message x.parcel.owner × (x.parcel.deadline_ms ≡ r.deadline_ms)

-- every transfer is so after a call that prepares a frame
pub ordered : (v : View) (m : Lent) (calls : List Call) (c : Call) (f : PreparedFrame) → Fresh v →
    let at = run_alone v m calls in
    let d = does at.0 at.1 c in
    d.frame ≡ Some f → All (Ordered v m calls) d.sender.transfers
ordered v m calls c f fr e =
    let at = run_alone v m calls in
    let k = after-fresh v m calls fr in
    all_map (λ x h. (h.request, h.message, h.accepted, h.deadline)) (told v m calls at.0 at.1 k.1 c f k.0 e).0.0
