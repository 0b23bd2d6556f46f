-- A gate that hears a sender in time gets its own order, and so does one that hears two, the second starting late. Assumes nothing.
use Rattle.std.proofs.Common.{◌≡◌, ℕ, zero, suc, ◌+◌, ◌<◌, ◌≤◌, Bool, true, false, not, eqb, ltb, ◌≢◌, ◌⊎◌, List, [], ◌∷◌, ◌++◌, length, get_or, take, drop, replicate, Some, None, bytes_eq, sym, refl, ap, ◌∙◌, subst, inl, inr, ⊎_elim, arith, length-take, ltb-false, ltb-true, eqb-true}
use Rattle.std.proofs.lemmas.Bool.{both_ways, cases_Bool}
use mathlib.Core.List.Memᴰ
use mathlib.Core.List.{Memᴰ, head-eq_of_cons-eq, tail-eq_of_cons-eq}
use borrow.Author.Tests.{eqb-false, not-false}
use Rattle.field.specs.Bits.{bits_of}
use Rattle.field.specs.Layout.{up_to}
use Rattle.field.proofs.Cuts.{up_to_of_take, up_to_twice, bits_of_filled}
use Rattle.rach.specs.Identity.{encodable}
use Rattle.rach.specs.declared.MobileIdentity.{MobileIdentity}
use Rattle.spach.specs.declared.Channel.{Channel}
use Rattle.spach.specs.Refusal.{Outcome, gives, refuses, and_then}
use Rattle.spach.specs.Header.{usage_of}
use Rattle.spach.proofs.Outcomes.{passed, then-gives}
use Rattle.arq.specs.declared.FrameKind.TheVariants.{Begin, Continue}
use Rattle.arq.specs.declared.ArqHeader.{ArqHeader}
use Rattle.arq.specs.declared.ArqFrame.{ArqFrame}
use Rattle.arq.specs.declared.PackedFrame.{PackedFrame}
use Rattle.arq.specs.Frame.{room, begin_data_lem, continue_data_lem}
use Rattle.arq.specs.Encode.{encode_of}
use Rattle.arq.specs.Decode.{decode_of}
use Rattle.arq.specs.Cut.{continues, cut_frame, frame_of}
use Rattle.arq.specs.Round.{widened}
use Rattle.arq.proofs.Cuts.{room_most, begin_holds}
use Rattle.arq.proofs.Fragments.{counted}
use Rattle.arq.proofs.Round.{header_accepted}
use Rattle.arq.proofs.Theorems.{cut_decodes}
use Rattle.receiver.specs.declared.ArqReassembler.{ArqReassembler}
use Rattle.receiver.specs.declared.Reception.{Reception}
use Rattle.receiver.specs.declared.Reception.TheVariants.{Ignored, Accepted}
use Rattle.receiver.specs.Receiver as receivers
use Rattle.receiver.specs.Receiver.{Out, push_of, status_answer}
use Rattle.receiver.specs.Demand3.{Push, CutFrom, Such, OfCut, Fitting, Delivered, Undelivered, Delivers, Silent, runs, Holds}
use Rattle.receiver.proofs.Heard.{frame_is}
use Rattle.receiver.proofs.PushCases.{same-octets, octets-same, kinds_apart}
use Rattle.receiver.proofs.Whole.{demand3}
use Rattle.transfer.specs.declared.Request.{Request}
use Rattle.transfer.specs.declared.Transfer.{Transfer}
use Rattle.transfer.specs.declared.PreparedFrame.{PreparedFrame}
use Rattle.transfer.specs.State.{Limits, View, Lent}
use Rattle.transfer.specs.Echo.{held_until}
use Rattle.transfer.specs.Transfer.{header_of}
use Rattle.transfer.specs.History.{Call, Enqueue, does, Told, after, run, Fresh, Each, hold_of, Takes, Past, run_alone, Accepts, IsFrameOf, Traced}
use Rattle.transfer.specs.Gate.{doing, Sent, times_of, InTime, Listens, GetsOwn, InOctets, Gate, told, StartsLate, LateFrames, SentByTwo, times_of_two, GateOfTwo}
use Rattle.transfer.proofs.Listed.{some_all}
use Rattle.transfer.proofs.Lives.{fresh_kept}
use Rattle.transfer.proofs.Moves.{last_accepted, does_leaves}
use Rattle.transfer.proofs.Taken.{taken_free}
use Rattle.transfer.proofs.Holds.{only_taken}
use Rattle.transfer.proofs.Faithful.{accepts_more, fresh_is, faithful}
use Rattle.transfer.proofs.Refusals.{cut_gives}
use Rattle.transfer.proofs.Orders.{doing_later, run_later, run_behind, hold_late, between_later, first_of_second, one_order}

-- ---- what a prepared frame decodes to

-- polled or not, the cut gives its frames
cut_polled : (channel : Channel) (echo : ℕ) (p q : Bool) (i : MobileIdentity) (m : List ℕ) (k : ℕ) {f : ArqFrame} → frame_of (header_of channel echo p) i m k ≡ gives f
    → (length m ≤ 255) × (frame_of (header_of channel echo q) i m k ≡ gives (cut_frame (header_of channel echo q) i m k))
unfolding frame_of
cut_polled channel echo p q i m k e =
    let x = passed (ltb 255 (length m)) 1 _ e in
    let y = header_accepted (header_of channel echo p) _ x.1 in
    let z = passed (not (encodable i)) 2 _ y.2 in
    let w = passed (not (ltb k (1 + continues i (length m)))) 12 _ z.1 in
    let l = ltb-false 255 (length m) x.0 in
    let n : echo < 128 = let a = y.1 in omega arith in
    (l, cut_gives (header_of channel echo q) i m k l (eqb-false (usage_of channel) 7 y.0) n (not-false (encodable i) z.0) (ltb-true k (1 + continues i (length m)) (not-false _ w.0)))

-- the frame g is frame k of this cut, polled or not, as it is heard
record Airs (channel : Channel) (echo : ℕ) (i : MobileIdentity) (m : List ℕ) (k : ℕ) (g : ArqFrame) : Type 0 where
  polling : Bool
  cut : frame_of (header_of channel echo polling) i m k ≡ gives (cut_frame (header_of channel echo polling) i m k)
  same : g ≡ widened (cut_frame (header_of channel echo polling) i m k)

-- so is what a prepared frame decodes to
airs : (f : PreparedFrame) (x : Transfer) (r : Request) (m : List ℕ) (g : ArqFrame) → IsFrameOf f x r m → decode_of f.octets ≡ gives g → Airs r.channel x.echo r.identity m f.token.frame g
airs f x r m g h e =
    let c = header_of r.channel x.echo h.polling in
    let k = f.token.frame in
    let t = then-gives (frame_of c r.identity m k) encode_of h.octets in
    let n = t.0 in
    let s : n ≡ cut_frame c r.identity m k = (frame_is c r.identity m k t.1).0 in
    let b : decode_of f.octets ≡ gives (widened n) = sym (ap (λ (o : Outcome PackedFrame). and_then o (λ p. decode_of p.octets)) t.2) ∙ cut_decodes c r.identity m k n t.1 in
    let q : g ≡ widened n = let z = sym e ∙ b in cc in
    record { polling = h.polling; cut = t.1 ∙ ap gives s; same = q ∙ ap widened s }

-- its header is the cut's
cut_header : (h : ArqHeader) (i : MobileIdentity) (m : List ℕ) (k : ℕ) → (widened (cut_frame h i m k)).header ≡ h
cut_header h i m zero = refl
cut_header h i m (suc k) = refl

-- so its echo is
airs_echo : {channel : Channel} {echo : ℕ} {i : MobileIdentity} {m : List ℕ} {k : ℕ} {g : ArqFrame} → Airs channel echo i m k g → g.header.partial_echo ≡ echo
airs_echo {channel} {echo} {i} {m} {k} a = ap (λ (f : ArqFrame). f.header.partial_echo) a.same ∙ ap (λ (h : ArqHeader). h.partial_echo) (cut_header (header_of channel echo a.polling) i m k)

-- a Begin that is heard is cut from the message
begin_cut : (channel : Channel) (echo : ℕ) (i : MobileIdentity) (m : List ℕ) (k : ℕ) (g : ArqFrame) → g.kind ≡ Begin → (a : Airs channel echo i m k g) → (g.identity ≡ i) × CutFrom (header_of channel echo a.polling) i m g
begin_cut channel echo i m (suc k) g e a = absurd (kinds_apart e (ap (λ (f : ArqFrame). f.kind) a.same))
begin_cut channel echo i m zero g e a =
    let h = header_of channel echo a.polling in
    let bs : List Bool = take (room i) (bits_of m) in
    let short : length bs ≤ 56 = simp length-take (omega (arith, room_most i)) in (
      ap (λ (f : ArqFrame). f.identity) a.same,
      record {
        frame = cut_frame h i m 0;
        first = a.cut;
        identity = ap (λ (f : ArqFrame). f.identity) a.same;
        echo = ap (λ (f : ArqFrame). f.header.partial_echo) a.same;
        channel = ap (λ (f : ArqFrame). f.header.channel) a.same;
        octets = ap (λ (f : ArqFrame). f.message_octets) a.same;
        data_bits =
            ap (λ (f : ArqFrame). up_to (room i) (begin_data_lem f)) a.same
            ∙ ap (λ (l : List Bool). up_to (room i) (take (room i) l)) (bits_of_filled 7 bs)
            ∙ up_to_of_take (room i) (up_to 56 bs)
            ∙ up_to_twice (room i) 56 bs short
            ∙ ap (up_to (room i)) (sym (begin_holds h i m));
      },
    )

-- a Continue that is heard is one of the cut's, under the Begin's header too
continue_cut : (channel : Channel) (echo : ℕ) (p : Bool) (i : MobileIdentity) (m : List ℕ) (k : ℕ) (g : ArqFrame) → g.kind ≡ Continue → Airs channel echo i m k g → OfCut (header_of channel echo p) i m g
continue_cut channel echo p i m zero g e a = absurd (kinds_apart (ap (λ (f : ArqFrame). f.kind) a.same) e)
continue_cut channel echo p i m (suc k) g e a =
    record {
      k = k;
      frame = cut_frame (header_of channel echo p) i m (suc k);
      next = (cut_polled channel echo a.polling p i m (suc k) a.cut).1;
      number = ap (λ (f : ArqFrame). f.frame_number) a.same;
      data_bits = ap continue_data_lem a.same;
    }

-- ---- a message or none

-- lists are equal, if they cannot differ
stable_list : (a b : List ℕ) → ((a ≡ b → ⊥) → ⊥) → a ≡ b
stable_list a b h = ⊎_elim (same-octets a b) (λ e. absurd (h (λ q. both_ways _ e (subst (λ c. bytes_eq a c ≡ true) q (octets-same a))))) (cases_Bool (bytes_eq a b))

-- and so are numbers
stable : (a b : ℕ) → ((a ≡ b → ⊥) → ⊥) → a ≡ b
stable a b h = ⊎_elim (eqb-true a b) (λ e. absurd (h (eqb-false a b e))) (cases_Bool (eqb a b))

-- what delivers a message where something comes, and is silent where it does not, does the one or the other
either : {A : Type 0} (m b : List ℕ) (o : Out) → (A → Delivers m b o) → ((A → ⊥) → Silent b o) → Delivers m b o ⊎ Silent b o
either {A} m b o given none-given = go o.outcome refl
  where
    -- no message came
    quiet : (Delivered (length m) o.outcome → ⊥) → Delivers m b o ⊎ Silent b o
    quiet k = inr (none-given (λ a. k (given a).answer))

    go : (x : Outcome Reception) → o.outcome ≡ x → Delivers m b o ⊎ Silent b o
    go (gives (Accepted (Some d) r)) e =
        let not-silent : Silent b o → ⊥ = λ s. subst Undelivered e s.answer in
        inl (record {
          answer = subst (Delivered (length m)) (sym e) (stable d.length (length m) (λ k. not-silent (none-given (λ a. k (subst (Delivered (length m)) e (given a).answer)))));
          buffer = stable_list o.buffer (m ++ drop (length m) b) (λ k. not-silent (none-given (λ a. k (given a).buffer)));
        })
    go (gives (Accepted None r)) e = quiet (λ h. subst (Delivered (length m)) e h)
    go (gives Ignored) e = quiet (λ h. subst (Delivered (length m)) e h)
    go (refuses n) e = quiet (λ h. subst (Delivered (length m)) e h)

-- ---- one sender

-- two places of a list: one, or the second after the first, or before it
places : (a b c d : List Call) (x y : Call) → a ++ x ∷ b ≡ c ++ y ∷ d → ((a ≡ c) × (x ≡ y)) ⊎ (((e : List Call) × (c ≡ a ++ x ∷ e)) ⊎ ((e : List Call) × (a ≡ c ++ y ∷ e)))
places [] b [] d x y q = inl (refl, head-eq_of_cons-eq q)
places [] b (z ∷ c) d x y q = inr (inl (c, ap (λ (w : Call). w ∷ c) (sym (head-eq_of_cons-eq q))))
places (z ∷ a) b [] d x y q = inr (inr (a, ap (λ (w : Call). w ∷ a) (head-eq_of_cons-eq q)))
places (z ∷ a) b (w ∷ c) d x y q = go (head-eq_of_cons-eq q) (places a b c d x y (tail-eq_of_cons-eq q))
  where
    go : z ≡ w → ((a ≡ c) × (x ≡ y)) ⊎ (((e : List Call) × (c ≡ a ++ x ∷ e)) ⊎ ((e : List Call) × (a ≡ c ++ y ∷ e)))
        → ((z ∷ a ≡ w ∷ c) × (x ≡ y)) ⊎ (((e : List Call) × (w ∷ c ≡ z ∷ (a ++ x ∷ e))) ⊎ ((e : List Call) × (z ∷ a ≡ w ∷ (c ++ y ∷ e))))
    go h (inl s) = let i = s.0 in inl (cc, s.1)
    go h (inr (inl s)) = let i = s.1 in inr (inl (s.0, cc))
    go h (inr (inr s)) = let i = s.1 in inr (inr (s.0, cc))

module _ (v : View) (m : Lent) (calls : List Call) (fr : Fresh v) where
  -- what was sent is traced
  trace : {f : ArqFrame} (s : Sent v m calls f) → Traced v m s.earlier (doing v m s.earlier s.call).sender s.frame
  trace s = faithful v m s.earlier s.call s.frame fr s.prepared

  -- it is heard so
  sent_airs : {f : ArqFrame} (s : Sent v m calls f) → let t = trace s in Airs t.request.channel t.transfer.echo t.request.identity t.message s.frame.token.frame f
  sent_airs {f} s = let t = trace s in airs s.frame t.transfer t.request t.message f t.frame s.decodes

  -- under its own echo
  sent_echo : {f : ArqFrame} (s : Sent v m calls f) → s.frame.partial_echo ≡ f.header.partial_echo
  sent_echo s = (trace s).frame.echo ∙ sym (airs_echo (sent_airs s))

  -- its echo is held for longer than a guard
  sent_held : {f : ArqFrame} (s : Sent v m calls f) → (times_of s).prepared + (times_of s).guard < (times_of s).until
  sent_held s = hold_late v m s.earlier s.call s.frame fr s.prepared

  -- what a later call prepares was prepared at most a guard before, since the clock does not go back
  pub after-begin : {b f : ArqFrame} (s : Sent v m calls b) (u : Sent v m calls f) (e : List Call) → u.earlier ≡ s.earlier ++ s.call ∷ e → (times_of s).prepared ≤ (times_of u).prepared + (times_of u).guard
  after-begin s u e a =
      let h : (times_of s).prepared ≤ (times_of u).prepared = subst (λ l. (times_of s).prepared ≤ (doing v m l u.call).sender.clock.last_ms) (sym a) (between_later v m s.earlier e s.call u.call s.frame u.frame fr).since in
      omega arith

  module _ {b f : ArqFrame} (s : Sent v m calls b) (u : Sent v m calls f) (q : u.frame.partial_echo ≡ s.frame.partial_echo) (n : InTime (times_of s) (times_of u)) where
    -- the order of the first
    abbrev OfFirst : Type 0
    OfFirst = IsFrameOf u.frame (trace s).transfer (trace s).request (trace s).message

    -- both were prepared by one call
    same_call : s.earlier ≡ u.earlier → s.call ≡ u.call → OfFirst
    same_call a c =
        let h : (doing v m s.earlier s.call).frame ≡ Some u.frame = subst (λ l. (doing v m l s.call).frame ≡ Some u.frame) (sym a) (subst (λ d. (doing v m u.earlier d).frame ≡ Some u.frame) (sym c) u.prepared) in
        let e : s.frame ≡ u.frame = let z = sym s.prepared ∙ h in cc in
        subst (λ g. IsFrameOf g (trace s).transfer (trace s).request (trace s).message) e (trace s).frame

    -- the second by a later one
    later_call : (e : List Call) → u.earlier ≡ s.earlier ++ s.call ∷ e → OfFirst
    later_call e a =
        one_order v m s.earlier e s.call u.call s.frame u.frame fr s.prepared
        (subst (λ l. (doing v m l u.call).frame ≡ Some u.frame) a u.prepared) q
        (subst (λ l. (doing v m l u.call).sender.clock.last_ms < (times_of s).until) a n.1) (trace s)

    -- or by an earlier one
    earlier_call : (e : List Call) → s.earlier ≡ u.earlier ++ u.call ∷ e → OfFirst
    earlier_call e a =
        subst
        (λ l. (t : Traced v m l (doing v m l s.call).sender s.frame) → (doing v m l s.call).sender.clock.last_ms ≤ (times_of u).prepared + (times_of u).guard → IsFrameOf u.frame t.transfer t.request t.message)
        (sym a)
        (λ t z. let h = sent_held u in first_of_second v m u.earlier e u.call s.call u.frame s.frame fr u.prepared (sym q) (omega arith) (trace u) t)
        (trace s) n.0

    -- in any case the second is a frame of that order
    in_order : OfFirst
    in_order =
        ⊎_elim (λ p. same_call p.0 p.1) (λ p. ⊎_elim (λ r. later_call r.0 r.1) (λ r. earlier_call r.0 r.1) p)
        (places s.earlier s.later u.earlier u.later s.call u.call (sym s.split ∙ u.split))

  module _ (oc : InOctets calls) (i : MobileIdentity) (b : ArqFrame) (l : List Push) (h : Listens (Sent v m calls) (λ f s. times_of s) i b l) where
    -- the Begin's order
    abbrev order : Traced v m h.begin.earlier (doing v m h.begin.earlier h.begin.call).sender h.begin.frame
    order = trace h.begin

    -- the Begin as it is heard
    begins : Airs order.request.channel order.transfer.echo order.request.identity order.message h.begin.frame.token.frame b
    begins = sent_airs h.begin

    -- it is cut from that order's message
    cut : (b.identity ≡ order.request.identity) × CutFrom (header_of order.request.channel order.transfer.echo begins.polling) order.request.identity order.message b
    cut = begin_cut order.request.channel order.transfer.echo order.request.identity order.message h.begin.frame.token.frame b h.own.kind begins

    -- which is for the gate
    for_gate : order.request.identity ≡ i
    for_gate = sym cut.0 ∙ h.own.identity

    -- it was accepted
    accepted : Accepts v m calls order.request order.message order.transfer.parcel.owner
    accepted =
        subst (λ k. Accepts v m k order.request order.message order.transfer.parcel.owner) (sym h.begin.split)
        (accepts_more v m h.begin.earlier (h.begin.call ∷ h.begin.later) order.request order.message order.transfer.parcel.owner order.accepted)

    -- by an `enqueue`
    enqueued : (block : ℕ) × (now : ℕ) × (accepted.call ≡ Enqueue order.request order.message block now)
    enqueued =
        let at = run_alone v m accepted.earlier in
        let k = last_accepted (record { token = order.transfer.parcel.owner; request = order.request; message = order.message }) (does_leaves at.0 at.1 accepted.call (run_later v m accepted.earlier (fresh_kept v fr)).0).last accepted.accepted in
        (k.0, k.1, k.2)

    -- each such Continue is one of its cut
    piece : (f : ArqFrame) → Memᴰ f h.rest → Such i b f → OfCut (header_of order.request.channel order.transfer.echo begins.polling) i order.message f
    piece f j su =
        let p = h.pieces f j su in
        let u = p.0 in
        let q : u.frame.partial_echo ≡ h.begin.frame.partial_echo = sent_echo u ∙ (su.echo ∙ sym (sent_echo h.begin)) in
        let a = airs u.frame order.transfer order.request order.message f (in_order h.begin u q p.1) u.decodes in
        subst (λ z. OfCut (header_of order.request.channel order.transfer.echo begins.polling) z order.message f) for_gate
        (continue_cut order.request.channel order.transfer.echo begins.polling order.request.identity order.message u.frame.token.frame f su.kind a)

    -- so the list fits
    fitting : Fitting i order.message b l
    fitting =
        record {
          octets = oc order.request order.message enqueued.0 enqueued.1 (subst (λ c. Memᴰ c calls) enqueued.2 (subst (Memᴰ accepted.call) (sym accepted.split) (Memᴰ.append_right accepted.earlier (Memᴰ.head refl))));
          size = (cut_polled order.request.channel order.transfer.echo begins.polling begins.polling order.request.identity order.message h.begin.frame.token.frame begins.cut).0;
          rest = h.rest;
          first = h.first;
          own = h.own;
          header = header_of order.request.channel order.transfer.echo begins.polling;
          cut-from = subst (λ z. CutFrom (header_of order.request.channel order.transfer.echo begins.polling) z order.message b) for_gate cut.1;
          lone = h.lone;
          pieces = piece;
        }

    -- and demand 3 holds of it
    holding : (s : ArqReassembler) → receivers.new_of i ≡ gives s → Holds receivers.new_of push_of status_answer i order.message b (1 + continues i (length order.message)) s l
    holding s made = demand3 i order.message b s l made fitting (1 + continues i (length order.message)) (counted fitting.header i order.message 0 fitting.cut-from.first)

    -- the gate gets its own order
    gets_own : GetsOwn v m calls i b l
    gets_own =
        record {
          request = order.request;
          message = order.message;
          token = order.transfer.parcel.owner;
          accepted = accepted;
          identity = for_gate;
          fits = fitting;
          holds = holding;
          only = λ s made a p c e.
              let k = (holding s made).each a p c e in
              either order.message p.buffer (push_of (runs receivers.new_of push_of status_answer s a) p.octets p.buffer) k.completing k.others;
        }

-- a gate that hears one sender in time gets its own order
pub gate : Gate
gate v m calls i b l fr oc h = gets_own v m calls fr oc i b l h

-- ---- two senders

-- a call in the middle of a list, with what it is lent then
each-told : (P : View → Told → Type 0) (w : View) (n : Lent) (a : List Call) (c : Call) (b : List Call) → Each P w (told w n (a ++ c ∷ b)) → let at = run_alone w n a in P at.0 (at.1, c)
unfolding Each told run_alone
each-told P w n [] c b h = h.0
each-told P w n (d ∷ a) c b h = let e = does w n d in each-told P e.sender e.lent a c b h.1

-- the sender after calls so told
run-told : (v : View) (m : Lent) (calls : List Call) → run v (told v m calls) ≡ (run_alone v m calls).0
unfolding run told run_alone
run-told v m [] = refl
run-told v m (c ∷ l) = let d = does v m c in run-told d.sender d.lent l

-- an echo is not held longer than every taking of it says
hold_past : (l : Limits) (echo time : ℕ) (v : View) (calls : List Told)
    → Each (λ u c. (echo : ℕ) → hold_of (after u c) echo ≢ hold_of u echo → (deadline : ℕ) × Takes u c echo deadline) v calls
    → Each (λ u c. (echo deadline : ℕ) → Takes u c echo deadline → (hold_of u echo ≤ (after u c).clock.last_ms) × (hold_of (after u c) echo ≡ held_until l deadline)) v calls
    → Each (λ u c. (deadline : ℕ) → Takes u c echo deadline → held_until l deadline ≤ time) v calls
    → hold_of v echo ≤ time → hold_of (run v calls) echo ≤ time
unfolding Each run
hold_past l echo time v [] o f p h = h
hold_past l echo time v (c ∷ calls) o f p h = hold_past l echo time (after v c) calls o.1 f.1 p.1 (⊎_elim same changed (cases_Bool (eqb (hold_of (after v c) echo) (hold_of v echo))))
  where
    same : eqb (hold_of (after v c) echo) (hold_of v echo) ≡ true → hold_of (after v c) echo ≤ time
    same e = let q = eqb-true (hold_of (after v c) echo) (hold_of v echo) e in omega arith

    changed : eqb (hold_of (after v c) echo) (hold_of v echo) ≡ false → hold_of (after v c) echo ≤ time
    changed e =
        let t = o.0 echo (eqb-false (hold_of (after v c) echo) (hold_of v echo) e) in
        let q = (f.0 echo t.0 t.1).1 in
        let r = p.0 t.0 t.1 in
        omega arith

-- zeros everywhere
none_held : (n k : ℕ) → ◌≡◌ {A = ℕ} (get_or (replicate n 0) k 0) 0
none_held zero k = refl
none_held (suc n) zero = refl
none_held (suc n) (suc k) = none_held n k

-- a fresh sender holds no echo
fresh-free : (v : View) → Fresh v → (echo : ℕ) → hold_of v echo ≡ 0
fresh-free v f echo = subst (λ w. hold_of w echo ≡ 0) (fresh_is v f) (none_held 128 echo)

-- what is asked of each call of the second sender
abbrev Waits : (v : View) (m : Lent) (first : List Call) (w : View) → View → Told → Type 0
Waits v m first w u c = w.limits.startup_until_block ≤ (after u c).clock.last_block → Past v (told v m first) (after u c).clock.last_ms

-- a sender that starts late prepares no frame before every hold of the first has ended
pub late_frames : LateFrames
late_frames v w m n first earlier later c f fv fw h e echo =
    let d = doing w n earlier c in
    let k = doing_later w n earlier c (fresh_kept w fw) in
    let u : w.limits.startup_until_block ≤ d.sender.clock.last_block =
    some_all (λ z q l. subst (λ (x : Limits). x.startup_until_block ≤ d.sender.clock.last_block) k.1.limits l.usable) (faithful w n earlier c f fw e).live k.0.transfers in
    let p : Past v (told v m first) d.sender.clock.last_ms = each-told (Waits v m first w) w n earlier c later h u in
    let z = fresh-free v fv echo in
    subst (λ x. hold_of x echo ≤ d.sender.clock.last_ms) (run-told v m first)
    (hold_past v.limits echo d.sender.clock.last_ms v (told v m first) (only_taken v (told v m first) fv) (taken_free v (told v m first) fv) (p echo) (omega arith))

-- so of a frame that it sent
sent_late : (v w : View) (m n : Lent) (first second : List Call) (f : ArqFrame) → Fresh v → Fresh w → StartsLate v m first w n second → (s : Sent w n second f) (echo : ℕ) → hold_of (run_alone v m first).0 echo ≤ (times_of s).prepared
sent_late v w m n first second f fv fw h s echo = late_frames v w m n first s.earlier s.later s.call s.frame fv fw (subst (StartsLate v m first w n) s.split h) s.prepared echo

-- until when an echo was held is not later than at the end
until_end : (v : View) (m : Lent) (calls : List Call) (f : ArqFrame) → Fresh v → (s : Sent v m calls f) → (times_of s).until ≤ hold_of (run_alone v m calls).0 s.frame.partial_echo
until_end v m calls f fr s =
    let d = doing v m s.earlier s.call in
    let h = (doing_later v m s.earlier s.call (fresh_kept v fr)).0 in
    subst (λ (at : View × Lent). (times_of s).until ≤ hold_of at.0 s.frame.partial_echo) (sym (ap (run_alone v m) s.split ∙ run_behind v m s.earlier s.call s.later))
    ((run_later d.sender d.lent s.later h).1.holds s.frame.partial_echo)

-- a gate that hears two senders, the second starting late, gets its own order of the one or of the other
pub gate_of_two : GateOfTwo
gate_of_two v w m n first second i b l fv fw ov ow late h = go h.begin h.pieces
  where
    go : (s : SentByTwo v w m n first second b) → ((f : ArqFrame) → Memᴰ f h.rest → Such i b f → (u : SentByTwo v w m n first second f) × InTime (times_of_two s) (times_of_two u)) → GetsOwn v m first i b l ⊎ GetsOwn w n second i b l
    go (inl s) k = inl (gate v m first i b l fv ov (record { rest = h.rest; first = h.first; own = h.own; lone = h.lone; begin = s; pieces = λ f j su. own f (k f j su) }))
      where
        own : (f : ArqFrame) → (u : SentByTwo v w m n first second f) × InTime (times_of s) (times_of_two u) → (u : Sent v m first f) × InTime (times_of s) (times_of u)
        own f (inl u, t) = (u, t)
        own f (inr u, t) =
            let x = sent_late v w m n first second f fv fw late u s.frame.partial_echo in
            let y = until_end v m first b fv s in
            let z = t.1 in
            absurd (omega arith)
    go (inr s) k = inr (gate w n second i b l fw ow (record { rest = h.rest; first = h.first; own = h.own; lone = h.lone; begin = s; pieces = λ f j su. own f (k f j su) }))
      where
        own : (f : ArqFrame) → (u : SentByTwo v w m n first second f) × InTime (times_of s) (times_of_two u) → (u : Sent w n second f) × InTime (times_of s) (times_of u)
        own f (inr u, t) = (u, t)
        own f (inl u, t) =
            let x = sent_late v w m n first second b fv fw late s u.frame.partial_echo in
            let y = until_end v m first f fv u in
            let a = sent_held v m first fv u in
            let z = t.0 in
            absurd (omega arith)
