-- Two frames of one echo, the second prepared while the first one's hold lasts, are of one order. Assumes nothing.
use Rattle.std.proofs.Common.{◌≡◌, ℕ, ◌+◌, ◌<◌, ◌≤◌, false, ◌⊎◌, List, [], ◌∷◌, ◌++◌, Some, sym, refl, ap, ◌∙◌, subst, inl, inr, ⊎_elim, arith, leb-false}
use Rattle.spach.specs.Refusal.{gives, and_then}
use Rattle.arq.specs.Encode.{encode_of}
use Rattle.arq.specs.Cut.{frame_of}
use Rattle.transfer.specs.declared.Request.{Request}
use Rattle.transfer.specs.declared.Parcel.{Parcel}
use Rattle.transfer.specs.declared.Transfer.{Transfer}
use Rattle.transfer.specs.declared.PreparedFrame.{PreparedFrame}
use Rattle.transfer.specs.State.{Limits, View, Lent}
use Rattle.transfer.specs.Echo.{held_until}
use Rattle.transfer.specs.Transfer.{header_of}
use Rattle.transfer.specs.Advance.{overdue}
use Rattle.transfer.specs.Invariant.{All, Any, Pairs, Different, Sound}
use Rattle.transfer.specs.History.{Call, Done, does, Fresh, hold_of, run_alone, Accepts, IsFrameOf, Traced}
use Rattle.transfer.specs.Gate.{doing, HeldFor, OneOrder}
use Rattle.transfer.proofs.Listed.{all_both, all_one, all_rest, some-map, some_all, some_out, some_split, pairs_one}
use Rattle.transfer.proofs.Alive.{SameParcel}
use Rattle.transfer.proofs.Invariant.{different_sym}
use Rattle.transfer.proofs.Lives.{does-kept, fresh_kept}
use Rattle.transfer.proofs.Moves.{Prompt, last-told, does_leaves}
use Rattle.transfer.proofs.Taken.{Careful, does_careful}
use Rattle.transfer.proofs.Once.{accepted_once}
use Rattle.transfer.proofs.Faithful.{accepts_more, faithful, ordered}

-- ---- a sender and a later one

-- the limits stay, the clock does not go back, no hold gets shorter, and a transfer whose echo was held all the while was there
pub record Later (v w : View) : Type 0 where
  pub limits : w.limits ≡ v.limits
  pub since : v.clock.last_ms ≤ w.clock.last_ms
  pub holds : (echo : ℕ) → hold_of v echo ≤ hold_of w echo
  pub back : (y : Transfer) → w.clock.last_ms < hold_of v y.echo → Any (SameParcel y) w.transfers → Any (SameParcel y) v.transfers

-- as it was
self : (v : View) → Later v v
self v = record { limits = refl; since = omega arith; holds = λ echo. omega arith; back = λ y t o. o }

-- one after the other
then : (v u w : View) → Later v u → Later u w → Later v w
then v u w h k =
    let a = h.since in
    let b = k.since in
    record {
      limits = k.limits ∙ h.limits;
      since = omega arith;
      holds = λ echo. let p = h.holds echo in let q = k.holds echo in omega arith;
      back = λ y t o. let p = h.holds y.echo in h.back y (omega arith) (k.back y (omega arith) o);
    }

-- a call
does_later : (v : View) (m : Lent) (c : Call) → Sound v → Later v (does v m c).sender
does_later v m c h = record { limits = k.limits; since = k.since; holds = k.holds; back = λ y t o. some_all (go y t) o k.comes }
  where
    w : View
    w = (does v m c).sender

    k : Careful v w
    k = does_careful v m c h

    go : (y : Transfer) → w.clock.last_ms < hold_of v y.echo → (z : Transfer) → SameParcel y z → Any (SameParcel z) v.transfers ⊎ ((hold_of v z.echo ≤ w.clock.last_ms) × (w.clock.last_ms < z.parcel.deadline_ms)) → Any (SameParcel y) v.transfers
    go y t z s (inl o) = some-map (λ u p. (s.0 ∙ p.0, s.1 ∙ p.1, s.2 ∙ p.2)) o
    go y t z s (inr n) = let a = subst (λ e. hold_of v e ≤ w.clock.last_ms) (sym s.2) n.0 in absurd (omega arith)

-- a list of calls
pub run_later : (v : View) (m : Lent) (calls : List Call) → Sound v → let w = (run_alone v m calls).0 in Sound w × Later v w
unfolding run_alone
run_later v m [] h = (h, self v)
run_later v m (c ∷ l) h =
    let d = does v m c in
    let r = run_later d.sender d.lent l (does-kept v m c h) in
    (r.0, then v d.sender (run_alone d.sender d.lent l).0 (does_later v m c h) r.1)

-- and then one more
pub doing_later : (v : View) (m : Lent) (calls : List Call) (c : Call) → Sound v → let w = (doing v m calls c).sender in Sound w × Later v w
doing_later v m calls c h =
    let at = run_alone v m calls in
    let r = run_later v m calls h in
    (does-kept at.0 at.1 c r.0, then v at.0 (does at.0 at.1 c).sender r.1 (does_later at.0 at.1 c r.0))

-- two lists, one after the other
run-append : (v : View) (m : Lent) (a b : List Call) → run_alone v m (a ++ b) ≡ (let at = run_alone v m a in run_alone at.0 at.1 b)
unfolding run_alone
run-append v m [] b = refl
run-append v m (c ∷ a) b = let d = does v m c in run-append d.sender d.lent a b

-- after a call in the middle
pub run_behind : (v : View) (m : Lent) (a : List Call) (c : Call) (b : List Call) → run_alone v m (a ++ c ∷ b) ≡ (let d = doing v m a c in run_alone d.sender d.lent b)
unfolding run_alone
run_behind v m a c b = run-append v m a (c ∷ b)

-- ---- one echo, one order

-- of two transfers that are not overdue and have one echo, both are one
one_live : (w : View) (x y : Transfer) → Sound w → Prompt w → Any (λ z. z ≡ x) w.transfers → Any (SameParcel y) w.transfers → y.echo ≡ x.echo → SameParcel y x
one_live w x y h p i j e =
    let s = some_split i in
    let a = s.0 in
    let z = s.1 in
    let b = s.2 in
    let q : All (λ x. overdue w.clock x ≡ false) (a ++ z ∷ b) = subst (All (λ x. overdue w.clock x ≡ false)) s.3 p in
    let d = pairs_one (different_sym w.clock) a z b (subst (Pairs (Different w.clock)) s.3 h.different) in
    ⊎_elim (λ (k : SameParcel y z). subst (SameParcel y) s.4 k)
    (λ k. absurd (some_all (λ u t r. r.0.echo (all_one a z b q) r.1 (ap (λ (t : Transfer). t.echo) s.4 ∙ (sym e ∙ t.2))) k (all_both d (all_rest a z b q))))
    (some_out a z b (subst (Any (SameParcel y)) s.3 j))

-- a frame of one transfer is a frame of another of the same parcel, generation and echo
frame_as : (f : PreparedFrame) (y x : Transfer) (r s : Request) (a b : List ℕ) → SameParcel y x → r ≡ s → a ≡ b → IsFrameOf f y r a → IsFrameOf f x s b
frame_as f y x r s a b p q e h =
    subst (λ t. IsFrameOf f x t b) q (subst (IsFrameOf f x r) e
    (record {
      generation = h.generation ∙ p.1;
      echo = h.echo ∙ p.2;
      identity = h.identity;
      polling = h.polling;
      octets = subst (λ k. and_then (frame_of (header_of r.channel k h.polling) r.identity a f.token.frame) encode_of ≡ gives (record { octets = f.octets })) p.2 h.octets;
    }))

module _ (v : View) (m : Lent) (calls : List Call) (c : Call) (f : PreparedFrame) (fr : Fresh v) (e : (doing v m calls c).frame ≡ Some f) where
  -- the sender then
  abbrev then_sender : View
  then_sender = (doing v m calls c).sender

  -- none of it is overdue
  prompt : Prompt then_sender
  prompt = let at = run_alone v m calls in (last-told f (does_leaves at.0 at.1 c (run_later v m calls (fresh_kept v fr)).0).last e).2

  -- the order of its transfer, with its deadline
  own_deadline : (t : Traced v m calls then_sender f) → t.transfer.parcel.deadline_ms ≡ t.request.deadline_ms
  own_deadline t =
      some_all
      (λ z q o. let k : z ≡ t.transfer = q in
      let a = accepted_once v m calls o.0 t.request o.1 t.message t.transfer.parcel.owner fr (subst (λ (x : Transfer). Accepts v m calls o.0 o.1 x.parcel.owner) k o.2) t.accepted in
      ap (λ (x : Transfer). x.parcel.deadline_ms) (sym k) ∙ (o.3 ∙ ap (λ (r : Request). r.deadline_ms) a.0))
      t.live (ordered v m calls c f fr e)

  -- its echo is held so
  hold_is : (t : Traced v m calls then_sender f) → hold_of then_sender f.partial_echo ≡ held_until v.limits t.transfer.parcel.deadline_ms
  hold_is t =
      let k = doing_later v m calls c (fresh_kept v fr) in
      ap (hold_of then_sender) t.frame.echo
      ∙ some_all (λ z q l. subst (λ (x : Transfer). hold_of then_sender x.echo ≡ held_until v.limits x.parcel.deadline_ms) q (l.0.holds.held l.1 ∙ ap (λ (x : Limits). held_until x z.parcel.deadline_ms) k.1.limits))
      t.live (all_both k.0.transfers prompt)

  -- longer than a guard from now on: its transfer is not overdue
  pub hold_late : then_sender.clock.last_ms + v.limits.echo_guard_ms < hold_of then_sender f.partial_echo
  hold_late =
      let t = faithful v m calls c f fr e in
      let h = hold_is t in
      let d : then_sender.clock.last_ms < t.transfer.parcel.deadline_ms =
      some_all (λ z q p. subst (λ (x : Transfer). then_sender.clock.last_ms < x.parcel.deadline_ms) q (leb-false z.parcel.deadline_ms then_sender.clock.last_ms p))
      t.live prompt in
      omega arith

-- a prepared frame's echo is held until deadline plus guard of its order
pub held_for : HeldFor
held_for v m calls c f fr e t = hold_is v m calls c f fr e t ∙ ap (held_until v.limits) (own_deadline v m calls c f fr e t)

module _ (v : View) (m : Lent) (calls between : List Call) (c d : Call) (f g : PreparedFrame) (fr : Fresh v) where
  -- the call that prepares the first frame
  abbrev one : Done
  one = doing v m calls c

  -- all calls before the second
  abbrev before : List Call
  before = calls ++ c ∷ between

  -- the call that prepares it
  abbrev two : Done
  two = doing v m before d

  -- what it leaves, seen from the first
  pub between_later : Later one.sender two.sender
  between_later =
      subst (λ at. Later one.sender (does at.0 at.1 d).sender) (sym (run_behind v m calls c between))
      (doing_later one.sender one.lent between d (doing_later v m calls c (fresh_kept v fr)).0).1

  module _ (e : one.frame ≡ Some f) (q : g.partial_echo ≡ f.partial_echo) (late : two.sender.clock.last_ms < hold_of one.sender f.partial_echo) (t : Traced v m calls one.sender f) (s : Traced v m before two.sender g) where
    -- both are of one transfer
    one_transfer : SameParcel s.transfer t.transfer
    one_transfer =
        let x = t.transfer in
        let y = s.transfer in
        let h = (doing_later v m calls c (fresh_kept v fr)).0 in
        let i : Any (SameParcel y) two.sender.transfers = some-map (λ z r. (ap (λ (t : Transfer). t.parcel) (sym r), ap (λ (t : Transfer). t.generation) (sym r), ap (λ (t : Transfer). t.echo) (sym r))) s.live in
        let n : g.partial_echo ≡ y.echo = s.frame.echo in
        let l : two.sender.clock.last_ms < hold_of one.sender y.echo = subst (λ echo. two.sender.clock.last_ms < hold_of one.sender echo) (sym q ∙ n) late in
        one_live one.sender x y h (prompt v m calls c f fr e) t.live (between_later.back y l i) (sym n ∙ (q ∙ t.frame.echo))

    -- accepted for one request with one message
    one_request : (t.request ≡ s.request) × (t.message ≡ s.message)
    one_request =
        let a = accepted_once v m before t.request s.request t.message s.message t.transfer.parcel.owner fr
        (accepts_more v m calls (c ∷ between) t.request t.message t.transfer.parcel.owner t.accepted)
        (subst (λ (p : Parcel). Accepts v m before s.request s.message p.owner) one_transfer.0 s.accepted) in
        (a.0, a.1)

    -- so the second frame is one of the first one's order
    second_of_first : IsFrameOf g t.transfer t.request t.message
    second_of_first = frame_as g s.transfer t.transfer s.request t.request s.message t.message one_transfer (sym one_request.0) (sym one_request.1) s.frame

    -- and the first is one of the second one's
    pub first_of_second : IsFrameOf f s.transfer s.request s.message
    first_of_second =
        let p = one_transfer in
        frame_as f t.transfer s.transfer t.request s.request t.message s.message (sym p.0, sym p.1, sym p.2) one_request.0 one_request.1 t.frame

-- two frames of one echo, the second prepared while the first one's hold lasts, are of one order
pub one_order : OneOrder
one_order v m calls between c d f g fr e i q late t = second_of_first v m calls between c d f g fr e q late t (faithful v m (calls ++ c ∷ between) d g fr i)
