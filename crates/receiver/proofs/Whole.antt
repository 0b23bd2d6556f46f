-- Demand 3, proved of the definitions that the receiver's code is equal to. Assumes nothing.
use Rattle.std.proofs.Common.{◌≡◌, ℕ, ◌+◌, ◌-◌, ◌<◌, ◌≤◌, false, not, ltb, ◌⊎◌, List, [], ◌∷◌, ◌++◌, length, Some, Option, sym, refl, ap, ◌∙◌, subst, inl, inr, ⊎_elim, append_assoc, append-nil, arith}
use mathlib.Core.List.{Memᴰ, Sublistᴰ, nil≢cons, cons≢nil, head-eq_of_cons-eq, tail-eq_of_cons-eq}
use Rattle.std.proofs.lemmas.Bool.{cases_Bool, cond-true, cond-false}
use Rattle.field.specs.Bits.{Octets}
use Rattle.rach.specs.Identity.{encodable}
use Rattle.rach.specs.declared.MobileIdentity.{MobileIdentity}
use Rattle.spach.specs.Refusal.{Outcome, gives, refuses}
use Rattle.spach.proofs.Outcomes.{passed}
use Rattle.arq.specs.declared.ArqHeader.{ArqHeader}
use Rattle.arq.specs.declared.ArqFrame.{ArqFrame}
use Rattle.arq.specs.Decode.{decode_of}
use Rattle.receiver.specs.declared.ArqReassembler.{ArqReassembler}
use Rattle.receiver.specs.declared.SingleMessage.{SingleMessage}
use Rattle.receiver.specs.declared.StatusRequest.{StatusRequest}
use Rattle.receiver.specs.declared.ArqStatus.{ArqStatus}
use Rattle.receiver.specs.Receiver.{Out, fresh, holding, new_of, push_of, push_decoded, push_frame, refusal, status_answer}
use Rattle.receiver.specs.Demand3.{Push, frame_in, heard, heards, BeginFor, CutFrom, Such, HeardNo, Fitting, Delivers, Silent, handed, runs, Completes, At, Holds, Demand3}
use Rattle.receiver.proofs.Heard.{Decoded, decoded, count-is}
use Rattle.receiver.proofs.Laws.{GivesMessage, DeliveryOf, push_delivers}
use Rattle.receiver.proofs.Hearing.{Opened, wanted, after, Inv, Stepped, Good, Begun, step, begin_step}

-- what the constructor makes
pub made-fresh : (i : MobileIdentity) (s : ArqReassembler) → new_of i ≡ gives s → s ≡ fresh i
unfolding new_of
made-fresh i s e = let p = passed (not (encodable i)) 2 _ e in cc

-- ---- pushes

abbrev pub push : ArqReassembler → Push → Out
push s p = push_of s p.octets p.buffer

abbrev pub run : ArqReassembler → List Push → ArqReassembler
run = runs new_of push_of status_answer

-- a push hears nothing and is refused, or hears a frame, which was decoded, and is that frame's push
pub record Quiet (s : ArqReassembler) (p : Push) : Type 0 where
  pub nothing : heard p ≡ []
  pub number : ℕ
  pub refused : push s p ≡ refusal number s p.buffer

pub record Hears (s : ArqReassembler) (p : Push) : Type 0 where
  pub frame : ArqFrame
  pub one : heard p ≡ frame ∷ []
  pub pushed : push s p ≡ push_frame s p.buffer frame
  pub decoded : Decoded frame

view : (s : ArqReassembler) (p : Push) → Quiet s p ⊎ Hears s p
unfolding push_of heard
view s p = ⊎_elim (λ e. inl (record { nothing = cond-true _ _ _ e; number = 16; refused = cond-true _ _ _ e })) (λ e. long e (decode_of p.octets) refl) (cases_Bool (ltb (length p.buffer) 255))
  where
    long : ltb (length p.buffer) 255 ≡ false → (d : Outcome ArqFrame) → decode_of p.octets ≡ d → Quiet s p ⊎ Hears s p
    long e (gives f) q = inr (record { frame = f; one = cond-false _ _ _ e ∙ ap frame_in q; pushed = cond-false _ _ _ e ∙ ap (push_decoded s p.buffer) q; decoded = decoded p.octets f q })
    long e (refuses n) q = inl (record { nothing = cond-false _ _ _ e ∙ ap frame_in q; number = n; refused = cond-false _ _ _ e ∙ ap (push_decoded s p.buffer) q })

heards-append : (a c : List Push) → heards (a ++ c) ≡ heards a ++ heards c
heards-append [] c = refl
heards-append (p ∷ a) c = rw (heards-append a c) (sym (append_assoc (heard p) (heards a) (heards c)))

quiet_state : (s : ArqReassembler) (p : Push) → Quiet s p → after s (push s p) ≡ s
quiet_state s p q = ap (after s) q.refused

quiet_silent : (s : ArqReassembler) (p : Push) → Quiet s p → Silent p.buffer (push s p)
quiet_silent s p q = rw q.refused (record { answer = tt; buffer = refl })

heards_quiet : (p : Push) (a : List Push) → heard p ≡ [] → heards (p ∷ a) ≡ heards a
heards_quiet p a e = rw e

heards_loud : (p : Push) (a : List Push) (f : ArqFrame) → heard p ≡ f ∷ [] → heards (p ∷ a) ≡ f ∷ heards a
heards_loud p a f e = rw e

-- while nothing is heard the state stays
still : (a : List Push) (s : ArqReassembler) → heards a ≡ [] → run s a ≡ s
still [] s e = refl
still (p ∷ a) s e = ⊎_elim (quiet (still a s)) loud (view s p)
  where
    quiet : (heards a ≡ [] → run s a ≡ s) → Quiet s p → run (after s (push s p)) a ≡ s
    quiet ih q = rw (quiet_state s p q) (ih (sym (heards_quiet p a q.nothing) ∙ e))

    loud : Hears s p → run (after s (push s p)) a ≡ s
    loud x = absurd (cons≢nil (sym (heards_loud p a x.frame x.one) ∙ e))

-- all that one list hears another hears
heard_sub : {xs ys : List ArqFrame} → Sublistᴰ xs ys → (f : ArqFrame) → Memᴰ f xs → Memᴰ f ys
heard_sub Sublistᴰ.slnil f j = j
heard_sub (Sublistᴰ.cons d) f j = mathlib.Core.List.Memᴰ.tail (heard_sub d f j)
heard_sub (Sublistᴰ.cons-cons e d) f j = ⊎_elim (λ q. mathlib.Core.List.Memᴰ.head (q ∙ e)) (λ k. mathlib.Core.List.Memᴰ.tail (heard_sub d f k)) (mathlib.Core.List.Memᴰ.cases_cons j)

-- ---- the invariant along a list

module _ (h : ArqHeader) (i : MobileIdentity) (m : List ℕ) (b : ArqFrame) where
  abbrev Goods : List ArqFrame → Type 0
  Goods fs = (f : ArqFrame) → Memᴰ f fs → Good h i m b f

  -- the run after a push
  abbrev Onward : List Push → Type 0
  Onward l = (hs : List ArqFrame) (s : ArqReassembler) → Inv i m b hs s → Goods (heards l) → Inv i m b (hs ++ heards l) (run s l)

  module _ (oc : Octets m) (size : length m ≤ 255) where
    module _ (p : Push) (l : List Push) (hs : List ArqFrame) (s : ArqReassembler) (v : Inv i m b hs s) (g : Goods (heards (p ∷ l))) (ih : Onward l) where
      quiet-run : Quiet s p → Inv i m b (hs ++ heards (p ∷ l)) (run (after s (push s p)) l)
      quiet-run q = rw (quiet_state s p q, heards_quiet p l q.nothing) (ih hs s v (λ f j. g f (rw (heards_quiet p l q.nothing) j)))

      loud_state : (x : Hears s p) → Inv i m b (hs ++ x.frame ∷ []) (after s (push s p))
      loud_state x = rw x.pushed (step oc size x.frame p.buffer x.decoded (g x.frame (rw (heards_loud p l x.frame x.one) (mathlib.Core.List.Memᴰ.head refl))) v).inv

      loud_run : Hears s p → Inv i m b (hs ++ heards (p ∷ l)) (run (after s (push s p)) l)
      loud_run x =
          let e : heards (p ∷ l) ≡ x.frame ∷ heards l = heards_loud p l x.frame x.one in
          let all : Inv i m b (hs ++ x.frame ∷ [] ++ heards l) (run (after s (push s p)) l) =
          ih (hs ++ x.frame ∷ []) (after s (push s p)) (loud_state x) (λ y j. g y (rw e (mathlib.Core.List.Memᴰ.tail j))) in
          rw e (rw (append_assoc hs (x.frame ∷ []) (heards l)) at all)

      run-cons : Inv i m b (hs ++ heards (p ∷ l)) (run (after s (push s p)) l)
      run-cons = ⊎_elim quiet-run loud_run (view s p)

    run_inv : (l : List Push) → Onward l
    run_inv [] hs s v g = rw append-nil v
    run_inv (p ∷ l) hs s v g = run-cons p l hs s v g (run_inv l)

    begin_state : BeginFor i b → CutFrom h i m b → (p : Push) (x : Hears (fresh i) p) → x.frame ≡ b → Inv i m b (b ∷ []) (after (fresh i) (push (fresh i) p))
    begin_state own cut p x same =
        let w : push (fresh i) p ≡ push_frame (fresh i) p.buffer b = x.pushed ∙ ap (push_frame (fresh i) p.buffer) same in
        rw w (begin_step oc size (subst Decoded same x.decoded) own cut p.buffer).inv

    -- from a fresh receiver on, the Begin heard first
    from_start : BeginFor i b → CutFrom h i m b → (l : List Push) (r : List ArqFrame) → heards l ≡ b ∷ r → Goods r → Inv i m b (heards l) (run (fresh i) l)
    from_start own cut [] r e g = absurd (nil≢cons e)
    from_start own cut (p ∷ l) r e g = ⊎_elim (quiet (from_start own cut l r)) loud (view (fresh i) p)
      where
        Goal : Type 0
        Goal = Inv i m b (heards (p ∷ l)) (run (after (fresh i) (push (fresh i) p)) l)

        quiet : (heards l ≡ b ∷ r → Goods r → Inv i m b (heards l) (run (fresh i) l)) → Quiet (fresh i) p → Goal
        quiet ih q = rw (quiet_state (fresh i) p q, heards_quiet p l q.nothing) (ih (sym (heards_quiet p l q.nothing) ∙ e) g)

        loud : Hears (fresh i) p → Goal
        loud x =
            let e' : x.frame ∷ heards l ≡ b ∷ r = sym (heards_loud p l x.frame x.one) ∙ e in
            let same : x.frame ≡ b = head-eq_of_cons-eq e' in
            let tail : heards l ≡ r = tail-eq_of_cons-eq e' in
            let all : Inv i m b (b ∷ heards l) (run (after (fresh i) (push (fresh i) p)) l) =
            run_inv l (b ∷ []) (after (fresh i) (push (fresh i) p)) (begin_state own cut p x same) (λ y j. g y (rw tail at j)) in
            rw (heards_loud p l x.frame x.one, same) all

-- ---- a list that fits

module _ {i : MobileIdentity} {m : List ℕ} {b : ArqFrame} {l : List Push} (fits : Fitting i m b l) where
  good_rest : (f : ArqFrame) → Memᴰ f fits.rest → Good fits.header i m b f
  good_rest f j = record { lone = fits.lone f j; piece_of = fits.pieces f j }

  -- at the end of the list
  end_inv : Inv i m b (heards l) (run (fresh i) l)
  end_inv = from_start fits.header i m b fits.octets fits.size fits.own fits.cut-from l fits.rest fits.first good_rest

  -- the frames of a first part: none, or the Begin and some of the rest
  abbrev Started : List Push → Type 0
  Started a = (r : List ArqFrame) × (heards a ≡ b ∷ r) × ((f : ArqFrame) → Memᴰ f r → Good fits.header i m b f)

  first_part : (a c : List Push) → l ≡ a ++ c → (heards a ≡ []) ⊎ Started a
  first_part a c e = go (heards a) refl
    where
      joined : heards a ++ heards c ≡ b ∷ fits.rest
      joined = sym (heards-append a c) ∙ ap heards (sym e) ∙ fits.first

      go : (x : List ArqFrame) → heards a ≡ x → (heards a ≡ []) ⊎ Started a
      go [] q = inl q
      go (y ∷ ys) q =
          let all : y ∷ (ys ++ heards c) ≡ b ∷ fits.rest = rw q at joined in
          let rest : ys ++ heards c ≡ fits.rest = tail-eq_of_cons-eq all in
          inr (ys, rw (← head-eq_of_cons-eq all) q, λ f j. good_rest f (rw rest at (mathlib.Core.List.Memᴰ.append_left (heards c) j)))

  -- after a first part in which something was heard
  part_inv : (a c : List Push) → l ≡ a ++ c → (heards a ≡ [] → ⊥) → Inv i m b (heards a) (run (fresh i) a)
  part_inv a c e some-heard =
      ⊎_elim (λ n. absurd (some-heard n)) (λ (x : Started a). from_start fits.header i m b fits.octets fits.size fits.own fits.cut-from a x.0 x.1 x.2) (first_part a c e)

  -- the push p after the pushes a, with c after it
  module _ (a : List Push) (p : Push) (c : List Push) (e : l ≡ a ++ p ∷ c) where
    abbrev before : ArqReassembler
    before = run (fresh i) a

    abbrev Comes : Type 0
    Comes = Completes i b (wanted i m) a p

    -- it delivers the message if it completes the set, else nothing
    pub record Both : Type 0 where
      pub completing : Comes → Delivers m p.buffer (push before p)
      pub others : (Comes → ⊥) → Silent p.buffer (push before p)

    -- a push that hears nothing completes nothing
    quiet_both : Quiet before p → Both
    quiet_both q =
        record {
          completing = λ w. absurd (⊎_elim (λ x. nil≢cons (sym q.nothing ∙ x.hears)) (λ x. nil≢cons (sym q.nothing ∙ x.hears)) w);
          others = λ w. quiet_silent before p q;
        }

    heard_one : (f g : ArqFrame) → heard p ≡ f ∷ [] → heard p ≡ g ∷ [] → g ≡ f
    heard_one f g x y = head-eq_of_cons-eq (sym y ∙ x)

    -- the first frame heard is the Begin
    begin_both : heards a ≡ [] → Hears before p → Both
    begin_both z x = record { completing = given; others = silent }
      where
        f : ArqFrame
        f = x.frame

        is_b : f ≡ b
        is_b = head-eq_of_cons-eq (sym (rw (z, x.one) at (heards-append a (p ∷ c))) ∙ ap heards (sym e) ∙ fits.first)

        w' : push before p ≡ push_frame (fresh i) p.buffer b
        w' = x.pushed ∙ ap (λ (x : ArqReassembler). push_frame x p.buffer f) (still a (fresh i) z) ∙ ap (push_frame (fresh i) p.buffer) is_b

        bg : Begun i m b p.buffer (push before p)
        bg = rw w' (begin_step fits.octets fits.size (subst Decoded is_b x.decoded) fits.own fits.cut-from p.buffer)

        given : Comes → Delivers m p.buffer (push before p)
        given (inl w) = bg.all w.none_needed
        given (inr w) = let z : Such i b b = subst (λ (y : ArqFrame). Such i b y) (heard_one f w.frame x.one w.hears ∙ is_b) w.such in cc (fits.own.kind, z.kind)

        silent : (Comes → ⊥) → Silent p.buffer (push before p)
        silent no-comp = bg.more (λ nz. no-comp (inl (record { first = z; hears = rw is_b at x.one; none_needed = nz })))

    -- a frame heard after the Begin
    later_both : (r : List ArqFrame) → heards a ≡ b ∷ r → Inv i m b (heards a) before → Hears before p → Both
    later_both r z v x = record { completing = given; others = silent }
      where
        f : ArqFrame
        f = x.frame

        joined : b ∷ (r ++ (f ∷ heards c)) ≡ b ∷ fits.rest
        joined = sym (rw (z, x.one) at (heards-append a (p ∷ c))) ∙ ap heards (sym e) ∙ fits.first

        among : Memᴰ f fits.rest
        among =
            let j : Memᴰ f (r ++ (f ∷ heards c)) = mathlib.Core.List.Memᴰ.append_right r (mathlib.Core.List.Memᴰ.head refl) in
            rw (tail-eq_of_cons-eq joined) at j

        st : Stepped i m b (heards a) before v.transaction f p.buffer (push before p)
        st = rw x.pushed (step fits.octets fits.size f p.buffer x.decoded (good_rest f among) v)

        given : Comes → Delivers m p.buffer (push before p)
        given (inl w) = absurd (nil≢cons (sym w.first ∙ z))
        given (inr w) =
            let same : w.frame ≡ f = heard_one f w.frame x.one w.hears in
            st.last (
              subst (λ (y : ArqFrame). Such i b y) same w.such,
              subst (λ (y : ArqFrame). y.frame_number < wanted i m) same w.needed,
              (λ j. w.missing (subst (λ (y : ArqFrame). HeardNo i b (heards a) y.frame_number) (sym same) (v.core.sound f.frame_number j))),
              (λ k u ne. v.core.whole k (w.last k u (λ j. ne (j ∙ ap (λ (y : ArqFrame). y.frame_number) same)))),
            )

        silent : (Comes → ⊥) → Silent p.buffer (push before p)
        silent no-comp =
            st.other
            (λ la.
            no-comp
            (inr
            (record {
              frame = f;
              hears = x.one;
              such = la.0;
              needed = la.1;
              missing = λ y. la.2 (v.core.whole f.frame_number y);
              last = λ k u ne. v.core.sound k (la.3 k u ne);
            })))

    each_push : Both
    each_push =
        ⊎_elim quiet_both
        (λ (x : Hears before p).
        ⊎_elim (λ z. begin_both z x) (λ (o : Started a). later_both o.0 o.1 (part_inv a (p ∷ c) e (λ z. nil≢cons (sym z ∙ o.1))) x) (first_part a (p ∷ c) e))
        (view before p)

-- ---- the claim

-- what `status` gives
status_is : {i : MobileIdentity} {m : List ℕ} {b : ArqFrame} {hs : List ArqFrame} (s : ArqReassembler) (v : Inv i m b hs s)
    → status_answer s ≡ Some (record { partial_echo = b.header.partial_echo; received_frames = v.transaction.received_frames })
status_is s v = rw (v.held, v.core.opened.echo)

map_in : {i : MobileIdentity} {m : List ℕ} {b : ArqFrame} {l : List Push} (f : Fitting i m b l) (e w : ℕ)
    → status_answer (run (fresh i) l) ≡ Some (record { partial_echo = e; received_frames = w }) → w ≡ (end_inv f).transaction.received_frames
map_in {i} {b = b} {l = l} f e w x =
    let v = end_inv f in
    let z : ◌≡◌ {A = ArqStatus} (record { partial_echo = e; received_frames = w }) (record { partial_echo = b.header.partial_echo; received_frames = v.transaction.received_frames }) = cc (sym x ∙ status_is (run (fresh i) l) v) in
    ap (λ (t : ArqStatus). t.received_frames) z

module _ (i : MobileIdentity) (m : List ℕ) (b : ArqFrame) (l : List Push) (f : Fitting i m b l) where
  each_at : (a : List Push) (p : Push) (c : List Push) → l ≡ a ++ p ∷ c → At new_of push_of status_answer i m b (1 + wanted i m) (fresh i) a p
  each_at a p c e =
      let now : Both f a p c e = each_push f a p c e in
      let one : 1 + wanted i m - 1 ≡ wanted i m = omega arith in
      record {
        map_is = λ some-heard.
            let s : ArqReassembler = run (fresh i) (a ++ p ∷ []) in
            let v : Inv i m b (heards (a ++ p ∷ [])) s = part_inv f (a ++ p ∷ []) c (e ∙ sym (append_assoc a (p ∷ []) c)) some-heard in
            (v.transaction.received_frames, status_is s v, λ k. (v.core.sound k, v.core.whole k));
        completing = λ q. now.completing (rw one at q);
        others = λ q. now.others (rw one at q);
      }

  holds : Holds new_of push_of status_answer i m b (1 + wanted i m) (fresh i) l
  holds =
      record {
        each = each_at;
        second = λ s₁ made l₁ f₁ sub e w e₁ w₁ x x₁ k j.
            let x₂ : status_answer (run (fresh i) l₁) ≡ Some (record { partial_echo = e₁; received_frames = w₁ }) = rw (made-fresh i s₁ made) at x₁ in
            let q : HeardNo i b (heards l) k = (end_inv f).core.sound k (rw (map_in f e w x) at j) in
            rw (map_in f₁ e₁ w₁ x₂) ((end_inv f₁).core.whole k (q.0, heard_sub sub q.0 q.1, q.2, q.3));
      }

-- demand 3 holds
pub demand3 : Demand3
demand3 i m b s l made f count e = rw (made-fresh i s made, count-is f.header i m e) (holds i m b l f)

-- ---- the message's channel, flags and identity

-- the last push of a list
run_last : (s : ArqReassembler) (a : List Push) (p : Push) → run s (a ++ p ∷ []) ≡ after (run s a) (push (run s a) p)
run_last s [] p = refl
run_last s (q ∷ a) p = run_last (after s (push s q)) a p

-- a push that is answered by a message heard something
message_heard : (s : ArqReassembler) (a : List Push) (p : Push) (d : SingleMessage) (r : Option StatusRequest) → GivesMessage d r (push s p) → heards (a ++ p ∷ []) ≡ [] → ⊥
message_heard s a p d r g z = ⊎_elim quiet loud (view s p)
  where
    quiet : Quiet s p → ⊥
    quiet q = let e = ap (λ (o : Out). o.outcome) q.refused in cc g

    some : (fs : List ArqFrame) (f : ArqFrame) → fs ++ f ∷ [] ≡ [] → ⊥
    some [] f y = cons≢nil y
    some (h ∷ fs) f y = cons≢nil y

    loud : Hears s p → ⊥
    loud x = some (heards a) x.frame (sym (rw x.one at (heards-append a (p ∷ []))) ∙ z)

-- in a list as demand 3 has it, every message that is delivered has the Begin's channel and flags, and the receiver's identity
pub delivers_as_replaced : (i : MobileIdentity) (m : List ℕ) (b : ArqFrame) (s : ArqReassembler) (l : List Push) → new_of i ≡ gives s → Fitting i m b l
    → (a : List Push) (p : Push) (c : List Push) → l ≡ a ++ p ∷ c → (d : SingleMessage) (r : Option StatusRequest) → GivesMessage d r (push (run s a) p)
    → (d.channel ≡ b.header.channel) × (d.flags ≡ b.header.flags) × (d.identity ≡ i)
delivers_as_replaced i m b s l made f a p c e d r g = go s (made-fresh i s made) g
  where
    from_fresh : GivesMessage d r (push (run (fresh i) a) p) → (d.channel ≡ b.header.channel) × (d.flags ≡ b.header.flags) × (d.identity ≡ i)
    from_fresh x =
        let o : Out = push (run (fresh i) a) p in
        let v = part_inv f (a ++ p ∷ []) c (e ∙ sym (append_assoc a (p ∷ []) c)) (message_heard (run (fresh i) a) a p d r x) in
        let q : o.receiver ≡ holding i v.transaction = sym (run_last (fresh i) a p ∙ ap (handed (run (fresh i) a) o.receiver) x) ∙ v.held in
        let y : DeliveryOf p.buffer d o = push_delivers d r (run (fresh i) a) p.octets p.buffer x in
        let z : y.transaction ≡ v.transaction = cc (sym y.held ∙ ap (λ (s : ArqReassembler). s.transaction) q) in
        let t : Opened i m b y.transaction = rw z v.core.opened in
        (y.channel ∙ t.channel, y.flags ∙ t.flags, y.identity ∙ ap (λ (s : ArqReassembler). s.identity) q)

    go : (t : ArqReassembler) → t ≡ fresh i → GivesMessage d r (push (run t a) p) → (d.channel ≡ b.header.channel) × (d.flags ≡ b.header.flags) × (d.identity ≡ i)
    go t q x = from_fresh (rw q at x)
