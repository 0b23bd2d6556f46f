-- Laws on sessions: what a push comes to, and the lines of frames pushed in turn. Assumes nothing.
use Rattle.std.proofs.Common.{Option, None, Some, ◌≡◌, ℕ, zero, suc, ◌+◌, ◌*◌, ◌/◌, ◌%◌, ◌≤◌, ◌<◌, List, [], ◌∷◌, ◌++◌, length, drop, refl, sym, ap, ap₂, ◌∙◌, arith, append_assoc, length-append, length-drop, take_all, zero-add, suc-add}
use Rattle.std.proofs.lemmas.List.{take-append-le, drop-append-le}
use Rattle.spach.specs.Refusal.{Outcome, gives, refuses}
use Rattle.receiver.specs.declared.ArqReassembler.{ArqReassembler}
use Rattle.receiver.specs.declared.SingleMessage.{SingleMessage}
use Rattle.receiver.specs.declared.Reception.{Reception}
use Rattle.receiver.specs.declared.Reception.TheVariants.{Ignored, Accepted}
use Rattle.receiver.specs.Receiver.{new_of, push_of, status_answer}
use Rattle.receiver.specs.Demand3.{Push, handed, runs}
use Rattle.receiver.specs.Valid.{Valid}
use Rattle.receiver.proofs.Valid.{valid_push, message_short}
use Rattle.receiver.proofs.Laws.{refusal_leaves}
use Rattle.listing.specs.declared.Session.{Session}
use Rattle.listing.specs.Line.{delivery_of, Inside, line_of}
use Rattle.listing.specs.Session.{push_with, pushes_of, frames_of, counted, out_of, step_of, after_of, lines_of, Ready}

-- ---- one push

-- a message delivered lies inside the buffer
pub inside_of : (s : ArqReassembler) (xs b : List ℕ) (o : Outcome Reception) → (push_of s xs b).outcome ≡ o
    → Valid s → Inside (delivery_of o) 255
inside_of s xs b (gives Ignored) e h = tt
inside_of s xs b (gives (Accepted None r)) e h = tt
inside_of s xs b (gives (Accepted (Some d) r)) e h =
    let short = message_short s xs b h d r e in omega arith
inside_of s xs b (refuses n) e h = tt

-- a push delivers one message at most
counted_most : (d : Option SingleMessage) → counted d ≤ 1
counted_most None = omega arith
counted_most (Some m) = omega arith

-- a frame more is counted
pub ready_step : (x : Session) (p : Push) (n m : ℕ) → Ready x n → n ≡ 1 + m → Ready (step_of x p) m
ready_step x p n m r e = record { valid = valid_push x.receiver p.octets p.buffer r.valid; frames = omega (arith, r.frames); messages = omega (arith, r.messages, counted_most (delivery_of (out_of x p).outcome)) }

-- ---- frames in turn

-- the session's receiver is that of demand 3's run: a refused push hands on the state that it was given
pub after-runs : (x : Session) (l : List Push) → (after_of x l).receiver ≡ runs new_of push_of status_answer x.receiver l
after-runs x [] = refl
after-runs x (p ∷ l) =
    after-runs (step_of x p) l
    ∙ ap (λ s. runs new_of push_of status_answer s l) (kept (out_of x p).outcome refl)
  where
    kept : (o : Outcome Reception) → (out_of x p).outcome ≡ o → (out_of x p).receiver ≡ handed x.receiver (out_of x p).receiver o
    kept (gives r) e = refl
    kept (refuses n) e = (refusal_leaves x.receiver p.octets p.buffer n e).0

pub after-append : (x : Session) (a b : List Push) → after_of x (a ++ b) ≡ after_of (after_of x a) b
after-append x [] b = refl
after-append x (p ∷ a) b = after-append (step_of x p) a b

pub lines-append : (x : Session) (a b : List Push) → lines_of x (a ++ b) ≡ lines_of x a ++ lines_of (after_of x a) b
lines-append x [] b = refl
lines-append x (p ∷ a) b =
    ap (λ l. line_of (x.frames + 1) (out_of x p) ++ l) (lines-append (step_of x p) a b)
    ∙ sym (append_assoc (line_of (x.frames + 1) (out_of x p)) (lines_of (step_of x p) a) (lines_of (after_of (step_of x p) a) b))

pushes-append : (n m : ℕ) (a c : List ℕ) → length a ≡ 14 * n → pushes_of (n + m) (a ++ c) ≡ pushes_of n a ++ pushes_of m c
pushes-append zero m [] c h = ap (λ k. pushes_of k c) (zero-add m)
pushes-append zero m (y ∷ a) c h = absurd (omega arith)
pushes-append (suc n) m a c h =
    ap (λ k. pushes_of k (a ++ c)) (suc-add n m)
    ∙ ap₂ (λ (f : List ℕ) (l : List Push). push_with f ∷ l) (take-append-le 14 a c (omega arith))
    (ap (pushes_of (n + m)) (drop-append-le 14 a c (omega arith)) ∙ pushes-append n m (drop 14 a) c (omega (arith, length-drop 14 a)))

-- whole frames, and what follows them
pub frames_append : (a c : List ℕ) → length a % 14 ≡ 0 → frames_of (a ++ c) ≡ frames_of a ++ frames_of c
frames_append a c h =
    let n : length (a ++ c) / 14 ≡ length a / 14 + length c / 14 = omega (arith, length-append a c) in
    ap (λ k. pushes_of k (a ++ c)) n ∙ pushes-append (length a / 14) (length c / 14) a c (omega arith)

-- one
pub frames_one : (a : List ℕ) → length a ≡ 14 → frames_of a ≡ push_with a ∷ []
frames_one a e =
    let n : length a / 14 ≡ 1 = omega arith in
    ap (λ k. pushes_of k a) n ∙ ap (λ f. push_with f ∷ []) (take_all 14 a (omega arith))

-- none
pub frames_few : (c : List ℕ) → length c < 14 → frames_of c ≡ []
frames_few c h =
    let n : length c / 14 ≡ 0 = omega arith in
    ap (λ k. pushes_of k c) n

-- with the frames among `rest` to come, session and text are the whole of `xs`
pub record Going (x : Session) (xs before : List ℕ) (s : Session) (rest now : List ℕ) : Type 0 where
  pub ready : Ready s (length rest / 14)
  pub session : after_of s (frames_of rest) ≡ after_of x (frames_of xs)
  pub text : now ++ lines_of s (frames_of rest) ≡ before ++ lines_of x (frames_of xs)

module _ (x : Session) (xs before : List ℕ) where
  -- a frame more
  pub going_more : (s t : Session) (rest frame others now later : List ℕ) → Going x xs before s rest now → rest ≡ frame ++ others → length frame ≡ 14
      → t ≡ step_of s (push_with frame) → later ≡ now ++ line_of (s.frames + 1) (out_of s (push_with frame)) → Going x xs before t others later
  going_more s t rest frame others now later g parts size step line =
      let p = push_with frame in
      let n : length rest / 14 ≡ 1 + length others / 14 = omega (arith, ap length parts, length-append frame others) in
      let first = ap frames_of parts ∙ frames_append frame others (omega arith) ∙ ap (λ l. l ++ frames_of others) (frames_one frame size) in record {
        ready = rw step (ready_step s p _ _ g.ready n);
        session = rw step (rw first at g.session);
        text = rw (step, line) (append_assoc now (line_of (s.frames + 1) (out_of s p)) (lines_of (step_of s p) (frames_of others)) ∙ (rw first at g.text));
      }
