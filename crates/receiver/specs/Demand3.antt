-- Demand 3 of the request, as one claim about the whole list of pushes. The request's words stand in quotation marks
-- above what renders them; what they mean is document 01's, "Demand 3 is a single claim". Assumes nothing.
use Rattle.std.specs.Prelude.{◌≡◌, ◌⊎◌, ◌↔◌, cond, ℕ, suc, ◌-◌, ◌≤◌, ◌<◌, ltb, length, drop, Option, Some, None}
use mathlib.Core.List.{List, [], ◌∷◌, ◌++◌, Memᴰ, Sublistᴰ}
use Rattle.field.specs.Bits.{Octets}
use Rattle.field.specs.Layout.{up_to}
use Rattle.rach.specs.Identity.{type_of}
use Rattle.rach.specs.declared.MobileIdentity.{MobileIdentity}
use Rattle.spach.specs.Refusal.{Outcome, gives, refuses}
use Rattle.arq.specs.declared.FrameKind.TheVariants.{Begin, Continue}
use Rattle.arq.specs.declared.ArqHeader.{ArqHeader}
use Rattle.arq.specs.declared.ArqFrame.{ArqFrame}
use Rattle.arq.specs.Frame.{room, begin_data_lem, continue_data_lem}
use Rattle.arq.specs.Decode.{decode_of}
use Rattle.arq.specs.Cut.{count_of, frame_of}
use Rattle.receiver.specs.declared.ArqReassembler.{ArqReassembler}
use Rattle.receiver.specs.declared.ArqStatus.{ArqStatus}
use Rattle.receiver.specs.declared.Reception.{Reception}
use Rattle.receiver.specs.declared.Reception.TheVariants.{Ignored, Accepted}
use Rattle.receiver.specs.Map.{In}
use Rattle.receiver.specs.Receiver.{Out, new_of, push_of, status_answer}

-- ---- what is heard

-- "pushes .. whatever their octets and buffers"
pub record Push : Type 0 where
  pub octets : List ℕ
  pub buffer : List ℕ

-- the frame of an outcome, if there is one
abbrev pub frame_in : Outcome ArqFrame → List ArqFrame
frame_in (gives f) = f ∷ []
frame_in (refuses n) = []

-- a push hears a frame when its buffer has at least 255 octets and `decode` accepts its octets, even if the frame is
-- then Ignored or refused
unfoldable pub heard : Push → List ArqFrame
heard p = cond (ltb (length p.buffer) 255) [] (frame_in (decode_of p.octets))

-- all that a list of pushes hears, in order
abbrev pub heards : List Push → List ArqFrame
heards [] = []
heards (p ∷ l) = heard p ++ heards l

-- ---- the frames of a transfer

-- "a Begin for its identity"
pub record BeginFor (i : MobileIdentity) (f : ArqFrame) : Type 0 where
  pub kind : f.kind ≡ Begin
  pub identity : f.identity ≡ i

-- "cut from a message": its identity, echo, channel, octet count and data (widened by zeros) are those of frame 0 of
-- that message's cut; its other fields are free
pub record CutFrom (h : ArqHeader) (i : MobileIdentity) (m : List ℕ) (b : ArqFrame) : Type 0 where
  pub frame : ArqFrame
  pub first : frame_of h i m 0 ≡ gives frame
  pub identity : b.identity ≡ frame.identity
  pub echo : b.header.partial_echo ≡ frame.header.partial_echo
  pub channel : b.header.channel ≡ frame.header.channel
  pub octets : b.message_octets ≡ frame.message_octets
  pub data_bits : up_to (room i) (begin_data_lem b) ≡ up_to (room i) (begin_data_lem frame)

-- "Continue heard with that transfer's echo, channel and identity type"
pub record Such (i : MobileIdentity) (b f : ArqFrame) : Type 0 where
  pub kind : f.kind ≡ Continue
  pub echo : f.header.partial_echo ≡ b.header.partial_echo
  pub channel : f.header.channel ≡ b.header.channel
  pub type : f.identity_type ≡ type_of i

-- "the number and data of one of that cut's Continues": the cut's Continue k is its frame k + 1
pub record OfCut (h : ArqHeader) (i : MobileIdentity) (m : List ℕ) (f : ArqFrame) : Type 0 where
  pub k : ℕ
  pub frame : ArqFrame
  pub next : frame_of h i m (suc k) ≡ gives frame
  pub number : f.frame_number ≡ frame.frame_number
  pub data_bits : continue_data_lem f ≡ continue_data_lem frame

-- k is one of "such Continues' numbers" among the frames fs
abbrev pub HeardNo : MobileIdentity → ArqFrame → List ArqFrame → ℕ → Type 0
HeardNo i b fs k = (f : ArqFrame) × Memᴰ f fs × Such i b f × (f.frame_number ≡ k)

-- ---- the premise: "let the first frame heard be a Begin for its identity, cut from a message of at most 255 octets, let
-- no further Begin for that identity be heard, and let each Continue heard with that transfer's echo, channel and identity
-- type have the number and data of one of that cut's Continues"
pub record Fitting (i : MobileIdentity) (m : List ℕ) (b : ArqFrame) (l : List Push) : Type 0 where
  -- a message is octets
  pub octets : Octets m
  pub size : length m ≤ 255
  pub rest : List ArqFrame
  pub first : heards l ≡ b ∷ rest
  pub own : BeginFor i b
  pub header : ArqHeader
  pub cut-from : CutFrom header i m b
  pub lone : (f : ArqFrame) → Memᴰ f rest → BeginFor i f → ⊥
  pub pieces : (f : ArqFrame) → Memᴰ f rest → Such i b f → OfCut header i m f

-- ---- what a push delivers

-- "(the Begin's if none is needed)": the push p after the pushes a is the first to hear a frame, the Begin, and of the n numbers
-- needed there is none
pub record CompletesByBegin (b : ArqFrame) (n : ℕ) (a : List Push) (p : Push) : Type 0 where
  pub first : heards a ≡ []
  pub hears : heard p ≡ b ∷ []
  pub none_needed : n ≡ 0

-- it hears such a Continue with the last needed number that was missing: one of the n needed, not heard before, when all others
-- were
pub record CompletesByContinue (i : MobileIdentity) (b : ArqFrame) (n : ℕ) (a : List Push) (p : Push) : Type 0 where
  pub frame : ArqFrame
  pub hears : heard p ≡ frame ∷ []
  pub such : Such i b frame
  pub needed : frame.frame_number < n
  pub missing : HeardNo i b (heards a) frame.frame_number → ⊥
  pub last : (k : ℕ) → k < n → (k ≡ frame.frame_number → ⊥) → HeardNo i b (heards a) k

-- "The push that completes the set"
abbrev pub Completes : MobileIdentity → ArqFrame → ℕ → List Push → Push → Type 0
Completes i b n a p = CompletesByBegin b n a p ⊎ CompletesByContinue i b n a p

-- a push delivers if its answer gives a message: of this length, or none
abbrev pub Delivered : ℕ → Outcome Reception → Type 0
Delivered n (gives (Accepted (Some m) r)) = m.length ≡ n
Delivered n (gives (Accepted None r)) = ⊥
Delivered n (gives Ignored) = ⊥
Delivered n (refuses x) = ⊥

-- it gives none
abbrev pub Undelivered : Outcome Reception → Type 0
Undelivered (gives (Accepted (Some m) r)) = ⊥
Undelivered (gives (Accepted None r)) = Unit {0}
Undelivered (gives Ignored) = Unit {0}
Undelivered (refuses x) = Unit {0}

-- the state that goes on: a refused push hands on the one that it was given
abbrev pub handed : ArqReassembler → ArqReassembler → Outcome Reception → ArqReassembler
handed given returned (gives r) = returned
handed given returned (refuses n) = given

-- "delivers exactly that message": the length is in the answer, the octets at the front of that push's buffer, whose
-- other octets are untouched
pub record Delivers (m : List ℕ) (b : List ℕ) (o : Out) : Type 0 where
  pub answer : Delivered (length m) o.outcome
  pub buffer : o.buffer ≡ m ++ drop (length m) b

-- "no other push in the list delivers anything": its answer gives no message, and its buffer is untouched
pub record Silent (b : List ℕ) (o : Out) : Type 0 where
  pub answer : Undelivered o.outcome
  pub buffer : o.buffer ≡ b

-- ---- the claim, of any constructor, `push` and `status`
module _ (new : MobileIdentity → Outcome ArqReassembler) (push : ArqReassembler → List ℕ → List ℕ → Out) (status : ArqReassembler → Option ArqStatus) where
  -- each push gets the state that the one before it returned or, if that one was refused, the state that one was given
  abbrev pub next : ArqReassembler → Out → ArqReassembler
  next s o = handed s o.receiver o.outcome

  -- the state after a list of pushes
  abbrev pub runs : ArqReassembler → List Push → ArqReassembler
  runs s [] = s
  runs s (p ∷ l) = runs (next s (push s p.octets p.buffer)) l

  -- what holds of the push p after the pushes a; the numbers needed are those below the frame count less one
  pub record At (i : MobileIdentity) (m : List ℕ) (b : ArqFrame) (count : ℕ) (s : ArqReassembler) (a : List Push) (p : Push) : Type 0 where
    -- "after the Begin's push and each later one the map is exactly the set of such Continues' numbers heard so far"
    pub map_is : (heards (a ++ p ∷ []) ≡ [] → ⊥)
        → (w : ℕ) × (status (runs s (a ++ p ∷ [])) ≡ Some (record { partial_echo = b.header.partial_echo; received_frames = w }))
        × ((k : ℕ) → In k w ↔ HeardNo i b (heards (a ++ p ∷ [])) k)
    -- "The push that completes the set .. delivers exactly that message"
    pub completing : Completes i b (count - 1) a p → Delivers m p.buffer (push (runs s a) p.octets p.buffer)
    -- "and no other push in the list delivers anything"
    pub others : (Completes i b (count - 1) a p → ⊥) → Silent p.buffer (push (runs s a) p.octets p.buffer)

  -- what the claim says of one list, from the state s that the constructor made
  pub record Holds (i : MobileIdentity) (m : List ℕ) (b : ArqFrame) (count : ℕ) (s : ArqReassembler) (l : List Push) : Type 0 where
    -- "For every list of pushes": at each place of it, a the pushes before, p the push, c those after
    pub each : (a : List Push) (p : Push) (c : List Push) → l ≡ a ++ p ∷ c → At i m b count s a p
    -- "If a second fresh receiver of that identity has any such list with the same Begin and message, and hears all that the
    -- first hears, in order, with others between or after, its map at the end includes the first's"
    pub second : (s₁ : ArqReassembler) → new i ≡ gives s₁ → (l₁ : List Push) → Fitting i m b l₁ → Sublistᴰ (heards l) (heards l₁)
        → (e w e₁ w₁ : ℕ) → status (runs s l) ≡ Some (record { partial_echo = e; received_frames = w })
        → status (runs s₁ l₁) ≡ Some (record { partial_echo = e₁; received_frames = w₁ }) → (k : ℕ) → In k w → In k w₁

  -- "For every list of pushes to a fresh receiver, whatever their octets and buffers, refused ones included"
  abbrev pub Claim : Type 0
  Claim =
      (i : MobileIdentity) (m : List ℕ) (b : ArqFrame) (s : ArqReassembler) (l : List Push)
      → new i ≡ gives s → (f : Fitting i m b l) (count : ℕ) → count_of f.header i m ≡ gives count → Holds i m b count s l

-- of the receiver of this crate: the definitions that its constructor, `push` and `status` are proved equal to
abbrev pub Demand3 : Type 0
Demand3 = Claim new_of push_of status_answer
