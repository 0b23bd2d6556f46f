-- Each way out of a push, and when it is taken. Assumes nothing.
use Rattle.std.proofs.Common.{◌≡◌, ℕ, ◌+◌, ◌-◌, ◌*◌, ◌<◌, ◌≤◌, min, Bool, true, false, cond, not, eqb, ltb, ◌⊎◌, List, ◌++◌, length, take, drop, Some, None, Option, bytes_eq, sym, refl, ap, ◌∙◌, inl, inr, ⊎_elim, ltb-false, ltb-true, le-ltb, lt-ltb, eq-eqb, eqb-true}
use Rattle.std.specs.Option.{option_map_or}
use Rattle.std.proofs.lemmas.Bool.{cases_Bool, both_ways, and_from, cond-true, cond-false, false_from_ne_true, true_from_ne_false}
use Rattle.std.proofs.lemmas.Slice.Eq.{bytes_eq-Decides}
use Rattle.field.specs.Bits.{bits_of}
use Rattle.field.specs.Layout.{any_set}
use Rattle.rach.specs.Identity.{type_of, same}
use Rattle.rach.specs.declared.MobileIdentity.{MobileIdentity}
use Rattle.rach.specs.declared.MobileIdentity.TheVariants.{Tmsi20, Tmsi24, Min34, Imsi50}
use Rattle.rach.proofs.Laws.{same_self, same_equal, both}
use Rattle.spach.specs.Refusal.{Outcome, gives, refuses, refuse}
use Rattle.spach.specs.Header.{usage_of}
use Rattle.spach.proofs.Apart.{usages_apart}
use Rattle.arq.specs.declared.FrameKind.{FrameKind}
use Rattle.arq.specs.declared.FrameKind.TheVariants.{Begin, Continue}
use Rattle.arq.specs.declared.ArqFrame.{ArqFrame}
use Rattle.arq.specs.Frame.{room, continue_data_lem}
use Rattle.arq.specs.Encode.{by_kind}
use Rattle.arq.specs.Decode.{decode_of}
use Rattle.receiver.specs.declared.transaction.Transaction.{Transaction}
use Rattle.receiver.specs.declared.ArqReassembler.{ArqReassembler}
use Rattle.receiver.specs.declared.Reception.TheVariants.{Accepted}
use Rattle.receiver.specs.Map.{In, bit_of}
use Rattle.receiver.specs.Receiver.{Out, holding, needed, slot_at, replaced_by, stored, marked, request_of, due, assembled, refusal, ignored, finish, ours, filler_past, conflicts, continued, accepted, push_continue, push_frame, push_decoded, push_of}
use Rattle.receiver.specs.Demand3.{BeginFor}

-- ---- tests

-- no frame is of both kinds
pub kinds_apart : {k : FrameKind} → k ≡ Begin → k ≡ Continue → ⊥
kinds_apart p q = cc

-- what a choice by kind comes to
pub pick_begin : {A : Type 0} {x : FrameKind} (a b : A) → x ≡ Begin → by_kind x a b ≡ a
pick_begin a b e = rw e

pub pick_continue : {A : Type 0} {x : FrameKind} (a b : A) → x ≡ Continue → by_kind x a b ≡ b
pick_continue a b e = rw e

-- and a refusal
pub refuse_true : {A : Type 0} {x : Bool} (n : ℕ) (o : Outcome A) → x ≡ true → refuse x n o ≡ refuses n
refuse_true n o e = rw e

pub refuse_false : {A : Type 0} {x : Bool} (n : ℕ) (o : Outcome A) → x ≡ false → refuse x n o ≡ o
refuse_false n o e = rw e

-- the same octets are equal
pub same-octets : (a b : List ℕ) → bytes_eq a b ≡ true → a ≡ b
same-octets a b = (bytes_eq-Decides a b).0

pub octets-same : (a : List ℕ) → bytes_eq a a ≡ true
octets-same a = (bytes_eq-Decides a a).1 refl

-- ---- when

-- a Continue of the transaction t that is held: same echo, channel and identity type
pub record Mine (s : ArqReassembler) (t : Transaction) (f : ArqFrame) : Type 0 where
  pub kind : f.kind ≡ Continue
  pub held : s.transaction ≡ Some t
  pub echo : f.header.partial_echo ≡ t.partial_echo
  pub channel : f.header.channel ≡ t.channel
  pub type : f.identity_type ≡ type_of s.identity

-- "Foreign Begins, and Continues of another echo, channel or type or with no transaction"
abbrev pub Unheeded : ArqReassembler → ArqFrame → Type 0
Unheeded s f =
    ((f.kind ≡ Begin) × (f.identity ≡ s.identity → ⊥))
    ⊎ ((f.kind ≡ Continue) × ((t : Transaction) → Mine s t f → ⊥))

-- "number not below the needed count"
pub record Past (s : ArqReassembler) (f : ArqFrame) : Type 0 where
  pub transaction : Transaction
  pub mine : Mine s transaction f
  pub high : needed s.identity transaction ≤ f.frame_number

-- "75 − width bits: 55, 51, 41, 25" of data in the Begin, by the type of the identity
abbrev pub room_for : MobileIdentity → ℕ
room_for (Tmsi20 v) = 55
room_for (Tmsi24 v) = 51
room_for (Min34 v) = 41
room_for (Imsi50 v) = 25

-- some of a Continue's 79 data bits past the message is set: before its data come those of the Begin and of the Continues below its number
abbrev pub filler_in : MobileIdentity → Transaction → ArqFrame → Bool
filler_in i t f =
    let n = 8 * t.message_octets in
    any_set (drop (n - (min n (room_for i) + 79 * f.frame_number)) (take 79 (bits_of f.continue_data)))

-- that is where the definition seeks it
pub room-for : (i : MobileIdentity) → room i ≡ room_for i
room-for (Tmsi20 v) = refl
room-for (Tmsi24 v) = refl
room-for (Min34 v) = refl
room-for (Imsi50 v) = refl

pub filler_from : (i : MobileIdentity) (t : Transaction) (f : ArqFrame) → filler_past i t f ≡ filler_in i t f
filler_from i t f =
    ap (λ (r : ℕ). any_set (drop (8 * t.message_octets - (min (8 * t.message_octets) r + 79 * f.frame_number)) (continue_data_lem f))) (room-for i)

-- "filler past the message"
pub record Filler (s : ArqReassembler) (f : ArqFrame) : Type 0 where
  pub transaction : Transaction
  pub mine : Mine s transaction f
  pub low : f.frame_number < needed s.identity transaction
  pub set : filler_in s.identity transaction f ≡ true

-- "filled slot with other data"
pub record Conflict (s : ArqReassembler) (f : ArqFrame) : Type 0 where
  pub transaction : Transaction
  pub mine : Mine s transaction f
  pub low : f.frame_number < needed s.identity transaction
  pub clear : filler_in s.identity transaction f ≡ false
  pub filled : In f.frame_number transaction.received_frames
  pub differs : slot_at transaction.slots f.frame_number ≡ f.continue_data → ⊥

-- a Continue that nothing is held against
pub record Taken (s : ArqReassembler) (f : ArqFrame) : Type 0 where
  pub transaction : Transaction
  pub mine : Mine s transaction f
  pub low : f.frame_number < needed s.identity transaction
  pub clear : filler_in s.identity transaction f ≡ false
  pub agrees : In f.frame_number transaction.received_frames → slot_at transaction.slots f.frame_number ≡ f.continue_data

-- one of these holds
pub data Fate (s : ArqReassembler) (f : ArqFrame) : Type 0 where
  own : BeginFor s.identity f → Fate s f
  unheeded : Unheeded s f → Fate s f
  past : Past s f → Fate s f
  filler : Filler s f → Fate s f
  conflict : Conflict s f → Fate s f
  taken : Taken s f → Fate s f

-- ---- a Continue of a transaction
module _ (i : MobileIdentity) (t : Transaction) (f : ArqFrame) where
  clash_true : conflicts t f ≡ true → In f.frame_number t.received_frames × (slot_at t.slots f.frame_number ≡ f.continue_data → ⊥)
  clash_true e =
      let p = both (eqb (bit_of t.received_frames f.frame_number) 1) _ e in
      (eqb-true _ _ p.0, λ q. let z = octets-same f.continue_data in cc p.1)

  clash_of : In f.frame_number t.received_frames → (slot_at t.slots f.frame_number ≡ f.continue_data → ⊥) → conflicts t f ≡ true
  clash_of j d =
      and_from _ _ (eq-eqb _ 1 j) (ap not (false_from_ne_true _ (λ q. d (same-octets _ _ q))))

  clash_false : conflicts t f ≡ false → In f.frame_number t.received_frames → slot_at t.slots f.frame_number ≡ f.continue_data
  clash_false e j =
      same-octets _ _ (true_from_ne_false _ (λ q. both_ways _ e (and_from _ _ (eq-eqb _ 1 j) (ap not q))))

  clash_not : (In f.frame_number t.received_frames → slot_at t.slots f.frame_number ≡ f.continue_data) → conflicts t f ≡ false
  clash_not a = false_from_ne_true (conflicts t f) (λ e. let p = clash_true e in p.1 (a p.0))

  past_number : needed i t ≤ f.frame_number → continued i t f ≡ refuses 12
  unfolding continued
  past_number h = rw (le-ltb f.frame_number (needed i t) h)

  low_number : f.frame_number < needed i t → continued i t f ≡ refuse (filler_in i t f) 7 (refuse (conflicts t f) 14 (gives (stored t f)))
  unfolding continued
  low_number l = rw (lt-ltb f.frame_number (needed i t) l, filler_from i t f)

module _ (s : ArqReassembler) (f : ArqFrame) where
  ours_mine : (t : Transaction) → f.kind ≡ Continue → s.transaction ≡ Some t → ours s.identity t f ≡ true → Mine s t f
  ours_mine t k h e =
      let a = both (eqb f.header.partial_echo t.partial_echo) _ e in
      let b = both (eqb (usage_of f.header.channel) (usage_of t.channel)) _ a.1 in
      record {
        kind = k;
        held = h;
        echo = eqb-true _ _ a.0;
        channel = usages_apart f.header.channel t.channel (eqb-true _ _ b.0);
        type = eqb-true _ _ b.1;
      }

  mine_ours : {t : Transaction} → Mine s t f → ours s.identity t f ≡ true
  mine_ours {t} c =
      and_from _ _ (eq-eqb f.header.partial_echo t.partial_echo c.echo)
      (and_from _ _ (eq-eqb (usage_of f.header.channel) (usage_of t.channel) (ap usage_of c.channel))
      (eq-eqb f.identity_type (type_of s.identity) c.type))

  -- what is held is one transaction
  same_held : {t u : Transaction} → s.transaction ≡ Some t → s.transaction ≡ Some u → t ≡ u
  same_held p q = let z : Some _ ≡ Some _ = sym p ∙ q in cc

  fate_mine : (t : Transaction) → Mine s t f → Fate s f
  fate_mine t c = number (ltb f.frame_number (needed s.identity t)) refl
    where
      slot : f.frame_number < needed s.identity t → filler_in s.identity t f ≡ false → (x : Bool) → conflicts t f ≡ x → Fate s f
      slot l n true e = let p = clash_true s.identity t f e in conflict (record { transaction = t; mine = c; low = l; clear = n; filled = p.0; differs = p.1 })
      slot l n false e = taken (record { transaction = t; mine = c; low = l; clear = n; agrees = clash_false s.identity t f e })

      data_bits : f.frame_number < needed s.identity t → (x : Bool) → filler_in s.identity t f ≡ x → Fate s f
      data_bits l true e = filler (record { transaction = t; mine = c; low = l; set = e })
      data_bits l false e = slot l e (conflicts t f) refl

      number : (x : Bool) → ltb f.frame_number (needed s.identity t) ≡ x → Fate s f
      number true e = data_bits (ltb-true _ _ e) (filler_in s.identity t f) refl
      number false e = past (record { transaction = t; mine = c; high = ltb-false _ _ e })

  -- every frame has one of these fates at every receiver
  pub fate : Fate s f
  fate = by-kind f.kind refl
    where
      continue_to : f.kind ≡ Continue → (o : Option Transaction) → s.transaction ≡ o → Fate s f
      continue_to k None h = unheeded (inr (k, λ t c. cc (h, c.held)))
      continue_to k (Some t) h =
          ⊎_elim (λ e. fate_mine t (ours_mine t k h e))
          (λ (e : ours s.identity t f ≡ false). unheeded (inr (k, λ u c. both_ways _ e (rw (same_held h c.held) (mine_ours c)))))
          (cases_Bool (ours s.identity t f))

      by-kind : (k : FrameKind) → f.kind ≡ k → Fate s f
      by-kind Begin k =
          ⊎_elim (λ e. own (record { kind = k; identity = same_equal f.identity s.identity e }))
          (λ (e : same f.identity s.identity ≡ false). unheeded (inl (k, λ q. both_ways _ e (rw q (same_self s.identity)))))
          (cases_Bool (same f.identity s.identity))
      by-kind Continue k = continue_to k s.transaction refl

  -- ---- each way
  module _ (b : List ℕ) where
    -- a Begin for the identity
    pub own_way : BeginFor s.identity f → push_frame s b f ≡ finish f s.identity (replaced_by f) b
    unfolding push_frame
    own_way c =
        let e : same f.identity s.identity ≡ true = rw c.identity (same_self s.identity) in
        pick_begin _ _ c.kind ∙ cond-true _ _ _ e

    -- what is Ignored
    pub unheeded_way : Unheeded s f → push_frame s b f ≡ ignored s b
    unfolding push_frame
    unheeded_way (inl (k, n)) =
        pick_begin _ _ k ∙ cond-false _ _ _ (false_from_ne_true _ (λ e. n (same_equal f.identity s.identity e)))
    unheeded_way (inr (k, n)) = pick_continue _ _ k ∙ go s.transaction refl
      where
        go : (o : Option Transaction) → s.transaction ≡ o → option_map_or (λ t. cond (ours s.identity t f) (push_continue s b f t) (ignored s b)) o (ignored s b) ≡ ignored s b
        go None h = refl
        go (Some t) h = cond-false _ _ _ (false_from_ne_true _ (λ e. n t (ours_mine t k h e)))

    mine_way : {t : Transaction} → Mine s t f → push_frame s b f ≡ accepted s b f (continued s.identity t f)
    unfolding push_frame
    mine_way {t} c = pick_continue _ _ c.kind ∙ rw c.held (cond-true _ _ _ (mine_ours c))

    -- 12
    pub past_way : Past s f → push_frame s b f ≡ refusal 12 s b
    past_way c = mine_way c.mine ∙ ap (accepted s b f) (past_number s.identity c.transaction f c.high)

    -- 7
    pub filler_way : Filler s f → push_frame s b f ≡ refusal 7 s b
    filler_way c = mine_way c.mine ∙ ap (accepted s b f) (low_number s.identity c.transaction f c.low ∙ refuse_true 7 _ c.set)

    -- 14
    pub conflict_way : Conflict s f → push_frame s b f ≡ refusal 14 s b
    conflict_way c =
        let e : conflicts c.transaction f ≡ true = clash_of s.identity c.transaction f c.filled c.differs in
        mine_way c.mine ∙ ap (accepted s b f) (low_number s.identity c.transaction f c.low ∙ refuse_false 7 _ c.clear ∙ refuse_true 14 _ e)

    -- a Continue that goes into its slot
    pub taken_way : (c : Taken s f) → push_frame s b f ≡ finish f s.identity (stored c.transaction f) b
    taken_way c =
        let e : conflicts c.transaction f ≡ false = clash_not s.identity c.transaction f c.agrees in
        mine_way c.mine ∙ ap (accepted s b f) (low_number s.identity c.transaction f c.low ∙ refuse_false 7 _ c.clear ∙ refuse_false 14 _ e)

    -- what holds on each way holds of every frame's push
    pub frame_ways : (P : Out → Type 0) → (BeginFor s.identity f → P (finish f s.identity (replaced_by f) b)) → (Unheeded s f → P (ignored s b))
        → (Past s f → P (refusal 12 s b)) → (Filler s f → P (refusal 7 s b)) → (Conflict s f → P (refusal 14 s b)) → ((c : Taken s f) → P (finish f s.identity (stored c.transaction f) b))
        → P (push_frame s b f)
    frame_ways P o u p r c t = go fate
      where
        go : Fate s f → P (push_frame s b f)
        go (own x) = rw (own_way x) (o x)
        go (unheeded x) = rw (unheeded_way x) (u x)
        go (past x) = rw (past_way x) (p x)
        go (filler x) = rw (filler_way x) (r x)
        go (conflict x) = rw (conflict_way x) (c x)
        go (taken x) = rw (taken_way x) (t x)

-- after an accepted frame: with the message, or without
module _ (f : ArqFrame) (i : MobileIdentity) (t : Transaction) (b : List ℕ) where
  abbrev pub delivering : Out
  delivering = record {
    outcome = gives (Accepted
        (Some (record {
          channel = t.channel;
          flags = t.flags;
          identity = i;
          length = t.message_octets;
        }))
        (request_of f.header t));
    receiver = holding i (marked t);
    buffer = assembled i t ++ drop t.message_octets b;
  }

  abbrev pub accepting : Out
  accepting = record { outcome = gives (Accepted None (request_of f.header t)); receiver = holding i t; buffer = b }

  -- what holds with the message and without holds after every accepted frame
  pub finish_ways : (P : Out → Type 0) → (due i t ≡ true → P delivering) → (due i t ≡ false → P accepting) → P (finish f i t b)
  unfolding finish
  finish_ways P d n = go (due i t) refl
    where
      go : (x : Bool) → due i t ≡ x → P (finish f i t b)
      go true e = rw e (d e)
      go false e = rw e (n e)

-- a push: its buffer is too short, its octets are refused, or it hears a frame
module _ (s : ArqReassembler) (xs b : List ℕ) where
  -- 16
  pub short_way : length b < 255 → push_of s xs b ≡ refusal 16 s b
  unfolding push_of
  short_way l = cond-true _ _ _ (lt-ltb (length b) 255 l)

  -- what decode says, of a buffer that is long enough
  pub decode_way : 255 ≤ length b → push_of s xs b ≡ push_decoded s b (decode_of xs)
  unfolding push_of
  decode_way l = cond-false _ _ _ (le-ltb (length b) 255 l)

  -- what holds on each way holds of every push
  pub push_ways : (P : Out → Type 0) → (length b < 255 → P (refusal 16 s b)) → ((n : ℕ) → decode_of xs ≡ refuses n → P (refusal n s b))
      → ((f : ArqFrame) → decode_of xs ≡ gives f → P (push_frame s b f)) → P (push_of s xs b)
  push_ways P t r h = go (ltb (length b) 255) (decode_of xs) refl refl
    where
      go : (x : Bool) (d : Outcome ArqFrame) → ltb (length b) 255 ≡ x → decode_of xs ≡ d → P (push_of s xs b)
      go true d e q = rw (short_way (ltb-true _ _ e)) (t (ltb-true _ _ e))
      go false (gives f) e q = rw (decode_way (ltb-false _ _ e) ∙ ap (push_decoded s b) q) (h f q)
      go false (refuses n) e q = rw (decode_way (ltb-false _ _ e) ∙ ap (push_decoded s b) q) (r n q)
