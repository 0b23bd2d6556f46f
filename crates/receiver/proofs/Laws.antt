-- What 01 says of the constructor and of a push, beside demand 3: laws of the definitions. Assumes nothing.
use Rattle.std.proofs.Common.{◌≡◌, ℕ, ◌+◌, ◌*◌, ◌^◌, ◌<◌, ◌≤◌, Bool, true, false, not, eqb, ltb, ◌⊎◌, ◌↔◌, List, ◌++◌, length, drop, replicate, is_some, IsSomeAnd, slice_set, Some, None, Option, option_map, sym, refl, ap, ◌∙◌, inl, inr, ⊎_elim, arith, ltb-false, ltb-true, eq-eqb, eqb-true}
use lib.Count.{ones, ones_in}
use Rattle.std.proofs.lemmas.Bool.{cases_Bool, and_from, false_from_ne_true}
use Rattle.std.specs.Bool.{then_some}
use Rattle.std.specs.Option.{option_map_or}
use borrow.Author.Tests.{not-true, not-false}
use Rattle.rach.specs.Identity.{type_of, value_of, width_of, encodable}
use Rattle.rach.specs.declared.MobileIdentity.{MobileIdentity}
use Rattle.rach.proofs.Laws.{in-range, range_in, both}
use Rattle.spach.specs.declared.Channel.{Channel}
use Rattle.spach.specs.declared.HeaderFlags.{HeaderFlags}
use Rattle.spach.specs.Refusal.{Outcome, gives, refuses}
use Rattle.spach.proofs.Outcomes.{passed}
use Rattle.arq.specs.declared.ArqFrame.{ArqFrame}
use Rattle.arq.specs.Decode.{decode_of}
use Rattle.arq.proofs.Theorems.{cut_holds, cut_least}
use Rattle.receiver.specs.declared.transaction.Transaction.{Transaction}
use Rattle.receiver.specs.declared.ArqReassembler.{ArqReassembler}
use Rattle.receiver.specs.declared.ArqStatus.{ArqStatus}
use Rattle.receiver.specs.declared.SingleMessage.{SingleMessage}
use Rattle.receiver.specs.declared.StatusRequest.{StatusRequest}
use Rattle.receiver.specs.declared.Reception.{Reception}
use Rattle.receiver.specs.declared.Reception.TheVariants.{Ignored, Accepted}
use Rattle.receiver.specs.Map.{with_bit}
use Rattle.receiver.specs.Receiver.{Out, fresh, new_of, needed, replaced_by, stored, marked, status_of, status_answer, request_of, message_of, due, assembled, finish, push_frame, push_of, push_decoded, reset_of, complete_of}
use Rattle.receiver.specs.Demand3.{BeginFor}
use Rattle.receiver.proofs.Heard.{decode_numbers}
use Rattle.receiver.proofs.PushCases.{room_for, room-for, Unheeded, Past, Filler, Conflict, Taken, own_way, unheeded_way, past_way, filler_way, conflict_way, taken_way, frame_ways, finish_ways, short_way, decode_way, push_ways}

-- ---- the constructor

-- "Encoding needs 1 to 2^width − 1": it accepts exactly such an identity
pub made_exactly : (i : MobileIdentity) → (new_of i ≡ gives (fresh i)) ↔ ((0 < value_of i) × (value_of i < 2 ^ width_of (type_of i)))
unfolding new_of encodable
made_exactly i = (
  (λ e. range_in (value_of i) (width_of (type_of i)) (not-false _ (passed (not (encodable i)) 2 _ e).0)),
  (λ p. rw (in-range (value_of i) (width_of (type_of i)) p.0 p.1)),
)

-- "Made with a bad identity 2": and refuses every other by 2
pub made_2_exactly : (i : MobileIdentity) → (new_of i ≡ refuses 2) ↔ ((0 < value_of i) × (value_of i < 2 ^ width_of (type_of i)) → ⊥)
unfolding new_of encodable
made_2_exactly i = (
  (λ e p. let q = (made_exactly i).1 p in cc),
  (λ n. refused (false_from_ne_true (encodable i) (λ e. n (range_in (value_of i) (width_of (type_of i)) e)))),
)
  where
    refused : encodable i ≡ false → new_of i ≡ refuses 2
    refused e = rw e

-- ---- `status`

-- what `status` tells is what is held
pub status_held : (s : ArqReassembler) {e w : ℕ} → status_answer s ≡ Some (record { partial_echo = e; received_frames = w })
    → (t : Transaction) × (s.transaction ≡ Some t) × (w ≡ t.received_frames)
status_held s {e} {w} = go s.transaction refl
  where
    go : (o : Option Transaction) → s.transaction ≡ o → option_map status_of o ≡ Some (record { partial_echo = e; received_frames = w })
        → (t : Transaction) × (s.transaction ≡ Some t) × (w ≡ t.received_frames)
    go None h q = absurd (cc)
    go (Some t) h q =
        let z : ◌≡◌ {A = ArqStatus} (status_of t) (record { partial_echo = e; received_frames = w }) = cc in
        (t, h, sym (ap (λ (x : ArqStatus). x.received_frames) z))

-- it tells echo and map of every transaction that is held
pub status_exactly : (s : ArqReassembler) (t : Transaction) → s.transaction ≡ Some t
    → status_answer s ≡ Some (record { partial_echo = t.partial_echo; received_frames = t.received_frames })
status_exactly s t e = rw e

-- and nothing where nothing is held
pub status_none : (s : ArqReassembler) → s.transaction ≡ None → status_answer s ≡ None
status_none s e = rw e

-- ---- outcomes told apart

-- an outcome that is no acceptance
abbrev Unaccepted : Outcome Reception → Type 0
Unaccepted x = (g : Option SingleMessage) (r : Option StatusRequest) → gives (Accepted g r) ≡ x → ⊥

unaccepted_ignored : Unaccepted (gives Ignored)
unaccepted_ignored g r e = cc

unaccepted_refused : (n : ℕ) → Unaccepted (refuses n)
unaccepted_refused n g r e = cc

-- it does not come of an accepted frame
finish_not : (x : Outcome Reception) → Unaccepted x → (f : ArqFrame) (i : MobileIdentity) (t : Transaction) (b : List ℕ) → (finish f i t b).outcome ≡ x → ⊥
finish_not x un f i t b = finish_ways f i t b (λ o. o.outcome ≡ x → ⊥) (λ d e. un _ _ e) (λ d e. un _ _ e)

-- what a Begin sets of a transaction
abbrev pub begun : Transaction → Channel × HeaderFlags × ℕ × ℕ × List ℕ
begun t = (t.channel, t.flags, t.partial_echo, t.message_octets, t.begin_data)

-- what holds beside something held
some_out : {A P : Type 0} (o : Option A) → IsSomeAnd o (λ x. P) → P
some_out None h = absurd h
some_out (Some x) h = h

asked : {A : Type 0} {x : Bool} (a : A) → x ≡ true → then_some x a ≡ Some a
asked a e = rw e

unasked : {A : Type 0} {x : Bool} (a : A) → x ≡ false → then_some x a ≡ None
unasked a e = rw e

-- ---- which answer, and exactly when: a frame that was heard

module _ (s : ArqReassembler) (f : ArqFrame) (b : List ℕ) where
  -- what comes of such an outcome, by its way
  unaccepted_ways : (x : Outcome Reception) → Unaccepted x → (C : Type 0) → (gives Ignored ≡ x → Unheeded s f → C) → (refuses 12 ≡ x → Past s f → C)
      → (refuses 7 ≡ x → Filler s f → C) → (refuses 14 ≡ x → Conflict s f → C) → (push_frame s b f).outcome ≡ x → C
  unaccepted_ways x un C u p r c =
      frame_ways s f b (λ o. o.outcome ≡ x → C) (λ y e. absurd (finish_not x un f s.identity (replaced_by f) b e)) (λ y e. u e y) (λ y e. p e y) (λ y e. r e y) (λ y e. c e y)
      (λ y e. absurd (finish_not x un f s.identity (stored y.transaction f) b e))

  -- what comes of an acceptance
  accepted_ways : (g : Option SingleMessage) (r : Option StatusRequest) (P : Out → Type 0) → (BeginFor s.identity f → P (finish f s.identity (replaced_by f) b)) → ((c : Taken s f) → P (finish f s.identity (stored c.transaction f) b))
      → (push_frame s b f).outcome ≡ gives (Accepted g r) → P (push_frame s b f)
  accepted_ways g r P o t =
      frame_ways s f b (λ x. x.outcome ≡ gives (Accepted g r) → P x) (λ y e. o y) (λ y e. cc) (λ y e. cc)
      (λ y e. cc) (λ y e. cc) (λ y e. t y)

  -- "Foreign Begins, and Continues of another echo, channel or type or with no transaction, are Ignored"
  pub ignored_exactly : ((push_frame s b f).outcome ≡ gives Ignored) ↔ Unheeded s f
  ignored_exactly = (
    unaccepted_ways (gives Ignored) unaccepted_ignored (Unheeded s f) (λ e c. c) (λ e c. cc) (λ e c. cc)
        (λ e c. cc),
    λ c. ap (λ (o : Out). o.outcome) (unheeded_way s f b c),
  )

  -- "for an unignored Continue, number not below the needed count 12"
  pub refused_12_exactly : ((push_frame s b f).outcome ≡ refuses 12) ↔ Past s f
  refused_12_exactly = (
    unaccepted_ways (refuses 12) (unaccepted_refused 12) (Past s f) (λ e c. cc) (λ e c. c) (λ e c. cc)
        (λ e c. cc),
    λ c. ap (λ (o : Out). o.outcome) (past_way s f b c),
  )

  -- "filler past the message 7"
  pub refused_7_exactly : ((push_frame s b f).outcome ≡ refuses 7) ↔ Filler s f
  refused_7_exactly = (
    unaccepted_ways (refuses 7) (unaccepted_refused 7) (Filler s f) (λ e c. cc) (λ e c. cc) (λ e c. c)
        (λ e c. cc),
    λ c. ap (λ (o : Out). o.outcome) (filler_way s f b c),
  )

  -- "filled slot with other data 14"
  pub refused_14_exactly : ((push_frame s b f).outcome ≡ refuses 14) ↔ Conflict s f
  refused_14_exactly = (
    unaccepted_ways (refuses 14) (unaccepted_refused 14) (Conflict s f) (λ e c. cc) (λ e c. cc)
        (λ e c. cc) (λ e c. c),
    λ c. ap (λ (o : Out). o.outcome) (conflict_way s f b c),
  )

  -- and no frame is refused by another number
  pub refused_only : (n : ℕ) → (push_frame s b f).outcome ≡ refuses n → (n ≡ 12) ⊎ ((n ≡ 7) ⊎ (n ≡ 14))
  refused_only n =
      unaccepted_ways (refuses n) (unaccepted_refused n) ((n ≡ 12) ⊎ ((n ≡ 7) ⊎ (n ≡ 14))) (λ e c. cc) (λ e c. inl (cc)) (λ e c. inr (inl (cc)))
      (λ e c. inr (inr (cc)))

  -- a frame is accepted exactly if it is a Begin for the identity, or a Continue that nothing is held against
  pub accepted_exactly : ((g : Option SingleMessage) × (r : Option StatusRequest) × ((push_frame s b f).outcome ≡ gives (Accepted g r))) ↔ (BeginFor s.identity f ⊎ Taken s f)
  accepted_exactly = (
    λ e. accepted_ways e.0 e.1 (λ o. BeginFor s.identity f ⊎ Taken s f) inl inr e.2,
    ⊎_elim (λ x. rw (own_way s f b x) (given (replaced_by f))) (λ x. rw (taken_way s f b x) (given (stored x.transaction f))),
  )
    where
      given : (t : Transaction) → (g : Option SingleMessage) × (r : Option StatusRequest) × ((finish f s.identity t b).outcome ≡ gives (Accepted g r))
      given t = finish_ways f s.identity t b (λ o. (g : Option SingleMessage) × (r : Option StatusRequest) × (o.outcome ≡ gives (Accepted g r))) (λ d. (_, _, refl)) (λ d. (_, _, refl))

  -- ---- the state afterwards

  -- "A Begin for its identity replaces everything": whatever was held, it gives what a fresh receiver gives
  pub replaces : BeginFor s.identity f → push_frame s b f ≡ push_frame (fresh s.identity) b f
  replaces c = own_way s f b c ∙ sym (own_way (fresh s.identity) f b c)

  -- a Continue that is taken goes into its slot and into the map
  pub stores : (c : Taken s f)
      → IsSomeAnd (push_frame s b f).receiver.transaction
      (λ t. (t.slots ≡ slice_set c.transaction.slots f.frame_number f.continue_data) × (t.received_frames ≡ with_bit c.transaction.received_frames f.frame_number))
  stores c = rw (taken_way s f b c) (finish_ways f s.identity (stored c.transaction f) b (λ o. IsSomeAnd o.receiver.transaction Is) (λ d. (refl, refl)) (λ d. (refl, refl)))
    where
      Is : Transaction → Type 0
      Is t = (t.slots ≡ slice_set c.transaction.slots f.frame_number f.continue_data) × (t.received_frames ≡ with_bit c.transaction.received_frames f.frame_number)

  -- of what is held the Begin set channel, flags, echo, octet count and data, and no other frame changes them
  pub begin_sets : BeginFor s.identity f
      → option_map begun (push_frame s b f).receiver.transaction
      ≡ Some (f.header.channel, f.header.flags, f.header.partial_echo, f.message_octets, f.begin_data)
  begin_sets c = rw (own_way s f b c) (finish_ways f s.identity (replaced_by f) b (λ o. option_map begun o.receiver.transaction ≡ Some (begun (replaced_by f))) (λ d. refl) (λ d. refl))

  -- no slot and no number of what was held stays
  pub begin_clears : BeginFor s.identity f
      → IsSomeAnd (push_frame s b f).receiver.transaction (λ t. (t.slots ≡ replicate 26 (replicate 10 0)) × (t.received_frames ≡ 0))
  begin_clears c =
      rw (own_way s f b c)
      (finish_ways f s.identity (replaced_by f) b (λ o. IsSomeAnd o.receiver.transaction (λ t. (t.slots ≡ replicate 26 (replicate 10 0)) × (t.received_frames ≡ 0)))
      (λ d. (refl, refl)) (λ d. (refl, refl)))

  -- and every other frame leaves it
  pub others_keep : (BeginFor s.identity f → ⊥) → option_map begun (push_frame s b f).receiver.transaction ≡ option_map begun s.transaction
  others_keep n =
      frame_ways s f b P (λ c. absurd (n c)) (λ c. refl) (λ c. refl) (λ c. refl) (λ c. refl)
      (λ c. finish_ways f s.identity (stored c.transaction f) b P (λ d. sym (ap (option_map begun) c.mine.held)) (λ d. sym (ap (option_map begun) c.mine.held)))
    where
      P : Out → Type 0
      P o = option_map begun o.receiver.transaction ≡ option_map begun s.transaction

  -- the echo that is held afterwards is the accepted frame's own
  pub echo_kept : (g : Option SingleMessage) (r : Option StatusRequest) → (push_frame s b f).outcome ≡ gives (Accepted g r)
      → IsSomeAnd (push_frame s b f).receiver.transaction (λ t. t.partial_echo ≡ f.header.partial_echo)
  echo_kept g r =
      accepted_ways g r P (λ c. finish_ways f s.identity (replaced_by f) b P (λ d. refl) (λ d. refl))
      (λ c. finish_ways f s.identity (stored c.transaction f) b P (λ d. sym c.mine.echo) (λ d. sym c.mine.echo))
    where
      P : Out → Type 0
      P o = IsSomeAnd o.receiver.transaction (λ t. t.partial_echo ≡ f.header.partial_echo)

  -- and a transaction is held
  pub accepted_held : (g : Option SingleMessage) (r : Option StatusRequest) → (push_frame s b f).outcome ≡ gives (Accepted g r) → is_some (push_frame s b f).receiver.transaction ≡ true
  accepted_held g r =
      accepted_ways g r P (λ c. finish_ways f s.identity (replaced_by f) b P (λ d. refl) (λ d. refl))
      (λ c. finish_ways f s.identity (stored c.transaction f) b P (λ d. refl) (λ d. refl))
    where
      P : Out → Type 0
      P o = is_some o.receiver.transaction ≡ true

  -- ---- what is told

  -- "Polled frames answer a status of echo and map": those of what the frame leaves, with the frame's own response mode
  told : (g : Option SingleMessage) (r : Option StatusRequest) → (push_frame s b f).outcome ≡ gives (Accepted g r)
      → (A : Transaction → Option StatusRequest) → ((t : Transaction) → request_of f.header t ≡ A t) → IsSomeAnd (push_frame s b f).receiver.transaction (λ t. r ≡ A t)
  told g r e A q = accepted_ways g r P (λ c. after (replaced_by f)) (λ c. after (stored c.transaction f)) e e
    where
      P : Out → Type 0
      P o = o.outcome ≡ gives (Accepted g r) → IsSomeAnd o.receiver.transaction (λ t. r ≡ A t)

      after : (t : Transaction) → P (finish f s.identity t b)
      after t = finish_ways f s.identity t b P (λ d e. (let z = q (marked t) in cc)) (λ d e. (let z = q t in cc))

  -- so a polled one is told its echo and the map that it leaves, complete or not
  pub tells : (g : Option SingleMessage) (r : Option StatusRequest) → (push_frame s b f).outcome ≡ gives (Accepted g r) → f.header.polling ≡ true
      → IsSomeAnd (push_frame s b f).receiver.transaction
      (λ t. r ≡ Some (record { status = record { partial_echo = t.partial_echo; received_frames = t.received_frames }; response_mode = f.header.response_mode }))
  tells g r e p = told g r e _ (λ t. asked _ p)

  -- and one that is not polled is told nothing
  pub tells_nothing : (g : Option SingleMessage) (r : Option StatusRequest) → (push_frame s b f).outcome ≡ gives (Accepted g r) → f.header.polling ≡ false → r ≡ None
  tells_nothing g r e p = some_out (push_frame s b f).receiver.transaction (told g r e (λ t. None) (λ t. unasked _ p))

-- ---- a delivery

-- the message that an answer gives
abbrev pub GivesMessage : SingleMessage → Option StatusRequest → Out → Type 0
GivesMessage d r o = o.outcome ≡ gives (Accepted (Some d) r)

-- "Delivery writes the message to the front of a lent buffer; all other octets of it are untouched": its channel, flags and
-- octet count are those of the transaction held, its identity the receiver's
pub record DeliveryOf (b : List ℕ) (d : SingleMessage) (o : Out) : Type 0 where
  pub transaction : Transaction
  pub held : o.receiver.transaction ≡ Some transaction
  pub channel : d.channel ≡ transaction.channel
  pub flags : d.flags ≡ transaction.flags
  pub identity : d.identity ≡ o.receiver.identity
  pub octets : d.length ≡ transaction.message_octets
  pub buffer : o.buffer ≡ assembled o.receiver.identity transaction ++ drop d.length b
  pub marked : transaction.delivered ≡ true

module _ (d : SingleMessage) (r : Option StatusRequest) where
  finish_delivers : (f : ArqFrame) (i : MobileIdentity) (t : Transaction) (b : List ℕ) → GivesMessage d r (finish f i t b) → DeliveryOf b d (finish f i t b)
  unfolding assembled
  finish_delivers f i t b =
      finish_ways f i t b (λ o. GivesMessage d r o → DeliveryOf b d o)
      (λ x e. let z : message_of i t ≡ d = cc in rw (← z) (record { transaction = marked t; held = refl; channel = refl; flags = refl; identity = refl; octets = refl; buffer = refl; marked = refl }))
      (λ x e. cc)

  -- so is every message, of a frame that was heard
  pub delivers : (s : ArqReassembler) (f : ArqFrame) (b : List ℕ) → GivesMessage d r (push_frame s b f) → DeliveryOf b d (push_frame s b f)
  delivers s f b e = accepted_ways s f b _ r (λ o. GivesMessage d r o → DeliveryOf b d o) (λ c. finish_delivers f s.identity (replaced_by f) b) (λ c. finish_delivers f s.identity (stored c.transaction f) b) e e

  -- and of a push
  pub push_delivers : (s : ArqReassembler) (xs b : List ℕ) → GivesMessage d r (push_of s xs b) → DeliveryOf b d (push_of s xs b)
  push_delivers s xs b =
      push_ways s xs b (λ o. GivesMessage d r o → DeliveryOf b d o) (λ l e. cc) (λ n q e. cc) (λ f q. delivers s f b)

  -- after a delivery none follows but by a Begin for its identity: "a repeated Begin delivers again"
  pub delivers_once : (s : ArqReassembler) (f : ArqFrame) (b : List ℕ) → complete_of s ≡ true → GivesMessage d r (push_frame s b f) → BeginFor s.identity f
  delivers_once s f b h e = accepted_ways s f b _ r (λ o. GivesMessage d r o → BeginFor s.identity f) (λ c e. c) not_again e e
    where
      not_again : (c : Taken s f) → GivesMessage d r (finish f s.identity (stored c.transaction f) b) → BeginFor s.identity f
      not_again c =
          let done : c.transaction.delivered ≡ true = rw c.mine.held at h in
          finish_ways f s.identity (stored c.transaction f) b (λ o. GivesMessage d r o → BeginFor s.identity f) (λ x e. cc (rw done at x)) (λ x e. cc)

-- ---- a push

module _ (s : ArqReassembler) (xs b : List ℕ) where
  -- "Push: buffer under 255 octets 16"
  pub refused_16_exactly : ((push_of s xs b).outcome ≡ refuses 16) ↔ (length b < 255)
  refused_16_exactly = (
    push_ways s xs b (λ o. o.outcome ≡ refuses 16 → length b < 255) (λ l e. l) (λ n q e. let z : n ≡ 16 = cc in absurd (omega (arith, decode_numbers xs n q)))
        (λ f q e. absurd (frame_16 f e)),
    λ l. ap (λ (o : Out). o.outcome) (short_way s xs b l),
  )
    where
      frame_16 : (f : ArqFrame) → (push_frame s b f).outcome ≡ refuses 16 → ⊥
      frame_16 f e = ⊎_elim (λ z. omega arith) (⊎_elim (λ z. omega arith) (λ z. omega arith)) (refused_only s f b 16 e)

  -- "decode's; then" as its frame: of a buffer that is long enough
  pub as_decoded : 255 ≤ length b → push_of s xs b ≡ push_decoded s b (decode_of xs)
  as_decoded = decode_way s xs b

  pub as_heard : 255 ≤ length b → (f : ArqFrame) → decode_of xs ≡ gives f → push_of s xs b ≡ push_frame s b f
  as_heard l f e = decode_way s xs b l ∙ ap (push_decoded s b) e

  pub as_refused : 255 ≤ length b → (n : ℕ) → decode_of xs ≡ refuses n → push_of s xs b ≡ record { outcome = refuses n; receiver = s; buffer = b }
  as_refused l n e = decode_way s xs b l ∙ ap (push_decoded s b) e

  -- no acceptance: state and buffer are as they were
  unaccepted_leaves : (x : Outcome Reception) → Unaccepted x → (push_of s xs b).outcome ≡ x → ((push_of s xs b).receiver ≡ s) × ((push_of s xs b).buffer ≡ b)
  unaccepted_leaves x un =
      push_ways s xs b P (λ l e. (refl, refl)) (λ k q e. (refl, refl))
      (λ f q. frame_ways s f b P (λ c e. absurd (finish_not x un f s.identity (replaced_by f) b e)) (λ c e. (refl, refl)) (λ c e. (refl, refl)) (λ c e. (refl, refl)) (λ c e. (refl, refl))
      (λ c e. absurd (finish_not x un f s.identity (stored c.transaction f) b e)))
    where
      P : Out → Type 0
      P o = o.outcome ≡ x → (o.receiver ≡ s) × (o.buffer ≡ b)

  -- "Refusals return only the number and change nothing"
  pub refusal_leaves : (n : ℕ) → (push_of s xs b).outcome ≡ refuses n → ((push_of s xs b).receiver ≡ s) × ((push_of s xs b).buffer ≡ b)
  refusal_leaves n = unaccepted_leaves (refuses n) (unaccepted_refused n)

  -- and an Ignored frame changes nothing
  pub ignored_leaves : (push_of s xs b).outcome ≡ gives Ignored → ((push_of s xs b).receiver ≡ s) × ((push_of s xs b).buffer ≡ b)
  ignored_leaves = unaccepted_leaves (gives Ignored) unaccepted_ignored

  -- "all other octets of it are untouched, as they are without delivery": an answer without a message leaves the buffer
  pub no_message_leaves : (r : Option StatusRequest) → (push_of s xs b).outcome ≡ gives (Accepted None r) → (push_of s xs b).buffer ≡ b
  no_message_leaves r =
      push_ways s xs b P (λ l e. refl) (λ k q e. refl)
      (λ f q. frame_ways s f b P (λ c. after f (replaced_by f)) (λ c e. refl) (λ c e. refl) (λ c e. refl) (λ c e. refl) (λ c. after f (stored c.transaction f)))
    where
      P : Out → Type 0
      P o = o.outcome ≡ gives (Accepted None r) → o.buffer ≡ b

      after : (f : ArqFrame) (t : Transaction) → P (finish f s.identity t b)
      after f t = finish_ways f s.identity t b P (λ d e. cc) (λ d e. refl)

  -- the identity stays
  pub identity_kept : (push_of s xs b).receiver.identity ≡ s.identity
  identity_kept =
      push_ways s xs b P (λ l. refl) (λ k q. refl)
      (λ f q. frame_ways s f b P (λ c. finish_ways f s.identity (replaced_by f) b P (λ d. refl) (λ d. refl)) (λ c. refl) (λ c. refl) (λ c. refl) (λ c. refl)
      (λ c. finish_ways f s.identity (stored c.transaction f) b P (λ d. refl) (λ d. refl)))
    where
      P : Out → Type 0
      P o = o.receiver.identity ≡ s.identity

-- ---- the numbers needed

-- those below the least number of Continues that with the Begin have room for the message
pub needed_exactly : (i : MobileIdentity) (t : Transaction) → let n = 8 * t.message_octets in
    (n ≤ room_for i + 79 * needed i t) × ((k : ℕ) → n ≤ room_for i + 79 * k → needed i t ≤ k)
needed_exactly i t =
    let e = room-for i in (
      omega (arith, e, cut_holds i t.message_octets),
      λ k h. ⊎_elim (λ l. absurd (omega (arith, e, h, cut_least i t.message_octets k (ltb-true k (needed i t) l)))) (λ l. ltb-false k (needed i t) l) (cases_Bool (ltb k (needed i t))),
    )

-- ---- when a message is delivered

-- an answer gives a message
abbrev pub Given : Out → Type 0
Given o = (d : SingleMessage) × (r : Option StatusRequest) × GivesMessage d r o

module _ (f : ArqFrame) (i : MobileIdentity) (t : Transaction) (b : List ℕ) where
  abbrev All : Type 0
  All = (t.delivered ≡ false) × (ones t.received_frames ≡ needed i t)

  due_all : due i t ≡ true → All
  due_all e = let p = both (not t.delivered) (eqb (ones t.received_frames) (needed i t)) e in (not-true _ p.0, eqb-true _ _ p.1)

  all_due : All → due i t ≡ true
  all_due p = and_from _ _ (ap not p.0) (eq-eqb (ones t.received_frames) (needed i t) p.1)

  finish_exactly : Given (finish f i t b) ↔ All
  finish_exactly =
      finish_ways f i t b (λ o. Given o ↔ All) (λ d. ((λ g. due_all d), λ p. (_, _, refl))) (λ d. ((λ g. cc g.2), λ p. cc (all_due p)))

-- by a Continue that is taken exactly if none was delivered yet, and with its number there are as many as are needed
pub delivers_exactly : (s : ArqReassembler) (f : ArqFrame) (b : List ℕ) (c : Taken s f)
    → Given (push_frame s b f)
    ↔ ((c.transaction.delivered ≡ false) × (ones (with_bit c.transaction.received_frames f.frame_number) ≡ needed s.identity c.transaction))
delivers_exactly s f b c = rw (taken_way s f b c) (finish_exactly f s.identity (stored c.transaction f) b)

no_ones : ones 0 ≡ 0
unfolding ones ones_in
no_ones = refl

-- by a Begin for the identity exactly if it has room for the whole message
pub begin_delivers_exactly : (s : ArqReassembler) (f : ArqFrame) (b : List ℕ) → BeginFor s.identity f
    → Given (push_frame s b f) ↔ (8 * f.message_octets ≤ room_for s.identity)
begin_delivers_exactly s f b c =
    let i : MobileIdentity = s.identity in
    let t : Transaction = replaced_by f in
    let n = needed_exactly i t in
    rw (own_way s f b c) (
      (λ g. omega (arith, n.0, no_ones, ((finish_exactly f i t b).0 g).1)),
      λ l. let m : needed i t ≤ 0 = n.1 0 (omega arith) in (finish_exactly f i t b).1 (refl, omega (arith, no_ones, m)),
    )

-- ---- `reset` and `complete`

-- `reset` leaves what the constructor makes of the same identity
pub resets : (s : ArqReassembler) → encodable s.identity ≡ true → new_of s.identity ≡ gives (reset_of s)
unfolding new_of
resets s e = rw e

-- and nothing else: by its fields
pub resets_exactly : (s : ArqReassembler) → reset_of s ≡ record { identity = s.identity; transaction = None }
resets_exactly s = refl

-- `complete` exactly if a transaction is held and its message was delivered
pub complete_exactly : (s : ArqReassembler) → (complete_of s ≡ true) ↔ IsSomeAnd s.transaction (λ t. t.delivered ≡ true)
complete_exactly s = go s.transaction
  where
    go : (o : Option Transaction) → (option_map_or (λ t. t.delivered) o false ≡ true) ↔ IsSomeAnd o (λ t. t.delivered ≡ true)
    go None = (λ e. cc, absurd)
    go (Some t) = (λ e. e, λ e. e)

-- after a push that delivers, the transaction is complete
pub complete_then : (d : SingleMessage) (r : Option StatusRequest) (s : ArqReassembler) (f : ArqFrame) (b : List ℕ) → GivesMessage d r (push_frame s b f) → complete_of (push_frame s b f).receiver ≡ true
complete_then d r s f b e = let y = delivers d r s f b e in rw (y.held, y.marked)

-- and after a Begin that does not deliver, it is not
pub complete_not : (r : Option StatusRequest) (s : ArqReassembler) (f : ArqFrame) (b : List ℕ) → BeginFor s.identity f → (push_frame s b f).outcome ≡ gives (Accepted None r)
    → complete_of (push_frame s b f).receiver ≡ false
complete_not r s f b c = rw (own_way s f b c) (finish_ways f s.identity (replaced_by f) b P (λ d e. cc) (λ d e. refl))
  where
    P : Out → Type 0
    P o = o.outcome ≡ gives (Accepted None r) → complete_of o.receiver ≡ false
