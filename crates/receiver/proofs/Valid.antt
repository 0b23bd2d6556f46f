-- Every state that the constructor, push and reset make is valid. Assumes nothing.
use Rattle.std.proofs.Common.{◌≡◌, ℕ, zero, suc, ◌^◌, ◌<◌, ◌≤◌, Bool, true, false, not, eqb, List, [], ◌∷◌, length, take, drop, replicate, Option, sym, refl, ap, ◌∙◌, ⊎_elim, arith, length-set, length-take, pow_pos, pow_mono, eq-eqb, eqb-true}
use lib.Count.{ones}
use borrow.Author.Tests.{not-false}
use Rattle.std.specs.Option.{ForSome}
use Rattle.std.proofs.lemmas.Bool.{cases_Bool}
use Rattle.std.proofs.lemmas.List.Elements.{All-replicate, All-set}
use Rattle.field.specs.Bits.{Octets, octets}
use Rattle.field.specs.Layout.{up_to}
use Rattle.field.proofs.Laws.{value_lt, length-octets}
use Rattle.rach.specs.Identity.{encodable}
use Rattle.rach.specs.declared.MobileIdentity.{MobileIdentity}
use Rattle.rach.proofs.Laws.{both}
use Rattle.spach.specs.Refusal.{Outcome, gives, refuses}
use Rattle.spach.proofs.Outcomes.{passed}
use Rattle.arq.specs.declared.ArqFrame.{ArqFrame}
use Rattle.arq.specs.Frame.{begin_data_lem, continue_data_lem}
use Rattle.receiver.specs.declared.transaction.Transaction.{Transaction}
use Rattle.receiver.specs.declared.ArqReassembler.{ArqReassembler}
use Rattle.receiver.specs.declared.SingleMessage.{SingleMessage}
use Rattle.receiver.specs.declared.StatusRequest.{StatusRequest}
use Rattle.receiver.specs.declared.Reception.{Reception}
use Rattle.receiver.specs.Map.{In, with_bit}
use Rattle.receiver.specs.Receiver.{Out, fresh, new_of, holding, needed, replaced_by, stored, marked, due, finish, push_frame, push_of, reset_of, status_answer}
use Rattle.receiver.specs.Demand3.{Push, handed, runs}
use Rattle.receiver.specs.Valid.{Held, Valid}
use Rattle.receiver.proofs.Maps.{in_kept, added_lt, ones_all, all_ones}
use Rattle.receiver.proofs.Heard.{Decoded, decoded}
use Rattle.receiver.proofs.PushCases.{Taken, frame_ways, finish_ways, push_ways}
use Rattle.receiver.proofs.Laws.{GivesMessage, DeliveryOf, push_delivers}

-- ---- made

-- what the constructor makes of an accepted identity
pub valid_fresh : (i : MobileIdentity) → encodable i ≡ true → Valid (fresh i)
valid_fresh i e = record { identity = e; held = λ t h. absurd (cc) }

-- so every receiver starts valid
pub valid_new : (i : MobileIdentity) (s : ArqReassembler) → new_of i ≡ gives s → Valid s
unfolding new_of
valid_new i s e =
    let p = passed (not (encodable i)) 2 _ e in
    let q : fresh i ≡ s = cc in
    rw (← q) (valid_fresh i (not-false (encodable i) p.0))

-- reset keeps it
pub valid_reset : (s : ArqReassembler) → Valid s → Valid (reset_of s)
valid_reset s v = valid_fresh s.identity v.identity

-- ---- octets

-- bits as octets are octets
octets-octets : (n : ℕ) (bs : List Bool) → Octets (octets n bs)
unfolding octets
octets-octets zero bs i = omega arith
octets-octets (suc n) bs zero =
    let l : length (take 8 bs) ≤ 8 = omega (arith, length-take 8 bs) in
    omega (arith, value_lt (take 8 bs), pow_mono {i = length (take 8 bs)} {j = 8} l)
octets-octets (suc n) bs (suc i) = octets-octets n (drop 8 bs) i

-- zeros are octets
octets-zeros : (n : ℕ) → Octets (replicate n 0)
octets-zeros zero i = omega arith
octets-zeros (suc n) zero = omega arith
octets-zeros (suc n) (suc i) = octets-zeros n i

-- ---- pushed

module _ (i : MobileIdentity) (f : ArqFrame) (d : Decoded f) where
  -- what a decoded Begin opens
  pub held_replaced : Held i (replaced_by f)
  held_replaced =
      record {
        echo = d.echo;
        count = d.count;
        begin_size = ap length d.begin_data ∙ length-octets 7 (up_to 56 (begin_data_lem f));
        begin_octets = rw d.begin_data (octets-octets 7 (up_to 56 (begin_data_lem f)));
        slots_size = refl;
        slot_size = All-replicate (λ d. length d ≡ 10) 26 (replicate 10 0) refl;
        slot_octets = All-replicate (λ d. Octets d) 26 (replicate 10 0) (octets-zeros 10);
        low = pow_pos (needed i (replaced_by f));
      }

  -- what a decoded Continue, with a number that is needed, makes of it
  pub held_stored : (t : Transaction) → Held i t → f.frame_number < needed i t → Held i (stored t f)
  held_stored t h l =
      let ten : length f.continue_data ≡ 10 = ap length d.continue_data ∙ length-octets 10 (up_to 80 (continue_data_lem f)) in
      let octs : Octets f.continue_data = rw d.continue_data (octets-octets 10 (up_to 80 (continue_data_lem f))) in
      record {
        echo = h.echo;
        count = h.count;
        begin_size = h.begin_size;
        begin_octets = h.begin_octets;
        slots_size = length-set t.slots f.frame_number f.continue_data ∙ h.slots_size;
        slot_size = All-set (λ d. length d ≡ 10) t.slots f.frame_number f.continue_data ten h.slot_size;
        slot_octets = All-set (λ d. Octets d) t.slots f.frame_number f.continue_data octs h.slot_octets;
        low = added_lt (needed i t) t.received_frames f.frame_number h.low l;
      }

-- a delivery
held_marked : (i : MobileIdentity) (t : Transaction) → Held i t → Held i (marked t)
held_marked i t h =
    record {
      echo = h.echo;
      count = h.count;
      begin_size = h.begin_size;
      begin_octets = h.begin_octets;
      slots_size = h.slots_size;
      slot_size = h.slot_size;
      slot_octets = h.slot_octets;
      low = h.low;
    }

-- a receiver that holds it
valid_holding : (i : MobileIdentity) (t : Transaction) → encodable i ≡ true → Held i t → Valid (holding i t)
valid_holding i t e h = record { identity = e; held = λ u q. let z : t ≡ u = cc in rw (← z) h }

-- an accepted frame, delivered or not
valid_finish : (f : ArqFrame) (i : MobileIdentity) (t : Transaction) (b : List ℕ) → encodable i ≡ true → Held i t → Valid (finish f i t b).receiver
valid_finish f i t b e h = finish_ways f i t b (λ o. Valid o.receiver) (λ d. valid_holding i (marked t) e (held_marked i t h)) (λ d. valid_holding i t e h)

-- every push keeps it, whatever its octets and buffer
pub valid_push : (s : ArqReassembler) (xs b : List ℕ) → Valid s → Valid (push_of s xs b).receiver
valid_push s xs b v = push_ways s xs b (λ o. Valid o.receiver) (λ l. v) (λ n e. v) (λ f e. pushed f (decoded xs f e))
  where
    pushed : (f : ArqFrame) → Decoded f → Valid (push_frame s b f).receiver
    pushed f d =
        frame_ways s f b (λ o. Valid o.receiver) (λ c. valid_finish f s.identity (replaced_by f) b v.identity (held_replaced s.identity f d)) (λ c. v) (λ c. v) (λ c. v) (λ c. v)
        (λ c. valid_finish f s.identity (stored c.transaction f) b v.identity (held_stored s.identity f d c.transaction (v.held c.transaction c.mine.held) c.low))

-- a message delivered is no longer than its Begin says
pub message_short : (s : ArqReassembler) (xs b : List ℕ) → Valid s → (d : SingleMessage) (r : Option StatusRequest) → GivesMessage d r (push_of s xs b) → d.length < 2 ^ 8
message_short s xs b v d r e =
    let y : DeliveryOf b d (push_of s xs b) = push_delivers d r s xs b e in
    rw y.octets ((valid_push s xs b v).held y.transaction y.held).count

-- what holds of the state given and of the one returned holds of the one that goes on
pub handed_either : (P : ArqReassembler → Type 0) (s r : ArqReassembler) (o : Outcome Reception) → P s → P r → P (handed s r o)
handed_either P s r (gives x) a b = b
handed_either P s r (refuses n) a b = a

-- and so does a list of pushes
pub valid_runs : (s : ArqReassembler) (l : List Push) → Valid s → Valid (runs new_of push_of status_answer s l)
valid_runs s [] v = v
valid_runs s (p ∷ l) v =
    let o : Out = push_of s p.octets p.buffer in
    valid_runs (handed s o.receiver o.outcome) l (handed_either Valid s o.receiver o.outcome v (valid_push s p.octets p.buffer v))

-- ---- delivered

-- the message of the transaction held is marked as delivered exactly if all needed numbers are in the map
abbrev pub Done : ArqReassembler → Type 0
Done s = ForSome s.transaction (λ t. t.delivered ≡ eqb (ones t.received_frames) (needed s.identity t))

done_holding : (i : MobileIdentity) (t : Transaction) → t.delivered ≡ eqb (ones t.received_frames) (needed i t) → Done (holding i t)
done_holding i t e u q = let z : t ≡ u = cc in rw (← z) e

done-finish : (f : ArqFrame) (i : MobileIdentity) (t : Transaction) (b : List ℕ) → (t.delivered ≡ true → eqb (ones t.received_frames) (needed i t) ≡ true) → Done (finish f i t b).receiver
done-finish f i t b was =
    finish_ways f i t b (λ o. Done o.receiver) (λ e. done_holding i (marked t) (sym (both (not t.delivered) _ e).1)) (λ e. done_holding i t (not_due e))
  where
    not_due : due i t ≡ false → t.delivered ≡ eqb (ones t.received_frames) (needed i t)
    not_due e = ⊎_elim (λ d. d ∙ sym (was d)) (λ (d : t.delivered ≡ false). d ∙ sym (rw d at e)) (cases_Bool t.delivered)

-- every push keeps it
pub done_push : (s : ArqReassembler) (xs b : List ℕ) → Valid s → Done s → Done (push_of s xs b).receiver
done_push s xs b v t = push_ways s xs b (λ o. Done o.receiver) (λ l. t) (λ n e. t) (λ f e. pushed f)
  where
    more : (f : ArqFrame) (c : Taken s f) → c.transaction.delivered ≡ true → eqb (ones (with_bit c.transaction.received_frames f.frame_number)) (needed s.identity c.transaction) ≡ true
    more f c e =
        let k : ℕ = f.frame_number in
        let w : ℕ = c.transaction.received_frames in
        let n : ℕ = needed s.identity c.transaction in
        let low : w < 2 ^ n = (v.held c.transaction c.mine.held).low in
        let all : (j : ℕ) → j < n → In j w = ones_all n w low (eqb-true (ones w) n (sym (t c.transaction c.mine.held) ∙ e)) in
        eq-eqb (ones (with_bit w k)) n (all_ones n (with_bit w k) (added_lt n w k low c.low) (λ j l. in_kept w k j (all j l)))

    pushed : (f : ArqFrame) → Done (push_frame s b f).receiver
    pushed f =
        frame_ways s f b (λ o. Done o.receiver) (λ c. done-finish f s.identity (replaced_by f) b (λ e. cc)) (λ c. t) (λ c. t) (λ c. t) (λ c. t)
        (λ c. done-finish f s.identity (stored c.transaction f) b (more f c))
