-- What a receiver holds while it hears the frames of one cut, and how each frame keeps it so. Assumes nothing.
use Rattle.std.proofs.Common.{◌≡◌, ℕ, ◌+◌, ◌*◌, ◌^◌, ◌<◌, ◌≤◌, min, true, false, not, eqb, ◌⊎◌, List, [], ◌∷◌, ◌++◌, length, take, set, Some, sym, refl, ◌∙◌, subst, inl, inr, ⊎_elim, arith, length-set, get_or-set_other, get_or-set_same, pow_pos, eq-eqb, ne_eqb, eqb-true}
use mathlib.Core.List.Memᴰ
use native.Mathlib.Decide.{ℕ_discrete}
use lib.Count.{ones}
use Rattle.std.proofs.lemmas.Bool.{cases_Bool, false_from_ne_true}
use Rattle.field.specs.Bits.{Octets, bits_of}
use Rattle.field.specs.Layout.{up_to}
use Rattle.rach.specs.declared.MobileIdentity.{MobileIdentity}
use Rattle.rach.proofs.Laws.{both}
use Rattle.arq.specs.declared.ArqHeader.{ArqHeader}
use Rattle.arq.specs.declared.ArqFrame.{ArqFrame}
use Rattle.arq.specs.Frame.{room}
use Rattle.arq.specs.Cut.{continues}
use Rattle.arq.proofs.Cuts.{count_least, count_most}
use Rattle.receiver.specs.declared.transaction.Transaction.{Transaction}
use Rattle.receiver.specs.declared.ArqReassembler.{ArqReassembler}
use Rattle.receiver.specs.Map.{In, with_bit}
use Rattle.receiver.specs.Receiver.{Out, fresh, holding, needed, slot_at, replaced_by, stored, marked, due, assembled, ignored, finish, filler_past, push_frame}
use Rattle.receiver.specs.Demand3.{BeginFor, CutFrom, Such, OfCut, HeardNo, Delivers, Silent, handed}
use Rattle.receiver.proofs.Maps.{none_in, in_added, in_kept, in_either, added_lt, ones_all, all_ones, ones_none}
use Rattle.receiver.proofs.Heard.{Decoded, piece, begin_count, begin_first, continue_number, continue-octets}
use Rattle.receiver.proofs.PushCases.{Mine, Unheeded, filler_in, filler_from, own_way, frame_ways}
use Rattle.receiver.proofs.Pieces.{message_whole, piece_filler}

-- ---- what is held

-- how many Continues the message needs
abbrev pub wanted : MobileIdentity → List ℕ → ℕ
wanted i m = continues i (length m)

-- the state that goes on after a push of s
abbrev pub after : ArqReassembler → Out → ArqReassembler
after s o = handed s o.receiver o.outcome

module _ (i : MobileIdentity) (m : List ℕ) (b : ArqFrame) where
  -- the transaction is the one that b opened, of the cut of m
  pub record Opened (t : Transaction) : Type 0 where
    pub echo : t.partial_echo ≡ b.header.partial_echo
    pub channel : t.channel ≡ b.header.channel
    pub flags : t.flags ≡ b.header.flags
    pub count : t.message_octets ≡ length m
    pub first : take (room i) (bits_of t.begin_data) ≡ up_to (room i) (bits_of m)

  -- and the frames hs were heard: all but the mark of delivery
  pub record Core (hs : List ArqFrame) (t : Transaction) : Type 0 where
    pub opened : Opened t
    pub size : length t.slots ≡ 26
    pub low : t.received_frames < 2 ^ wanted i m
    pub sound : (k : ℕ) → In k t.received_frames → HeardNo i b hs k
    pub whole : (k : ℕ) → HeardNo i b hs k → In k t.received_frames
    pub slot : (k : ℕ) → In k t.received_frames → slot_at t.slots k ≡ piece i m k

  -- a receiver of the identity i holds it, marked as delivered exactly if the map is complete
  pub record Inv (hs : List ArqFrame) (s : ArqReassembler) : Type 0 where
    pub transaction : Transaction
    pub held : s ≡ holding i transaction
    pub core : Core hs transaction
    pub done : transaction.delivered ≡ eqb (ones transaction.received_frames) (wanted i m)

-- ---- the frames heard, and one more

heard_more : (i : MobileIdentity) (b : ArqFrame) (hs : List ArqFrame) (f : ArqFrame) (k : ℕ) → HeardNo i b hs k → HeardNo i b (hs ++ f ∷ []) k
heard_more i b hs f k (g, j, su, e) = (g, Memᴰ.append_left (f ∷ []) j, su, e)

heard_less : (i : MobileIdentity) (b : ArqFrame) (hs : List ArqFrame) (f : ArqFrame) (k : ℕ) → HeardNo i b (hs ++ f ∷ []) k → HeardNo i b hs k ⊎ (Such i b f × (f.frame_number ≡ k))
heard_less i b hs f k (g, j, su, e) =
    ⊎_elim (λ x. inl (g, x, su, e)) (λ x. inr (last (Memᴰ.eq_of_singleton x))) (Memᴰ.append_cases hs j)
  where
    last : g ≡ f → Such i b f × (f.frame_number ≡ k)
    last q = (subst (λ (x : ArqFrame). Such i b x) q su, subst (λ (x : ArqFrame). x.frame_number ≡ k) q e)

module _ {i : MobileIdentity} {m : List ℕ} {b : ArqFrame} {hs : List ArqFrame} {t : Transaction} where
  -- a frame that is no such Continue changes no set
  core_other : (f : ArqFrame) → (Such i b f → ⊥) → Core i m b hs t → Core i m b (hs ++ f ∷ []) t
  core_other f no_such c =
      record {
        opened = c.opened;
        size = c.size;
        low = c.low;
        sound = λ k j. heard_more i b hs f k (c.sound k j);
        whole = λ k q. ⊎_elim (λ r. c.whole k r) (λ r. absurd (no_such r.0)) (heard_less i b hs f k q);
        slot = c.slot;
      }

  -- the mark of delivery is not looked at
  core_marked : Core i m b hs t → Core i m b hs (marked t)
  core_marked c = record { opened = record { echo = c.opened.echo; channel = c.opened.channel; flags = c.opened.flags; count = c.opened.count; first = c.opened.first }; size = c.size; low = c.low; sound = c.sound; whole = c.whole; slot = c.slot }

  needed_is : Core i m b hs t → needed i t ≡ wanted i m
  needed_is c = rw c.opened.count

  -- all needed numbers are there exactly if there are as many ones
  complete_all : Core i m b hs t → eqb (ones t.received_frames) (wanted i m) ≡ true → (k : ℕ) → k < wanted i m → In k t.received_frames
  complete_all c e = ones_all (wanted i m) t.received_frames c.low (eqb-true (ones t.received_frames) (wanted i m) e)

  all_complete : Core i m b hs t → ((k : ℕ) → k < wanted i m → In k t.received_frames) → eqb (ones t.received_frames) (wanted i m) ≡ true
  all_complete c h = eq-eqb (ones t.received_frames) (wanted i m) (all_ones (wanted i m) t.received_frames c.low h)

  -- the message of a complete set
  assembled_is : Octets m → length m ≤ 255 → Core i m b hs t → eqb (ones t.received_frames) (wanted i m) ≡ true → assembled i t ≡ m
  unfolding assembled
  assembled_is oc size c e =
      rw (c.opened.count, c.opened.first) (message_whole i m t.slots (omega (arith, c.size, count_most i (length m) size)) oc (λ k h. c.slot k (complete_all c e k h)))

-- one more such Continue, with the octets of the cut's: it goes into its slot and into the map
core_stored : {i : MobileIdentity} {m : List ℕ} {b : ArqFrame} {hs : List ArqFrame} {t : Transaction} (f : ArqFrame) → length m ≤ 255 → Such i b f
    → f.frame_number < wanted i m → f.continue_data ≡ piece i m f.frame_number → Core i m b hs t → Core i m b (hs ++ f ∷ []) (stored t f)
core_stored {i} {m} {b} {hs} {t} f size su low dat c =
    record {
      opened = record { echo = c.opened.echo; channel = c.opened.channel; flags = c.opened.flags; count = c.opened.count; first = c.opened.first };
      size = length-set t.slots k d ∙ c.size;
      low = added_lt (wanted i m) t.received_frames k c.low low;
      sound = λ j q. ⊎_elim (λ e. (f, Memᴰ.append_right hs (Memᴰ.head refl), su, sym e)) (λ r. heard_more i b hs f j (c.sound j r)) (in_either t.received_frames k j q);
      whole = λ j q. ⊎_elim (λ r. in_kept t.received_frames k j (c.whole j r)) (λ r. rw (← r.1) (in_added t.received_frames k)) (heard_less i b hs f j q);
      slot = λ j q. at j (ℕ_discrete j k) q;
    }
  where
    k : ℕ
    k = f.frame_number

    d : List ℕ
    d = f.continue_data

    inside : k < length t.slots
    inside = omega (arith, c.size, count_most i (length m) size)

    at : (j : ℕ) → Dec (j ≡ k) → In j (with_bit t.received_frames k) → slot_at (set t.slots k d) j ≡ piece i m j
    at j (yes e) q = rw e (get_or-set_same t.slots k d [] inside ∙ dat)
    at j (no ne) q =
        get_or-set_other t.slots k j d [] ne
        ∙ ⊎_elim (λ e. absurd (ne e)) (λ r. c.slot j r) (in_either t.received_frames k j q)

-- ---- after an accepted frame

-- the outcome o of a push of r, which came to the accepted transaction t: it delivers exactly if the message is due
pub record Finished (i : MobileIdentity) (m : List ℕ) (b : ArqFrame) (hs : List ArqFrame) (r : ArqReassembler) (t : Transaction) (buf : List ℕ) (o : Out) : Type 0 where
  pub inv : Inv i m b hs (after r o)
  pub given : due i t ≡ true → Delivers m buf o
  pub silent : due i t ≡ false → Silent buf o

module _ {i : MobileIdentity} {m : List ℕ} {b : ArqFrame} {hs : List ArqFrame} {t : Transaction} (f : ArqFrame) (r : ArqReassembler) (buf : List ℕ) (oc : Octets m) (size : length m ≤ 255)
    (c : Core i m b hs t) (was : t.delivered ≡ true → eqb (ones t.received_frames) (wanted i m) ≡ true) where
  finished_due : due i t ≡ true → Finished i m b hs r t buf (finish f i t buf)
  unfolding finish
  finished_due e =
      let p = both (not t.delivered) (eqb (ones t.received_frames) (needed i t)) e in
      let all : eqb (ones t.received_frames) (wanted i m) ≡ true = rw (needed_is c) at p.1 in
      rw e
      (record {
        inv = record { transaction = marked t; held = refl; core = core_marked c; done = sym all };
        given = λ q. record { answer = c.opened.count; buffer = rw (assembled_is oc size c all, c.opened.count) };
        silent = λ q. cc;
      })

  still_done : due i t ≡ false → t.delivered ≡ eqb (ones t.received_frames) (wanted i m)
  still_done e = ⊎_elim (λ d. d ∙ sym (was d)) (λ d. not_yet d) (cases_Bool t.delivered)
    where
      not_yet : t.delivered ≡ false → t.delivered ≡ eqb (ones t.received_frames) (wanted i m)
      not_yet d =
          let x : eqb (ones t.received_frames) (needed i t) ≡ false = rw d at e in
          d ∙ sym (rw (needed_is c) at x)

  finished_not : due i t ≡ false → Finished i m b hs r t buf (finish f i t buf)
  unfolding finish
  finished_not e =
      rw e
      (record {
        inv = record { transaction = t; held = refl; core = c; done = still_done e };
        given = λ q. cc;
        silent = λ q. record { answer = tt; buffer = refl };
      })

  finished : Finished i m b hs r t buf (finish f i t buf)
  finished = ⊎_elim finished_due finished_not (cases_Bool (due i t))

-- ---- a frame heard after the Begin

-- the Continue f has the last number that the map lacks
abbrev pub Last : MobileIdentity → List ℕ → ArqFrame → Transaction → ArqFrame → Type 0
Last i m b t f =
    Such i b f × (f.frame_number < wanted i m) × (In f.frame_number t.received_frames → ⊥)
    × ((k : ℕ) → k < wanted i m → (k ≡ f.frame_number → ⊥) → In k t.received_frames)

-- the outcome o of a push of s, which holds t, that heard f: it delivers exactly if f is the last
pub record Stepped (i : MobileIdentity) (m : List ℕ) (b : ArqFrame) (hs : List ArqFrame) (s : ArqReassembler) (t : Transaction) (f : ArqFrame) (buf : List ℕ) (o : Out) : Type 0 where
  pub inv : Inv i m b (hs ++ f ∷ []) (after s o)
  pub last : Last i m b t f → Delivers m buf o
  pub other : (Last i m b t f → ⊥) → Silent buf o

-- the frames that the premise lets be heard after the Begin
pub record Good (h : ArqHeader) (i : MobileIdentity) (m : List ℕ) (b f : ArqFrame) : Type 0 where
  pub lone : BeginFor i f → ⊥
  pub piece_of : Such i b f → OfCut h i m f

-- a Continue of the transaction, with the number and octets of one of the cut's
module _ {i : MobileIdentity} {m : List ℕ} {b : ArqFrame} {hs : List ArqFrame} {t : Transaction} (f : ArqFrame) (buf : List ℕ) (oc : Octets m) (size : length m ≤ 255)
    (v : Core i m b hs t) (done : t.delivered ≡ eqb (ones t.received_frames) (wanted i m)) (su : Such i b f) (low : f.frame_number < wanted i m)
    (dat : f.continue_data ≡ piece i m f.frame_number) where
  -- no bit past the message is set, and a filled slot has these octets
  none_past : filler_in i t f ≡ false
  none_past =
      let e : min (8 * length m) (room i) + 79 * f.frame_number ≡ room i + 79 * f.frame_number = omega (arith, count_least i (length m) f.frame_number low) in
      let none : filler_past i t f ≡ false = rw (v.opened.count, e, dat) (piece_filler i m f.frame_number) in
      sym (filler_from i t f) ∙ none

  slot_has : In f.frame_number t.received_frames → slot_at t.slots f.frame_number ≡ f.continue_data
  slot_has j = v.slot f.frame_number j ∙ sym dat

  core_next : Core i m b (hs ++ f ∷ []) (stored t f)
  core_next = core_stored f size su low dat v

  -- where the message was delivered the set was complete
  was_all : t.delivered ≡ true → (k : ℕ) → k < wanted i m → In k t.received_frames
  was_all d = complete_all v (sym done ∙ d)

  ends : Finished i m b (hs ++ f ∷ []) (holding i t) (stored t f) buf (finish f i (stored t f) buf)
  ends = finished f (holding i t) buf oc size core_next (λ d. all_complete core_next (λ k c. in_kept t.received_frames f.frame_number k (was_all d k c)))

  last-due : Last i m b t f → due i (stored t f) ≡ true
  last-due l = rw (not_done, needed_is v, all_complete core_next (λ k c. at k c (ℕ_discrete k f.frame_number)))
    where
      not_done : t.delivered ≡ false
      not_done = false_from_ne_true t.delivered (λ d. l.2 (was_all d f.frame_number low))

      at : (k : ℕ) → k < wanted i m → Dec (k ≡ f.frame_number) → In k (with_bit t.received_frames f.frame_number)
      at k c (yes e) = rw e (in_added t.received_frames f.frame_number)
      at k c (no ne) = in_kept t.received_frames f.frame_number k (l.3 k c ne)

  due_last : due i (stored t f) ≡ true → Last i m b t f
  due_last e = (su, low, absent, λ k c ne. ⊎_elim (λ z. absurd (ne z)) (λ j. j) (in_either t.received_frames f.frame_number k (new k c)))
    where
      p : (not t.delivered ≡ true) × (eqb (ones (with_bit t.received_frames f.frame_number)) (needed i t) ≡ true)
      p = both (not t.delivered) (eqb (ones (with_bit t.received_frames f.frame_number)) (needed i t)) e

      new : (k : ℕ) → k < wanted i m → In k (with_bit t.received_frames f.frame_number)
      new = complete_all core_next (rw (needed_is v) at p.1)

      absent : In f.frame_number t.received_frames → ⊥
      absent j =
          let all = all_complete v (λ k c. ⊎_elim (λ (z : k ≡ f.frame_number). rw z j) (λ x. x) (in_either t.received_frames f.frame_number k (new k c))) in
          cc (done ∙ all, p.0)

  stepped_taken : Stepped i m b hs (holding i t) t f buf (finish f i (stored t f) buf)
  stepped_taken =
      record {
        inv = ends.inv;
        last = λ l. ends.given (last-due l);
        other = λ no_last. ends.silent (false_from_ne_true (due i (stored t f)) (λ d. no_last (due_last d)));
      }

-- one step: a good frame that was decoded
module _ {h : ArqHeader} {i : MobileIdentity} {m : List ℕ} {b : ArqFrame} {hs : List ArqFrame} (oc : Octets m) (size : length m ≤ 255)
    (f : ArqFrame) (buf : List ℕ) (d : Decoded f) (g : Good h i m b f) where
  module _ {t : Transaction} (v : Core i m b hs t) (done : t.delivered ≡ eqb (ones t.received_frames) (wanted i m)) where
    -- a Continue of the transaction held is such a Continue, and the other way round
    its : {u : Transaction} → Mine (holding i t) u f → u ≡ t
    its c = let z : Some t ≡ Some _ = c.held in cc

    mine_such : Mine (holding i t) t f → Such i b f
    mine_such c = record { kind = c.kind; echo = c.echo ∙ v.opened.echo; channel = c.channel ∙ v.opened.channel; type = c.type }

    such_mine : Such i b f → Mine (holding i t) t f
    such_mine su = record { kind = su.kind; held = refl; echo = su.echo ∙ sym v.opened.echo; channel = su.channel ∙ sym v.opened.channel; type = su.type }

    no_such : Unheeded (holding i t) f → Such i b f → ⊥
    no_such (inl (k, n)) su = cc su.kind
    no_such (inr (k, n)) su = n t (such_mine su)

    stepped_ignored : (Such i b f → ⊥) → Stepped i m b hs (holding i t) t f buf (ignored (holding i t) buf)
    stepped_ignored n =
        record {
          inv = record { transaction = t; held = refl; core = core_other f n v; done = done };
          last = λ l. absurd (n l.0);
          other = λ l. record { answer = tt; buffer = refl };
        }

    module _ (c : Mine (holding i t) t f) where
      of_cut : OfCut h i m f
      of_cut = g.piece_of (mine_such c)

      number : f.frame_number < wanted i m
      number = continue_number d of_cut

      none : filler_in i t f ≡ false
      none = none_past f buf oc size v done (mine_such c) number (continue-octets d of_cut)

      same_slot : In f.frame_number t.received_frames → slot_at t.slots f.frame_number ≡ f.continue_data
      same_slot = slot_has f buf oc size v done (mine_such c) number (continue-octets d of_cut)

      taken : Stepped i m b hs (holding i t) t f buf (finish f i (stored t f) buf)
      taken = stepped_taken f buf oc size v done (mine_such c) number (continue-octets d of_cut)

    step_held : Stepped i m b hs (holding i t) t f buf (push_frame (holding i t) buf f)
    step_held =
        frame_ways (holding i t) f buf (λ o. Stepped i m b hs (holding i t) t f buf o)
        (λ c. absurd (g.lone c))
        (λ c. stepped_ignored (no_such c))
        (λ c. let m = rw (its c.mine) at c.mine in absurd (omega (arith, rw (its c.mine) at c.high, needed_is v, number m)))
        (λ c. let m = rw (its c.mine) at c.mine in cc (its c.mine, none m))
        (λ c. let m = rw (its c.mine) at c.mine in absurd ((rw (its c.mine) at c.differs) (same_slot m (rw (its c.mine) at c.filled))))
        (λ c. let m = rw (its c.mine) at c.mine in rw (its c.mine) (taken m))

  -- the invariant goes on, and the push delivers exactly if the frame is the last that was missing
  pub step : {s : ArqReassembler} (v : Inv i m b hs s) → Stepped i m b hs s v.transaction f buf (push_frame s buf f)
  step v = rw v.held (step_held v.core v.done)

-- ---- the Begin's push to a fresh receiver

pub record Begun (i : MobileIdentity) (m : List ℕ) (b : ArqFrame) (buf : List ℕ) (o : Out) : Type 0 where
  pub inv : Inv i m b (b ∷ []) (after (fresh i) o)
  pub all : wanted i m ≡ 0 → Delivers m buf o
  pub more : (wanted i m ≡ 0 → ⊥) → Silent buf o

module _ {h : ArqHeader} {i : MobileIdentity} {m : List ℕ} {b : ArqFrame} (oc : Octets m) (size : length m ≤ 255) (d : Decoded b) (own : BeginFor i b) (cut : CutFrom h i m b) where
  replaced_core : Core i m b (b ∷ []) (replaced_by b)
  replaced_core =
      record {
        opened = record { echo = refl; channel = refl; flags = refl; count = begin_count d cut; first = begin_first d own.kind own.identity cut };
        size = refl;
        low = pow_pos (wanted i m);
        sound = λ k j. absurd (none_in k j);
        whole = λ k q. let z : Such i b b = subst (λ (x : ArqFrame). Such i b x) (Memᴰ.eq_of_singleton q.1) q.2 in cc (own.kind, z.kind);
        slot = λ k j. absurd (none_in k j);
      }

  begun_due : due i (replaced_by b) ≡ eqb 0 (wanted i m)
  begun_due = rw (begin_count d cut, ones_none)

  -- the invariant starts, and the push delivers exactly if no Continue is needed
  pub begin_step : (buf : List ℕ) → Begun i m b buf (push_frame (fresh i) buf b)
  begin_step buf =
      rw (own_way (fresh i) b buf own)
      (record {
        inv = ends.inv;
        all = λ z. ends.given (begun_due ∙ eq-eqb 0 (wanted i m) (sym z));
        more = λ nz. ends.silent (begun_due ∙ ne_eqb 0 (wanted i m) (λ z. nz (sym z)));
      })
    where
      ends : Finished i m b (b ∷ []) (fresh i) (replaced_by b) buf (finish b i (replaced_by b) buf)
      ends = finished b (fresh i) buf oc size replaced_core (λ e. cc)
