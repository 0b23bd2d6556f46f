-- Laws of a request that is granted, of the transfer that it replaces, and of its place in the lent store. Assumes nothing.
use Rattle.std.proofs.Common.{◌≡◌, ℕ, suc, ◌+◌, ◌<◌, ◌≤◌, Bool, true, false, cond, not, ◌&&◌, eqb, ltb, leb, List, [], ◌∷◌, length, get_or, replicate, Some, None, Ok, unwrap_or, sym, refl, ap, ◌∙◌, arith, ltb-false, leb-false}
use lib.ListN.{get_or-replicate}
use Rattle.std.specs.List as list
use Rattle.token.specs.Token.{stop, number_after}
use Rattle.rach.specs.declared.MobileIdentity.{MobileIdentity}
use Rattle.spach.specs.Refusal.{gives}
use Rattle.arq.specs.declared.ArqHeader.{ArqHeader}
use Rattle.arq.specs.Cut.{count_of}
use Rattle.arq.proofs.Theorems.{cut_most}
use Rattle.transfer.specs.declared.Grant.{Grant}
use Rattle.transfer.specs.declared.Request.{Request}
use Rattle.transfer.specs.declared.Transfer.{Transfer}
use Rattle.transfer.specs.Lists.{any, position, remove_at, push_back}
use Rattle.transfer.specs.State.{View, with_echoes, with_transfers, blank_transfer, cancel_at}
use Rattle.transfer.specs.Transfer.{begun}
use Rattle.transfer.specs.Echo.{held_until, hold}
use Rattle.transfer.specs.Enqueue.{addressed, grant_of, replaced, lowest_from, lowest_n, parcel_of, stored, accepts}
use Rattle.transfer.specs.Invariant.{All, Sound}
use Rattle.sender.specs.View.{lent, wrote}
use Rattle.transfer.proofs.EchoSearch.{free_now}
use Rattle.transfer.proofs.Listed.{any-true, some_all, length_removed}
use Rattle.transfer.proofs.Placed.{place_is}
use Rattle.transfer.proofs.Invariant.{hold-kept, seek_cases, lowest_free, count_gives, Passes, grant_passes}

-- a message that is cut has at most 27 frames
pub count_low : (h : ArqHeader) (i : MobileIdentity) (message : List ℕ) {n : ℕ} → count_of h i message ≡ gives n → n ≤ 27
count_low h i message {n} e =
    let c = count_gives h i message e in
    rw c.3 (cut_most i (length message) c.0)

-- ---- the places in the lent store

-- at first none is taken
pub none_taken : (k : ℕ) → k < 128 → get_or (replicate 128 false) k false ≡ false
none_taken k h = get_or-replicate 128 k false false h

-- the place of the first that passes, or how many there are
place_or : {A : Type 0} (p : A → Bool) (l : List A) → unwrap_or (list.position p l) (length l) ≡ position p l
place_or p l = ap (λ o. unwrap_or o (length l)) (place_is p l) ∙ go (ltb (position p l) (length l)) refl
  where
    most : {A : Type 0} (p : A → Bool) (l : List A) → position p l ≤ length l
    most p [] = omega arith
    most p (x ∷ l) = up (p x) (most p l)
      where
        up : (b : Bool) → position p l ≤ length l → cond b 0 (suc (position p l)) ≤ suc (length l)
        up true h = omega arith
        up false h = omega arith

    go : (b : Bool) → ltb (position p l) (length l) ≡ b → unwrap_or (cond b (Some (position p l)) None) (length l) ≡ position p l
    go true e = refl
    go false e = let a = ltb-false (position p l) (length l) e in let b = most p l in omega arith

-- t says from k on which places these have
lowest_on : (l : List Transfer) (t : List Bool) (k : ℕ) → ((j : ℕ) → j < length t → get_or t j false ≡ any (λ x. eqb x.parcel.n (k + j)) l) → k + position not t ≡ lowest_from (length t) k l
lowest_on l [] k h = omega arith
lowest_on l (b ∷ t) k h = go b (h 0 (omega arith)) (lowest_on l t (suc k) (λ j lt. let n : k + suc j ≡ suc k + j = omega arith in rw (← n) (h (suc j) (omega arith))))
  where
    go : (b : Bool) → b ≡ any (λ x. eqb x.parcel.n (k + 0)) l → suc k + position not t ≡ lowest_from (length t) (suc k) l
        → k + cond (not b) 0 (suc (position not t)) ≡ cond (any (λ x. eqb x.parcel.n k) l) (lowest_from (length t) (suc k) l) k
    go true e later = let n : k + 0 ≡ k = omega arith in let s : k + suc (position not t) ≡ suc k + position not t = omega arith in rw (← (rw n at e)) (s ∙ later)
    go false e later = let n : k + 0 ≡ k = omega arith in rw (← (rw n at e), n) refl

-- the first that is not taken is the lowest that none has
pub lowest_is : (l : List Transfer) (taken : List Bool) → length taken ≡ 128 → ((k : ℕ) → k < 128 → get_or taken k false ≡ any (λ x. eqb x.parcel.n k) l) → unwrap_or (list.position not taken) 128 ≡ lowest_n l
lowest_is l taken long marks =
    let start : position not taken ≡ 0 + position not taken = omega arith in
    ap (unwrap_or (list.position not taken)) (sym long)
    ∙ (place_or not taken ∙ (start ∙ (lowest_on l taken 0 (λ j lt. let n : 0 + j ≡ j = omega arith in rw n (marks j (omega arith))) ∙ ap (λ n. lowest_from n 0 l) long)))

-- ---- a request that is granted

-- a sender with another next token
abbrev pub with_next : View → ℕ → View
with_next v t = record { limits = v.limits; clock = v.clock; transfers = v.transfers; events = v.events; echoes = v.echoes; selected = v.selected; next_token = t }

module _ (v : View) (r : Request) (message : List ℕ) (g : Grant) (h : Sound v) (given : grant_of v r message ≡ gives g) where
  passes : Passes v r message g
  passes = grant_passes v r message given

  -- deadline plus guard fits in 64 bits
  pub accept_until : r.deadline_ms + v.limits.echo_guard_ms ≤ stop
  accept_until = passes.proper.fits

  -- its echo
  pub accept_echo : g.echo < 128
  accept_echo = (free_now v.echoes h.echoes h.next_echo v.clock.last_ms passes.proper.echo).0

  -- its octets
  pub accept_octets : length message ≤ 255
  accept_octets = passes.proper.most_octets

  -- its frames
  pub accept_frames : g.frames ≤ 27
  accept_frames = rw passes.proper.frames (cut_most r.identity (length message) accept_octets)

  -- the sender with its echo held
  abbrev pub holding : View
  holding = with_echoes v (hold v.echoes g.echo (held_until v.limits r.deadline_ms))

  -- keeps `Sound`
  pub holding_sound : Sound holding
  holding_sound = hold-kept v g.echo (held_until v.limits r.deadline_ms) passes.proper.echo h

  -- and then without a transfer to its identity
  abbrev alone : View
  alone = replaced holding r.identity

  room_alone : length alone.transfers < 128
  room_alone = seek_cases {X = View} (λ (w : View). length w.transfers < 128) (addressed r.identity) v.transfers holding (cancel_at holding) without one_less
    where
      room : (b : Bool) → any (addressed r.identity) v.transfers ≡ b → (not b && leb v.limits.capacity (length v.transfers)) ≡ false
          → All (λ x. addressed r.identity x ≡ false) v.transfers → length v.transfers < v.limits.capacity
      room true e q n = some_all (λ x a b. let z : ◌≡◌ {A = ℕ} 0 1 = cc in absurd (omega arith)) (any-true (addressed r.identity) v.transfers e) n
      room false e q n = leb-false _ _ q

      without : All (λ x. addressed r.identity x ≡ false) v.transfers → length v.transfers < 128
      without n =
          let lt = room (any (addressed r.identity) v.transfers) refl passes.room n in
          let m = h.most_capacity in
          omega arith

      one_less : (i : ℕ) → i < length v.transfers → addressed r.identity (get_or v.transfers i blank_transfer) ≡ true → length (remove_at i v.transfers) < 128
      one_less i lt t =
          let n : length v.transfers ≡ suc (length (remove_at i v.transfers)) = length_removed v.transfers i blank_transfer lt in
          let l = h.live in
          let m = h.most_capacity in
          omega arith

  -- has room for one more
  pub alone_room : {w : View} → w ≡ alone → length w.transfers < 128
  alone_room e = rw e room_alone

  -- and a place in the lent store for it
  pub alone_place : {w : View} {n : ℕ} → w ≡ alone → n ≡ lowest_n w.transfers → n < 128
  alone_place e q =
      let low = (lowest_free 128 0 alone.transfers (λ j m. absurd (omega arith)) room_alone).0 in
      rw (q, e) (omega (arith, room_alone, low))

  -- under the next token
  token_alone : alone.next_token ≡ v.next_token
  token_alone = seek_cases {X = View} (λ (w : View). w.next_token ≡ v.next_token) (addressed r.identity) v.transfers holding (cancel_at holding) (λ n. refl) (λ i lt t. refl)

  -- what it leaves
  pub accept_leaves : (octets words : List ℕ) {w : View} {l : List Transfer} {n t next : ℕ} {x : Transfer} {stores : List ℕ} → w ≡ alone → n ≡ lowest_n w.transfers → stores ≡ stored octets n message
      → t ≡ w.next_token → x ≡ begun (parcel_of r message g.frames n t) g.echo t → next ≡ number_after t → l ≡ push_back w.transfers x
      → wrote (with_next (with_transfers w l) next, Ok (record { 0 = t })) (lent stores words) ≡ accepts v (lent octets words) r message g
  unfolding accepts
  accept_leaves octets words ew en es et ex eu el = rw (eu, el, ex, es, en, et, ew, token_alone) refl
