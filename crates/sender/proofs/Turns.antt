-- The walk over the live transfers, in place: what holds after i turns, and what a turn makes of it. Assumes nothing.
use Rattle.std.proofs.Common.{◌≡◌, ℕ, suc, ◌+◌, ◌<◌, ◌≤◌, Bool, List, [], ◌∷◌, ◌++◌, length, get_or, take, drop, set, Some, None, Option, option_to_list, sym, refl, ap, ◌∙◌, add-one, arith, length-set, drop_of_length-le, drop-cons, take-suc-set, drop-set-lt}
use mathlib.Core.List.{foldl}
use Rattle.std.proofs.lemmas.List.{append-nil}
use Rattle.token.specs.Token.{stop}
use Rattle.transfer.specs.declared.Transfer.{Transfer}
use Rattle.transfer.specs.State.{View, with_transfers, blank_transfer}
use Rattle.transfer.specs.Advance.{step}
use Rattle.transfer.specs.Invariant.{Sound}
use Rattle.sender.specs.Asked.{asked_at}
use Rattle.sender.proofs.Asked.{flag, asked_from, length_asked}
use Rattle.sender.proofs.Found.{live_there, frames_there}

-- a list that is another from i on: its element there, and what comes after
there : {A : Type 0} (l m : List A) (i : ℕ) (d : A) → drop i m ≡ drop i l → i < length l → i < length m → (get_or m i d ≡ get_or l i d) × (drop (suc i) m ≡ drop (suc i) l)
there l m i d e hl hm = go (sym (drop-cons m i d hm) ∙ e ∙ drop-cons l i d hl)
  where
    go : get_or m i d ∷ drop (suc i) m ≡ get_or l i d ∷ drop (suc i) l → (get_or m i d ≡ get_or l i d) × (drop (suc i) m ≡ drop (suc i) l)
    go q = (cc, cc)

-- v is the sender before the walk, u the sender after i turns, of whose list the first `kept` transfers go on
pub record Turning (v : View) (asked : Option ℕ) (u : View) (kept i : ℕ) : Type 0 where
  pub low : kept ≤ i
  pub size : length u.transfers ≡ length v.transfers
  pub room : kept + length v.transfers + length u.events ≤ 256 + i
  pub limits : u.limits ≡ v.limits
  pub tail : drop i u.transfers ≡ drop i v.transfers
  pub whole : foldl step (with_transfers u (take kept u.transfers)) (drop i (asked_at asked v.transfers)) ≡ foldl step (with_transfers v []) (asked_at asked v.transfers)

module _ {v : View} {asked : Option ℕ} {u : View} {kept i : ℕ} (t : Turning v asked u kept i) where
  -- after the last
  pub turned_all : length v.transfers ≤ i → with_transfers u (take kept u.transfers) ≡ foldl step (with_transfers v []) (asked_at asked v.transfers)
  turned_all h =
      let n = length_asked asked v.transfers in
      let all = t.whole in
      rw (drop_of_length-le (asked_at asked v.transfers) {i = i} (omega arith)) at all

  module _ (lt : i < length v.transfers) where
    within : i < length u.transfers
    within = let s = t.size in omega arith

    -- a place that was passed is free for one that goes on
    pub turn_low : kept < length u.transfers
    turn_low = let l = t.low in let s = t.size in omega arith

    -- x is what the code read there
    module _ {x : Transfer} (is : x ≡ get_or u.transfers i blank_transfer) where
      -- it has not been written over
      here : x ≡ get_or v.transfers i blank_transfer
      here = is ∙ (there v.transfers u.transfers i blank_transfer t.tail lt within).0

      -- until when a restart holds an echo fits in 64 bits
      pub turn_fits : Sound v → x.parcel.deadline_ms + u.limits.echo_guard_ms ≤ stop
      turn_fits h = rw (t.limits, here) (live_there v refl lt h).holds.fits

      -- it has 1 to 27 frames
      pub turn_frames : Sound v → (1 ≤ x.parcel.frames) × (x.parcel.frames ≤ 27)
      turn_frames h = rw here (frames_there v refl lt h)

      -- w is the sender after the turn, and o the transfer if it goes on
      module _ (o : Option Transfer) {w : View} {b : Bool} (asks : b ≡ flag asked i) (turn : (before : List Transfer) → step (with_transfers u before) (b, x) ≡ with_transfers w (before ++ option_to_list o))
          (same : w.transfers ≡ u.transfers) (guard : w.limits ≡ u.limits) (one : length w.events + length (option_to_list o) ≡ length u.events + 1) where
        turned : foldl step (with_transfers w (take kept u.transfers ++ option_to_list o)) (drop (suc i) (asked_at asked v.transfers)) ≡ foldl step (with_transfers v []) (asked_at asked v.transfers)
        turned =
            let l = asked_at asked v.transfers in
            ap (λ (z : View). foldl step z (drop (suc i) l)) (sym (turn (take kept u.transfers)) ∙ rw (asks, here) refl)
            ∙ (ap (foldl step (with_transfers u (take kept u.transfers))) (sym (asked_from asked v.transfers i lt)) ∙ t.whole)

        -- it has ended
        pub turn_gone : o ≡ None → Turning v asked w kept (i + 1)
        turn_gone e =
            let low = t.low in
            let room = t.room in
            let n : length (option_to_list o) ≡ 0 = rw e refl in
            let s = t.size in
            record {
              low = omega arith;
              size = ap length same ∙ t.size;
              room = omega arith;
              limits = guard ∙ t.limits;
              tail = rw (add-one, same) (there v.transfers u.transfers i x t.tail lt within).1;
              whole = rw (add-one, same) (rw (e, append-nil) at turned);
            }

        -- it goes on, behind those before it
        pub turn_kept : {y : Transfer} {z : View} → o ≡ Some y → z ≡ with_transfers w (set w.transfers kept y) → Turning v asked z (kept + 1) (i + 1)
        turn_kept {y} {z} e q =
            let low = t.low in
            let room = t.room in
            let n : length (option_to_list o) ≡ 1 = rw e refl in
            let s = t.size in
            let behind : take (suc kept) (set u.transfers kept y) ≡ take kept u.transfers ++ y ∷ [] = take-suc-set u.transfers kept y turn_low in
            rw q (record {
              low = omega arith;
              size = rw same (length-set u.transfers kept y ∙ t.size);
              room = omega arith;
              limits = guard ∙ t.limits;
              tail = rw (add-one, same, drop-set-lt (suc i) u.transfers kept y (omega arith)) (there v.transfers u.transfers i x t.tail lt within).1;
              whole = rw (add-one i, add-one kept, same, behind) (rw e at turned);
            })
