-- What a restart keeps of `Sound`, and what the walk of `advance` leaves: limits and clock, and how many tokens it takes, whichever
-- restarts are asked for. Assumes nothing.
use Rattle.std.proofs.Common.{◌≡◌, ℕ, suc, ◌+◌, ◌<◌, ◌≤◌, Bool, true, false, cond, ◌||◌, ◌≢◌, List, [], ◌∷◌, ◌++◌, length, Some, None, Option, sym, refl, ap, ◌∙◌, arith}
use mathlib.Core.List.{foldl}
use Rattle.token.specs.Token.{stop, number_after}
use Rattle.transfer.specs.declared.Transfer.{Transfer}
use Rattle.transfer.specs.declared.PreparedFrame.{PreparedFrame}
use Rattle.transfer.specs.declared.Fate.{Fate}
use Rattle.transfer.specs.declared.Fate.TheVariants.{Ends, Restarts, Stays}
use Rattle.transfer.specs.State.{Clock, View, with_transfers, with_echoes, token_taken, unselect, clear_selected, completes, expires, event_of, ended, of_echo}
use Rattle.transfer.specs.Echo.{free_echo, held_until, hold}
use Rattle.transfer.specs.Transfer.{done_of, settle_of, restart_due, begun}
use Rattle.transfer.specs.Advance.{overdue, fate_of, restart, landed, step, walk, unasked, walked}
use Rattle.transfer.specs.Prepare.{asked_for}
use Rattle.transfer.specs.Invariant.{All, Live, Different, Selected, Sound}
use Rattle.transfer.proofs.EchoSearch.{free_now}
use Rattle.transfer.proofs.Listed.{all_map, all_both, all_one, all_rest, all_in, some_in, pairs_one, pairs_in, length_in}
use Rattle.transfer.proofs.Invariant.{cond_cases, different_sym, ended-kept, free_unheld, hold-kept, live_after, token_kept}
use Rattle.transfer.proofs.Alive.{begun_live}

-- ---- a restart

-- it keeps `Sound`, under a free echo, while a token is left
module _ (v : View) (a : List Transfer) (x : Transfer) (b : List Transfer) (h : Sound (with_transfers v (a ++ x ∷ b))) {echo : ℕ} (q : free_echo v.echoes v.clock.last_ms ≡ Some echo) where
  -- what begins
  abbrev begins : Transfer
  begins = begun x.parcel echo v.next_token

  -- it differs from the others
  others : All (Different v.clock begins) (a ++ b)
  others = all_map go (all_both (pairs_one (different_sym v.clock) a x b h.different) (all_both (all_rest a x b h.transfers) (all_rest a x b (free_unheld (with_transfers v (a ++ x ∷ b)) q h))))
    where
      go : (z : Transfer) → Different v.clock x z × (Live v.limits v.clock v.echoes v.next_token z × (overdue v.clock z ≡ false → z.echo ≢ echo)) → Different v.clock begins z
      go z k =
          let g = k.1.0.generation in
          record {
            identity = k.0.identity;
            place = k.0.place;
            owner = k.0.owner;
            generation = λ e. absurd (omega arith);
            echo = λ o p e. k.1.1 p (sym e);
          }

  -- what is selected of the others is so with it among them
  selected_in : (next : ℕ) (s : Option PreparedFrame) → Selected (a ++ b) next s → Selected (a ++ begins ∷ b) next s
  selected_in next None k = tt
  selected_in next (Some f) k = (some_in a begins b k.0, k.1)

  -- it begins, at the place of the old one
  pub begun_kept : v.next_token < stop → Sound (with_transfers (token_taken (with_echoes (clear_selected v x.generation) (hold v.echoes echo (held_until v.limits x.parcel.deadline_ms)))) (a ++ begins ∷ b))
  begun_kept room =
      let until = held_until v.limits x.parcel.deadline_ms in
      let u = with_transfers (ended v x (event_of x expires)) (a ++ b) in
      let r = token_kept (with_echoes u (hold v.echoes echo until)) (hold-kept u echo until q (ended-kept v a x b (event_of x expires) h)) in
      let i = h.live in
      let j = h.accounted in
      let n : length (a ++ x ∷ b) ≡ suc (length (a ++ b)) = length_in a x b in
      let m : length (a ++ begins ∷ b) ≡ suc (length (a ++ b)) = length_in a begins b in
      let low : echo < 128 = (free_now v.echoes h.echoes h.next_echo v.clock.last_ms q).0 in
      let live = live_after v.limits v.clock v.echoes v.next_token x h.counter (all_one a x b h.transfers) in
      let alive = begun_live x live echo v.next_token low h.echoes (omega arith) in
      record {
        some_capacity = h.some_capacity;
        most_capacity = h.most_capacity;
        live = omega arith;
        accounted = omega arith;
        echoes = r.echoes;
        next_echo = r.next_echo;
        transfers = all_in a begins b alive r.transfers;
        different = pairs_in (different_sym v.clock) a begins b others r.different;
        selected = selected_in (number_after v.next_token) (unselect x.generation v.selected) r.selected;
        counter = r.counter;
      }

-- ---- what a step leaves: limits and clock; it takes one token at most

-- the four fates of a transfer
pub fate_cases : (P : Fate → Type 0) (c : Clock) (asked : Bool) (x : Transfer) → P (Ends (event_of x expires)) → (overdue c x ≡ false → P (Ends (event_of x completes))) → (overdue c x ≡ false → P Restarts)
    → (overdue c x ≡ false → done_of x ≡ false → (asked || restart_due c.last_block (settle_of c.last_block x)) ≡ false → P (Stays (settle_of c.last_block x))) → P (fate_of c asked x)
unfolding fate_of
fate_cases P c asked x late done again stay =
    let y = settle_of c.last_block x in
    let r = asked || restart_due c.last_block y in
    cond_cases P (overdue c x) (Ends (event_of x expires)) (cond (done_of x) (Ends (event_of x completes)) (cond r Restarts (Stays y))) (λ e. late)
    (λ e. cond_cases P (done_of x) (Ends (event_of x completes)) (cond r Restarts (Stays y)) (λ d. done e) (λ d. cond_cases P r Restarts (Stays y) (λ q. again e) (stay e d)))

-- limits and clock are as before, and so many tokens at most are taken
pub record Near (most : ℕ) (v w : View) : Type 0 where
  pub limits : w.limits ≡ v.limits
  pub clock : w.clock ≡ v.clock
  pub tokens : w.next_token ≤ v.next_token + most

-- a restart takes one token, or none
restart_near : (v : View) (x : Transfer) (o : Option ℕ) → Near 1 v (restart v x o)
restart_near v x None = record { limits = refl; clock = refl; tokens = omega arith }
restart_near v x (Some echo) = record { limits = refl; clock = refl; tokens = omega arith }

-- and no other fate takes one
landed_near : (v : View) (x : Transfer) (f : Fate) → Near 1 v (landed v x f)
landed_near v x (Ends e) = record { limits = refl; clock = refl; tokens = omega arith }
landed_near v x Restarts = restart_near v x (free_echo v.echoes v.clock.last_ms)
landed_near v x (Stays y) = record { limits = refl; clock = refl; tokens = omega arith }

-- a step
pub step_near : (v : View) (p : Bool × Transfer) → Near 1 v (step v p)
unfolding step
step_near v p = landed_near v p.1 (fate_of v.clock p.0 p.1)

-- ---- the walk

-- the transfers of a list that is walked
abbrev pub transfers_of : List (Bool × Transfer) → List Transfer
transfers_of [] = []
transfers_of (p ∷ l) = p.1 ∷ transfers_of l

-- a view and the transfers that it has yet to come to
abbrev pub behind : View → List Transfer → View
behind v rest = with_transfers v (v.transfers ++ rest)

-- limits, clock and tokens over all steps
steps_near : (l : List (Bool × Transfer)) (v : View) → Near (length l) v (foldl step v l)
steps_near [] v = record { limits = refl; clock = refl; tokens = omega arith }
steps_near (p ∷ l) v =
    let s = step_near v p in
    let r = steps_near l (step v p) in
    let i = s.tokens in
    let j = r.tokens in
    record { limits = r.limits ∙ s.limits; clock = r.clock ∙ s.clock; tokens = omega arith }

-- all steps
pub walk_near : (v : View) (l : List (Bool × Transfer)) → Near (length l) v (walk v l)
unfolding walk
walk_near v l = let r = steps_near l (with_transfers v []) in record { limits = r.limits; clock = r.clock; tokens = r.tokens }

-- ---- which restarts are asked for

-- none
pub unasked_all : (l : List Transfer) → transfers_of (unasked l) ≡ l
unasked_all [] = refl
unasked_all (x ∷ l) = ap (λ (m : List Transfer). x ∷ m) (unasked_all l)

-- that of the first transfer of an echo
pub asked_for_all : (echo : ℕ) (l : List Transfer) → transfers_of (asked_for echo l) ≡ l
asked_for_all echo [] = refl
asked_for_all echo (x ∷ l) = go (of_echo echo x) (asked_for_all echo l)
  where
    go : (t : Bool) → transfers_of (asked_for echo l) ≡ l → transfers_of (cond t ((true, x) ∷ unasked l) ((false, x) ∷ asked_for echo l)) ≡ x ∷ l
    go true e = ap (λ (m : List Transfer). x ∷ m) (unasked_all l)
    go false e = ap (λ (m : List Transfer). x ∷ m) e

-- as long as the transfers that are walked
pub long : (l : List (Bool × Transfer)) → length (transfers_of l) ≡ length l
long [] = refl
long (p ∷ l) = ap suc (long l)

-- a walk takes 128 tokens at most
pub walks_near : (v : View) (l : List (Bool × Transfer)) → transfers_of l ≡ v.transfers → Sound v → Near 128 v (walk v l)
walks_near v l e h =
    let n : length l ≡ length v.transfers = sym (long l) ∙ ap length e in
    let i = h.live in
    let j = h.most_capacity in
    let r = walk_near v l in
    let k = r.tokens in
    record { limits = r.limits; clock = r.clock; tokens = omega arith }

-- `advance`
pub walked_near : (v : View) → Sound v → Near 128 v (walked v)
unfolding walked
walked_near v h = walks_near v (unasked v.transfers) (unasked_all v.transfers) h
