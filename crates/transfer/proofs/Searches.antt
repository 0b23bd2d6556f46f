-- The Rust's searches are the definitions': the first free echo of a range, and the greatest age by filters and `max_by_key`. Assumes nothing.
use Rattle.std.proofs.Common.{◌≡◌, ℕ, zero, suc, ◌+◌, ◌-◌, ◌%◌, ◌<◌, ◌≤◌, Bool, true, false, cond, leb, List, [], ◌∷◌, map, length, get_or, Some, None, Option, sym, refl, ap, ◌∙◌, add-one, arith, le-ltb, lt-ltb, leb-false, leb-true}
use mathlib.Core.List.{foldl}
use borrow.Author.Tests.{lt-leb}
use lib.ListN.{length-map}
use Rattle.transfer.specs.declared.Transfer.{Transfer}
use Rattle.transfer.specs.Iterators.{range, find, filter, in_front, enumerate, filter_map, greater, max_by_key}
use Rattle.transfer.specs.Lists.{position}
use Rattle.transfer.specs.State.{Echoes, View, with_transfers}
use Rattle.transfer.specs.Echo.{free, around, free_echo}
use Rattle.transfer.specs.Prepare.{is_ready}
use Rattle.transfer.specs.Refresh.{blocks_since, age_of, oldest_from, oldest, to_front}
use Rattle.transfer.specs.Literal.{search_literal, aged_literal, oldest_literal, fronted_literal}
use Rattle.transfer.proofs.EchoSearch.{position_from, around_here, around_next, around_none}

-- ---- the echo

module _ (e : Echoes) (long : length e.echo_until_ms ≡ 128) (low : e.next_echo < 128) (now : ℕ) where
  abbrev turned : ℕ → ℕ
  turned offset = (e.next_echo + offset) % 128

  abbrev released : ℕ → Bool
  released index = leb (get_or e.echo_until_ms index 0) now

  -- the search that has come to offset k
  search-from : (n k : ℕ) → n + k ≡ 128 → position (free now) (around e) ≡ position_from (free now) (around e) 0 k → find released (map turned (range n k)) ≡ free_echo e now
  search-from zero k h q = around_none e.echo_until_ms e.next_echo long low now k q (omega arith)
  search-from (suc n) k h q = go (released (turned k)) refl (search-from n (suc k) (omega arith))
    where
      go : (b : Bool) → released (turned k) ≡ b → (position (free now) (around e) ≡ position_from (free now) (around e) 0 (suc k) → find released (map turned (range n (suc k))) ≡ free_echo e now) → cond b (Some (turned k)) (find released (map turned (range n (suc k)))) ≡ free_echo e now
      go true t f = around_here e.echo_until_ms e.next_echo long low now k q (omega arith) (leb-true _ _ t)
      go false t f =
          let r = around_next e.echo_until_ms e.next_echo long low now k q (omega arith) (leb-false _ _ t) in
          f (r ∙ ap (λ (i : ℕ). position_from (free now) (around e) 0 i) (add-one k))

  -- the search is the definition's
  pub search-literal : search_literal e now ≡ free_echo e now
  unfolding search_literal
  search-literal = search-from 128 0 refl (omega arith)

-- ---- the oldest

-- at least 16 blocks
abbrev old : ℕ × ℕ → Bool
old p = leb 16 p.1

module _ (block : ℕ) where
  -- the ages by place, from place i on
  abbrev aged : (i : ℕ) → List Transfer → List (ℕ × ℕ)
  aged i l = filter_map (λ p. aged_literal block p.0 p.1.blocks.last_frame) (filter (λ p. is_ready p.1) (enumerate i l))

  -- the greatest so far, and what comes after it
  module _ (best top i : ℕ) (x : Transfer) (l : List Transfer) (h : 16 ≤ top) (f : (best top : ℕ) → 16 ≤ top → (foldl greater (best, top) (filter old (aged (suc i) l))).0 ≡ oldest_from best top (suc i) (map (age_of block) l)) where
    abbrev later : List (ℕ × ℕ)
    later = aged (suc i) l

    -- one that is not old enough, or has no age
    skipped : (age : ℕ) → age < top → (foldl greater (best, top) (filter old later)).0 ≡ oldest_from best top i (age ∷ map (age_of block) l)
    skipped age a = f best top h ∙ sym (ap (λ (b : Bool). cond b (oldest_from i age (suc i) (map (age_of block) l)) (oldest_from best top (suc i) (map (age_of block) l))) (lt-leb top age a))

    -- one of an age
    compared_age : (age : ℕ) → (foldl greater (best, top) (filter old ((i, age) ∷ later))).0 ≡ oldest_from best top i (age ∷ map (age_of block) l)
    compared_age age = go (leb 16 age) refl (leb top age) refl
      where
        go : (o : Bool) → leb 16 age ≡ o → (t : Bool) → leb top age ≡ t
            → (foldl greater (best, top) (cond o ((i, age) ∷ filter old later) (filter old later))).0 ≡ cond t (oldest_from i age (suc i) (map (age_of block) l)) (oldest_from best top (suc i) (map (age_of block) l))
        go true q true r = ap (λ (b : Bool). (foldl greater (cond b (best, top) (i, age)) (filter old later)).0) (le-ltb age top (leb-true top age r)) ∙ f i age (leb-true 16 age q)
        go true q false r = ap (λ (b : Bool). (foldl greater (cond b (best, top) (i, age)) (filter old later)).0) (lt-ltb age top (leb-false top age r)) ∙ f best top h
        go false q true r = absurd (omega (arith, leb-false 16 age q, leb-true top age r))
        go false q false r = f best top h

    since : (s : Option ℕ) → (foldl greater (best, top) (filter old (in_front (aged_literal block i s) later))).0 ≡ oldest_from best top i (blocks_since block s ∷ map (age_of block) l)
    since None = skipped 0 (omega arith)
    since (Some b) = compared_age (block - b)

    ready : (r : Bool) → (foldl greater (best, top) (filter old (filter_map (λ p. aged_literal block p.0 p.1.blocks.last_frame) (cond r ((i, x) ∷ filter (λ p. is_ready p.1) (enumerate (suc i) l)) (filter (λ p. is_ready p.1) (enumerate (suc i) l)))))).0
        ≡ oldest_from best top i (cond r (blocks_since block x.blocks.last_frame) 0 ∷ map (age_of block) l)
    ready true = since x.blocks.last_frame
    ready false = skipped 0 (omega arith)

  greatest_after : (l : List Transfer) (i best top : ℕ) → 16 ≤ top → (foldl greater (best, top) (filter old (aged i l))).0 ≡ oldest_from best top i (map (age_of block) l)
  greatest_after [] i best top h = refl
  greatest_after (x ∷ l) i best top h = ready best top i x l h (greatest_after l (suc i)) (is_ready x)

-- the place that was found, or another
abbrev placed : ℕ → Option (ℕ × ℕ) → ℕ
placed best None = best
placed best (Some p) = p.0

-- the greatest of those that pass is the greatest after an age of 16
passing : (l : List (ℕ × ℕ)) (best : ℕ) → placed best (max_by_key (filter old l)) ≡ (foldl greater (best, 16) (filter old l)).0
passing [] best = refl
passing (p ∷ l) best = go (old p) refl (passing l best)
  where
    go : (b : Bool) → old p ≡ b → placed best (max_by_key (filter old l)) ≡ (foldl greater (best, 16) (filter old l)).0 → placed best (max_by_key (cond b (p ∷ filter old l) (filter old l))) ≡ (foldl greater (best, 16) (cond b (p ∷ filter old l) (filter old l))).0
    go true e f = sym (ap (λ (b : Bool). (foldl greater (cond b (best, 16) p) (filter old l)).0) (le-ltb p.1 16 (leb-true 16 p.1 e)))
    go false e f = f

-- a place that is found is one of the list
oldest_low : (best top i : ℕ) (ages : List ℕ) (n : ℕ) → best < n → i + length ages ≤ n → oldest_from best top i ages < n
oldest_low best top i [] n b h = b
oldest_low best top i (a ∷ ages) n b h = go (leb top a) (oldest_low i a (suc i) ages n (omega arith) (omega arith)) (oldest_low best top (suc i) ages n b (omega arith))
  where
    go : (t : Bool) → oldest_from i a (suc i) ages < n → oldest_from best top (suc i) ages < n → cond t (oldest_from i a (suc i) ages) (oldest_from best top (suc i) ages) < n
    go true f g = f
    go false f g = g

module _ (block : ℕ) (l : List Transfer) where
  -- whichever stands for none
  found_place : (best : ℕ) → placed best (oldest_literal block l) ≡ oldest_from best 16 0 (map (age_of block) l)
  found_place best = passing (aged block 0 l) best ∙ greatest_after block l 0 best 16 (omega arith)

  -- the oldest goes to the front
  pub fronted-literal : (v : View) → v.transfers ≡ l → fronted_literal v (oldest_literal block l) ≡ with_transfers v (to_front (oldest block l) l)
  unfolding oldest
  fronted-literal v e = go (oldest_literal block l) refl
    where
      go : (o : Option (ℕ × ℕ)) → oldest_literal block l ≡ o → fronted_literal v o ≡ with_transfers v (to_front (oldest_from (length l) 16 0 (map (age_of block) l)) l)
      go None q =
          let r : length l ≡ oldest_from (length l) 16 0 (map (age_of block) l) = ap (placed (length l)) (sym q) ∙ found_place (length l) in
          rw (sym r, le-ltb (length l) (length l) (omega arith), sym e)
      go (Some p) q =
          let r : (best : ℕ) → p.0 ≡ oldest_from best 16 0 (map (age_of block) l) = λ best. ap (placed best) (sym q) ∙ found_place best in
          rw (sym (r (length l)), lt-ltb p.0 (length l) (low l r), e)
        where
          low : (l : List Transfer) → ((best : ℕ) → p.0 ≡ oldest_from best 16 0 (map (age_of block) l)) → p.0 < length l
          low [] r = absurd (omega (arith, r 0, r 1))
          low (x ∷ l) r = rw (r 0) (oldest_low 0 16 0 (map (age_of block) (x ∷ l)) (suc (length l)) (omega arith) (omega (arith, length-map (x ∷ l) (age_of block))))
