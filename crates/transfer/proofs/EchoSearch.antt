-- The search round the echoes: what stands at an offset from `next`, a search that has come to an offset, what an answer tells of the holds, and what a hold changes. Assumes nothing.
use Rattle.std.proofs.Common.{◌≡◌, ℕ, ◌+◌, ◌-◌, ◌%◌, ◌<◌, ◌≤◌, Bool, true, false, cond, ltb, ◌↔◌, List, length, get_or, take, drop, Some, None, sym, refl, ap, ◌∙◌, add-one, arith, length-append, length-drop, drop_of_length-le, length-take, get_or-drop, drop-cons, get_or-set_other, get_or-take, get_or-set_same, get_or-append-add, ltb-false, ltb-true, le-ltb, lt-ltb, le-leb, leb-false, leb-true}
use borrow.Author.Tests.{lt-leb}
use lib.ListN.{get_or-append}
use Rattle.transfer.specs.Lists.{position}
use Rattle.transfer.specs.State.{Echoes}
use Rattle.transfer.specs.Echo.{free, around, free_echo, hold}
use Rattle.transfer.proofs.Listed.{all-at, position-none, position-found, position_before}

-- a search that has come to i: what it gives from the start
module _ {A : Type 0} (p : A → Bool) (l : List A) (d : A) where
  abbrev pub position_from : ℕ → ℕ
  position_from i = i + position p (drop i l)

  position_here : (i : ℕ) → i < length l → p (get_or l i d) ≡ true → position_from i ≡ i
  position_here i h e = rw (drop-cons l i d, e) (omega arith)

  position_next : (i : ℕ) → i < length l → p (get_or l i d) ≡ false → position_from i ≡ position_from (i + 1)
  position_next i h e = rw (add-one, drop-cons l i d, e) (omega arith)

  position_end : (i : ℕ) → length l ≤ i → position_from i ≡ i
  position_end i h = rw (drop_of_length-le l {i = i} (omega arith)) (omega arith)

module _ (u : List ℕ) (next : ℕ) (long : length u ≡ 128) (low : next < 128) where
  abbrev echoes : Echoes
  echoes = record { echo_until_ms = u; next_echo = next }

  pub around_long : length (around echoes) ≡ 128
  around_long = simp (length-append, length-drop, length-take) (omega arith)

  around_at : (k : ℕ) → k < 128 → get_or (around echoes) k 0 ≡ get_or u ((next + k) % 128) 0
  around_at k h = split (ltb (next + k) 128) refl
    where
      first : next + k < 128 → get_or (around echoes) k 0 ≡ get_or u ((next + k) % 128) 0
      first f =
          let e : (next + k) % 128 ≡ next + k = omega arith in
          let lt : k < length (drop next u) = simp length-drop (omega arith) in
          get_or-append (drop next u) (take next u) 0 k lt ∙ (get_or-drop next u k 0 ∙ rw e)

      second : 128 ≤ next + k → get_or (around echoes) k 0 ≡ get_or u ((next + k) % 128) 0
      second f =
          let e : (next + k) % 128 ≡ (next + k) - 128 = omega arith in
          let n : k ≡ length (drop next u) + ((next + k) - 128) = simp length-drop (omega arith) in
          let lt : (next + k) - 128 < next = omega arith in
          rw e (ap (λ (j : ℕ). get_or (around echoes) j 0) n ∙ (get_or-append-add (drop next u) (take next u) ((next + k) - 128) 0 ∙ get_or-take next u ((next + k) - 128) 0 lt))

      split : (b : Bool) → ltb (next + k) 128 ≡ b → get_or (around echoes) k 0 ≡ get_or u ((next + k) % 128) 0
      split true q = first (ltb-true _ _ q)
      split false q = second (ltb-false _ _ q)

  module _ (now k : ℕ) (e : position (free now) (around echoes) ≡ position_from (free now) (around echoes) 0 k) where
    -- the echo at k is free: the search ends with it
    pub around_here : k < 128 → get_or u ((next + k) % 128) 0 ≤ now → Some ((next + k) % 128) ≡ free_echo echoes now
    unfolding free_echo
    around_here h f =
        let len = around_long in
        let at = around_at k h in
        let found : position (free now) (around echoes) ≡ k = e ∙ position_here (free now) (around echoes) 0 k (omega arith) (rw at (le-leb _ _ f)) in
        rw (found, lt-ltb k 128 h)

    -- it is held: the search goes on
    pub around_next : k < 128 → now < get_or u ((next + k) % 128) 0 → position (free now) (around echoes) ≡ position_from (free now) (around echoes) 0 (k + 1)
    around_next h f =
        let len = around_long in
        let at = around_at k h in
        e ∙ position_next (free now) (around echoes) 0 k (omega arith) (rw at (lt-leb _ _ f))

    -- the search has gone round: none is free
    pub around_none : 128 ≤ k → None ≡ free_echo echoes now
    unfolding free_echo
    around_none h =
        let len = around_long in
        let gone : position (free now) (around echoes) ≡ k = e ∙ position_end (free now) (around echoes) 0 k (omega arith) in
        rw (gone, le-ltb k 128 h)

some-none : {n : ℕ} → Some n ≡ None → ⊥
some-none q = let z : ◌≡◌ {A = ℕ} 0 1 = cc in omega arith

module _ (e : Echoes) (long : length e.echo_until_ms ≡ 128) where
  module _ (low : e.next_echo < 128) (now : ℕ) where
    abbrev offset : ℕ
    offset = position (free now) (around e)

    found : offset < 128 → get_or e.echo_until_ms ((e.next_echo + offset) % 128) 0 ≤ now
    found h =
        let len = around_long e.echo_until_ms e.next_echo long low in
        let at = around_at e.echo_until_ms e.next_echo long low offset h in
        leb-true _ _ (ap (free now) (sym at) ∙ position-found (free now) 0 (around e) (omega arith))

    in_vain : 128 ≤ offset → (k : ℕ) → k < 128 → now < get_or e.echo_until_ms k 0
    in_vain h k lt =
        let len = around_long e.echo_until_ms e.next_echo long low in
        let j : ((k + 128) - e.next_echo) % 128 < 128 = omega arith in
        let back : (e.next_echo + ((k + 128) - e.next_echo) % 128) % 128 ≡ k = omega arith in
        let at = around_at e.echo_until_ms e.next_echo long low (((k + 128) - e.next_echo) % 128) j in
        let f = all-at (around e) (((k + 128) - e.next_echo) % 128) 0 (omega arith) (position-none (free now) (around e) (omega arith)) in
        leb-false _ _ (ap (free now) (sym (at ∙ ap (λ (i : ℕ). get_or e.echo_until_ms i 0) back)) ∙ f)

    -- an echo is taken only if it is held until now or earlier
    pub free_now : {echo : ℕ} → free_echo e now ≡ Some echo → (echo < 128) × (get_or e.echo_until_ms echo 0 ≤ now)
    unfolding free_echo
    free_now {echo} q = go (ltb offset 128) refl q
      where
        go : (b : Bool) → ltb offset 128 ≡ b → cond b (Some ((e.next_echo + offset) % 128)) None ≡ Some echo → (echo < 128) × (get_or e.echo_until_ms echo 0 ≤ now)
        go true t q =
            let r : (e.next_echo + offset) % 128 ≡ echo = cc in
            let f = found (ltb-true _ _ t) in
            (omega arith, rw r at f)
        go false t q = absurd (some-none (sym q))

    -- no echo nearer to `next_echo`, going round, is free
    nearer_held : (nearer : ℕ) → nearer < offset → nearer < 128 → now < get_or e.echo_until_ms ((e.next_echo + nearer) % 128) 0
    nearer_held nearer m h =
        let at = around_at e.echo_until_ms e.next_echo long low nearer h in
        leb-false _ _ (ap (free now) (sym at) ∙ position_before (free now) 0 (around e) nearer m)

    -- the echo that is taken is the free one at the least distance from `next_echo`, upwards and going round
    pub free_least : {echo : ℕ} → free_echo e now ≡ Some echo
        → (distance : ℕ) × (distance < 128) × (echo ≡ (e.next_echo + distance) % 128) × (get_or e.echo_until_ms echo 0 ≤ now)
        × ((nearer : ℕ) → nearer < distance → now < get_or e.echo_until_ms ((e.next_echo + nearer) % 128) 0)
    unfolding free_echo
    free_least {echo} q = go (ltb offset 128) refl q
      where
        go : (b : Bool) → ltb offset 128 ≡ b → cond b (Some ((e.next_echo + offset) % 128)) None ≡ Some echo
            → (distance : ℕ) × (distance < 128) × (echo ≡ (e.next_echo + distance) % 128) × (get_or e.echo_until_ms echo 0 ≤ now)
            × ((nearer : ℕ) → nearer < distance → now < get_or e.echo_until_ms ((e.next_echo + nearer) % 128) 0)
        go true t q =
            let r : (e.next_echo + offset) % 128 ≡ echo = cc in
            let h : offset < 128 = ltb-true _ _ t in
            let f = found h in
            (offset, h, sym r, rw r at f, λ nearer m. nearer_held nearer m (omega arith))
        go false t q = absurd (some-none (sym q))

    -- none is free exactly if every echo is held until later
    pub none_free : (free_echo e now ≡ None) ↔ ((k : ℕ) → k < 128 → now < get_or e.echo_until_ms k 0)
    unfolding free_echo
    none_free = ((λ q. go (ltb offset 128) refl q), (λ f. back f (ltb offset 128) refl))
      where
        go : (b : Bool) → ltb offset 128 ≡ b → cond b (Some ((e.next_echo + offset) % 128)) None ≡ None → (k : ℕ) → k < 128 → now < get_or e.echo_until_ms k 0
        go true t q = absurd (some-none q)
        go false t q = in_vain (ltb-false _ _ t)

        back : ((k : ℕ) → k < 128 → now < get_or e.echo_until_ms k 0) → (b : Bool) → ltb offset 128 ≡ b → cond b (Some ((e.next_echo + offset) % 128)) None ≡ None
        back f true t =
            let held = f ((e.next_echo + offset) % 128) (omega arith) in
            let released = found (ltb-true _ _ t) in
            absurd (omega arith)
        back f false t = refl

  -- an echo that is held is held until then
  pub held_after : (echo until : ℕ) → echo < 128 → get_or (hold e echo until).echo_until_ms echo 0 ≡ until
  held_after echo until h = get_or-set_same e.echo_until_ms echo until 0 (omega arith)

-- every other echo's hold stays
pub held_other : (e : Echoes) (echo until k : ℕ) → (k ≡ echo → ⊥) → get_or (hold e echo until).echo_until_ms k 0 ≡ get_or e.echo_until_ms k 0
held_other e echo until k h = get_or-set_other e.echo_until_ms echo k until 0 h
