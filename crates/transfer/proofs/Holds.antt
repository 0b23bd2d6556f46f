-- A call changes the hold of an echo only when it takes it. Assumes nothing.
use Rattle.std.proofs.Common.{◌≡◌, ℕ, ◌<◌, ◌≤◌, eqb, ◌⊎◌, List, [], ◌∷◌, ◌++◌, get_or, sym, refl, ap, ◌∙◌, subst, inl, inr, ⊎_elim, arith, eqb-true}
use Rattle.std.proofs.lemmas.Bool.{cases_Bool}
use borrow.Author.Tests.{eqb-false}
use Rattle.token.specs.Token.{stop}
use Rattle.transfer.specs.declared.Generation.{Generation}
use Rattle.transfer.specs.declared.Transfer.{Transfer}
use Rattle.transfer.specs.State.{Echoes, View, Lent}
use Rattle.transfer.specs.Echo.{held_until, hold}
use Rattle.transfer.specs.Transfer.{begun}
use Rattle.transfer.specs.Enqueue.{lowest_n, parcel_of}
use Rattle.transfer.specs.Invariant.{Any, any-here, any-later, Sound}
use Rattle.transfer.specs.History.{Call, Done, does, hold_of, OnlyTaken}
use Rattle.transfer.proofs.Listed.{some_left, some_right, some_out, some_one, some_in}
use Rattle.transfer.proofs.Alive.{SameParcel}
use Rattle.transfer.proofs.EchoSearch.{held_other}
use Rattle.transfer.proofs.Lives.{fresh_kept}
use Rattle.transfer.proofs.Moves.{Move, drops, picks, shifts, restarts, ends, Moves, stays, goes, Last, silent, tells_one, accepts_one, takes_one, does_leaves}
use Rattle.transfer.proofs.Taken.{each_sound}

-- ---- a transfer that began

-- it has this echo, under a generation of this number or later
abbrev Under : (first echo : ℕ) → Transfer → Type 0
Under first echo x = (x.echo ≡ echo) × (first ≤ x.generation.0)

-- a transfer that is changed, but not in parcel, generation or echo
under_same : (first echo : ℕ) (y x : Transfer) → SameParcel y x → Under first echo x → Under first echo y
under_same first echo y x s u = (s.2 ∙ u.0, subst (λ (g : Generation). first ≤ g.0) (sym s.1) u.1)

-- ---- the moves

module _ (v : View) (low : v.next_token ≤ stop) where
  -- each hold is as it was in v, or a live transfer has the echo under a new generation; and tokens have not fallen
  pub record Shows (w : View) : Type 0 where
    pub tokens : v.next_token ≤ w.next_token
    pub held : (echo : ℕ) → (hold_of w echo ≡ hold_of v echo) ⊎ Any (Under v.next_token echo) w.transfers

  -- a change that leaves the holds, and each such transfer such
  leaves : (u w : View) → v.next_token ≤ w.next_token → w.echoes ≡ u.echoes → ((echo : ℕ) → Any (Under v.next_token echo) u.transfers → Any (Under v.next_token echo) w.transfers) → Shows u → Shows w
  leaves u w t e f h = record { tokens = t; held = λ echo. ⊎_elim (λ k. inl (ap (λ (k : Echoes). get_or k.echo_until_ms echo 0) e ∙ k)) (λ s. inr (f echo s)) (h.held echo) }

  -- an echo is taken, and a live transfer has it
  takes : (u w : View) (new until : ℕ) → v.next_token ≤ w.next_token → w.echoes ≡ hold u.echoes new until → Any (Under v.next_token new) w.transfers
      → ((echo : ℕ) → Any (Under v.next_token echo) u.transfers → Any (Under v.next_token echo) w.transfers) → Shows u → Shows w
  takes u w new until t e s f h =
      record {
        tokens = t;
        held = λ echo.
            ⊎_elim (λ q. inr (subst (λ k. Any (Under v.next_token k) w.transfers) (sym (eqb-true echo new q)) s))
            (λ q. ⊎_elim (λ k. inl (ap (λ (k : Echoes). get_or k.echo_until_ms echo 0) e ∙ (held_other u.echoes new until echo (eqb-false echo new q) ∙ k))) (λ k. inr (f echo k)) (h.held echo))
            (cases_Bool (eqb echo new));
      }

  -- what was there when the call began is none that began
  not_old : (a : List Transfer) (x : Transfer) (b : List Transfer) (echo : ℕ) → x.generation.0 < v.next_token → Any (Under v.next_token echo) (a ++ x ∷ b) → Any (Under v.next_token echo) (a ++ b)
  not_old a x b echo old s = ⊎_elim (λ k. let g = k.1 in absurd (omega arith)) (λ r. r) (some_out a x b s)

  -- each
  move_shows : {octets : List ℕ} {u w : View} → Move octets v.next_token u w → Shows u → Shows w
  move_shows {u = u} {w = w} (drops s e) h = leaves u w h.tokens refl (λ echo k. k) h
  move_shows {u = u} {w = w} (picks a b x p e r room q) h = let t = h.tokens in leaves u w (omega arith) refl (λ echo k. k) h
  move_shows {u = u} {w = w} (shifts a b c d x y e q s) h =
      leaves u w h.tokens refl
      (λ echo k. ⊎_elim (λ n. some_one c y d (under_same v.next_token echo y x s.same n)) (λ n. some_in c y d (subst (Any (Under v.next_token echo)) (sym q) n)) (some_out a x b (subst (Any (Under v.next_token echo)) e k))) h
  move_shows {u = u} {w = w} (restarts a b x new e old due room q) h =
      let t = h.tokens in
      let y = begun x.parcel new u.next_token in
      takes u w new (held_until u.limits x.parcel.deadline_ms) (omega arith) refl (some_one a y b (refl, t))
      (λ echo k. some_in a y b (not_old a x b echo old (subst (Any (Under v.next_token echo)) e k))) h
  move_shows {u = u} {w = w} (ends a b x how q old) h = leaves u w h.tokens refl (λ echo k. not_old a x b echo old (subst (Any (Under v.next_token echo)) q k)) h

  -- one after the other
  moves_shows : {octets : List ℕ} {u w : View} → Moves octets v.next_token u w → Shows u → Shows w
  moves_shows stays h = h
  moves_shows (goes m k) h = moves_shows k (move_shows m h)

  -- what comes last
  last_shows : {octets : List ℕ} {u : View} {c : Call} {d : Done} → Last octets u c d → Shows u → Shows d.sender
  last_shows silent h = h
  last_shows (tells_one f e p) h = h
  last_shows {u = u} {d = d} (accepts_one r message g k long i) h =
      let t = h.tokens in
      let room = i.counter in
      let y = begun (parcel_of r message g.frames (lowest_n u.transfers) u.next_token) g.echo u.next_token in
      takes u d.sender g.echo (held_until u.limits r.deadline_ms) (omega arith) refl (some_right u.transfers (y ∷ []) (any-here (refl, t))) (λ echo k. some_left u.transfers (y ∷ []) k) h
  last_shows {u = u} {d = d} (takes_one e l q) h = leaves u d.sender h.tokens refl (λ echo k. k) h

-- each call
does_shows : (v : View) (m : Lent) (c : Call) (h : Sound v) → Shows v h.counter (does v m c).sender
does_shows v m c h =
    let l = does_leaves v m c h in
    last_shows v h.counter l.last (moves_shows v h.counter l.quietly.made (record { tokens = omega arith; held = λ echo. inl refl }))

-- ---- over a list of calls

-- the transfer that has the echo gives the deadline
with_deadline : {first echo : ℕ} {l : List Transfer} → Any (Under first echo) l → (deadline : ℕ) × Any (λ x. (x.echo ≡ echo) × (x.parcel.deadline_ms ≡ deadline) × (first ≤ x.generation.0)) l
with_deadline (any-here {x = x} p) = (x.parcel.deadline_ms, any-here (p.0, refl, p.1))
with_deadline (any-later h) = let d = with_deadline h in (d.0, any-later d.1)

-- an echo's hold changes only when it is taken
pub only_taken : OnlyTaken
only_taken v calls f =
    each_sound v.limits
    (λ u c h e echo n. ⊎_elim (λ q. absurd (n q)) (λ s. with_deadline s) ((does_shows u c.0 c.1 h).held echo))
    v calls (fresh_kept v f) refl
