-- Which frame goes out next: the ways out of a choice, and of one that puts a transfer first. Assumes nothing.
use Rattle.std.proofs.Common.{◌≡◌, ℕ, Bool, true, false, cond, not, List, ◌∷◌, get_or, Some, None, sym, refl, ap, ◌∙◌, eq-eqb, ne_eqb}
use Rattle.std.specs.List as list
use Rattle.transfer.specs.declared.Transfer.{Transfer}
use Rattle.transfer.specs.Lists.{remove_at}
use Rattle.transfer.specs.State.{View, with_transfers, with_selected, says, of_echo, blank_transfer}
use Rattle.transfer.specs.Prepare.{is_ready, front_of, selects, choose_from, choose, repeated, only_echo, prioritized, prioritize_at}
use Rattle.transfer.proofs.Placed.{seek_there, seek_none}

-- ---- a choice, while no frame is selected

module _ (v : View) (octets : List ℕ) (s : v.selected ≡ None) where
  -- the first that has one queued, as the code read it at its place
  pub chosen : {i : ℕ} {x : Transfer} → Some i ≡ list.position is_ready v.transfers → x ≡ get_or v.transfers i blank_transfer → selects v x (front_of x octets) ≡ choose v octets
  unfolding choose
  chosen e is = seek_there is_ready v.transfers (says None v) (λ place x. selects v x (front_of x octets)) e is ∙ ap (choose_from v octets) (sym s)

  -- none has one queued
  pub chosen_none : None ≡ list.position is_ready v.transfers → says None v ≡ choose v octets
  unfolding choose
  chosen_none e = seek_none is_ready v.transfers (says None v) (λ place x. selects v x (front_of x octets)) e ∙ ap (choose_from v octets) (sym s)

-- ---- a transfer of an echo first

-- the sender with the transfer at the front, and no frame of another echo selected
abbrev pub fronted : View → (echo place : ℕ) → Transfer → View
fronted v echo place x = with_selected (with_transfers v (repeated x ∷ remove_at place v.transfers)) (only_echo echo v.selected)

-- by its parts
pub fronted_by : (v : View) (echo place : ℕ) (x : Transfer) {y : Transfer} {u w : View}
    → y ≡ repeated x → u ≡ with_transfers v (y ∷ remove_at place v.transfers) → w ≡ with_selected u (only_echo echo u.selected) → w ≡ fronted v echo place x
fronted_by v echo place x ey eu ew = rw (ew, eu, ey) refl

module _ (v : View) (octets : List ℕ) (echo : ℕ) where
  -- no transfer has the echo
  pub prioritize_none : None ≡ list.position (of_echo echo) v.transfers → says None v ≡ prioritize_at v octets echo
  unfolding prioritize_at
  prioritize_none e = seek_none (of_echo echo) v.transfers (says None v) (prioritized v octets echo) e

  module _ {i : ℕ} {x : Transfer} (e : Some i ≡ list.position (of_echo echo) v.transfers) (is : x ≡ get_or v.transfers i blank_transfer) {y : Transfer} (ey : y ≡ repeated x) {w : View} (ew : w ≡ fronted v echo i x) where
    -- the transfer that has it, at the front
    prioritize_found : (b : Bool) → is_ready y ≡ b → cond b (choose w octets) (says None w) ≡ prioritize_at v octets echo
    unfolding prioritize_at
    prioritize_found b t =
        ap (λ (u : View). cond b (choose u octets) (says None u)) ew
        ∙ (ap (λ (c : Bool). cond c (choose (fronted v echo i x) octets) (says None (fronted v echo i x))) (sym t ∙ ap is_ready ey)
        ∙ seek_there (of_echo echo) v.transfers (says None v) (prioritized v octets echo) e is)

    -- it has nothing queued
    pub prioritize_idle : y.sets.queue ≡ 0 → says None w ≡ prioritize_at v octets echo
    prioritize_idle z = prioritize_found false (ap not (eq-eqb y.sets.queue 0 z))

    -- it has a frame queued
    pub prioritize_ready : (y.sets.queue ≡ 0 → ⊥) → choose w octets ≡ prioritize_at v octets echo
    prioritize_ready z = prioritize_found true (ap not (ne_eqb y.sets.queue 0 z))
