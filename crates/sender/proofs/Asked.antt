-- What the code asks to restart, by its place, is what the calls ask; and what the walk so asked comes to. Assumes nothing.
use Rattle.std.proofs.Common.{◌≡◌, ℕ, zero, suc, ◌<◌, Bool, true, false, cond, eqb, List, [], ◌∷◌, length, get_or, drop, Some, None, Option, sym, refl, ap, ◌∙◌, arith}
use lib.Dec.{eqb-zero-suc, eqb-suc-zero, eqb-suc-suc}
use Rattle.std.specs.Option.{option_eq}
use Rattle.std.specs.List as list
use Rattle.transfer.specs.declared.Transfer.{Transfer}
use Rattle.transfer.specs.Lists.{position}
use Rattle.transfer.specs.State.{View, says, of_echo, blank_transfer}
use Rattle.transfer.specs.Advance.{unasked, walk}
use Rattle.transfer.specs.Prepare.{asked_for, interrupted}
use Rattle.transfer.proofs.Asked.{any_found}
use Rattle.transfer.proofs.Placed.{place_found, place_none}
use Rattle.transfer.proofs.Walked.{transfers_of, unasked_all, long}
use Rattle.sender.specs.Asked.{asked_there, asked_at}

-- the place of the first transfer of an echo asks for what the echo asks
pub asked_found : (echo : ℕ) (l : List Transfer) → asked_there (position (of_echo echo) l) l ≡ asked_for echo l
asked_found echo [] = refl
asked_found echo (x ∷ l) = go (of_echo echo x) (asked_found echo l)
  where
    go : (b : Bool) → asked_there (position (of_echo echo) l) l ≡ asked_for echo l
        → asked_there (cond b 0 (suc (position (of_echo echo) l))) (x ∷ l) ≡ cond b ((true, x) ∷ unasked l) ((false, x) ∷ asked_for echo l)
    go true e = refl
    go false e = ap (λ (m : List (Bool × Transfer)). (false, x) ∷ m) e

-- whether it is asked of a place
abbrev pub flag : Option ℕ → ℕ → Bool
flag None i = false
flag (Some place) i = eqb place i

-- what is left of a walk at a place: this transfer, whether it is asked for, and the later ones
unasked_from : (l : List Transfer) (i : ℕ) → i < length l → drop i (unasked l) ≡ (false, get_or l i blank_transfer) ∷ drop (suc i) (unasked l)
unasked_from [] i h = absurd (omega arith)
unasked_from (x ∷ l) zero h = refl
unasked_from (x ∷ l) (suc i) h = unasked_from l i (omega arith)

there_from : (place : ℕ) (l : List Transfer) (i : ℕ) → i < length l → drop i (asked_there place l) ≡ (eqb place i, get_or l i blank_transfer) ∷ drop (suc i) (asked_there place l)
there_from place [] i h = absurd (omega arith)
there_from zero (x ∷ l) zero h = refl
there_from zero (x ∷ l) (suc i) h = rw eqb-zero-suc (unasked_from l i (omega arith))
there_from (suc place) (x ∷ l) zero h = rw eqb-suc-zero refl
there_from (suc place) (x ∷ l) (suc i) h = rw eqb-suc-suc (there_from place l i (omega arith))

pub asked_from : (asked : Option ℕ) (l : List Transfer) (i : ℕ) → i < length l → drop i (asked_at asked l) ≡ (flag asked i, get_or l i blank_transfer) ∷ drop (suc i) (asked_at asked l)
asked_from None l i h = unasked_from l i h
asked_from (Some place) l i h = there_from place l i h

-- the walk goes over the transfers
there_all : (place : ℕ) (l : List Transfer) → transfers_of (asked_there place l) ≡ l
there_all place [] = refl
there_all zero (x ∷ l) = ap (λ (m : List Transfer). x ∷ m) (unasked_all l)
there_all (suc place) (x ∷ l) = ap (λ (m : List Transfer). x ∷ m) (there_all place l)

pub asked_all : (asked : Option ℕ) (l : List Transfer) → transfers_of (asked_at asked l) ≡ l
asked_all None l = unasked_all l
asked_all (Some place) l = there_all place l

-- so it is as long as their list
pub length_asked : (asked : Option ℕ) (l : List Transfer) → length (asked_at asked l) ≡ length l
length_asked asked l = sym (long (asked_at asked l)) ∙ ap length (asked_all asked l)

-- as the code asks it of a place
pub flag_is : (asked : Option ℕ) (i : ℕ) → option_eq eqb asked (Some i) ≡ flag asked i
flag_is None i = refl
flag_is (Some place) i = refl

-- a transfer that has the echo, found; and none
module _ (v : View) (echo : ℕ) {l : List Transfer} (q : l ≡ v.transfers) where
  pub interrupt_found : {i : ℕ} → Some i ≡ list.position (of_echo echo) l → says true (walk v (asked_there i v.transfers)) ≡ interrupted v echo
  interrupt_found {i} e =
      let f = place_found (of_echo echo) v.transfers (sym (e ∙ ap (list.position (of_echo echo)) q)) in
      let all : asked_there i v.transfers ≡ asked_for echo v.transfers = ap (λ k. asked_there k v.transfers) (sym f.0) ∙ asked_found echo v.transfers in
      rw (any_found (of_echo echo) v.transfers ∙ f.1, all) refl

  pub interrupt_none : None ≡ list.position (of_echo echo) l → says false v ≡ interrupted v echo
  interrupt_none e = rw (any_found (of_echo echo) v.transfers ∙ place_none (of_echo echo) v.transfers (sym (e ∙ ap (list.position (of_echo echo)) q))) refl
