-- What every call but `enqueue` carries on, of each transfer's parcel and of the selected frame and its transfer. Assumes nothing.
use Rattle.std.proofs.Common.{◌≡◌, ℕ, eqb, List, ◌∷◌, ◌++◌, Some, None, Option, sym, subst, ⊎_elim}
use borrow.Author.Tests.{eqb-false}
use Rattle.spach.specs.Refusal.{gives}
use Rattle.arq.specs.declared.PackedFrame.{PackedFrame}
use Rattle.transfer.specs.declared.Parcel.{Parcel}
use Rattle.transfer.specs.declared.Transfer.{Transfer}
use Rattle.transfer.specs.declared.PreparedFrame.{PreparedFrame}
use Rattle.transfer.specs.State.{View, unselect}
use Rattle.transfer.specs.Transfer.{begun}
use Rattle.transfer.specs.Prepare.{front_of, prepared_of}
use Rattle.transfer.specs.Invariant.{All, Any}
use Rattle.transfer.proofs.Listed.{all_one, all_rest, all_in, some_out, some_one, some_in}
use Rattle.transfer.proofs.Alive.{SameParcel}
use Rattle.transfer.proofs.Invariant.{cond_cases}
use Rattle.transfer.proofs.Moves.{Move, drops, picks, shifts, restarts, ends, Moves, stays, goes}

-- a fact of parcels, and one of a frame and its transfer: that says that their generation is one, and is so of each transfer of the
-- same parcel, generation and echo
pub record Lasting : Type 1 where
  pub Parcelled : Parcel → Type 0
  pub Framed : PreparedFrame → Transfer → Type 0
  pub own : (f : PreparedFrame) (x : Transfer) → Framed f x → f.token.generation.0 ≡ x.generation.0
  pub like : (f : PreparedFrame) (x y : Transfer) → SameParcel y x → Framed f x → Framed f y

module _ (fact : Lasting) where
  -- ---- transfers and selection

  -- a selected frame is some transfer's
  abbrev pub Drawn : List Transfer → Option PreparedFrame → Type 0
  Drawn l None = Unit
  Drawn l (Some f) = Any (fact.Framed f) l

  -- and each transfer's parcel is such
  abbrev pub Right : List Transfer → Option PreparedFrame → Type 0
  Right l s = All (λ x. fact.Parcelled x.parcel) l × Drawn l s

  -- of a sender
  abbrev pub Carries : View → Type 0
  Carries v = Right v.transfers v.selected

  -- one transfer is taken out, and no frame of it is selected any more
  right_out : (a : List Transfer) (x : Transfer) (b : List Transfer) (s : Option PreparedFrame) → Right (a ++ x ∷ b) s → Right (a ++ b) (unselect x.generation s)
  right_out a x b s h = (all_rest a x b h.0, go s h.1)
    where
      go : (s : Option PreparedFrame) → Drawn (a ++ x ∷ b) s → Drawn (a ++ b) (unselect x.generation s)
      go None k = tt
      go (Some f) k =
          cond_cases {X = Option PreparedFrame} (Drawn (a ++ b)) (eqb f.token.generation.0 x.generation.0) None (Some f) (λ e. tt)
          (λ e. ⊎_elim (λ (d : fact.Framed f x). absurd (eqb-false _ _ e (fact.own f x d))) (λ r. r) (some_out a x b k))

  -- one is put in
  pub right_in : (a : List Transfer) (y : Transfer) (b : List Transfer) (s : Option PreparedFrame) → fact.Parcelled y.parcel → Right (a ++ b) s → Right (a ++ y ∷ b) s
  right_in a y b s q h = (all_in a y b q h.0, go s h.1)
    where
      go : (s : Option PreparedFrame) → Drawn (a ++ b) s → Drawn (a ++ y ∷ b) s
      go None k = tt
      go (Some f) k = some_in a y b k

  -- y stands for x, of the same parcel, generation and echo, among the others
  right_moved : (a : List Transfer) (x : Transfer) (b c : List Transfer) (y : Transfer) (d : List Transfer) (s : Option PreparedFrame) → c ++ d ≡ a ++ b → SameParcel y x → Right (a ++ x ∷ b) s → Right (c ++ y ∷ d) s
  right_moved a x b c y d s e p h = (all_in c y d (subst fact.Parcelled (sym p.0) (all_one a x b h.0)) (subst (All (λ z. fact.Parcelled z.parcel)) (sym e) (all_rest a x b h.0)), go s h.1)
    where
      go : (s : Option PreparedFrame) → Drawn (a ++ x ∷ b) s → Drawn (c ++ y ∷ d) s
      go None k = tt
      go (Some f) k = ⊎_elim (λ (r : fact.Framed f x). some_one c y d (fact.like f x y p r)) (λ r. some_in c y d (subst (Any (fact.Framed f)) (sym e) r)) (some_out a x b k)

  -- ---- the moves

  module _ {octets : List ℕ} (front-drawn : (x : Transfer) (p : PackedFrame) (submission : ℕ) → front_of x octets ≡ gives p → fact.Framed (prepared_of x p submission) x) where
    -- each
    move_carries : {first : ℕ} {v w : View} → Move octets first v w → Carries v → Carries w
    move_carries {v = v} (drops s e) h = (h.0, ⊎_elim (λ q. subst (Drawn v.transfers) (sym q) tt) (λ q. subst (Drawn v.transfers) (sym q) h.1) e)
    move_carries {v = v} (picks a b x p e r room q) h = (h.0, subst (Any (fact.Framed (prepared_of x p v.next_token))) (sym e) (some_one a x b (front-drawn x p v.next_token q)))
    move_carries {v = v} (shifts a b c d x y e q s) h = right_moved a x b c y d v.selected q s.same (subst (λ l. Right l v.selected) e h)
    move_carries {v = v} (restarts a b x echo e old due room q) h =
        let k = subst (λ l. Right l v.selected) e h in
        right_in a (begun x.parcel echo v.next_token) b (unselect x.generation v.selected) (all_one a x b k.0) (right_out a x b v.selected k)
    move_carries {v = v} (ends a b x how q old) h = right_out a x b v.selected (subst (λ l. Right l v.selected) q h)

    -- one after the other
    pub moves_carries : {first : ℕ} {v w : View} → Moves octets first v w → Carries v → Carries w
    moves_carries stays h = h
    moves_carries (goes m k) h = moves_carries k (move_carries m h)
