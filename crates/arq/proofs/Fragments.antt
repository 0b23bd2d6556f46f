-- Laws of the cut: its checks, and the data of its frames. Assumes nothing.
use Rattle.std.proofs.Common.{◌≡◌, ℕ, zero, suc, ◌+◌, ◌-◌, ◌*◌, ◌<◌, ◌≤◌, min, Bool, false, not, ltb, List, [], ◌∷◌, length, take, drop, sym, refl, ap, ◌∙◌, arith, length-drop, le-ltb, lt-ltb}
use lib.Seq.{take-nil, take-length}
use Rattle.field.specs.Bits.{bits_of, octets}
use Rattle.field.specs.Layout.{up_to}
use Rattle.field.proofs.Laws.{length-bits_of}
use Rattle.field.proofs.Put.{take_min}
use Rattle.rach.specs.Identity.{parts_of}
use Rattle.rach.specs.declared.IdentityParts.{IdentityParts}
use Rattle.rach.specs.declared.MobileIdentity.{MobileIdentity}
use Rattle.spach.specs.Refusal.{Outcome, gives, refuses, refuse}
use Rattle.arq.specs.declared.ArqHeader.{ArqHeader}
use Rattle.arq.specs.declared.ArqFrame.{ArqFrame}
use Rattle.arq.specs.Frame.{room, a_begin_of, a_continue_of}
use Rattle.arq.specs.Cut.{continues, cut_checked, cut_frame, count_of, frame_of}
use Rattle.arq.proofs.Checks.{good, checked, refuse_checked, checks_refuse, checks_pass}

-- ---- data

-- no more than all of the bits
fewer : (l : List Bool) (w : ℕ) {k : ℕ} → k ≡ min w (length l) → take k l ≡ take w l
fewer l w e = ap (λ x. take x l) e ∙ sym (take_min w (length l) l) ∙ ap (take w) (take-length l)

-- bits filled up to w and then to n are filled to n
filled_once : (n w : ℕ) (l : List Bool) → up_to n (take w l) ≡ up_to n (up_to w l)
unfolding up_to
filled_once zero w l = refl
filled_once (suc n) zero l = refl
filled_once (suc n) (suc w) [] = ap (λ x. false ∷ x) (ap (up_to n) (sym (take-nil w)) ∙ filled_once n w [])
filled_once (suc n) (suc w) (b ∷ l) = ap (λ x. b ∷ x) (filled_once n w l)

module _ (h : ArqHeader) (i : MobileIdentity) (m : List ℕ) where
  -- ---- the frames
  pub begin_cut : {r b : ℕ} {o : List ℕ} {f : ArqFrame} → r ≡ room i → b ≡ min r (8 * length m) → o ≡ octets 7 (up_to 56 (take b (bits_of m)))
      → f ≡ a_begin_of h i (length m) b o → f ≡ cut_frame h i m 0
  begin_cut {r = r} {b = b} er eb eo ef =
      let s : b ≡ min (8 * length m) r = omega arith in
      let d : take b (bits_of m) ≡ take r (bits_of m) = fewer (bits_of m) r (eb ∙ ap (min r) (sym (length-bits_of m))) in
      rw (ef, eo, d, s, er)

  pub continue_cut : (k : ℕ) {r b : ℕ} {p : IdentityParts} {o : List ℕ} {f : ArqFrame} → r ≡ room i → p ≡ parts_of i → b ≡ min 79 (8 * length m - (r + 79 * k))
      → o ≡ octets 10 (up_to 80 (take b (drop (r + 79 * k) (bits_of m)))) → f ≡ a_continue_of h p.identity_type k o → f ≡ cut_frame h i m (suc k)
  continue_cut k {r = r} {b = b} er ep eb eo ef =
      let s : ℕ = r + 79 * k in
      let l : List Bool = drop s (bits_of m) in
      let e : 8 * length m - s ≡ length l = sym (length-drop s (bits_of m) ∙ ap (λ x. x - s) (length-bits_of m)) in
      let d : up_to 80 (take b l) ≡ up_to 80 (up_to 79 l) = ap (up_to 80) (fewer l 79 (eb ∙ ap (min 79) e)) ∙ filled_once 80 79 l in
      rw (ef, eo, d, ep, er)

  -- ---- the checks

  -- frame k of n
  abbrev within : ℕ → ℕ → Outcome ArqFrame
  within k n = refuse (not (ltb k n)) 12 (gives (cut_frame h i m k))

  pub cut-checked : {A : Type 0} (o : Outcome A) → cut_checked h i m o ≡ checked (cut_checked h i m (gives tt)) o
  cut-checked o = simp (← refuse_checked)

  module _ {s : Outcome Unit} (e : s ≡ cut_checked h i m good) where
    pub cut_refused : {A : Type 0} (o : Outcome A) {n : ℕ} → refuses n ≡ s → refuses n ≡ cut_checked h i m o
    cut_refused o es = checks_refuse o (cut-checked o) (es ∙ e)

    pub cut_passed : {A : Type 0} (o : Outcome A) → good ≡ s → o ≡ cut_checked h i m o
    cut_passed o es = checks_pass o (cut-checked o) (es ∙ e)

  pub count_refused : {n : ℕ} → refuses n ≡ cut_checked h i m good → refuses n ≡ count_of h i m
  unfolding count_of
  count_refused e = cut_refused e (gives (1 + continues i (length m))) refl

  pub count_given : {n : ℕ} → n ≡ 1 + continues i (length m) → good ≡ cut_checked h i m good → gives n ≡ count_of h i m
  unfolding count_of
  count_given en e = ap gives en ∙ cut_passed e (gives (1 + continues i (length m))) refl

  module _ (k : ℕ) where
    pub frame_refused : {n : ℕ} → refuses n ≡ cut_checked h i m good → refuses n ≡ frame_of h i m k
    unfolding frame_of
    frame_refused e = cut_refused e (within k (1 + continues i (length m))) refl

    module _ {n : ℕ} (en : n ≡ 1 + continues i (length m)) (e : good ≡ cut_checked h i m good) where
      given : within k n ≡ frame_of h i m k
      unfolding frame_of
      given = ap (within k) en ∙ cut_passed e (within k (1 + continues i (length m))) refl

      pub frame_past : n ≤ k → refuses 12 ≡ frame_of h i m k
      frame_past hk = rw (le-ltb k n hk) at given

      pub frame_cut : {f : ArqFrame} → k < n → f ≡ cut_frame h i m k → gives f ≡ frame_of h i m k
      frame_cut hk ef = ap gives ef ∙ (rw (lt-ltb k n hk) at given)

-- a message that has a frame has a count of them
pub counted : (h : ArqHeader) (i : MobileIdentity) (m : List ℕ) (k : ℕ) {f : ArqFrame} → frame_of h i m k ≡ gives f → count_of h i m ≡ gives (1 + continues i (length m))
unfolding frame_of count_of
counted h i m k {f} e = cut-checked h i m (gives (1 + continues i (length m))) ∙ go (cut_checked h i m (gives tt)) (sym (cut-checked h i m (within h i m k (1 + continues i (length m)))) ∙ e)
  where
    go : (x : Outcome (Unit {0})) → checked x (within h i m k (1 + continues i (length m))) ≡ gives f → checked x (gives (1 + continues i (length m))) ≡ gives (1 + continues i (length m))
    go (gives u) q = refl
    go (refuses n) q = let z : ◌≡◌ {A = ℕ} 0 1 = cc in absurd (omega arith)
