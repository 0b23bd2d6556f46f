-- Laws of the checks of encode and cut. Assumes nothing.
use Rattle.std.proofs.Common.{◌≡◌, ℕ, Bool, true, false, not, List, sym, refl, ap, ◌∙◌}
use Rattle.rach.specs.Identity.{encodable}
use Rattle.rach.specs.declared.MobileIdentity.{MobileIdentity}
use Rattle.spach.specs.Refusal.{Outcome, gives, refuses, refuse}
use Rattle.spach.specs.Identity.{check_identity}
use Rattle.arq.specs.declared.FrameKind.{FrameKind}
use Rattle.arq.specs.declared.FrameKind.TheVariants.{Begin, Continue}
use Rattle.arq.specs.declared.ArqHeader.{ArqHeader}
use Rattle.arq.specs.declared.ArqFrame.{ArqFrame}
use Rattle.arq.specs.declared.PackedFrame.{PackedFrame}
use Rattle.arq.specs.Frame.{begin_frame, continue_frame}
use Rattle.arq.specs.Encode.{header_checked, begin_checked, continue_checked, by_kind, encode_of}

-- no check refuses
abbrev pub good : Outcome (Unit {0})
good = gives tt

-- what follows a check: it, or the check's refusal
abbrev pub checked : {A : Type 0} → Outcome Unit → Outcome A → Outcome A
checked (gives u) o = o
checked (refuses n) o = refuses n

pub refuse_checked : {A : Type 0} (t : Bool) (n : ℕ) (x : Outcome Unit) (o : Outcome A) → refuse t n (checked x o) ≡ checked (refuse t n x) o
refuse_checked true n x o = refl
refuse_checked false n x o = refl

module _ {A : Type 0} (o : Outcome A) where
  pub header-checked : (h : ArqHeader) (x : Outcome Unit) → header_checked h (checked x o) ≡ checked (header_checked h x) o
  header-checked h x = simp (← refuse_checked)

  pub begin-checked : (f : ArqFrame) → begin_checked f o ≡ checked (begin_checked f (gives tt)) o
  begin-checked f = simp (← refuse_checked)

  pub continue-checked : (f : ArqFrame) → continue_checked f o ≡ checked (continue_checked f (gives tt)) o
  continue-checked f = simp (← refuse_checked)

-- an outcome of checks decides what comes of what follows them
module _ {A : Type 0} (o : Outcome A) {t : Outcome A} {s : Outcome Unit} (et : t ≡ checked s o) where
  pub checks_refuse : {n : ℕ} → refuses n ≡ s → refuses n ≡ t
  checks_refuse es = ap (λ y. checked y o) es ∙ sym et

  pub checks_pass : good ≡ s → o ≡ t
  checks_pass es = ap (λ y. checked y o) es ∙ sym et

pub header_passed : {A : Type 0} (h : ArqHeader) {p o : Outcome A} → good ≡ header_checked h good → p ≡ o → p ≡ header_checked h o
header_passed h {p} {o} e eo = eo ∙ checks_pass o (header-checked o h (gives tt)) e

-- the check of an identity, and what follows it
pub identity-checked : {A : Type 0} (i : MobileIdentity) (o : Outcome A) → refuse (not (encodable i)) 2 o ≡ checked (check_identity i) o
unfolding check_identity
identity-checked i o = refuse_checked (not (encodable i)) 2 good o

-- all checks of encode
abbrev pub encode_check : ArqFrame → Outcome Unit
encode_check f = header_checked f.header (by_kind f.kind (begin_checked f (gives tt)) (continue_checked f (gives tt)))

module _ (f : ArqFrame) where
  kinds : (k : FrameKind) → by_kind k (begin_checked f (gives (begin_frame f))) (continue_checked f (gives (continue_frame f)))
      ≡ checked (by_kind k (begin_checked f (gives tt)) (continue_checked f (gives tt))) (by_kind k (gives (begin_frame f)) (gives (continue_frame f)))
  kinds Begin = begin-checked (gives (begin_frame f)) f
  kinds Continue = continue-checked (gives (continue_frame f)) f

  -- encode is its checks, and then the frame of its kind
  pub encode_checked : encode_of f ≡ checked (encode_check f) (by_kind f.kind (gives (begin_frame f)) (gives (continue_frame f)))
  unfolding encode_of
  encode_checked =
      let x = by_kind f.kind (begin_checked f (gives tt)) (continue_checked f (gives tt)) in
      let o = by_kind f.kind (gives (begin_frame f)) (gives (continue_frame f)) in
      ap (header_checked f.header) (kinds f.kind)
      ∙ header-checked o f.header x

  pub encode_refused : {n : ℕ} → refuses n ≡ encode_check f → refuses n ≡ encode_of f
  encode_refused e = checks_refuse (by_kind f.kind (gives (begin_frame f)) (gives (continue_frame f))) encode_checked e

  pub encode_accepted : {r : List ℕ} {p : PackedFrame} → good ≡ encode_check f → by_kind f.kind (gives (begin_frame f)) (gives (continue_frame f)) ≡ gives p → r ≡ p.octets
      → gives (record { octets = r }) ≡ encode_of f
  encode_accepted e ek er =
      ap (λ l. gives (record { octets = l })) er ∙ sym ek ∙ checks_pass (by_kind f.kind (gives (begin_frame f)) (gives (continue_frame f))) encode_checked e
