-- `arq::read::continue_data` meets its contract: eight octets of the data and then two are all ten. Assumes nothing.
use Rattle.std.proofs.Common.{◌≡◌, ℕ, zero, suc, ◌+◌, ◌*◌, List, [], ◌∷◌, ◌++◌, Bool, length, take, drop, sym, ap, ◌∙◌, ap₂, append-nil, suc-add, zero-add, arith, length-drop, take-take, take_at, drop_at, drop-drop}
use lib.Seq.{take-append-le, drop-append-le}
use borrow.Rule.Slice.PartMut.{put_mid}
use Rattle.std.proofs.lemmas.List.{drop-take}
use Rattle.field.specs.Bits.{value, bits_of, octets}
use Rattle.field.specs.Layout.{up_to}
use Rattle.field.proofs.Cuts.{length-up_to, up_to_add, up_to_of_take}
use Rattle.arq.proofs.read.continue_data.Goals as goal

octets-append : (m n : ℕ) (a b : List Bool) → length a ≡ 8 * m → octets (m + n) (a ++ b) ≡ octets m a ++ octets n b
unfolding octets
octets-append zero n [] b e = rw (zero-add n)
octets-append zero n (x ∷ a) b e = absurd (omega arith)
octets-append (suc m) n a b e =
    rw (suc-add m n)
    (ap₂ (λ (x : ℕ) (xs : List ℕ). x ∷ xs) (ap value (take-append-le 8 a b (omega arith)))
    (ap (octets (m + n)) (drop-append-le 8 a b (omega arith)) ∙ octets-append m n (drop 8 a) b (simp length-drop (omega arith))))

pub returns : goal.returns
returns c =
    let bs = bits_of c.args.octets.now in
    let run = take 79 (drop 30 bs) in
    let f = c.copy_from_slice.new.self in
    let r = c.copy_from_slice-2.new.self in
    let z : List ℕ = 0 ∷ 0 ∷ [] in
    let front : f ≡ octets 8 (up_to 64 run) =
    c.copy_from_slice.ensures.after
    ∙ c.data_octets-front.ensures
    ∙ ap (octets 8) (ap (up_to 64) (sym (take-take 64 79 (drop 30 bs) (omega arith))) ∙ up_to_of_take 64 run) in
    let rest : r ≡ octets 2 (up_to 16 (drop 64 run)) =
    c.copy_from_slice-2.ensures.after
    ∙ c.data_octets-rest.ensures
    ∙ ap (λ l. octets 2 (up_to 16 l)) (ap (take 15) (sym (drop-drop 64 30 bs)) ∙ sym (drop-take 64 15 (drop 30 bs))) in
    let e : put_mid 8 2 (f ++ z) r ≡ f ++ r =
    ap₂ (λ a b. a ++ (r ++ drop 2 b)) (take_at f z 8 c.copy_from_slice.ensures.len) (drop_at f z 8 c.copy_from_slice.ensures.len)
    ∙ ap (λ l. f ++ l) (append-nil r) in
    e
    ∙ ap₂ (λ a b. a ++ b) front rest
    ∙ sym (octets-append 8 2 (up_to 64 run) (up_to 16 (drop 64 run)) (length-up_to 64 run))
    ∙ ap (octets 10) (sym (up_to_add 64 16 run))
