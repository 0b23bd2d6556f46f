-- `reading::fill` meets its contract: what a read put behind the octets before it is what it took. Assumes nothing.
use Rattle.std.proofs.Common.{◌≡◌, ℕ, ◌+◌, ◌-◌, ◌≤◌, List, ◌++◌, rules, length, take, sym, ap, ◌∙◌, subst, length-take-le}
use Rattle.std.proofs.lemmas.List.{take-append-le}
use Rattle.std.proofs.Math.Seq.{take-append-add}
use Rattle.std.specs.Io.KnownBytes.{Consumes}
use Rattle.std.proofs.KnownBytes.{Consumes-trans}
use borrow.Rule.Slice.PartMut.{put_mid, post_of}
use Rattle.reading.proofs.fill.Goals as goal

-- the first n of a part that was put at a, behind the octets before it
take-put_mid_more : (a k n : ℕ) (xs ys : List ℕ) → a ≤ length xs → n ≤ length ys → take (a + n) (put_mid a k xs ys) ≡ take a xs ++ take n ys
take-put_mid_more a k n xs ys within fits =
    let front : length (take a xs) ≡ a = length-take-le a xs within in
    ap (λ i. take (i + n) (put_mid a k xs ys)) (sym front) ∙ take-append-add (take a xs) (ys ++ post_of a k xs) n ∙ ap (λ l. take a xs ++ l) (take-append-le n ys (post_of a k xs) fits)

pub loop-count-preserved : goal.loop-count-preserved
loop-count-preserved g c =
    let before = c.loop-count.invariant in
    let read = c.in-Ok.ensures in
    let front = take-put_mid_more _ (length c.loop-count.room - c.loop-count.count) c.in-Ok.n _ c.read_once.new.room before.inside read.bound.0 in record {
      inside = search rules;
      bytes = subst (Consumes _ _) (sym front) (Consumes-trans _ _ _ _ _ before.bytes read.bytes.0);
    }
