-- Laws on octets that stay. Assumes nothing.
use Rattle.std.proofs.Common.{◌≡◌, ℕ, ◌+◌, ◌-◌, ◌≤◌, List, [], length, take, drop, ap, arith, length-take, length-drop, append-nil}
use Rattle.std.proofs.Math.Seq.{drop-append-add, drop-drop}
use Rattle.std.proofs.Math.ListN.{drop_of_length-le}
use Rattle.std.proofs.lemmas.Slice.{between_to_end}
use borrow.Rule.Slice.PartMut.{put_mid, mid_of, post_of}

-- what stays of the room from r on stays of the whole from a + r on
pub drop-put_mid-tail : (a r : ℕ) (xs ys : List ℕ) → a ≤ length xs → drop r ys ≡ drop r (mid_of a (length xs - a) xs) → drop (a + r) (put_mid a (length xs - a) xs ys) ≡ drop (a + r) xs
drop-put_mid-tail a r xs ys h e =
    let n : length (take a xs) ≡ a = simp length-take (omega arith) in
    let none : post_of a (length xs - a) xs ≡ [] = drop_of_length-le (drop a xs) {i = length xs - a} (simp length-drop (omega arith)) in
    let mid : mid_of a (length xs - a) xs ≡ drop a xs = between_to_end xs a (length xs) (omega arith) in
    rw (none, append-nil) (rw (n, e, mid, drop-drop) at (drop-append-add (take a xs) ys r))

-- what two lists share from a on they share from a + r on
pub drop-on : (a r : ℕ) (xs ys : List ℕ) → drop a xs ≡ drop a ys → drop (a + r) xs ≡ drop (a + r) ys
drop-on a r xs ys e = rw (drop-drop r a xs, drop-drop r a ys) at (ap (drop r) e)
