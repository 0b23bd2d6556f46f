-- `listing::Session::show_frames` meets its contract. Assumes nothing.
use Rattle.std.proofs.Common.{◌≡◌, ◌+◌, ◌*◌, ◌/◌, ◌≤◌, length}
use Rattle.std.specs.Slice.Iter.{chunks_exact_rest, chunks_exact_size}
use Rattle.arrayvec.specs.ArrayVec.{array_vec_len}
use Rattle.listing.proofs.Sessions.{Going}
use Rattle.listing.proofs.Session.show_frames.Given as goal

abbrev pub invariant-loop-frame : goal.invariant-loop-frame
invariant-loop-frame g l = record {
  can_next : (goal.iterator-loop-frame g).can_next l.frame-iterator;
  ends : (goal.iterator-loop-frame g).is_finite l.frame-iterator;
  size : chunks_exact_size l.frame-iterator ≡ 14;
  room : array_vec_len l.text + 600 * (length (chunks_exact_rest l.frame-iterator) / 14) ≤ g.row.N;
  going : Going l.initial.self l.octets l.initial.text.items l.self (chunks_exact_rest l.frame-iterator) l.text.items;
}
