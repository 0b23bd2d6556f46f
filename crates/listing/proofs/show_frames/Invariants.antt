-- `listing::show_frames` meets its contract. The invariant: what is there, with the lines of the frames to come, is the
-- whole, they have room, and what follows is as it was. Assumes nothing.
use Rattle.std.proofs.Common.{◌≡◌, ◌+◌, ◌*◌, ◌/◌, ◌≤◌, [], length, take, drop}
use Rattle.std.specs.Slice.Iter.{chunks_exact_rest, chunks_exact_size}
use Rattle.listing.proofs.Sessions.{Going}
use Rattle.listing.proofs.show_frames.Given as goal

abbrev pub invariant-loop-next : goal.invariant-loop-next
invariant-loop-next l = record {
  can_next : goal.iterator-loop-next.can_next l.next-iterator;
  ends : goal.iterator-loop-next.is_finite l.next-iterator;
  size : chunks_exact_size l.next-iterator ≡ 14;
  room : l.to + 600 * (length (chunks_exact_rest l.next-iterator) / 14) ≤ length l.text;
  going : Going l.initial.session l.octets [] l.session (chunks_exact_rest l.next-iterator) (take l.to l.text);
  rest : drop l.to l.text ≡ drop l.to l.initial.text;
}
