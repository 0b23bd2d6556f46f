use Rattle.std.proofs.Common.{◌≡◌, ◌++◌, replicate, drop}
use Rattle.sender.proofs.list.blank_all.Given as goal

abbrev pub invariant-loop-place : goal.invariant-loop-place
invariant-loop-place g l = l.places ≡ replicate l.place-index g.T.Blank.blank ++ drop l.place-index l.initial.places
