-- Every sender is `Sound` that a list of calls makes of a fresh one. Assumes nothing.
use Rattle.std.proofs.Common.{List, [], ◌∷◌}
use Rattle.transfer.specs.State.{View, Lent}
use Rattle.transfer.specs.History.{Call, does, Told, after, run, Fresh}
use Rattle.transfer.specs.Invariant.{Sound}
use Rattle.transfer.proofs.Invariant.{new_call_kept}
use Rattle.transfer.proofs.Moves.{leaves_kept, does_leaves}

-- a call keeps `Sound`, by its moves
pub does-kept : (v : View) (m : Lent) (c : Call) → Sound v → Sound (does v m c).sender
does-kept v m c h = leaves_kept (does_leaves v m c h) h

-- a call so told, too
pub after_kept : (v : View) (c : Told) → Sound v → Sound (after v c)
after_kept v c h = does-kept v c.0 c.1 h

-- a fresh sender is Sound
pub fresh_kept : (v : View) → Fresh v → Sound v
fresh_kept v f = new_call_kept f.capacity f.guard f.first_block f.first f.made f.fits

-- calls keep `Sound`
pub runs-kept : (v : View) (calls : List Told) → Sound v → Sound (run v calls)
unfolding run
runs-kept v [] h = h
runs-kept v (c ∷ l) h = runs-kept (after v c) l (after_kept v c h)

-- and any list of calls from a fresh sender leaves a Sound one
pub run-kept : (v : View) (calls : List Told) → Fresh v → Sound (run v calls)
run-kept v calls f = runs-kept v calls (fresh_kept v f)
