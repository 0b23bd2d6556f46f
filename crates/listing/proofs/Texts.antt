-- What is written to a lent text is what one octet after the other puts there: `sets` of the library. Assumes nothing.
use Rattle.std.proofs.Common.{◌≡◌, ℕ, ◌+◌, ◌≤◌, List, length, sym, ◌∙◌}
use Rattle.std.proofs.lemmas.List.Edits.{sets, sets-eq}
use Rattle.listing.specs.Text.{Wrote}

pub wrote-sets : (before after : List ℕ) (i end : ℕ) (x : List ℕ) → i + length x ≤ length before → Wrote before after i end x → after ≡ sets before i x
wrote-sets before after i end x h w = (rw w.place at w.text) ∙ sym (sets-eq x before i h)
