-- `listing::value_of` meets its contract. Assumes nothing.
use Rattle.std.proofs.Common.{ap, ◌∙◌, w64}
use Rattle.std.specs.Int.{from_be_bytes}
use Rattle.listing.proofs.Opened.{eight}
use Rattle.listing.proofs.value_of.Goals as goal

pub returns : goal.returns
returns c =
    let w = rw c.unwrap.ensures at c.try_from.ensures in
    c.from_be_bytes.ensures ∙ ap (from_be_bytes w64) w.1.same ∙ eight c.args.octets.now c.requires (λ i. (c.type_inv.octets i).fits)
