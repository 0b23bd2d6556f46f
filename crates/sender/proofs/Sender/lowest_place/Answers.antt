-- `sender::Sender::lowest_place` meets its contract. Assumes nothing.
use Rattle.std.proofs.Common.{◌∙◌, ap, rules}
use Rattle.std.specs.Prelude.{unwrap_or}
use Rattle.sender.proofs.Granted.{lowest_is}
use Rattle.sender.proofs.Sender.lowest_place.Goals as goal

pub returns : goal.returns
returns c = c.unwrap_or.ensures ∙ (ap (λ o. unwrap_or o 128) c.first_free.ensures ∙ lowest_is c.args.self.now.transfers c.places.result (search rules) c.places.ensures)
