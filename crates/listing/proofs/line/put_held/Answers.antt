-- `listing::line::put_held` meets its contract. Assumes nothing.
use Rattle.std.proofs.Common.{arith}
use Rattle.std.proofs.lemmas.Grind.{common_steps}
use Rattle.listing.proofs.Digits.{hex_of_be_bytes}
use Rattle.listing.proofs.line.put_held.Goals as goal

pub returns-in-Some-clause-items : goal.returns-in-Some-clause-items
returns-in-Some-clause-items g c = grind (arith, common_steps, hex_of_be_bytes c.in-Some.held.received_frames)
