-- `arq::cut::continue_of` meets its contract. Assumes nothing.
use Rattle.arq.proofs.Fragments.{continue_cut}
use Rattle.arq.proofs.cut.continue_of.Goals as goal

pub returns : goal.returns
returns c =
    let a = c.args in
    continue_cut a.header a.identity a.message.now a.k c.room_of.ensures.exact c.parts.ensures c.min-bits.ensures c.data_octets-data.ensures c.a_continue.ensures
