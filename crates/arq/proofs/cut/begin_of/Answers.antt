-- `arq::cut::begin_of` meets its contract. Assumes nothing.
use Rattle.arq.proofs.Fragments.{begin_cut}
use Rattle.arq.proofs.cut.begin_of.Goals as goal

pub returns : goal.returns
returns c =
    let a = c.args in
    begin_cut a.header a.identity a.message.now c.room_of.ensures.exact c.min-bits.ensures c.data_octets-data.ensures c.a_begin.ensures
