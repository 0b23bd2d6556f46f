-- `arq::frame::data_octets` meets its contract. Assumes nothing.
use Rattle.std.proofs.Common.{◌≡◌, ℕ, length, take, drop, replicate, arith, length-take}
use lib.ListN.{length-replicate}
use Rattle.field.specs.Bits.{bits_of}
use Rattle.field.proofs.Cuts.{copied_octets}
use Rattle.arq.proofs.Written.{blank_bits}
use Rattle.arq.proofs.frame.data_octets.Goals as goal

pub returns : goal.returns
returns g c =
    let a = c.args in
    let run = take a.n (drop a.o (bits_of a.octets.now)) in
    let n : length {A = ℕ} (replicate g.row.N 0) ≡ g.row.N = length-replicate g.row.N 0 in
    copied_octets g.row.N run (blank_bits g.row.N) (omega (arith, length-take a.n (drop a.o (bits_of a.octets.now)))) (rw n at c.copy_bits.ensures)
