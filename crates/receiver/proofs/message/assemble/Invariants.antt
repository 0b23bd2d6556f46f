-- `receiver::message::assemble` meets its contract. The invariant: the slots passed are whole, and their bits are there after the Begin's. Assumes nothing.
use Rattle.field.specs.Bits.{splice}
use Rattle.field.specs.Spans.{Packs}
use Rattle.field.specs.Layout.{zeros}
use Rattle.receiver.proofs.Assembled.{Sized, parts}
use Rattle.receiver.proofs.message.assemble.Given as goal

abbrev pub invariant-loop-k : goal.invariant-loop-k
invariant-loop-k l = record { sized : Sized l.t.slots l.k; packs : Packs l.m 255 (splice 0 (parts l.identity l.t l.k) (zeros 2040)) }
