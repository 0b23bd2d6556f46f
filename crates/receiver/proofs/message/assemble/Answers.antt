use Rattle.std.proofs.Common.{◌≡◌, ◌-◌, ◌*◌, ◌<◌, min, length, take, ap, ◌∙◌, ap₂, arith, rules}
use Rattle.field.specs.Bits.{bits, bits_of, octets, splice}
use Rattle.field.specs.Layout.{zeros}
use Rattle.field.proofs.Laws.{repack}
use Rattle.receiver.specs.Receiver.{needed, first_bit, slot_at}
use Rattle.receiver.proofs.Assembled.{sized_none, sized_more, parts, parts_none, parts_more, parts_all}
use Rattle.receiver.proofs.message.assemble.Goals as goal

pub loop-k-init : goal.loop-k-init
unfolding bits_of bits
loop-k-init c =
    let i = c.args.identity in
    let t = c.args.t.now in
    let seven : length t.begin_data ≡ 7 = search rules in
    record {
      sized = sized_none t.slots;
      packs =
          repack c.copy_bits.ensures
          (ap (λ n. splice 0 (take n (bits_of t.begin_data)) (zeros 2040)) c.first_bit.ensures ∙ ap (λ p. splice 0 p (zeros 2040)) (parts_none i t seven));
    }

pub loop-k-preserved : goal.loop-k-preserved
loop-k-preserved c =
    let i = c.args.identity in
    let t = c.args.t.now in
    let k = c.loop-k.k in
    let slot = bits_of (slot_at t.slots k) in
    let run = take (min 79 (8 * t.message_octets - first_bit i t k)) slot in
    let seven : length t.begin_data ≡ 7 = search rules in
    let size : length t.slots ≡ 26 = search rules in
    let ten : length (slot_at t.slots k) ≡ 10 = search rules in
    let whole : length c.loop-k.m ≡ 255 = search rules in
    let n : c.min-n.result ≡ min 79 (8 * t.message_octets - first_bit i t k) = omega arith in
    record {
      sized = sized_more t.slots k (omega arith) ten c.loop-k.invariant.sized;
      packs =
          rw whole at
          (repack c.copy_bits-in-loop-k.ensures
          (ap₂ (λ a n. splice a (take n slot) (bits_of c.loop-k.m)) c.first_bit-start.ensures n
          ∙ ap (splice (first_bit i t k) run) c.loop-k.invariant.packs.as_bits
          ∙ parts_more i t seven k (omega arith) (omega arith) (omega arith) c.loop-k.invariant.sized));
    }

pub returns : goal.returns
returns c =
    let i = c.args.identity in
    let t = c.args.t.now in
    let seven : length t.begin_data ≡ 7 = search rules in
    let few : t.message_octets < 256 = search rules in
    let all : c.loop-k.k ≡ needed i t = omega arith in
    parts_all i t seven few (rw all at c.loop-k.invariant.sized) (c.loop-k.invariant.packs.as_octets ∙ ap (λ n. octets 255 (splice 0 (parts i t n) (zeros 2040))) all)
