-- `transfer::store::store_message` meets its contract. Assumes nothing.
use Rattle.std.proofs.Common.{ℕ, ◌+◌, ◌-◌, ◌*◌, List, ◌++◌, take, drop, ap, ◌∙◌, arith}
use Rattle.transfer.proofs.Stored.{part_back}
use Rattle.transfer.proofs.store.store_message.Goals as goal

pub returns : goal.returns
returns c =
    let a : ℕ = 255 * c.args.n in
    let k : ℕ = 255 * c.args.n + 255 - 255 * c.args.n in
    let x : List ℕ = c.args.store.now in
    let p = c.requires in
    ap (λ (l : List ℕ). take a x ++ (l ++ drop k (drop a x))) c.put_message.ensures ∙ part_back x c.args.message.now a k (omega arith) (omega arith)
