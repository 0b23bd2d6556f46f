-- `sender::table::Table::queue_waiting` meets its contract. Assumes nothing.
use Rattle.std.proofs.Common.{◌≡◌, ◌∙◌, ℕ, ◌+◌, ◌<◌, List, ◌++◌, length, map, take, drop, set, get_or, refl, sym, ap, arith, rules, length-append, take-append-drop}
use Rattle.std.proofs.lemmas.List.{get_or_at, get_or_default, drop_more, length-map}
use Rattle.std.proofs.lemmas.List.Edits.{map_over_more}
use Rattle.transfer.specs.declared.Transfer.{Transfer}
use Rattle.transfer.specs.State.{with_transfers, put_at, blank_transfer}
use Rattle.transfer.specs.Refresh.{refreshed}
use Rattle.sender.specs.View.{view_of}
use Rattle.sender.proofs.Found.{there, frames_there}
use Rattle.sender.proofs.table.Table.queue_waiting.Goals as goal

-- the transfers with those before i changed by f
abbrev changed : (f : Transfer → Transfer) (i : ℕ) → List Transfer → List Transfer
changed f i l = map f (take i l) ++ drop i l

-- the one at i is as it was
rest_there : (f : Transfer → Transfer) (l : List Transfer) (i : ℕ) → i < length l → get_or (changed f i l) i blank_transfer ≡ get_or l i blank_transfer
rest_there f l i lt = search (rules, get_or_at, drop_more, length-map)

-- they are as many
long : (f : Transfer → Transfer) (l : List Transfer) (i : ℕ) → length (changed f i l) ≡ length l
long f l i =
    length-append (map f (take i l)) (drop i l) ∙ ap (λ n. n + length (drop i l)) (length-map (take i l) f)
    ∙ sym (length-append (take i l) (drop i l)) ∙ ap length (take-append-drop i l)

pub refreshed-requires : goal.refreshed-requires
refreshed-requires c =
    let v = view_of c.args.self.now in
    let i = c.loop-i.i in
    let lt : i < length v.transfers = omega (arith, c.loop-i-test.true, c.len-i-end.ensures.value) in
    frames_there v (there i (c.deref.ensures.0 ∙ ap (λ u. u.transfers) c.loop-i.invariant) ∙ rest_there (refreshed v.clock.last_block) v.transfers i lt) lt c.requires

pub loop-i-preserved : goal.loop-i-preserved
loop-i-preserved c =
    let v = view_of c.args.self.now in
    let f = refreshed v.clock.last_block in
    let i = c.loop-i.i in
    let l = changed f i v.transfers in
    let lt : i < length v.transfers = omega (arith, c.loop-i-test.true, c.len-i-end.ensures.value) in
    let x = get_or c.deref.result.now i blank_transfer in
    let read : x ≡ get_or l i x = there i (c.deref.ensures.0 ∙ ap (λ u. u.transfers) c.loop-i.invariant) ∙ get_or_default l i blank_transfer x (omega (arith, long f v.transfers i)) in
    c.put.ensures
    ∙ ap (λ u. put_at u i c.refreshed.result) c.loop-i.invariant
    ∙ ap (λ m. with_transfers v m) (ap (λ y. set l i y) c.refreshed.ensures ∙ map_over_more f v.transfers l i x lt refl read)
