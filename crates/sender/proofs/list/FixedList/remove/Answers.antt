use Rattle.std.proofs.Common.{◌≡◌, length, take, remove, rules}
use Rattle.sender.proofs.Laid.{taken_out}
use Rattle.sender.proofs.list.FixedList.remove.Goals as goal

pub returns-clause-items : goal.returns-clause-items
returns-clause-items g c =
    let l = c.self.inside in
    let size : length c.to_end.new.items ≡ l.len = search rules in
    rw (← c.self.view_is) (taken_out l.len (remove (take l.len l.places) c.args.index) c.to_end.new.items _ _ _ (c.to_end.ensures c.blank.result) size)
