-- What a sender's fields stand for: in every contract a `Sender` is this view of its `Table`. Believe `view_of`, and `lent` and `wrote`: what a
-- call is lent, and what one leaves that writes there. Assumes nothing.
use Rattle.std.specs.Prelude.{List, ℕ, Result}
use Rattle.spach.specs.Refusal.{by_number}
use Rattle.transfer.specs.declared.Error.{Error}
use Rattle.transfer.specs.Numbers.{refusal_of}
use Rattle.transfer.specs.State.{View, Lent, Out}
use Rattle.sender.specs.declared.table.Table.{Table}

-- every field is seen; of a list, its elements
abbrev pub view_of : Table → View
view_of t = record {
  limits = t.limits;
  clock = t.clock;
  transfers = t.transfers.items;
  events = t.events.items;
  echoes = t.echoes;
  selected = t.selected;
  next_token = t.next_token;
}

-- so the fields can be told again
abbrev pub table_of : View → Table
table_of v = record {
  limits = v.limits;
  clock = v.clock;
  transfers = record { items = v.transfers };
  events = record { items = v.events };
  echoes = v.echoes;
  selected = v.selected;
  next_token = v.next_token;
}

-- what a call is lent
abbrev pub lent : (octets words : List ℕ) → Lent
lent octets words = record { octets = octets; words = words }

-- what `enqueue` and `submitted` leave: the sender handed back, the answer by number, and the lent memory
abbrev pub wrote : {A : Type 0} → View × Result A Error → Lent → Out A
wrote r m = record { outcome = by_number refusal_of r.1; sender = r.0; lent = m }
