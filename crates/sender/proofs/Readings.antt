-- What each reading of the sender's answers, fields and lent memory says: every value is told as it is. Assumes nothing.
use Rattle.std.proofs.Common.{◌≡◌, ℕ, List, Ok, Err, Result, refl}
use Rattle.spach.specs.Refusal.{gives, refuses, by_number, left}
use Rattle.transfer.specs.declared.Error.{Error}
use Rattle.transfer.specs.Numbers.{refusal_of}
use Rattle.transfer.specs.State.{View, Lent}
use Rattle.sender.specs.declared.table.Table.{Table}
use Rattle.sender.specs.View.{view_of, lent, wrote}

-- an answer, its refusal by number
pub answers_say : {A : Type 0} → ((a : A) → by_number refusal_of (Ok a) ≡ gives a) × ((e : Error) → by_number {A = A} refusal_of (Err e) ≡ refuses (refusal_of e))
answers_say = (λ a. refl, λ e. refl)

-- the sender that the fields stand for
pub view_says : (t : Table) → view_of t ≡ record {
  limits = t.limits;
  clock = t.clock;
  transfers = t.transfers.items;
  events = t.events.items;
  echoes = t.echoes;
  selected = t.selected;
  next_token = t.next_token;
}
view_says t = refl

pub lent_says : (octets words : List ℕ) → lent octets words ≡ record { octets = octets; words = words }
lent_says octets words = refl

-- a call's answer, with the sender afterwards
pub left-says : {A : Type 0} (v : View) (r : Result A Error) → left refusal_of (v, r) ≡ record { outcome = by_number refusal_of r; state = v }
left-says v r = refl

-- and of a call that writes, with the lent memory
pub wrote-says : {A : Type 0} (v : View) (r : Result A Error) (m : Lent) → wrote (v, r) m ≡ record { outcome = by_number refusal_of r; sender = v; lent = m }
wrote-says v r m = refl
