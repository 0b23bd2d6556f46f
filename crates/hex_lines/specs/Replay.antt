-- What the replaying programs read, run and print. Assumes nothing.
use Rattle.std.specs.Prelude.{◌≡◌, List, ℕ, ◌≤◌, ◌<◌, Option, codes, length, take}
use Rattle.std.specs.Borrow.{Bor, MutBor}
use Rattle.std.specs.Io.KnownBytes.{Appends, Consumes}
use Rattle.hex_lines.specs.Hex.{text_of}

-- what is promised of a run: of the script and the room that it is lent, the count that it gives, and the room after it
abbrev pub Promise : Type 1
Promise = Bor (List ℕ) → MutBor (List ℕ) → ℕ → MutBor (List ℕ) → Type 0

-- a run of the script answered, and the text is that of as many octets of the room as it gave
pub record Answered (post : Promise) (script text : List ℕ) : Type 0 where
  pub lent : Bor (List ℕ)
  pub room : MutBor (List ℕ)
  pub count : ℕ
  pub after : MutBor (List ℕ)
  pub of : lent.now ≡ script
  pub ran : post lent room count after
  pub said : text ≡ text_of (take count after.now)

-- of what was read: a script of at most 65,536 octets was run and its answers printed, else that it is too long. How much that is
-- `reading::filled` says, to the end or to a failure; a failed read is not told here, and the front that came is run.
pub record Replays (post : Promise) (input rest before after : Option (List ℕ)) : Type 0 where
  pub script : List ℕ
  pub text : List ℕ
  pub read : Consumes input rest script
  pub long : 65536 < length script → text ≡ codes "too long\n"
  pub short : length script ≤ 65536 → Answered post script text
  pub printed : Appends before after text
