-- 01, "Program `arq-show`": the whole listing of an input: identity, frames pushed in turn, cut last frame. Assumes nothing.
use Rattle.std.specs.Prelude.{◌≡◌, List, [], ◌∷◌, ◌++◌, ℕ, zero, suc, ◌+◌, ◌/◌, ◌%◌, ◌≤◌, ◌<◌, ◌^◌, Option, None, Some, IfSome, ltb, length, take, drop, get_or, replicate}
use Rattle.std.specs.Io.KnownBytes.{Appends, Consumes}
use Rattle.field.specs.Bits.{bits_of, field}
use Rattle.spach.specs.Refusal.{Outcome, gives, refuses, refuse, and_then}
use Rattle.spach.specs.Identity.{accept_identity}
use Rattle.receiver.specs.declared.ArqReassembler.{ArqReassembler}
use Rattle.receiver.specs.declared.SingleMessage.{SingleMessage}
use Rattle.receiver.specs.Receiver.{Out, new_of, push_of}
use Rattle.receiver.specs.Valid.{Valid}
use Rattle.receiver.specs.Demand3.{Push}
use Rattle.listing.specs.declared.Session.{Session}
use Rattle.listing.specs.Line.{delivery_of, line_of, header_line, identity_line, cut_line, messages_line}

-- identity type, one octet, and value, eight; refused 2 where they are fewer
unfoldable pub open_of : List ℕ → Outcome ArqReassembler
open_of xs = refuse (ltb (length xs) 9) 2 (and_then (accept_identity (get_or xs 0 0) (field 8 64 (bits_of xs))) new_of)

-- a frame is pushed with a buffer of its own
abbrev pub push_with : List ℕ → Push
push_with xs = record { octets = xs; buffer = replicate 255 0 }

-- the first n frames of 14 octets, as pushes
abbrev pub pushes_of : ℕ → List ℕ → List Push
pushes_of zero xs = []
pushes_of (suc n) xs = push_with (take 14 xs) ∷ pushes_of n (drop 14 xs)

-- all whole frames among octets
abbrev pub frames_of : List ℕ → List Push
frames_of xs = pushes_of (length xs / 14) xs

-- deliveries are counted
abbrev pub counted : Option SingleMessage → ℕ
counted None = 0
counted (Some m) = 1

-- what a push comes to
abbrev pub out_of : Session → Push → Out
out_of x p = push_of x.receiver p.octets p.buffer

-- the session after one push
abbrev pub step_of : Session → Push → Session
step_of x p = record {
  receiver = (out_of x p).receiver;
  frames = x.frames + 1;
  messages = x.messages + counted (delivery_of (out_of x p).outcome);
}

-- the session after pushes
abbrev pub after_of : Session → List Push → Session
after_of x [] = x
after_of x (p ∷ l) = after_of (step_of x p) l

-- the lines of pushes
abbrev pub lines_of : Session → List Push → List ℕ
lines_of x [] = []
lines_of x (p ∷ l) = line_of (x.frames + 1) (out_of x p) ++ lines_of (step_of x p) l

-- the receiver is one that the constructor and pushes made, and n frames more can be counted in 64 bits
pub record Ready (x : Session) (n : ℕ) : Type 0 where
  pub valid : Valid x.receiver
  pub frames : x.frames + n < 2 ^ 64
  pub messages : x.messages ≤ x.frames

-- before the first frame
abbrev pub new_session : ArqReassembler → Session
new_session s = record { receiver = s; frames = 0; messages = 0 }

-- the last lines: the cut frame's octets, the deliveries
abbrev pub last_lines : Session → ℕ → List ℕ
last_lines x k = cut_line k ++ messages_line x.messages

-- the lines after the first: of all whole frames, then the last ones
unfoldable pub rest_of : Session → List ℕ → List ℕ
rest_of x xs = lines_of x (frames_of xs) ++ last_lines (after_of x (frames_of xs)) (length xs % 14)

-- the listing of an input, identity accepted or not
abbrev pub listing_from : Outcome ArqReassembler → List ℕ → List ℕ
listing_from (refuses n) xs = identity_line
listing_from (gives s) xs = header_line ++ rest_of (new_session s) xs

-- the whole listing: nine octets of identity, then the frames
unfoldable pub listing_of : List ℕ → List ℕ
listing_of xs = listing_from (open_of (take 9 xs)) (drop 9 xs)

-- ---- what is read and printed

-- of at most `limit` octets all but so many were read: the input's front
pub record Reads (limit left : ℕ) (old new : Option (List ℕ)) : Type 0 where
  pub octets : List ℕ
  pub count : left + length octets ≡ limit
  pub front : Consumes old new octets

-- the same of a listing, which reads no more than the identity if that is refused
pub record ReadsAll (limit left : ℕ) (old new : Option (List ℕ)) : Type 0 where
  pub read : Reads limit left old new
  pub refused : (n : ℕ) → open_of (take 9 read.octets) ≡ refuses n → length read.octets ≤ 9

-- of an input that is known, the text of the first `limit` octets was printed
abbrev pub Prints : (List ℕ → List ℕ) → ℕ → (input before after : Option (List ℕ)) → Type 0
Prints text limit input before after = IfSome input (λ xs. Appends before after (text (take limit xs)))
