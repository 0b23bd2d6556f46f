-- 01, "Program `arq-show`": its lines, as octets of ASCII: `codes` of a word are its signs' numbers. Assumes nothing.
use Rattle.std.specs.Prelude.{List, [], ◌∷◌, ◌++◌, ℕ, zero, suc, ◌≤◌, Option, None, Some, codes, take}
use Rattle.std.specs.Fmt.{decimal}
use Rattle.io.specs.Digits.{last_digits}
use Rattle.hex.specs.Hex.{encode_lower}
use Rattle.spach.specs.Refusal.{Outcome, gives, refuses}
use Rattle.receiver.specs.declared.ArqStatus.{ArqStatus}
use Rattle.receiver.specs.declared.SingleMessage.{SingleMessage}
use Rattle.receiver.specs.declared.Reception.{Reception}
use Rattle.receiver.specs.declared.Reception.TheVariants.{Ignored, Accepted}
use Rattle.receiver.specs.Receiver.{Out, status_answer}

-- ---- the line of a frame

-- the answer; "heard" is accepted without a message
abbrev pub answer_text : Outcome Reception → List ℕ
answer_text (gives Ignored) = codes "ignored"
answer_text (gives (Accepted None r)) = codes "heard"
answer_text (gives (Accepted (Some m) r)) = codes "message"
answer_text (refuses n) = codes "refused-" ++ decimal n

-- the echo held in decimal or `-`, then the map in eight hex digits, zeros if none is held
abbrev pub held_text : Option ArqStatus → List ℕ
held_text None = codes "- 00000000"
held_text (Some x) = decimal x.partial_echo ++ codes " " ++ last_digits 16 8 x.received_frames

-- a message's octets in hex, `empty` for none
abbrev pub octets_text : List ℕ → List ℕ
octets_text [] = codes "empty"
octets_text (x ∷ xs) = encode_lower (x ∷ xs)

-- what an answer delivers
abbrev pub delivery_of : Outcome Reception → Option SingleMessage
delivery_of (gives Ignored) = None
delivery_of (gives (Accepted d r)) = d
delivery_of (refuses n) = None

-- a message delivered lies inside a buffer of n octets
abbrev pub Inside : Option SingleMessage → ℕ → Type 0
Inside None n = Unit {0}
Inside (Some m) n = m.length ≤ n

-- the message at the front of the buffer, or `-`
abbrev pub delivery_text : Option SingleMessage → List ℕ → List ℕ
delivery_text None b = codes "-"
delivery_text (Some m) b = octets_text (take m.length b)

-- frame n, and what its push came to: fields divided by single spaces
abbrev pub line_of : ℕ → Out → List ℕ
line_of n o =
    decimal n ++ codes " " ++ answer_text o.outcome ++ codes " " ++ held_text (status_answer o.receiver) ++ codes " "
    ++ delivery_text (delivery_of o.outcome) o.buffer ++ codes "\n"

-- ---- the other lines

-- the names of the fields
abbrev pub header_line : List ℕ
header_line = codes "frame answer echo map text\n"

-- of a refused identity
abbrev pub identity_line : List ℕ
identity_line = codes "identity\n"

-- `cut` and how many octets the cut last frame has; nothing if none is cut
abbrev pub cut_line : ℕ → List ℕ
cut_line zero = []
cut_line (suc k) = codes "cut " ++ decimal (suc k) ++ codes "\n"

-- `messages` and how many were delivered
abbrev pub messages_line : ℕ → List ℕ
messages_line n = codes "messages " ++ decimal n ++ codes "\n"
