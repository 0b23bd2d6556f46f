-- The lines of a listing over all inputs: numbers and octets as text, each field of a line, and what is counted. They are said
-- by plain numbers (ASCII), over the library's decimals and digits and demand 3's run; a definition that is changed, and its
-- code alike, meets these no more. Assumes nothing.
use Rattle.std.proofs.Common.{◌≡◌, ℕ, suc, ◌+◌, ◌/◌, ◌%◌, ◌^◌, ◌<◌, ◌≤◌, List, [], ◌∷◌, ◌++◌, length, take, drop, replicate, Some, None, Option, refl, ap, ◌∙◌, ap₂, append-nil, arith, le-ltb, lt-ltb}
use Rattle.std.specs.Fmt.{decimal}
use Rattle.std.proofs.lemmas.Fmt.{decimal_digit, decimal_step}
use Rattle.io.specs.Digits.{last_digits, hex_digit_ascii}
use Rattle.hex.specs.Hex.{encode_with, encode_lower}
use Rattle.field.specs.Bits.{bits, bits_of, field}
use Rattle.field.proofs.Laws.{length-bits, field_right}
use Rattle.spach.specs.Refusal.{Outcome, gives, refuses, and_then}
use Rattle.spach.specs.Identity.{accept_identity}
use Rattle.receiver.specs.declared.ArqReassembler.{ArqReassembler}
use Rattle.receiver.specs.declared.ArqStatus.{ArqStatus}
use Rattle.receiver.specs.declared.SingleMessage.{SingleMessage}
use Rattle.receiver.specs.declared.StatusRequest.{StatusRequest}
use Rattle.receiver.specs.declared.Reception.{Reception}
use Rattle.receiver.specs.declared.Reception.TheVariants.{Ignored, Accepted}
use Rattle.receiver.specs.Receiver.{Out, new_of, push_of, status_answer}
use Rattle.receiver.specs.Demand3.{Push, runs}
use Rattle.listing.specs.declared.Session.{Session}
use Rattle.listing.specs.Line.{answer_text, held_text, delivery_of, delivery_text, line_of, cut_line}
use Rattle.listing.specs.Session.{open_of, frames_of, counted, out_of, step_of, after_of, lines_of, new_session, last_lines, rest_of, listing_from, listing_of}
use Rattle.listing.proofs.Digits.{digit_is}
use Rattle.listing.proofs.Sessions.{after-runs, after-append, lines-append, frames_append, frames_one, frames_few}

-- ---- numbers and octets

-- a number below 10 is its digit
pub decimal_one : (n : ℕ) → n < 10 → decimal n ≡ (48 + n) ∷ []
decimal_one n h = decimal_digit n h

-- any other is all but its last digit, then that one: so none begins with a zero
pub decimal_more : (n : ℕ) → 10 ≤ n → n < 2 ^ 64 → decimal n ≡ decimal (n / 10) ++ ((48 + n % 10) ∷ [])
decimal_more n h l = decimal_step n h l

-- octets in hex: two digits for each, in order
pub hex_none : encode_lower [] ≡ []
unfolding encode_with
hex_none = refl

pub hex_more : (x : ℕ) (xs : List ℕ) → x < 256 → encode_lower (x ∷ xs) ≡ hex_digit_ascii (x / 16) ∷ hex_digit_ascii (x % 16) ∷ encode_lower xs
unfolding encode_with
hex_more x xs h = rw (digit_is (x / 16) (omega arith), digit_is (x % 16) (omega arith))

-- ---- the fields of a line

-- frame, answer, echo and map, message, divided by single spaces
pub line_is : (n : ℕ) (o : Out)
    → line_of n o ≡ decimal n ++ (32 ∷ []) ++ answer_text o.outcome ++ (32 ∷ []) ++ held_text (status_answer o.receiver) ++ (32 ∷ []) ++ delivery_text (delivery_of o.outcome) o.buffer ++ (10 ∷ [])
line_is n o = refl

-- `ignored`, `heard`, `message`, `refused-` and number
pub answer_ignored : answer_text (gives Ignored) ≡ 105 ∷ 103 ∷ 110 ∷ 111 ∷ 114 ∷ 101 ∷ 100 ∷ []
answer_ignored = refl

pub answer_heard : (r : Option StatusRequest) → answer_text (gives (Accepted None r)) ≡ 104 ∷ 101 ∷ 97 ∷ 114 ∷ 100 ∷ []
answer_heard r = refl

pub answer_message : (m : SingleMessage) (r : Option StatusRequest) → answer_text (gives (Accepted (Some m) r)) ≡ 109 ∷ 101 ∷ 115 ∷ 115 ∷ 97 ∷ 103 ∷ 101 ∷ []
answer_message m r = refl

pub answer_refused : (n : ℕ) → answer_text (refuses n) ≡ (114 ∷ 101 ∷ 102 ∷ 117 ∷ 115 ∷ 101 ∷ 100 ∷ 45 ∷ []) ++ decimal n
answer_refused n = refl

-- the echo in decimal, the map in eight hex digits; `-` and zeros if none is held
pub held_is : (x : ArqStatus) → held_text (Some x) ≡ decimal x.partial_echo ++ (32 ∷ []) ++ last_digits 16 8 x.received_frames
held_is x = refl

pub held_none : held_text None ≡ 45 ∷ 32 ∷ 48 ∷ 48 ∷ 48 ∷ 48 ∷ 48 ∷ 48 ∷ 48 ∷ 48 ∷ []
held_none = refl

-- `-` beside every answer without a message
pub text_none : (b : List ℕ) (r : Option StatusRequest) (n : ℕ)
    → (delivery_text (delivery_of (gives Ignored)) b ≡ 45 ∷ []) × (delivery_text (delivery_of (gives (Accepted None r))) b ≡ 45 ∷ [])
    × (delivery_text (delivery_of (refuses n)) b ≡ 45 ∷ [])
text_none b r n = (refl, refl, refl)

-- `empty` for no octets
pub text_empty : (m : SingleMessage) (r : Option StatusRequest) (b : List ℕ) → m.length ≡ 0 → delivery_text (delivery_of (gives (Accepted (Some m) r))) b ≡ 101 ∷ 109 ∷ 112 ∷ 116 ∷ 121 ∷ []
text_empty m r b e = rw e

-- the octets at the front of the buffer in hex
pub text_message : (m : SingleMessage) (r : Option StatusRequest) (x : ℕ) (b : List ℕ) (n : ℕ) → m.length ≡ suc n → delivery_text (delivery_of (gives (Accepted (Some m) r))) (x ∷ b) ≡ encode_lower (x ∷ take n b)
text_message m r x b n e = rw e

-- ---- the last lines

-- `cut` and its octets where some are left, nothing where none are
pub cut_is : (k : ℕ) → cut_line (suc k) ≡ (99 ∷ 117 ∷ 116 ∷ 32 ∷ []) ++ decimal (suc k) ++ (10 ∷ [])
cut_is k = refl

pub cut_none : cut_line 0 ≡ []
cut_none = refl

-- then `messages` and how many
pub last-is : (x : Session) (k : ℕ) → last_lines x k ≡ cut_line k ++ ((109 ∷ 101 ∷ 115 ∷ 115 ∷ 97 ∷ 103 ∷ 101 ∷ 115 ∷ 32 ∷ []) ++ decimal x.messages ++ (10 ∷ []))
last-is x k = refl

-- ---- the input

-- fewer than nine octets are no identity
pub open_short : (xs : List ℕ) → length xs < 9 → open_of xs ≡ refuses 2
unfolding open_of
open_short xs h = rw (lt-ltb (length xs) 9 h)

-- its type is the first, its value the next eight, the upper first
pub open_reads : (t : ℕ) (v : List ℕ) → length v ≡ 8 → open_of (t ∷ v) ≡ and_then (accept_identity t (field 0 64 (bits_of v))) new_of
unfolding open_of bits_of
open_reads t v e =
    let n : 8 ≡ length (bits 8 t) + 0 = omega (arith, length-bits 8 t) in
    let value : field 8 64 (bits 8 t ++ bits_of v) ≡ field 0 64 (bits_of v) = ap (λ (k : ℕ). field k 64 (bits 8 t ++ bits_of v)) n ∙ field_right 0 64 (bits 8 t) (bits_of v) in
    rw (le-ltb (suc (length v)) 9 (omega arith), value)

-- the one line `identity`, if it is refused
pub listing_refused : (xs : List ℕ) (n : ℕ) → open_of (take 9 xs) ≡ refuses n → listing_of xs ≡ 105 ∷ 100 ∷ 101 ∷ 110 ∷ 116 ∷ 105 ∷ 116 ∷ 121 ∷ 10 ∷ []
unfolding listing_of
listing_refused xs n e = ap (λ (o : Outcome ArqReassembler). listing_from o (drop 9 xs)) e

-- else `frame answer echo map text`, the lines of all whole frames, and the last lines
pub listing_gives : (xs : List ℕ) (s : ArqReassembler) → open_of (take 9 xs) ≡ gives s
    → listing_of xs
    ≡ (102 ∷ 114 ∷ 97 ∷ 109 ∷ 101 ∷ 32 ∷ 97 ∷ 110 ∷ 115 ∷ 119 ∷ 101 ∷ 114 ∷ 32 ∷ 101 ∷ 99 ∷ 104 ∷ 111 ∷ 32 ∷ 109 ∷ 97 ∷ 112 ∷ 32 ∷ 116 ∷ 101 ∷ 120 ∷ 116 ∷ 10 ∷ [])
    ++ lines_of (new_session s) (frames_of (drop 9 xs))
    ++ last_lines (after_of (new_session s) (frames_of (drop 9 xs))) (length (drop 9 xs) % 14)
unfolding listing_of rest_of
listing_gives xs s e = ap (λ (o : Outcome ArqReassembler). listing_from o (drop 9 xs)) e

-- ---- frames and messages in turn

-- the input is divided into frames of 14 octets, each pushed with a buffer of its own; fewer are none
pub frames_first : (a c : List ℕ) → length a ≡ 14 → frames_of (a ++ c) ≡ record { octets = a; buffer = replicate 255 0 } ∷ frames_of c
frames_first a c e =
    let whole : length a % 14 ≡ 0 = omega arith in
    frames_append a c whole ∙ ap (λ (l : List Push). l ++ frames_of c) (frames_one a e)

pub frames-none : (c : List ℕ) → length c < 14 → frames_of c ≡ []
frames-none = frames_few

-- as many as there are whole frames in the input
pub frames_counted : (x : Session) (l : List Push) → (after_of x l).frames ≡ x.frames + length l
frames_counted x [] = omega arith
frames_counted x (p ∷ l) = omega (arith, frames_counted (step_of x p) l)

-- an answer with a message counts one
abbrev given : Outcome Reception → ℕ
given (gives Ignored) = 0
given (gives (Accepted None r)) = 0
given (gives (Accepted (Some m) r)) = 1
given (refuses n) = 0

counted_given : (o : Outcome Reception) → counted (delivery_of o) ≡ given o
counted_given (gives Ignored) = refl
counted_given (gives (Accepted None r)) = refl
counted_given (gives (Accepted (Some m) r)) = refl
counted_given (refuses n) = refl

module _ (s : ArqReassembler) where
  -- what the push p comes to, after the pushes l
  abbrev answered : List Push → Push → Out
  answered l p = push_of (runs new_of push_of status_answer s l) p.octets p.buffer

  at_run : (l : List Push) (p : Push) → out_of (after_of (new_session s) l) p ≡ answered l p
  at_run l p = ap (λ (r : ArqReassembler). push_of r p.octets p.buffer) (after-runs (new_session s) l)

  -- messages are counted from 0, one for each push that delivers
  pub messages_none : (after_of (new_session s) []).messages ≡ 0
  messages_none = refl

  pub messages_more : (l : List Push) (p : Push) → (after_of (new_session s) (l ++ p ∷ [])).messages ≡ (after_of (new_session s) l).messages + given (answered l p).outcome
  messages_more l p =
      ap (λ (y : Session). y.messages) (after-append (new_session s) l (p ∷ []))
      ∙ ap (λ (k : ℕ). (after_of (new_session s) l).messages + k) (counted_given (out_of (after_of (new_session s) l) p).outcome ∙ ap (λ (o : Out). given o.outcome) (at_run l p))

  -- line after line: each says what its push comes to after those before it, and its number from 1
  pub lines_none : lines_of (new_session s) [] ≡ []
  lines_none = refl

  pub lines_more : (l : List Push) (p : Push) → lines_of (new_session s) (l ++ p ∷ []) ≡ lines_of (new_session s) l ++ line_of (length l + 1) (answered l p)
  lines_more l p =
      let n : (after_of (new_session s) l).frames + 1 ≡ length l + 1 = omega (arith, frames_counted (new_session s) l) in
      lines-append (new_session s) l (p ∷ [])
      ∙ ap (λ (t : List ℕ). lines_of (new_session s) l ++ t) (append-nil (line_of ((after_of (new_session s) l).frames + 1) (out_of (after_of (new_session s) l) p)) ∙ ap₂ line_of n (at_run l p))

-- ---- what a push leaves

-- the session after a push: the receiver that it returned, a frame more, and a message more if one was delivered
pub step-says : (x : Session) (p : Push) → let o = push_of x.receiver p.octets p.buffer in step_of x p ≡ record { receiver = o.receiver; frames = x.frames + 1; messages = x.messages + counted (delivery_of o.outcome) }
step-says x p = refl
