-- An instance of demand 3: a list of pushes that fits, what each answers, and a second list that hears more. Assumes nothing.
use Rattle.std.proofs.Common.{◌≡◌, ℕ, zero, suc, ◌+◌, ◌<◌, Bool, true, false, cond, not, ◌&&◌, eqb, ltb, List, [], ◌∷◌, ◌++◌, length, take, replicate, Some, None, Option, bytes_eq, sym, refl, ap, ◌∙◌, ⊎_elim, arith, lit≤, ltb-true, lt-ltb, eq-eqb}
use mathlib.Core.List.Memᴰ
use mathlib.Core.List.{Memᴰ, Sublistᴰ}
use lib.Count.{ones, ones_in}
use Rattle.std.proofs.lemmas.Bool.{and_from, cond-true}
use Rattle.std.specs.Option.{option_map_or}
use Rattle.field.specs.Bits.{Octets, bits, value, bits_of, octets, field}
use Rattle.field.specs.Layout.{layout, up_to, any_set}
use Rattle.rach.specs.Identity.{type_of, same, in_range, encodable}
use Rattle.rach.specs.declared.MobileIdentity.{MobileIdentity}
use Rattle.rach.specs.declared.MobileIdentity.TheVariants.{Tmsi20, Tmsi24}
use Rattle.rach.proofs.Laws.{same_self, both}
use Rattle.spach.specs.declared.Channel.TheVariants.{Arch, Smsch}
use Rattle.spach.specs.Refusal.{Outcome, gives, refuses}
use Rattle.spach.specs.Header.{usage_of, header_a_at, address_at}
use Rattle.arq.specs.declared.ResponseMode.TheVariants.{Contention, Reservation}
use Rattle.arq.specs.declared.ArqHeader.{ArqHeader}
use Rattle.arq.specs.declared.ArqFrame.{ArqFrame}
use Rattle.arq.specs.declared.PackedFrame.{PackedFrame}
use Rattle.arq.specs.Frame.{packed, begin_frame, continue_frame}
use Rattle.arq.specs.Encode.{by_kind, encode_of}
use Rattle.arq.specs.Decode.{decode_of}
use Rattle.arq.specs.Cut.{continues, cut_frame, count_of, frame_of}
use Rattle.arq.specs.Round.{widened}
use Rattle.receiver.specs.declared.ArqReassembler.{ArqReassembler}
use Rattle.receiver.specs.declared.Reception.{Reception}
use Rattle.receiver.specs.declared.Reception.TheVariants.{Ignored, Accepted}
use Rattle.receiver.specs.declared.ArqStatus.{ArqStatus}
use Rattle.receiver.specs.Map.{In}
use Rattle.receiver.specs.Receiver.{Out, fresh, new_of, gathered, assembled, finish, continued, push_frame, push_of, status_answer}
use Rattle.receiver.specs.Demand3.{Push, heard, heards, BeginFor, Such, OfCut, Fitting, Holds, Claim, handed, runs}
use Rattle.receiver.proofs.Heard.{piece}
use Rattle.receiver.proofs.PushCases.{pick_begin, pick_continue, same-octets}
use Rattle.receiver.proofs.Whole.{demand3}

-- ---- the pushes

abbrev pub receiver : MobileIdentity
receiver = Tmsi20 77

abbrev pub text : List ℕ
text =
    1 ∷ 2 ∷ 3 ∷ 4 ∷ 250 ∷ 251 ∷ 252 ∷ 253 ∷ 254 ∷ 255 ∷ 10 ∷ 20 ∷ 30 ∷ 40 ∷ 50 ∷ 60 ∷ 70 ∷ 80 ∷ 90 ∷ 100 ∷ 110 ∷ 120 ∷ 130 ∷ 140 ∷ 150 ∷ 160 ∷ 170 ∷ 180 ∷ 190 ∷ 200 ∷ []

abbrev other : List ℕ
other = replicate 30 255

-- the header of the cut; the frames sent may have other flags, polling and mode
abbrev pub plain : ArqHeader
plain = record {
  channel = Arch;
  flags = record { pch_continuation = false; bcch_change = false; paging_frame_modifier = false; reservation_response = false };
  partial_echo = 5;
  polling = false;
  response_mode = Contention;
}

abbrev pub loud : ArqHeader
loud = record {
  channel = Arch;
  flags = record { pch_continuation = true; bcch_change = false; paging_frame_modifier = true; reservation_response = true };
  partial_echo = 5;
  polling = true;
  response_mode = Reservation;
}

-- another echo, and another channel
abbrev next : ArqHeader
next = record { channel = Arch; flags = plain.flags; partial_echo = 6; polling = true; response_mode = Contention }

abbrev elsewhere : ArqHeader
elsewhere = record { channel = Smsch; flags = plain.flags; partial_echo = 5; polling = false; response_mode = Contention }

abbrev pub octets_in : Outcome PackedFrame → List ℕ
octets_in (gives p) = p.octets
octets_in (refuses n) = []

-- a frame sent to a receiver that lends n octets
abbrev sent : ArqFrame → ℕ → Push
sent f n = record { octets = octets_in (encode_of f); buffer = replicate n 7 }

abbrev junk : List ℕ → Push
junk o = record { octets = o; buffer = replicate 255 7 }

abbrev begins : ArqFrame
begins = cut_frame loud receiver text 0

abbrev pub c : ArqHeader → ℕ → ArqFrame
c h k = cut_frame h receiver text (suc k)

-- the Begin as it is heard
abbrev pub b : ArqFrame
b = widened begins

-- a Continue with a padding bit set
abbrev padded : List ℕ
padded = take 13 (octets_in (encode_of (c plain 1))) ++ 1 ∷ []

abbrev pub before : List Push
before =
    junk (1 ∷ []) ∷ sent begins 254 ∷ sent begins 255 ∷ sent (c plain 2) 255 ∷ sent (c loud 2) 256 ∷ sent (cut_frame next receiver other 2) 255
    ∷ sent (cut_frame plain (Tmsi20 78) other 0) 255 ∷ junk padded ∷ sent (c plain 1) 254 ∷ sent (c plain 0) 255 ∷ sent (cut_frame plain (Tmsi24 77) other 2) 255
    ∷ sent (cut_frame elsewhere receiver other 2) 255 ∷ []

abbrev pub last : Push
last = sent (c plain 1) 300

abbrev pub final : Push
final = sent (c loud 0) 255

abbrev pub pushes : List Push
pushes = before ++ last ∷ final ∷ []

-- a second list, that hears all that those before the last hear, with others between and after
abbrev pub longer : List Push
longer =
    sent begins 300 ∷ sent (cut_frame plain (Tmsi24 77) other 0) 255 ∷ sent (c plain 2) 255 ∷ sent (c loud 2) 255 ∷ junk [] ∷ sent (cut_frame next receiver other 2) 255
    ∷ sent (cut_frame plain (Tmsi20 78) other 0) 255 ∷ sent (c plain 1) 255 ∷ sent (c plain 0) 255 ∷ sent (cut_frame plain (Tmsi24 77) other 2) 255
    ∷ sent (cut_frame elsewhere receiver other 2) 255 ∷ sent (c loud 2) 255 ∷ []

-- ---- what they hear after the Begin

abbrev pub rest_before : List ArqFrame
rest_before =
    c plain 2 ∷ c loud 2 ∷ cut_frame next receiver other 2 ∷ widened (cut_frame plain (Tmsi20 78) other 0) ∷ c plain 0 ∷ cut_frame plain (Tmsi24 77) other 2
    ∷ cut_frame elsewhere receiver other 2 ∷ []

abbrev pub rest : List ArqFrame
rest = rest_before ++ c plain 1 ∷ c loud 0 ∷ []

abbrev rest_longer : List ArqFrame
rest_longer =
    widened (cut_frame plain (Tmsi24 77) other 0) ∷ c plain 2 ∷ c loud 2 ∷ cut_frame next receiver other 2 ∷ widened (cut_frame plain (Tmsi20 78) other 0) ∷ c plain 1
    ∷ c plain 0 ∷ cut_frame plain (Tmsi24 77) other 2 ∷ cut_frame elsewhere receiver other 2 ∷ c loud 2 ∷ []

-- what each list hears: nothing of the refused pushes, and all of the others'
pub hear : (heards pushes ≡ b ∷ rest) × (heards before ≡ b ∷ rest_before) × (heards longer ≡ b ∷ rest_longer)
unfolding heard decode_of header_a_at address_at bits_of bits value octets field up_to layout any_set encode_of begin_frame continue_frame packed encodable in_range
hear = (refl, refl, refl)

-- ---- the premise, as a test of the frames heard

module _ (h : ArqHeader) (i : MobileIdentity) (m : List ℕ) (x : ArqFrame) where
  -- f is no Begin for i; and if it is a Continue of the transfer that x opened, its number is needed and its octets are the cut's
  abbrev such_in : ArqFrame → Bool
  such_in f =
      eqb f.header.partial_echo x.header.partial_echo
      && (eqb (usage_of f.header.channel) (usage_of x.header.channel) && eqb f.identity_type (type_of i))

  abbrev fine : ArqFrame → Bool
  fine f =
      by_kind f.kind (not (same f.identity i))
      (cond (such_in f) (ltb f.frame_number (continues i (length m)) && bytes_eq f.continue_data (piece i m f.frame_number)) true)

  abbrev all_fine : List ArqFrame → Bool
  all_fine [] = true
  all_fine (f ∷ fs) = fine f && all_fine fs

  each_fine : (fs : List ArqFrame) → all_fine fs ≡ true → (f : ArqFrame) → Memᴰ f fs → fine f ≡ true
  each_fine [] e f j = absurd (Memᴰ.not-nil j)
  each_fine (g ∷ fs) e f j =
      let p = both (fine g) (all_fine fs) e in
      ⊎_elim (λ q. ap fine q ∙ p.0) (λ k. each_fine fs p.1 f k) (Memᴰ.cases_cons j)

  fine_lone : (f : ArqFrame) → fine f ≡ true → BeginFor i f → ⊥
  fine_lone f e o =
      let p : not (same f.identity i) ≡ true = sym (pick_begin _ _ o.kind) ∙ e in
      let q : same f.identity i ≡ true = rw o.identity (same_self i) in
      cc

  such_in_lem : (f : ArqFrame) → Such i x f → such_in f ≡ true
  such_in_lem f su =
      and_from _ _ (eq-eqb f.header.partial_echo x.header.partial_echo su.echo)
      (and_from _ _ (eq-eqb (usage_of f.header.channel) (usage_of x.header.channel) (ap usage_of su.channel)) (eq-eqb f.identity_type (type_of i) su.type))

  module _ (given : (k : ℕ) → k < 1 + continues i (length m) → frame_of h i m k ≡ gives (cut_frame h i m k)) where
    fine_piece : (f : ArqFrame) → fine f ≡ true → Such i x f → OfCut h i m f
    fine_piece f e su =
        let k : ℕ = f.frame_number in
        let p = both (ltb k (continues i (length m))) (bytes_eq f.continue_data (piece i m k)) (sym (pick_continue _ _ su.kind ∙ cond-true _ _ _ (such_in_lem f su)) ∙ e) in
        let l : k < continues i (length m) = ltb-true k (continues i (length m)) p.0 in
        record {
          k = k;
          frame = cut_frame h i m (suc k);
          next = given (suc k) (omega arith);
          number = refl;
          data_bits = ap (λ (o : List ℕ). take 79 (bits_of o)) (same-octets f.continue_data (piece i m k) p.1);
        }

-- numbers of eight bits, tested
abbrev pub small : List ℕ → Bool
small [] = true
small (x ∷ l) = ltb x 256 && small l

pub small_octets : (l : List ℕ) → small l ≡ true → Octets l
small_octets [] e j = omega arith
small_octets (x ∷ l) e zero = ltb-true x 256 (both (ltb x 256) (small l) e).0
small_octets (x ∷ l) e (suc j) = small_octets l (both (ltb x 256) (small l) e).1 j

-- the cut gives its frames
frames_given : (k : ℕ) → k < 1 + continues receiver (length text) → frame_of plain receiver text k ≡ gives (cut_frame plain receiver text k)
unfolding frame_of encodable in_range
frames_given k l = rw (lt-ltb k (1 + continues receiver (length text)) l)

-- so a list fits if it hears the Begin first, and then only what the test passes
pub fits : (l : List Push) (fs : List ArqFrame) → heards l ≡ b ∷ fs → all_fine plain receiver text b fs ≡ true → Fitting receiver text b l
unfolding bits_of bits value octets up_to
fits l fs e t =
    record {
      octets = small_octets text refl;
      size = lit≤ tt;
      rest = fs;
      first = e;
      own = record { kind = refl; identity = refl };
      header = plain;
      cut-from = record { frame = cut_frame plain receiver text 0; first = frames_given 0 (lit≤ tt); identity = refl; echo = refl; channel = refl; octets = refl; data_bits = refl };
      lone = λ f j. fine_lone plain receiver text b f (each_fine plain receiver text b fs t f j);
      pieces = λ f j. fine_piece plain receiver text b frames_given f (each_fine plain receiver text b fs t f j);
    }

-- all of it passes the test
pub fine_all : (all_fine plain receiver text b rest ≡ true) × (all_fine plain receiver text b rest_before ≡ true) × (all_fine plain receiver text b rest_longer ≡ true)
unfolding bits_of bits value octets up_to same
fine_all = (refl, refl, refl)

-- so the premise of demand 3 holds of the list
pub pushes_fit : Fitting receiver text b pushes
pushes_fit = fits pushes rest hear.0 fine_all.0

-- ---- what they answer

-- a push's answer: with the map afterwards, and the message that it put into the buffer
pub data Line : Type 0 where
  refused : ℕ → Line
  ignored : Line
  accepted : (map : ℕ) → Line
  message : (map : ℕ) → (octets : List ℕ) → Line

-- the map held afterwards
abbrev map_of : ArqReassembler → ℕ
map_of s = option_map_or (λ t. t.received_frames) s.transaction 0

abbrev line_of : Outcome Reception → ArqReassembler → List ℕ → Line
line_of (gives (Accepted (Some m) r)) s buffer = message (map_of s) (take m.length buffer)
line_of (gives (Accepted None r)) s buffer = accepted (map_of s)
line_of (gives Ignored) s buffer = ignored
line_of (refuses n) s buffer = refused n

abbrev lines_of : ArqReassembler → List Push → List Line
lines_of s [] = []
lines_of s (p ∷ l) =
    let o = push_of s p.octets p.buffer in
    line_of o.outcome o.receiver o.buffer ∷ lines_of (handed s o.receiver o.outcome) l

-- "The push that completes the set .. delivers exactly that message", to the front of its buffer, "and no other push in the
-- list delivers anything"; the maps at the ends
pub answered : (lines_of (fresh receiver) pushes
    ≡ refused 1 ∷ refused 16 ∷ accepted 0 ∷ accepted 4 ∷ accepted 4 ∷ ignored ∷ ignored ∷ refused 15 ∷ refused 16 ∷ accepted 5 ∷ ignored ∷ ignored ∷ message 7 text ∷ accepted 7 ∷ [])
    × ((push_of (runs new_of push_of status_answer (fresh receiver) before) last.octets last.buffer).buffer ≡ text ++ replicate 270 7)
    × (status_answer (runs new_of push_of status_answer (fresh receiver) before) ≡ Some (record { partial_echo = 5; received_frames = 5 }))
    × (status_answer (runs new_of push_of status_answer (fresh receiver) longer) ≡ Some (record { partial_echo = 5; received_frames = 7 }))
unfolding push_of push_frame continued finish assembled gathered same ones ones_in decode_of header_a_at address_at bits_of bits value octets field up_to layout any_set encode_of begin_frame continue_frame packed encodable in_range
answered = (refl, refl, refl, refl)

-- ---- demand 3 of them

-- the identity is accepted
pub made : new_of receiver ≡ gives (fresh receiver)
unfolding new_of encodable in_range
made = refl

-- what the claim says of a list that fits so, of any push and status
pub holds_of : (push : ArqReassembler → List ℕ → List ℕ → Out) (status : ArqReassembler → Option ArqStatus) → Claim new_of push status
    → (l : List Push) (fs : List ArqFrame) → heards l ≡ b ∷ fs → all_fine plain receiver text b fs ≡ true → Holds new_of push status receiver text b 4 (fresh receiver) l
unfolding fits count_of encodable in_range
holds_of push status claim l fs e t = claim receiver text b (fresh receiver) l made (fits l fs e t) 4 refl

-- demand 3 of the list
pub holds_here : Holds new_of push_of status_answer receiver text b 4 (fresh receiver) pushes
holds_here = holds_of push_of status_answer demand3 pushes rest hear.0 fine_all.0

all_heard : Sublistᴰ (heards before) (heards longer)
all_heard = rw (hear.1, hear.2) (too (skip (too (too (too (too (skip (too (too (too (skip Sublistᴰ.slnil)))))))))))
  where
    too : {x : ArqFrame} {xs ys : List ArqFrame} → Sublistᴰ xs ys → Sublistᴰ (x ∷ xs) (x ∷ ys)
    too d = Sublistᴰ.cons-cons refl d

    skip : {x : ArqFrame} {xs ys : List ArqFrame} → Sublistᴰ xs ys → Sublistᴰ xs (x ∷ ys)
    skip d = Sublistᴰ.cons d

-- "its map at the end includes the first's"
pub includes : (k : ℕ) → In k 5 → In k 7
includes =
    (holds_of push_of status_answer demand3 before rest_before hear.1 fine_all.1).second (fresh receiver) made longer (fits longer rest_longer hear.2 fine_all.2) all_heard 5 5 5 7 answered.2 answered.3
