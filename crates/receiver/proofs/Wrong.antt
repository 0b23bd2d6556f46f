-- Receivers that demand 3 shuts out, and what it leaves to the laws beside it. Assumes nothing.
use Rattle.std.proofs.Common.{◌≡◌, ℕ, false, List, [], ◌∷◌, ◌++◌, Some, None, Option, option_map, sym, refl, ap, ◌∙◌, subst, inl, inr}
use mathlib.Core.List.{cons≢nil, head-eq_of_cons-eq}
use mathlib.Core.List.Memᴰ
use lib.Count.{ones, ones_in}
use Rattle.std.specs.Option.{ForSome}
use Rattle.field.specs.Bits.{bits, value, bits_of, octets, field}
use Rattle.field.specs.Layout.{layout, up_to, any_set}
use Rattle.rach.specs.Identity.{same, in_range, encodable}
use Rattle.spach.specs.Refusal.{refuses}
use Rattle.spach.specs.Header.{header_a_at, address_at}
use Rattle.arq.specs.declared.ArqFrame.{ArqFrame}
use Rattle.arq.specs.Frame.{packed, begin_frame, continue_frame}
use Rattle.arq.specs.Encode.{encode_of}
use Rattle.arq.specs.Decode.{decode_of}
use Rattle.receiver.specs.declared.ArqReassembler.{ArqReassembler}
use Rattle.receiver.specs.declared.transaction.Transaction.{Transaction}
use Rattle.receiver.specs.declared.ArqStatus.{ArqStatus}
use Rattle.receiver.specs.Map.{In}
use Rattle.receiver.specs.Receiver.{Out, fresh, new_of, status_answer, gathered, assembled, ignored, finish, continued, push_frame, push_of}
use Rattle.receiver.specs.Demand3.{Push, heard, heards, HeardNo, Claim, Completes, At, runs, handed}
use Rattle.receiver.proofs.Laws.{status_held}
use Rattle.receiver.proofs.Maps.{none_in}
use Rattle.receiver.proofs.Valid.{handed_either}
use Rattle.receiver.proofs.Instance.{receiver, text, plain, loud, c, b, before, last, final, pushes, rest, rest_before, hear, fine_all, holds_of}

-- ---- the instance's last push, of any receiver

abbrev sooner : List Push
sooner = before ++ last ∷ []

hear_sooner : (heards sooner ≡ b ∷ (rest_before ++ c plain 1 ∷ [])) × (heard final ≡ c loud 0 ∷ [])
unfolding heard decode_of header_a_at address_at bits_of bits value octets field up_to layout any_set encode_of begin_frame continue_frame packed encodable in_range
hear_sooner = (refl, refl)

-- Continue 0 was heard before it
nought : {fs : List ArqFrame} (ts : List ArqFrame) → fs ≡ b ∷ (rest_before ++ ts) → HeardNo receiver b fs 0
nought ts e = (
  c plain 0,
  rw e (Memᴰ.tail (Memᴰ.tail (Memᴰ.tail (Memᴰ.tail (Memᴰ.tail (Memᴰ.head refl)))))),
  record { kind = refl; echo = refl; channel = refl; type = refl },
  refl,
)

-- so it completes nothing
completes_not : Completes receiver b 3 sooner final → ⊥
completes_not (inl w) = cons≢nil (sym hear_sooner.0 ∙ w.first)
completes_not (inr w) =
    let e : w.frame ≡ c loud 0 = head-eq_of_cons-eq (sym w.hears ∙ hear_sooner.1) in
    w.missing (subst (λ (f : ArqFrame). HeardNo receiver b (heards sooner) f.frame_number) (sym e) (nought (c plain 1 ∷ []) hear_sooner.0))

module _ (push : ArqReassembler → List ℕ → List ℕ → Out) (claim : Claim new_of push status_answer) where
  at-end : At new_of push status_answer receiver text b 4 (fresh receiver) sooner final
  at-end = (holds_of push status_answer claim pushes rest hear.0 fine_all.0).each sooner final [] refl

  -- afterwards a map with 0 in it is told
  told : (w : ℕ) × (status_answer (runs new_of push status_answer (fresh receiver) pushes) ≡ Some (record { partial_echo = 5; received_frames = w })) × In 0 w
  told =
      let t = at-end.map_is (λ e. cons≢nil (sym hear.0 ∙ e)) in
      (t.0, t.1, (t.2 0).1 (nought (c plain 1 ∷ c loud 0 ∷ []) hear.0))

-- ---- shut out

-- "A receiver that Ignores everything"
abbrev deaf : ArqReassembler → List ℕ → List ℕ → Out
deaf s xs buffer = ignored s buffer

deaf_stays : (l : List Push) (s : ArqReassembler) → runs new_of deaf status_answer s l ≡ s
deaf_stays [] s = refl
deaf_stays (p ∷ l) s = deaf_stays l s

-- it tells no status
pub no_deaf : Claim new_of deaf status_answer → ⊥
no_deaf claim =
    let t = told deaf claim in
    let h = status_held (fresh receiver) (ap status_answer (sym (deaf_stays pushes (fresh receiver))) ∙ t.1) in
    let z : None ≡ Some h.0 = h.1 in
    cc

-- "or takes the Begin and feigns the rest": each push is answered as from an empty map, and no number stays in it
abbrev cleared : Transaction → Transaction
cleared t = record t { received_frames = 0 }

abbrev emptied : ArqReassembler → ArqReassembler
emptied s = record s { transaction = option_map cleared s.transaction }

abbrev feigning : ArqReassembler → List ℕ → List ℕ → Out
feigning s xs buffer =
    let o = push_of s xs buffer in
    record { outcome = o.outcome; receiver = emptied o.receiver; buffer = o.buffer }

-- no number is held
abbrev Empty : ArqReassembler → Type 0
Empty s = ForSome s.transaction (λ t. t.received_frames ≡ 0)

emptied_empty : (s : ArqReassembler) → Empty (emptied s)
emptied_empty s = go s.transaction
  where
    go : (o : Option Transaction) → ForSome (option_map cleared o) (λ t. t.received_frames ≡ 0)
    go None t e = absurd (cc)
    go (Some u) t e = let z : cleared u ≡ t = cc in rw (← z) refl

feigning_empty : (l : List Push) (s : ArqReassembler) → Empty s → Empty (runs new_of feigning status_answer s l)
feigning_empty [] s e = e
feigning_empty (p ∷ l) s e =
    let o : Out = feigning s p.octets p.buffer in
    feigning_empty l (handed s o.receiver o.outcome) (handed_either Empty s o.receiver o.outcome e (emptied_empty (push_of s p.octets p.buffer).receiver))

-- its map lacks what was heard
pub no_feigning : Claim new_of feigning status_answer → ⊥
no_feigning claim =
    let t = told feigning claim in
    let s : ArqReassembler = runs new_of feigning status_answer (fresh receiver) pushes in
    let h = status_held s t.1 in
    let z : t.0 ≡ 0 = h.2 ∙ feigning_empty pushes (fresh receiver) (λ t e. absurd (cc)) h.0 h.1 in
    none_in 0 (rw z at t.2)

-- a receiver that does not mark what it delivered: it delivers again when a Continue is repeated
abbrev untold : Transaction → Transaction
untold t = record t { delivered = false }

abbrev unmarked : ArqReassembler → ArqReassembler
unmarked s = record s { transaction = option_map untold s.transaction }

abbrev repeating : ArqReassembler → List ℕ → List ℕ → Out
repeating s xs buffer =
    let o = push_of s xs buffer in
    record { outcome = o.outcome; receiver = unmarked o.receiver; buffer = o.buffer }

-- its last push is not silent
pub no_repeating : Claim new_of repeating status_answer → ⊥
unfolding push_of push_frame continued finish assembled gathered same ones ones_in decode_of header_a_at address_at bits_of bits value octets field up_to layout any_set encode_of begin_frame continue_frame packed encodable in_range
no_repeating claim = ((at-end repeating claim).others completes_not).answer

-- ---- left to the laws beside it

-- a constructor that refuses every identity has any push: `made_exactly` says which ones are accepted
pub no_identity : (push : ArqReassembler → List ℕ → List ℕ → Out) (status : ArqReassembler → Option ArqStatus) → Claim (λ i. refuses 2) push status
no_identity push status i m x s l e f count q = cc
