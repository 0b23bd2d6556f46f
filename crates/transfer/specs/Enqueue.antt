-- 01, *Enqueue*: store short 16; fewer than 512 tokens left 18; 22; events at capacity 20; deadline not after now 23; empty 1;
-- no transfer replaced and transfers at capacity 20; cut's 1, 3, 2; before the first block 21; deadline plus guard over 64 bits
-- 23; no echo free 21. An accepted clock stays moved. Believe `grant_of`, the refusals, and `accepts`, what a request that passes
-- them leaves. Assumes nothing.
use Rattle.std.specs.Prelude.{Bool, false, cond, not, ◌&&◌, List, ◌++◌, ℕ, zero, suc, ◌+◌, ◌*◌, eqb, leb, ltb, length, take, drop}
use Rattle.std.specs.Prelude.{Option, None, Some}
use Rattle.token.specs.Token.{stop}
use Rattle.rach.specs.Identity.{same}
use Rattle.rach.specs.declared.MobileIdentity.{MobileIdentity}
use Rattle.spach.specs.Refusal.{Outcome, gives, refuses, refuse, and_then}
use Rattle.arq.specs.Cut.{count_of}
use Rattle.transfer.specs.declared.TransferToken.{TransferToken}
use Rattle.transfer.specs.declared.Request.{Request}
use Rattle.transfer.specs.declared.Parcel.{Parcel}
pub use Rattle.transfer.specs.declared.Grant.{Grant}
use Rattle.transfer.specs.declared.Transfer.{Transfer}
use Rattle.transfer.specs.Constants.{echo_values, message_octets_lem}
use Rattle.transfer.specs.Lists.{any}
use Rattle.transfer.specs.State.{Limits, Clock, Echoes, View, Lent, Out, with_echoes, token_taken, admitted, goes_on, seek, cancel_at}
use Rattle.transfer.specs.Echo.{free_echo, held_until, hold}
use Rattle.transfer.specs.Transfer.{header_of, begun}
use Rattle.transfer.specs.Advance.{kept}

-- a transfer to this identity
abbrev pub addressed : MobileIdentity → Transfer → Bool
addressed i x = same x.parcel.identity i

-- a request that is not refused is given so many frames and an echo (the record of src/lib.rt); no echo free 21
abbrev pub granted : (frames : ℕ) → (free : Option ℕ) → Outcome Grant
granted frames None = refuses 21
granted frames (Some echo) = gives (record { frames = frames; echo = echo })

-- `allocate_echo`: before the first block 21; deadline plus guard over 64 bits 23; no echo free 21
abbrev pub allocated : Limits → Clock → Echoes → (deadline frames : ℕ) → Outcome Grant
allocated l c e deadline frames =
    refuse (ltb c.last_block l.startup_until_block) 21
    (refuse (ltb stop (held_until l deadline)) 23
    (granted frames (free_echo e c.last_ms)))

-- at the moved clock: the refusals in their order
unfoldable pub grant_of : View → Request → (message : List ℕ) → Outcome Grant
grant_of v r message =
    refuse (leb v.limits.capacity (length v.events)) 20
    (refuse (leb r.deadline_ms v.clock.last_ms) 23
    (refuse (eqb (length message) 0) 1
    (refuse (not (any (addressed r.identity) v.transfers) && leb v.limits.capacity (length v.transfers)) 20
    (and_then (count_of (header_of r.channel 0 false) r.identity message)
    (allocated v.limits v.clock v.echoes r.deadline_ms)))))

-- a transfer to the same identity is replaced: taken out, and Cancelled
abbrev pub replaced : View → MobileIdentity → View
replaced v i = seek (addressed i) v.transfers v (cancel_at v)

-- the lowest n, from k on, that no live transfer has (fewer than 128 are live, so there is one)
abbrev pub lowest_from : (tries k : ℕ) → List Transfer → ℕ
lowest_from zero k l = k
lowest_from (suc tries) k l = cond (any (λ x. eqb x.parcel.n k) l) (lowest_from tries (suc k) l) k

-- the lowest of all
abbrev pub lowest_n : List Transfer → ℕ
lowest_n l = lowest_from echo_values 0 l

-- what the new transfer is; its owner and its first generation are one number
abbrev pub parcel_of : Request → (message : List ℕ) → (frames n owner : ℕ) → Parcel
parcel_of r message frames n owner = record {
  identity = r.identity;
  completion = r.completion;
  deadline_ms = r.deadline_ms;
  owner = record { 0 = owner };
  channel = r.channel;
  octets = length message;
  frames = frames;
  n = n;
}

-- the lent octets with message n in its own part of 255, from its first; all others as they were
abbrev pub stored : (octets : List ℕ) → (n : ℕ) → (message : List ℕ) → List ℕ
stored octets n message = take (message_octets_lem * n) octets ++ message ++ drop (message_octets_lem * n + length message) octets

-- the echo is held until deadline plus guard, the old transfer replaced, the new one put at the back under the next token, and
-- its message into its own part of the lent store
unfoldable pub accepts : View → Lent → Request → (message : List ℕ) → Grant → Out TransferToken
accepts v m r message g =
    let w = replaced (with_echoes v (hold v.echoes g.echo (held_until v.limits r.deadline_ms))) r.identity in
    let n = lowest_n w.transfers in
    let t = v.next_token in
    record {
      outcome = gives (record { 0 = t });
      sender = kept (token_taken w) (begun (parcel_of r message g.frames n t) g.echo t);
      lent = record { octets = stored m.octets n message; words = m.words };
    }

-- 16, 18 and 22 leave the sender as it was; a later refusal leaves it at the moved clock
unfoldable pub enqueue_of : View → Lent → Request → (message : List ℕ) → (block now : ℕ) → Out TransferToken
enqueue_of v m r message block now =
    goes_on v m (admitted v m block now) (λ w.
    goes_on w m (grant_of w r message) (λ g.
    accepts w m r message g))
