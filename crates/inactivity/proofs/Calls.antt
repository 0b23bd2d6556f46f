-- What a call of the timer that may be refused lets through. Assumes nothing.
use Rattle.std.proofs.Common.{◌≡◌, ℕ, ◌≤◌, false, ltb, sym, subst, ltb-false}
use Rattle.token.specs.Token.{fewer_than}
use Rattle.spach.specs.Refusal.{gives}
use Rattle.spach.proofs.Outcomes.{passed, then-gives}
use Rattle.inactivity.specs.Inactivity.{Timer, clocked, enough, ticked, admitted}

-- what was let through
pub ticked_gives : (s : Timer) (b : ℕ) {t : Timer} → ticked s b ≡ gives t → (t ≡ clocked s b) × (s.last_block ≤ b)
ticked_gives s b {t} e =
    let p = passed (ltb b s.last_block) 17 (gives (clocked s b)) e in
    let w : gives (clocked s b) ≡ gives t = p.1 in
    let z : clocked s b ≡ t = cc in
    (sym z, ltb-false b s.last_block p.0)

pub enough_gives : (s : Timer) {t : Timer} → enough s ≡ gives t → (fewer_than 4 s.next_token ≡ false) × (t ≡ s)
enough_gives s {t} e =
    let p = passed (fewer_than 4 s.next_token) 18 (gives s) e in
    let w : gives s ≡ gives t = p.1 in
    let z : s ≡ t = cc in
    (p.0, sym z)

pub admitted_gives : (s : Timer) (b : ℕ) {t : Timer} → admitted s b ≡ gives t → (fewer_than 4 s.next_token ≡ false) × (t ≡ clocked s b) × (s.last_block ≤ b)
admitted_gives s b {t} e =
    let a = then-gives (enough s) (λ u. ticked u b) e in
    let n = enough_gives s a.1 in
    let q = ticked_gives s b (subst (λ u. ticked u b ≡ gives t) n.1 a.2) in
    (n.0, q.0, q.1)
