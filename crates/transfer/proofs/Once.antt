-- Under one token one message is accepted, over any list of calls: the message that `Faithful` speaks of is the only one. Assumes nothing.
use Rattle.std.proofs.Common.{◌≡◌, ℕ, suc, ◌≤◌, List, [], ◌∷◌, ◌++◌, Some, sym, refl, ap, ◌∙◌, subst, arith}
use Rattle.token.specs.Token.{stop}
use Rattle.transfer.specs.State.{View, Lent, token_taken}
use Rattle.transfer.specs.Invariant.{Sound}
use Rattle.transfer.specs.History.{Call, Acceptance, Done, does, run_alone, AcceptedOnce}
use Rattle.transfer.proofs.Lives.{does-kept, fresh_kept}
use Rattle.transfer.proofs.Moves.{Move, drops, picks, shifts, restarts, ends, Moves, stays, goes, Last, silent, tells_one, accepts_one, takes_one, within, last_accepted, does_leaves}

-- ---- the counter never falls

module _ (n : ℕ) where
  -- this number is below what comes next, which is one of 64 bits
  abbrev pub Past : View → Type 0
  Past v = (n ≤ v.next_token) × (v.next_token ≤ stop)

  -- the next is taken
  taken_past : (v : View) → Past v → Past (token_taken v)
  taken_past v h = let a = h.0 in let b = h.1 in (omega arith, omega arith)

  -- a move
  move_past : {octets : List ℕ} {first : ℕ} {v w : View} → Move octets first v w → Past v → Past w
  move_past (drops s e) h = h
  move_past {v = v} (picks a b x p e r room q) h = taken_past v h
  move_past (shifts a b c d x y e q s) h = h
  move_past {v = v} (restarts a b x echo e old due room q) h = taken_past v h
  move_past (ends a b x how e old) h = h

  -- moves
  pub moves_past : {octets : List ℕ} {first : ℕ} {v w : View} → Moves octets first v w → Past v → Past w
  moves_past stays h = h
  moves_past (goes m k) h = moves_past k (move_past m h)

  -- what comes last
  last_past : {octets : List ℕ} {v : View} {c : Call} {d : Done} → Last octets v c d → Past v → Past d.sender
  last_past silent h = h
  last_past (tells_one f e p) h = h
  last_past {v = v} (accepts_one r message g k long w) h = taken_past v h
  last_past (takes_one e l q) h = h

  -- each call
  pub does_past : (v : View) (m : Lent) (c : Call) → Sound v → Past v → Past (does v m c).sender
  does_past v m c s h = let l = does_leaves v m c s in last_past l.last (moves_past l.quietly.made h)

  -- over a list of calls
  run_past : (v : View) (m : Lent) (calls : List Call) → Sound v → Past v → Sound (run_alone v m calls).0 × Past (run_alone v m calls).0
  unfolding run_alone
  run_past v m [] s h = (s, h)
  run_past v m (c ∷ calls) s h = let d = does v m c in run_past d.sender d.lent calls (does-kept v m c s) (does_past v m c s h)

-- ---- an acceptance

-- its token is not below what was next, and what comes next is above it
call_token : (v : View) (m : Lent) (c : Call) (o : Acceptance) → Sound v → (does v m c).accepted ≡ Some o → (v.next_token ≤ o.token.0) × Past (suc o.token.0) (does v m c).sender
call_token v m c o s q =
    let l = does_leaves v m c s in
    let t = last_accepted o l.last q in
    let p = (moves_past v.next_token l.quietly.made (omega arith, s.counter)).0 in
    let a = t.3 in
    let b = t.4 in
    let r = t.5 in
    (omega arith, (omega arith, omega arith))

-- ---- two acceptances

-- after these calls this one accepts so
abbrev At : View → Lent → List Call → Call → Acceptance → Type 0
At v m calls c o = let at = run_alone v m calls in (does at.0 at.1 c).accepted ≡ Some o

-- what is accepted later is under another token
later_token : (o p : Acceptance) → o.token.0 ≡ p.token.0 → (v : View) (m : Lent) (c d : Call) (calls : List Call) → Sound v → (does v m c).accepted ≡ Some o → At (does v m c).sender (does v m c).lent calls d p → ⊥
later_token o p same v m c d calls s a b =
    let n = does v m c in
    let at = run_alone n.sender n.lent calls in
    let h = run_past (suc o.token.0) n.sender n.lent calls (does-kept v m c s) (call_token v m c o s a).1 in
    let i = h.1.0 in
    let j = (call_token at.0 at.1 d p h.0 b).0 in
    omega arith

module _ (o p : Acceptance) (same : o.token.0 ≡ p.token.0) where
  -- two places of a list under one token are one
  one_place : (v : View) (m : Lent) (c d : Call) (e f g h : List Call) → e ++ c ∷ g ≡ f ++ d ∷ h → Sound v → At v m e c o → At v m f d p → (e ≡ f) × (c ≡ d)
  unfolding run_alone
  one_place v m c d [] [] g h q s a b = (refl, cc)
  one_place v m c d [] (k ∷ f) g h q s a b = let x : c ≡ k = cc in absurd (later_token o p same v m k d f s (subst (λ c. (does v m c).accepted ≡ Some o) x a) b)
  one_place v m c d (k ∷ e) [] g h q s a b = let x : d ≡ k = cc in absurd (later_token p o (sym same) v m k c e s (subst (λ d. (does v m d).accepted ≡ Some p) x b) a)
  one_place v m c d (k ∷ e) (l ∷ f) g h q s a b =
      let x : k ≡ l = cc in
      let y : e ++ c ∷ g ≡ f ++ d ∷ h = cc in
      let n = does v m k in
      let i = one_place n.sender n.lent c d e f g h y (does-kept v m k s) a (subst (λ l. At (does v m l).sender (does v m l).lent f d p) (sym x) b) in
      let w = i.0 in
      (cc, i.1)

-- under one token one request and one message are accepted, at one place
pub accepted_once : AcceptedOnce
accepted_once v m calls r s a b t f p q =
    let o : Acceptance = record { token = t; request = r; message = a } in
    let e = one_place o (record { token = t; request = s; message = b }) refl v m p.call q.call p.earlier q.earlier p.later q.later (sym p.split ∙ q.split) (fresh_kept v f) p.accepted q.accepted in
    let k : At v m q.earlier q.call o = subst (λ l. At v m l q.call o) e.0 (subst (λ c. At v m p.earlier c o) e.1 p.accepted) in
    (ap (within (λ o. o.request) r) (sym k ∙ q.accepted), ap (within (λ o. o.message) a) (sym k ∙ q.accepted), e.0)
