-- Each call of the timer on every state: its answer, and all five fields afterwards, said by the fields themselves. A definition that is
-- changed, and its code alike, meets these no more. Assumes nothing.
use Rattle.std.proofs.Common.{◌≡◌, ℕ, ◌+◌, ◌-◌, ◌<◌, ◌≤◌, Bool, true, false, cond, not, ◌&&◌, leb, ◌↔◌, refl, ap, ◌∙◌, arith, le-ltb, lt-ltb, eq-eqb, ne_eqb, eqb-true, le-leb}
use borrow.Author.Tests.{lt-leb}
use Rattle.token.specs.Token.{number_after, fewer_than}
use Rattle.spach.specs.Refusal.{gives, refuses, After, onward}
use Rattle.inactivity.specs.declared.TransactionToken.{TransactionToken}
use Rattle.inactivity.specs.declared.InactivityAction.{InactivityAction}
use Rattle.inactivity.specs.declared.InactivityAction.TheVariants.{None, RequestUnsolicitedStatus, Terminate}
use Rattle.inactivity.specs.declared.StatusResult.{StatusResult}
use Rattle.inactivity.specs.declared.StatusResult.TheVariants.{Sent, Failed}
use Rattle.inactivity.specs.declared.State.{State}
use Rattle.inactivity.specs.declared.State.TheVariants.{Idle, Waiting, SendingUnsolicited, FinalWait}
use Rattle.inactivity.specs.Inactivity.{Timer, new_of, token_of, owns_of, clocked, in_state, renewed, admitted, acts, is_idle, due, solicited_at, solicited_by, unsolicited_at, unsolicited_by, sent_from, reported, reset_of, observe_of, received_frame_of, advance_of, unsolicited_of, solicited_of}

-- the timer at block b, in another state, with an unsolicited status pending or not, under the same token
abbrev pub goes_to : Timer → State → ℕ → Bool → Timer
goes_to s k b pending = record { state = k; last_block = b; unsolicited_pending = pending; transaction = s.transaction; next_token = s.next_token }

-- the timer at block b, idle, under the next token
abbrev pub starts_anew : Timer → ℕ → Timer
starts_anew s b = record { state = Idle; last_block = b; unsolicited_pending = false; transaction = record { 0 = s.next_token }; next_token = number_after s.next_token }

-- an answer, and the timer beside it
abbrev pub answers : {A : Type 0} → A → Timer → After A Timer
answers a s = record { outcome = gives a; state = s }

-- a refusal, which leaves the timer
abbrev pub refused_by : {A : Type 0} → ℕ → Timer → After A Timer
refused_by n s = record { outcome = refuses n; state = s }

-- 18 and 17 let a call at block b through
pub record Admits (s : Timer) (b : ℕ) : Type 0 where
  pub tokens : fewer_than 4 s.next_token ≡ false
  pub later : s.last_block ≤ b

-- the constructor, for every first number: idle at block 0, nothing pending, under that token
pub new_exactly : (first : ℕ) → new_of first ≡ record { state = Idle; last_block = 0; unsolicited_pending = false; transaction = record { 0 = first }; next_token = number_after first }
new_exactly first = refl

module _ (s : Timer) where
  -- ---- token, owns, reset, observe, received_frame

  -- the present token is told, not the one that comes next
  pub tells_token : (token_of s).0 ≡ s.transaction.0
  tells_token = refl

  -- the present token alone is owned
  pub owns_exactly : (t : TransactionToken) → (owns_of s t ≡ true) ↔ (t.0 ≡ s.transaction.0)
  owns_exactly t = (eqb-true t.0 s.transaction.0, eq-eqb t.0 s.transaction.0)

  pub resets : fewer_than 4 s.next_token ≡ false → reset_of s ≡ answers tt (starts_anew s s.last_block)
  unfolding reset_of
  resets e = rw e

  pub resets_18 : fewer_than 4 s.next_token ≡ true → reset_of s ≡ refused_by 18 s
  unfolding reset_of
  resets_18 e = rw e

  module _ (b : ℕ) where
    pub observes : s.last_block ≤ b → observe_of s b ≡ answers tt (goes_to s s.state b s.unsolicited_pending)
    unfolding observe_of
    observes l = rw (le-ltb b s.last_block l)

    pub observes_17 : b < s.last_block → observe_of s b ≡ refused_by 17 s
    unfolding observe_of
    observes_17 l = rw (lt-ltb b s.last_block l)

    -- a frame begins a new wait at its block, whatever the state
    pub waits : s.last_block ≤ b → received_frame_of s b ≡ answers tt (goes_to s (Waiting b) b s.unsolicited_pending)
    unfolding received_frame_of
    waits l = rw (le-ltb b s.last_block l)

    pub waits_17 : b < s.last_block → received_frame_of s b ≡ refused_by 17 s
    unfolding received_frame_of
    waits_17 l = rw (lt-ltb b s.last_block l)

    -- ---- 18, then 17

    admitted_on : {A : Type 0} (f : Timer → After A Timer) → Admits s b → onward s (admitted s b) f ≡ f (clocked s b)
    admitted_on f a = rw (a.tokens, le-ltb b s.last_block a.later)

    on_18 : {A : Type 0} (f : Timer → After A Timer) → fewer_than 4 s.next_token ≡ true → onward s (admitted s b) f ≡ refused_by 18 s
    on_18 f e = rw e

    on_17 : {A : Type 0} (f : Timer → After A Timer) → fewer_than 4 s.next_token ≡ false → b < s.last_block → onward s (admitted s b) f ≡ refused_by 17 s
    on_17 f e l = rw (e, lt-ltb b s.last_block l)

    -- ---- advance

    pub advances_18 : fewer_than 4 s.next_token ≡ true → advance_of s b ≡ refused_by 18 s
    unfolding advance_of
    advances_18 e = on_18 _ e

    pub advances_17 : fewer_than 4 s.next_token ≡ false → b < s.last_block → advance_of s b ≡ refused_by 17 s
    unfolding advance_of
    advances_17 e l = on_17 _ e l

    module _ (a : Admits s b) where
      -- by the state
      advances : {k : State} → s.state ≡ k → advance_of s b ≡ acts (due k (clocked s b))
      unfolding advance_of
      advances e = admitted_on _ a ∙ ap (λ (k : State). acts (due k (clocked s b))) e

      stays : {k : State} → s.state ≡ k → acts (clocked s b, None) ≡ answers None (goes_to s k b s.unsolicited_pending)
      stays e = ap (λ (k : State). answers None (goes_to s k b s.unsolicited_pending)) e

      pub idle-says_none : s.state ≡ Idle → advance_of s b ≡ answers None (goes_to s Idle b s.unsolicited_pending)
      idle-says_none e = advances e ∙ stays e

      pub sending_says_none : s.state ≡ SendingUnsolicited → advance_of s b ≡ answers None (goes_to s SendingUnsolicited b s.unsolicited_pending)
      sending_says_none e = advances e ∙ stays e

      module _ (since : ℕ) where
        abbrev asks : Bool → Bool → After InactivityAction Timer
        asks pending long = acts (cond (not pending && long) (in_state (clocked s b) SendingUnsolicited true, RequestUnsolicitedStatus) (clocked s b, None))

        asks_not : (long : Bool) → asks true long ≡ acts (clocked s b, None)
        asks_not long = refl

        asks_early : (pending : Bool) → asks pending false ≡ acts (clocked s b, None)
        asks_early true = refl
        asks_early false = refl

        -- 32 blocks: an unsolicited status, if none is pending
        pub waiting_asks : s.state ≡ Waiting since → s.unsolicited_pending ≡ false → since + 32 ≤ b → advance_of s b ≡ answers RequestUnsolicitedStatus (goes_to s SendingUnsolicited b true)
        waiting_asks e p l = advances e ∙ ap (λ (x : Bool). asks x (leb 32 (b - since))) p ∙ ap (asks false) (le-leb 32 (b - since) (omega arith))

        pub waiting_early : s.state ≡ Waiting since → b < since + 32 → advance_of s b ≡ answers None (goes_to s (Waiting since) b s.unsolicited_pending)
        waiting_early e l = advances e ∙ ap (asks s.unsolicited_pending) (lt-leb 32 (b - since) (omega arith)) ∙ asks_early s.unsolicited_pending ∙ stays e

        pub waiting_pending : s.state ≡ Waiting since → s.unsolicited_pending ≡ true → advance_of s b ≡ answers None (goes_to s (Waiting since) b s.unsolicited_pending)
        waiting_pending e p = advances e ∙ ap (λ (x : Bool). asks x (leb 32 (b - since))) p ∙ asks_not (leb 32 (b - since)) ∙ stays e

        abbrev ends : Bool → After InactivityAction Timer
        ends long = acts (cond long (renewed (clocked s b), Terminate) (clocked s b, None))

        -- 32 more: the end
        pub final_ends : s.state ≡ FinalWait since → since + 32 ≤ b → advance_of s b ≡ answers Terminate (starts_anew s b)
        final_ends e l = advances e ∙ ap ends (le-leb 32 (b - since) (omega arith))

        pub final_early : s.state ≡ FinalWait since → b < since + 32 → advance_of s b ≡ answers None (goes_to s (FinalWait since) b s.unsolicited_pending)
        final_early e l = advances e ∙ ap ends (lt-leb 32 (b - since) (omega arith)) ∙ stays e

    -- ---- the result of a status, with its token

    module _ (t : TransactionToken) (r : StatusResult) where
      -- a foreign token: None before all, and nothing changes
      pub foreign_unsolicited : (t.0 ≡ s.transaction.0 → ⊥) → unsolicited_of s t b r ≡ answers None s
      unfolding unsolicited_of
      foreign_unsolicited n = rw (ne_eqb t.0 s.transaction.0 n)

      pub foreign_solicited : (t.0 ≡ s.transaction.0 → ⊥) → solicited_of s t b r ≡ answers None s
      unfolding solicited_of
      foreign_solicited n = rw (ne_eqb t.0 s.transaction.0 n)

      module _ (own : t.0 ≡ s.transaction.0) where
        taken : (f : Timer → Timer × InactivityAction) → reported s t b f ≡ onward s (admitted s b) (λ u. acts (f u))
        taken f = rw (eq-eqb t.0 s.transaction.0 own)

        pub unsolicited_18 : fewer_than 4 s.next_token ≡ true → unsolicited_of s t b r ≡ refused_by 18 s
        unfolding unsolicited_of
        unsolicited_18 e = taken _ ∙ on_18 _ e

        pub unsolicited_17 : fewer_than 4 s.next_token ≡ false → b < s.last_block → unsolicited_of s t b r ≡ refused_by 17 s
        unfolding unsolicited_of
        unsolicited_17 e l = taken _ ∙ on_17 _ e l

        pub solicited_18 : fewer_than 4 s.next_token ≡ true → solicited_of s t b r ≡ refused_by 18 s
        unfolding solicited_of
        solicited_18 e = taken _ ∙ on_18 _ e

        pub solicited_17 : fewer_than 4 s.next_token ≡ false → b < s.last_block → solicited_of s t b r ≡ refused_by 17 s
        unfolding solicited_of
        solicited_17 e l = taken _ ∙ on_17 _ e l

        module _ (a : Admits s b) where
          unsolicited_on : unsolicited_of s t b r ≡ acts (unsolicited_at r (clocked s b))
          unfolding unsolicited_of
          unsolicited_on = taken _ ∙ admitted_on _ a

          solicited_on : solicited_of s t b r ≡ acts (solicited_at r (clocked s b))
          unfolding solicited_of
          solicited_on = taken _ ∙ admitted_on _ a

          abbrev heeds : Bool → After InactivityAction Timer
          heeds pending = acts (cond pending (unsolicited_by r (clocked s b)) (clocked s b, None))

          -- an unsolicited one where none is pending: the clock alone
          pub none_pending : s.unsolicited_pending ≡ false → unsolicited_of s t b r ≡ answers None (goes_to s s.state b s.unsolicited_pending)
          none_pending e = unsolicited_on ∙ ap heeds e

          pub unsolicited_failed : s.unsolicited_pending ≡ true → r ≡ Failed → unsolicited_of s t b r ≡ answers Terminate (starts_anew s b)
          unsolicited_failed e f = unsolicited_on ∙ ap heeds e ∙ ap (λ (x : StatusResult). acts (unsolicited_by x (clocked s b))) f

          -- sent while it waits: it waits from this block on
          pub sent-waiting : (since : ℕ) → s.unsolicited_pending ≡ true → r ≡ Sent → s.state ≡ Waiting since → unsolicited_of s t b r ≡ answers None (goes_to s (Waiting b) b false)
          sent-waiting since e f k =
              unsolicited_on ∙ ap heeds e ∙ ap (λ (x : StatusResult). acts (unsolicited_by x (clocked s b))) f
              ∙ ap (λ (x : State). answers None (goes_to s (sent_from x b) b false)) k

          -- sent while nothing came in between: the final wait
          pub sent_final : s.unsolicited_pending ≡ true → r ≡ Sent → s.state ≡ SendingUnsolicited → unsolicited_of s t b r ≡ answers None (goes_to s (FinalWait b) b false)
          sent_final e f k =
              unsolicited_on ∙ ap heeds e ∙ ap (λ (x : StatusResult). acts (unsolicited_by x (clocked s b))) f
              ∙ ap (λ (x : State). answers None (goes_to s (sent_from x b) b false)) k

          abbrev hears : Bool → After InactivityAction Timer
          hears idle = acts (cond idle (clocked s b, None) (solicited_by r (clocked s b)))

          -- a solicited one where no transaction is watched: the clock alone
          pub idle_hears_not : s.state ≡ Idle → solicited_of s t b r ≡ answers None (goes_to s s.state b s.unsolicited_pending)
          idle_hears_not k = solicited_on ∙ ap (λ (x : State). hears (is_idle x)) k

          watched : (k : State) → (k ≡ Idle → ⊥) → is_idle k ≡ false
          watched Idle n = absurd (n refl)
          watched (Waiting since) n = refl
          watched SendingUnsolicited n = refl
          watched (FinalWait since) n = refl

          -- else it waits from this block on, whatever the state, or ends
          pub solicited_sent : (s.state ≡ Idle → ⊥) → r ≡ Sent → solicited_of s t b r ≡ answers None (goes_to s (Waiting b) b s.unsolicited_pending)
          solicited_sent n f = solicited_on ∙ ap hears (watched s.state n) ∙ ap (λ (x : StatusResult). acts (solicited_by x (clocked s b))) f

          pub solicited_failed : (s.state ≡ Idle → ⊥) → r ≡ Failed → solicited_of s t b r ≡ answers Terminate (starts_anew s b)
          solicited_failed n f = solicited_on ∙ ap hears (watched s.state n) ∙ ap (λ (x : StatusResult). acts (solicited_by x (clocked s b))) f
