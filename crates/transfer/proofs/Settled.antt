-- What `settle` says of a transfer in three of its cases. Assumes nothing.
use Rattle.std.proofs.Common.{◌≡◌, ℕ, Bool, true, false, not, sym, ◌∙◌}
use borrow.Author.Tests.{not-true, not-false}
use Rattle.transfer.specs.declared.Transfer.{Transfer}
use Rattle.transfer.specs.Transfer.{idle, done_of, waits, settle_of}

module _ (block : ℕ) (x : Transfer) where
  -- i: what the code found of idle, d: of done
  pub settle_busy : {i : Bool} → i ≡ idle x → not i ≡ true → x ≡ settle_of block x
  unfolding settle_of
  settle_busy {i} e h = rw (sym e ∙ not-true i h)

  pub settle-done : {i d : Bool} → i ≡ idle x → not i ≡ false → d ≡ done_of x → d ≡ true → x ≡ settle_of block x
  unfolding settle_of
  settle-done {i} {d} e h f g = rw (sym e ∙ not-false i h, sym f ∙ g)

  pub settle_waits : {i d : Bool} → i ≡ idle x → not i ≡ false → d ≡ done_of x → d ≡ false → x.sets.received_status ≡ false → waits block x ≡ settle_of block x
  unfolding settle_of
  settle_waits {i} {d} e h f g t = rw (sym e ∙ not-false i h, sym f ∙ g, t)
