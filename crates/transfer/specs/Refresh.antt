-- 01, module 6: `refresh_waiting`, refresh at 16 blocks: 16, 18, 22. After `advance` waiting transfers are queued again, and then
-- the oldest that is ready goes to the front. Believe `refreshed` and `oldest`. Assumes nothing.
use Rattle.std.specs.Prelude.{cond, ◌&&◌, List, [], ◌∷◌, map, ℕ, suc, ◌-◌, leb, ltb, length, get_or}
use Rattle.std.specs.Prelude.{Option, None, Some}
use Rattle.spach.specs.Refusal.{After, onward}
use Rattle.transfer.specs.declared.Transfer.{Transfer}
use Rattle.transfer.specs.declared.PreparedFrame.{PreparedFrame}
use Rattle.transfer.specs.Constants.{refresh_blocks}
use Rattle.transfer.specs.Lists.{remove_at}
use Rattle.transfer.specs.State.{View, Lent, with_transfers, admitted, says, blank_transfer}
use Rattle.transfer.specs.Transfer.{passed, idle, last_queued}
use Rattle.transfer.specs.Advance.{walked}
use Rattle.transfer.specs.Prepare.{is_ready}

-- ---- first half

-- 16 blocks since its last frame was submitted, with none queued or in flight: the last frame is queued again
abbrev pub refreshed : (block : ℕ) → Transfer → Transfer
refreshed block x = cond (idle x && passed refresh_blocks block x.blocks.last_frame) (last_queued x) x

-- each that waits so
unfoldable pub queue_waiting : View → View
queue_waiting v = with_transfers v (map (refreshed v.clock.last_block) v.transfers)

-- ---- second half

-- blocks since; 0 where there was none
abbrev pub blocks_since : (block : ℕ) → Option ℕ → ℕ
blocks_since block None = 0
blocks_since block (Some b) = block - b

-- a ready transfer's age: blocks since its last frame was submitted; 0 if it is not ready
abbrev pub age_of : (block : ℕ) → Transfer → ℕ
age_of block x = cond (is_ready x) (blocks_since block x.blocks.last_frame) 0

-- the place of the greatest age of at least `top`, from place i on, of equal ones the last; or `best` if there is none
abbrev pub oldest_from : (best top i : ℕ) → (ages : List ℕ) → ℕ
oldest_from best top i [] = best
oldest_from best top i (age ∷ ages) = cond (leb top age) (oldest_from i age (suc i) ages) (oldest_from best top (suc i) ages)

-- of at least 16 blocks; the list's length if there is none
unfoldable pub oldest : (block : ℕ) → List Transfer → ℕ
oldest block l = oldest_from (length l) refresh_blocks 0 (map (age_of block) l)

-- the transfer at a place, if there is one, goes to the front
abbrev pub to_front : (place : ℕ) → List Transfer → List Transfer
to_front place l = cond (ltb place (length l)) (get_or l place blank_transfer ∷ remove_at place l) l

-- while a frame is selected the order stays
abbrev pub oldest_first : View → (selected : Option PreparedFrame) → View
oldest_first v None = with_transfers v (to_front (oldest v.clock.last_block v.transfers) v.transfers)
oldest_first v (Some f) = v

-- if no frame is selected, the oldest ready transfer goes to the front
unfoldable pub serve_oldest : View → View
serve_oldest v = oldest_first v v.selected

-- ---- the call

-- 16, 18, 22; both halves after `advance`
unfoldable pub refresh_waiting_of : View → Lent → (block now : ℕ) → After Unit View
refresh_waiting_of v m block now = onward v (admitted v m block now) (λ w. says tt (serve_oldest (queue_waiting (walked w))))
