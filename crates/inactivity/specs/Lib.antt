-- 01, module 5. Believe `inactivity_blocks`, `due`, `sent_from`, `unsolicited_by`, `solicited_by`, and the order of refusals in `admitted` and
-- `reported`. Apart proves that the numbers tell the errors apart; Result is what only contracts need.
pub mod Inactivity
pub mod Apart
pub mod Result
