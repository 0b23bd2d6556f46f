-- Tokens as numbers. Believe `stop`, `fewer_than` and `number_after`.
pub mod Token
