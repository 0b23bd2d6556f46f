-- The table of a sender's operations, as oracle/SENDER.md has it.
pub mod Table
