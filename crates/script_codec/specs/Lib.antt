-- The table of the operations on frames and on the message, as oracle/README.md has it.
pub mod Table
