-- The table of the operations on a receiver, as oracle/README.md has it.
pub mod Table
