-- The table of the operations on the store, as oracle/README.md has it.
pub mod Table
