-- The table of the operations that need nothing kept, as oracle/README.md has it.
pub mod Table
