-- The protocol's table of operations, as oracle/README.md has it, of the tables of its parts.
pub mod Table
