-- The table of the operations on a procedure, as oracle/README.md has it, and what a contract sees of a script's procedure.
pub mod Table
pub mod Held
