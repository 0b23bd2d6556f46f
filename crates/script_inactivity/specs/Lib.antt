-- The table of the operations on a timer, as oracle/README.md has it, and what a contract sees of a script's timer.
pub mod Table
pub mod Held
