-- 01, module 5. Procedure: each call in the order of the Rust, over the receiver's and the timer's definitions; believe
-- `receive_of`, `due_at` and `sent_at`. History: what holds over any list of calls. Parts is what only contracts need.
pub mod Procedure
pub mod History
pub mod Parts
