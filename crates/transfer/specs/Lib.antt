-- 01, module 6: the sender on lists. Read State first, down to `admitted`, with Constants; then Queue, Transfer and Echo, what a transfer is made
-- of; then Advance, the walk that most calls begin with; then the calls, in the order of the Rust: Enqueue, Prepare, Submitted,
-- Status, Cancel, Refresh, Queries. In each file the call's own definition, of its name and `_of`, comes last. Numbers gives 01's
-- numbers. Invariant says what every sender is that the calls make, History what holds over lists of calls: echoes are not taken
-- while they are held, and every frame is one of its own order's; Gate joins that to what a receiver hears and delivers. Believe
-- State's records, and in each file what its first lines name; the rest follows from them. Literal is the Rust step by step where the
-- definitions are shorter, with its iterators in Iterators. Apart
-- proves that the numbers tell the errors apart.
pub mod Lists
pub mod Constants
pub mod Queue
pub mod State
pub mod Echo
pub mod Transfer
pub mod Advance
pub mod Enqueue
pub mod Prepare
pub mod Submitted
pub mod Status
pub mod Cancel
pub mod Refresh
pub mod Queries
pub mod Numbers
pub mod Apart
pub mod Invariant
pub mod Iterators
pub mod Literal
pub mod History
pub mod Gate
