-- 01, module 4, and demand 3. Map: a number as a set. Receiver: the state, and each call, the accepted frames first, then
-- `push`, then the others; believe `push_frame` and `continued`. Valid: what every receiver is. Demand3: the request's third
-- demand, in its own words beside what renders them; it is the claim that proofs/Whole.antt proves of Receiver's definitions.
pub mod Map
pub mod Receiver
pub mod Valid
pub mod Demand3
