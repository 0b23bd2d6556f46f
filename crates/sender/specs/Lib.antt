-- What the contracts of `Sender` say, in the terms of crates/transfer/specs, which speak of a sender as a `View`. Believe View: which field of the
-- code stands for which, and what the calls are lent and leave there; and List: of a list its elements are seen. Asked serves the code alone.
pub mod List
pub mod View
pub mod Asked
