-- 01, module 2. Refusal: 01's numbers, and how refusals stand in order (`refuse`, `and_then`); read it first, every later
-- definition speaks so. Identity: which identities are accepted. Header: the tables of header A, header B and address, and what
-- reading them refuses. Believe `number_of` and the three tables. Apart proves that the numbers tell the errors apart.
pub mod Refusal
pub mod Identity
pub mod Header
pub mod Apart
