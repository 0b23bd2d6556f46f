-- 01, module 1. Believe the numbers of `type_of`, the table `widths`, and `in_range`.
pub mod Identity
