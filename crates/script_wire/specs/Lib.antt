-- The tables of a comparison's operations. Beside them bounds are promised, and octets that stay; what the answers say
-- is compared by running.
pub mod Table
