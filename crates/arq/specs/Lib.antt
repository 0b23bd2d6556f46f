-- 01, module 3, in its order. Frame: the tables of Begin and Continue, beside the standard; Encode, Cut and Decode: the
-- refusals of each in 01's order, and what is given. Believe `begin`, `continue` and `cut_frame`. Round has the words of the
-- theorems (proofs/Theorems.antt): what is cut or encoded decodes to itself, and back; they check the tables against each other. (The
-- laws beside them say refusals, bits and frames once more, flat: proofs/Tables.antt.) Parts is what only contracts need.
pub mod Frame
pub mod Encode
pub mod Cut
pub mod Decode
pub mod Round
pub mod Parts
