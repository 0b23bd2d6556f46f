-- 01, "Program `arq-show`". Line: the words and the lines; Session: the whole listing of an input (`listing_of`); Text: where
-- a lent text has it. Believe Line's words and `line_of`, and `listing_from`, with `open_of` and `pushes_of`, how the input is
-- divided.
pub mod Text
pub mod Line
pub mod Session
