-- 01, module 6: the Rust's constants, and the sizes of the lent memory. The code has them under the same names in src/constants.rt, and
-- proofs/Tied.antt ties each pair. Believe each line. Assumes nothing.
use Rattle.std.specs.Prelude.{ℕ}

-- ECHO_VALUES: echoes are 0 to 127, and a sender has at most so many transfers
abbrev pub echo_values : ℕ
echo_values = 128

-- RESTART_BLOCKS: the two intervals of TIA/EIA-136-122-B 4.2.2 together
abbrev pub restart_blocks : ℕ
restart_blocks = 64

-- REFRESH_BLOCKS
abbrev pub refresh_blocks : ℕ
refresh_blocks = 16

-- each message has so many of the lent octets
abbrev pub message_octets_lem : ℕ
message_octets_lem = 255

-- and so many of the lent words, one for each frame
abbrev pub message_words : ℕ
message_words = 27

-- the lent octets that a call asks for
abbrev pub store_octets : ℕ
store_octets = 32640

-- the lent words
abbrev pub store_words : ℕ
store_words = 3456

-- the tokens that a call asks for
abbrev pub call_tokens : ℕ
call_tokens = 512
