-- The constants of the code are the numbers of the definitions. Assumes nothing.
use Rattle.std.proofs.Common.{◌≡◌, refl}
use Rattle.transfer.specs.Constants as numbers
use Rattle.transfer.specs.declared.constants.TheConstants.{ECHO_VALUES, RESTART_BLOCKS, REFRESH_BLOCKS, MESSAGE_OCTETS, MESSAGE_WORDS, STORE_OCTETS, STORE_WORDS, CALL_TOKENS}

pub constants_tied :
    (ECHO_VALUES ≡ numbers.echo_values)
    × (RESTART_BLOCKS ≡ numbers.restart_blocks)
    × (REFRESH_BLOCKS ≡ numbers.refresh_blocks)
    × (MESSAGE_OCTETS ≡ numbers.message_octets_lem)
    × (MESSAGE_WORDS ≡ numbers.message_words)
    × (STORE_OCTETS ≡ numbers.store_octets)
    × (STORE_WORDS ≡ numbers.store_words)
    × (CALL_TOKENS ≡ numbers.call_tokens)
constants_tied = (refl, refl, refl, refl, refl, refl, refl, refl)
