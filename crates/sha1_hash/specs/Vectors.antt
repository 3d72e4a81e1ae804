-- A message that the definition is computed at: the example of one block that NIST publishes for SHA-1.
use Rattle.std.specs.Prelude.{◌≡◌, refl, [], ◌∷◌}
use Rattle.bits.specs.Word32.{add32, xor_n, and_n, not_n, rotl32}
use Rattle.sha1_hash.specs.BigEndian.{big_at, big_bytes}
use Rattle.sha1_hash.specs.Functions.{ch, parity, maj, f_in, k_in, f_of, k_of}
use Rattle.sha1_hash.specs.Sha1.{zeros, padding, padded, block_at, words, initial, next_word, extended, schedule, turned, round_of}
use Rattle.sha1_hash.specs.Sha1.{rounds, summed, hashed, hashes, digest_bytes, digest}

-- "abc"
pub abc : digest (0x61 ∷ 0x62 ∷ 0x63 ∷ [])
    ≡ 0xa9 ∷ 0x99 ∷ 0x3e ∷ 0x36 ∷ 0x47 ∷ 0x06 ∷ 0x81 ∷ 0x6a ∷ 0xba ∷ 0x3e ∷ 0x25 ∷ 0x71 ∷ 0x78 ∷ 0x50 ∷ 0xc2
    ∷ 0x6c ∷ 0x9c ∷ 0xd0 ∷ 0xd8 ∷ 0x9d ∷ []
unfolding add32 xor_n and_n not_n rotl32 big_at big_bytes ch parity maj f_in k_in f_of k_of zeros padding padded block_at words initial
    next_word
    extended schedule turned round_of rounds summed hashed hashes digest_bytes digest
abc = refl
