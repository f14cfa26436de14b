-- The number and the hash of bytes, modulo 2^64.
use Rattle.std.specs.Prelude.{ℕ, ◌+◌, ◌*◌, ◌%◌, ◌^◌, List, length, fold}

pub record Tally : Type 0 where
  pub total : ℕ
  pub hash : ℕ

-- the hash after one more byte
abbrev pub hash_after : ℕ → ℕ → ℕ
hash_after hash byte = (31 * hash + byte) % 2 ^ 64

-- the hash of a list begins with 0
abbrev pub hash_of : List ℕ → ℕ
hash_of bytes = fold hash_after 0 bytes

-- the number and the hash of a list
abbrev pub tally_of : List ℕ → Tally
tally_of bytes = record { total = length bytes % 2 ^ 64; hash = hash_of bytes }

-- the number and the hash after more bytes
abbrev pub tally_after : Tally → List ℕ → Tally
tally_after tally bytes =
    record {
      total = (tally.total + length bytes) % 2 ^ 64;
      hash =
          fold hash_after tally.hash bytes;
    }
