-- FNV-1a in 32 bits: the checksum of a list of bytes.
use Rattle.std.specs.Prelude.{List, [], ◌∷◌, ℕ, ◌*◌, ◌%◌}
use Rattle.std.specs.Int.Bits.{bit_xor}

-- a checksum with one byte more
unfoldable pub step : ℕ → ℕ → ℕ
step hash byte = bit_xor hash byte * 16777619 % 4294967296

abbrev pub steps : ℕ → List ℕ → ℕ
steps hash [] = hash
steps hash (b ∷ l) = steps (step hash b) l

abbrev pub checksum : List ℕ → ℕ
checksum l = steps 2166136261 l
