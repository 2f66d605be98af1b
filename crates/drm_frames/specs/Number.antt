-- Numbers as bytes, the lowest byte first (own).
use Rattle.std.specs.Prelude.{ℕ, ◌<◌, List, get_or}
use Rattle.byteorder.specs.Endian.{little_bytes, little_number}

-- the bytes of a number
unfoldable pub u16 : ℕ → List ℕ
u16 n = little_bytes 2 n

-- a number of 32 bits as bytes
unfoldable pub u32 : ℕ → List ℕ
u32 n = little_bytes 4 n

-- a number of 64 bits as bytes
unfoldable pub u64 : ℕ → List ℕ
u64 n = little_bytes 8 n

-- the number in the first bytes
unfoldable pub u16_in : List ℕ → ℕ
u16_in bytes = little_number 2 bytes

-- the number of 32 bits in the first four bytes
unfoldable pub u32_in : List ℕ → ℕ
u32_in bytes = little_number 4 bytes

-- the number of 64 bits in the first eight bytes
unfoldable pub u64_in : List ℕ → ℕ
u64_in bytes = little_number 8 bytes

-- each of them is below 256
abbrev pub AreBytes : List ℕ → Type 0
AreBytes bytes = (i : ℕ) → get_or bytes i 0 < 256
