-- Bytes, and little-endian numbers: "all little-endian, all fields 2 bytes except in kind 1".
-- Assumes nothing.
use Rattle.std.specs.Prelude.{ℕ, ◌+◌, ◌*◌, ◌/◌, ◌%◌, ◌<◌, List, [], ◌∷◌, ◌++◌, length, get_or}

-- every element is a byte: what the type of a slice says in code, and what a theorem over any list has to ask
pub record Bytes (s : List ℕ) : Type 0 where
  pub at : (i : ℕ) → get_or s i 0 < 256

-- the number of two bytes at a place
abbrev pub number_at : List ℕ → ℕ → ℕ
number_at s at = get_or s at 0 + 256 * get_or s (at + 1) 0

-- the number of three bytes at a place
abbrev pub data_at : List ℕ → ℕ → ℕ
data_at s at = get_or s at 0 + 256 * get_or s (at + 1) 0 + 65536 * get_or s (at + 2) 0

-- numbers as two bytes each
abbrev pub two_bytes : List ℕ → List ℕ
two_bytes [] = []
two_bytes (w ∷ ws) = w % 256 ∷ w / 256 ∷ two_bytes ws

-- a number as three bytes
abbrev pub three_bytes : ℕ → List ℕ
three_bytes v = v % 256 ∷ v / 256 % 256 ∷ v / 65536 % 256 ∷ []

-- "Each record: body length (2 bytes), kind (2 bytes), body"
abbrev pub record_of : ℕ → List ℕ → List ℕ
record_of kind body = two_bytes (length body ∷ kind ∷ []) ++ body
