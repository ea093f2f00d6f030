-- Nobody has to believe this file: it says how the code counts flips, and proofs/Making.antt shows that Word's levels come out.
-- Each toggle has a key: it is passed where its key is below a count of pixels. The key of an unused toggle is 65536, which no count passes.
-- Assumes nothing.
use Rattle.std.specs.Prelude.{ℕ, ◌+◌, ◌*◌, ◌/◌, List, [], Bool, cond, get_or, ltb, eqb}
use Rattle.level.specs.Next.{any_of}
use Rattle.level.specs.Word.{bit, flipped}

-- one of 18 keys
abbrev pub among : List ℕ → ℕ → Bool
among keys x = any_of 18 (λ k. eqb x (get_or keys k 0))

-- multiplier and second pattern: 4095 is unused
abbrev pub key_of : ℕ → ℕ
key_of x = cond (eqb x 4095) 65536 x

-- how many of an output's three toggles are passed
abbrev pub passed : ℕ → List ℕ → ℕ
passed n keys = bit (ltb (get_or keys 0 0) n) + bit (ltb (get_or keys 1 0) n) + bit (ltb (get_or keys 2 0) n)

-- the six levels as bits
abbrev pub six_at : ℕ → List (List ℕ) → ℕ → ℕ
six_at levels rows n =
    flipped levels (passed n (get_or rows 0 []))
    + flipped (levels / 2) (passed n (get_or rows 1 [])) * 2
    + flipped (levels / 4) (passed n (get_or rows 2 [])) * 4
    + flipped (levels / 8) (passed n (get_or rows 3 [])) * 8
    + flipped (levels / 16) (passed n (get_or rows 4 [])) * 16
    + flipped (levels / 32) (passed n (get_or rows 5 [])) * 32
