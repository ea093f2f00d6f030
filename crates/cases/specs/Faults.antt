-- Which payloads are right: "A payload has exactly the bytes its kind asks for; anything else is a fault of the batch".
-- Assumes nothing.
use Rattle.std.specs.Prelude.{ℕ, ◌+◌, ◌*◌, List, [], ◌∷◌, ◌++◌, Bool, false, cond, ◌&&◌, ◌||◌, ltb, leb, eqb, length}
use Rattle.profile.specs.Lists.{all, chunks}
use Rattle.profile.specs.Bytes.{number_at}
use Rattle.cases.specs.Raw.{four_at, raw_length, version_length, versioned_length}
use Rattle.cases.specs.Chunked.{ends_cut}
use Rattle.cases.specs.Answer.{case_line}
use Rattle.cases.specs.Kinds.{lines_of}

-- n numbers from a place on, each a step after the one before, are below a limit
abbrev pub below_test : List ℕ → ℕ → ℕ → ℕ → ℕ → List Bool
below_test b at step limit i = ltb (number_at b (at + step * i)) limit ∷ []

unfoldable pub below : List ℕ → ℕ → ℕ → ℕ → ℕ → Bool
below b at step n limit = all (chunks n (below_test b at step limit))

-- the present flags of sequences, of gates, of SUBCK, shutters and field; then the modes
unfoldable pub is_raw : List ℕ → Bool
is_raw b =
    (((leb raw_length (length b) && below b 480 14 10 2) && below b 620 10 5 2) && below b 670 12 4 2) && below b 724 6 7 3

-- c counts and w words from a place on are the rest of n bytes; "A list has at most 4,096 entries"
unfoldable pub lists_end : ℕ → ℕ → ℕ → ℕ → Bool
lists_end n from c w = leb c 4096 && (leb w 4096 && eqb n (from + 4 * c + 2 * w))

-- lists whose lengths stand at a place
abbrev pub has_lists : List ℕ → ℕ → ℕ → Bool
has_lists b at from = lists_end (length b) from (four_at b at) (four_at b (at + 4))

-- R, U, V, C, W, L and E, N, K and J, T, P
abbrev pub is_right : ℕ → List ℕ → Bool
is_right kind b =
    cond (eqb kind 82) (leb (length b) 40000)
    (cond (eqb kind 85) (ends_cut b version_length)
    (cond (eqb kind 86) (is_raw b && ends_cut b 848)
    (cond (eqb kind 67) (is_raw b && eqb (length b) raw_length)
    (cond (eqb kind 87) (is_raw b)
    (cond (eqb kind 76 || eqb kind 69) (is_raw b && eqb (length b) (versioned_length + 16))
    (cond (eqb kind 78) (is_raw b && eqb (length b) (raw_length + 8))
    (cond (eqb kind 75 || eqb kind 74) (is_raw b && has_lists b versioned_length (versioned_length + 8))
    (cond (eqb kind 84) (leb version_length (length b) && leb (length b) (version_length + 40000))
    (cond (eqb kind 80) (has_lists b 0 24) false)))))))))

-- all that is printed for case k; nothing where the payload is at fault
unfoldable pub answer_text : ℕ → ℕ → List ℕ → List ℕ
answer_text k kind b = cond (is_right kind b) (case_line k kind ++ lines_of kind b) []
