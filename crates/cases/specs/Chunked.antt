-- An upload as a payload tells it: "The chunks have the lengths that are given, one after the other, each as far as there are bytes; what is left
-- after the last length is one chunk more".
-- Assumes nothing.
use Rattle.std.specs.Prelude.{ℕ, zero, suc, ◌+◌, ◌*◌, List, Bool, ◌&&◌, leb, length, take, drop}
use Rattle.profile.specs.Bytes.{number_at}
use Rattle.profile.specs.Upload.{upload, take_chunk}
use Rattle.profile.specs.declared.upload.Upload.{Upload}
use Rattle.cases.specs.Raw.{eight_at, bytes_from, versioned_length, raw_profile}

-- the chunks of s by n lengths that stand from a place on
unfoldable pub take_cut : List ℕ → ℕ → ℕ → List ℕ → Upload → Upload
take_cut b at zero s u = take_chunk u s
take_cut b at (suc n) s u = take_cut b (at + 2) n (drop (number_at b at) s) (take_chunk u (take (number_at b at) s))

-- where the bytes are, behind the lengths that are counted at a place
abbrev pub bytes_start : List ℕ → ℕ → ℕ
bytes_start b at = at + 2 + 2 * number_at b at

unfoldable pub upload_at : List ℕ → ℕ → Upload → Upload
upload_at b at u = take_cut b (at + 2) (number_at b at) (drop (bytes_start b at) b) u

-- the state that a payload has
abbrev pub state_of : List ℕ → Upload
state_of b =
    upload
    (record { length = eight_at b versioned_length; number = number_at b 772; place = eight_at b 774; held = eight_at b 782; bytes = bytes_from b 790 58 })
    (raw_profile b)

-- the lengths are there, and at most 40,000 bytes
unfoldable pub ends_cut : List ℕ → ℕ → Bool
ends_cut b at = leb (bytes_start b at) (length b) && leb (length b) (bytes_start b at + 40000)
