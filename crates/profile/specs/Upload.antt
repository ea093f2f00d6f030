-- Reading a script that arrives in chunks: what a state holds, the state with a chunk more, the answer. A state, whichever it is, stands for what has
-- arrived: how many bytes, the first refusal, or the record that is not whole yet and the profile of those before it.
-- Assumes nothing.
use Rattle.std.specs.Prelude.{ℕ, zero, suc, ◌+◌, ◌-◌, List, [], ◌∷◌, ◌++◌, Bool, cond, not, ◌&&◌, ◌||◌, length, take, drop, replicate, ltb, leb, eqb}
use Rattle.profile.specs.Bytes.{number_at}
use Rattle.profile.specs.Values.{empty_profile, refused, read_answer}
use Rattle.profile.specs.Script.{most_bytes, stop, next, step, after_first, records, judged}
use Rattle.profile.specs.declared.Profile.{Profile}
use Rattle.profile.specs.Values.{ReadAnswer}
use Rattle.profile.specs.declared.Ruleset.{Ruleset}
use Rattle.profile.specs.declared.upload.Arrival.{Arrival}
use Rattle.profile.specs.declared.upload.Upload.{Upload}

abbrev pub upload : Arrival → Profile → Upload
upload a p = record { arrival = a; profile = p }

-- ---- what a state holds

-- what is held of a record: no more bytes than the record's own length says
abbrev pub held_bytes : Arrival → List ℕ
held_bytes a = take (4 + number_at a.bytes 0) (take a.held a.bytes)

-- how many bytes have arrived: at least those held
abbrev pub larger : ℕ → ℕ → ℕ
larger a b = cond (ltb a b) b a

abbrev pub arrived : Arrival → ℕ
arrived a = larger a.length (length (held_bytes a))

-- the refusals that a state holds are those of a record: 3, 4 and 5; that one is cut (2) is known only when the answer is asked for
abbrev pub is_refused : ℕ → Bool
is_refused number = leb 3 number && leb number 5

-- ---- the state with a chunk more

-- how far reading on goes: 0 at the end or the number of a refusal, what is left from that record on, the profile of the records before it
pub record Reached : Type 0 where
  pub number : ℕ
  pub rest : List ℕ
  pub profile : Profile

-- record by record, as `records` of Script: skip is how many of these bytes still belong to the record that was taken last
unfoldable pub reached : ℕ → List ℕ → Profile → Reached
reached skip [] p = record { number = 0; rest = []; profile = p }
reached zero (x ∷ xs) p =
    elim (step (x ∷ xs) p) [ stop n ↦ record { number = n; rest = x ∷ xs; profile = p } | next len q ↦ reached (after_first len) xs q ]
reached (suc skip) (x ∷ xs) p = reached skip xs p

-- total bytes have arrived, and the last of them, s, are held: in front of whatever stood there
abbrev pub waiting : ℕ → List ℕ → List ℕ → Arrival
waiting total s old = record { length = total; number = 0; place = 0; held = length s; bytes = s ++ drop (length s) old }

-- a record was refused
abbrev pub refused_at : ℕ → ℕ → ℕ → List ℕ → Arrival
refused_at total number place old = record { length = total; number = number; place = place; held = 0; bytes = old }

-- at the end, or in a record that is cut, reading waits for more
abbrev pub waits : ℕ → Bool
waits number = eqb number 0 || eqb number 2

abbrev pub stopped_at : ℕ → List ℕ → ℕ → List ℕ → Arrival
stopped_at total old number rest = cond (waits number) (waiting total rest old) (refused_at total number (total - length rest) old)

abbrev pub read_on : ℕ → List ℕ → Reached → Upload
read_on total old r = upload (stopped_at total old r.number r.rest) r.profile

-- bytes are counted as far as 16,385: above 16,384 it makes no difference how many
abbrev pub counted : ℕ → ℕ
counted total = cond (leb total most_bytes) total (most_bytes + 1)

abbrev pub with_length : ℕ → Upload → Upload
with_length total u =
    upload
    (record {
      length = total;
      number = u.arrival.number;
      place = u.arrival.place;
      held = u.arrival.held;
      bytes = u.arrival.bytes;
    })
    u.profile

-- a script that is too long, and one of which a record was refused, is only counted
abbrev pub take_bytes : ℕ → Upload → List ℕ → Upload
take_bytes total u chunk =
    cond (leb total most_bytes && not (is_refused u.arrival.number))
    (read_on total u.arrival.bytes (reached 0 (held_bytes u.arrival ++ chunk) u.profile))
    (with_length (counted total) u)

unfoldable pub take_chunk : Upload → List ℕ → Upload
take_chunk u chunk = take_bytes (arrived u.arrival + length chunk) u chunk

-- nothing has arrived
unfoldable pub start_upload : Upload
start_upload = upload (waiting 0 [] (replicate 58 0)) empty_profile

-- ---- the answer

-- what the records give: the refusal that is held; else what is held of a record, and s behind it, is read on
abbrev pub records_with : Upload → List ℕ → ReadAnswer
records_with u s =
    cond (is_refused u.arrival.number)
    (read_answer (refused u.arrival.number u.arrival.place) u.profile)
    (records 0 (arrived u.arrival - length (held_bytes u.arrival)) (held_bytes u.arrival ++ s) u.profile)

-- what a state and the bytes s that follow give, as read_script of the whole: 1 first, then the records, then what is judged of their profile
unfoldable pub read_with : Ruleset → Upload → List ℕ → ReadAnswer
read_with rules u s =
    cond (leb (arrived u.arrival + length s) most_bytes) (judged rules (records_with u s)) (read_answer (refused 1 0) empty_profile)

-- asked for now, nothing follows
abbrev pub upload_answer : Ruleset → Upload → ReadAnswer
upload_answer rules u = read_with rules u []
