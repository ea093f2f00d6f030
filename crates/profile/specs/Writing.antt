-- A profile as a script, and what the writer answers and leaves.
-- Assumes nothing.
use Rattle.std.specs.Prelude.{ℕ, ◌+◌, ◌*◌, List, [], ◌∷◌, ◌++◌, cond, length, get_or, leb}
use Rattle.profile.specs.Lists.{chunks, over}
use Rattle.profile.specs.Bytes.{two_bytes, three_bytes, record_of}
use Rattle.profile.specs.Values.{mode_number, accepted, refused, accepts, empty_sequence, empty_gate, empty_shutter, Written}
use Rattle.profile.specs.Geometry.{region_count, region_at, gate_lines}
use Rattle.profile.specs.Rules.{check_profile}
use Rattle.profile.specs.declared.Sequence.{Sequence}
use Rattle.profile.specs.declared.Field.{Field}
use Rattle.profile.specs.declared.Gate.{Gate}
use Rattle.profile.specs.declared.Subck.{Subck}
use Rattle.profile.specs.declared.Shutter.{Shutter}
use Rattle.profile.specs.declared.Profile.{Profile}
use Rattle.profile.specs.declared.Verdict.{Verdict}
use Rattle.profile.specs.declared.Ruleset.{Ruleset}

-- "its longest script becomes 1,314 bytes": every item present, two gate lines and seven regions
abbrev pub longest_script : ℕ
longest_script = 1314

-- The body and the record of each item, by its kind, and what is written of it: its record where it is present, else nothing.

-- Kind 1, register: "address byte, 3 data bytes"
abbrev pub register_body : ℕ → ℕ → ℕ → List ℕ
register_body address low high = address ∷ three_bytes (low + 4096 * high)

abbrev pub register_record : ℕ → ℕ → ℕ → List ℕ
register_record address low high = record_of 1 (register_body address low high)

abbrev pub register_chunk : List ℕ → ℕ → List ℕ
register_chunk registers a = register_record a (get_or registers (2 * a) 0) (get_or registers (2 * a + 1) 0)

-- Kind 2, sequence: "number 0..9, pattern, line length, start, odd repetitions, even repetitions, mask"
abbrev pub sequence_body : ℕ → Sequence → List ℕ
sequence_body k s = two_bytes (k ∷ s.pattern ∷ s.length ∷ s.start ∷ s.odd ∷ s.even ∷ s.mask ∷ [])

abbrev pub sequence_record : ℕ → Sequence → List ℕ
sequence_record k s = record_of 2 (sequence_body k s)

abbrev pub sequence_written : ℕ → Sequence → List ℕ
sequence_written k s = cond s.present (sequence_record k s) []

abbrev pub sequence_chunk : List Sequence → ℕ → List ℕ
sequence_chunk ss k = sequence_written k (get_or ss k empty_sequence)

-- Kind 3, field: "lines, last-line length, gate line, second pattern, n, then n regions: first line, sequence, mode", "a second gate line after the
-- first", and "the old form when there is no second gate line"
abbrev pub field_head : Field → List ℕ
field_head f = two_bytes (f.lines ∷ f.last ∷ gate_lines f ++ f.second ∷ f.count ∷ [])

abbrev pub region_bytes : Field → ℕ → List ℕ
region_bytes f i = two_bytes ((region_at f i).first ∷ (region_at f i).sequence ∷ mode_number (region_at f i).mode ∷ [])

abbrev pub field_body : Field → ℕ → List ℕ
field_body f n = field_head f ++ chunks n (region_bytes f)

abbrev pub field_record : Field → List ℕ
field_record f = record_of 3 (field_body f (region_count f))

abbrev pub field_chunk : Field → List ℕ
field_chunk f = cond f.present (field_record f) []

-- Kind 4, gate: "number 0..4, on, start level, toggle 1, toggle 2"
abbrev pub gate_body : ℕ → Gate → List ℕ
gate_body k g = two_bytes (k ∷ g.on ∷ g.level ∷ g.toggle1 ∷ g.toggle2 ∷ [])

abbrev pub gate_record : ℕ → Gate → List ℕ
gate_record k g = record_of 4 (gate_body k g)

abbrev pub gate_written : ℕ → Gate → List ℕ
gate_written k g = cond g.present (gate_record k g) []

abbrev pub gate_chunk : List Gate → ℕ → List ℕ
gate_chunk gs k = gate_written k (get_or gs k empty_gate)

-- Kind 5, SUBCK: "start level, toggle 1, toggle 2, suppressed lines, count"
abbrev pub subck_body : Subck → List ℕ
subck_body s = two_bytes (s.level ∷ s.toggle1 ∷ s.toggle2 ∷ s.suppressed ∷ s.count ∷ [])

abbrev pub subck_record : Subck → List ℕ
subck_record s = record_of 5 (subck_body s)

abbrev pub subck_chunk : Subck → List ℕ
subck_chunk s = cond s.present (subck_record s) []

-- Kind 6, shutter: "which (0 MSHUT, 1 STROBE), active level, on line, on pixel, off line, off pixel"
abbrev pub shutter_body : ℕ → Shutter → List ℕ
shutter_body k s = two_bytes (k ∷ s.active ∷ s.on_line ∷ s.on_pixel ∷ s.off_line ∷ s.off_pixel ∷ [])

abbrev pub shutter_record : ℕ → Shutter → List ℕ
shutter_record k s = record_of 6 (shutter_body k s)

abbrev pub shutter_written : ℕ → Shutter → List ℕ
shutter_written k s = cond s.present (shutter_record k s) []

abbrev pub shutter_chunk : List Shutter → ℕ → List ℕ
shutter_chunk ss k = shutter_written k (get_or ss k empty_shutter)

-- "all 120 registers by address, sequences present by number, the field, gates present by number, SUBCK, MSHUT, STROBE"
unfoldable pub write_script : Profile → List ℕ
write_script p =
    chunks 120 (register_chunk p.tables.registers)
    ++ chunks 10 (sequence_chunk p.tables.sequences)
    ++ field_chunk p.field
    ++ chunks 5 (gate_chunk p.tables.gates)
    ++ subck_chunk p.tables.subck
    ++ chunks 2 (shutter_chunk p.tables.shutters)

-- "It refuses what the check refuses, then 18", with the bytes needed
abbrev pub write_verdict : Ruleset → Profile → ℕ → Verdict
write_verdict rules p room =
    cond (accepts (check_profile rules p))
    (cond (leb (length (write_script p)) room) accepted (refused 18 (length (write_script p))))
    (check_profile rules p)

unfoldable pub write_answer : Ruleset → Profile → ℕ → Written
write_answer rules p room =
    record {
      verdict = write_verdict rules p room;
      length = cond (accepts (write_verdict rules p room)) (length (write_script p)) 0;
    }

-- what is left in the lent slice: "a refused write .. changes no lent byte .. After success, entries past the used ones keep what they held."
unfoldable pub write_leaves : Ruleset → Profile → List ℕ → List ℕ
write_leaves rules p out =
    cond (accepts (write_verdict rules p (length out))) (over (write_script p) out) out
