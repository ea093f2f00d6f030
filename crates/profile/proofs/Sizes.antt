-- A written script's length: at most 1,314 bytes, and at least 998 where the check accepts the profile.
-- The registers take 960; an accepted profile has a field of at least one region, whose sequence is present.
-- Assumes nothing.
use mathlib.Core.Path.{◌≡◌, refl}
use mathlib.Core.Bool.{Bool, true, cond}
use mathlib.Core.List.{List, []}
use Prim.Native.Nat.{ℕ, ◌+◌, ◌*◌, ◌≤◌, ◌<◌}
use native.Mathlib.Omega.{arith}
use borrow.Author.Tests.{leb-true}
use lib.ListN.{length, get_or, length-append}
use Rattle.profile.specs.Lists.{chunks}
use Rattle.profile.specs.Values.{empty_sequence, empty_gate, empty_shutter, accepted, refused}
use Rattle.profile.specs.Geometry.{region_at, has_second_line}
use Rattle.profile.specs.Ranges.{region_range}
use Rattle.profile.specs.Rules.{check_profile}
use Rattle.profile.specs.Writing.{
  longest_script,
  register_chunk,
  sequence_record,
  sequence_chunk,
  field_record,
  field_chunk,
  gate_record,
  gate_chunk,
  subck_record,
  subck_chunk,
  shutter_record,
  shutter_chunk,
  write_script,
}
use Rattle.profile.specs.declared.Sequence.{Sequence}
use Rattle.profile.specs.declared.Field.{Field}
use Rattle.profile.specs.declared.Profile.{Profile}
use Rattle.profile.specs.declared.Ruleset.{Ruleset}
use Rattle.profile.proofs.Laws.{cond-case, passed, length-chunks, length-chunks_le, chunk_room}
use Rattle.profile.proofs.Checked.{check_range}
use Rattle.profile.proofs.Accepted.{accepted_exactly, accepted-field}
use Rattle.profile.proofs.Forms.{head_most, head-least}
use Rattle.profile.proofs.Stores.{length-field}
use Rattle.profile.proofs.Items.{items, field_present, field_count, region_present}

-- what is written only where b holds is at most so long
chosen_le : (b : Bool) (s : List ℕ) (n : ℕ) → length s ≤ n → length (cond b s []) ≤ n
chosen_le b s n h = cond-case (λ (l : List ℕ). length l ≤ n) b s [] (λ e. h) (λ e. omega arith)

-- the parts' lengths add up
pub length_script : (p : Profile)
    → length (write_script p)
    ≡ 960 + length (chunks 10 (sequence_chunk p.tables.sequences))
    + length (field_chunk p.field)
    + length (chunks 5 (gate_chunk p.tables.gates))
    + length (subck_chunk p.tables.subck)
    + length (chunks 2 (shutter_chunk p.tables.shutters))
unfolding write_script
length_script p =
    rw (
      length-append,
      length-append,
      length-append,
      length-append,
      length-append,
      length-chunks 8 120 (register_chunk p.tables.registers) (λ i. refl),
    )

-- an array of n items, of which those present are written, each in at most m bytes
items_le : {A : Type 0} (n m : ℕ) (present : A → Bool) (written : ℕ → A → List ℕ) (d : A) (xs : List A)
    → ((k : ℕ) (x : A) → length (written k x) ≤ m)
    → length (chunks n (λ k. cond (present (get_or xs k d)) (written k (get_or xs k d)) [])) ≤ n * m
items_le n m present written d xs h =
    length-chunks_le m n _ (λ k. chosen_le (present (get_or xs k d)) (written k (get_or xs k d)) m (h k (get_or xs k d)))

pub script_high : (p : Profile) → length (write_script p) ≤ longest_script
script_high p =
    let t = p.tables in
    omega (
      arith,
      length_script p,
      items_le 10 18 (λ s. s.present) sequence_record empty_sequence t.sequences (λ k s. omega arith),
      chosen_le p.field.present (field_record p.field) 58 (omega (arith, length-field p.field, head_most (has_second_line p.field))),
      items_le 5 14 (λ g. g.present) gate_record empty_gate t.gates (λ k g. omega arith),
      chosen_le t.subck.present (subck_record t.subck) 14 (omega arith),
      items_le 2 16 (λ s. s.present) shutter_record empty_shutter t.shutters (λ k s. omega arith),
    )

-- a sequence that is present takes 18 bytes
sequence_written_lem : (ss : List Sequence) (k : ℕ) → k < 10 → (get_or ss k empty_sequence).present ≡ true
    → 18 ≤ length (chunks 10 (sequence_chunk ss))
sequence_written_lem ss k h e =
    let l : length (sequence_chunk ss k) ≡ 18 = rw e in
    omega (arith, chunk_room k 10 (sequence_chunk ss) h)

field_written : (f : Field) → f.present ≡ true → 1 ≤ f.count → 20 ≤ length (field_chunk f)
field_written f e h = rw e (omega (arith, length-field f, head-least (has_second_line f)))

pub script_low : (rules : Ruleset) (p : Profile) → check_profile rules p ≡ accepted → 998 ≤ length (write_script p)
script_low rules p e =
    let t = p.tables in
    let f = p.field in
    let r = items p (check_range rules p e) in
    let h = accepted-field rules p e in
    let c = (field_count f (field_present f r.field h)).0 in
    let g = passed (region_range (region_at f 0)) (region_present f 0 (r.regions 0 (omega arith)) c) in
    let k = leb-true (region_at f 0).sequence 9 g.1.0 in
    omega (
      arith,
      length_script p,
      sequence_written_lem t.sequences (region_at f 0).sequence (omega arith) (((accepted_exactly rules p).0 e (refused 8 0)).fields.0.sequence_given 0 refl (omega arith)),
      field_written f h c,
    )

pub script_length : (rules : Ruleset) (p : Profile) → check_profile rules p ≡ accepted → (998 ≤ length (write_script p)) × (length (write_script p) ≤ longest_script)
script_length rules p e = (script_low rules p e, script_high p)
