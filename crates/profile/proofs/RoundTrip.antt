-- Reading what was written gives the same profile back.
-- Each record takes the profile so far one item further, and what is absent is empty already.
-- Assumes nothing.
use mathlib.Core.Path.{◌≡◌, refl, sym, ap, ◌∙◌}
use mathlib.Core.Bool.{Bool, true, false, cond}
use mathlib.Core.List.{List, []}
use Prim.Native.Nat.{ℕ, suc, ◌+◌, ◌*◌, ◌≤◌, ◌<◌}
use native.Mathlib.Omega.{arith}
use borrow.Author.Tests.{le-leb}
use lib.Seq.{take_at, ext_get_or}
use lib.ListN.{length, get_or, take, drop, set, replicate, get_or-replicate, length-replicate}
use Rattle.profile.specs.Lists.{chunks}
use Rattle.profile.specs.Values.{
  Sized,
  empty_region,
  empty_sequence,
  empty_gate,
  empty_shutter,
  empty_field,
  empty_tables,
  empty_profile,
  set_registers,
  set_sequences,
  set_gates,
  set_subck,
  set_shutters,
  set_tables,
  set_field,
  accepted,
  read_answer,
}
use Rattle.profile.specs.Ranges.{in_range, head_in, region_in}
use Rattle.profile.specs.Rules.{check_profile}
use Rattle.profile.specs.Script.{most_bytes, records, read_script}
use Rattle.profile.specs.Writing.{
  register_chunk,
  sequence_record,
  sequence_chunk,
  field_chunk,
  gate_record,
  gate_chunk,
  subck_chunk,
  shutter_record,
  shutter_chunk,
  write_script,
  write_leaves,
}
use Rattle.profile.specs.declared.Field.{Field}
use Rattle.profile.specs.declared.Subck.{Subck}
use Rattle.profile.specs.declared.Profile.{Profile}
use Rattle.profile.specs.declared.Ruleset.{Ruleset}
use Rattle.profile.proofs.Checked.{check_range, check_judge}
use Rattle.profile.proofs.Sizes.{script_high}
use Rattle.profile.proofs.Rebuild.{mix, mix-set, mix-pair, mix_same, mix_all}
use Rattle.profile.proofs.Takes.{Takes, takes_then, takes_cond, takes_chunks, takes_all}
use Rattle.profile.proofs.Items.{
  Items,
  items,
  sequence_present,
  sequence_absent,
  gate_present,
  gate_absent,
  subck_present,
  subck_absent,
  shutter_present,
  shutter_absent,
  field_present,
  field_absent,
  region_absent,
}
use Rattle.profile.proofs.Bodies.{
  takes_register,
  takes_sequence,
  takes_gate,
  takes_subck,
  takes_shutter,
}
use Rattle.profile.proofs.FieldBody.{takes_field}

-- ---- an array of items, of which those present are written

module _ {A : Type 0} (n : ℕ) (d : A) (present : A → Bool) (written : ℕ → A → List ℕ) (with : List A → Profile) (xs : List A)
    (sized : length xs ≡ n)
    (given : (k : ℕ) → k < n → present (get_or xs k d) ≡ true → (l : List A)
    → Takes (written k (get_or xs k d)) (with l) (with (set l k (get_or xs k d))))
    (absent : (k : ℕ) → k < n → present (get_or xs k d) ≡ false → get_or xs k d ≡ d) where
  abbrev so_far : ℕ → Profile
  so_far k = with (mix k xs (replicate n d))

  takes_item : (k : ℕ) → k < n → Takes (cond (present (get_or xs k d)) (written k (get_or xs k d)) []) (so_far k) (so_far (suc k))
  takes_item k h =
      let l : length xs ≡ length (replicate n d) = omega (arith, length-replicate n d) in
      let u : k < length xs = omega arith in
      takes_cond (present (get_or xs k d))
      (λ e.
      let m = mix-set k xs (replicate n d) d l u in
      rw m at (given k h e (mix k xs (replicate n d))))
      (λ e. ap with (mix_same k xs (replicate n d) d l u (absent k h e ∙ sym (get_or-replicate n k d d h))))

  takes_items : Takes (chunks n (λ k. cond (present (get_or xs k d)) (written k (get_or xs k d)) [])) (with (replicate n d)) (with xs)
  takes_items =
      rw (mix_all n xs (replicate n d) sized (length-replicate n d))
      at (takes_chunks n (λ k. cond (present (get_or xs k d)) (written k (get_or xs k d)) []) so_far takes_item)

-- ---- the field that is absent

absent_field : (f : Field) → f.present ≡ false → length f.regions ≡ 7 → head_in f ≡ true
    → ((i : ℕ) → i < 7 → region_in f i ≡ true) → f ≡ empty_field
unfolding empty_field
absent_field f e l o r =
    let z = field_absent f o e in
    let g : f.regions ≡ replicate 7 empty_region =
    ext_get_or empty_region f.regions (replicate 7 empty_region) l
    (λ i h.
    let u : i < 7 = omega arith in
    region_absent f i (r i u) (omega arith) ∙ sym (get_or-replicate 7 i empty_region empty_region u)) in
    λ i.
    record {
      present = e i;
      lines = z.0 i;
      last = z.1 i;
      gate = z.2 i;
      gate2 = z.3 i;
      second = z.4 i;
      count = z.5 i;
      regions = g i;
    }

-- ---- one record after the other

module _ (p : Profile) (z : Sized p) (r : Items p) where
  -- the profile after the registers, the sequences, the field, the gates, SUBCK
  abbrev p1 : Profile
  p1 = set_tables (set_registers p.tables.registers empty_tables) empty_profile

  abbrev p2 : Profile
  p2 = set_tables (set_sequences p.tables.sequences p1.tables) p1

  abbrev p3 : Profile
  p3 = set_field p.field p2

  abbrev p4 : Profile
  p4 = set_tables (set_gates p.tables.gates p3.tables) p3

  abbrev p5 : Profile
  p5 = set_tables (set_subck p.tables.subck p4.tables) p4

  -- after i registers
  abbrev halves : ℕ → Profile
  halves i = set_tables (set_registers (mix (2 * i) p.tables.registers empty_tables.registers) empty_tables) empty_profile

  length_empty : length empty_tables.registers ≡ 240
  unfolding empty_tables
  length_empty = length-replicate {A = ℕ} 240 0

  takes_halves : (i : ℕ) → i < 120 → Takes (register_chunk p.tables.registers i) (halves i) (halves (suc i))
  takes_halves i h =
      let e : 2 * i + 2 ≡ 2 * suc i = omega arith in
      let l : length p.tables.registers ≡ length empty_tables.registers = z.registers ∙ sym length_empty in
      let u : 2 * i + 1 < length p.tables.registers = omega (arith, z.registers) in
      let m = mix-pair (2 * i) p.tables.registers empty_tables.registers 0 l u in
      rw (m, e) at (takes_register i _ _ (halves i) h (r.halves (2 * i) (omega arith)) (r.halves (2 * i + 1) (omega arith)))

  takes_registers : Takes (chunks 120 (register_chunk p.tables.registers)) empty_profile p1
  takes_registers =
      rw (mix_all 240 p.tables.registers empty_tables.registers z.registers length_empty)
      at (takes_chunks 120 (register_chunk p.tables.registers) halves takes_halves)

  takes_sequences : Takes (chunks 10 (sequence_chunk p.tables.sequences)) p1 p2
  unfolding empty_tables
  takes_sequences =
      takes_items 10 empty_sequence (λ s. s.present) sequence_record (λ l. set_tables (set_sequences l p1.tables) p1) p.tables.sequences
      z.sequences
      (λ k h e l. takes_sequence k _ _ h e (sequence_present _ (r.sequences k h) e))
      (λ k h e. sequence_absent _ (r.sequences k h) e)

  takes_present : Takes (field_chunk p.field) p2 p3
  takes_present =
      takes_cond p.field.present
      (λ e. takes_field p.field z.regions e (field_present p.field r.field e) r.regions p2)
      (λ e. ap (λ (f : Field). set_field f p2) (sym (absent_field p.field e z.regions r.field r.regions)))

  takes_gates : Takes (chunks 5 (gate_chunk p.tables.gates)) p3 p4
  unfolding empty_tables
  takes_gates =
      takes_items 5 empty_gate (λ g. g.present) gate_record (λ l. set_tables (set_gates l p3.tables) p3) p.tables.gates z.gates
      (λ k h e l. takes_gate k _ _ h e (gate_present _ (r.gates k h) e))
      (λ k h e. gate_absent _ (r.gates k h) e)

  takes_sub : Takes (subck_chunk p.tables.subck) p4 p5
  unfolding empty_tables
  takes_sub =
      let s = p.tables.subck in
      takes_cond s.present
      (λ e. takes_subck s p4 e (subck_present s r.subck e))
      (λ e. ap (λ (s : Subck). set_tables (set_subck s p4.tables) p4) (sym (subck_absent s r.subck e)))

  takes_shutters : Takes (chunks 2 (shutter_chunk p.tables.shutters)) p5 p
  unfolding empty_tables
  takes_shutters =
      takes_items 2 empty_shutter (λ s. s.present) shutter_record (λ l. set_tables (set_shutters l p5.tables) p5) p.tables.shutters
      z.shutters
      (λ k h e l. takes_shutter k _ _ h e (shutter_present _ (r.shutters k h) e))
      (λ k h e. shutter_absent _ (r.shutters k h) e)

  -- the whole script
  takes_script : Takes (write_script p) empty_profile p
  unfolding write_script
  takes_script =
      takes_then (takes_then (takes_then (takes_then (takes_then takes_registers takes_sequences) takes_present) takes_gates) takes_sub)
      takes_shutters

pub records_back : (p : Profile) → Sized p → in_range p ≡ true → records 0 0 (write_script p) empty_profile ≡ read_answer accepted p
records_back p z e = takes_all (write_script p) empty_profile p (takes_script p z (items p e))

-- THE ROUND TRIP: reading what was written gives the same profile back
pub round_trip : (rules : Ruleset) (p : Profile) → Sized p → check_profile rules p ≡ accepted
    → read_script rules (write_script p) ≡ record { verdict = accepted; profile = p }
unfolding read_script
round_trip rules p z e =
    let i = check_range rules p e in
    rw (le-leb (length (write_script p)) most_bytes (omega (arith, script_high p)), records_back p z i, ← check_judge rules p i, e)

-- what the writer leaves, taken at its length, reads as the profile
pub write_read : (rules : Ruleset) (p : Profile) → Sized p → check_profile rules p ≡ accepted → (out : List ℕ) → length (write_script p) ≤ length out
    → read_script rules (take (length (write_script p)) (write_leaves rules p out)) ≡ record { verdict = accepted; profile = p }
unfolding write_leaves
write_read rules p z e out h =
    rw (
      e,
      le-leb (length (write_script p)) (length out) h,
      take_at (write_script p) (drop (length (write_script p)) out) (length (write_script p)) refl,
    )
    (round_trip rules p z e)
