-- Lists of bytes: each element is below 256. A part of one is one, and so is a written script, whose numbers are in range.
-- A number below 65,536 makes two bytes, any number three.
-- Assumes nothing.
use mathlib.Core.Path.{◌≡◌}
use mathlib.Core.Bool.{Bool, true, cond, ◌||◌}
use mathlib.Core.Logic.{⊎_elim}
use mathlib.Core.List.{List, [], ◌∷◌, ◌++◌}
use Prim.Native.Nat.{ℕ, zero, suc, ◌+◌, ◌*◌, ◌/◌, ◌%◌, ◌≤◌, ◌<◌}
use native.Mathlib.Omega.{arith}
use borrow.Author.Tests.{ltb-true, ltb-false, leb-true, eqb-true}
use lib.Dec.{ltb, leb, eqb}
use lib.ListN.{length, get_or, take, drop, length-take, get_or-eq_default}
use lib.Seq.{get_or-take, get_or-drop}
use Rattle.profile.specs.Lists.{all, chunks}
use Rattle.profile.specs.Bytes.{Bytes, two_bytes, three_bytes, record_of}
use Rattle.profile.specs.Values.{none, mode_number, empty_sequence, empty_gate, empty_shutter}
use Rattle.profile.specs.Geometry.{region_count, region_at, has_second_line}
use Rattle.profile.specs.Ranges.{sequence_range, field_range, region_range, gate_range, subck_range, shutter_range, region_in, in_range}
use Rattle.profile.specs.Script.{kinds}
use Rattle.profile.specs.Writing.{
  register_body,
  register_record,
  register_chunk,
  sequence_record,
  region_bytes,
  field_head,
  field_body,
  field_record,
  gate_record,
  subck_record,
  shutter_record,
  write_script,
}
use Rattle.profile.specs.declared.Mode.{Mode}
use Rattle.profile.specs.declared.Mode.TheVariants.{Plain, Sweep, Multiplier}
use Rattle.profile.specs.declared.Sequence.{Sequence}
use Rattle.profile.specs.declared.Field.{Field}
use Rattle.profile.specs.declared.Gate.{Gate}
use Rattle.profile.specs.declared.Subck.{Subck}
use Rattle.profile.specs.declared.Shutter.{Shutter}
use Rattle.profile.specs.declared.Profile.{Profile}
use Rattle.profile.proofs.Laws.{by_cases, or_cases, cond-case, passed}
use Rattle.profile.proofs.Forms.{head_most}
use Rattle.profile.proofs.Stores.{length_two, length-body, script_part, all-parts}
use Rattle.profile.proofs.Items.{
  Items,
  items,
  sequence_present,
  gate_present,
  subck_present,
  shutter_present,
  field_present,
  region_present,
}

pub bytes_nil : Bytes []
bytes_nil = record { at = λ i. omega arith }

cons_at : (x : ℕ) (xs : List ℕ) → x < 256 → Bytes xs → (i : ℕ) → get_or (x ∷ xs) i 0 < 256
cons_at x xs h b zero = h
cons_at x xs h b (suc i) = b.at i

pub bytes_cons : {x : ℕ} {xs : List ℕ} → x < 256 → Bytes xs → Bytes (x ∷ xs)
bytes_cons {x} {xs} h b = record { at = cons_at x xs h b }

pub bytes_tail : {x : ℕ} {xs : List ℕ} → Bytes (x ∷ xs) → Bytes xs
bytes_tail b = record { at = λ i. b.at (suc i) }

-- a part from at on, of n bytes at most
pub bytes_part : (s : List ℕ) (n at : ℕ) → Bytes s → Bytes (take n (drop at s))
bytes_part s n at b =
    record {
      at =
          λ i.
          by_cases (ltb i n)
          (λ h. rw (get_or-take n (drop at s) i 0 (ltb-true i n h), get_or-drop at s i 0) (b.at (at + i)))
          (λ h.
          let l : length (take n (drop at s)) ≤ i = omega (arith, length-take n (drop at s), ltb-false i n h) in
          rw (get_or-eq_default (take n (drop at s)) 0 l) (omega arith));
    }

pub bytes_append : (a b : List ℕ) → Bytes a → Bytes b → Bytes (a ++ b)
bytes_append [] b f g = g
bytes_append (x ∷ a) b f g = bytes_cons (f.at 0) (bytes_append a b (bytes_tail f) g)

pub bytes_chunks : (n : ℕ) (f : ℕ → List ℕ) → ((i : ℕ) → i < n → Bytes (f i)) → Bytes (chunks n f)
unfolding chunks
bytes_chunks zero f h = bytes_nil
bytes_chunks (suc n) f h = bytes_append (chunks n f) (f n) (bytes_chunks n f (λ i l. h i (omega arith))) (h n (omega arith))

pub bytes_cond : (b : Bool) (s : List ℕ) → (b ≡ true → Bytes s) → Bytes (cond b s [])
bytes_cond b s f = cond-case Bytes b s [] f (λ e. bytes_nil)

-- ---- numbers as bytes

-- each number fits two bytes
abbrev pub Words : List ℕ → Type 0
Words [] = Unit {0}
Words (w ∷ ws) = (w < 65536) × Words ws

pub bytes_two : (ws : List ℕ) → Words ws → Bytes (two_bytes ws)
bytes_two [] h = bytes_nil
bytes_two (w ∷ ws) h =
    let low : w % 256 < 256 = omega arith in
    let high : w / 256 < 256 = omega (arith, h.0) in
    bytes_cons low (bytes_cons high (bytes_two ws h.1))

pub bytes_three : (v : ℕ) → Bytes (three_bytes v)
bytes_three v =
    let low : v % 256 < 256 = omega arith in
    let mid : v / 256 % 256 < 256 = omega arith in
    let high : v / 65536 % 256 < 256 = omega arith in
    bytes_cons low (bytes_cons mid (bytes_cons high bytes_nil))

-- ---- the records

bytes_record : (kind : ℕ) (b : List ℕ) → Words (length b ∷ kind ∷ []) → Bytes b → Bytes (record_of kind b)
bytes_record kind b h w = bytes_append (two_bytes (length b ∷ kind ∷ [])) b (bytes_two (length b ∷ kind ∷ []) h) w

-- a body of numbers of two bytes
bytes_numbers : (kind : ℕ) (ws : List ℕ) → Words (2 * length ws ∷ kind ∷ ws) → Bytes (record_of kind (two_bytes ws))
bytes_numbers kind ws h = bytes_record kind (two_bytes ws) (rw length_two (h.0, (h.1.0, tt))) (bytes_two ws h.1.1)

bytes_register : (a low high : ℕ) → a < 120 → Bytes (register_record a low high)
bytes_register a low high h =
    let b : a < 256 = omega arith in
    bytes_record 1 (register_body a low high) (omega arith) (bytes_cons b (bytes_three (low + 4096 * high)))

bytes_sequence : (k : ℕ) (s : Sequence) → k < 10 → all (sequence_range s) ≡ true → Bytes (sequence_record k s)
bytes_sequence k s h e =
    let q = passed (sequence_range s) e in
    bytes_numbers 2 (k ∷ s.pattern ∷ s.length ∷ s.start ∷ s.odd ∷ s.even ∷ s.mask ∷ []) (omega (arith, leb-true))

bytes_gate : (k : ℕ) (g : Gate) → k < 5 → all (gate_range g) ≡ true → Bytes (gate_record k g)
bytes_gate k g h e =
    let q = passed (gate_range g) e in
    bytes_numbers 4 (k ∷ g.on ∷ g.level ∷ g.toggle1 ∷ g.toggle2 ∷ []) (omega (arith, leb-true))

bytes_subck : (s : Subck) → all (subck_range s) ≡ true → Bytes (subck_record s)
bytes_subck s e =
    let q = passed (subck_range s) e in
    bytes_numbers 5 (s.level ∷ s.toggle1 ∷ s.toggle2 ∷ s.suppressed ∷ s.count ∷ []) (omega (arith, leb-true))

bytes_shutter : (k : ℕ) (s : Shutter) → k < 2 → all (shutter_range s) ≡ true → Bytes (shutter_record k s)
bytes_shutter k s h e =
    let q = passed (shutter_range s) e in
    bytes_numbers 6 (k ∷ s.active ∷ s.on_line ∷ s.on_pixel ∷ s.off_line ∷ s.off_pixel ∷ []) (omega (arith, leb-true))

pub mode-below : (m : Mode) → mode_number m < 3
mode-below Plain = omega arith
mode-below Sweep = omega arith
mode-below Multiplier = omega arith

bytes_region : (f : Field) (i : ℕ) → all (region_range (region_at f i)) ≡ true → Bytes (region_bytes f i)
bytes_region f i e =
    let q = passed (region_range (region_at f i)) e in
    let r = region_at f i in
    bytes_two (r.first ∷ r.sequence ∷ mode_number r.mode ∷ []) (omega (arith, leb-true, mode-below r.mode))

-- none, or at most so much, has two bytes
or_none-below : (x top : ℕ) → top < 65536 → eqb x none || leb x top ≡ true → x < 65536
or_none-below x top l e =
    ⊎_elim (λ h. omega (arith, eqb-true x none h)) (λ h. omega (arith, leb-true x top h)) (or_cases (eqb x none) (leb x top) e)

bytes_head : (f : Field) → all (field_range f) ≡ true → Bytes (field_head f)
bytes_head f e =
    let q = passed (field_range f) e in
    let g = or_none-below f.gate2 4094 (omega arith) q.0 in
    let s = or_none-below f.second 9 (omega arith) q.1.0 in
    by_cases (has_second_line f)
    (λ h. rw h (bytes_two (f.lines ∷ f.last ∷ f.gate ∷ f.gate2 ∷ f.second ∷ f.count ∷ []) (omega (arith, leb-true))))
    (λ h. rw h (bytes_two (f.lines ∷ f.last ∷ f.gate ∷ f.second ∷ f.count ∷ []) (omega (arith, leb-true))))

bytes_field : (f : Field) → all (field_range f) ≡ true → ((i : ℕ) → i < 7 → region_in f i ≡ true) → Bytes (field_record f)
bytes_field f e r =
    let n = region_count f in
    bytes_record 3 (field_body f n) (omega (arith, length-body f n, head_most (has_second_line f)))
    (bytes_append (field_head f) (chunks n (region_bytes f)) (bytes_head f e)
    (bytes_chunks n (region_bytes f) (λ i h. bytes_region f i (region_present f i (r i (omega arith)) (omega arith)))))

-- ---- the script

-- an array of n items, of which those present are written
bytes_items : {A : Type 0} (n : ℕ) (present : A → Bool) (written : ℕ → A → List ℕ) (d : A) (xs : List A)
    → ((k : ℕ) → k < n → present (get_or xs k d) ≡ true → Bytes (written k (get_or xs k d)))
    → Bytes (chunks n (λ k. cond (present (get_or xs k d)) (written k (get_or xs k d)) []))
bytes_items n present written d xs f =
    bytes_chunks n _ (λ k h. bytes_cond (present (get_or xs k d)) (written k (get_or xs k d)) (f k h))

bytes_part_of : (p : Profile) → Items p → (k : ℕ) → Bytes (script_part p k)
bytes_part_of p r zero = bytes_chunks 120 (register_chunk p.tables.registers) (λ i h. bytes_register i _ _ h)
bytes_part_of p r (suc zero) =
    let s : ℕ → Sequence = λ k. get_or p.tables.sequences k empty_sequence in
    bytes_items 10 (λ s. s.present) sequence_record empty_sequence p.tables.sequences
    (λ k h u. bytes_sequence k (s k) h (sequence_present (s k) (r.sequences k h) u))
bytes_part_of p r (suc (suc zero)) =
    bytes_cond p.field.present (field_record p.field) (λ u. bytes_field p.field (field_present p.field r.field u) r.regions)
bytes_part_of p r (suc (suc (suc zero))) =
    let g : ℕ → Gate = λ k. get_or p.tables.gates k empty_gate in
    bytes_items 5 (λ g. g.present) gate_record empty_gate p.tables.gates (λ k h u. bytes_gate k (g k) h (gate_present (g k) (r.gates k h) u))
bytes_part_of p r (suc (suc (suc (suc zero)))) =
    let s = p.tables.subck in
    bytes_cond s.present (subck_record s) (λ u. bytes_subck s (subck_present s r.subck u))
bytes_part_of p r (suc (suc (suc (suc (suc k))))) =
    let s : ℕ → Shutter = λ k. get_or p.tables.shutters k empty_shutter in
    bytes_items 2 (λ s. s.present) shutter_record empty_shutter p.tables.shutters
    (λ k h u. bytes_shutter k (s k) h (shutter_present (s k) (r.shutters k h) u))

pub bytes_fit : (p : Profile) → in_range p ≡ true → Bytes (write_script p)
bytes_fit p e = rw all-parts at (bytes_chunks kinds (script_part p) (λ k h. bytes_part_of p (items p e) k))
