-- Reading once more, as propositions in document 01's own words: a script is whole records one after the other, or stops at the first bytes that
-- are none. That reading gives exactly these answers is a theorem (proofs/Scripts.antt), so that no record can be passed over, taken twice or out
-- of order, and no fault can have another number, place or turn.
-- Assumes nothing.
use Rattle.std.specs.Prelude.{ℕ, ◌+◌, ◌*◌, ◌≤◌, ◌<◌, ◌≡◌, Bool, List, [], ◌∷◌, ◌++◌, length, get_or}
use Rattle.profile.specs.Lists.{Each}
use Rattle.profile.specs.Bytes.{number_at, record_of}
use Rattle.profile.specs.Values.{empty_sequence, empty_gate, empty_shutter, empty_profile, accepted, refused}
use Rattle.profile.specs.Obeys.{HalfRanged, SequenceRanged, FieldRanged, GateRanged, SubckRanged, ShutterRanged, Rule, FirstBroken}
use Rattle.profile.specs.Script.{
  kinds,
  head_length,
  region_length,
  most_bytes,
  low_from,
  high_from,
  sequence_from,
  region_start,
  count_from,
  field_with,
  gate_from,
  subck_from,
  shutter_from,
  by_kind,
  with_record,
  body_of,
}
use Rattle.profile.specs.declared.Profile.{Profile}
use Rattle.profile.specs.declared.Verdict.{Verdict}
use Rattle.profile.specs.declared.Ruleset.{Ruleset}
use Rattle.profile.specs.Values.{ReadAnswer}

-- the kinds, and the body lengths of each; a field's by its form, whether it has a second gate line
abbrev pub Known : ℕ → Type 0
Known kind = (1 ≤ kind) × (kind ≤ kinds)

pub data Allowed : ℕ → ℕ → Type 0 where
  register_4 : Allowed 1 4
  sequence_14 : Allowed 2 14
  field_6n : (two : Bool) (n : ℕ) → 1 ≤ n → n ≤ 7 → Allowed 3 (head_length two + region_length * n)
  gate_10 : Allowed 4 10
  subck_10 : Allowed 5 10
  shutter_12 : Allowed 6 12

-- region i of a field's body: "first line 0..4094, sequence 0..9, mode 0 plain, 1 sweep, 2 multiplier"
abbrev pub RegionFits : ℕ → List ℕ → ℕ → Type 0
RegionFits head b i =
    (number_at b (region_start head i) ≤ 4094) × (number_at b (region_start head i + 2) ≤ 9) × (number_at b (region_start head i + 4) ≤ 2)

-- the values that a body of each kind can have; of a field, in the form that has its length
pub data Fits (b : List ℕ) : ℕ → Type 0 where
  fits_register : get_or b 0 0 ≤ 0x77 → HalfRanged (2 * get_or b 0 0) (low_from b) → HalfRanged (2 * get_or b 0 0 + 1) (high_from b) → Fits b 1
  fits_sequence : number_at b 0 ≤ 9 → SequenceRanged (sequence_from b) → Fits b 2
  fits_field : (two : Bool) → head_length two + region_length * count_from (head_length two) b ≡ length b → FieldRanged (field_with two b)
      → ((i : ℕ) → i < count_from (head_length two) b → RegionFits (head_length two) b i) → Fits b 3
  fits_gate : number_at b 0 ≤ 4 → GateRanged (gate_from b) → Fits b 4
  fits_subck : SubckRanged (subck_from b) → Fits b 5
  fits_shutter : number_at b 0 ≤ 1 → ShutterRanged (shutter_from b) → Fits b 6

-- a record that can be read: a known kind, a length that it allows, values in range
pub record Record : Type 0 where
  pub kind : ℕ
  pub body : List ℕ
  pub allowed : Allowed kind (length body)
  pub fits : Fits body kind

abbrev pub bytes_of : Record → List ℕ
bytes_of r = record_of r.kind r.body

abbrev pub script_of : List Record → List ℕ
script_of [] = []
script_of (r ∷ rs) = bytes_of r ++ script_of rs

-- "A later record for the same item replaces the earlier": each is put into the profile, in order
abbrev pub with_records : List Record → Profile → Profile
with_records [] p = p
with_records (r ∷ rs) p = with_records rs (with_record r.kind r.body p)

abbrev pub profile_of : List Record → Profile
profile_of rs = with_records rs empty_profile

-- the items that records are for; a register by its address, the others by their number
pub data Item : Type 0 where
  register : ℕ → Item
  sequence : ℕ → Item
  field : Item
  gate : ℕ → Item
  subck : Item
  shutter : ℕ → Item

-- the item of a record of a kind with a body
abbrev pub item_of : ℕ → List ℕ → Item
item_of kind b =
    by_kind kind (register (get_or b 0 0)) (sequence (number_at b 0)) field (gate (number_at b 0)) subck (shutter (number_at b 0))

-- no record of a list is for an item
abbrev pub NoneFor : Item → List Record → Type 0
NoneFor i = Each (λ r. item_of r.kind r.body ≡ i → ⊥)

-- two profiles have the same in an item; that the last record for an item decides, and one without a record is empty, is a theorem
-- (proofs/LastRecord.antt)
abbrev pub Same : Item → Profile → Profile → Type 0
Same (register a) p q =
    (get_or p.tables.registers (2 * a) 0 ≡ get_or q.tables.registers (2 * a) 0)
    × (get_or p.tables.registers (2 * a + 1) 0 ≡ get_or q.tables.registers (2 * a + 1) 0)
Same (sequence k) p q = get_or p.tables.sequences k empty_sequence ≡ get_or q.tables.sequences k empty_sequence
Same field p q = p.field ≡ q.field
Same (gate k) p q = get_or p.tables.gates k empty_gate ≡ get_or q.tables.gates k empty_gate
Same subck p q = p.tables.subck ≡ q.tables.subck
Same (shutter k) p q = get_or p.tables.shutters k empty_shutter ≡ get_or q.tables.shutters k empty_shutter

-- why no record starts bytes s, by its number: "header cut (2), kind (3), length (4), body cut (2), values (5)", each where those before it do
-- not hold
pub data Fault (s : List ℕ) : ℕ → Type 0 where
  header_cut : 1 ≤ length s → length s < 4 → Fault s 2
  kind_unknown : 4 ≤ length s → (Known (number_at s 2) → ⊥) → Fault s 3
  length_wrong : 4 ≤ length s → Known (number_at s 2) → (Allowed (number_at s 2) (number_at s 0) → ⊥) → Fault s 4
  body_cut : 4 ≤ length s → Allowed (number_at s 2) (number_at s 0) → length s < 4 + number_at s 0 → Fault s 2
  values_out : Allowed (number_at s 2) (number_at s 0) → 4 + number_at s 0 ≤ length s → (Fits (body_of s) (number_at s 2) → ⊥) → Fault s 5

-- a read that is refused gives its verdict and the empty profile
abbrev pub unread : Verdict → ReadAnswer
unread v = record { verdict = v; profile = empty_profile }

abbrev pub taken : Profile → ReadAnswer
taken p = record { verdict = accepted; profile = p }

-- what reading script s answers: "1; then record by record ..; then 6" and on, by the first broken rule of the profile that its records give
pub data Reads (rules : Ruleset) (s : List ℕ) : ReadAnswer → Type 0 where
  too_long : most_bytes < length s → Reads rules s (unread (refused 1 0))
  stopped : (rs : List Record) (rest : List ℕ) (n : ℕ) → length s ≤ most_bytes → s ≡ script_of rs ++ rest → Fault rest n
      → Reads rules s (unread (refused n (length (script_of rs))))
  broken : (rs : List Record) (v : Verdict) → length s ≤ most_bytes → s ≡ script_of rs → FirstBroken rules (profile_of rs) v → Reads rules s (unread v)
  obeyed : (rs : List Record) → length s ≤ most_bytes → s ≡ script_of rs → ((v : Verdict) → Rule rules (profile_of rs) v) → Reads rules s (taken (profile_of rs))
