-- What a profile in range is, test by test, and what that says of an item that is present (its ranges) and of one that is absent (it is the
-- empty one): each is one direction of what the item's test says (Carried).
-- Assumes nothing.
use mathlib.Core.Path.{◌≡◌}
use mathlib.Core.Bool.{true, false}
use Prim.Native.Nat.{ℕ, ◌<◌, ◌≤◌}
use borrow.Author.Tests.{lt-ltb, le-ltb}
use lib.Dec.{leb}
use lib.ListN.{get_or}
use Rattle.profile.specs.Lists.{all}
use Rattle.profile.specs.Values.{empty_region, empty_sequence, empty_gate, empty_subck, empty_shutter}
use Rattle.profile.specs.Geometry.{region_at, sequence_of, gate_of, shutter_of}
use Rattle.profile.specs.Layout.{half_limit}
use Rattle.profile.specs.Ranges.{
  sequence_range,
  field_range,
  region_range,
  gate_range,
  subck_range,
  shutter_range,
  sequence_in,
  region_in,
  head_in,
  gate_in,
  subck_in,
  shutter_in,
  in_range,
}
use Rattle.profile.specs.declared.Sequence.{Sequence}
use Rattle.profile.specs.declared.Field.{Field}
use Rattle.profile.specs.declared.Gate.{Gate}
use Rattle.profile.specs.declared.Subck.{Subck}
use Rattle.profile.specs.declared.Shutter.{Shutter}
use Rattle.profile.specs.declared.Profile.{Profile}
use Rattle.profile.proofs.Reflects.{Says, says_true}
use Rattle.profile.proofs.Carried.{
  sequence_says,
  gate_says,
  subck_says,
  shutter_says,
  field_says,
  region_says,
  sequence_in_lem,
  gate_in_lem,
  subck_in_lem,
  shutter_in_lem,
  region_in_lem,
  head_in_lem,
  says_parts,
}

-- the test of a whole profile, item by item
pub record Items (p : Profile) : Type 0 where
  pub halves : (i : ℕ) → i < 240 → leb (get_or p.tables.registers i 0) (half_limit i) ≡ true
  pub sequences : (k : ℕ) → k < 10 → sequence_in (sequence_of p.tables k) ≡ true
  pub gates : (k : ℕ) → k < 5 → gate_in (gate_of p.tables k) ≡ true
  pub subck : subck_in p.tables.subck ≡ true
  pub shutters : (k : ℕ) → k < 2 → shutter_in (shutter_of p.tables k) ≡ true
  pub field : head_in p.field ≡ true
  pub regions : (i : ℕ) → i < 7 → region_in p.field i ≡ true

says_items : (p : Profile) → Says (in_range p) (Items p)
says_items p =
    let w =
    says_parts p _ _ _ _ _ _ _ (λ i. says_true _) (λ k. says_true _) (λ k. says_true _) (says_true _) (λ k. says_true _) (says_true _)
    (λ i. says_true _) in (
      (λ e.
          let q = w.0 e in
          record {
            halves = q.0.0.0.0.0;
            sequences = q.0.0.0.0.1;
            gates = q.0.0.0.1;
            subck = q.0.0.1;
            shutters = q.0.1;
            field = q.1.0;
            regions = q.1.1;
          }),
      λ r. w.1 (((((r.halves, r.sequences), r.gates), r.subck), r.shutters), (r.field, r.regions)),
    )

pub items : (p : Profile) → in_range p ≡ true → Items p
items p = (says_items p).0

pub items_in : (p : Profile) → Items p → in_range p ≡ true
items_in p = (says_items p).1

-- ---- an item that is present

pub sequence_present : (s : Sequence) → sequence_in s ≡ true → s.present ≡ true → all (sequence_range s) ≡ true
sequence_present s e h = (sequence_says s).1 (((sequence_in_lem s).0 e).0 h)

pub gate_present : (g : Gate) → gate_in g ≡ true → g.present ≡ true → all (gate_range g) ≡ true
gate_present g e h = (gate_says g).1 (((gate_in_lem g).0 e).0 h)

pub subck_present : (s : Subck) → subck_in s ≡ true → s.present ≡ true → all (subck_range s) ≡ true
subck_present s e h = (subck_says s).1 (((subck_in_lem s).0 e).0 h)

pub shutter_present : (s : Shutter) → shutter_in s ≡ true → s.present ≡ true → all (shutter_range s) ≡ true
shutter_present s e h = (shutter_says s).1 (((shutter_in_lem s).0 e).0 h)

pub field_present : (f : Field) → head_in f ≡ true → f.present ≡ true → all (field_range f) ≡ true
field_present f e h = (field_says f).1 (((head_in_lem f).0 e).0 h)

-- n = 1..7
pub field_count : (f : Field) → all (field_range f) ≡ true → (1 ≤ f.count) × (f.count ≤ 7)
field_count f e = let w = (field_says f).0 e in (w.some_regions, w.most_regions)

-- ---- one that is absent

pub sequence_absent : (s : Sequence) → sequence_in s ≡ true → s.present ≡ false → s ≡ empty_sequence
sequence_absent s e = ((sequence_in_lem s).0 e).1

pub gate_absent : (g : Gate) → gate_in g ≡ true → g.present ≡ false → g ≡ empty_gate
gate_absent g e = ((gate_in_lem g).0 e).1

pub subck_absent : (s : Subck) → subck_in s ≡ true → s.present ≡ false → s ≡ empty_subck
subck_absent s e = ((subck_in_lem s).0 e).1

pub shutter_absent : (s : Shutter) → shutter_in s ≡ true → s.present ≡ false → s ≡ empty_shutter
shutter_absent s e = ((shutter_in_lem s).0 e).1

-- the numbers of an absent field
pub field_absent : (f : Field) → head_in f ≡ true → f.present ≡ false
    → (f.lines ≡ 0) × (f.last ≡ 0) × (f.gate ≡ 0) × (f.gate2 ≡ 0) × (f.second ≡ 0) × (f.count ≡ 0)
field_absent f e = ((head_in_lem f).0 e).1

-- ---- regions: given below n

module _ (f : Field) (i : ℕ) where
  pub region_present : region_in f i ≡ true → i < f.count → all (region_range (region_at f i)) ≡ true
  region_present e h = (region_says f i).1 (((region_in_lem f i).0 e).0 (lt-ltb i f.count h))

  pub region_absent : region_in f i ≡ true → f.count ≤ i → region_at f i ≡ empty_region
  region_absent e h = ((region_in_lem f i).0 e).1 (le-ltb i f.count h)

  -- the other way round
  pub region_inside : i < f.count → all (region_range (region_at f i)) ≡ true → region_in f i ≡ true
  unfolding region_in
  region_inside h e = rw (lt-ltb i f.count h) e

  pub region_past : f.count ≤ i → region_at f i ≡ empty_region → region_in f i ≡ true
  unfolding region_in all
  region_past h e = rw (le-ltb i f.count h, e)
