-- A profile is in range exactly where every number is one that a record can carry and every absent item is all zeros: each item's tests are its
-- sentences, by its presence, and the one test is taken apart item by item.
-- Assumes nothing.
use Prim.Native.Nat.{ℕ, ◌≤◌, ◌<◌}
use native.Mathlib.Nat.{le_trans}
use native.Mathlib.Omega.{arith}
use mathlib.Core.Path.{◌≡◌, refl, sym}
use mathlib.Core.Logic.{◌⊎◌}
use mathlib.Core.Bool.{Bool, true, false, cond, ◌||◌, false≢true}
use mathlib.Core.List.{List, [], ◌∷◌}
use lib.ListN.{get_or}
use lib.Dec.{leb, ltb, eqb}
use borrow.Author.Tests.{leb-true, le-leb}
use Rattle.profile.specs.Lists.{Each, all}
use Rattle.profile.specs.Geometry.{region_at, sequence_of, gate_of, shutter_of}
use Rattle.profile.specs.Layout.{half_part, part_limit, half_limit}
use Rattle.profile.specs.Ranges.{
  sequence_range,
  field_range,
  region_range,
  gate_range,
  subck_range,
  shutter_range,
  zeros,
  sequence_in,
  gate_in,
  subck_in,
  shutter_in,
  region_in,
  head_in,
  in_range,
}
use Rattle.profile.specs.Obeys.{
  SequenceRanged,
  FieldRanged,
  GateRanged,
  SubckRanged,
  ShutterRanged,
  RegionRanged,
  HalfRanged,
  Given,
  SequenceIn,
  GateIn,
  SubckIn,
  ShutterIn,
  Ranged,
}
use Rattle.profile.specs.Values.{none, empty_region}
use Rattle.profile.specs.declared.layout.Part.{Part}
use Rattle.profile.specs.declared.layout.Part.TheVariants.{Levels, Length, Toggle, Freeze, Resume}
use Rattle.profile.specs.declared.Sequence.{Sequence}
use Rattle.profile.specs.declared.Field.{Field}
use Rattle.profile.specs.declared.Gate.{Gate}
use Rattle.profile.specs.declared.Subck.{Subck}
use Rattle.profile.specs.declared.Shutter.{Shutter}
use Rattle.profile.specs.declared.Profile.{Profile}
use Rattle.profile.proofs.Laws.{passed, all-passed}
use Rattle.profile.proofs.Halves.{part_most}
use Rattle.profile.proofs.Reflects.{Says, says_eq, says_le, says_and, says_or, says_cons, says_each, says_map, says_plain}

-- ---- half registers

-- the two sentences on half registers give the one limit of each
part-within : (x : ℕ) (part : Part) → x ≤ 4095 → (part ≡ Levels → x ≤ 63) → x ≤ part_limit part
part-within x Levels a b = b refl
part-within x Length a b = a
part-within x (Toggle output toggle) a b = a
part-within x (Freeze pair) a b = a
part-within x (Resume pair) a b = a

pub says_half : (i x : ℕ) → Says (leb x (half_limit i)) (HalfRanged i x)
says_half i x = (
  (λ e.
      let w = leb-true x (half_limit i) e in
      record { bits = le_trans w (part_most (half_part i)); levels = λ z. rw z at w }),
  λ r. le-leb x (half_limit i) (part-within x (half_part i) r.bits r.levels),
)

-- ---- items, present and absent

-- numbers of an absent item
says_zeros : (l : List ℕ) → Says (all (zeros l)) (Each (λ x. x ≡ 0) l)
says_zeros = says_map (λ x. eqb x 0) (λ x. x ≡ 0) (λ x. says_eq x 0)

-- a present item's test is its range's; an absent item is the empty one
says_item : (present : Bool) {x y : Bool} {A B : Type 0} → Says x A → (present ≡ false → Says y B)
    → Says (cond present x y) (Given present A B)
says_item true f g = ((λ e. ((λ h. f.0 e), λ h. absurd (false≢true (sym h)))), λ w. f.1 (w.0 refl))
says_item false f g = ((λ e. ((λ h. absurd (false≢true h)), λ h. (g refl).0 e)), λ w. (g refl).1 (w.1 refl))

pub sequence_says : (s : Sequence) → Says (all (sequence_range s)) (SequenceRanged s)
sequence_says s = (
  (λ e. let w = passed (sequence_range s) e in omega (arith, leb-true)),
  λ w. all-passed (sequence_range s) (omega (arith, le-leb)),
)

pub gate_says : (g : Gate) → Says (all (gate_range g)) (GateRanged g)
gate_says g =
    ((λ e. let w = passed (gate_range g) e in omega (arith, leb-true)), λ w. all-passed (gate_range g) (omega (arith, le-leb)))

pub subck_says : (s : Subck) → Says (all (subck_range s)) (SubckRanged s)
subck_says s =
    ((λ e. let w = passed (subck_range s) e in omega (arith, leb-true)), λ w. all-passed (subck_range s) (omega (arith, le-leb)))

pub shutter_says : (s : Shutter) → Says (all (shutter_range s)) (ShutterRanged s)
shutter_says s = (
  (λ e. let w = passed (shutter_range s) e in omega (arith, leb-true)),
  λ w. all-passed (shutter_range s) (omega (arith, le-leb)),
)

-- a number that is none, or at most so much
or_none : (x top : ℕ) → Says (eqb x none || leb x top) ((x ≡ none) ⊎ (x ≤ top))
or_none x top = says_or (says_eq x none) (says_le x top)

pub field_says : (f : Field) → Says (all (field_range f)) (FieldRanged f)
field_says f = (
  (λ e.
      let w = passed (field_range f) e in
      record {
        second_line = (or_none f.gate2 4094).0 w.0;
        second = (or_none f.second 9).0 w.1.0;
        some_lines = omega (arith, leb-true);
        most_lines = omega (arith, leb-true);
        shortest = omega (arith, leb-true);
        longest = omega (arith, leb-true);
        gate = omega (arith, leb-true);
        some_regions = omega (arith, leb-true);
        most_regions = omega (arith, leb-true);
      }),
  λ w. all-passed (field_range f) ((or_none f.gate2 4094).1 w.second_line, ((or_none f.second 9).1 w.second, omega (arith, le-leb))),
)

pub region_says : (f : Field) (i : ℕ) → Says (all (region_range (region_at f i))) (RegionRanged (region_at f i))
region_says f i = (
  (λ e. let w = passed (region_range (region_at f i)) e in omega (arith, leb-true)),
  λ w. all-passed (region_range (region_at f i)) (omega (arith, le-leb)),
)

pub sequence_in_lem : (s : Sequence) → Says (sequence_in s) (SequenceIn s)
unfolding sequence_in all
sequence_in_lem s =
    says_item s.present (sequence_says s)
    (λ h. (
      (λ e.
          let z = (says_zeros (s.pattern ∷ s.length ∷ s.start ∷ s.odd ∷ s.even ∷ s.mask ∷ [])).0 e in
          λ i.
          record {
            present = h i;
            pattern = z.0 i;
            length = z.1.0 i;
            start = z.1.1.0 i;
            odd = z.1.1.1.0 i;
            even = z.1.1.1.1.0 i;
            mask = z.1.1.1.1.1.0 i;
          }),
      λ q. rw q,
    ))

pub gate_in_lem : (g : Gate) → Says (gate_in g) (GateIn g)
unfolding gate_in all
gate_in_lem g =
    says_item g.present (gate_says g)
    (λ h. (
      (λ e.
          let z = (says_zeros (g.on ∷ g.level ∷ g.toggle1 ∷ g.toggle2 ∷ [])).0 e in
          λ i. record { present = h i; on = z.0 i; level = z.1.0 i; toggle1 = z.1.1.0 i; toggle2 = z.1.1.1.0 i }),
      λ q. rw q,
    ))

pub subck_in_lem : (s : Subck) → Says (subck_in s) (SubckIn s)
unfolding subck_in all
subck_in_lem s =
    says_item s.present (subck_says s)
    (λ h. (
      (λ e.
          let z = (says_zeros (s.level ∷ s.toggle1 ∷ s.toggle2 ∷ s.suppressed ∷ s.count ∷ [])).0 e in
          λ i.
          record {
            present = h i;
            level = z.0 i;
            toggle1 = z.1.0 i;
            toggle2 = z.1.1.0 i;
            suppressed = z.1.1.1.0 i;
            count = z.1.1.1.1.0 i;
          }),
      λ q. rw q,
    ))

pub shutter_in_lem : (s : Shutter) → Says (shutter_in s) (ShutterIn s)
unfolding shutter_in all
shutter_in_lem s =
    says_item s.present (shutter_says s)
    (λ h. (
      (λ e.
          let z = (says_zeros (s.active ∷ s.on_line ∷ s.on_pixel ∷ s.off_line ∷ s.off_pixel ∷ [])).0 e in
          λ i.
          record {
            present = h i;
            active = z.0 i;
            on_line = z.1.0 i;
            on_pixel = z.1.1.0 i;
            off_line = z.1.1.1.0 i;
            off_pixel = z.1.1.1.1.0 i;
          }),
      λ q. rw q,
    ))

pub region_in_lem : (f : Field) (i : ℕ) → Says (region_in f i) (Given (ltb i f.count) (RegionRanged (region_at f i)) (region_at f i ≡ empty_region))
unfolding region_in all
region_in_lem f i =
    let r = region_at f i in
    says_item (ltb i f.count) (region_says f i)
    (λ h. (
      (λ e.
          let numbers = r.first ∷ r.sequence ∷ [] in
          let z = (says_cons (zeros numbers) (says_plain r.mode) (says_zeros numbers)).0 e in
          λ j. record { first = z.1.0 j; sequence = z.1.1.0 j; mode = z.0 j }),
      λ q. rw q,
    ))

pub head_in_lem : (f : Field)
    → Says (head_in f)
    (Given f.present (FieldRanged f) ((f.lines ≡ 0) × (f.last ≡ 0) × (f.gate ≡ 0) × (f.gate2 ≡ 0) × (f.second ≡ 0) × (f.count ≡ 0)))
unfolding head_in
head_in_lem f =
    says_item f.present (field_says f)
    (λ h. (
      (λ e.
          let z = (says_zeros (f.lines ∷ f.last ∷ f.gate ∷ f.gate2 ∷ f.second ∷ f.count ∷ [])).0 e in
          (z.0, z.1.0, z.1.1.0, z.1.1.1.0, z.1.1.1.1.0, z.1.1.1.1.1.0)),
      λ w. (says_zeros (f.lines ∷ f.last ∷ f.gate ∷ f.gate2 ∷ f.second ∷ f.count ∷ [])).1 (w.0, (w.1, (w.2, (w.3, (w.4, (w.5, tt)))))),
    ))

-- ---- the whole profile

module _ (p : Profile) (H S G U R : ℕ → Type 0) (K F : Type 0) where
  -- the one test, whatever its parts say
  pub says_parts : ((i : ℕ) → Says (leb (get_or p.tables.registers i 0) (half_limit i)) (H i))
      → ((k : ℕ) → Says (sequence_in (sequence_of p.tables k)) (S k))
      → ((k : ℕ) → Says (gate_in (gate_of p.tables k)) (G k))
      → Says (subck_in p.tables.subck) K
      → ((k : ℕ) → Says (shutter_in (shutter_of p.tables k)) (U k))
      → Says (head_in p.field) F
      → ((i : ℕ) → Says (region_in p.field i) (R i))
      → Says (in_range p)
      ((((((((i : ℕ) → i < 240 → H i) × ((k : ℕ) → k < 10 → S k)) × ((k : ℕ) → k < 5 → G k)) × K) × ((k : ℕ) → k < 2 → U k)))
      × (F × ((i : ℕ) → i < 7 → R i)))
  unfolding in_range
  says_parts h s g k u f r =
      says_and
      (says_and (says_and (says_and (says_and (says_each 240 _ H h) (says_each 10 _ S s)) (says_each 5 _ G g)) k) (says_each 2 _ U u))
      (says_and f (says_each 7 _ R r))

module _ (p : Profile) where
  abbrev half : ℕ → ℕ
  half i = get_or p.tables.registers i 0

  pub says_range : Says (in_range p) (Ranged p)
  says_range =
      let w =
      says_parts p (λ i. HalfRanged i (half i)) (λ k. SequenceIn (sequence_of p.tables k)) (λ k. GateIn (gate_of p.tables k))
      (λ k. ShutterIn (shutter_of p.tables k)) _ _ _ (λ i. says_half i (half i)) (λ k. sequence_in_lem _) (λ k. gate_in_lem _)
      (subck_in_lem p.tables.subck) (λ k. shutter_in_lem _) (head_in_lem p.field) (region_in_lem p.field) in (
        (λ e.
            let q = w.0 e in
            record {
              halves = q.0.0.0.0.0;
              sequences = q.0.0.0.0.1;
              gates = q.0.0.0.1;
              subck = q.0.0.1;
              shutters = q.0.1;
              field = record { head = q.1.0; regions = q.1.1 };
            }),
        λ r. w.1 (((((r.halves, r.sequences), r.gates), r.subck), r.shutters), (r.field.head, r.field.regions)),
      )
