-- What the check's acceptance says: the profile is in range, it has a field, and every rule holds. The list of rules is taken apart once, for
-- any claim; every rule has a number of refusal, so a list of rules without a broken one has them all.
-- Assumes nothing.
use mathlib.Core.Path.{◌≡◌, sym, ap, ◌∙◌}
use mathlib.Core.Bool.{true, false, not}
use mathlib.Core.List.{List, ◌∷◌, ◌++◌, flat_map, append-nil}
use lib.Dec.{eqb, lit≤}
use Prim.Native.Nat.{ℕ, ◌<◌}
use native.Mathlib.Omega.{arith}
use Rattle.profile.specs.Lists.{Each, chunks}
use Rattle.profile.specs.Values.{accepted, refused}
use Rattle.profile.specs.Geometry.{region_count}
use Rattle.profile.specs.Ranges.{in_range}
use Rattle.profile.specs.Rules.{
  Entry,
  rule,
  first_broken,
  order_entries,
  toggle_entries,
  run_entries,
  entries_at,
  region_entries,
  line_entries,
  gate_entries,
  subck_entries,
  shutter_entries,
  rules_of,
  entries_of,
  judge,
  check_profile,
}
use Rattle.profile.specs.declared.Mode.{Mode}
use Rattle.profile.specs.declared.Sequence.{Sequence}
use Rattle.profile.specs.declared.Pattern.{Pattern}
use Rattle.profile.specs.declared.Tables.{Tables}
use Rattle.profile.specs.declared.Field.{Field}
use Rattle.profile.specs.declared.Profile.{Profile}
use Rattle.profile.specs.declared.Verdict.{Verdict}
use Rattle.profile.specs.declared.Ruleset.{Ruleset}
use Rattle.profile.proofs.Laws.{by_cases, each_append, each_left, each_right, each_chunks, each_chunk}
use Rattle.profile.proofs.Entries.{Numbered, number_accepted}

refused-accepted : {A : Type 0} (n at : ℕ) → 0 < n → refused n at ≡ accepted → A
refused-accepted n at h e = absurd (omega (arith, ap (λ (v : Verdict). v.number) e))

-- ---- the check, then the judging

pub check_range : (rules : Ruleset) (p : Profile) → check_profile rules p ≡ accepted → in_range p ≡ true
unfolding check_profile
check_range rules p e = by_cases (in_range p) (λ h. h) (λ h. refused-accepted 5 0 (omega arith) (rw h at e))

pub check_judge : (rules : Ruleset) (p : Profile) → in_range p ≡ true → check_profile rules p ≡ judge rules p
unfolding check_profile
check_judge rules p h = rw h

-- there is one place, and its field's rules are the rest
pub judge_entries : (rules : Ruleset) (p : Profile) → judge rules p ≡ first_broken (rule 6 0 p.field.present ∷ rules_of rules p.tables p.field)
unfolding judge entries_of flat_map
judge_entries rules p = rw append-nil

-- ---- a claim of every rule, part by part

module _ (P : Entry → Type 0) where
  pub record EachAt (i : ℕ) (m : Mode) (s : Sequence) (a : Pattern) (size : ℕ) : Type 0 where
    pub given : P (rule 8 i s.present)
    pub length : P (rule 9 i (not (eqb a.length 0)))
    pub toggles : (k : ℕ) → k < 6 → Each P (toggle_entries i m a k)
    pub runs : Each P (run_entries i m s a size)

  pub record EachRule (t : Tables) (f : Field) : Type 0 where
    pub order : (i : ℕ) → i < region_count f → Each P (order_entries f i)
    pub region : (i : ℕ) → i < region_count f → Each P (region_entries t f i)
    pub lines : Each P (line_entries t f)
    pub gates : (k : ℕ) → k < 5 → Each P (gate_entries t f k)
    pub subck : Each P (subck_entries t)
    pub shutters : (k : ℕ) → k < 2 → Each P (shutter_entries t f k)

  module _ (i : ℕ) (m : Mode) (s : Sequence) (a : Pattern) (size : ℕ) where
    abbrev outputs : List Entry
    outputs = chunks 6 (toggle_entries i m a)

    abbrev run : List Entry
    run = run_entries i m s a size

    pub at-parts : Each P (entries_at i m s a size) → EachAt i m s a size
    unfolding entries_at
    at-parts w =
        record {
          given = w.0;
          length = w.1.0;
          toggles = each_chunk P 6 (toggle_entries i m a) (each_left P outputs run w.1.1);
          runs = each_right P outputs run w.1.1;
        }

    pub parts_at : EachAt i m s a size → Each P (entries_at i m s a size)
    unfolding entries_at
    parts_at w = (w.given, (w.length, each_append P outputs run (each_chunks P 6 (toggle_entries i m a) w.toggles) w.runs))

  module _ (t : Tables) (f : Field) where
    abbrev order : List Entry
    order = chunks (region_count f) (order_entries f)

    abbrev regions : List Entry
    regions = chunks (region_count f) (region_entries t f)

    abbrev gates : List Entry
    gates = chunks 5 (gate_entries t f)

    abbrev shutters : List Entry
    shutters = chunks 2 (shutter_entries t f)

    abbrev to-14 : List Entry
    to-14 = order ++ regions ++ line_entries t f

    abbrev to-16 : List Entry
    to-16 = to-14 ++ gates ++ subck_entries t

    pub rules_parts : (rules : Ruleset) → Each P (rules_of rules t f) → EachRule t f
    unfolding rules_of
    rules_parts rules w =
        let w16 = each_left P to-16 shutters w in
        let w15 = each_left P (to-14 ++ gates) (subck_entries t) w16 in
        let w14 = each_left P to-14 gates w15 in
        let w13 = each_left P (order ++ regions) (line_entries t f) w14 in
        record {
          order = each_chunk P (region_count f) (order_entries f) (each_left P order regions w13);
          region = each_chunk P (region_count f) (region_entries t f) (each_right P order regions w13);
          lines = each_right P (order ++ regions) (line_entries t f) w14;
          gates = each_chunk P 5 (gate_entries t f) (each_right P to-14 gates w15);
          subck = each_right P (to-14 ++ gates) (subck_entries t) w16;
          shutters = each_chunk P 2 (shutter_entries t f) (each_right P to-16 shutters w);
        }

    pub parts-rules : (rules : Ruleset) → EachRule t f → Each P (rules_of rules t f)
    unfolding rules_of
    parts-rules rules w =
        each_append P to-16 shutters
        (each_append P (to-14 ++ gates) (subck_entries t)
        (each_append P to-14 gates
        (each_append P (order ++ regions) (line_entries t f)
        (each_append P order regions (each_chunks P (region_count f) (order_entries f) w.order)
        (each_chunks P (region_count f) (region_entries t f) w.region))
        w.lines)
        (each_chunks P 5 (gate_entries t f) w.gates))
        w.subck)
        (each_chunks P 2 (shutter_entries t f) w.shutters)

-- ---- every rule has a number

pub numbered_at : (i : ℕ) (m : Mode) (s : Sequence) (a : Pattern) (size : ℕ) → Numbered (entries_at i m s a size)
numbered_at i m s a size =
    parts_at _ i m s a size
    (record {
      given = lit≤ tt;
      length = lit≤ tt;
      toggles = λ k h. (lit≤ tt, (lit≤ tt, tt));
      runs = (lit≤ tt, (lit≤ tt, (lit≤ tt, tt)));
    })

pub numbered_lines : (t : Tables) (f : Field) → Numbered (line_entries t f)
unfolding line_entries
numbered_lines t f = (lit≤ tt, (lit≤ tt, tt))

pub numbered_rules : (rules : Ruleset) (t : Tables) (f : Field) → Numbered (rules_of rules t f)
numbered_rules rules t f =
    parts-rules _ t f rules
    (record {
      order = λ i h. (lit≤ tt, tt);
      region = λ i h. numbered_at i _ _ _ _;
      lines = numbered_lines t f;
      gates = λ k h. (lit≤ tt, tt);
      subck = (lit≤ tt, tt);
      shutters = λ k h. (lit≤ tt, tt);
    })

-- a judgement of number 0 is `accepted`: there is no other with that number
pub judge_number : (rules : Ruleset) (p : Profile) → (judge rules p).number ≡ 0 → judge rules p ≡ accepted
judge_number rules p e =
    rw judge_entries (number_accepted _ (lit≤ tt, numbered_rules rules p.tables p.field) (rw judge_entries at e))

-- there is no other verdict of number 0
pub check_number : (rules : Ruleset) (p : Profile) → (check_profile rules p).number ≡ 0 → check_profile rules p ≡ accepted
unfolding check_profile
check_number rules p z =
    by_cases (in_range p)
    (λ h. let e = check_judge rules p h in e ∙ judge_number rules p (sym (ap (λ (v : Verdict). v.number) e) ∙ z))
    (λ h. absurd (out_of_range rules p h z))
  where
    out_of_range : (rules : Ruleset) (p : Profile) → in_range p ≡ false → (check_profile rules p).number ≡ 0 → ⊥
    out_of_range rules p h z = let w : ◌≡◌ {A = ℕ} 5 0 = rw h at z in omega arith
