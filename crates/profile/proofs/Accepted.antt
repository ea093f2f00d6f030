-- A profile is accepted exactly where every rule holds at every place, and is refused with the verdict of the first that does not
-- (specs/Obeys.antt). Each entry's test is reflected (Reflects), and the entries rise in the stated order, which is computed over the list.
-- Assumes nothing.
use Prim.Native.Nat.{ℕ, zero, suc, ◌+◌, ◌-◌, ◌*◌, ◌≤◌, ◌<◌}
use native.Mathlib.Nat.{add-sub_cancel}
use native.Mathlib.Omega.{arith}
use mathlib.Core.Path.{◌≡◌, refl, sym, ap, subst, ◌∙◌}
use mathlib.Core.Logic.{◌↔◌, ◌⊎◌, inl, inr}
use mathlib.Core.Bool.{Bool, true, false, not, ◌&&◌, ◌||◌, false≢true}
use mathlib.Core.List.{List, [], ◌∷◌, ◌++◌, map}
use lib.ListN.{length, get_or}
use lib.Dec.{ltb, leb, eqb, lit≤}
use borrow.Author.Tests.{ltb-true, ltb-false, eqb-true, eqb-false, eq-eqb, ne_eqb}
use Rattle.profile.specs.Lists.{Each, all, chunks}
use Rattle.profile.specs.Values.{none, accepted, refused}
use Rattle.profile.specs.Patterns.{row_of, used, in_order}
use Rattle.profile.specs.Geometry.{region_count, region_at, first_line, Ordered, gate_of, shutter_of, sequence_at, pattern_at, line_length, region_size, gate_lines}
use Rattle.profile.specs.Rules.{
  Entry,
  rule,
  first_broken,
  starts_right,
  has_second,
  second_of,
  second_right,
  lines_right,
  gate_right,
  toggle_rule,
  row_entries,
  order_entries,
  entries_at,
  region_entries,
  line_entries,
  gate_entries,
  subck_entries,
  shutter_entries,
  rules_of,
  check_profile,
}
use Rattle.profile.specs.Ranges.{in_range}
use Rattle.profile.specs.Obeys.{Used, InOrder, Seconds, Differ, Starts, Pulses, FieldRule, Rule, turn, rank, Ahead, Earlier, FirstBroken}
use Rattle.profile.specs.declared.Mode.{Mode}
use Rattle.profile.specs.declared.Sequence.{Sequence}
use Rattle.profile.specs.declared.Pattern.{Pattern}
use Rattle.profile.specs.declared.Tables.{Tables}
use Rattle.profile.specs.declared.Field.{Field}
use Rattle.profile.specs.declared.Profile.{Profile}
use Rattle.profile.specs.declared.Verdict.{Verdict}
use Rattle.profile.specs.declared.Ruleset.{Ruleset}
use Rattle.profile.proofs.Laws.{by_cases, two_or_three, each_map, each_append, each_right}
use Rattle.profile.proofs.Checked.{check_range, judge_entries, numbered_rules, EachAt, at-parts, parts_at, rules_parts, parts-rules}
use Rattle.profile.proofs.Entries.{Numbered, Hold, hold_accepted}
use Rattle.profile.proofs.Lines.{regions_some}
use Rattle.profile.proofs.Carried.{says_range}
use Rattle.profile.proofs.Reflects.{Says, says_lt, says_le, says_true, says_ne, says_and, says_where, says_map, says_differ, says_used, says_toggle, says_mask, says_counts, says_ends, says_second, says_gate, says_subck, says_shutter}

-- ---- the first entry that does not hold

pub record First (es : List Entry) : Type 0 where
  pub before : List Entry
  pub entry : Entry
  pub after : List Entry
  pub there : es ≡ before ++ entry ∷ after
  pub hold : Hold before
  pub broken : entry.holds ≡ false
  pub named : first_broken es ≡ entry.verdict

-- none is broken, or there is a first
first_broken_lem : (es : List Entry) → Hold es ⊎ First es
unfolding first_broken
first_broken_lem [] = inl tt
first_broken_lem (e ∷ es) = by_cases e.holds (λ h. later h (first_broken_lem es)) (λ h. inr (here h))
  where
    later : e.holds ≡ true → Hold es ⊎ First es → Hold (e ∷ es) ⊎ First (e ∷ es)
    later h (inl w) = inl (h, w)
    later h (inr w) =
        inr
        (record {
          before = e ∷ w.before;
          entry = w.entry;
          after = w.after;
          there = ap (λ (l : List Entry). e ∷ l) w.there;
          hold = (h, w.hold);
          broken = w.broken;
          named = rw h w.named;
        })

    here : e.holds ≡ false → First (e ∷ es)
    here h = record { before = []; entry = e; after = es; there = refl; hold = tt; broken = h; named = rw h }

-- ---- the order

-- an entry's rank as one number
abbrev key : Entry → ℕ
key e =
    160000 * turn e.verdict.number + 8000 * e.verdict.place + 400 * e.verdict.number + 20 * e.verdict.output + e.verdict.toggle

small : Verdict → Bool
small v = ltb v.number 20 && ltb v.place 20 && ltb v.output 20 && ltb v.toggle 20

abbrev Small : Verdict → Type 0
Small v = (v.number < 20) × (v.place < 20) × (v.output < 20) × (v.toggle < 20)

says_small : (v : Verdict) → small v ≡ true → Small v
unfolding small
says_small v e =
    let w = says_and (says_and (says_and (says_lt v.number 20) (says_lt v.place 20)) (says_lt v.output 20)) (says_lt v.toggle 20) in
    let q = w.0 e in
    (q.0.0.0, q.0.0.1, q.0.1, q.1)

earlier_less : (d e : Entry) → Small d.verdict → Earlier d.verdict e.verdict → key d < key e
earlier_less d e s (inl h) = omega (arith, s.0, s.1, s.2, s.3)
earlier_less d e s (inr (t, inl h)) = omega (arith, s.0, s.1, s.2, s.3)
earlier_less d e s (inr (t, inr (p, inl h))) = omega (arith, s.0, s.1, s.2, s.3)
earlier_less d e s (inr (t, inr (p, inr (n, inl h)))) = omega (arith, s.0, s.1, s.2, s.3)
earlier_less d e s (inr (t, inr (p, inr (n, inr (o, inl h))))) = omega (arith, s.0, s.1, s.2, s.3)
earlier_less d e s (inr (t, inr (p, inr (n, inr (o, inr h))))) = absurd h.1

-- the entries' keys never fall from k on
rising : ℕ → List Entry → Bool
rising k [] = true
rising k (e ∷ es) = leb k (key e) && small e.verdict && rising (key e) es

abbrev Above : ℕ → Entry → Type 0
Above k e = (k ≤ key e) × Small e.verdict

rising_says : (k : ℕ) (e : Entry) (es : List Entry) → rising k (e ∷ es) ≡ true → Above k e × (rising (key e) es ≡ true)
unfolding rising
rising_says k e es r =
    let w = says_and (says_and (says_le k (key e)) (says_true (small e.verdict))) (says_true (rising (key e) es)) in
    let q = w.0 r in
    ((q.0.0, says_small e.verdict q.0.1), q.1)

rising_above : (k : ℕ) (es : List Entry) → rising k es ≡ true → Each (Above k) es
rising_above k [] r = tt
rising_above k (e ∷ es) r =
    let w = rising_says k e es r in
    (w.0, each_map (Above (key e)) (Above k) (λ d v. (omega (arith, v.0, w.0.0), v.1)) es (rising_above (key e) es w.1))

-- from an entry on, all are at or above it
rising_from : (k : ℕ) (before : List Entry) (e : Entry) (after : List Entry) → rising k (before ++ e ∷ after) ≡ true
    → Each (Above (key e)) (e ∷ after)
rising_from k [] e after r = let w = rising_says k e after r in ((omega arith, w.0.1), rising_above (key e) after w.1)
rising_from k (d ∷ before) e after r = rising_from (key d) before e after (rising_says k d (before ++ e ∷ after) r).1

-- of two numbers, one is less, or they are the same
less_or : {P : Type 0} (a b : ℕ) → (a < b → P) → (b < a → P) → (a ≡ b → P) → P
less_or a b f g h =
    by_cases (ltb a b)
    (λ q. f (ltb-true a b q))
    (λ q. by_cases (ltb b a) (λ r. g (ltb-true b a r)) (λ r. h (omega (arith, ltb-false a b q, ltb-false b a r))))

-- of two lists of one length, one is ahead, or they are the same
same_list : (xs ys : List ℕ) → length xs ≡ length ys → (Ahead xs ys → ⊥) → (Ahead ys xs → ⊥) → xs ≡ ys
same_list [] [] l a b = refl
same_list [] (y ∷ ys) l a b = absurd (omega arith)
same_list (x ∷ xs) [] l a b = absurd (omega arith)
same_list (x ∷ xs) (y ∷ ys) l a b =
    less_or x y (λ h. absurd (a (inl h))) (λ h. absurd (b (inl h)))
    (λ e.
    ap (λ (z : ℕ). z ∷ xs) e
    ∙ ap (λ (zs : List ℕ). y ∷ zs) (same_list xs ys (omega arith) (λ h. a (inr (e, h))) (λ h. b (inr (sym e, h)))))

-- a verdict by its rank
abbrev ranked : List ℕ → Verdict
ranked r = record { number = get_or r 2 0; place = get_or r 1 0; output = get_or r 3 0; toggle = get_or r 4 0 }

-- of two verdicts, one names an earlier rule, or they are the same
same_rule : (v w : Verdict) → (Earlier v w → ⊥) → (Earlier w v → ⊥) → v ≡ w
same_rule v w a b = ap ranked (same_list (rank v) (rank w) refl a b)

-- an entry that answers v holds
abbrev At : Verdict → Entry → Type 0
At v e = e.verdict ≡ v → e.holds ≡ true

-- toggle 2 or 3 of an output has its entry
each_toggle : (P : Entry → Type 0) (i : ℕ) (uses : ℕ → Bool) (row : List ℕ) (k j : ℕ) → (j ≡ 2) ⊎ (j ≡ 3) → Each P (row_entries i uses row k)
    → P (toggle_rule i uses row k j)
each_toggle P i uses row k j d w = two_or_three (λ m. P (toggle_rule i uses row k m)) w.0 w.1.0 j d

-- ---- each test says its row

says_starts : (f : Field) (i : ℕ) → Says (starts_right f i) (Starts f i)
unfolding starts_right
says_starts f zero =
    let w = says_and (says_lt (first_line f 0) f.lines) (eqb-true (first_line f 0) 0, eq-eqb (first_line f 0) 0) in
    ((λ e. ((w.0 e).0, (λ z. (w.0 e).1), λ n. absurd (n refl))), λ s. w.1 (s.0, s.1 refl))
says_starts f (suc i) =
    let n : suc i ≡ 0 → ⊥ = omega arith in
    let w = says_and (says_lt (first_line f (suc i)) f.lines) (says_lt (first_line f (suc i - 1)) (first_line f (suc i))) in
    rw (ne_eqb (suc i) 0 n) ((λ e. ((w.0 e).0, (λ z. absurd (n z)), λ m. (w.0 e).1)), λ s. w.1 (s.0, s.2 n))

-- ---- the rules of a field

module _ (rules : Ruleset) (t : Tables) (f : Field) where
  says_lines : Says (lines_right f) (Each (λ g. g < f.lines) (gate_lines f) × Differ (gate_lines f))
  unfolding lines_right
  says_lines = says_and (says_map _ _ (λ g. says_lt g f.lines) (gate_lines f)) (says_differ (gate_lines f))

  says_seconds :
      Says (not (has_second f) || all (map (second_right t f (second_of t f)) (gate_lines f)))
      ((f.second ≡ none → ⊥) → Each (Seconds t f (second_of t f)) (gate_lines f))
  says_seconds = says_where (says_ne f.second none) (says_map _ _ (says_second t f (second_of t f)) (gate_lines f))

  says_pulses : (k : ℕ)
      → Says (all (map (λ (g : ℕ). gate_right (gate_of t k) (line_length t f g)) (gate_lines f)))
      (Each (λ g. Pulses (gate_of t k) (line_length t f g)) (gate_lines f))
  says_pulses k = says_map _ _ (λ g. says_gate (gate_of t k) (line_length t f g)) (gate_lines f)

  module _ (i : ℕ) where
    abbrev mode : Mode
    mode = (region_at f i).mode

    abbrev sequence : Sequence
    sequence = sequence_at t f i

    abbrev pattern : Pattern
    pattern = pattern_at t f i

    says-toggles : (k j : ℕ)
        → Says (in_order (used mode pattern.length) (row_of pattern.toggles k) j)
        (InOrder (Used mode pattern.length) (row_of pattern.toggles k) j)
    says-toggles k j = says_toggle _ _ (says_used mode pattern.length) (row_of pattern.toggles k) j

  -- ---- a rule that holds passes its tests

  abbrev Passes : Entry → Type 0
  Passes e = FieldRule rules t f e.verdict → e.holds ≡ true

  passes_region : (i : ℕ) → i < region_count f → Each Passes (region_entries t f i)
  passes_region i h =
      parts_at Passes i (mode i) (sequence i) (pattern i) (region_size t f i)
      (record {
        given = λ r. r.sequence_given i refl h;
        length = λ r. (says_ne (pattern i).length 0).1 (r.pattern-length i refl h);
        toggles = λ k l. (
          (λ r. (says-toggles i k 2).1 (r.toggle_order i k 2 refl h l (inl refl))),
          ((λ r. (says-toggles i k 3).1 (r.toggle_order i k 3 refl h l (inr refl))), tt),
        );
        runs = (
          (λ r. (says_mask (mode i) (sequence i).mask (pattern i)).1 (r.mask i refl h)),
          (
            (λ r. (says_counts (mode i) (sequence i) (pattern i)).1 (r.repetitions i refl h)),
            ((λ r. (says_ends (mode i) (sequence i) (pattern i) (region_size t f i)).1 (r.run_ends i refl h)), tt),
          ),
        );
      })

  passes_lines : Each Passes (line_entries t f)
  unfolding line_entries
  passes_lines = ((λ r. let w = r.gate_line refl in says_lines.1 (w.inside, w.differ)), ((λ r. says_seconds.1 (r.gate_line refl).second), tt))

  passes_rules : Each Passes (rules_of rules t f)
  passes_rules =
      parts-rules Passes t f rules
      (record {
        order = λ i h. ((λ r. (says_starts f i).1 (r.region_order i refl h)), tt);
        region = passes_region;
        lines = passes_lines;
        gates = λ k h. ((λ r. (says_pulses k).1 (r.gate_pulse k refl h)), tt);
        subck = ((λ r. (says_subck t.subck).1 (r.subck refl)), tt);
        shutters = λ k h. ((λ r. (says_shutter t f (shutter_of t k)).1 (r.shutter k refl h)), tt);
      })

  -- ---- a rule whose tests pass holds

  holds_field : (v : Verdict) → Each (At v) (rules_of rules t f) → FieldRule rules t f v
  unfolding line_entries
  holds_field v w =
      let all = rules_parts (At v) t f rules w in
      let region : (i : ℕ) → i < region_count f → EachAt (At v) i (mode i) (sequence i) (pattern i) (region_size t f i) =
      λ i h. at-parts (At v) i (mode i) (sequence i) (pattern i) (region_size t f i) (all.region i h) in
      record {
        region_order = λ i e h. (says_starts f i).0 ((all.order i h).0 (sym e));
        sequence_given = λ i e h. (region i h).given (sym e);
        pattern-length = λ i e h. (says_ne (pattern i).length 0).0 ((region i h).length (sym e));
        toggle_order = λ i k j e h l d.
            (says-toggles i k j).0
            (each_toggle (At v) i (used (mode i) (pattern i).length) (row_of (pattern i).toggles k) k j d ((region i h).toggles k l) (sym e));
        mask = λ i e h. (says_mask (mode i) (sequence i).mask (pattern i)).0 ((region i h).runs.0 (sym e));
        repetitions = λ i e h. (says_counts (mode i) (sequence i) (pattern i)).0 ((region i h).runs.1.0 (sym e));
        run_ends = λ i e h. (says_ends (mode i) (sequence i) (pattern i) (region_size t f i)).0 ((region i h).runs.1.1.0 (sym e));
        gate_line = λ e.
            let lines = says_lines.0 (all.lines.0 (sym e)) in
            record { inside = lines.0; differ = lines.1; second = says_seconds.0 (all.lines.1.0 (sym e)) };
        gate_pulse = λ k e h. (says_pulses k).0 ((all.gates k h).0 (sym e));
        subck = λ e. (says_subck t.subck).0 (all.subck.0 (sym e));
        shutter = λ k e h. (says_shutter t f (shutter_of t k)).0 ((all.shutters k h).0 (sym e));
      }

-- ---- the rules of a profile

module _ (rules : Ruleset) (p : Profile) where
  -- 5, 6, then 7 to 17
  abbrev checks : List Entry
  checks = rule 5 0 (in_range p) ∷ rule 6 0 p.field.present ∷ rules_of rules p.tables p.field

  check_entries : check_profile rules p ≡ first_broken checks
  unfolding check_profile first_broken
  check_entries = rw judge_entries

  numbered : Numbered checks
  numbered = (lit≤ tt, (lit≤ tt, numbered_rules rules p.tables p.field))

  abbrev Passed : Entry → Type 0
  Passed e = Rule rules p e.verdict → e.holds ≡ true

  passes : Each Passed checks
  passes = (
    (λ r. (says_range p).1 (r.values refl)),
    (
      (λ r. (r.field_given refl).0),
      each_map (Passes rules p.tables p.field) Passed (λ e h r. h r.fields.0) (rules_of rules p.tables p.field)
          (passes_rules rules p.tables p.field),
    ),
  )

  holds : (v : Verdict) → Each (At v) checks → Rule rules p v
  holds v w =
      record {
        values = λ e. (says_range p).0 (w.0 (sym e));
        field_given = λ e. (w.1.0 (sym e), tt);
        fields = (holds_field rules p.tables p.field v w.1.1, tt);
      }

  -- ---- the entries rise in the stated order, whatever the number of regions

  rising_rules : (n : ℕ) → n ≤ 7
      → rising 0
      (rule 5 0 (in_range p)
      ∷ rule 6 0 p.field.present
      ∷ (chunks n (order_entries p.field)
      ++ chunks n (region_entries p.tables p.field)
      ++ line_entries p.tables p.field
      ++ chunks 5 (gate_entries p.tables p.field)
      ++ subck_entries p.tables
      ++ chunks 2 (shutter_entries p.tables p.field)))
      ≡ true
  unfolding rising small chunks entries_at line_entries
  rising_rules zero h = refl
  rising_rules (suc zero) h = refl
  rising_rules (suc (suc zero)) h = refl
  rising_rules (suc (suc (suc zero))) h = refl
  rising_rules (suc (suc (suc (suc zero)))) h = refl
  rising_rules (suc (suc (suc (suc (suc zero))))) h = refl
  rising_rules (suc (suc (suc (suc (suc (suc zero)))))) h = refl
  rising_rules (suc (suc (suc (suc (suc (suc (suc zero))))))) h = refl
  rising_rules (suc (suc (suc (suc (suc (suc (suc (suc n)))))))) h = absurd (omega arith)

  rises : rising 0 checks ≡ true
  unfolding rules_of
  rises = rising_rules (region_count p.field) (omega arith)

  -- ---- the first broken entry is the first broken rule

  module _ (w : First checks) where
    abbrev at : Verdict
    at = w.entry.verdict

    not-before : (v : Verdict) → Earlier v at → (d : Entry) → Above (key w.entry) d → At v d
    not-before v e d a z =
        absurd (omega (arith, a.0, earlier_less d w.entry a.1 (subst (λ (u : Verdict). Earlier u at) (sym z) e)))

    first_is : FirstBroken rules p at
    first_is =
        record {
          broken = λ r.
              let q = (each_right Passed w.before (w.entry ∷ w.after) (subst (λ (es : List Entry). Each Passed es) w.there passes)).0 in
              false≢true (sym w.broken ∙ q r);
          before = λ v e.
              holds v
              (subst (λ (es : List Entry). Each (At v) es) (sym w.there)
              (each_append (At v) w.before (w.entry ∷ w.after)
              (each_map (λ d. d.holds ≡ true) (At v) (λ d h z. h) w.before w.hold)
              (each_map (Above (key w.entry)) (At v) (not-before v e) (w.entry ∷ w.after)
              (rising_from 0 w.before w.entry w.after
              (subst (λ (es : List Entry). rising 0 es ≡ true) w.there rises)))));
        }

  -- every rule holds, or one is the first that does not
  abbrev pub Judged : Verdict → Type 0
  Judged v = (((w : Verdict) → Rule rules p w) × (v ≡ accepted)) ⊎ FirstBroken rules p v

  pub check_judged : Judged (check_profile rules p)
  check_judged = subst Judged (sym check_entries) (go (first_broken_lem checks))
    where
      go : Hold checks ⊎ First checks → Judged (first_broken checks)
      go (inl h) = inl (
        (λ v. holds v (each_map (λ d. d.holds ≡ true) (At v) (λ d h z. h) checks h)),
        hold_accepted checks h,
      )
      go (inr w) = inr (subst (FirstBroken rules p) (sym w.named) (first_is w))

  -- no rule has the number 0
  rule_0 : (v : Verdict) → v.number ≡ 0 → Rule rules p v
  rule_0 v z =
      holds v
      (each_map (λ e. 1 ≤ e.verdict.number) (At v)
      (λ e h q. absurd (omega (arith, h, ap (λ (u : Verdict). u.number) q, z))) checks numbered)

-- ---- the whole check

-- "A profile is accepted exactly when it breaks no rule of 01"
pub accepted_exactly : (rules : Ruleset) (p : Profile) → (check_profile rules p ≡ accepted) ↔ ((v : Verdict) → Rule rules p v)
accepted_exactly rules p = ((λ e. to e (check_judged rules p)), λ r. from r (check_judged rules p))
  where
    to : check_profile rules p ≡ accepted → Judged rules p (check_profile rules p) → (v : Verdict) → Rule rules p v
    to e (inl w) = w.0
    to e (inr w) = absurd ((subst (FirstBroken rules p) e w).broken (rule_0 rules p accepted refl))

    from : ((v : Verdict) → Rule rules p v) → Judged rules p (check_profile rules p) → check_profile rules p ≡ accepted
    from r (inl w) = w.1
    from r (inr w) = absurd (w.broken (r (check_profile rules p)))

-- "else the first broken rule in the stated order is named": its number and its place, and of 10 the output and the toggle
pub refused_exactly : (rules : Ruleset) (p : Profile) (v : Verdict) → 1 ≤ v.number → (check_profile rules p ≡ v) ↔ FirstBroken rules p v
refused_exactly rules p v h = ((λ e. to e (check_judged rules p)), λ b. from b (check_judged rules p))
  where
    to : check_profile rules p ≡ v → Judged rules p (check_profile rules p) → FirstBroken rules p v
    to e (inl w) = absurd (omega (arith, h, ap (λ (u : Verdict). u.number) (sym e ∙ w.1)))
    to e (inr w) = subst (FirstBroken rules p) e w

    from : FirstBroken rules p v → Judged rules p (check_profile rules p) → check_profile rules p ≡ v
    from b (inl w) = absurd (b.broken (w.0 v))
    from b (inr w) =
        same_rule (check_profile rules p) v (λ e. w.broken (b.before (check_profile rules p) e)) (λ e. b.broken (w.before v e))

-- a broken rule has a number
pub broken_number : (rules : Ruleset) (p : Profile) (v : Verdict) → FirstBroken rules p v → 1 ≤ v.number
broken_number rules p v b =
    by_cases (eqb v.number 0)
    (λ q. absurd (b.broken (rule_0 rules p v (eqb-true v.number 0 q))))
    (λ q. omega (arith, eqb-false v.number 0 q))

-- ---- what an accepted profile has

pub accepted-field : (rules : Ruleset) (p : Profile) → check_profile rules p ≡ accepted → p.field.present ≡ true
accepted-field rules p e = (((accepted_exactly rules p).0 e (refused 6 0)).field_given refl).0

-- rule 7: its regions' lines follow one another
pub accepted_ordered : (rules : Ruleset) (p : Profile) → check_profile rules p ≡ accepted → Ordered p.field
accepted_ordered rules p e =
    let starts : (i : ℕ) → i < region_count p.field → Starts p.field i = λ i. ((accepted_exactly rules p).0 e (refused 7 i)).fields.0.region_order i refl in
    let some = regions_some p (check_range rules p e) (accepted-field rules p e) in
    record {
      some = some;
      zero = (starts 0 some).1 refl;
      rise = λ i h. rw (add-sub_cancel i 1) at ((starts (i + 1) h).2 (omega arith));
      below = λ i h. (starts i h).0;
    }
