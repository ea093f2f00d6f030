-- The verdict of rules as the code finds it: part after part, entry after entry. A part that is fine hands on to the next, a broken one
-- answers for the whole.
-- Assumes nothing.
use Prim.Native.Nat.{ℕ, ◌+◌, ◌-◌, ◌≤◌, ◌<◌, min}
use native.Mathlib.Omega.{arith}
use mathlib.Core.Path.{◌≡◌, refl, sym, ap, ◌∙◌}
use mathlib.Core.Bool.{Bool, true, false, cond, not, ◌&&◌, ◌||◌}
use mathlib.Core.List.{List, [], ◌∷◌, ◌++◌, append_assoc, map}
use lib.ListN.{get_or}
use lib.Dec.{ltb, leb, eqb, lit≤}
use borrow.Author.Tests.{not-true, not-false, eq-eqb, ne_eqb, leb-true, leb-false}
use Rattle.profile.specs.Lists.{all, distinct, least, chunks}
use Rattle.profile.specs.Values.{none, accepted, refused, refused_toggle, accepts}
use Rattle.profile.specs.Geometry.{region_count, gate_of, line_length, has_second_line, gate_lines, gate_length}
use Rattle.profile.specs.Patterns.{row_of, rows_of, in_order, toggle_fault}
use Rattle.profile.specs.Rules.{Entry, rule, first_broken, row_right, row_entries, has_second, second_of, lines_right, second_right, gate_right, order_entries, region_entries, line_entries, gate_entries, subck_entries, shutter_entries, rules_of, judge}
use Rattle.profile.specs.declared.Pattern.{Pattern}
use Rattle.profile.specs.declared.Gate.{Gate}
use Rattle.profile.specs.declared.Tables.{Tables}
use Rattle.profile.specs.declared.Field.{Field}
use Rattle.profile.specs.declared.Profile.{Profile}
use Rattle.profile.specs.declared.Verdict.{Verdict}
use Rattle.profile.specs.declared.Ruleset.{Ruleset}
use Rattle.profile.proofs.Laws.{by_cases, or_left, tested_no, tested_yes, all_one, chunks_more, chunks_ext, chunks_add}
use Rattle.profile.proofs.Tested.{joined-all}
use Rattle.profile.proofs.Reflects.{says_gate}
use Rattle.profile.proofs.Entries.{Numbered, fine_then, broken_then, number_accepted, numbered_chunks, chunks_accept}
use Rattle.profile.proofs.Refusing.{has_number}
use Rattle.profile.proofs.Checked.{judge_entries, numbered_at, numbered_lines}

-- ---- one entry, and what follows it

module _ (n at : ℕ) (b : Bool) (es : List Entry) {v : Verdict} where
  pub head_broken : b ≡ false → v ≡ refused n at → v ≡ first_broken (rule n at b ∷ es)
  unfolding first_broken
  head_broken e f = f ∙ rw e

  -- past an entry that holds, what follows decides
  pub head_on : b ≡ true → v ≡ first_broken es → v ≡ first_broken (rule n at b ∷ es)
  unfolding first_broken
  head_on e f = f ∙ rw e

pub none_broken : {v : Verdict} → v ≡ accepted → v ≡ first_broken []
unfolding first_broken
none_broken e = e

-- 9: a number that is not another
pub differ_no : (n k : ℕ) → n ≡ k → not (eqb n k) ≡ false
differ_no n k e = ap not (eq-eqb n k e)

pub differ_yes : (n k : ℕ) → (n ≡ k → ⊥) → not (eqb n k) ≡ true
differ_yes n k e = ap not (ne_eqb n k e)

-- ---- two parts

not-accepted : {v : Verdict} → 1 ≤ v.number → v ≡ accepted → ⊥
not-accepted n e = let z = ap (λ (w : Verdict). w.number) e in absurd (omega (arith, n, z))

module _ (a b : List Entry) where
  pub part_broken : {v : Verdict} → 1 ≤ v.number → v ≡ first_broken a → v ≡ first_broken (a ++ b)
  part_broken n e = e ∙ sym (broken_then a b (λ z. not-accepted n (e ∙ z)))

  -- past a part that is fine, what follows decides
  pub part_on : {w : Verdict} → accepted ≡ first_broken a → Numbered a → w ≡ first_broken b → w ≡ first_broken (a ++ b)
  part_on e m f = f ∙ sym (fine_then a b m (sym e))

-- ---- a loop over n chunks of entries, the first i of which are fine; m is n in the rules' words

pub record Fine (n m : ℕ) (f : ℕ → List Entry) (i : ℕ) : Type 0 where
  pub count : n ≡ m
  pub numbered : (i : ℕ) → Numbered (f i)
  pub most : i ≤ n
  pub so_far : first_broken (chunks i f) ≡ accepted

pub fine_start : {n m : ℕ} {f : ℕ → List Entry} → n ≡ m → ((i : ℕ) → Numbered (f i)) → Fine n m f 0
unfolding chunks first_broken
fine_start e h = record { count = e; numbered = h; most = omega arith; so_far = refl }

module _ {n m i : ℕ} {f : ℕ → List Entry} (d : Fine n m f i) where
  pub fine_end : {v : Verdict} → n ≤ i → v ≡ accepted → v ≡ first_broken (chunks m f)
  fine_end h z = let e : i ≡ m = omega (arith, d.count, d.most) in z ∙ sym (rw e at d.so_far)

  module _ (l : i < n) where
    here : first_broken (chunks (i + 1) f) ≡ first_broken (f i)
    here = ap first_broken (chunks_more i f) ∙ fine_then (chunks i f) (f i) (numbered_chunks i f d.numbered) d.so_far

    pub fine-on : accepted ≡ first_broken (f i) → Fine n m f (i + 1)
    fine-on e = record { count = d.count; numbered = d.numbered; most = omega arith; so_far = here ∙ sym e }

    pub fine-stop : {v : Verdict} → 1 ≤ v.number → v ≡ first_broken (f i) → v ≡ first_broken (chunks m f)
    fine-stop n e =
        let k : (i + 1) + (m - (i + 1)) ≡ m = omega (arith, d.count) in
        part_broken (chunks (i + 1) f) (chunks (m - (i + 1)) (λ j. f (i + 1 + j))) n (e ∙ sym here)
        ∙ ap first_broken (sym (chunks_add (i + 1) (m - (i + 1)) f))
        ∙ ap (λ (j : ℕ). first_broken (chunks j f)) k

-- 15 on a line of the given length
abbrev pub gates_on : Tables → ℕ → ℕ → List Entry
gates_on t length k = rule 15 k (gate_right (gate_of t k) length) ∷ []

-- a gate that is right on a line is right on a longer one, so that the shortest decides
gate_longer : (gate : Gate) (a b : ℕ) → a ≤ b → gate_right gate a ≡ true → gate_right gate b ≡ true
gate_longer gate a b h e = (says_gate gate b).1 (λ p o. let w = (says_gate gate a).0 e p o in (w.0, omega (arith, w.1)))

gate_both : (gate : Gate) (a b : ℕ) → gate_right gate (min a b) ≡ gate_right gate a && gate_right gate b
gate_both gate a b =
    by_cases (leb a b)
    (λ h.
    let l = leb-true a b h in
    let m : min a b ≡ a = omega arith in
    rw m (by_cases (gate_right gate a) (λ e. rw (e, gate_longer gate a b l e)) (λ e. rw e)))
    (λ h.
    let l = leb-false a b h in
    let m : min a b ≡ b = omega arith in
    rw m
    (by_cases (gate_right gate b) (λ e. rw (e, gate_longer gate b a (omega arith) e))
    (λ e. rw e (by_cases (gate_right gate a) (λ o. rw o) (λ o. rw o)))))

gate_lines_lem : (t : Tables) (f : Field) (gate : Gate)
    → gate_right gate (gate_length t f) ≡ all (map (λ (g : ℕ). gate_right gate (line_length t f g)) (gate_lines f))
unfolding gate_length least
gate_lines_lem t f gate =
    by_cases (has_second_line f)
    (λ e. rw e (gate_both gate (line_length t f f.gate) (line_length t f f.gate2) ∙ joined-all _ (gate_right gate (line_length t f f.gate2) ∷ [])))
    (λ e. rw e (sym (all_one _)))

-- and so on every gate line
pub gates_length : (t : Tables) (f : Field) {v : Verdict} {m : ℕ} → m ≡ gate_length t f
    → v ≡ first_broken (chunks 5 (gates_on t m)) → v ≡ first_broken (chunks 5 (gate_entries t f))
gates_length t f e w =
    w ∙ ap (λ (m : ℕ). first_broken (chunks 5 (gates_on t m))) e
    ∙ ap first_broken (chunks_ext 5 _ _ (λ k h. ap (λ (b : Bool). rule 15 k b ∷ []) (gate_lines_lem t f (gate_of t k))))

-- ---- 10 at one region

module _ (i : ℕ) (uses : ℕ → Bool) (row : List ℕ) (k : ℕ) where
  -- an output's verdict by its fault
  row-verdict : first_broken (row_entries i uses row k) ≡ cond (row_right uses row) accepted (refused_toggle i (k + 1) (toggle_fault uses row))
  unfolding first_broken row_right toggle_fault
  row-verdict =
      by_cases (in_order uses row 2)
      (λ b. by_cases (in_order uses row 3) (λ c. rw (b, c)) (λ c. rw (b, c)))
      (λ b. rw b)

  module _ {fault : ℕ} (e : fault ≡ toggle_fault uses row) where
    pub row-broken : (fault ≡ 0 → ⊥) → refused_toggle i (k + 1) fault ≡ first_broken (row_entries i uses row k)
    unfolding row_right
    row-broken n = sym (row-verdict ∙ rw (← e, ne_eqb fault 0 n))

    pub row_fine : fault ≡ 0 → accepted ≡ first_broken (row_entries i uses row k)
    unfolding row_right
    row_fine z = sym (row-verdict ∙ rw (← e, eq-eqb fault 0 z))

  row-accepts : accepts (first_broken (row_entries i uses row k)) ≡ row_right uses row
  row-accepts = by_cases (row_right uses row) (λ h. rw (row-verdict, h)) (λ h. rw (row-verdict, h))

pub numbered_rows : (i : ℕ) (uses : ℕ → Bool) (row : ℕ → List ℕ) (k : ℕ) → Numbered (row_entries i uses (row k) k)
numbered_rows i uses row k = (lit≤ tt, (lit≤ tt, tt))

-- the six rows of a pattern's toggles
pub rows_entries : {v : Verdict} {rows : List (List ℕ)} (i : ℕ) (uses : ℕ → Bool) (l : List ℕ) → rows ≡ rows_of l
    → v ≡ first_broken (chunks 6 (λ k. row_entries i uses (get_or rows k []) k)) → v ≡ first_broken (chunks 6 (λ k. row_entries i uses (row_of l k) k))
unfolding chunks
rows_entries i uses l e f = f ∙ rw e

-- "its toggles obey 10": no entry of them is broken exactly where each row is right
pub rows_right : {v : Verdict} (i : ℕ) (uses : ℕ → Bool) (l : List ℕ) → v ≡ first_broken (chunks 6 (λ k. row_entries i uses (row_of l k) k))
    → accepts v ≡ all (chunks 6 (λ k. row_right uses (row_of l k) ∷ []))
rows_right i uses l e =
    ap accepts e ∙ chunks_accept 6 _ (numbered_rows i uses (row_of l))
    ∙ ap all (chunks_ext 6 _ _ (λ k h. ap (λ (b : Bool). b ∷ []) (row-accepts i uses (row_of l k) k)))

-- ---- tests of one or two gate lines

-- the tests of lines_right, of one line and of two
one_apart : (a : Bool) → a ≡ all (a ∷ []) && (all [] && true)
unfolding all
one_apart true = refl
one_apart false = refl

two_apart : (a b c : Bool) → (a && b) && c ≡ all (a ∷ b ∷ []) && (all (c ∷ []) && (all [] && true))
unfolding all
two_apart true true true = refl
two_apart true true false = refl
two_apart true false c = refl
two_apart false b c = refl

module _ (f : Field) {two : Bool} (told : two ≡ has_second_line f) where
  module _ (test : ℕ → Bool) {a : Bool} (first : a ≡ test f.gate) where
    -- of one, and of both
    pub line-one : not two ≡ true → a ≡ all (map test (gate_lines f))
    line-one e = first ∙ rw (tested_no told e) (sym (all_one (test f.gate)))

    pub line-both : {b : Bool} → not two ≡ false → b ≡ test f.gate2 → a && b ≡ all (map test (gate_lines f))
    line-both e second = rw (first, second, tested_yes told e) (joined-all (test f.gate) (test f.gate2 ∷ []))

  -- one line differs from no other
  pub lines_one : not two ≡ true → ltb f.gate f.lines ≡ lines_right f
  unfolding lines_right distinct
  lines_one e = rw (tested_no told e) (one_apart (ltb f.gate f.lines))

  pub lines_both : not two ≡ false → (ltb f.gate f.lines && ltb f.gate2 f.lines) && not (eqb f.gate f.gate2) ≡ lines_right f
  unfolding lines_right distinct
  lines_both e =
      rw (tested_yes told e) (two_apart (ltb f.gate f.lines) (ltb f.gate2 f.lines) (not (eqb f.gate f.gate2)))

-- ---- 14

abbrev second_test : Tables → Field → Bool
second_test t f = not (has_second f) || all (map (second_right t f (second_of t f)) (gate_lines f))

second_is : (t : Tables) (f : Field) {a : Pattern} {r : Bool} → (f.second ≡ none → ⊥) → a ≡ second_of t f
    → r ≡ all (map (second_right t f a) (gate_lines f)) → r ≡ second_test t f
second_is t f n ea er =
    er ∙ ap (λ (b : Pattern). all (map (second_right t f b) (gate_lines f))) ea ∙ rw (ne_eqb f.second none n) refl

module _ (t : Tables) (f : Field) {v : Verdict} {q : Bool} (eq : q ≡ lines_right f) where
  pub line_out : not q ≡ true → v ≡ refused 14 0 → v ≡ first_broken (line_entries t f)
  unfolding line_entries
  line_out h = head_broken _ _ _ _ (tested_no eq h)

  module _ (h : not q ≡ false) where
    line_on : v ≡ first_broken (rule 14 0 (second_test t f) ∷ []) → v ≡ first_broken (line_entries t f)
    unfolding line_entries
    line_on = head_on _ _ _ _ (tested_yes eq h)

    pub no_second : f.second ≡ none → v ≡ accepted → v ≡ first_broken (line_entries t f)
    no_second e a = line_on (head_on _ _ _ _ (or_left _ _ (ap (λ (b : Bool). not (not b)) (eq-eqb f.second none e))) (none_broken a))

    -- the second pattern, and its test, as the code has them
    module _ (n : f.second ≡ none → ⊥) {a : Pattern} {r : Bool} (ea : a ≡ second_of t f) (er : r ≡ all (map (second_right t f a) (gate_lines f))) where
      pub second-broken : not r ≡ true → v ≡ refused 14 0 → v ≡ first_broken (line_entries t f)
      second-broken e a = line_on (head_broken _ _ _ _ (tested_no (second_is t f n ea er) e) a)

      pub second-fine : not r ≡ false → v ≡ accepted → v ≡ first_broken (line_entries t f)
      second-fine e a = line_on (head_on _ _ _ _ (tested_yes (second_is t f n ea er) e) (none_broken a))

-- ---- 7 to 17 in two parts

module _ (t : Tables) (f : Field) {v : Verdict} where
  pub rules_parts : (rules : Ruleset) → v
      ≡ first_broken
      (chunks (region_count f) (order_entries f)
      ++ (chunks (region_count f) (region_entries t f)
      ++ (line_entries t f ++ (chunks 5 (gate_entries t f) ++ (subck_entries t ++ chunks 2 (shutter_entries t f))))))
      → v ≡ first_broken (rules_of rules t f)
  unfolding rules_of
  rules_parts rules e = e ∙ simp append_assoc

-- ---- 6

module _ (rules : Ruleset) (p : Profile) {v : Verdict} where
  pub judge-none : p.field.present ≡ false → v ≡ refused 6 0 → v ≡ judge rules p
  judge-none e f = rw judge_entries (head_broken _ _ _ _ e f)

  pub judge_some : p.field.present ≡ true → v ≡ first_broken (rules_of rules p.tables p.field) → v ≡ judge rules p
  judge_some e f = rw judge_entries (head_on _ _ _ _ e f)

-- ---- the sets that `search` is handed

-- a verdict by its rules
pub ruleset judging = (
  head_broken,
  head_on,
  none_broken,
  has_number,
  part_broken,
  part_on,
  tested_no,
  tested_yes,
  not-true,
  not-false,
  differ_no,
  differ_yes,
  numbered_at,
  numbered_lines,
  numbered_chunks,
  lit≤,
  line_out,
  no_second,
  second-broken,
  second-fine,
  rules_parts,
  judge-none,
  judge_some,
)

-- and in a loop over entries
pub ruleset passing = (fine_start, fine_end, fine-on, fine-stop, judging)
