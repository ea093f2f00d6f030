-- Reading answers exactly what document 01 says of a script as whole records and a first fault (specs/Records.antt).
-- Assumes nothing.
use Prim.Native.Nat.{ℕ, zero, suc, ◌+◌, ◌-◌, ◌*◌, ◌/◌, ◌%◌, ◌≤◌, ◌<◌}
use native.Mathlib.Omega.{arith}
use mathlib.Core.Path.{◌≡◌, refl, sym, ap, subst, ◌∙◌}
use mathlib.Core.Logic.{◌↔◌, ◌⊎◌, inl, inr, ⊎_elim}
use mathlib.Core.Bool.{Bool, true, false, false≢true}
use mathlib.Core.List.{List, [], ◌∷◌, ◌++◌, append_assoc, append-nil}
use lib.ListN.{length, get_or, drop, length-append, take-append-drop, length-drop}
use lib.Seq.{length-take-le}
use lib.Dec.{ltb, leb, eqb}
use borrow.Author.Tests.{ltb-true, ltb-false, leb-true, leb-false, eqb-true, lt-ltb, le-ltb, le-leb, lt-leb, ne_eqb}
use Rattle.profile.specs.Lists.{all, chunks}
use Rattle.profile.specs.Bytes.{Bytes, number_at, two_bytes}
use Rattle.profile.specs.Values.{empty_profile, accepted, refused, read_answer}
use Rattle.profile.specs.Layout.{half_limit}
use Rattle.profile.specs.Ranges.{sequence_range, field_range, gate_range, shutter_range, in_range}
use Rattle.profile.specs.Obeys.{HalfRanged, SequenceRanged, FieldRanged, GateRanged, ShutterRanged}
use Rattle.profile.specs.Rules.{check_profile}
use Rattle.profile.specs.Script.{
  kinds,
  head_length,
  region_length,
  most_bytes,
  low_from,
  high_from,
  register_fits,
  sequence_fits,
  has_form,
  count_from,
  field_with,
  fits_with,
  gate_fits,
  subck_fits,
  shutter_fits,
  sequence_from,
  region_fits,
  gate_from,
  subck_from,
  shutter_from,
  known,
  allowed,
  fits,
  with_record,
  body_of,
  stop,
  step,
  records,
  judged,
  read_script,
}
use Rattle.profile.specs.Records.{
  Known,
  Allowed,
  register_4,
  sequence_14,
  field_6n,
  gate_10,
  subck_10,
  shutter_12,
  RegionFits,
  Fits,
  fits_register,
  fits_sequence,
  fits_field,
  fits_gate,
  fits_subck,
  fits_shutter,
  Record,
  bytes_of,
  script_of,
  with_records,
  profile_of,
  Fault,
  header_cut,
  kind_unknown,
  length_wrong,
  body_cut,
  values_out,
  Reads,
  unread,
  taken,
  too_long,
  stopped,
  broken,
  obeyed,
}
use Rattle.profile.specs.declared.Profile.{Profile}
use Rattle.profile.specs.declared.Verdict.{Verdict}
use Rattle.profile.specs.Values.{ReadAnswer}
use Rattle.profile.specs.declared.Ruleset.{Ruleset}
use Rattle.profile.proofs.Laws.{by_cases, or_cases, passed, all-passed, all-chunks, chunks-all}
use Rattle.profile.proofs.Reflects.{Says, says_le, says_eq, says_and, says_cons}
use Rattle.profile.proofs.Forms.{says_form, form_allowed, form_told}
use Rattle.profile.proofs.Checked.{check_judge}
use Rattle.profile.proofs.Accepted.{Judged, check_judged, accepted_exactly, refused_exactly, broken_number}
use Rattle.profile.proofs.Carried.{says_half, sequence_says, gate_says, subck_says, shutter_says, field_says}
use Rattle.profile.proofs.Takes.{Takes, takes_none, takes_then, takes_all, records_stop}
use Rattle.profile.proofs.Bodies.{takes_written}
use Rattle.profile.proofs.ByteRange.{bytes_tail}
use Rattle.profile.proofs.Reading.{records_in, empty_in}

-- ---- kinds and lengths

says_known : (k : ℕ) → Says (known k) (Known k)
says_known k = says_and (says_le 1 k) (says_le k kinds)

known-allowed : (k l : ℕ) → Allowed k l → Known k
known-allowed k l register_4 = (omega arith, omega arith)
known-allowed k l sequence_14 = (omega arith, omega arith)
known-allowed k l (field_6n two n a b) = (omega arith, omega arith)
known-allowed k l gate_10 = (omega arith, omega arith)
known-allowed k l subck_10 = (omega arith, omega arith)
known-allowed k l shutter_12 = (omega arith, omega arith)

allowed_test : (k l : ℕ) → Allowed k l → allowed k l ≡ true
unfolding allowed
allowed_test k l register_4 = refl
allowed_test k l sequence_14 = refl
allowed_test k l (field_6n two n a b) = form_allowed two n a b
allowed_test k l gate_10 = refl
allowed_test k l subck_10 = refl
allowed_test k l shutter_12 = refl

exact : (k m l : ℕ) → Allowed k m → eqb l m ≡ true → Allowed k l
exact k m l a e = rw (eqb-true l m e) a

-- a length of a form has so many regions
form_regions : (two : Bool) (l : ℕ) → has_form two l ≡ true → Allowed 3 l
form_regions two l e =
    let w = (says_form two l).0 e in
    let n = (l - head_length two) / region_length in
    let q : head_length two + region_length * n ≡ l = omega (arith, w.0.0, w.1) in
    subst (λ (x : ℕ). Allowed 3 x) q (field_6n two n (omega (arith, w.0.0)) (omega (arith, w.0.1)))

test_allowed : (k l : ℕ) → Known k → allowed k l ≡ true → Allowed k l
unfolding allowed
test_allowed zero l h e = absurd (omega arith)
test_allowed (suc zero) l h e = exact 1 4 l register_4 e
test_allowed (suc (suc zero)) l h e = exact 2 14 l sequence_14 e
test_allowed (suc (suc (suc zero))) l h e = ⊎_elim (form_regions false l) (form_regions true l) (or_cases (has_form false l) (has_form true l) e)
test_allowed (suc (suc (suc (suc zero)))) l h e = exact 4 10 l gate_10 e
test_allowed (suc (suc (suc (suc (suc zero))))) l h e = exact 5 10 l subck_10 e
test_allowed (suc (suc (suc (suc (suc (suc zero)))))) l h e = exact 6 12 l shutter_12 e
test_allowed (suc (suc (suc (suc (suc (suc (suc k))))))) l h e = absurd (omega (arith, h.1))

says_allowed : (k l : ℕ) → Known k → Says (allowed k l) (Allowed k l)
says_allowed k l h = (test_allowed k l h, allowed_test k l)

-- ---- values

module _ (b : List ℕ) where
  says_region : (head i : ℕ) → Says (all (region_fits head b i)) (RegionFits head b i)
  says_region head i = (
    (λ e. let w = passed (region_fits head b i) e in omega (arith, leb-true)),
    λ w. all-passed (region_fits head b i) (omega (arith, le-leb)),
  )

  -- a field's body in a form
  abbrev FieldFits : Bool → Type 0
  FieldFits two =
      (head_length two + region_length * count_from (head_length two) b ≡ length b) × FieldRanged (field_with two b)
      × ((i : ℕ) → i < count_from (head_length two) b → RegionFits (head_length two) b i)

  says_field : (two : Bool) → Says (fits_with two b) (FieldFits two)
  unfolding fits_with
  says_field two =
      let head = head_length two in
      let n = count_from head b in
      let s = says_and (says_cons (field_range (field_with two b)) (says_eq (head + region_length * n) (length b)) (field_says (field_with two b)))
      (says-regions head n) in
      ((λ e. let w = s.0 e in (w.0.0, w.0.1, w.1)), λ w. s.1 ((w.0, w.1), w.2))
    where
      says-regions : (head n : ℕ) → Says (all (chunks n (region_fits head b))) ((i : ℕ) → i < n → RegionFits head b i)
      says-regions head n = (
        (λ e i l. (says_region head i).0 (all-chunks n (region_fits head b) e i l)),
        λ w. chunks-all n (region_fits head b) (λ i l. (says_region head i).1 (w i l)),
      )

  -- the length tells the form
  form_of : (two : Bool) → FieldFits two → has_form true (length b) ≡ two
  unfolding field_with
  form_of two w = ap (has_form true) (sym w.0) ∙ form_told two (count_from (head_length two) b) w.1.some_regions w.1.most_regions

  says_numbered : (n top : ℕ) (tests : List Bool) (A : Type 0) → Says (all tests) A → Says (all (leb n top ∷ tests)) ((n ≤ top) × A)
  unfolding all
  says_numbered n top tests A s = (
    (λ e. let w = passed (leb n top ∷ tests) e in (leb-true n top w.0, s.0 (all-passed tests w.1))),
    λ w. all-passed (leb n top ∷ tests) (le-leb n top w.0, passed tests (s.1 w.1)),
  )

  abbrev low : ℕ
  low = 2 * get_or b 0 0

  says_register : Says (register_fits b) ((get_or b 0 0 ≤ 0x77) × HalfRanged low (low_from b) × HalfRanged (low + 1) (high_from b))
  unfolding register_fits
  says_register =
      let tests = leb (get_or b 0 0) 0x77 ∷ leb (low_from b) (half_limit low) ∷ leb (high_from b) (half_limit (low + 1)) ∷ [] in (
        (λ e. let w = passed tests e in (leb-true _ _ w.0, (says_half low (low_from b)).0 w.1.0, (says_half (low + 1) (high_from b)).0 w.1.1.0)),
        λ w. all-passed tests (le-leb _ _ w.0, ((says_half low (low_from b)).1 w.1, ((says_half (low + 1) (high_from b)).1 w.2, tt))),
      )

  says_sequence : Says (sequence_fits b) ((number_at b 0 ≤ 9) × SequenceRanged (sequence_from b))
  unfolding sequence_fits
  says_sequence = says_numbered (number_at b 0) 9 (sequence_range (sequence_from b)) _ (sequence_says (sequence_from b))

  says_gate : Says (gate_fits b) ((number_at b 0 ≤ 4) × GateRanged (gate_from b))
  unfolding gate_fits
  says_gate = says_numbered (number_at b 0) 4 (gate_range (gate_from b)) _ (gate_says (gate_from b))

  says_shutter : Says (shutter_fits b) ((number_at b 0 ≤ 1) × ShutterRanged (shutter_from b))
  unfolding shutter_fits
  says_shutter = says_numbered (number_at b 0) 1 (shutter_range (shutter_from b)) _ (shutter_says (shutter_from b))

  pub fits_test : (k : ℕ) → Fits b k → fits k b ≡ true
  unfolding fits subck_fits
  fits_test k (fits_register h l u) = says_register.1 (h, l, u)
  fits_test k (fits_sequence h w) = says_sequence.1 (h, w)
  fits_test k (fits_field two h w r) = rw (form_of two (h, w, r)) ((says_field two).1 (h, w, r))
  fits_test k (fits_gate h w) = says_gate.1 (h, w)
  fits_test k (fits_subck w) = (subck_says (subck_from b)).1 w
  fits_test k (fits_shutter h w) = says_shutter.1 (h, w)

  test_fits : (k : ℕ) → Known k → fits k b ≡ true → Fits b k
  unfolding fits subck_fits
  test_fits zero h e = absurd (omega arith)
  test_fits (suc zero) h e = let w = says_register.0 e in fits_register w.0 w.1 w.2
  test_fits (suc (suc zero)) h e = let w = says_sequence.0 e in fits_sequence w.0 w.1
  test_fits (suc (suc (suc zero))) h e = let w = (says_field (has_form true (length b))).0 e in fits_field _ w.0 w.1 w.2
  test_fits (suc (suc (suc (suc zero)))) h e = let w = says_gate.0 e in fits_gate w.0 w.1
  test_fits (suc (suc (suc (suc (suc zero))))) h e = fits_subck ((subck_says (subck_from b)).0 e)
  test_fits (suc (suc (suc (suc (suc (suc zero)))))) h e = let w = says_shutter.0 e in fits_shutter w.0 w.1
  test_fits (suc (suc (suc (suc (suc (suc (suc k))))))) h e = absurd (omega (arith, h.1))

-- ---- one record

-- a record that can be read is taken, whatever follows it
takes_one : (r : Record) (p : Profile) → Takes (bytes_of r) p (with_record r.kind r.body p)
takes_one r p =
    takes_written r.kind r.body ((says_known r.kind).1 (known-allowed r.kind (length r.body) r.allowed))
    (allowed_test r.kind (length r.body) r.allowed) (fits_test r.body r.kind r.fits) refl

takes_many : (rs : List Record) (p : Profile) → Takes (script_of rs) p (with_records rs p)
takes_many [] p = takes_none refl
takes_many (r ∷ rs) p = takes_then (takes_one r p) (takes_many rs (with_record r.kind r.body p))

-- a fault stops the reading with its number
not_said : {b : Bool} {A : Type 0} → Says b A → (A → ⊥) → b ≡ false
not_said {b} s n = by_cases b (λ e. absurd (n (s.0 e))) (λ e. e)

fault_stops : (s : List ℕ) (n : ℕ) (p : Profile) → Fault s n → step s p ≡ stop n
unfolding step
fault_stops s n p (header_cut a b) = rw (lt-ltb (length s) 4 b)
fault_stops s n p (kind_unknown a k) = rw (le-ltb (length s) 4 a, not_said (says_known (number_at s 2)) k)
fault_stops s n p (length_wrong a k l) =
    rw (le-ltb (length s) 4 a, (says_known (number_at s 2)).1 k, not_said (says_allowed (number_at s 2) (number_at s 0) k) l)
fault_stops s n p (body_cut a l c) =
    rw (
      le-ltb (length s) 4 a,
      (says_known (number_at s 2)).1 (known-allowed (number_at s 2) (number_at s 0) l),
      allowed_test (number_at s 2) (number_at s 0) l,
      lt-ltb (length s) (4 + number_at s 0) c,
    )
fault_stops s n p (values_out l c v) =
    let k = known-allowed (number_at s 2) (number_at s 0) l in
    let a : 4 ≤ length s = omega (arith, c) in
    rw (
      le-ltb (length s) 4 a,
      (says_known (number_at s 2)).1 k,
      allowed_test (number_at s 2) (number_at s 0) l,
      le-ltb (length s) (4 + number_at s 0) c,
      not_said (test_fits (body_of s) (number_at s 2) k, fits_test (body_of s) (number_at s 2)) v,
    )

fault_some : (s : List ℕ) (n : ℕ) → Fault s n → (1 ≤ length s) × (1 ≤ n)
fault_some s n (header_cut a b) = (a, omega arith)
fault_some s n (kind_unknown a k) = (omega (arith, a), omega arith)
fault_some s n (length_wrong a k l) = (omega (arith, a), omega arith)
fault_some s n (body_cut a l c) = (omega (arith, a), omega arith)
fault_some s n (values_out l c v) = (omega (arith, c), omega arith)

-- ---- a record or a fault starts any bytes

pub record Starting (s : List ℕ) : Type 0 where
  pub record_at : Record
  pub rest : List ℕ
  pub there : s ≡ bytes_of record_at ++ rest

-- two bytes again, from their number
split_two : (a b : ℕ) → a < 256 → ((a + 256 * b) % 256 ≡ a) × ((a + 256 * b) / 256 ≡ b)
split_two a b h = (omega arith, omega arith)

four : (s : List ℕ) → Bytes s → 4 ≤ length s → s ≡ two_bytes (number_at s 0 ∷ number_at s 2 ∷ []) ++ drop 4 s
four [] w h = absurd (omega arith)
four (a ∷ []) w h = absurd (omega arith)
four (a ∷ b ∷ []) w h = absurd (omega arith)
four (a ∷ b ∷ c ∷ []) w h = absurd (omega arith)
four (a ∷ b ∷ c ∷ d ∷ s) w h =
    let x = split_two a b (w.at 0) in
    let y = split_two c d (w.at 2) in
    rw (x.0, x.1, y.0, y.1)

started : (s : List ℕ) → Bytes s → Allowed (number_at s 2) (number_at s 0) → 4 + number_at s 0 ≤ length s → Fits (body_of s) (number_at s 2)
    → Starting s
started s w l c v =
    let size : length (body_of s) ≡ number_at s 0 = length-take-le (number_at s 0) (drop 4 s) (omega (arith, c, length-drop 4 s)) in
    record {
      record_at =
          record {
            kind = number_at s 2;
            body = body_of s;
            allowed = subst (λ (n : ℕ). Allowed (number_at s 2) n) (sym size) l;
            fits = v;
          };
      rest = drop (number_at s 0) (drop 4 s);
      there =
          four s w (omega (arith, c))
          ∙ ap (λ (r : List ℕ). two_bytes (number_at s 0 ∷ number_at s 2 ∷ []) ++ r) (sym (take-append-drop (number_at s 0) (drop 4 s)))
          ∙ ap (λ (n : ℕ). two_bytes (n ∷ number_at s 2 ∷ []) ++ (body_of s ++ drop (number_at s 0) (drop 4 s))) (sym size);
    }

abbrev Faulty : List ℕ → Type 0
Faulty s = (n : ℕ) × Fault s n

front_of : (s : List ℕ) → Bytes s → 1 ≤ length s → Starting s ⊎ Faulty s
front_of s w h =
    by_cases (ltb (length s) 4)
    (λ a. inr (2, header_cut h (ltb-true (length s) 4 a)))
    (λ a.
    let a4 = ltb-false (length s) 4 a in
    by_cases (known (number_at s 2))
    (λ b.
    let k = (says_known (number_at s 2)).0 b in
    by_cases (allowed (number_at s 2) (number_at s 0))
    (λ c.
    let l = test_allowed (number_at s 2) (number_at s 0) k c in
    by_cases (ltb (length s) (4 + number_at s 0))
    (λ d. inr (2, body_cut a4 l (ltb-true (length s) (4 + number_at s 0) d)))
    (λ d.
    let c4 = ltb-false (length s) (4 + number_at s 0) d in
    by_cases (fits (number_at s 2) (body_of s))
    (λ e. inl (started s w l c4 (test_fits (body_of s) (number_at s 2) k e)))
    (λ e. inr (5, values_out l c4 (λ v. false≢true (sym e ∙ fits_test (body_of s) (number_at s 2) v))))))
    (λ c. inr (4, length_wrong a4 k (λ l. false≢true (sym c ∙ allowed_test (number_at s 2) (number_at s 0) l)))))
    (λ b. inr (3, kind_unknown a4 (λ k. false≢true (sym b ∙ (says_known (number_at s 2)).1 k)))))

-- ---- all records of a script

pub record Ended (s : List ℕ) : Type 0 where
  pub all_of : List Record
  pub rest : List ℕ
  pub there : s ≡ script_of all_of ++ rest
  pub ends : (rest ≡ []) ⊎ Faulty rest

bytes_rest : (a b : List ℕ) → Bytes (a ++ b) → Bytes b
bytes_rest [] b w = w
bytes_rest (x ∷ a) b w = bytes_rest a b (bytes_tail w)

none_left : Ended []
none_left = record { all_of = []; rest = []; there = refl; ends = inl refl }

-- a record, then what follows it
ended_more : (s : List ℕ) (r : Starting s) → Ended r.rest → Ended s
ended_more s r e =
    record {
      all_of = r.record_at ∷ e.all_of;
      rest = e.rest;
      there =
          r.there
          ∙ ap (λ (l : List ℕ). bytes_of r.record_at ++ l) e.there
          ∙ sym (append_assoc (bytes_of r.record_at) (script_of e.all_of) e.rest);
      ends = e.ends;
    }

-- what is left is shorter
rest_shorter : (s : List ℕ) (r : Starting s) → length r.rest < length s
rest_shorter s r =
    let l : length s ≡ length (bytes_of r.record_at) + length r.rest = ap length r.there ∙ length-append (bytes_of r.record_at) r.rest in
    omega arith

ended_by : (turns : ℕ) (s : List ℕ) → ((r : List ℕ) → length r ≤ turns → Bytes r → Ended r) → length s ≤ suc turns → Bytes s
    → Starting s ⊎ Faulty s → Ended s
ended_by turns s on h w (inr f) = record { all_of = []; rest = s; there = refl; ends = inr f }
ended_by turns s on h w (inl r) =
    ended_more s r
    (on r.rest (omega (arith, h, rest_shorter s r)) (bytes_rest (bytes_of r.record_at) r.rest (subst Bytes r.there w)))

ended_next : (turns : ℕ) (s : List ℕ) → ((r : List ℕ) → length r ≤ turns → Bytes r → Ended r) → length s ≤ suc turns → Bytes s → Ended s
ended_next turns [] on h w = none_left
ended_next turns (x ∷ s) on h w = ended_by turns (x ∷ s) on h w (front_of (x ∷ s) w (omega arith))

ended_none : (s : List ℕ) → length s ≤ 0 → Ended s
ended_none [] h = none_left
ended_none (x ∷ s) h = absurd (omega arith)

-- in so many turns at most: each record takes bytes
ended : (turns : ℕ) (s : List ℕ) → length s ≤ turns → Bytes s → Ended s
ended zero s h w = ended_none s h
ended (suc turns) s h w = ended_next turns s (λ r l b. ended turns r l b) h w

-- ---- the whole read

-- the records, then what is left of the script
records-rest : (rs : List Record) (rest : List ℕ) → records 0 0 (script_of rs ++ rest) empty_profile ≡ records 0 (length (script_of rs)) rest (profile_of rs)
records-rest rs rest = (takes_many rs empty_profile).on 0 rest ∙ ap (λ (n : ℕ). records 0 n rest (profile_of rs)) (omega arith)

records_fault : (rest : List ℕ) (at n : ℕ) (p : Profile) → Fault rest n → records 0 at rest p ≡ read_answer (refused n at) p
records_fault [] at n p f = absurd (omega (arith, (fault_some [] n f).0))
records_fault (x ∷ xs) at n p f = records_stop x xs at n p (fault_stops (x ∷ xs) n p f)

refused_empty : (v : Verdict) (p : Profile) → 1 ≤ v.number → read_answer v p ≡ unread v
refused_empty v p h = rw (ne_eqb v.number 0 (omega arith))

judged-refused : (rules : Ruleset) (v : Verdict) → 1 ≤ v.number → judged rules (unread v) ≡ unread v
judged-refused rules v h = rw (ne_eqb v.number 0 (omega arith))

-- a script that is not too long
short_read : (rules : Ruleset) (s : List ℕ) → length s ≤ most_bytes → read_script rules s ≡ judged rules (records 0 0 s empty_profile)
unfolding read_script
short_read rules s h = rw (le-leb (length s) most_bytes h)

-- whole records are judged by the check of what they give
whole_read : (rules : Ruleset) (s : List ℕ) (rs : List Record) → length s ≤ most_bytes → s ≡ script_of rs
    → read_script rules s ≡ read_answer (check_profile rules (profile_of rs)) (profile_of rs)
whole_read rules s rs h e =
    let q = profile_of rs in
    let r : records 0 0 s empty_profile ≡ read_answer accepted q = ap (λ (l : List ℕ). records 0 0 l empty_profile) e ∙ takes_all (script_of rs) empty_profile q (takes_many rs empty_profile) in
    let i : in_range q ≡ true = subst (λ (x : ReadAnswer). in_range x.profile ≡ true) r (records_in s 0 0 empty_profile empty_in) in
    short_read rules s h ∙ ap (judged rules) r ∙ ap (λ (v : Verdict). read_answer v q) (sym (check_judge rules q i))

-- there is no other answer
reads_one : (rules : Ruleset) (s : List ℕ) (a : ReadAnswer) → Reads rules s a → read_script rules s ≡ a
unfolding read_script
reads_one rules s a (too_long h) = rw (lt-leb (length s) most_bytes h)
reads_one rules s a (stopped rs rest n h e f) =
    let at = length (script_of rs) in
    let some = (fault_some rest n f).1 in
    short_read rules s h
    ∙ ap (λ (l : List ℕ). judged rules (records 0 0 l empty_profile)) e
    ∙ ap (judged rules) (records-rest rs rest ∙ records_fault rest at n (profile_of rs) f ∙ refused_empty (refused n at) (profile_of rs) some)
    ∙ judged-refused rules (refused n at) some
reads_one rules s a (broken rs v h e f) =
    let some = broken_number rules (profile_of rs) v f in
    whole_read rules s rs h e
    ∙ ap (λ (w : Verdict). read_answer w (profile_of rs)) ((refused_exactly rules (profile_of rs) v some).1 f)
    ∙ refused_empty v (profile_of rs) some
reads_one rules s a (obeyed rs h e f) =
    whole_read rules s rs h e ∙ ap (λ (v : Verdict). read_answer v (profile_of rs)) ((accepted_exactly rules (profile_of rs)).1 f)

-- there is an answer
reads_whole : (rules : Ruleset) (s : List ℕ) (rs : List Record) → length s ≤ most_bytes → s ≡ script_of rs → Judged rules (profile_of rs) (check_profile rules (profile_of rs))
    → (a : ReadAnswer) × Reads rules s a
reads_whole rules s rs h e (inl w) = (taken (profile_of rs), obeyed rs h e w.0)
reads_whole rules s rs h e (inr w) =
    let v = check_profile rules (profile_of rs) in
    (unread v, broken rs v h e w)

reads_end : (rules : Ruleset) (s : List ℕ) → length s ≤ most_bytes → (w : Ended s) → (w.rest ≡ []) ⊎ Faulty w.rest → (a : ReadAnswer) × Reads rules s a
reads_end rules s h w (inl z) =
    reads_whole rules s w.all_of h (w.there ∙ ap (λ (l : List ℕ). script_of w.all_of ++ l) z ∙ append-nil (script_of w.all_of))
    (check_judged rules (profile_of w.all_of))
reads_end rules s h w (inr f) = (unread (refused f.0 (length (script_of w.all_of))), stopped w.all_of w.rest f.0 h w.there f.1)

reads_some : (rules : Ruleset) (s : List ℕ) → Bytes s → (a : ReadAnswer) × Reads rules s a
reads_some rules s b =
    by_cases (leb (length s) most_bytes)
    (λ h. let w = ended (length s) s (omega arith) b in reads_end rules s (leb-true (length s) most_bytes h) w w.ends)
    (λ h. (unread (refused 1 0), too_long (leb-false (length s) most_bytes h)))

-- reading answers exactly what the script says: too long; the first fault after whole records; the first broken rule of what the records give; or
-- that, where none is broken
pub read_exactly : (rules : Ruleset) (s : List ℕ) → Bytes s → (a : ReadAnswer) → (read_script rules s ≡ a) ↔ Reads rules s a
read_exactly rules s b a =
    let w = reads_some rules s b in
    ((λ e. subst (λ (x : ReadAnswer). Reads rules s x) (sym (reads_one rules s w.0 w.1) ∙ e) w.1), reads_one rules s a)
