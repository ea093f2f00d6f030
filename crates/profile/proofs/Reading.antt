-- What reading accepts is in range and accepted by the check; what it refuses leaves the empty profile.
-- Each record taken keeps the array lengths and the ranges, and an answer of number 0 was judged.
-- Assumes nothing.
use mathlib.Core.Path.{◌≡◌, refl, ◌∙◌}
use mathlib.Core.Bool.{true}
use mathlib.Core.List.{List, [], ◌∷◌}
use Prim.Native.Nat.{ℕ, zero, suc, ◌+◌}
use native.Mathlib.Omega.{arith}
use borrow.Author.Tests.{eqb-true, eqb-false, eq-eqb, ne_eqb}
use lib.Dec.{leb}
use lib.ListN.{length}
use Rattle.profile.specs.Lists.{all, chunks}
use Rattle.profile.specs.Bytes.{number_at}
use Rattle.profile.specs.Values.{
  Sized,
  empty_field,
  empty_tables,
  empty_profile,
  accepted,
  refused,
  accepts,
  read_answer,
}
use Rattle.profile.specs.Layout.{half_part}
use Rattle.profile.specs.Ranges.{sequence_in, region_in, head_in, gate_in, subck_in, shutter_in, in_range}
use Rattle.profile.specs.Rules.{judge, check_profile}
use Rattle.profile.specs.Script.{most_bytes, body_of, Stepped, stop, next, step, after_first, records, judged, read_script}
use Rattle.profile.specs.declared.Profile.{Profile}
use Rattle.profile.specs.declared.Verdict.{Verdict}
use Rattle.profile.specs.Values.{ReadAnswer}
use Rattle.profile.specs.declared.Ruleset.{Ruleset}
use Rattle.profile.proofs.Laws.{cond-case}
use Rattle.profile.proofs.Checked.{check_judge, judge_number}
use Rattle.profile.proofs.Takes.{step-taken}
use Rattle.profile.proofs.Items.{items, items_in}
use Rattle.profile.proofs.Puts.{with_sized, with_items}

-- ---- one record taken

pub step_sized : (s : List ℕ) (p : Profile) (len : ℕ) (q : Profile) → Sized p → step s p ≡ next len q → Sized q
step_sized s p len q z e =
    let t = step-taken s p len q e in
    rw t.gives at (with_sized (number_at s 2) (body_of s) p z t.values)

pub step_in : (s : List ℕ) (p : Profile) (len : ℕ) (q : Profile) → in_range p ≡ true → step s p ≡ next len q → in_range q ≡ true
step_in s p len q r e =
    let t = step-taken s p len q e in
    let w = with_items (number_at s 2) (body_of s) p (items p r) t.values in
    items_in q (rw t.gives at w)

-- ---- all records

-- P of the profile is kept by each record, and gives Q of the answer
module _ (P : Profile → Type 0) (Q : ReadAnswer → Type 0)
    (keeps : (s : List ℕ) (p : Profile) (len : ℕ) (q : Profile) → P p → step s p ≡ next len q → P q)
    (ends : (v : Verdict) (p : Profile) → P p → Q (read_answer v p)) where
  -- the record at the front, by what its step is; on is the rest
  one : (x : ℕ) (xs : List ℕ) (at : ℕ) (p : Profile) → P p
      → ((skip at : ℕ) (q : Profile) → P q → Q (records skip at xs q))
      → (r : Stepped) → step (x ∷ xs) p ≡ r → Q (records 0 at (x ∷ xs) p)
  unfolding records
  one x xs at p h on (stop n) e = rw (e, records) (ends (refused n at) p h)
  one x xs at p h on (next len q) e = rw (e, records) (on (after_first len) (at + 1) q (keeps (x ∷ xs) p len q h e))

  records-all : (s : List ℕ) (skip at : ℕ) (p : Profile) → P p → Q (records skip at s p)
  unfolding records
  records-all [] skip at p h = ends accepted p h
  records-all (x ∷ xs) zero at p h =
      one x xs at p h (λ skip at q. records-all xs skip at q) (step (x ∷ xs) p) refl
  records-all (x ∷ xs) (suc skip) at p h = records-all xs skip (at + 1) p h

-- ---- the profile of an answer

pub empty_sized : Sized empty_profile
unfolding empty_tables empty_field
empty_sized = record { registers = refl; sequences = refl; gates = refl; shutters = refl; regions = refl }

pub empty_in : in_range empty_profile ≡ true
unfolding empty_tables empty_field in_range all chunks half_part sequence_in region_in head_in gate_in subck_in shutter_in
empty_in = refl

-- an answer's profile is the one at hand or the empty one
pub answer_case : (P : Profile → Type 0) → P empty_profile → (v : Verdict) (p : Profile) → P p → P (read_answer v p).profile
answer_case P z v p h = cond-case P (accepts v) p empty_profile (λ e. h) (λ e. z)

pub records_sized : (s : List ℕ) (skip at : ℕ) (p : Profile) → Sized p → Sized (records skip at s p).profile
records_sized s skip at p z =
    records-all Sized (λ r. Sized r.profile) step_sized (answer_case Sized empty_sized) s skip at p z

pub records_in : (s : List ℕ) (skip at : ℕ) (p : Profile) → in_range p ≡ true → in_range (records skip at s p).profile ≡ true
records_in s skip at p r =
    records-all (λ p. in_range p ≡ true) (λ r. in_range r.profile ≡ true) step_in (answer_case (λ p. in_range p ≡ true) empty_in) s skip at p r

-- ---- a refused answer

-- "A refused read gives the empty profile"
abbrev Emptied : ReadAnswer → Type 0
Emptied r = (r.verdict.number ≡ 0 → ⊥) → r.profile ≡ empty_profile

answer_emptied : (v : Verdict) (p : Profile) → Emptied (read_answer v p)
answer_emptied v p h = rw (ne_eqb v.number 0 h)

records_emptied : (s : List ℕ) (skip at : ℕ) (p : Profile) → Emptied (records skip at s p)
records_emptied s skip at p =
    records-all (λ p. Unit {0}) Emptied (λ s p len q h e. tt) (λ v p u. answer_emptied v p) s skip at p tt

-- ---- the whole read

-- what is judged, or was refused already
judged-case : (rules : Ruleset) (Q : ReadAnswer → Type 0) (r : ReadAnswer) → (r.verdict.number ≡ 0 → Q (read_answer (judge rules r.profile) r.profile))
    → ((r.verdict.number ≡ 0 → ⊥) → Q r) → Q (judged rules r)
judged-case rules Q r f g =
    cond-case Q (accepts r.verdict) (read_answer (judge rules r.profile) r.profile) r
    (λ e. f (eqb-true r.verdict.number 0 e))
    (λ e. g (eqb-false r.verdict.number 0 e))

-- a judgement of number 0 on a profile in range is the check's
judged-accepted : (rules : Ruleset) (q : Profile) → in_range q ≡ true → (judge rules q).number ≡ 0 → check_profile rules (read_answer (judge rules q) q).profile ≡ accepted
judged-accepted rules q r e = rw (eq-eqb (judge rules q).number 0 e) (check_judge rules q r ∙ judge_number rules q e)

module _ (rules : Ruleset) (s : List ℕ) where
  -- the answer after the records
  abbrev taken : ReadAnswer
  taken = records 0 0 s empty_profile

  -- refused for its length, refused by a record, or judged
  read_case : (Q : ReadAnswer → Type 0) → Q (read_answer (refused 1 0) empty_profile) → ((taken.verdict.number ≡ 0 → ⊥) → Q taken)
      → (taken.verdict.number ≡ 0 → Q (read_answer (judge rules taken.profile) taken.profile)) → Q (read_script rules s)
  unfolding read_script
  read_case Q f g h =
      cond-case Q (leb (length s) most_bytes) (judged rules taken) (read_answer (refused 1 0) empty_profile) (λ e. judged-case rules Q taken h g) (λ e. f)

  pub read_sized : Sized (read_script rules s).profile
  read_sized =
      let z = records_sized s 0 0 empty_profile empty_sized in
      read_case (λ r. Sized r.profile) empty_sized (λ e. z) (λ e. answer_case Sized empty_sized (judge rules taken.profile) taken.profile z)

  pub read_in : in_range (read_script rules s).profile ≡ true
  read_in =
      let z = records_in s 0 0 empty_profile empty_in in
      read_case (λ r. in_range r.profile ≡ true) empty_in (λ e. z)
      (λ e. answer_case (λ p. in_range p ≡ true) empty_in (judge rules taken.profile) taken.profile z)

  pub read_refused : ((read_script rules s).verdict.number ≡ 0 → ⊥) → (read_script rules s).profile ≡ empty_profile
  read_refused =
      read_case Emptied (answer_emptied (refused 1 0) empty_profile) (λ e. records_emptied s 0 0 empty_profile)
      (λ e. answer_emptied (judge rules taken.profile) taken.profile)

  pub read_accepted : (read_script rules s).verdict.number ≡ 0 → check_profile rules (read_script rules s).profile ≡ accepted
  read_accepted =
      read_case (λ r. r.verdict.number ≡ 0 → check_profile rules r.profile ≡ accepted) (λ e. absurd (omega arith)) (λ n e. absurd (n e))
      (λ n. judged-accepted rules taken.profile (records_in s 0 0 empty_profile empty_in))

  -- no other verdict has the number 0
  pub read_verdict : (read_script rules s).verdict.number ≡ 0 → (read_script rules s).verdict ≡ accepted
  read_verdict =
      read_case (λ r. r.verdict.number ≡ 0 → r.verdict ≡ accepted) (λ e. absurd (omega arith)) (λ n e. absurd (n e))
      (λ n. judge_number rules taken.profile)
