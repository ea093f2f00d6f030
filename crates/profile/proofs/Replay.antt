-- Reading a script by any tests of a record and any judging, in document 01's order, and that two ways which agree on each record give the same
-- answer. Two answers of a record differ only where one of them stops with a number that is excepted. The writer's answer, by any verdict and any script.
-- Assumes nothing.
use Prim.Native.Nat.{ℕ, zero, suc, ◌+◌}
use mathlib.Core.Path.{◌≡◌, refl}
use mathlib.Core.Logic.{◌⊎◌, inl, inr}
use mathlib.Core.Bool.{Bool, cond, not}
use mathlib.Core.List.{List, [], ◌∷◌}
use borrow.Author.Tests.{ne_eqb}
use lib.Dec.{ltb, leb}
use lib.ListN.{length}
use Rattle.profile.specs.Lists.{over}
use Rattle.profile.specs.Bytes.{Bytes, number_at}
use Rattle.profile.specs.Values.{empty_profile, accepted, refused, accepts, read_answer, Written}
use Rattle.profile.specs.Rules.{judge}
use Rattle.profile.specs.Script.{
  most_bytes,
  known,
  allowed,
  fits,
  with_record,
  Stepped,
  stop,
  next,
  body_of,
  step,
  after_first,
  records,
  read_script,
}
use Rattle.profile.specs.declared.Profile.{Profile}
use Rattle.profile.specs.declared.Verdict.{Verdict}
use Rattle.profile.specs.Values.{ReadAnswer}
use Rattle.profile.specs.declared.Ruleset.{Ruleset}
use Rattle.profile.proofs.Laws.{by_cases}
use Rattle.profile.proofs.ByteRange.{bytes_tail}
use Rattle.profile.proofs.Reading.{answer_case}

-- ---- one record, all records, the judging

-- by the lengths of a kind, its values, and the profile with it
unfoldable pub step_by : (ℕ → ℕ → Bool) → (ℕ → List ℕ → Bool) → (ℕ → List ℕ → Profile → Profile) → List ℕ → Profile → Stepped
step_by allows suits puts s p =
    cond (ltb (length s) 4) (stop 2)
    (cond (not (known (number_at s 2))) (stop 3)
    (cond (not (allows (number_at s 2) (number_at s 0))) (stop 4)
    (cond (ltb (length s) (4 + number_at s 0)) (stop 2)
    (cond (suits (number_at s 2) (body_of s)) (next (number_at s 0) (puts (number_at s 2) (body_of s) p)) (stop 5)))))

pub records_by : (List ℕ → Profile → Stepped) → ℕ → ℕ → List ℕ → Profile → ReadAnswer
records_by one skip at [] p = read_answer accepted p
records_by one zero at (x ∷ xs) p =
    elim (one (x ∷ xs) p) [ stop n ↦ read_answer (refused n at) p | next len q ↦ records_by one (after_first len) (at + 1) xs q ]
records_by one (suc skip) at (x ∷ xs) p = records_by one skip (at + 1) xs p

abbrev judged_by : (Profile → Verdict) → ReadAnswer → ReadAnswer
judged_by rules r = cond (accepts r.verdict) (read_answer (rules r.profile) r.profile) r

pub read_by : (List ℕ → Profile → Stepped) → (Profile → Verdict) → List ℕ → ReadAnswer
read_by one rules s =
    cond (leb (length s) most_bytes) (judged_by rules (records_by one 0 0 s empty_profile)) (read_answer (refused 1 0) empty_profile)

-- as it is read
pub step_by_lem : (s : List ℕ) (p : Profile) → step s p ≡ step_by allowed fits with_record s p
unfolding step step_by
step_by_lem s p = refl

records_by_lem : (s : List ℕ) (skip at : ℕ) (p : Profile) → records skip at s p ≡ records_by step skip at s p
unfolding records records_by
records_by_lem [] skip at p = refl
records_by_lem (x ∷ xs) zero at p = front (step (x ∷ xs) p) (λ skip at q. records_by_lem xs skip at q)
  where
    front : (r : Stepped) → ((skip at : ℕ) (q : Profile) → records skip at xs q ≡ records_by step skip at xs q)
        → ◌≡◌ {A = ReadAnswer} (elim r [ stop n ↦ read_answer (refused n at) p | next len q ↦ records (after_first len) (at + 1) xs q ])
        (elim r [ stop n ↦ read_answer (refused n at) p | next len q ↦ records_by step (after_first len) (at + 1) xs q ])
    front (stop n) on = refl
    front (next len q) on = on (after_first len) (at + 1) q
records_by_lem (x ∷ xs) (suc skip) at p = records_by_lem xs skip (at + 1) p

pub read_by_lem : (rules : Ruleset) (s : List ℕ) → read_script rules s ≡ read_by step (judge rules) s
unfolding read_script read_by
read_by_lem rules s = rw (← (records_by_lem s 0 0 empty_profile))

-- ---- the writer: what it answers and leaves, by the check's verdict and the script

abbrev write_verdict_by : Verdict → List ℕ → ℕ → Verdict
write_verdict_by v s room = cond (accepts v) (cond (leb (length s) room) accepted (refused 18 (length s))) v

abbrev pub write_by : Verdict → List ℕ → ℕ → Written
write_by v s room =
    record { verdict = write_verdict_by v s room; length = cond (accepts (write_verdict_by v s room)) (length s) 0 }

abbrev pub leaves_by : Verdict → List ℕ → List ℕ → List ℕ
leaves_by v s out = cond (accepts (write_verdict_by v s (length out))) (over s out) out

-- ---- two ways

-- P is of the profiles read so far, and Excepted of the numbers with which the second way may stop alone
module _ (P : Profile → Type 0) (Excepted : ℕ → Type 0) where
  abbrev pub Alike : Stepped → Stepped → Type 0
  Alike r (stop n) = (r ≡ stop n) ⊎ Excepted n
  Alike r (next len q) = (r ≡ next len q) × P q

  pub alike : (r r' : Stepped) → r ≡ r' → ((len : ℕ) (q : Profile) → r ≡ next len q → P q) → Alike r r'
  alike r (stop n) e keeps = inl e
  alike r (next len q) e keeps = (e, keeps len q e)

  -- the same answer, or a number that is excepted
  abbrev Agree : ReadAnswer → ReadAnswer → Type 0
  Agree r r' = ((r ≡ r') × P r'.profile) ⊎ Excepted r'.verdict.number

  module _ (one other : List ℕ → Profile → Stepped) (empty : P empty_profile)
      (each : (s : List ℕ) (p : Profile) → Bytes s → P p → Alike (one s p) (other s p)) where
    records-agree : (s : List ℕ) (skip at : ℕ) (p : Profile) → Bytes s → P p → Agree (records_by one skip at s p) (records_by other skip at s p)
    unfolding records_by
    records-agree [] skip at p bytes h = inl (refl, answer_case P empty accepted p h)
    records-agree (x ∷ xs) zero at p bytes h =
        front (one (x ∷ xs) p) (other (x ∷ xs) p) (each (x ∷ xs) p bytes h) (λ skip at q. records-agree xs skip at q (bytes_tail bytes))
      where
        front : (r r' : Stepped) → Alike r r' → ((skip at : ℕ) (q : Profile) → P q → Agree (records_by one skip at xs q) (records_by other skip at xs q))
            → Agree (elim r [ stop n ↦ read_answer (refused n at) p | next len q ↦ records_by one (after_first len) (at + 1) xs q ])
            (elim r' [ stop n ↦ read_answer (refused n at) p | next len q ↦ records_by other (after_first len) (at + 1) xs q ])
        front r (stop n) (inl e) on = rw e (inl (refl, answer_case P empty (refused n at) p h))
        front r (stop n) (inr k) on = inr k
        front r (next len q) k on = rw k.0 (on (after_first len) (at + 1) q k.1)
    records-agree (x ∷ xs) (suc skip) at p bytes h = records-agree xs skip (at + 1) p (bytes_tail bytes) h

    pub read-agree : (rules others : Profile → Verdict) → ((p : Profile) → P p → rules p ≡ others p) → (Excepted 0 → ⊥)
        → (s : List ℕ) → Bytes s → (read_by one rules s ≡ read_by other others s) ⊎ Excepted (read_by other others s).verdict.number
    unfolding read_by
    read-agree rules others same none s bytes =
        by_cases (leb (length s) most_bytes)
        (λ l. rw l (judging (records_by one 0 0 s empty_profile) (records_by other 0 0 s empty_profile) (records-agree s 0 0 empty_profile bytes empty)))
        (λ l. rw l (inl refl))
      where
        judging : (r r' : ReadAnswer) → Agree r r' → (judged_by rules r ≡ judged_by others r') ⊎ Excepted (judged_by others r').verdict.number
        judging r r' (inl k) = inl (rw (k.0, same r'.profile k.1))
        judging r r' (inr k) = inr (rw (ne_eqb r'.verdict.number 0 (λ z. none (rw z at k))) k)
