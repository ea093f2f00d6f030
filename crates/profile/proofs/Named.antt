-- What the verdicts of check, read and write name: an output and a toggle at refusal 10, 0 and 0 at every other answer (specs/Values.antt: Names).
-- Only the entries of 10 name any, each its own output and toggle, and every verdict is an entry's, `accepted`, or a refusal of another number.
-- Assumes nothing.
use Prim.Native.Nat.{ℕ, zero, suc, ◌+◌, ◌<◌}
use native.Mathlib.Omega.{arith}
use mathlib.Core.Path.{◌≡◌, refl}
use mathlib.Core.Logic.{◌⊎◌, inl, inr}
use mathlib.Core.Bool.{Bool, cond}
use mathlib.Core.List.{List, [], ◌∷◌, ◌++◌}
use borrow.Author.Tests.{leb-true}
use lib.ListN.{length}
use lib.Dec.{leb}
use Rattle.profile.specs.Lists.{Each}
use Rattle.profile.specs.Values.{empty_profile, accepted, refused, refused_toggle, accepts, Names}
use Rattle.profile.specs.Ranges.{in_range}
use Rattle.profile.specs.Rules.{line_entries, rules_of, judge, check_profile}
use Rattle.profile.specs.Script.{most_bytes, Stepped, stop, next, step, after_first, records, judged, read_script}
use Rattle.profile.specs.Upload.{held_bytes, arrived, is_refused, records_with, read_with, upload_answer}
use Rattle.profile.specs.Writing.{write_script, write_verdict}
use Rattle.profile.specs.declared.Tables.{Tables}
use Rattle.profile.specs.declared.Field.{Field}
use Rattle.profile.specs.declared.Profile.{Profile}
use Rattle.profile.specs.declared.Verdict.{Verdict}
use Rattle.profile.specs.Values.{ReadAnswer}
use Rattle.profile.specs.declared.Ruleset.{Ruleset}
use Rattle.profile.specs.declared.upload.Upload.{Upload}
use Rattle.profile.proofs.Laws.{cond-case, by_cases, and_right}
use Rattle.profile.proofs.Takes.{stop_range}
use Rattle.profile.proofs.Entries.{broken_one}
use Rattle.profile.proofs.Checked.{judge_entries, parts_at, parts-rules}

-- ---- a verdict by how it was made

-- one that names no toggle, with another number than 10
pub names_none : (n at : ℕ) → (n ≡ 10 → ⊥) → Names (refused n at)
names_none n at h = record { output = λ e. absurd (h e); toggle = λ e. absurd (h e); others = λ e. (refl, refl) }

names_toggle : (at k j : ℕ) → k < 6 → (j ≡ 2) ⊎ (j ≡ 3) → Names (refused_toggle at (k + 1) j)
names_toggle at k j h d = record { output = λ e. (omega arith, omega arith); toggle = λ e. d; others = λ e. absurd (e refl) }

pub names_accepted : Names accepted
names_accepted = names_none 0 0 (omega arith)

-- ---- the check

names_rules : (rules : Ruleset) (t : Tables) (f : Field) → Each (λ e. Names e.verdict) (rules_of rules t f)
unfolding line_entries
names_rules rules t f =
    parts-rules _ t f rules
    (record {
      order = λ i h. (names_none 7 i (omega arith), tt);
      region = λ i h.
          parts_at _ i _ _ _ _
          (record {
            given = names_none 8 i (omega arith);
            length = names_none 9 i (omega arith);
            toggles = λ k l. (names_toggle i k 2 l (inl refl), (names_toggle i k 3 l (inr refl), tt));
            runs = (names_none 11 i (omega arith), (names_none 12 i (omega arith), (names_none 13 i (omega arith), tt)));
          });
      lines = (names_none 14 0 (omega arith), (names_none 14 0 (omega arith), tt));
      gates = λ k h. (names_none 15 k (omega arith), tt);
      subck = (names_none 16 0 (omega arith), tt);
      shutters = λ k h. (names_none 17 k (omega arith), tt);
    })

judge_names : (rules : Ruleset) (p : Profile) → Names (judge rules p)
judge_names rules p =
    rw judge_entries (broken_one Names _ names_accepted (names_none 6 0 (omega arith), names_rules rules p.tables p.field))

-- every verdict of the check: "refusal 10 then also returns output 1..6 and toggle"; "all other answers return 0 for both"
pub check_names : (rules : Ruleset) (p : Profile) → Names (check_profile rules p)
unfolding check_profile
check_names rules p = cond-case Names (in_range p) _ _ (λ h. judge_names rules p) (λ h. names_none 5 0 (omega arith))

-- ---- answers made by a test, and after the check

module _ {A : Type 0} (verdict : A → Verdict) where
  pub tested_names : (b : Bool) (x z : A) → Names (verdict x) → Names (verdict z) → Names (verdict (cond b x z))
  tested_names b x z m n = cond-case (λ (a : A). Names (verdict a)) b x z (λ h. m) (λ h. n)

  -- what the check refuses is refused with its verdict
  pub after_check : (rules : Ruleset) (p : Profile) (x z : A) → Names (verdict x) → verdict z ≡ check_profile rules p
      → Names (verdict (cond (accepts (check_profile rules p)) x z))
  after_check rules p x z n e = tested_names (accepts (check_profile rules p)) x z n (rw e (check_names rules p))

-- ---- reading and writing

-- the record at the front, by what its step is: one that stops the reading has a number of 2 to 5; on is the rest
record_names : (x : ℕ) (xs : List ℕ) (at : ℕ) (p : Profile) → ((skip at : ℕ) (q : Profile) → Names (records skip at xs q).verdict)
    → (r : Stepped) → step (x ∷ xs) p ≡ r → Names (records 0 at (x ∷ xs) p).verdict
unfolding records
record_names x xs at p on (stop n) e = rw (e, records) (names_none n at (omega (arith, (stop_range (x ∷ xs) p n e).1)))
record_names x xs at p on (next len q) e = rw (e, records) (on (after_first len) (at + 1) q)

pub records_names : (s : List ℕ) (skip at : ℕ) (p : Profile) → Names (records skip at s p).verdict
unfolding records
records_names [] skip at p = names_accepted
records_names (x ∷ xs) zero at p = record_names x xs at p (λ skip at q. records_names xs skip at q) (step (x ∷ xs) p) refl
records_names (x ∷ xs) (suc skip) at p = records_names xs skip (at + 1) p

judged_names : (rules : Ruleset) (r : ReadAnswer) → Names r.verdict → Names (judged rules r).verdict
judged_names rules r n = tested_names (λ (a : ReadAnswer). a.verdict) (accepts r.verdict) _ _ (judge_names rules r.profile) n

pub read_names : (rules : Ruleset) (s : List ℕ) → Names (read_script rules s).verdict
unfolding read_script
read_names rules s =
    tested_names (λ (a : ReadAnswer). a.verdict) (leb (length s) most_bytes) _ _
    (judged_names rules (records 0 0 s empty_profile) (records_names s 0 0 empty_profile))
    (names_none 1 0 (omega arith))

-- of every state of an upload
pub upload_names : (rules : Ruleset) (u : Upload) → Names (upload_answer rules u).verdict
unfolding read_with
upload_names rules u =
    tested_names (λ (a : ReadAnswer). a.verdict) (leb (arrived u.arrival + 0) most_bytes) _ _
    (judged_names rules (records_with u [])
    (by_cases (is_refused u.arrival.number)
    (λ r.
    let n = leb-true u.arrival.number 5 (and_right (leb 3 u.arrival.number) _ r) in
    rw r (names_none u.arrival.number u.arrival.place (omega arith)))
    (λ r. rw r (records_names (held_bytes u.arrival ++ []) 0 _ u.profile))))
    (names_none 1 0 (omega arith))

pub write_names : (rules : Ruleset) (p : Profile) (room : ℕ) → Names (write_verdict rules p room)
write_names rules p room =
    after_check (λ v. v) rules p _ _
    (tested_names (λ v. v) (leb (length (write_script p)) room) _ _ names_accepted (names_none 18 _ (omega arith))) refl
