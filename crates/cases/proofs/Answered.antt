-- What the drivers put is what the definitions say: each law joins what an entry point ensures to the text of its kind.
-- Assumes nothing.
use Prim.Native.Nat.{ℕ, ◌+◌, ◌*◌}
use mathlib.Core.Path.{◌≡◌, refl, sym, ap, ◌∙◌}
use mathlib.Core.List.{List, [], ◌∷◌, ◌++◌}
use lib.ListN.{length}
use Rattle.std.specs.Prelude.{Option, Some, None, Result, Ok, Err}
use Rattle.std.proofs.Common.{append_assoc, append-nil}
use Rattle.std.specs.Result.{result_unwrap_or}
use Rattle.profile.specs.Lists.{chunks}
use Rattle.profile.specs.Values.{empty_profile}
use Rattle.profile.specs.Refusals.{verdict_in, read_told, write_told}
use Rattle.profile.specs.Versions.{newest_rules}
use Rattle.profile.specs.Writing.{write_answer, write_leaves}
use Rattle.profile.specs.declared.Profile.{Profile}
use Rattle.profile.specs.declared.Ruleset.{Ruleset}
use Rattle.profile.specs.declared.Verdict.{Verdict}
use Rattle.profile.specs.declared.refusal.Refusal.{Refusal}
use Rattle.level.specs.Place.{Located, level_told, locate_told, edge_told}
use Rattle.level.specs.declared.LinePixel.{LinePixel}
use Rattle.holdlist.specs.Compile.{Compiles, compile_told}
use Rattle.holdlist.specs.Play.{play_told, play_answer}
use Rattle.holdlist.specs.declared.ListSize.{ListSize}
use Rattle.cases.specs.Raw.{eight_at, numbers_from, fours_from, raw_length, versioned_length, rules_at, raw_profile}
use Rattle.cases.specs.Answer.{after, head_text, verdict_line, joined_line, hex_line, profile_line}
use Rattle.cases.specs.Kinds.{verdict_text, verdict_with, verdict_with_two, verdict_with_three, edge_numbers, read_text, level_text, edge_text, locate_text, write_text, write_of, compile_text, compile_of, compile_lines, play_text, play_lines}

-- ---- the line of an answer

before : {a b : List ℕ} (c : List ℕ) → a ≡ b → a ++ c ≡ b ++ c
before c e = ap (λ (xs : List ℕ). xs ++ c) e

line_none : (v : Verdict) → verdict_line v [] ≡ verdict_text v
unfolding chunks
line_none v = before (10 ∷ []) (append-nil (head_text v))

line_one : (v : Verdict) (m : ℕ) → verdict_line v (m ∷ []) ≡ verdict_with v m
unfolding chunks
line_one v m = refl

line_two : (v : Verdict) (m n : ℕ) → verdict_line v (m ∷ n ∷ []) ≡ verdict_with_two v m n
unfolding chunks
line_two v m n = before (10 ∷ []) (sym (append_assoc (head_text v) (after m) (after n)))

line_three : (v : Verdict) (m n o : ℕ) → verdict_line v (m ∷ n ∷ o ∷ []) ≡ verdict_with_three v m n o
unfolding chunks
line_three v m n o =
    before (10 ∷ [])
    (sym (append_assoc (head_text v) (after m ++ after n) (after o)) ∙ before (after o) (sym (append_assoc (head_text v) (after m) (after n))))

pub check_line : (r : Result (Unit {0}) Refusal) → verdict_line (verdict_in r) [] ≡ verdict_text (verdict_in r)
check_line r = line_none _

pub level_line : (r : Result ℕ Refusal) → verdict_line (verdict_in r) (result_unwrap_or r 0 ∷ []) ≡ level_text (level_told r)
level_line (Ok word) = line_one _ _
level_line (Err refusal) = line_one _ _

pub play_line : (r : Result ℕ Refusal) → verdict_line (verdict_in r) (result_unwrap_or r 0 ∷ []) ≡ play_text (play_told r)
play_line (Ok word) = line_one _ _
play_line (Err refusal) = line_one _ _

pub locate_line :
    (r : Result LinePixel Refusal) {v : Verdict} {there : LinePixel} {a : Located} →
    v ≡ verdict_in r → there ≡ result_unwrap_or r (record { line = 0; pixel = 0 }) → locate_told r ≡ a →
    verdict_line v (there.line ∷ there.pixel ∷ []) ≡ locate_text a
locate_line (Ok there) e t a = rw (e, t) (line_two _ _ _ ∙ ap locate_text a)
locate_line (Err refusal) e t a = rw (e, t) (line_two _ _ _ ∙ ap locate_text a)

pub edge_line : (r : Result (Option LinePixel) Refusal) → verdict_line (verdict_in r) (edge_numbers (result_unwrap_or r None)) ≡ edge_text (edge_told r)
edge_line (Ok (Some there)) = line_three _ _ _ _
edge_line (Ok None) = line_three _ _ _ _
edge_line (Err refusal) = line_three _ _ _ _

-- the line, and what is put beside it
pub read_line :
    (r : Result Profile Refusal) {v : Verdict} {p : Profile} → v ≡ verdict_in r → p ≡ result_unwrap_or r empty_profile →
    verdict_line v [] ++ profile_line p ≡ read_text (read_told r)
read_line (Ok profile) e u = rw (e, u) (before _ (line_none _))
read_line (Err refusal) e u = rw (e, u) (before _ (line_none _))

pub write_line :
    (p : Profile) (r : Result ℕ Refusal) (out : List ℕ) {out' : List ℕ} {v : Verdict} {n : ℕ} → v ≡ verdict_in r → n ≡ result_unwrap_or r 0 →
    write_told r ≡ write_answer newest_rules p (length out) → out' ≡ write_leaves newest_rules p out →
    verdict_line v (n ∷ []) ++ hex_line out' ≡ write_of p out
unfolding write_of write_text
write_line p (Ok n) out e u t l = rw (e, u, l, ← t) (before _ (line_one _ _))
write_line p (Err refusal) out e u t l = rw (e, u, l, ← t) (before _ (line_one _ _))

pub compile_line :
    {rules : Ruleset} {p : Profile} {cs ws cs' ws' : List ℕ} (r : Result ListSize Refusal) {v : Verdict} {size : ListSize} →
    v ≡ verdict_in r → size ≡ result_unwrap_or r (record { steps = 0; pixels = 0 }) → Compiles rules p cs ws (compile_told r) cs' ws' →
    verdict_line v (size.steps ∷ size.pixels ∷ []) ++ joined_line cs' ++ joined_line ws' ≡ compile_of rules p cs ws
unfolding compile_of compile_text
compile_line (Ok size) e u c = rw (e, u, ← c.answer, ← c.counts, ← c.words) (before _ (before _ (line_two _ _ _)))
compile_line (Err refusal) e u c = rw (e, u, ← c.answer, ← c.counts, ← c.words) (before _ (before _ (line_two _ _ _)))

-- lists that were filled from a payload
module _ (b cs ws cs' ws' : List ℕ) (n : ℕ) where
  pub compile_filled :
      (rules : Ruleset) (p : Profile) → rules ≡ rules_at b raw_length → p ≡ raw_profile b →
      cs' ≡ fours_from b (versioned_length + 8) (length cs) → ws' ≡ numbers_from b (versioned_length + 8 + 4 * n) (length ws) →
      n ≡ length cs → compile_of rules p cs' ws' ≡ compile_lines (length cs) (length ws) b
  unfolding compile_lines
  compile_filled rules p er ep ec ew en = rw (er, ep, ec, ew, en)

  pub play_filled :
      (u k : ℕ) → u ≡ eight_at b 8 → k ≡ eight_at b 16 → cs' ≡ fours_from b 24 (length cs) → ws' ≡ numbers_from b (24 + 4 * n) (length ws) →
      n ≡ length cs → play_text (play_answer cs' ws' u k) ≡ play_lines (length cs) (length ws) b
  unfolding play_lines
  play_filled u k eu ek ec ew en = rw (eu, ek, ec, ew, en)
