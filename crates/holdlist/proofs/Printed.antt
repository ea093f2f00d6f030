-- What is printed of a compile's answer, by its verdict; how long it is; and that what a compile leaves in the lists tells the field's runs.
-- Assumes nothing.
use Prim.Native.Nat.{ℕ, ◌+◌, ◌*◌, ◌≤◌, ◌<◌, ◌^◌, min}
use native.Mathlib.Omega.{arith}
use mathlib.Core.Path.{◌≡◌, refl, ap, ◌∙◌}
use Rattle.std.specs.Prelude.{Result, Ok, Err, IsErrAnd, MatchResult}
use mathlib.Core.List.{List, ◌++◌}
use borrow.Author.Tests.{eq-eqb, ne_eqb, eqb-true, eqb-false}
use lib.Dec.{eqb}
use lib.ListN.{length, get_or, drop, length-append, length-map, get_or-append}
use Rattle.profile.specs.Lists.{over}
use Rattle.profile.specs.Script.{read_script}
use Rattle.profile.specs.Refusals.{verdict_of, read_told}
use Rattle.profile.specs.declared.Verdict.{Verdict}
use Rattle.profile.specs.declared.refusal.Refusal.{Refusal}
use Rattle.profile.proofs.Refusing.{none_accepts}
use Rattle.profile.specs.declared.Profile.{Profile}
use Rattle.profile.specs.declared.Ruleset.{Ruleset}
use Rattle.profile.proofs.Laws.{by_cases, chunks_ext}
use Rattle.holdlist.specs.declared.ListSize.{ListSize}
use Rattle.holdlist.specs.Demand.{Compiled}
use Rattle.holdlist.specs.Runs.{step_count, step_word, step_counts, step_words}
use Rattle.holdlist.specs.Compile.{room_of, profile_words, field_runs, compile_told, compile_answer, compile_counts, compile_words, Compiles}
use Rattle.holdlist.specs.Text.{head_line, step_line_at, listing, refused_line, printed_answer, told_text, printed_of, printed, Puts, PutsText}
use Rattle.holdlist.proofs.Demanded.{compile_cases}
use Rattle.holdlist.proofs.Spelling.{Wide, listing-length, refused-length}

pub answer_listing :
    (c : Compiled) (cs ws : List ℕ) → c.verdict.number ≡ 0 → printed_answer c cs ws ≡ listing c.steps c.pixels cs ws
unfolding printed_answer
answer_listing c cs ws e = rw (eq-eqb c.verdict.number 0 e)

pub answer_refused :
    (c : Compiled) (cs ws : List ℕ) → (c.verdict.number ≡ 0 → ⊥) → printed_answer c cs ws ≡ refused_line c.verdict
unfolding printed_answer
answer_refused c cs ws n = rw (ne_eqb c.verdict.number 0 n)

-- 16 bytes a step, and the longest head line
pub answer_length :
    (c : Compiled) (cs ws : List ℕ) → Wide c.verdict → c.steps < 2 ^ 64 → c.pixels < 2 ^ 64 →
    ((i : ℕ) → get_or cs i 0 < 2 ^ 32) → length (printed_answer c cs ws) ≤ 55 + 16 * room_of cs ws
answer_length c cs ws w s x f =
    by_cases (eqb c.verdict.number 0)
    (λ t.
    rw (answer_listing c cs ws (eqb-true _ _ t))
    (omega (arith, listing-length c.steps c.pixels cs ws s x f)))
    (λ t.
    rw (answer_refused c cs ws (eqb-false _ _ t))
    (omega (arith, refused-length c.verdict w)))

-- ---- what is left past the steps is not printed

module _ (steps pixels : ℕ) (cs ws us vs : List ℕ) where
  listing-over :
      length cs ≡ steps → length ws ≡ steps → listing steps pixels (over cs us) (over ws vs) ≡ listing steps pixels cs ws
  unfolding listing
  listing-over h g =
      let a : min steps (room_of (over cs us) (over ws vs)) ≡ steps =
      omega (arith, length-append cs (drop (length cs) us), length-append ws (drop (length ws) vs))
      in
      let b : min steps (room_of cs ws) ≡ steps = omega arith in
      rw (a, b)
      (ap (λ s. head_line steps pixels ++ s)
      (chunks_ext steps (step_line_at (over cs us) (over ws vs)) (step_line_at cs ws)
      (λ i l.
      rw (get_or-append cs (drop (length cs) us) 0 i (omega arith), get_or-append ws (drop (length ws) vs) 0 i (omega arith)))))

-- so the lists that a compile leaves tell what the field's runs tell
pub answer_runs :
    (rules : Ruleset) (p : Profile) (cs ws : List ℕ) →
    printed_answer (compile_answer rules p (room_of cs ws)) (compile_counts rules p (room_of cs ws) cs) (compile_words rules p (room_of cs ws) ws)
    ≡ printed_answer (compile_answer rules p (room_of cs ws)) (step_counts (field_runs rules p)) (step_words (field_runs rules p))
unfolding printed_answer
answer_runs rules p cs ws =
    compile_cases rules p cs ws (λ r cs' ws'. printed_answer r cs' ws' ≡ printed_answer r (step_counts (field_runs rules p)) (step_words (field_runs rules p)))
    (λ e. rw e)
    (λ ok h. refl)
    (λ ok h.
    listing-over (length (field_runs rules p)) (length (profile_words rules p)) (step_counts (field_runs rules p)) (step_words (field_runs rules p)) cs ws
    (length-map (field_runs rules p) step_count) (length-map (field_runs rules p) step_word))

-- ---- what is printed for a script

pub printed-refused : (rules : Ruleset) (script : List ℕ) (refusal : Refusal) {v : Verdict} → v ≡ verdict_of refusal
    → read_told (Err refusal) ≡ read_script rules script → refused_line v ≡ printed rules script
unfolding printed
printed-refused rules script refusal e r = rw (← r, none_accepts refusal, e)

-- s is what a compile gave, its refusal as a verdict
abbrev pub Told : Result ListSize Refusal → Result ListSize Verdict → Type 0
Told r s = MatchResult r (λ size. s ≡ Ok size) (λ refusal. IsErrAnd s (λ v. v ≡ verdict_of refusal))

told_answer : (r : Result ListSize Refusal) (s : Result ListSize Verdict) (cs ws : List ℕ) → Told r s → told_text s cs ws ≡ printed_answer (compile_told r) cs ws
unfolding printed_answer
told_answer (Ok size) s cs ws t = rw t refl
told_answer (Err refusal) (Ok size) cs ws t = absurd t
told_answer (Err refusal) (Err v) cs ws t = rw (t, none_accepts refusal)

pub printed_told :
    (rules : Ruleset) (script : List ℕ) (p : Profile) (r : Result ListSize Refusal) (s : Result ListSize Verdict) {cs ws cs' ws' : List ℕ} →
    read_told (Ok p) ≡ read_script rules script → room_of cs ws ≡ 4096 → Compiles rules p cs ws (compile_told r) cs' ws' → Told r s →
    told_text s cs' ws' ≡ printed rules script
unfolding printed printed_of
printed_told rules script p r s {cs = cs} {ws = ws} {cs' = cs'} {ws' = ws'} e m c t =
    told_answer r s cs' ws' t ∙ rw (c.answer, c.counts, c.words) (answer_runs rules p cs ws ∙ rw (m, ← e))

-- a text that is printed for a script, put
pub puts_text : {rules : Ruleset} {script b l l' : List ℕ} {at next : ℕ} → Puts b l at next l' → b ≡ printed rules script → length b ≤ 55 + 16 * 4096
    → PutsText rules script l at next l'
puts_text p e h = record { puts = rw (← e) p; short = rw (← e) h }
