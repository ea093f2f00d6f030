-- Laws of the answers: how long each line is, what is put by a verdict, and which input asks for what.
-- Assumes nothing.
use Prim.Native.Nat.{ℕ, ◌^◌, ◌≤◌, ◌<◌}
use native.Mathlib.Omega.{arith}
use mathlib.Core.Path.{◌≡◌, refl, ap, ◌∙◌}
use mathlib.Core.Bool.{true, cond}
use mathlib.Core.List.{List, []}
use Rattle.std.specs.Prelude.{Ok, Err}
use lib.ListN.{length, take, drop, length-append}
use lib.Seq.{take_at, length-take-le}
use borrow.Author.Tests.{eq-eqb, le-leb, lt-leb}
use Rattle.profile.specs.Values.{accepts, ReadAnswer, Written}
use Rattle.profile.specs.Refusals.{verdict_of, read_told}
use Rattle.profile.specs.Versions.{newest_rules}
use Rattle.profile.specs.Script.{read_script}
use Rattle.profile.specs.Writing.{longest_script, write_script, write_verdict, write_answer, write_leaves}
use Rattle.profile.specs.declared.Profile.{Profile}
use Rattle.profile.specs.declared.Verdict.{Verdict}
use Rattle.profile.specs.declared.refusal.Refusal.{Refusal}
use Rattle.profile.proofs.Refusing.{refuses}
use Rattle.profile.proofs.Sizes.{script_high}
use Rattle.holdlist.specs.Text.{refused_line}
use Rattle.holdlist.proofs.Puts.{puts_none, puts_whole}
use Rattle.holdlist.proofs.Spelling.{Wide, decimal-length, refused-length}
use Rattle.ask.specs.declared.figures.Figures.{Figures}
use Rattle.ask.specs.Question.{end_of, most_line, line_of, script_of}
use Rattle.ask.specs.Answer.{word_line, place_line, figures_line, write_text, of_profile, answer_of, asked}
use Rattle.ask.specs.Short.{PutsShort}
use Rattle.ask.proofs.Asking.{end_inside}

-- ---- lines, and how long they are: a u64 has at most 20 digits

pub word_length : (word : ℕ) → length (word_line word) ≤ longest_script
unfolding word_line
word_length word = simp length-append (omega arith)

pub place_length : (line pixel : ℕ) → line < 2 ^ 64 → pixel < 2 ^ 64 → length (place_line line pixel) ≤ longest_script
unfolding place_line
place_length line pixel h g =
    simp length-append (omega (arith, decimal-length line 19 (omega arith), decimal-length pixel 19 (omega arith)))

pub figures-length :
    (f : Figures) → f.first < 2 ^ 64 → f.second < 2 ^ 64 → f.third < 2 ^ 64 → f.fourth < 2 ^ 64 →
    length (figures_line f) ≤ longest_script
unfolding figures_line
figures-length f h g k m =
    let a = decimal-length f.first 19 (omega arith) in
    let b = decimal-length f.second 19 (omega arith) in
    let c = decimal-length f.third 19 (omega arith) in
    simp length-append (omega (arith, a, b, c, decimal-length f.fourth 19 (omega arith)))

pub verdict-length : (v : Verdict) → Wide v → length (refused_line v) ≤ longest_script
verdict-length v w = omega (arith, refused-length v w)

pub short_none : {l : List ℕ} → PutsShort [] l 0 l
short_none {l} = record { puts = puts_none l 0; short = omega arith }

pub short_as : {a b l l' : List ℕ} {n : ℕ} → PutsShort a l n l' → a ≡ b → PutsShort b l n l'
short_as p e = rw (← e) p

-- ---- by a verdict: a refusal's accepts nothing

pub short_refused :
    (text : List ℕ) {l l' : List ℕ} {n : ℕ} {v : Verdict} (r : Refusal) → verdict_of r ≡ v → PutsShort (refused_line (verdict_of r)) l n l' →
    PutsShort (cond (accepts v) text (refused_line v)) l n l'
short_refused text r e p = rw (refuses r e, ← e) p

-- what was written into room for the longest script
module _ (p : Profile) (room : List ℕ) (r : Written) (e : r ≡ write_answer newest_rules p (length room)) (z : longest_script ≡ length room) where
  told : r.verdict ≡ write_verdict newest_rules p longest_script
  unfolding write_answer
  told = ap (λ (w : Written). w.verdict) e ∙ rw (← z)

  pub short_unwritten :
      {l l' : List ℕ} {n : ℕ} (refusal : Refusal) → verdict_of refusal ≡ r.verdict → PutsShort (refused_line (verdict_of refusal)) l n l' →
      PutsShort (write_text p) l n l'
  unfolding write_text
  short_unwritten refusal h q = short_refused (write_script p) refusal (h ∙ told) q

  module _ (h : r.verdict.number ≡ 0) where
    accepting : accepts (write_verdict newest_rules p longest_script) ≡ true
    accepting = rw (← told) (eq-eqb r.verdict.number 0 h)

    write-length : r.length ≡ length (write_script p)
    unfolding write_answer
    write-length = ap (λ (w : Written). w.length) e ∙ rw (← z, accepting)

    pub write-inside : r.length ≤ longest_script
    write-inside = omega (arith, write-length, script_high p)

    pub write-taken : (room' : List ℕ) → room' ≡ write_leaves newest_rules p room → take r.length room' ≡ write_text p
    unfolding write_text write_leaves
    write-taken room' g =
        rw (g, write-length, ← z, accepting) (take_at (write_script p) (drop (length (write_script p)) room) (length (write_script p)) refl)

    pub write-short : length (write_text p) ≤ longest_script
    unfolding write_text
    write-short = rw accepting (script_high p)

-- of a script
module _ (text : Profile → List ℕ) (s : List ℕ) {l l' : List ℕ} {n : ℕ} where
  pub of_refused :
      (r : Refusal) → read_told (Err r) ≡ read_script newest_rules s → PutsShort (refused_line (verdict_of r)) l n l' →
      PutsShort (of_profile text s) l n l'
  unfolding of_profile
  of_refused r e q = short_refused (text (read_script newest_rules s).profile) r (ap (λ (a : ReadAnswer). a.verdict) e) q

  pub of_accepted :
      (p : Profile) → read_told (Ok p) ≡ read_script newest_rules s → PutsShort (text p) l n l' → PutsShort (of_profile text s) l n l'
  unfolding of_profile
  of_accepted p e q = rw (← e) q

-- ---- the whole input

-- by where its first line ends
module _ (input : List ℕ) where
  line_length_lem : length (line_of input) ≡ end_of 10 input
  line_length_lem = length-take-le (end_of 10 input) input (end_inside 10 input)

  pub asked-none : most_line < end_of 10 input → asked input ≡ []
  unfolding asked
  asked-none h = rw (line_length_lem, lt-leb (end_of 10 input) most_line h)

  pub asked_answer : end_of 10 input ≤ most_line → asked input ≡ answer_of (line_of input) (script_of input)
  unfolding asked
  asked_answer h = rw (line_length_lem, le-leb (end_of 10 input) most_line h)

-- short text fits the room whole
pub short_whole : {text l l' : List ℕ} {n : ℕ} → PutsShort text l n l' → length l ≡ 1400 → (n ≤ 1400) × (take n l' ≡ text)
short_whole p e = let q = puts_whole p.puts (omega (arith, p.short)) in (omega (arith, q.0), q.1)
