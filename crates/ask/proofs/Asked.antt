-- Of all that is printed: what is past the first 16,509 bytes of an input makes no difference, and a script that is written reads as the one that
-- was asked about. A script that long is refused whatever follows, and a longer line is no question; the writer's script is read back.
-- Assumes nothing.
use Prim.Native.Nat.{ℕ, zero, suc, ◌≤◌, ◌<◌, min}
use native.Mathlib.Omega.{arith}
use mathlib.Core.Path.{◌≡◌, sym, ap, ◌∙◌}
use mathlib.Core.List.{List, [], ◌∷◌}
use lib.Dec.{leb, eqb}
use lib.ListN.{length, take, length-drop}
use lib.Seq.{take_all, take-take, length-take-le}
use borrow.Author.Tests.{le-leb, lt-leb, leb-true, leb-false, eq-eqb}
use Rattle.profile.specs.Values.{accepted, refused}
use Rattle.profile.specs.Versions.{newest_rules}
use Rattle.profile.specs.Rules.{check_profile}
use Rattle.profile.specs.Script.{most_bytes, read_script}
use Rattle.profile.specs.Records.{unread}
use Rattle.profile.specs.Writing.{longest_script, write_script}
use Rattle.profile.specs.declared.Profile.{Profile}
use Rattle.profile.specs.declared.Verdict.{Verdict}
use Rattle.profile.proofs.Laws.{by_cases}
use Rattle.profile.proofs.Reading.{read_sized, read_accepted, read_verdict}
use Rattle.profile.proofs.RoundTrip.{round_trip}
use Rattle.profile.proofs.Sizes.{script_high}
use Rattle.level.specs.Place.{level_answer, locate_answer, next_edge_answer}
use Rattle.holdlist.specs.Text.{value_of, refused_line}
use Rattle.ask.specs.Figures.{no_figures, figures_by, figures_of}
use Rattle.ask.specs.Question.{end_of, most_line, line_of, script_of, numbers_of, first_of, second_of}
use Rattle.ask.specs.Answer.{
  accepted_line,
  level_text,
  locate_text,
  edge_text,
  figures_line,
  write_text,
  of_profile,
  write_asked,
  figures_asked,
  answer_of,
  asked,
}
use Rattle.ask.proofs.Answering.{asked-none, asked_answer}

-- ---- scripts that are too long are answered alike

module _ (s : List ℕ) (h : most_bytes < length s) where
  too_long : read_script newest_rules s ≡ unread (refused 1 0)
  unfolding read_script
  too_long = rw (lt-leb (length s) most_bytes h)

  of_long : (text : Profile → List ℕ) → of_profile text s ≡ refused_line (refused 1 0)
  unfolding of_profile
  of_long text = rw too_long

  figures_long : figures_asked s ≡ figures_line no_figures
  unfolding figures_of figures_by
  figures_long = rw too_long

module _ (line s t : List ℕ) (h : most_bytes < length s) (g : most_bytes < length t) where
  same : (text : Profile → List ℕ) → of_profile text s ≡ of_profile text t
  same text = of_long s h text ∙ sym (of_long t g text)

  answers_alike : answer_of line s ≡ answer_of line t
  unfolding answer_of
  answers_alike =
      rw (
        same (λ p. accepted_line),
        same write_text,
        same (λ p. level_text (level_answer newest_rules p (value_of (first_of line)) (value_of (second_of line)))),
        same (λ p. locate_text (locate_answer newest_rules p (value_of (numbers_of line)))),
        same (λ p. edge_text (next_edge_answer newest_rules p (value_of (first_of line)) (value_of (second_of line)))),
        figures_long s h ∙ sym (figures_long t g),
      )

-- ---- the first line of a part

end-taken : (c n : ℕ) (s : List ℕ) → end_of c (take n s) ≡ min (end_of c s) n
unfolding end_of
end-taken c zero s = omega arith
end-taken c (suc n) [] = omega arith
end-taken c (suc n) (x ∷ s) =
    by_cases (eqb x c) (λ q. rw q (omega arith)) (λ q. rw q (omega (arith, end-taken c n s)))

-- ---- THE PROGRAM MAY STOP READING after 16,509 bytes: a line of 123, its end, and 16,385 of a script

module _ (input : List ℕ) (long : 16509 < length input) where
  abbrev part : List ℕ
  part = take 16509 input

  abbrev end : ℕ
  end = end_of 10 input

  part_length : length part ≡ 16509
  part_length = length-take-le 16509 input (omega arith)

  part_end : end_of 10 part ≡ min end 16509
  part_end = end-taken 10 16509 input

  enough_long : most_line < end → asked part ≡ asked input
  enough_long h = asked-none part (omega (arith, part_end)) ∙ sym (asked-none input h)

  module _ (h : end ≤ most_line) where
    same_end : end_of 10 part ≡ end
    same_end = omega (arith, part_end)

    same_line : line_of part ≡ line_of input
    same_line = rw same_end (take-take end 16509 input (omega arith))

    part-script : most_bytes < length (script_of part)
    part-script = rw same_end (simp length-drop (omega (arith, part_length)))

    enough-short : asked part ≡ asked input
    enough-short =
        asked_answer part (omega (arith, same_end))
        ∙ ap (λ (l : List ℕ). answer_of l (script_of part)) same_line
        ∙ answers_alike (line_of input) (script_of part) (script_of input) part-script (simp length-drop (omega arith))
        ∙ sym (asked_answer input h)

  enough : asked part ≡ asked input
  enough =
      by_cases (leb end most_line) (λ q. enough-short (leb-true end most_line q)) (λ q. enough_long (leb-false end most_line q))

pub asked_enough : (input : List ℕ) → asked (take 16509 input) ≡ asked input
asked_enough input =
    by_cases (leb (length input) 16509)
    (λ q. ap asked (take_all 16509 input (leb-true (length input) 16509 q)))
    (λ q. enough input (leb-false (length input) 16509 q))

-- ---- WHAT IS WRITTEN READS BACK: the script that is printed for an accepted one gives the same profile, and is accepted

module _ (s : List ℕ) (h : (read_script newest_rules s).verdict.number ≡ 0) where
  abbrev profile : Profile
  profile = (read_script newest_rules s).profile

  checked : check_profile newest_rules profile ≡ accepted
  checked = read_accepted newest_rules s h

  pub written_script : write_asked s ≡ write_script profile
  unfolding of_profile write_text
  written_script =
      rw (eq-eqb (read_script newest_rules s).verdict.number 0 h, checked, le-leb (length (write_script profile)) longest_script (script_high profile))

  pub written_back : read_script newest_rules (write_asked s) ≡ read_script newest_rules s
  written_back =
      ap (read_script newest_rules) written_script ∙ round_trip newest_rules profile (read_sized newest_rules s) checked
      ∙ ap (λ (v : Verdict). record { verdict = v; profile = profile }) (sym (read_verdict newest_rules s h))
