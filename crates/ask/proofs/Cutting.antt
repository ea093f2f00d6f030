-- Numbers that are cut at a million millions ask for the same: no accepted field has so many lines or pixels.
-- Assumes nothing.
use Prim.Native.Nat.{ℕ, ◌≤◌, min}
use native.Mathlib.Omega.{arith}
use mathlib.Core.Path.{◌≡◌, sym, ap, ◌∙◌}
use mathlib.Core.Bool.{Bool, true}
use mathlib.Core.List.{List}
use lib.Dec.{ltb}
use borrow.Author.Tests.{le-ltb, ltb-true, ltb-false, eqb-true}
use Rattle.profile.specs.Values.{accepted, accepts}
use Rattle.profile.specs.Versions.{newest_rules}
use Rattle.profile.specs.Geometry.{line_length, pixel_count, has_pixel}
use Rattle.profile.specs.Rules.{check_profile}
use Rattle.profile.specs.Script.{read_script}
use Rattle.profile.specs.declared.Profile.{Profile}
use Rattle.profile.proofs.Laws.{by_cases, and_left, and_right}
use Rattle.profile.proofs.Checked.{check_range}
use Rattle.profile.proofs.Accepted.{accepted-field}
use Rattle.profile.proofs.Lines.{ranged, line_length_most, pixels_most}
use Rattle.profile.proofs.Reading.{read_accepted}
use Rattle.level.specs.Place.{level_answer, locate_answer, next_edge_answer}
use Rattle.ask.specs.Answer.{of_profile, level_text, locate_text, edge_text, level_asked, locate_asked, edge_asked}
use Rattle.ask.proofs.Asking.{cap}

-- below a bound that the cut is not below, a number is as it was cut
cut_small : (n m : ℕ) → m ≤ cap → ltb n m ≡ true → min n cap ≡ n
cut_small n m h e = omega (arith, ltb-true n m e)

cut_test : (n m : ℕ) → m ≤ cap → ltb (min n cap) m ≡ ltb n m
cut_test n m h =
    by_cases (ltb n m)
    (λ e. ap (λ (k : ℕ). ltb k m) (cut_small n m h e))
    (λ e. let l = ltb-false n m e in le-ltb (min n cap) m (omega arith) ∙ sym e)

-- ---- an accepted profile

module _ (p : Profile) (e : check_profile newest_rules p ≡ accepted) where
  lines_few : p.field.lines ≤ cap
  lines_few = omega (arith, (ranged p (check_range newest_rules p e) (accepted-field newest_rules p e)).most_lines)

  length_few : (line : ℕ) → line_length p.tables p.field line ≤ cap
  length_few line = omega (arith, line_length_most p (check_range newest_rules p e) (accepted-field newest_rules p e) line)

  pixels_few : pixel_count p.tables p.field ≤ cap
  pixels_few = omega (arith, pixels_most p (check_range newest_rules p e) (accepted-field newest_rules p e))

  -- a line and a pixel that are asked for
  module _ (l x : ℕ) where
    abbrev inside : Bool
    inside = has_pixel p.tables p.field l x

    -- no line there, or the line as it was cut
    cut_inside : has_pixel p.tables p.field (min l cap) (min x cap) ≡ inside
    unfolding has_pixel
    cut_inside =
        by_cases (ltb l p.field.lines)
        (λ t.
        rw (cut_small l p.field.lines lines_few t, t) (cut_test x (line_length p.tables p.field l) (length_few l)))
        (λ t. rw (cut_test l p.field.lines lines_few, t))

    cut-same : inside ≡ true → (min l cap ≡ l) × (min x cap ≡ x)
    unfolding has_pixel
    cut-same t = (
      cut_small l p.field.lines lines_few (and_left (ltb l p.field.lines) _ t),
      cut_small x (line_length p.tables p.field l) (length_few l) (and_right (ltb l p.field.lines) _ t),
    )

    pub level-cut : level_answer newest_rules p (min l cap) (min x cap) ≡ level_answer newest_rules p l x
    unfolding level_answer
    level-cut =
        rw (e, cut_inside)
        (by_cases inside
        (λ t. let s = cut-same t in rw (t, s.0, s.1))
        (λ t. rw t))

    pub edge-cut : next_edge_answer newest_rules p (min l cap) (min x cap) ≡ next_edge_answer newest_rules p l x
    unfolding next_edge_answer
    edge-cut =
        rw (e, cut_inside)
        (by_cases inside
        (λ t. let s = cut-same t in rw (t, s.0, s.1))
        (λ t. rw t))

  pub locate_cut : (n : ℕ) → locate_answer newest_rules p (min n cap) ≡ locate_answer newest_rules p n
  unfolding locate_answer
  locate_cut n =
      rw (e, cut_test n (pixel_count p.tables p.field) pixels_few)
      (by_cases (ltb n (pixel_count p.tables p.field))
      (λ t. rw (t, cut_small n (pixel_count p.tables p.field) pixels_few t))
      (λ t. rw t))

-- ---- of a script

module _ (s : List ℕ) where
  -- texts that are the same for every accepted profile
  of_same :
      (f g : Profile → List ℕ) → ((p : Profile) → check_profile newest_rules p ≡ accepted → f p ≡ g p) → of_profile f s ≡ of_profile g s
  unfolding of_profile
  of_same f g h =
      by_cases (accepts (read_script newest_rules s).verdict)
      (λ t. rw t (h (read_script newest_rules s).profile (read_accepted newest_rules s (eqb-true (read_script newest_rules s).verdict.number 0 t))))
      (λ t. rw t)

  pub level_asked_lem : (l x : ℕ) → level_asked (min l cap) (min x cap) s ≡ level_asked l x s
  level_asked_lem l x =
      of_same (λ p. level_text (level_answer newest_rules p (min l cap) (min x cap))) (λ p. level_text (level_answer newest_rules p l x))
      (λ p e. ap level_text (level-cut p e l x))

  pub edge_asked_lem : (l x : ℕ) → edge_asked (min l cap) (min x cap) s ≡ edge_asked l x s
  edge_asked_lem l x =
      of_same (λ p. edge_text (next_edge_answer newest_rules p (min l cap) (min x cap))) (λ p. edge_text (next_edge_answer newest_rules p l x))
      (λ p e. ap edge_text (edge-cut p e l x))

  pub locate_asked_lem : (n : ℕ) → locate_asked (min n cap) s ≡ locate_asked n s
  locate_asked_lem n =
      of_same (λ p. locate_text (locate_answer newest_rules p (min n cap))) (λ p. locate_text (locate_answer newest_rules p n))
      (λ p e. ap locate_text (locate_cut p e n))
