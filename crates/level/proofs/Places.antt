-- The answers of `level` and `locate`, case by case: a refused profile, a place that the field does not have, and one that it has.
-- Assumes nothing.
use mathlib.Core.Path.{◌≡◌, sym}
use mathlib.Core.Bool.{true, false}
use Prim.Native.Nat.{ℕ, ◌≤◌, ◌<◌}
use borrow.Author.Tests.{lt-ltb, le-ltb}
use Rattle.profile.proofs.Lines.{has_both}
use Rattle.profile.specs.Values.{accepted, refused, accepts}
use Rattle.profile.specs.Geometry.{line_length, pixel_count, has_pixel}
use Rattle.profile.specs.Rules.{check_profile}
use Rattle.profile.specs.declared.Tables.{Tables}
use Rattle.profile.specs.declared.Field.{Field}
use Rattle.profile.specs.declared.Profile.{Profile}
use Rattle.profile.specs.declared.Verdict.{Verdict}
use Rattle.profile.specs.declared.Ruleset.{Ruleset}
use Rattle.level.specs.declared.Line.{Line}
use Rattle.level.specs.Place.{LevelAnswer}
use Rattle.level.specs.Place.{Located}
use Rattle.level.specs.Line.{line_of}
use Rattle.level.specs.Word.{word_of}
use Rattle.level.specs.Place.{no_level, level_answer, place_of, no_place, place_answer, locate_answer}
use Rattle.level.proofs.Words.{place_below, line_at_place, pixel_at_place}

-- ---- the level

abbrev pub levelled : Verdict → ℕ → LevelAnswer
levelled v word = record { verdict = v; word = word }

module _ (rules : Ruleset) (p : Profile) (line pixel : ℕ) {v : Verdict} where
  pub level_refused : v ≡ check_profile rules p → accepts (check_profile rules p) ≡ false → no_level v ≡ level_answer rules p line pixel
  unfolding level_answer
  level_refused f e = rw (f, e)

  pub level_nowhere : v ≡ refused 19 0 → accepts (check_profile rules p) ≡ true → has_pixel p.tables p.field line pixel ≡ false
      → no_level v ≡ level_answer rules p line pixel
  unfolding level_answer
  level_nowhere f e h = rw (f, e, h)

  pub level_there : {x : Line} {word : ℕ} → v ≡ accepted → x ≡ line_of rules.version p.tables p.field line → word ≡ word_of x pixel
      → accepts (check_profile rules p) ≡ true → has_pixel p.tables p.field line pixel ≡ true → levelled v word ≡ level_answer rules p line pixel
  unfolding level_answer
  level_there f l w e h = rw (f, w, l, e, h)

-- ---- the line and pixel

abbrev pub located : Verdict → ℕ → ℕ → Located
located v line pixel = record { verdict = v; line = line; pixel = pixel }

module _ (t : Tables) (f : Field) where
  pub placed_here : (line pixel : ℕ) → line < f.lines → pixel < line_length t f line
      → located accepted line pixel ≡ place_answer t f (place_of t f line pixel)
  placed_here line pixel h l =
      let e = has_both t f line pixel h l in
      rw (lt-ltb (place_of t f line pixel) (pixel_count t f) (place_below t f line pixel e))
      (λ i. located accepted (sym (line_at_place t f line pixel e) i) (sym (pixel_at_place t f line pixel e) i))

  pub placed_nowhere : (n : ℕ) → pixel_count t f ≤ n → no_place (refused 19 0) ≡ place_answer t f n
  placed_nowhere n h = rw (le-ltb n (pixel_count t f) h)

module _ (rules : Ruleset) (p : Profile) (n : ℕ) where
  pub locate_refused : {v : Verdict} → v ≡ check_profile rules p → accepts (check_profile rules p) ≡ false → no_place v ≡ locate_answer rules p n
  unfolding locate_answer
  locate_refused f e = rw (f, e)

  pub locate_asked_lem : {l : Located} → l ≡ place_answer p.tables p.field n → accepts (check_profile rules p) ≡ true → l ≡ locate_answer rules p n
  unfolding locate_answer
  locate_asked_lem f e = rw (f, e)
