-- The level asked for at a line and pixel, the line and pixel of a field pixel counted from 0, and the next edge: the nearest later pixel of another word.
-- Assumes nothing.
use Rattle.std.specs.Prelude.{ℕ, ◌+◌, ◌-◌, ◌*◌, ◌<◌, ◌≡◌, Bool, false, true, cond, not, ltb, eqb, Option, Some, None, Result, Ok, Err}
use Rattle.profile.specs.Lists.{last_start}
use Rattle.profile.specs.Values.{accepted, refused, accepts}
use Rattle.profile.specs.Refusals.{verdict_of}
use Rattle.profile.specs.Geometry.{pixels_before, pixel_count, has_pixel}
use Rattle.profile.specs.Rules.{check_profile}
use Rattle.profile.specs.declared.Tables.{Tables}
use Rattle.profile.specs.declared.Field.{Field}
use Rattle.profile.specs.declared.Profile.{Profile}
use Rattle.profile.specs.declared.Verdict.{Verdict}
use Rattle.profile.specs.declared.Ruleset.{Ruleset}
use Rattle.profile.specs.declared.refusal.Refusal.{Refusal}
use Rattle.level.specs.declared.LinePixel.{LinePixel}
use Rattle.level.specs.Line.{line_of}
use Rattle.level.specs.Word.{word_of}
use Rattle.level.specs.Next.{next}

-- an answer: what the rule book says of it, in numbers
pub record LevelAnswer : Type 0 where
  pub verdict : Verdict
  pub word : ℕ

pub record Located : Type 0 where
  pub verdict : Verdict
  pub line : ℕ
  pub pixel : ℕ

pub record Edge : Type 0 where
  pub verdict : Verdict
  pub found : Bool
  pub line : ℕ
  pub pixel : ℕ

-- "a refused level .. gives word 0"
abbrev pub no_level : Verdict → LevelAnswer
no_level v = record { verdict = v; word = 0 }

abbrev pub level_told : Result ℕ Refusal → LevelAnswer
level_told (Ok word) = record { verdict = accepted; word = word }
level_told (Err refusal) = no_level (verdict_of refusal)

-- the word at a line and pixel; 19 where the field has no such pixel
abbrev pub word_answer : ℕ → Tables → Field → ℕ → ℕ → LevelAnswer
word_answer version t f line pixel =
    cond (has_pixel t f line pixel) (record { verdict = accepted; word = word_of (line_of version t f line) pixel }) (no_level (refused 19 0))

-- the check's refusal first
unfoldable pub level_answer : Ruleset → Profile → ℕ → ℕ → LevelAnswer
level_answer rules p line pixel =
    cond (accepts (check_profile rules p)) (word_answer rules.version p.tables p.field line pixel) (no_level (check_profile rules p))

-- the place of a line's pixel among the field's pixels
abbrev pub place_of : Tables → Field → ℕ → ℕ → ℕ
place_of t f line pixel = pixels_before t f line + pixel

-- the line in which field pixel n lies, and its pixel there
unfoldable pub line_at : Tables → Field → ℕ → ℕ
line_at t f n = last_start (pixels_before t f) f.lines n

abbrev pub pixel_at : Tables → Field → ℕ → ℕ
pixel_at t f n = n - pixels_before t f (line_at t f n)

-- the last of so many lines of one length that starts at or before pixel n: what code divides for (proofs/Divided.antt, line-divided)
abbrev pub last_multiple : ℕ → ℕ → ℕ → ℕ
last_multiple length lines n = last_start (λ (k : ℕ). k * length) lines n

-- "a field pixel, counted from 0, can be asked for its line and pixel (0 and 0 when refused, 19 past the end)"
abbrev pub no_place : Verdict → Located
no_place v = record { verdict = v; line = 0; pixel = 0 }

abbrev pub locate_told : Result LinePixel Refusal → Located
locate_told (Ok there) = record { verdict = accepted; line = there.line; pixel = there.pixel }
locate_told (Err refusal) = no_place (verdict_of refusal)

abbrev pub place_answer : Tables → Field → ℕ → Located
place_answer t f n =
    cond (ltb n (pixel_count t f)) (record { verdict = accepted; line = line_at t f n; pixel = pixel_at t f n }) (no_place (refused 19 0))

-- the check's refusal first
unfoldable pub locate_answer : Ruleset → Profile → ℕ → Located
locate_answer rules p n = cond (accepts (check_profile rules p)) (place_answer p.tables p.field n) (no_place (check_profile rules p))

-- the word of field pixel n
abbrev pub word_at : ℕ → Tables → Field → ℕ → ℕ
word_at version t f n = word_of (line_of version t f (line_at t f n)) (pixel_at t f n)

-- "the nearest later pixel in the field whose word differs from the word there", of field pixel n; the number of pixels where there is none
unfoldable pub change_after : ℕ → Tables → Field → ℕ → ℕ
change_after version t f n = next (λ m. not (eqb (word_at version t f m) (word_at version t f n))) n (pixel_count t f)

-- "as line and pixel, or none": zeros where there is none, and where it is refused
abbrev pub no_edge : Verdict → Edge
no_edge v = record { verdict = v; found = false; line = 0; pixel = 0 }

abbrev pub edge_told : Result (Option LinePixel) Refusal → Edge
edge_told (Ok (Some there)) = record { verdict = accepted; found = true; line = there.line; pixel = there.pixel }
edge_told (Ok None) = no_edge accepted
edge_told (Err refusal) = no_edge (verdict_of refusal)

abbrev pub edge_at : Tables → Field → ℕ → Edge
edge_at t f n =
    cond (ltb n (pixel_count t f)) (record { verdict = accepted; found = true; line = line_at t f n; pixel = pixel_at t f n }) (no_edge accepted)

-- "refusals as for a level": the check's, then 19 where the field has no such pixel
unfoldable pub next_edge_answer : Ruleset → Profile → ℕ → ℕ → Edge
next_edge_answer rules p line pixel =
    cond (accepts (check_profile rules p))
    (cond (has_pixel p.tables p.field line pixel)
    (edge_at p.tables p.field (change_after rules.version p.tables p.field (place_of p.tables p.field line pixel)))
    (no_edge (refused 19 0)))
    (no_edge (check_profile rules p))

-- what it answers for a pixel that an accepted profile's field has (proofs/Changing.antt: next-edge-means): if found, a later pixel of the field whose word
-- is another, and every pixel between has the asked one's word; if not, every later pixel of the field has it
pub record EdgeMeans (version : ℕ) (t : Tables) (f : Field) (line pixel : ℕ) (e : Edge) : Type 0 where
  pub there : e.found ≡ true → has_pixel t f e.line e.pixel ≡ true
  pub later : e.found ≡ true → place_of t f line pixel < place_of t f e.line e.pixel
  pub another : e.found ≡ true → word_of (line_of version t f e.line) e.pixel ≡ word_of (line_of version t f line) pixel → ⊥
  pub between : e.found ≡ true → (n q : ℕ) → has_pixel t f n q ≡ true → place_of t f line pixel < place_of t f n q
      → place_of t f n q < place_of t f e.line e.pixel → word_of (line_of version t f n) q ≡ word_of (line_of version t f line) pixel
  pub none : e.found ≡ false → (n q : ℕ) → has_pixel t f n q ≡ true → place_of t f line pixel < place_of t f n q
      → word_of (line_of version t f n) q ≡ word_of (line_of version t f line) pixel
