-- What the writers of lines and regions want to know of a field that can be written: its lines' words, its regions' first and last lines, and that its
-- words can be counted. An accepted profile's field is one, by the rules' ranges and rule 7.
-- Assumes nothing.
use Prim.Native.Nat.{ℕ, ◌+◌, ◌-◌, ◌≤◌, ◌<◌}
use native.Mathlib.Omega.{arith}
use mathlib.Core.Path.{◌≡◌, sym, ap, ◌∙◌}
use lib.ListN.{length}
use Rattle.profile.specs.Lists.{chunks}
use Rattle.profile.specs.Values.{accepted}
use Rattle.profile.specs.Geometry.{region_count, region_at, first_line, end_line, line_length}
use Rattle.profile.specs.Rules.{check_profile}
use Rattle.profile.specs.declared.Tables.{Tables}
use Rattle.profile.specs.declared.Field.{Field}
use Rattle.profile.specs.declared.Profile.{Profile}
use Rattle.profile.specs.declared.Region.{Region}
use Rattle.profile.specs.declared.Ruleset.{Ruleset}
use Rattle.profile.proofs.Laws.{length-chunks_le}
use Rattle.profile.proofs.Checked.{check_range}
use Rattle.profile.proofs.Accepted.{accepted-field, accepted_ordered}
use Rattle.profile.proofs.Lines.{end_most, ranged, line_length_most}
use Rattle.level.specs.declared.Line.{Line}
use Rattle.level.specs.declared.Strip.{Strip}
use Rattle.level.specs.Line.{line_of}
use Rattle.level.specs.Strips.{strip_of, line_on}
use Rattle.level.specs.Fieldwords.{line_words, words_on_line, field_words}
use Rattle.level.proofs.Words.{line_words-length, line_of-length, line-of-region, strip_line, region-words}
use Rattle.holdlist.specs.Fills.{Fillable, region_words}

pub accepted_fillable : (rules : Ruleset) (p : Profile) → check_profile rules p ≡ accepted → Fillable p.tables p.field
accepted_fillable rules p e =
    let range = check_range rules p e in
    let field = accepted-field rules p e in
    record { ordered = accepted_ordered rules p e; lengths = line_length_most p range field; lines = (ranged p range field).most_lines }

pub starts_at : (f : Field) (i : ℕ) {r : Region} → r ≡ region_at f i → r.first ≡ first_line f i
starts_at f i e = ap (λ (r : Region). r.first) e

-- a line of a region, made of what the region's lines share, is the field's
module _
    (version : ℕ) (t : Tables) (f : Field) (ok : Fillable t f) (i : ℕ) (h : i < region_count f) {number : ℕ} {strip : Strip} {line : Line}
    (from : first_line f i ≤ number) (below : number < end_line f i) (es : strip ≡ strip_of version t f i) (el : line ≡ line_on strip number)
  where
    made-line : line ≡ line_of version t f number
    made-line = rw (el, es) (strip_line version t f i number ∙ sym (line-of-region version t f number ok.ordered i h from below))

    made-length : line.length ≡ line_length t f number
    made-length = ap (λ (l : Line). l.length) made-line ∙ line_of-length version t f number (omega (arith, end_most f ok.ordered i))

    pub made_words : line_words line line.length ≡ words_on_line version t f (first_line f i + (number - first_line f i))
    made_words =
        let there : number ≡ first_line f i + (number - first_line f i) = omega arith in
        (λ j. line_words (made-line j) (made-length j)) ∙ ap (words_on_line version t f) there

    pub made-short : line.length ≤ 4095
    made-short = rw made-length (ok.lengths number)

module _ (version : ℕ) (t : Tables) (f : Field) where
  pub words-length : (line : ℕ) → length (words_on_line version t f line) ≡ line_length t f line
  words-length line = line_words-length (line_of version t f line) (line_length t f line)

  module _ (ok : Fillable t f) where
    pub few-pixels : length (field_words version t f) ≤ 16769025
    unfolding field_words
    few-pixels =
        omega (
          arith,
          ok.lines,
          length-chunks_le 4095 f.lines (words_on_line version t f) (λ line. rw (words-length line) (ok.lengths line)),
        )

    pub regions-whole : chunks (region_count f) (region_words version t f) ≡ field_words version t f
    regions-whole = sym (region-words version t f ok.ordered)
