-- What is demanded of compiling, in the player's terms, of any list of words xs: how many there are, and which stands at n. Nothing here names an
-- encoding or a profile. A field is one such list, and what playing it says of lines and pixels is said last.
-- Assumes nothing.
use Rattle.std.specs.Prelude.{ℕ, ◌≤◌, ◌<◌, ◌^◌, min, ◌≡◌, ◌↔◌, List, length, get_or, drop}
use Rattle.profile.specs.Geometry.{pixel_count}
use Rattle.profile.specs.declared.Tables.{Tables}
use Rattle.profile.specs.declared.Field.{Field}
use Rattle.profile.specs.declared.Verdict.{Verdict}
use Rattle.level.specs.Line.{line_of}
use Rattle.level.specs.Word.{word_of}
use Rattle.level.specs.Place.{line_at, pixel_at}
use Rattle.holdlist.specs.Play.{play_answer, played_word, played_nothing}

-- "with all its steps used, position n shows the word of field pixel n for every n below the field's pixel count .., and every other position is
-- 19". Code asks at u64 positions and this at every number: the same, since after a position that is 19 every one is (proofs/Demanded.antt: plays-asked).
pub record Plays (xs cs ws : List ℕ) (used : ℕ) : Type 0 where
  pub shows : (n : ℕ) → n < length xs → play_answer cs ws used n ≡ played_word (get_or xs n 0)
  pub ends : (n : ℕ) → length xs ≤ n → play_answer cs ws used n ≡ played_nothing 19

-- "the fewest of any list that plays the field": a list that can be lent reaches k, and no list of numbers has fewer
pub record Fewest (xs : List ℕ) (k : ℕ) : Type 0 where
  pub counts : List ℕ
  pub words : List ℕ
  pub counts-length : length counts ≡ k
  pub words-length : length words ≡ k
  pub counts_fit : (i : ℕ) → get_or counts i 0 < 2 ^ 32
  pub words_fit : (i : ℕ) → get_or words i 0 < 2 ^ 16
  pub reached : Plays xs counts words k
  pub least : (cs ws : List ℕ) (used : ℕ) → Plays xs cs ws used → k ≤ used

-- what a compile answers, in the rule book's numbers
pub record Compiled : Type 0 where
  pub verdict : Verdict
  pub steps : ℕ
  pub pixels : ℕ

-- r is answered for the words xs where the lists are cs and ws, which are cs' and ws' then
pub record Demand (xs cs ws : List ℕ) (r : Compiled) (cs' ws' : List ℕ) : Type 0 where
  -- "with room, the steps reported, played from the start, show each pixel's word and 19 at every later position"
  pub plays : r.verdict.number ≡ 0 → Plays xs cs' ws' r.steps
  -- "no list that plays so is shorter"
  pub fewest : r.verdict.number ≡ 0 → Fewest xs r.steps
  pub pixels : r.verdict.number ≡ 0 → r.pixels ≡ length xs
  -- there is such a number of steps, so that 0 or 18 is answered
  pub there : (k : ℕ) × Fewest xs k
  -- "18 exactly when there is room for fewer, with that number"
  pub refuses : (k : ℕ) → Fewest xs k → (r.verdict.number ≡ 18) ↔ (min (length cs) (length ws) < k)
  pub accepts : (k : ℕ) → Fewest xs k → (r.verdict.number ≡ 0) ↔ (k ≤ min (length cs) (length ws))
  pub needs : r.verdict.number ≡ 18 → Fewest xs r.verdict.place
  -- "lent lists as they were", and after success "entries past the used ones keep what they held"
  pub keeps : (r.verdict.number ≡ 0 → ⊥) → (cs' ≡ cs) × (ws' ≡ ws)
  pub rest : r.verdict.number ≡ 0 → (drop r.steps cs' ≡ drop r.steps cs) × (drop r.steps ws' ≡ drop r.steps ws)

-- a list plays a field by a rule version: what `Plays` says of the field's words (proofs/Demanded.antt: plays-field), by the field's lines and pixels
pub record PlaysField (version : ℕ) (t : Tables) (f : Field) (cs ws : List ℕ) (used : ℕ) : Type 0 where
  pub shows : (n : ℕ) → n < pixel_count t f → play_answer cs ws used n ≡ played_word (word_of (line_of version t f (line_at t f n)) (pixel_at t f n))
  pub ends : (n : ℕ) → pixel_count t f ≤ n → play_answer cs ws used n ≡ played_nothing 19
