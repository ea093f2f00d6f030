-- Demand 3 of any list of words: the list that is left is the runs of the words, which is the shortest that plays them, and what is answered
-- is shown by its tests, case by case. A field's words are one such list, so compiling meets it for every accepted profile; and to play them is
-- to show each line's pixels.
-- Assumes nothing.
use Prim.Native.Nat.{ℕ, ◌≤◌, ◌<◌, ◌^◌}
use native.Mathlib.Omega.{arith}
use mathlib.Core.Path.{◌≡◌, refl, sym, ap, ◌∙◌}
use mathlib.Core.Logic.{◌↔◌}
use mathlib.Core.List.{List}
use mathlib.Core.Bool.{true, false}
use lib.ListN.{length, get_or}
use lib.Dec.{leb}
use borrow.Author.Tests.{le-leb, lt-leb, leb-true, leb-false}
use Rattle.profile.specs.Lists.{over}
use Rattle.profile.specs.Values.{accepted, refused, accepts}
use Rattle.profile.specs.Geometry.{pixel_count, has_pixel}
use Rattle.profile.specs.Rules.{check_profile}
use Rattle.profile.specs.declared.Tables.{Tables}
use Rattle.profile.specs.declared.Field.{Field}
use Rattle.profile.specs.declared.Profile.{Profile}
use Rattle.profile.specs.declared.Ruleset.{Ruleset}
use Rattle.profile.specs.declared.Verdict.{Verdict}
use Rattle.profile.proofs.Laws.{by_cases}
use Rattle.profile.proofs.Lines.{has_line, has_pixel_lem}
use Rattle.level.proofs.Words.{field_words-length, field_words_small, field-word, field-word_at, place_below}
use Rattle.level.specs.Line.{line_of}
use Rattle.level.specs.Word.{word_of}
use Rattle.level.specs.Place.{place_of}
use Rattle.level.specs.Fieldwords.{field_words}
use Rattle.holdlist.specs.Demand.{Compiled}
use Rattle.holdlist.specs.Play.{play_answer, played_word, played_nothing}
use Rattle.holdlist.specs.Runs.{runs, step_counts, step_words}
use Rattle.holdlist.specs.Compile.{
  room_of,
  hold_verdict,
  hold_answer,
  hold_counts,
  hold_words,
  profile_words,
  field_runs,
  compile_answer,
  compile_counts,
  compile_words,
}
use Rattle.holdlist.specs.Demand.{Plays, PlaysField, Fewest, Demand}
use Rattle.holdlist.proofs.Runs.{over-rest, runs_fit}
use Rattle.holdlist.proofs.Shortest.{ends_after, no-fewer, counts_many, words_many, encoded, encoded_whole}
use Rattle.holdlist.proofs.FieldLoops.{accepted_fillable, few-pixels}

-- ---- what is answered and left, by cases

-- the answers: nothing is held, nothing for want of room, and all
abbrev pub unheld : Verdict → Compiled
unheld v = record { verdict = v; steps = 0; pixels = 0 }

abbrev pub no_room : List ℕ → Compiled
no_room xs = unheld (refused 18 (length (runs xs)))

abbrev pub held : List ℕ → Compiled
held xs = record { verdict = accepted; steps = length (runs xs); pixels = length xs }

-- the answer r where the lists are cs and ws, which are cs' and ws' then: of words, and of a profile's field
abbrev pub Holds : (xs cs ws : List ℕ) (r : Compiled) (cs' ws' : List ℕ) → Type 0
Holds xs cs ws r cs' ws' =
    (r ≡ hold_answer xs (room_of cs ws)) × (cs' ≡ hold_counts xs (room_of cs ws) cs) × (ws' ≡ hold_words xs (room_of cs ws) ws)

abbrev pub Leaves : (rules : Ruleset) (p : Profile) (cs ws : List ℕ) (r : Compiled) (cs' ws' : List ℕ) → Type 0
Leaves rules p cs ws r cs' ws' =
    (r ≡ compile_answer rules p (room_of cs ws)) × (cs' ≡ compile_counts rules p (room_of cs ws) cs) × (ws' ≡ compile_words rules p (room_of cs ws) ws)

-- a claim of an answer and two lists holds of the same answer and lists
pub same_claim :
    (P : Compiled → List ℕ → List ℕ → Type 0) {r s : Compiled} {a b c d : List ℕ} → (r ≡ s) × (a ≡ c) × (b ≡ d) → P r a b → P s c d
same_claim P e x = rw (← e.0, ← e.1, ← e.2) x

module _ (xs cs ws : List ℕ) where
  pub hold_short : room_of cs ws < length (runs xs) → Holds xs cs ws (no_room xs) cs ws
  unfolding hold_verdict hold_answer hold_counts hold_words
  hold_short h = let e = lt-leb (length (runs xs)) (room_of cs ws) h in (rw e, rw e, rw e)

  pub hold_fits :
      length (runs xs) ≤ room_of cs ws → Holds xs cs ws (held xs) (over (step_counts (runs xs)) cs) (over (step_words (runs xs)) ws)
  unfolding hold_verdict hold_answer hold_counts hold_words
  hold_fits h = let e = le-leb (length (runs xs)) (room_of cs ws) h in (rw e, rw e, rw e)

  -- a claim of what is answered and left, by the two
  pub hold_cases :
      (P : Compiled → List ℕ → List ℕ → Type 0) →
      (room_of cs ws < length (runs xs) → P (no_room xs) cs ws) →
      (length (runs xs) ≤ room_of cs ws → P (held xs) (over (step_counts (runs xs)) cs) (over (step_words (runs xs)) ws)) →
      P (hold_answer xs (room_of cs ws)) (hold_counts xs (room_of cs ws) cs) (hold_words xs (room_of cs ws) ws)
  hold_cases P short fits =
      by_cases (leb (length (runs xs)) (room_of cs ws))
      (λ e. let h = leb-true (length (runs xs)) (room_of cs ws) e in same_claim P (hold_fits h) (fits h))
      (λ e. let h = leb-false (length (runs xs)) (room_of cs ws) e in same_claim P (hold_short h) (short h))

module _ (rules : Ruleset) (p : Profile) (cs ws : List ℕ) where
  -- the check's refusal
  pub compile_refused : accepts (check_profile rules p) ≡ false → Leaves rules p cs ws (unheld (check_profile rules p)) cs ws
  unfolding compile_answer compile_counts compile_words
  compile_refused e = (rw e, rw e, rw e)

  module _ (ok : accepts (check_profile rules p) ≡ true) where
    compile-held :
        Leaves rules p cs ws (hold_answer (profile_words rules p) (room_of cs ws)) (hold_counts (profile_words rules p) (room_of cs ws) cs)
        (hold_words (profile_words rules p) (room_of cs ws) ws)
    unfolding compile_answer compile_counts compile_words
    compile-held = (rw ok, rw ok, rw ok)

    compile-so : {r : Compiled} {cs' ws' : List ℕ} → Holds (profile_words rules p) cs ws r cs' ws' → Leaves rules p cs ws r cs' ws'
    compile-so {r} {cs'} {ws'} h = same_claim (λ s a b. (r ≡ s) × (cs' ≡ a) × (ws' ≡ b)) compile-held h

    pub compile-short : room_of cs ws < length (field_runs rules p) → Leaves rules p cs ws (no_room (profile_words rules p)) cs ws
    compile-short h = compile-so (hold_short (profile_words rules p) cs ws h)

    pub compile-fits :
        length (field_runs rules p) ≤ room_of cs ws →
        Leaves rules p cs ws (held (profile_words rules p)) (over (step_counts (field_runs rules p)) cs) (over (step_words (field_runs rules p)) ws)
    compile-fits h = compile-so (hold_fits (profile_words rules p) cs ws h)

  pub compile_cases :
      (P : Compiled → List ℕ → List ℕ → Type 0) →
      (accepts (check_profile rules p) ≡ false → P (unheld (check_profile rules p)) cs ws) →
      (accepts (check_profile rules p) ≡ true → room_of cs ws < length (field_runs rules p) → P (no_room (profile_words rules p)) cs ws) →
      (accepts (check_profile rules p) ≡ true → length (field_runs rules p) ≤ room_of cs ws →
      P (held (profile_words rules p)) (over (step_counts (field_runs rules p)) cs) (over (step_words (field_runs rules p)) ws)) →
      P (compile_answer rules p (room_of cs ws)) (compile_counts rules p (room_of cs ws) cs) (compile_words rules p (room_of cs ws) ws)
  compile_cases P wrong short fits =
      by_cases (accepts (check_profile rules p))
      (λ ok. same_claim P (compile-held ok) (hold_cases (profile_words rules p) cs ws P (short ok) (fits ok)))
      (λ e. same_claim P (compile_refused e) (wrong e))

-- ---- the runs are the fewest

pub fewest_steps : (xs : List ℕ) (k : ℕ) → Fewest xs k → k ≡ length (runs xs)
fewest_steps xs k m = omega (arith, m.least _ _ _ (encoded_whole xs), no-fewer xs m.counts m.words k m.reached)

pub fewest_there : (xs : List ℕ) → length xs < 2 ^ 32 → ((i : ℕ) → get_or xs i 0 < 2 ^ 16) → Fewest xs (length (runs xs))
fewest_there xs few small =
    let fit = runs_fit xs few small in
    record {
      counts = step_counts (runs xs);
      words = step_words (runs xs);
      counts-length = counts_many xs;
      words-length = words_many xs;
      counts_fit = fit.0;
      words_fit = fit.1;
      reached = encoded_whole xs;
      least = no-fewer xs;
    }

-- ---- demand 3 of any list of words

pub hold_meets :
    (xs cs ws : List ℕ) → length xs < 2 ^ 32 → ((i : ℕ) → get_or xs i 0 < 2 ^ 16) →
    Demand xs cs ws (hold_answer xs (room_of cs ws)) (hold_counts xs (room_of cs ws) cs) (hold_words xs (room_of cs ws) ws)
hold_meets xs cs ws few small =
    let there = fewest_there xs few small in
    hold_cases xs cs ws (Demand xs cs ws)
    (λ h.
    record {
      plays = λ e. absurd (omega arith);
      fewest = λ e. absurd (omega arith);
      pixels = λ e. absurd (omega arith);
      there = (length (runs xs), there);
      refuses = λ k m. ((λ e. omega (arith, fewest_steps xs k m)), λ l. refl);
      accepts = λ k m. ((λ e. absurd (omega arith)), λ l. absurd (omega (arith, fewest_steps xs k m)));
      needs = λ e. there;
      keeps = λ e. (refl, refl);
      rest = λ e. absurd (omega arith);
    })
    (λ h.
    record {
      plays = λ e. encoded xs _ _;
      fewest = λ e. there;
      pixels = λ e. refl;
      there = (length (runs xs), there);
      refuses = λ k m. ((λ e. absurd (omega arith)), λ l. absurd (omega (arith, fewest_steps xs k m)));
      accepts = λ k m. ((λ e. omega (arith, fewest_steps xs k m)), λ l. refl);
      needs = λ e. absurd (omega arith);
      keeps = λ e. absurd (e refl);
      rest = λ e. (over-rest (step_counts (runs xs)) cs _ (counts_many xs), over-rest (step_words (runs xs)) ws _ (words_many xs));
    })

-- to ask at the positions below any limit above the length, as code does below 2 ^ 64, is to ask at all: after a 19 every position is 19
pub plays_asked :
    (xs cs ws : List ℕ) (used limit : ℕ) → length xs < limit →
    ((n : ℕ) → n < length xs → play_answer cs ws used n ≡ played_word (get_or xs n 0)) →
    ((n : ℕ) → length xs ≤ n → n < limit → play_answer cs ws used n ≡ played_nothing 19) → Plays xs cs ws used
plays_asked xs cs ws used limit h shows ends =
    record { shows = shows; ends = ends_after cs ws used (length xs) (ends (length xs) (omega arith) h) }

-- ---- a field's words

module _ (version : ℕ) (t : Tables) (f : Field) where
  pub field_small : (i : ℕ) → get_or (field_words version t f) i 0 < 2 ^ 16
  field_small i = omega (arith, field_words_small version t f i)

  module _ (cs ws : List ℕ) (used : ℕ) where
    pub plays-field : Plays (field_words version t f) cs ws used ↔ PlaysField version t f cs ws used
    plays-field =
        let l = field_words-length version t f in (
          (λ p. record { shows = λ n h. p.shows n (rw l h) ∙ ap played_word (field-word version t f n h); ends = λ n h. p.ends n (rw l h) }),
          λ q.
              record {
                shows = λ n h. let k : n < pixel_count t f = rw l at h in q.shows n k ∙ ap played_word (sym (field-word version t f n k));
                ends = λ n h. q.ends n (rw l at h);
              },
        )

    -- line by line and pixel by pixel
    pub plays-pixel :
        Plays (field_words version t f) cs ws used → (line pixel : ℕ) → has_pixel t f line pixel ≡ true →
        play_answer cs ws used (place_of t f line pixel) ≡ played_word (word_of (line_of version t f line) pixel)
    plays-pixel p line pixel h =
        p.shows (place_of t f line pixel) (rw (field_words-length version t f) (place_below t f line pixel h))
        ∙ ap played_word (field-word_at version t f line pixel (has_line t f line pixel h) (has_pixel_lem t f line pixel h))

-- ---- compiling

pub field_few : (rules : Ruleset) (p : Profile) → check_profile rules p ≡ accepted → length (profile_words rules p) < 2 ^ 32
field_few rules p e = omega (arith, few-pixels rules.version p.tables p.field (accepted_fillable rules p e))

-- Demand 3, whole: for every version of the rules, every accepted profile and any lent lists
pub demand_3 :
    (rules : Ruleset) (p : Profile) (cs ws : List ℕ) → check_profile rules p ≡ accepted →
    Demand (profile_words rules p) cs ws (compile_answer rules p (room_of cs ws)) (compile_counts rules p (room_of cs ws) cs) (compile_words rules p (room_of cs ws) ws)
demand_3 rules p cs ws e =
    same_claim (Demand (profile_words rules p) cs ws) (compile-held rules p cs ws (ap accepts e))
    (hold_meets (profile_words rules p) cs ws (field_few rules p e) (field_small rules.version p.tables p.field))

-- and, of what compile ensures, each line's pixel shows its word
pub demand_3_pixels :
    (rules : Ruleset) (p : Profile) {cs ws : List ℕ} {r : Compiled} {cs' ws' : List ℕ} → Demand (profile_words rules p) cs ws r cs' ws' → r.verdict.number ≡ 0 →
    (line pixel : ℕ) → has_pixel p.tables p.field line pixel ≡ true →
    play_answer cs' ws' r.steps (place_of p.tables p.field line pixel) ≡ played_word (word_of (line_of rules.version p.tables p.field line) pixel)
demand_3_pixels rules p d z = plays-pixel rules.version p.tables p.field _ _ _ (d.plays z)
