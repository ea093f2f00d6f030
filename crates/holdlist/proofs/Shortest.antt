-- Of the lists that play a list of words, its runs are the shortest: what such a list expands to is those words, so no such list has
-- fewer steps than they have runs; and the runs, with anything after them, play them.
-- Assumes nothing.
use Prim.Native.Nat.{ℕ, ◌≤◌}
use native.Mathlib.Omega.{arith}
use mathlib.Core.Path.{◌≡◌, refl, sym, ap, ◌∙◌}
use mathlib.Core.List.{List, [], ◌++◌, append-nil}
use lib.ListN.{length, get_or, take, length-map, length-append}
use lib.Seq.{take_at, length-take-le}
use lib.Dec.{ltb, leb}
use borrow.Author.Tests.{ltb-true, ltb-false, leb-true, leb-false}
use Rattle.profile.proofs.Laws.{by_cases}
use Rattle.holdlist.specs.Play.{play_answer, expand, played_word, played_nothing}
use Rattle.holdlist.specs.Demand.{Plays}
use Rattle.holdlist.specs.Runs.{runs, step_count, step_word, step_counts, step_words}
use Rattle.holdlist.proofs.Player.{play_walk, play_no_counts, play_no_words, showing, showing-below, showing_past, showing_ext, differ}
use Rattle.holdlist.proofs.Runs.{walk-shows, runs-expand, runs_fewest}

-- ---- a list that shows 19 somewhere has its steps, shows the words that they expand to, and 19 from there on

module _ (cs ws : List ℕ) (used k : ℕ) (e : play_answer cs ws used k ≡ played_nothing 19) where
  not_20 : played_nothing 20 ≡ play_answer cs ws used k → ⊥
  not_20 d = differ 19 20 (played_nothing 19) (played_nothing 20) refl refl (omega arith) (sym (d ∙ e))

  counts_there : used ≤ length cs
  counts_there =
      by_cases (leb used (length cs))
      (leb-true used (length cs))
      (λ q. absurd (not_20 (play_no_counts cs ws used k (leb-false used (length cs) q))))

  words_there : used ≤ length ws
  words_there =
      by_cases (leb used (length ws))
      (leb-true used (length ws))
      (λ q. absurd (not_20 (play_no_words cs ws used k counts_there (leb-false used (length ws) q))))

  play_shows : (n : ℕ) → play_answer cs ws used n ≡ showing (expand (take used cs) (take used ws)) n
  play_shows n = play_walk cs ws used n counts_there words_there ∙ walk-shows (take used cs) (take used ws) n

  pub ends_after : (n : ℕ) → k ≤ n → play_answer cs ws used n ≡ played_nothing 19
  ends_after n h =
      let xs : List ℕ = expand (take used cs) (take used ws) in
      by_cases (ltb k (length xs))
      (λ q.
      absurd
      (differ 0 19 (played_word (get_or xs k 0)) (played_nothing 19) refl refl (omega arith)
      (sym (showing-below xs k (ltb-true k (length xs) q)) ∙ sym (play_shows k) ∙ e)))
      (λ q. play_shows n ∙ showing_past xs n (omega (arith, ltb-false k (length xs) q)))

-- ---- playing words is expanding to them

module _ (xs cs ws : List ℕ) (used : ℕ) where
  pub plays_of : used ≤ length cs → used ≤ length ws → expand (take used cs) (take used ws) ≡ xs → Plays xs cs ws used
  plays_of hc hw e =
      record {
        shows = λ n h. at n ∙ showing-below xs n h;
        ends = λ n h. at n ∙ showing_past xs n h;
      }
    where
      at : (n : ℕ) → play_answer cs ws used n ≡ showing xs n
      at n = play_walk cs ws used n hc hw ∙ walk-shows (take used cs) (take used ws) n ∙ ap (λ (l : List ℕ). showing l n) e

  module _ (p : Plays xs cs ws used) where
    playing : (n : ℕ) → play_answer cs ws used n ≡ showing xs n
    playing n =
        by_cases (ltb n (length xs))
        (λ e. let h = ltb-true n (length xs) e in p.shows n h ∙ sym (showing-below xs n h))
        (λ e. let h = ltb-false n (length xs) e in p.ends n h ∙ sym (showing_past xs n h))

    last : play_answer cs ws used (length xs) ≡ played_nothing 19
    last = p.ends (length xs) (omega arith)

    pub expands : expand (take used cs) (take used ws) ≡ xs
    expands =
        showing_ext (expand (take used cs) (take used ws)) xs (λ n. sym (play_shows cs ws used (length xs) last n) ∙ playing n)

    pub no-fewer : length (runs xs) ≤ used
    no-fewer =
        omega (
          arith,
          runs_fewest (take used cs) (take used ws) xs expands,
          length-take-le used cs (counts_there cs ws used (length xs) last),
        )

-- ---- the runs are the shortest

module _ (xs : List ℕ) where
  pub counts_many : length (step_counts (runs xs)) ≡ length (runs xs)
  counts_many = length-map (runs xs) step_count

  pub words_many : length (step_words (runs xs)) ≡ length (runs xs)
  words_many = length-map (runs xs) step_word

  -- with anything after them
  pub encoded : (a b : List ℕ) → Plays xs (step_counts (runs xs) ++ a) (step_words (runs xs) ++ b) (length (runs xs))
  encoded a b =
      plays_of xs (step_counts (runs xs) ++ a) (step_words (runs xs) ++ b) (length (runs xs))
      (omega (arith, counts_many, length-append (step_counts (runs xs)) a))
      (omega (arith, words_many, length-append (step_words (runs xs)) b))
      (rw (take_at (step_counts (runs xs)) a (length (runs xs)) counts_many, take_at (step_words (runs xs)) b (length (runs xs)) words_many)
      (runs-expand xs))

  -- with nothing after them
  pub encoded_whole : Plays xs (step_counts (runs xs)) (step_words (runs xs)) (length (runs xs))
  encoded_whole = rw (append-nil (step_counts (runs xs)), append-nil (step_words (runs xs))) at (encoded [] [])
