-- From the bytes that come in to the text that goes out: for every sequence of bytes, what is printed is exactly what specs/Prints.antt says. What a
-- script reads to, the steps of the shortest list and the text that tells them are each one (read-exactly, runs-one, tells-one), so no other text is.
-- Assumes nothing.
use Prim.Native.Nat.{ℕ, ◌≤◌, ◌<◌, ◌^◌}
use native.Mathlib.Omega.{arith}
use mathlib.Core.Path.{◌≡◌, sym, ap, subst, ◌∙◌}
use mathlib.Core.Logic.{◌↔◌}
use mathlib.Core.List.{List}
use mathlib.Core.Bool.{false≢true}
use lib.ListN.{length, take}
use lib.Seq.{take_all, length-take-le}
use lib.Dec.{leb, eqb}
use borrow.Author.Tests.{le-leb, lt-leb, leb-true, leb-false, eqb-true, eqb-false, ne_eqb}
use Rattle.profile.specs.Bytes.{Bytes}
use Rattle.profile.specs.Values.{empty_field, empty_profile, accepted, refused}
use Rattle.profile.specs.Geometry.{pixel_count}
use Rattle.profile.specs.Rules.{check_profile}
use Rattle.profile.specs.Script.{most_bytes, read_script}
use Rattle.profile.specs.Records.{unread, taken, Reads}
use Rattle.profile.specs.declared.Profile.{Profile}
use Rattle.profile.specs.declared.Ruleset.{Ruleset}
use Rattle.profile.specs.declared.Verdict.{Verdict}
use Rattle.profile.specs.Values.{ReadAnswer}
use Rattle.profile.proofs.Laws.{by_cases}
use Rattle.profile.proofs.Accepted.{accepted-field}
use Rattle.profile.proofs.Reading.{read_refused, read_accepted, read_verdict}
use Rattle.profile.proofs.Scripts.{read_exactly}
use Rattle.level.proofs.Words.{field_words-length}
use Rattle.holdlist.specs.Runs.{step_counts, step_words}
use Rattle.holdlist.specs.Compile.{hold_verdict, hold_answer, profile_words, field_runs, compile_answer}
use Rattle.holdlist.specs.Text.{refused_line, listing, printed_answer, printed_of, printed}
use Rattle.holdlist.specs.Readback.{Tells, TellsRefusal}
use Rattle.holdlist.specs.Prints.{Shortest, Prints, refusal, without_room, steps_told}
use Rattle.holdlist.proofs.Runs.{runs_word, runs_one}
use Rattle.holdlist.proofs.Shortest.{expands, no-fewer, counts_many, words_many, encoded_whole}
use Rattle.holdlist.proofs.Demanded.{plays-field, field_small}
use Rattle.holdlist.proofs.Readback.{refusal_told, listing_told, tells_one, tells_refusal_one}

-- ---- the field's runs, as they are listed

module _ (rules : Ruleset) (p : Profile) where
  abbrev steps : ℕ
  steps = length (field_runs rules p)

  abbrev pixels : ℕ
  pixels = pixel_count p.tables p.field

  abbrev counts : List ℕ
  counts = step_counts (field_runs rules p)

  abbrev words : List ℕ
  words = step_words (field_runs rules p)

  abbrev list : List ℕ
  list = listing steps pixels counts words

-- ---- what is printed, by what the script reads to

module _ (rules : Ruleset) (s : List ℕ) where
  printed-unread : (v : Verdict) → read_script rules s ≡ unread v → 1 ≤ v.number → printed rules s ≡ refused_line v
  unfolding printed
  printed-unread v e h = rw e (rw (ne_eqb v.number 0 (omega arith)))

  module _ (p : Profile) (e : read_script rules s ≡ taken p) (ok : check_profile rules p ≡ accepted) where
    printed-no-room : 4096 < steps rules p → printed rules s ≡ refused_line (refused 18 (steps rules p))
    unfolding printed printed_of printed_answer compile_answer hold_answer hold_verdict
    printed-no-room h = rw e (rw (ok, lt-leb (steps rules p) 4096 h))

    printed-list : steps rules p ≤ 4096 → printed rules s ≡ list rules p
    unfolding printed printed_of printed_answer compile_answer hold_answer hold_verdict
    printed-list h = rw e (rw (ok, le-leb (steps rules p) 4096 h, field_words-length rules.version p.tables p.field))

-- ---- the field's runs are its shortest list, and no other is

module _ (rules : Ruleset) (p : Profile) where
  abbrev xs : List ℕ
  xs = profile_words rules p

  shortest : Shortest rules p (steps rules p) (counts rules p) (words rules p)
  shortest =
      record {
        counts-length = counts_many xs;
        words-length = words_many xs;
        plays = (plays-field rules.version p.tables p.field _ _ _).0 (encoded_whole xs);
        least = λ cs ws used q. no-fewer xs cs ws used ((plays-field rules.version p.tables p.field cs ws used).1 q);
      }

  module _ {k : ℕ} {cs ws : List ℕ} (w : Shortest rules p k cs ws) where
    shortest-steps : k ≡ steps rules p
    shortest-steps = omega (arith, w.least _ _ _ shortest.plays, shortest.least _ _ _ w.plays)

    shortest-one : (cs ≡ counts rules p) × (ws ≡ words rules p)
    shortest-one =
        let x = expands xs cs ws k ((plays-field rules.version p.tables p.field cs ws k).1 w.plays) in
        let a : take k cs ≡ cs = take_all k cs (omega (arith, w.counts-length)) in
        let b : take k ws ≡ ws = take_all k ws (omega (arith, w.words-length)) in
        runs_one cs ws xs (rw (a, b) at x) (w.counts-length ∙ shortest-steps) (w.words-length ∙ sym w.counts-length)

  list_told : Tells (list rules p) (steps rules p) (pixels rules p) (counts rules p) (words rules p)
  list_told =
      listing_told (steps rules p) (pixels rules p) (counts rules p) (words rules p) (counts_many xs) (words_many xs)
      (λ i. omega (arith, runs_word (2 ^ 16) xs (field_small rules.version p.tables p.field) i))

-- ---- what a script reads to

module _ (rules : Ruleset) (s : List ℕ) (b : Bytes s) where
  -- a profile that is taken is accepted
  taken-accepted : (p : Profile) → read_script rules s ≡ taken p → check_profile rules p ≡ accepted
  taken-accepted p e =
      subst (λ (r : ReadAnswer). check_profile rules r.profile ≡ accepted) e (read_accepted rules s (ap (λ (r : ReadAnswer). r.verdict.number) e))

  -- no refusal has the number 0: the empty profile has no field
  unread_number : (v : Verdict) → read_script rules s ≡ unread v → 1 ≤ v.number
  unfolding empty_field
  unread_number v e =
      by_cases (eqb v.number 0)
      (λ q.
      let z : (read_script rules s).verdict.number ≡ 0 = ap (λ (r : ReadAnswer). r.verdict.number) e ∙ eqb-true v.number 0 q in
      let a : check_profile rules empty_profile ≡ accepted = subst (λ (r : ReadAnswer). check_profile rules r.profile ≡ accepted) e (read_accepted rules s z) in
      absurd (false≢true (accepted-field rules empty_profile a)))
      (λ q. omega (arith, eqb-false v.number 0 q))

  reads : {a : ReadAnswer} → read_script rules s ≡ a → Reads rules s a
  reads {a} e = (read_exactly rules s b a).0 e

  -- ---- what is printed is so

  prints_taken : (p : Profile) → read_script rules s ≡ taken p → Prints rules s (printed rules s)
  prints_taken p e =
      let ok = taken-accepted p e in
      by_cases (leb (steps rules p) 4096)
      (λ q.
      let h = leb-true (steps rules p) 4096 q in
      steps_told p (steps rules p) (counts rules p) (words rules p) (reads e) (shortest rules p) h
      (subst (λ (t : List ℕ). Tells t (steps rules p) (pixels rules p) (counts rules p) (words rules p)) (sym (printed-list rules s p e ok h)) (list_told rules p)))
      (λ q.
      let h = leb-false (steps rules p) 4096 q in
      without_room p (steps rules p) (counts rules p) (words rules p) (reads e) (shortest rules p) h
      (subst (λ (t : List ℕ). TellsRefusal t (refused 18 (steps rules p))) (sym (printed-no-room rules s p e ok h)) (refusal_told (refused 18 (steps rules p)))))

  prints_unread : (v : Verdict) → read_script rules s ≡ unread v → Prints rules s (printed rules s)
  prints_unread v e =
      refusal v (reads e)
      (subst (λ (t : List ℕ). TellsRefusal t v) (sym (printed-unread rules s v e (unread_number v e))) (refusal_told v))

  printed_so : Prints rules s (printed rules s)
  printed_so =
      let v = (read_script rules s).verdict in
      by_cases (eqb v.number 0)
      (λ q. prints_taken (read_script rules s).profile (ap (λ (w : Verdict). record { verdict = w; profile = (read_script rules s).profile }) (read_verdict rules s (eqb-true v.number 0 q))))
      (λ q.
      prints_unread v
      (ap (λ (p : Profile). record { verdict = v; profile = p }) (read_refused rules s (eqb-false v.number 0 q))))

  -- ---- and no other text is

  printed_one : (text : List ℕ) → Prints rules s text → printed rules s ≡ text
  printed_one text (refusal v r t) =
      let e = (read_exactly rules s b (unread v)).1 r in
      printed-unread rules s v e (unread_number v e) ∙ tells_refusal_one _ text v (refusal_told v) t
  printed_one text (without_room p k cs ws r w h t) =
      let e = (read_exactly rules s b (taken p)).1 r in
      let same = shortest-steps rules p w in
      printed-no-room rules s p e (taken-accepted p e) (omega (arith, h, same))
      ∙ tells_refusal_one _ text (refused 18 (steps rules p)) (refusal_told (refused 18 (steps rules p))) (rw same at t)
  printed_one text (steps_told p k cs ws r w h t) =
      let e = (read_exactly rules s b (taken p)).1 r in
      let same = shortest-steps rules p w in
      let lists = shortest-one rules p w in
      printed-list rules s p e (taken-accepted p e) (omega (arith, h, same))
      ∙ tells_one _ text (steps rules p) (pixels rules p) (counts rules p) (words rules p) (list_told rules p) (rw (same, lists.0, lists.1) at t)

  -- for every sequence of bytes: exactly the refusal of the first broken rule, or S, P and the S steps of the shortest list that plays the field
  pub printed_exactly : (text : List ℕ) → (printed rules s ≡ text) ↔ Prints rules s text
  printed_exactly text = ((λ e. subst (Prints rules s) e printed_so), printed_one text)

-- ---- what is past the first 16,385 bytes makes no difference: the program may stop reading there

too_long : (rules : Ruleset) (s : List ℕ) → most_bytes < length s → read_script rules s ≡ unread (refused 1 0)
unfolding read_script
too_long rules s h = rw (lt-leb (length s) most_bytes h)

pub printed_enough : (rules : Ruleset) (s : List ℕ) → printed rules (take 16385 s) ≡ printed rules s
printed_enough rules s =
    by_cases (leb (length s) 16385)
    (λ q. ap (printed rules) (take_all 16385 s (leb-true (length s) 16385 q)))
    (λ q.
    let h = leb-false (length s) 16385 q in
    let l : length (take 16385 s) ≡ 16385 = length-take-le 16385 s (omega arith) in
    printed-unread rules (take 16385 s) (refused 1 0) (too_long rules (take 16385 s) (omega arith)) (omega arith)
    ∙ sym (printed-unread rules s (refused 1 0) (too_long rules s (omega arith)) (omega arith)))
