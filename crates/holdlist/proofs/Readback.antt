-- What is printed, read back (specs/Readback.antt), tells S, P and each step, or a refusal's verdict, and no other text tells the same: a text is its
-- parts with the byte between them put back, so equal parts are equal texts, and decimal digits, or four hex digits, are known by the number they tell.
-- Assumes nothing.
use Prim.Native.Nat.{ℕ, zero, suc, ◌+◌, ◌*◌, ◌-◌, ◌/◌, ◌%◌, ◌≤◌, ◌<◌, min}
use native.Mathlib.Omega.{arith}
use mathlib.Core.Path.{◌≡◌, refl, sym, ap, ◌∙◌}
use mathlib.Core.Logic.{inl, inr, ⊎_elim}
use mathlib.Core.Bool.{Bool, true, false, cond}
use mathlib.Core.List.{List, [], ◌∷◌, ◌++◌, append_assoc, append-nil}
use borrow.Author.Tests.{eq-eqb, ne_eqb, eqb-true, eqb-false, lt-ltb, le-ltb, ltb-true, ltb-false}
use lib.Dec.{ltb, eqb}
use lib.ListN.{length, get_or, take, length-append, get_or-append}
use lib.Seq.{get_or-append-add, get_or_at, get_or-take, take_all, take-suc, length-take-le, ext_get_or}
use Rattle.profile.specs.Lists.{Each, chunks}
use Rattle.profile.specs.declared.Verdict.{Verdict}
use Rattle.profile.proofs.Laws.{by_cases, length_ones, get_d_ones, each_append}
use Rattle.holdlist.specs.Compile.{room_of}
use Rattle.holdlist.specs.Text.{digit, leading, decimal, value_after, value_of, hex_digit, hex4, refused_word, head_line, step_line, toggle_text, refused_line, step_line_at, listing}
use Rattle.holdlist.specs.Readback.{parts_after, lines_of, Lines, fields_of, Decimal, hex_digit_value, hex_after, hex_value_of, HexDigit, Hex, Tells, TellsRefusal}
use Rattle.holdlist.proofs.Spelling.{Digits, leading-none, leading_more, value_append, decimal_value, decimal_digits, decimal_zero, decimal_leads}

-- ---- short lists

-- a claim of each number below n, one after the other
abbrev Firsts : ℕ → (ℕ → Type 0) → Type 0
Firsts zero P = Unit {0}
Firsts (suc n) P = P 0 × Firsts n (λ i. P (suc i))

first_at_lem : (n : ℕ) (P : ℕ → Type 0) → Firsts n P → (i : ℕ) → i < n → P i
first_at_lem zero P f i h = absurd (omega arith)
first_at_lem (suc n) P f zero h = f.0
first_at_lem (suc n) P f (suc i) h = first_at_lem n (λ i. P (suc i)) f.1 i (omega arith)

-- two lists of n elements are equal element by element
list_one : {A : Type 0} (d : A) (n : ℕ) (l m : List A) → length l ≡ n → length m ≡ n → Firsts n (λ i. get_or l i d ≡ get_or m i d) → l ≡ m
list_one d n l m p q f = ext_get_or d l m (p ∙ sym q) (λ i h. first_at_lem n (λ i. get_or l i d ≡ get_or m i d) f i (omega arith))

-- ---- the parts of a text

-- each byte is above c, so none is c
abbrev Above : ℕ → List ℕ → Type 0
Above c = Each (λ x. c < x)

part_ends : (c : ℕ) (front a rest : List ℕ) → Above c a → parts_after c front (a ++ (c ∷ rest)) ≡ (front ++ a) ∷ parts_after c [] rest
unfolding parts_after
part_ends c front [] rest f = rw (eq-eqb c c refl, append-nil front)
part_ends c front (x ∷ a) rest f =
    rw (ne_eqb x c (λ e. omega (arith, f.0)), part_ends c (front ++ (x ∷ [])) a rest f.1, append_assoc)

part_last : (c : ℕ) (front a : List ℕ) → Above c a → parts_after c front a ≡ (front ++ a) ∷ []
unfolding parts_after
part_last c front [] f = rw append-nil
part_last c front (x ∷ a) f = rw (ne_eqb x c (λ e. omega (arith, f.0)), part_last c (front ++ (x ∷ [])) a f.1, append_assoc)

-- parts, each with the byte c in front, and the rest of a text
abbrev after : ℕ → List (List ℕ) → List ℕ → List ℕ
after c [] rest = rest
after c (p ∷ ps) rest = c ∷ (p ++ after c ps rest)

after-parts : (c : ℕ) (front xs : List ℕ) → after c (parts_after c front xs) [] ≡ c ∷ (front ++ xs)
unfolding parts_after
after-parts c front [] = refl
after-parts c front (x ∷ xs) =
    by_cases (eqb x c)
    (λ q. rw (q, after-parts c [] xs, eqb-true x c q))
    (λ q. rw (q, after-parts c (front ++ (x ∷ [])) xs, append_assoc))

-- equal parts are equal texts
parts_one : (c : ℕ) (a b : List ℕ) → parts_after c [] a ≡ parts_after c [] b → a ≡ b
parts_one c a b e = cc (after-parts c [] a, after-parts c [] b)

-- ---- decimal

-- some digit, and a zero first in "0" alone
decimal-first : (n : ℕ) → (1 ≤ length (decimal n)) × (1 < length (decimal n) → 49 ≤ get_or (decimal n) 0 0)
decimal-first zero = rw decimal_zero (omega arith, λ h. absurd (omega arith))
decimal-first (suc m) = let l = decimal_leads (suc m) (omega arith) in (l.0, λ h. l.1)

pub decimal_reads : (n : ℕ) → Decimal (decimal n) n
decimal_reads n =
    record {
      some = (decimal-first n).0;
      digits = decimal_digits n;
      no_zero_first = (decimal-first n).1;
      value = decimal_value n;
    }

-- a number that does not begin with a zero is not 0
value_grows : (a : ℕ) (s : List ℕ) → a ≤ value_after a s
unfolding value_after
value_grows a [] = omega arith
value_grows a (d ∷ s) = omega (arith, value_grows (10 * a + (d - 48)) s)

value_some : (ds : List ℕ) → 49 ≤ get_or ds 0 0 → 0 < value_of ds
unfolding value_after
value_some [] h = absurd (omega arith)
value_some (d ∷ s) h = omega (arith, value_grows (10 * 0 + (d - 48)) s)

-- k digits and a last one, where those k spell their number
module _ (k : ℕ) (ds : List ℕ) (sized : length ds ≡ suc k) (digits : Digits ds) where
  last_apart : ds ≡ take k ds ++ (get_or ds k 0 ∷ [])
  last_apart = sym (take_all (suc k) ds (omega arith)) ∙ take-suc ds k 0 (omega arith)

  last_told : value_of ds ≡ 10 * value_of (take k ds) + (get_or ds k 0 - 48)
  unfolding value_after
  last_told = ap (λ (s : List ℕ). value_of s) last_apart ∙ value_append 0 (take k ds) (get_or ds k 0 ∷ [])

  last_spelt : take k ds ≡ leading (value_of (take k ds)) → ds ≡ decimal (value_of ds)
  unfolding decimal
  last_spelt e =
      let l = digits k (omega arith) in
      let t = last_told in
      let q : value_of ds / 10 ≡ value_of (take k ds) = omega arith in
      let r : digit (value_of ds % 10) ≡ get_or ds k 0 = omega arith in
      last_apart ∙ cc

-- digits spell the number that they tell
spelt : (k : ℕ) (ds : List ℕ) → length ds ≡ suc k → Digits ds → (0 < k → 49 ≤ get_or ds 0 0) → ds ≡ decimal (value_of ds)
unfolding value_after
spelt zero ds h g z = last_spelt zero ds h g (sym (leading-none 0 (omega arith)))
spelt (suc k) ds h g z =
    let l : length (take (suc k) ds) ≡ suc k = length-take-le (suc k) ds (omega arith) in
    let first : 49 ≤ get_or (take (suc k) ds) 0 0 = rw (get_or-take (suc k) ds 0 0 (omega arith)) (z (omega arith)) in
    let front : Digits (take (suc k) ds) = λ i j. rw (get_or-take (suc k) ds i 0 (omega arith)) (g i (omega arith)) in
    last_spelt (suc k) ds h g (spelt k (take (suc k) ds) l front (λ j. first) ∙ sym (leading_more _ (value_some (take (suc k) ds) first)))

decimal_is : (ds : List ℕ) (n : ℕ) → Decimal ds n → ds ≡ decimal n
decimal_is ds n p =
    spelt (length ds - 1) ds (omega (arith, p.some)) p.digits (λ h. p.no_zero_first (omega arith)) ∙ ap decimal p.value

pub decimal_one : (ds es : List ℕ) (n : ℕ) → Decimal ds n → Decimal es n → ds ≡ es
decimal_one ds es n p q = decimal_is ds n p ∙ sym (decimal_is es n q)

-- ---- hex

hex_digit_lem : (d : ℕ) → d < 16 → HexDigit (hex_digit d) × (hex_digit_value (hex_digit d) ≡ d)
hex_digit_lem d h =
    by_cases (ltb d 10)
    (λ q. let l = ltb-true d 10 q in rw q (inl (omega arith, omega arith), rw (lt-ltb (48 + d) 58 (omega arith)) (omega arith)))
    (λ q. let l = ltb-false d 10 q in rw q (inr (omega arith, omega arith), rw (le-ltb (55 + d) 58 (omega arith)) (omega arith)))

pub hex_reads : (w : ℕ) → w < 65536 → Hex (hex4 w) w
unfolding hex_after
hex_reads w h =
    let e : w ≡ 16 * (w / 16) + w % 16 = omega arith in
    let f : w / 16 ≡ 16 * (w / 256) + w / 16 % 16 = omega arith in
    let g : w / 256 ≡ 16 * (w / 4096) + w / 256 % 16 = omega arith in
    let a = hex_digit_lem (w / 4096 % 16) (omega arith) in
    let b = hex_digit_lem (w / 256 % 16) (omega arith) in
    let c = hex_digit_lem (w / 16 % 16) (omega arith) in
    let d = hex_digit_lem (w % 16) (omega arith) in
    record {
      four = refl;
      digits = first_at_lem 4 (λ i. HexDigit (get_or (hex4 w) i 0)) (a.0, (b.0, (c.0, (d.0, tt))));
      value = rw (a.1, b.1, c.1, d.1) (omega arith);
    }

-- a hex digit is known by its value, which is below 16
hex_known : (d : ℕ) → HexDigit d → (hex_digit_value d < 16) × (hex_digit (hex_digit_value d) ≡ d)
hex_known d =
    ⊎_elim
    (λ l. rw (lt-ltb d 58 (omega arith)) (omega arith, rw (lt-ltb (d - 48) 10 (omega arith)) (omega arith)))
    (λ l. rw (le-ltb d 58 (omega arith)) (omega arith, rw (le-ltb (d - 55) 10 (omega arith)) (omega arith)))

-- so four hex digits that tell w are those of w
module _ (ds : List ℕ) (w : ℕ) (p : Hex ds w) where
  abbrev value_at : ℕ → ℕ
  value_at i = hex_digit_value (get_or ds i 0)

  hex_at : (i : ℕ) → i < 4 → (value_at i < 16) × (hex_digit (value_at i) ≡ get_or ds i 0)
  hex_at i h = hex_known (get_or ds i 0) (p.digits i h)

  hex_value : 16 * (16 * (16 * value_at 0 + value_at 1) + value_at 2) + value_at 3 ≡ w
  unfolding hex_after
  hex_value =
      let e : ds ≡ get_or ds 0 0 ∷ get_or ds 1 0 ∷ get_or ds 2 0 ∷ get_or ds 3 0 ∷ [] = list_one 0 4 ds _ p.four refl (refl, (refl, (refl, (refl, tt)))) in
      omega (arith, sym (ap (λ (l : List ℕ). hex_value_of l) e) ∙ p.value)

  hex_is : ds ≡ hex4 w
  hex_is =
      let v = hex_value in
      let a = hex_at 0 (omega arith) in
      let b = hex_at 1 (omega arith) in
      let c = hex_at 2 (omega arith) in
      let d = hex_at 3 (omega arith) in
      let e : value_at 0 ≡ w / 4096 % 16 = omega arith in
      let f : value_at 1 ≡ w / 256 % 16 = omega arith in
      let g : value_at 2 ≡ w / 16 % 16 = omega arith in
      let h : value_at 3 ≡ w % 16 = omega arith in
      list_one 0 4 ds (hex4 w) p.four refl
      (sym a.1 ∙ ap hex_digit e, (sym b.1 ∙ ap hex_digit f, (sym c.1 ∙ ap hex_digit g, (sym d.1 ∙ ap hex_digit h, tt))))

pub hex_one : (ds es : List ℕ) (w : ℕ) → Hex ds w → Hex es w → ds ≡ es
hex_one ds es w p q = hex_is ds w p ∙ sym (hex_is es w q)

-- ---- a line of fields

-- a first field and others, a space before each of them, and the rest of a text
abbrev row : List ℕ → List (List ℕ) → List ℕ → List ℕ
row p qs rest = p ++ after 32 qs rest

row-rest : (p : List ℕ) (qs : List (List ℕ)) (rest : List ℕ) → row p qs rest ≡ row p qs [] ++ rest
row-rest p [] rest = rw append-nil
row-rest p (q ∷ qs) rest = rw (row-rest q qs rest, append_assoc p)

above_lower : (s : List ℕ) → Above 32 s → Above 10 s
above_lower [] a = tt
above_lower (x ∷ s) a = (omega (arith, a.0), above_lower s a.1)

row_above : (p : List ℕ) (qs : List (List ℕ)) → Each (Above 32) (p ∷ qs) → Above 10 (row p qs [])
row_above p [] a = each_append (λ x. 10 < x) p [] (above_lower p a.0) tt
row_above p (q ∷ qs) a = each_append (λ x. 10 < x) p (32 ∷ row q qs []) (above_lower p a.0) (omega arith, row_above q qs a.1)

row-parts : (p : List ℕ) (qs : List (List ℕ)) → Each (Above 32) (p ∷ qs) → parts_after 32 [] (row p qs []) ≡ p ∷ qs
row-parts p [] a = rw append-nil (part_last 32 [] p a.0)
row-parts p (q ∷ qs) a = rw (part_ends 32 [] p (row q qs []) a.0, row-parts q qs a.1)

-- fields without a space or an LF are read from their line, and the line from a text that begins with it
module _ (p : List ℕ) (qs : List (List ℕ)) (a : Each (Above 32) (p ∷ qs)) where
  row_line : (rest : List ℕ) → lines_of (row p qs (10 ∷ rest)) ≡ row p qs [] ∷ lines_of rest
  row_line rest = rw row-rest (part_ends 10 [] (row p qs []) rest (row_above p qs a))

  row_fields : (text : List ℕ) (i : ℕ) → get_or (lines_of text) i [] ≡ row p qs [] → fields_of text i ≡ p ∷ qs
  row_fields text i e = rw e (row-parts p qs a)

-- ---- the printed lines

digits_above : (s : List ℕ) → ((i : ℕ) → i < length s → 48 ≤ get_or s i 0) → Above 32 s
digits_above [] d = tt
digits_above (x ∷ s) d = (omega (arith, d 0 (omega arith)), digits_above s (λ i l. d (suc i) (omega arith)))

decimal_above : (n : ℕ) → Above 32 (decimal n)
decimal_above n = digits_above (decimal n) (λ i h. (decimal_digits n i h).0)

hex_digit_above : (d : ℕ) → 32 < hex_digit d
hex_digit_above d = by_cases (ltb d 10) (λ q. rw q (omega arith)) (λ q. rw q (omega arith))

hex_above : (w : ℕ) → Above 32 (hex4 w)
hex_above w =
    (hex_digit_above (w / 4096 % 16), (hex_digit_above (w / 256 % 16), (hex_digit_above (w / 16 % 16), (hex_digit_above (w % 16), tt))))

-- "steps", "pixels", "refused"
abbrev steps_field : List ℕ
steps_field = 115 ∷ 116 ∷ 101 ∷ 112 ∷ 115 ∷ []

abbrev pixels_field : List ℕ
pixels_field = 112 ∷ 105 ∷ 120 ∷ 101 ∷ 108 ∷ 115 ∷ []

abbrev refused_field : List ℕ
refused_field = 114 ∷ 101 ∷ 102 ∷ 117 ∷ 115 ∷ 101 ∷ 100 ∷ []

-- each line as its first field and the others
module _ (s p : ℕ) where
  abbrev head_others : List (List ℕ)
  head_others = decimal s ∷ pixels_field ∷ decimal p ∷ []

  head_above : Each (Above 32) (steps_field ∷ head_others)
  head_above = (omega arith, (decimal_above s, (omega arith, (decimal_above p, tt))))

  head_line_lem : (rest : List ℕ) → lines_of (head_line s p ++ rest) ≡ row steps_field head_others [] ∷ lines_of rest
  unfolding head_line
  head_line_lem rest = simp append_assoc (row_line steps_field head_others head_above rest)

module _ (v : Verdict) where
  abbrev toggle_others : Bool → List (List ℕ)
  toggle_others b = cond b (decimal v.output ∷ decimal v.toggle ∷ []) []

  abbrev refused_others : Bool → List (List ℕ)
  refused_others b = decimal v.number ∷ decimal v.place ∷ toggle_others b

  refused_above : (b : Bool) → Each (Above 32) (refused_field ∷ refused_others b)
  refused_above true = (omega arith, (decimal_above v.number, (decimal_above v.place, (decimal_above v.output, (decimal_above v.toggle, tt)))))
  refused_above false = (omega arith, (decimal_above v.number, (decimal_above v.place, tt)))

  refused_many : (b : Bool) → length (refused_field ∷ refused_others b) ≡ cond b 5 3
  refused_many true = refl
  refused_many false = refl

  refused-front : (rest : List ℕ)
      → refused_word ++ decimal v.number ++ (32 ∷ []) ++ decimal v.place ++ rest
      ≡ refused_field ++ 32 ∷ (decimal v.number ++ 32 ∷ (decimal v.place ++ rest))
  refused-front rest = simp append_assoc

  refused_line_lem : (b : Bool) → eqb v.number 10 ≡ b → lines_of (refused_line v) ≡ row refused_field (refused_others b) [] ∷ lines_of []
  unfolding refused_line toggle_text
  refused_line_lem true e = ap lines_of (refused-front _) ∙ rw e (simp append_assoc (row_line refused_field (refused_others true) (refused_above true) []))
  refused_line_lem false e = ap lines_of (refused-front _) ∙ rw e (row_line refused_field (refused_others false) (refused_above false) [])

module _ (cs ws : List ℕ) (i : ℕ) where
  abbrev step_others : List (List ℕ)
  step_others = hex4 (get_or ws i 0) ∷ []

  abbrev step_text : List ℕ
  step_text = row (decimal (get_or cs i 0)) step_others []

  step_above : Each (Above 32) (decimal (get_or cs i 0) ∷ step_others)
  step_above = (decimal_above (get_or cs i 0), (hex_above (get_or ws i 0), tt))

  step_line_lem : (rest : List ℕ) → lines_of (step_line_at cs ws i ++ rest) ≡ step_text ∷ lines_of rest
  unfolding step_line
  step_line_lem rest = simp append_assoc (row_line (decimal (get_or cs i 0)) step_others step_above rest)

module _ (cs ws : List ℕ) where
  abbrev step_texts : ℕ → List (List ℕ)
  step_texts n = chunks n (λ i. step_text cs ws i ∷ [])

  steps_lines : (n : ℕ) (rest : List ℕ) → lines_of (chunks n (step_line_at cs ws) ++ rest) ≡ step_texts n ++ lines_of rest
  unfolding chunks
  steps_lines zero rest = refl
  steps_lines (suc n) rest =
      rw (append_assoc (chunks n (step_line_at cs ws)), steps_lines n (step_line_at cs ws n ++ rest), step_line_lem cs ws n rest, append_assoc)

-- ---- what is printed tells the answer

-- nothing is past the last LF
lines_told : (text : List ℕ) (ls : List (List ℕ)) (n : ℕ) → lines_of text ≡ ls ++ lines_of [] → length ls ≡ n → Lines text n
unfolding parts_after
lines_told text ls n e h =
    record { many = omega (arith, ap length e, length-append ls ([] ∷ [])); ended = rw e (get_or_at ls [] [] [] n h) }

pub refusal_told : (v : Verdict) → TellsRefusal (refused_line v) v
refusal_told v = go (eqb v.number 10) refl
  where
    go : (b : Bool) → eqb v.number 10 ≡ b → TellsRefusal (refused_line v) v
    go b e =
        let l = refused_line_lem v b e in
        let f = row_fields refused_field (refused_others v b) (refused_above v b) (refused_line v) 0 (rw l) in
        record {
          lines = lines_told (refused_line v) (row refused_field (refused_others v b) [] ∷ []) 1 l refl;
          head = rw (f, e) (refused_many v b);
          begins = rw f;
          number_told = rw f (decimal_reads v.number);
          place_told = rw f (decimal_reads v.place);
          output_told = λ z. let t : b ≡ true = sym e ∙ eq-eqb v.number 10 z in rw (f, t) (decimal_reads v.output);
          toggle_told = λ z. let t : b ≡ true = sym e ∙ eq-eqb v.number 10 z in rw (f, t) (decimal_reads v.toggle);
        }

-- a listing of as many steps as it says, each word of 16 bits
module _ (s p : ℕ) (cs ws : List ℕ) (hc : length cs ≡ s) (hw : length ws ≡ s) (small : (i : ℕ) → get_or ws i 0 < 65536) where
  abbrev head_text : List ℕ
  head_text = row steps_field (head_others s p) []

  listing_lines : lines_of (listing s p cs ws) ≡ (head_text ∷ step_texts cs ws s) ++ lines_of []
  unfolding listing
  listing_lines =
      let m : min s (room_of cs ws) ≡ s = omega arith in
      let steps = chunks s (step_line_at cs ws) in
      rw (m, head_line_lem s p steps) (ap (λ (l : List (List ℕ)). head_text ∷ l) (ap lines_of (sym (append-nil steps)) ∙ steps_lines cs ws s []))

  step_fields : (i : ℕ) → i < s → fields_of (listing s p cs ws) (1 + i) ≡ decimal (get_or cs i 0) ∷ step_others cs ws i
  step_fields i h =
      row_fields (decimal (get_or cs i 0)) (step_others cs ws i) (step_above cs ws i) (listing s p cs ws) (1 + i)
      (rw listing_lines
      (get_or-append-add (head_text ∷ []) (step_texts cs ws s ++ lines_of []) i []
      ∙ get_or-append (step_texts cs ws s) (lines_of []) [] i (omega (arith, length_ones s (step_text cs ws))) ∙ get_d_ones s (step_text cs ws) [] i h))

  pub listing_told : Tells (listing s p cs ws) s p cs ws
  listing_told =
      let l = listing_lines in
      let f = row_fields steps_field (head_others s p) (head_above s p) (listing s p cs ws) 0 (rw l) in
      record {
        lines = lines_told (listing s p cs ws) (head_text ∷ step_texts cs ws s) (1 + s) l (omega (arith, length_ones s (step_text cs ws)));
        head = rw f;
        begins = rw f;
        steps_told = rw f (decimal_reads s);
        between = rw f;
        pixels_told = rw f (decimal_reads p);
        step = λ i h. rw (step_fields i h);
        count_told = λ i h. rw (step_fields i h) (decimal_reads (get_or cs i 0));
        word_told = λ i h. rw (step_fields i h) (hex_reads (get_or ws i 0) (small i));
      }

-- ---- no other text

-- a text is its lines, and a line its fields
text_one : (a b : List ℕ) (n : ℕ) → Lines a n → Lines b n → ((i : ℕ) → i < n → fields_of a i ≡ fields_of b i) → a ≡ b
text_one a b n p q f =
    parts_one 10 a b
    (ext_get_or [] (lines_of a) (lines_of b) (p.many ∙ sym q.many)
    (λ i h.
    by_cases (eqb i n)
    (λ e. rw (eqb-true i n e) (p.ended ∙ sym q.ended))
    (λ e. parts_one 32 _ _ (f i (omega (arith, p.many, eqb-false i n e))))))

pub tells_refusal_one : (a b : List ℕ) (v : Verdict) → TellsRefusal a v → TellsRefusal b v → a ≡ b
tells_refusal_one a b v t u =
    let begins = t.begins ∙ sym u.begins in
    let number = decimal_one _ _ v.number t.number_told u.number_told in
    let place = decimal_one _ _ v.place t.place_told u.place_told in
    let fields : fields_of a 0 ≡ fields_of b 0 =
    by_cases (eqb v.number 10)
    (λ e.
    let z = eqb-true v.number 10 e in
    let output = decimal_one _ _ v.output (t.output_told z) (u.output_told z) in
    let toggle = decimal_one _ _ v.toggle (t.toggle_told z) (u.toggle_told z) in
    list_one [] 5 (fields_of a 0) (fields_of b 0) (rw e at t.head) (rw e at u.head) (begins, (number, (place, (output, (toggle, tt))))))
    (λ e. list_one [] 3 (fields_of a 0) (fields_of b 0) (rw e at t.head) (rw e at u.head) (begins, (number, (place, tt)))) in
    text_one a b 1 t.lines u.lines (first_at_lem 1 (λ i. fields_of a i ≡ fields_of b i) (fields, tt))

module _ (a b : List ℕ) (s p : ℕ) (cs ws : List ℕ) (t : Tells a s p cs ws) (u : Tells b s p cs ws) where
  fields_one : (i : ℕ) → i < 1 + s → fields_of a i ≡ fields_of b i
  fields_one zero h =
      let begins = t.begins ∙ sym u.begins in
      let steps = decimal_one _ _ s t.steps_told u.steps_told in
      let between = t.between ∙ sym u.between in
      let pixels = decimal_one _ _ p t.pixels_told u.pixels_told in
      list_one [] 4 (fields_of a 0) (fields_of b 0) t.head u.head (begins, (steps, (between, (pixels, tt))))
  fields_one (suc i) h =
      let l : i < s = omega arith in
      let e : suc i ≡ 1 + i = omega arith in
      let count = decimal_one _ _ (get_or cs i 0) (t.count_told i l) (u.count_told i l) in
      let word = hex_one _ _ (get_or ws i 0) (t.word_told i l) (u.word_told i l) in
      rw e (list_one [] 2 (fields_of a (1 + i)) (fields_of b (1 + i)) (t.step i l) (u.step i l) (count, (word, tt)))

  pub tells_one : a ≡ b
  tells_one = text_one a b (1 + s) t.lines u.lines fields_one
