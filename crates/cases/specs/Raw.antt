-- The numbers of a payload and the raw profile of tests/cases/FORMAT.md: 381 numbers of two bytes, item after item.
-- Assumes nothing.
use Rattle.std.specs.Prelude.{ℕ, ◌+◌, ◌*◌, List, [], ◌∷◌, eqb, get_or}
use Rattle.profile.specs.Lists.{chunks}
use Rattle.profile.specs.Bytes.{number_at}
use Rattle.profile.specs.Values.{mode_of}
use Rattle.profile.specs.Versions.{ruleset_of}
use Rattle.profile.specs.declared.Region.{Region}
use Rattle.profile.specs.declared.Sequence.{Sequence}
use Rattle.profile.specs.declared.Field.{Field}
use Rattle.profile.specs.declared.Gate.{Gate}
use Rattle.profile.specs.declared.Subck.{Subck}
use Rattle.profile.specs.declared.Shutter.{Shutter}
use Rattle.profile.specs.declared.Tables.{Tables}
use Rattle.profile.specs.declared.Profile.{Profile}
use Rattle.profile.specs.declared.Ruleset.{Ruleset}

-- ---- numbers

-- the numbers of four and of eight bytes at a place
abbrev pub four_at : List ℕ → ℕ → ℕ
four_at b at = get_or b at 0 + 256 * get_or b (at + 1) 0 + 65536 * get_or b (at + 2) 0 + 16777216 * get_or b (at + 3) 0

abbrev pub eight_at : List ℕ → ℕ → ℕ
eight_at b at = four_at b at + 4294967296 * four_at b (at + 4)

-- n bytes, n numbers from a place on
abbrev pub bytes_from : List ℕ → ℕ → ℕ → List ℕ
bytes_from b at n = chunks n (λ i. get_or b (at + i) 0 ∷ [])

abbrev pub numbers_from : List ℕ → ℕ → ℕ → List ℕ
numbers_from b at n = chunks n (λ i. number_at b (at + 2 * i) ∷ [])

abbrev pub fours_from : List ℕ → ℕ → ℕ → List ℕ
fours_from b at n = chunks n (λ i. four_at b (at + 4 * i) ∷ [])

-- ---- items, from number k of the raw profile on

abbrev pub raw_sequence : List ℕ → ℕ → Sequence
raw_sequence ns k =
    record {
      present = eqb (get_or ns k 0) 1;
      pattern = get_or ns (k + 1) 0;
      length = get_or ns (k + 2) 0;
      start = get_or ns (k + 3) 0;
      odd = get_or ns (k + 4) 0;
      even = get_or ns (k + 5) 0;
      mask = get_or ns (k + 6) 0;
    }

abbrev pub raw_gate : List ℕ → ℕ → Gate
raw_gate ns k =
    record {
      present = eqb (get_or ns k 0) 1;
      on = get_or ns (k + 1) 0;
      level = get_or ns (k + 2) 0;
      toggle1 = get_or ns (k + 3) 0;
      toggle2 = get_or ns (k + 4) 0;
    }

abbrev pub raw_subck : List ℕ → ℕ → Subck
raw_subck ns k =
    record {
      present = eqb (get_or ns k 0) 1;
      level = get_or ns (k + 1) 0;
      toggle1 = get_or ns (k + 2) 0;
      toggle2 = get_or ns (k + 3) 0;
      suppressed = get_or ns (k + 4) 0;
      count = get_or ns (k + 5) 0;
    }

abbrev pub raw_shutter : List ℕ → ℕ → Shutter
raw_shutter ns k =
    record {
      present = eqb (get_or ns k 0) 1;
      active = get_or ns (k + 1) 0;
      on_line = get_or ns (k + 2) 0;
      on_pixel = get_or ns (k + 3) 0;
      off_line = get_or ns (k + 4) 0;
      off_pixel = get_or ns (k + 5) 0;
    }

abbrev pub raw_region : List ℕ → ℕ → Region
raw_region ns k = record { first = get_or ns k 0; sequence = get_or ns (k + 1) 0; mode = mode_of (get_or ns (k + 2) 0) }

-- ---- the raw profile

-- how many numbers it has, and how many bytes
abbrev pub raw_count : ℕ
raw_count = 381

abbrev pub raw_length : ℕ
raw_length = 762

-- a version's two bytes, and the raw profile with them behind it
abbrev pub version_length : ℕ
version_length = 2

abbrev pub versioned_length : ℕ
versioned_length = raw_length + version_length

-- the rules of the version at a place
abbrev pub rules_at : List ℕ → ℕ → Ruleset
rules_at b at = ruleset_of (number_at b at)

abbrev pub raw_numbers : List ℕ → List ℕ
raw_numbers b = numbers_from b 0 raw_count

abbrev pub raw_sequences : List ℕ → List Sequence
raw_sequences ns =
    raw_sequence ns 240 ∷ raw_sequence ns 247 ∷ raw_sequence ns 254 ∷ raw_sequence ns 261 ∷ raw_sequence ns 268
    ∷ raw_sequence ns 275 ∷ raw_sequence ns 282 ∷ raw_sequence ns 289 ∷ raw_sequence ns 296 ∷ raw_sequence ns 303 ∷ []

abbrev pub raw_gates : List ℕ → List Gate
raw_gates ns = raw_gate ns 310 ∷ raw_gate ns 315 ∷ raw_gate ns 320 ∷ raw_gate ns 325 ∷ raw_gate ns 330 ∷ []

abbrev pub raw_shutters : List ℕ → List Shutter
raw_shutters ns = raw_shutter ns 341 ∷ raw_shutter ns 347 ∷ []

abbrev pub raw_regions : List ℕ → List Region
raw_regions ns =
    raw_region ns 360 ∷ raw_region ns 363 ∷ raw_region ns 366
    ∷ raw_region ns 369 ∷ raw_region ns 372 ∷ raw_region ns 375 ∷ raw_region ns 378 ∷ []

-- 240 half registers, 10 sequences, 5 gates, SUBCK, 2 shutters
unfoldable pub raw_tables : List ℕ → Tables
raw_tables b =
    record {
      registers = numbers_from b 0 240;
      sequences = raw_sequences (raw_numbers b);
      gates = raw_gates (raw_numbers b);
      subck = raw_subck (raw_numbers b) 335;
      shutters = raw_shutters (raw_numbers b);
    }

-- the field's numbers, then 7 regions
abbrev pub field_with : List ℕ → List Region → Field
field_with ns regions =
    record {
      present = eqb (get_or ns 353 0) 1;
      lines = get_or ns 354 0;
      last = get_or ns 355 0;
      gate = get_or ns 356 0;
      gate2 = get_or ns 357 0;
      second = get_or ns 358 0;
      count = get_or ns 359 0;
      regions = regions;
    }

unfoldable pub raw_field : List ℕ → Field
raw_field b = field_with (raw_numbers b) (raw_regions (raw_numbers b))

abbrev pub raw_profile : List ℕ → Profile
raw_profile b = record { tables = raw_tables b; field = raw_field b }
