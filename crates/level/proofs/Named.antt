-- What the verdicts of level, locate and next_edge name, as those of check, read and write do (profile's proofs/Named.antt): each is the check's,
-- `accepted` or 19.
-- Assumes nothing.
use Prim.Native.Nat.{ℕ}
use native.Mathlib.Omega.{arith}
use mathlib.Core.Path.{refl}
use lib.Dec.{ltb}
use Rattle.profile.specs.Values.{Names}
use Rattle.profile.specs.Geometry.{pixel_count, has_pixel}
use Rattle.profile.specs.declared.Tables.{Tables}
use Rattle.profile.specs.declared.Field.{Field}
use Rattle.profile.specs.declared.Profile.{Profile}
use Rattle.profile.specs.declared.Ruleset.{Ruleset}
use Rattle.profile.proofs.Named.{names_none, names_accepted, tested_names, after_check}
use Rattle.level.specs.Place.{level_answer, locate_answer, edge_at, next_edge_answer}
use Rattle.level.specs.Place.{LevelAnswer}
use Rattle.level.specs.Place.{Located}
use Rattle.level.specs.Place.{Edge}

pub level_names : (rules : Ruleset) (p : Profile) (line pixel : ℕ) → Names (level_answer rules p line pixel).verdict
unfolding level_answer
level_names rules p line pixel =
    after_check (λ (a : LevelAnswer). a.verdict) rules p _ _
    (tested_names (λ (a : LevelAnswer). a.verdict) (has_pixel p.tables p.field line pixel) _ _ names_accepted (names_none 19 0 (omega arith))) refl

pub locate_names : (rules : Ruleset) (p : Profile) (n : ℕ) → Names (locate_answer rules p n).verdict
unfolding locate_answer
locate_names rules p n =
    after_check (λ (a : Located). a.verdict) rules p _ _
    (tested_names (λ (a : Located). a.verdict) (ltb n (pixel_count p.tables p.field)) _ _ names_accepted (names_none 19 0 (omega arith))) refl

edge_names : (t : Tables) (f : Field) (n : ℕ) → Names (edge_at t f n).verdict
edge_names t f n = tested_names (λ (a : Edge). a.verdict) (ltb n (pixel_count t f)) _ _ names_accepted names_accepted

pub next_edge_names : (rules : Ruleset) (p : Profile) (line pixel : ℕ) → Names (next_edge_answer rules p line pixel).verdict
unfolding next_edge_answer
next_edge_names rules p line pixel =
    after_check (λ (a : Edge). a.verdict) rules p _ _
    (tested_names (λ (a : Edge). a.verdict) (has_pixel p.tables p.field line pixel) _ _ (edge_names p.tables p.field _) (names_none 19 0 (omega arith))) refl
