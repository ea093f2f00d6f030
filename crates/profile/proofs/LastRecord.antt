-- "A later record for the same item replaces the earlier": in the profile of a list of records an item is what the last record for it says, and
-- empty where none is for it. A record leaves every other item as it was, and puts its own whatever was there.
-- Assumes nothing.
use Prim.Native.Nat.{ℕ, ◌+◌, ◌*◌, ◌≤◌, ◌<◌}
use native.Mathlib.Omega.{arith}
use mathlib.Core.Path.{◌≡◌, refl, sym, ap, subst, ◌∙◌}
use mathlib.Core.List.{List, [], ◌∷◌, ◌++◌}
use lib.ListN.{length, get_or, set, length-set}
use lib.Seq.{get_or-set_same, get_or-set_other}
use Rattle.profile.specs.Bytes.{number_at}
use Rattle.profile.specs.Values.{Sized, empty_profile}
use Rattle.profile.specs.Script.{with_record}
use Rattle.profile.specs.Records.{
  Fits,
  fits_register,
  fits_sequence,
  fits_field,
  fits_gate,
  fits_subck,
  fits_shutter,
  Record,
  with_records,
  profile_of,
  Item,
  register,
  sequence,
  field,
  gate,
  subck,
  shutter,
  item_of,
  NoneFor,
  Same,
}
use Rattle.profile.specs.declared.Profile.{Profile}
use Rattle.profile.proofs.Puts.{by_kind_lem, with_sized}
use Rattle.profile.proofs.Reading.{empty_sized}
use Rattle.profile.proofs.Scripts.{fits_test}

same_still : (i : Item) (p : Profile) → Same i p p
same_still (register a) p = (refl, refl)
same_still (sequence k) p = refl
same_still field p = refl
same_still (gate k) p = refl
same_still subck p = refl
same_still (shutter k) p = refl

same_then : (i : Item) (p q r : Profile) → Same i p q → Same i q r → Same i p r
same_then (register a) p q r x y = (x.0 ∙ y.0, x.1 ∙ y.1)
same_then (sequence k) p q r x y = x ∙ y
same_then field p q r x y = x ∙ y
same_then (gate k) p q r x y = x ∙ y
same_then subck p q r x y = x ∙ y
same_then (shutter k) p q r x y = x ∙ y

-- ---- one record

-- both halves of register c, where register a is set
other-halves : (l : List ℕ) (a c v w : ℕ) → (a ≡ c → ⊥)
    → (get_or (set (set l (2 * a) v) (2 * a + 1) w) (2 * c) 0 ≡ get_or l (2 * c) 0)
    × (get_or (set (set l (2 * a) v) (2 * a + 1) w) (2 * c + 1) 0 ≡ get_or l (2 * c + 1) 0)
other-halves l a c v w n = (
  get_or-set_other (set l (2 * a) v) (2 * a + 1) (2 * c) w 0 (λ e. omega (arith, e)) ∙ get_or-set_other l (2 * a) (2 * c) v 0 (λ e. n (omega (arith, e))),
  get_or-set_other (set l (2 * a) v) (2 * a + 1) (2 * c + 1) w 0 (λ e. n (omega (arith, e))) ∙ get_or-set_other l (2 * a) (2 * c + 1) v 0 (λ e. omega (arith, e)),
)

-- q, after a record for item j, has in item i what p has, where they are not the same item
abbrev Left : Item → Profile → Item → Profile → Type 0
Left i p j q = (j ≡ i → ⊥) → Same i q p

-- every other item is left as it was
with_other : (k : ℕ) (b : List ℕ) (i : Item) (p : Profile) → (item_of k b ≡ i → ⊥) → Same i (with_record k b p) p
unfolding with_record
with_other k b (register c) p =
    by_kind_lem (Left (register c) p) k (λ n. other-halves p.tables.registers (get_or b 0 0) c _ _ (λ e. n (ap register e)))
    (λ n. (refl, refl)) (λ n. (refl, refl)) (λ n. (refl, refl)) (λ n. (refl, refl)) (λ n. (refl, refl))
with_other k b (sequence c) p =
    by_kind_lem (Left (sequence c) p) k (λ n. refl) (λ n. get_or-set_other p.tables.sequences (number_at b 0) c _ _ (λ e. n (ap sequence (sym e))))
    (λ n. refl) (λ n. refl) (λ n. refl) (λ n. refl)
with_other k b field p = by_kind_lem (Left field p) k (λ n. refl) (λ n. refl) (λ n. absurd (n refl)) (λ n. refl) (λ n. refl) (λ n. refl)
with_other k b (gate c) p =
    by_kind_lem (Left (gate c) p) k (λ n. refl) (λ n. refl) (λ n. refl)
    (λ n. get_or-set_other p.tables.gates (number_at b 0) c _ _ (λ e. n (ap gate (sym e)))) (λ n. refl) (λ n. refl)
with_other k b subck p = by_kind_lem (Left subck p) k (λ n. refl) (λ n. refl) (λ n. refl) (λ n. refl) (λ n. absurd (n refl)) (λ n. refl)
with_other k b (shutter c) p =
    by_kind_lem (Left (shutter c) p) k (λ n. refl) (λ n. refl) (λ n. refl) (λ n. refl) (λ n. refl)
    (λ n. get_or-set_other p.tables.shutters (number_at b 0) c _ _ (λ e. n (ap shutter (sym e))))

-- both halves of register a, where it is set
own_halves : (l : List ℕ) (a v w : ℕ) → a ≤ 0x77 → length l ≡ 240
    → (get_or (set (set l (2 * a) v) (2 * a + 1) w) (2 * a) 0 ≡ v) × (get_or (set (set l (2 * a) v) (2 * a + 1) w) (2 * a + 1) 0 ≡ w)
own_halves l a v w h z = (
  get_or-set_other (set l (2 * a) v) (2 * a + 1) (2 * a) w 0 (λ e. omega (arith, e)) ∙ get_or-set_same l (2 * a) v 0 (omega arith),
  get_or-set_same (set l (2 * a) v) (2 * a + 1) w 0 (omega (arith, length-set l (2 * a) v)),
)

own_item : {A : Type 0} (l m : List A) (k : ℕ) (v d : A) → k < length l → k < length m → get_or (set l k v) k d ≡ get_or (set m k v) k d
own_item l m k v d h g = get_or-set_same l k v d h ∙ sym (get_or-set_same m k v d g)

-- its own item is what it says, whatever was there
with_own : (b : List ℕ) (k : ℕ) → Fits b k → (p q : Profile) → Sized p → Sized q → Same (item_of k b) (with_record k b p) (with_record k b q)
unfolding with_record
with_own b k (fits_register h l u) p q y z =
    let x = own_halves p.tables.registers (get_or b 0 0) _ _ h y.registers in
    let x' = own_halves q.tables.registers (get_or b 0 0) _ _ h z.registers in
    (x.0 ∙ sym x'.0, x.1 ∙ sym x'.1)
with_own b k (fits_sequence h w) p q y z =
    own_item p.tables.sequences q.tables.sequences (number_at b 0) _ _ (omega (arith, y.sequences)) (omega (arith, z.sequences))
with_own b k (fits_field two h w r) p q y z = refl
with_own b k (fits_gate h w) p q y z =
    own_item p.tables.gates q.tables.gates (number_at b 0) _ _ (omega (arith, y.gates)) (omega (arith, z.gates))
with_own b k (fits_subck w) p q y z = refl
with_own b k (fits_shutter h w) p q y z =
    own_item p.tables.shutters q.tables.shutters (number_at b 0) _ _ (omega (arith, y.shutters)) (omega (arith, z.shutters))

-- ---- all records

all_sized : (rs : List Record) (p : Profile) → Sized p → Sized (with_records rs p)
all_sized [] p z = z
all_sized (r ∷ rs) p z =
    all_sized rs (with_record r.kind r.body p) (with_sized r.kind r.body p z (fits_test r.body r.kind r.fits))

all-other : (rs : List Record) (i : Item) (p : Profile) → NoneFor i rs → Same i (with_records rs p) p
all-other [] i p n = same_still i p
all-other (r ∷ rs) i p n =
    let q = with_record r.kind r.body p in
    same_then i (with_records rs q) q p (all-other rs i q n.1) (with_other r.kind r.body i p n.0)

all_then : (a b : List Record) (p : Profile) → with_records (a ++ b) p ≡ with_records b (with_records a p)
all_then [] b p = refl
all_then (r ∷ a) b p = all_then a b (with_record r.kind r.body p)

-- the last record for an item decides
pub last_decides :
    (before : List Record) (r : Record) (after : List Record) → NoneFor (item_of r.kind r.body) after →
    Same (item_of r.kind r.body) (profile_of (before ++ r ∷ after)) (profile_of (r ∷ []))
last_decides before r after n =
    let i = item_of r.kind r.body in
    let p = profile_of before in
    subst (λ (q : Profile). Same i q (profile_of (r ∷ []))) (sym (all_then before (r ∷ after) empty_profile))
    (same_then i (with_records (r ∷ after) p) (with_record r.kind r.body p) (profile_of (r ∷ []))
    (all-other after i (with_record r.kind r.body p) n)
    (with_own r.body r.kind r.fits p empty_profile (all_sized before empty_profile empty_sized) empty_sized))

-- an item that no record is for is empty
pub none_decides : (rs : List Record) (i : Item) → NoneFor i rs → Same i (profile_of rs) empty_profile
none_decides rs i n = all-other rs i empty_profile n
