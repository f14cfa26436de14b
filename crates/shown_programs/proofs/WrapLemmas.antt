-- A read that wraps round, in accepted programs, is of an array whose home box lies in its storage,
-- and its copy is within the limit.
use Rattle.std.proofs.Common.{◌≡◌, refl, sym, ◌∙◌, ap₂, subst, arith, ℕ, Bool}
use Rattle.std.proofs.Common.{ℤ, List, [], ◌∷◌, length, map, Option, Some, None}
use Rattle.std.specs.Prelude.{slice_get}
use Rattle.std.specs.List.{AllByRecursion}
use Rattle.std.specs.Option.{IsSomeAnd}
use Rattle.std.proofs.lemmas.List.Elements.{All-from_recursion}
use Rattle.zpl_region.specs.declared.dims.Dim.{Dim}
use Rattle.zpl_region.specs.declared.dims.Dim.TheVariants as dim
use Rattle.zpl_region.specs.declared.regions.Region.{Region}
use Rattle.zpl_region.specs.Hull.{IsBoxed}
use Rattle.zpl_region.specs.Region.{components}
use Rattle.zpl_tree.specs.Syntax.{Name, Dir}
use Rattle.zpl_names.specs.Ranks.{array_rank, array_shape}
use Rattle.zpl_names.specs.Scope.{kind_of}
use Rattle.zpl_meaning.specs.Proper.{IsArray}
use Rattle.zpl_meaning.specs.Regions.{vector_in}
use Rattle.zpl_meaning.specs.Store.{Thing, Scalar, ArrayAt, Fixed, thing_of}
use Rattle.meaning_ranks.specs.Shaped.{AreFloods}
use Rattle.meaning_ranks.specs.Shaped as shaped
use Rattle.zpl_lowering.specs.Where.{Slotted, Stored, Where, is_flood}
use Rattle.point_runs.specs.of_array_runs.Floods.{CoverFloods, IsElementAs, IsReadableAs, slot_floods}
use Rattle.point_runs.specs.of_array_runs.Reads.{Covers, EachCovers, IsShift}
use Rattle.lowered_flat.specs.of_lowering_fits.Reach.{FitNames, FitsName}
use Rattle.lowered_flat.specs.of_lowering_fits.Storages.{AllBoxed, IsHomeIn, IsStorage}
use Rattle.operator_runs.specs.Operated.{IsWrapped}
use Rattle.shown_programs.specs.Operators.{HasCopyWithin}
use Rattle.shown_programs.proofs.KnownLemmas.{same_flood, storage_region}

-- ---- flood dimensions of a home box

covers_one : (place one : Dim) → shaped.is_flood place ≡ shaped.is_flood one → Covers place one
covers_one dim.Flood one e = tt
covers_one (dim.Range lo hi step align) dim.Flood e = absurd (let no : ⊥ = cc in no)
covers_one (dim.Range lo hi step align) (dim.Range from to every base) e = tt

own_floods : (dims : List Dim) → AreFloods (map shaped.is_flood dims) dims
own_floods [] = tt
own_floods (d ∷ dims) = (refl, own_floods dims)

-- the storage has the same flood dimensions
same_floods : (home storage : List Dim) → length home ≡ length storage
    → AreFloods (map shaped.is_flood home) storage
    → (map is_flood home ≡ map is_flood storage) × EachCovers storage home
same_floods [] [] n are = (refl, tt)
same_floods [] (d ∷ dims) n are = absurd (omega (arith, n))
same_floods (h ∷ home) [] n are = absurd are
same_floods (h ∷ home) (d ∷ dims) n are =
    let rest = same_floods home dims (omega (arith, n)) are.1 in (
      ap₂ (λ b bs. b ∷ bs) (same_flood h ∙ sym are.0 ∙ sym (same_flood d)) rest.0,
      (covers_one d h are.0, rest.1),
    )

storage_floods : (storage home : Region) → IsStorage storage → IsHomeIn storage home
    → (map is_flood home.dims ≡ map is_flood storage.dims) × EachCovers storage.dims home.dims
storage_floods storage home is h =
    same_floods home.dims storage.dims (h.kept.three ∙ sym is.three)
    (h.floods (map shaped.is_flood home.dims) (own_floods home.dims))

all_boxed : (dims : List Dim) → AllBoxed dims → AllByRecursion IsBoxed dims
all_boxed [] h = tt
all_boxed (d ∷ dims) h = (h.0, all_boxed dims h.1)

-- ---- the read

level : (rank : ℕ) (d : List ℤ) → length d ≡ 3 → IsShift rank d → components rank d ≡ d
level rank [] long s = absurd (omega (arith, long))
level rank (x ∷ d) long s = s.1

some_rank : (a b : ℕ) → Some a ≡ Some b → a ≡ b
some_rank a b e = cc

module _ (w : Where) (over : Slotted) (rank : ℕ) (many : length over.flood ≡ rank)
    (names : FitNames w.scope w.environment w.numbers)
    (kept : (place : ℕ) (stored : Stored) → slice_get w.numbers.arrays place ≡ Some stored
    → IsStorage stored.storage)
    (name : Name) (shift : Dir) (ranked : array_rank (kind_of w.scope name) ≡ Some rank)
    (long : length (vector_in w.setup.known shift) ≡ 3)
    (vector : IsShift rank (vector_in w.setup.known shift))
    (within : HasCopyWithin w.setup.known w.environment name.text shift) where
  abbrev d : List ℤ
  d = vector_in w.setup.known shift

  pub wrapped : (thing : Option Thing) → thing_of w.environment name.text ≡ thing → IsArray thing
      → IsElementAs w over d thing → IsWrapped w over d thing
  wrapped None e is element = absurd is
  wrapped (Some (Scalar place)) e is element = absurd is
  wrapped (Some (Fixed value)) e is element = absurd is
  wrapped (Some (ArrayAt target home)) e is element =
      by (slice_get w.numbers.arrays target) refl fits.homed element
    where
      fits : FitsName w.numbers (array_shape (kind_of w.scope name)) target home
      fits = names name target home e

      home_rank : rank ≡ home.rank
      home_rank = some_rank rank home.rank (sym ranked ∙ fits.same)

      by : (o : Option Stored) → slice_get w.numbers.arrays target ≡ o
          → IsSomeAnd o (λ stored. IsHomeIn stored.storage home) → IsReadableAs over d o
          → IsWrapped w over d (Some (ArrayAt target home))
      by None f h readable = absurd h
      by (Some stored) f h readable =
          let floods = storage_floods stored.storage home (kept target stored f) h in
          record {
            target = target;
            home = home;
            named = refl;
            stored = stored;
            found = f;
            is = record {
              is = storage_region home h.kept;
              three = h.kept.three;
              boxed = All-from_recursion IsBoxed home.dims (all_boxed home.dims h.kept.boxed);
              limit = h.kept.limit;
              long = long;
              level = level home.rank d long (subst (λ (r : ℕ). IsShift r d) home_rank vector);
              copy_limit = within target home e;
              covers = floods.1;
              lies = h.lies;
            };
            ranked = many ∙ home_rank;
            covers = subst (λ (bs : List Bool). CoverFloods bs (slot_floods over)) (sym floods.0)
                readable.0;
          }
