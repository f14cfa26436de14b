-- Global names: each stands for what has a number, and is of the kind that the text says.
use Rattle.std.proofs.Common.{◌≡◌, ℕ, zero, suc, Bool, true, false, ℤ, pos, List, [], ◌∷◌, ◌++◌, map, length, refl, sym, ap, ◌∙◌, subst, arith, cond, Decides, length-append, append-nil, append_assoc, inl}
use Rattle.std.specs.Prelude.{Option, Some, option_map, find, slice_get}
use Rattle.std.specs.Option.{IsSomeAnd}
use Rattle.std.specs.Str.{bytes_eq}
use Rattle.std.proofs.lemmas.Slice.Eq.{bytes_eq-Decides}
use Rattle.zpl_region.specs.declared.regions.Region.{Region}
use Rattle.stored_shifts.specs.of_zpl_arrays.Array.{Array}
use Rattle.meaning_ranks.specs.of_zpl_tree.Syntax.{Name, Bracket, NoBracket, Bracketed, Base, Define, VarDef, Decl, Config, Constant, Regions, Directions, Vars, Defined, Program}
use Rattle.meaning_ranks.specs.of_zpl_names.Kinds as kind
use Rattle.meaning_ranks.specs.of_zpl_names.Kinds.{Kind, Shape}
use Rattle.meaning_ranks.specs.of_zpl_names.Scope.{Entry, Scope, kind_in}
use Rattle.meaning_ranks.specs.of_zpl_names.Faults.{repeated}
use Rattle.meaning_ranks.specs.of_zpl_names.Shapes.{declared_shape, variable_kind}
use Rattle.meaning_ranks.specs.of_zpl_names.Declared.{declaring, entry_for, globals_of, region_entry, direction_entry, procedure_entry, with_each, with_decl, with_define, with_region, with_direction, with_variables as with_vars}
use Rattle.meaning_ranks.proofs.of_zpl_names.ListLemmas.{Among, Contains-from_among}
use Rattle.meaning_ranks.proofs.of_zpl_names.FaultlessLemmas.{left-among, right-among}
use Rattle.meaning_ranks.proofs.of_zpl_names.NameLemmas.{kind_in-distinct}
use Rattle.meaning_ranks.specs.of_zpl_meaning.Context.{Setup}
use Rattle.meaning_ranks.specs.of_zpl_meaning.Store.{Thing, Scalar, ArrayAt, Fixed, Names}
use Rattle.meaning_ranks.specs.of_zpl_meaning.Variables.{Frame, home_box, storage_box, zero_array, with_thing, with_scalar_named, with_array_named, with_name, with_names, with_variables, with_values, with_declared, with_declarations, empty_frame}
use Rattle.lowering_fits.specs.Slates.{FitsBox}
use Rattle.lower_numbers.specs.of_zpl_lowering.Where.{Stored, Numbers}
use Rattle.lower_numbers.specs.of_zpl_lowering.Program.{global_numbers, scalars_from, arrays_from}
use Rattle.lowering_fits.specs.Reach.{IsStoredAs, IsKept, named_thing, AreGlobals}
use Rattle.lowering_fits.specs.Declarations.{FitsDeclared, FitGlobals, FitsDecl, FitDecls}
use Rattle.lowering_fits.specs.Storages.{IsHomeIn}
use Rattle.lowering_fits.proofs.KeptLemmas.{Grows, kept_grows}

-- ---- numbers of global variables

scalars_many : (k : ℕ) (values : List ℤ) → length (scalars_from k values) ≡ length values
scalars_many k [] = refl
scalars_many k (value ∷ values) = ap suc (scalars_many (suc k) values)

arrays_front : (k : ℕ) (xs ys : List Array) (place : ℕ) (stored : Stored) →
    slice_get (arrays_from k xs) place ≡ Some stored →
    slice_get (arrays_from k (xs ++ ys)) place ≡ Some stored
arrays_front k [] ys place stored is = let no : ⊥ = cc in absurd no
arrays_front k (x ∷ xs) ys zero stored is = is
arrays_front k (x ∷ xs) ys (suc place) stored is = arrays_front (suc k) xs ys place stored is

arrays_end : (k : ℕ) (xs : List Array) (array : Array) (Holds : Stored → Type 0) →
    ((number : ℕ) → Holds (record { array = number; storage = array.storage })) →
    IsSomeAnd (slice_get (arrays_from k (xs ++ array ∷ [])) (length xs)) Holds
arrays_end k [] array Holds holds = holds k
arrays_end k (x ∷ xs) array Holds holds = arrays_end (suc k) xs array Holds holds

-- ---- names that stand among entries

-- one that an entry declares
record IsEntry (numbers : Numbers) (xs : List Entry) (text : List ℕ) (thing : Thing) : Type 0 where
  entry : Entry
  there : Among xs entry
  named : entry.name.text ≡ text
  kept : IsKept numbers entry.kind thing

abbrev AreEntered : Numbers → List Entry → Names → Type 0
AreEntered numbers xs [] = Unit {0}
AreEntered numbers xs (n ∷ ns) = IsEntry numbers xs n.0 n.1 × AreEntered numbers xs ns

entered_more : (few more : Numbers) → Grows few more → (xs ys : List Entry) (ns : Names) →
    AreEntered few xs ns → AreEntered more (xs ++ ys) ns
entered_more few more grows xs ys [] are = tt
entered_more few more grows xs ys (n ∷ ns) are = (
  record {
    entry = are.0.entry;
    there = left-among xs ys are.0.entry are.0.there;
    named = are.0.named;
    kept = kept_grows few more grows are.0.entry.kind n.1 are.0.kept;
  },
  entered_more few more grows xs ys ns are.1,
)

entered_both : (numbers : Numbers) (xs : List Entry) (ns ms : Names) → AreEntered numbers xs ns →
    AreEntered numbers xs ms → AreEntered numbers xs (ns ++ ms)
entered_both numbers xs [] ms first rest = rest
entered_both numbers xs (n ∷ ns) ms first rest = (first.0, entered_both numbers xs ns ms first.1 rest)

abbrev Entered : List Entry → Frame → Type 0
Entered xs frame = AreEntered (global_numbers frame) xs frame.names

same_grows : (frame : Frame) → Grows (global_numbers frame) (global_numbers frame)
same_grows frame = record { scalars = omega arith; arrays = λ place stored is. is }

-- an entry without a thing
entry_only : (xs : List Entry) (one : Entry) (frame : Frame) → Entered xs frame →
    Entered (xs ++ one ∷ []) frame
entry_only xs one frame are =
    entered_more (global_numbers frame) (global_numbers frame) (same_grows frame) xs (one ∷ [])
    frame.names are

one_more : (xs : List Entry) (name : Name) (one : Kind) (thing : Thing) (few more : Frame) →
    Grows (global_numbers few) (global_numbers more) →
    more.names ≡ few.names ++ (name.text, thing) ∷ [] →
    IsKept (global_numbers more) one thing → Entered xs few →
    Entered (xs ++ entry_for one name ∷ []) more
one_more xs name one thing few more grows is kept are =
    subst (AreEntered (global_numbers more) (xs ++ entry_for one name ∷ [])) (sym is)
    (entered_both (global_numbers more) (xs ++ entry_for one name ∷ []) few.names
    ((name.text, thing) ∷ [])
    (entered_more (global_numbers few) (global_numbers more) grows xs (entry_for one name ∷ [])
    few.names are) (
      record {
        entry = entry_for one name;
        there = right-among xs (entry_for one name ∷ []) (entry_for one name) (inl refl);
        named = refl;
        kept = kept;
      },
      tt,
    ))

scalar_entered : (xs : List Entry) (name : Name) (base : Base) (value : ℤ) (frame : Frame) →
    Entered xs frame →
    Entered (xs ++ entry_for (kind.Scalar base) name ∷ []) (with_scalar_named frame name value)
scalar_entered xs name base value frame are =
    let inner = with_scalar_named frame name value in
    let few = scalars_many 0 frame.store.scalars in
    let more = scalars_many 0 inner.store.scalars in
    let longer = length-append frame.store.scalars (value ∷ []) in
    one_more xs name (kind.Scalar base) (Scalar (length frame.store.scalars)) frame inner
    (record { scalars = omega (arith, few, more, longer); arrays = λ place stored is. is }) refl
    (omega (arith, more, longer)) are

array_entered : (xs : List Entry) (name : Name) (base : Base) (shape : Option Shape)
    (home : Region) (array : Array) (frame : Frame) →
    IsStoredAs shape (record { array = 0; storage = array.storage }) → FitsBox home →
    option_map length shape ≡ Some home.rank → IsHomeIn array.storage home → Entered xs frame →
    Entered (xs ++ entry_for (kind.Array base shape) name ∷ [])
    (with_array_named frame name home array)
array_entered xs name base shape home array frame is box same homed are =
    one_more xs name (kind.Array base shape) (ArrayAt (length frame.store.arrays) home) frame
    (with_array_named frame name home array)
    (record {
      scalars = omega arith;
      arrays = λ place stored is. arrays_front 0 frame.store.arrays (array ∷ []) place stored is;
    }) refl
    (record {
      has = arrays_end 0 frame.store.arrays array (IsStoredAs shape)
          (λ number. record { rank = is.rank; ranges = is.ranges; floods = is.floods });
      box = box;
      same = same;
      homed = arrays_end 0 frame.store.arrays array (λ stored. IsHomeIn stored.storage home)
          (λ number. homed);
    }) are

fixed_entered : (xs : List Entry) (name : Name) (one : Kind) (value : ℤ) (frame : Frame) →
    IsKept (global_numbers frame) one (Fixed value) → Entered xs frame →
    Entered (xs ++ entry_for one name ∷ []) (with_thing frame name (Fixed value))
fixed_entered xs name one value frame is are =
    one_more xs name one (Fixed value) frame (with_thing frame name (Fixed value))
    (same_grows frame) refl is are

-- ---- declarations

module _ (setup : Setup) where
  names_entered : (names : List Name) (shape : Bracket) (base : Base) (scope : Scope)
      (frame : Frame) (xs : List Entry) → FitsDeclared setup scope shape → Entered xs frame →
      Entered (xs ++ map (entry_for (variable_kind scope shape base)) names)
      (with_names setup.known setup.borders shape frame names)
  names_entered [] shape base scope frame xs fits are =
      subst (λ ys. Entered ys frame) (sym (append-nil xs)) are
  names_entered (name ∷ names) NoBracket base scope frame xs fits are =
      let one = entry_for (kind.Scalar base) name ∷ [] in
      let inner = with_name setup.known setup.borders NoBracket frame name in
      subst (λ ys. Entered ys (with_names setup.known setup.borders NoBracket inner names))
      (append_assoc xs one (map (entry_for (kind.Scalar base)) names))
      (names_entered names NoBracket base scope inner (xs ++ one) fits
      (scalar_entered xs name base (pos 0) frame are))
  names_entered (name ∷ names) (Bracketed region) base scope frame xs fits are =
      let shape = declared_shape scope region in
      let one = entry_for (kind.Array base shape) name ∷ [] in
      let inner = with_name setup.known setup.borders (Bracketed region) frame name in
      subst
      (λ ys. Entered ys (with_names setup.known setup.borders (Bracketed region) inner names))
      (append_assoc xs one (map (entry_for (kind.Array base shape)) names))
      (names_entered names (Bracketed region) base scope inner (xs ++ one) fits
      (array_entered xs name base shape (home_box setup.known region)
      (zero_array (storage_box setup.known setup.borders region)) frame fits.0 fits.1 fits.2 fits.4
      are))

  globals_entered : (vars : List VarDef) (frame : Frame) (xs : List Entry) →
      FitGlobals setup xs vars → Entered xs frame →
      Entered (with_each with_vars xs vars) (with_variables setup.known setup.borders frame vars)
  globals_entered [] frame xs fits are = are
  globals_entered (var ∷ vars) frame xs fits are =
      globals_entered vars (with_names setup.known setup.borders var.shape frame var.names)
      (with_vars xs var) fits.1
      (names_entered var.names var.shape var.base (declaring [] xs) frame xs fits.0 are)

  values_entered : (of_base : Base → Kind) →
      ((base : Base) (value : ℤ) (numbers : Numbers) → IsKept numbers (of_base base) (Fixed value)) →
      (defines : List Define) (frame : Frame) (xs : List Entry) → Entered xs frame →
      Entered (with_each (with_define of_base) xs defines) (with_values setup.known frame defines)
  values_entered of_base is [] frame xs are = are
  values_entered of_base is (define ∷ defines) frame xs are =
      values_entered of_base is defines _ (with_define of_base xs define)
      (fixed_entered xs define.name (of_base define.base) _ frame (is define.base _ _) are)

  skipped : {A : Type 0} (adds : List Entry → A → List Entry) (frame : Frame) →
      ((earlier : List Entry) (a : A) → Entered earlier frame → Entered (adds earlier a) frame) →
      (list : List A) (xs : List Entry) → Entered xs frame → Entered (with_each adds xs list) frame
  skipped adds frame skips [] xs are = are
  skipped adds frame skips (a ∷ rest) xs are = skipped adds frame skips rest (adds xs a) (skips xs a are)

  decl_entered : (decl : Decl) (frame : Frame) (xs : List Entry) → FitsDecl setup xs decl →
      Entered xs frame →
      Entered (with_decl xs decl) (with_declared setup.known setup.borders frame decl)
  decl_entered (Config defines) frame xs fits are =
      values_entered kind.Config (λ base value numbers. tt) defines frame xs are
  decl_entered (Constant defines) frame xs fits are =
      values_entered kind.Constant (λ base value numbers. tt) defines frame xs are
  decl_entered (Regions regions) frame xs fits are =
      skipped with_region frame
      (λ earlier region are. entry_only earlier (region_entry earlier region) frame are) regions xs are
  decl_entered (Directions directions) frame xs fits are =
      skipped with_direction frame
      (λ earlier direction are. entry_only earlier (direction_entry direction) frame are) directions
      xs are
  decl_entered (Vars vars) frame xs fits are = globals_entered vars frame xs fits are
  decl_entered (Defined procedure) frame xs fits are =
      entry_only xs (procedure_entry xs procedure) frame are

  decls_entered : (decls : List Decl) (frame : Frame) (xs : List Entry) →
      FitDecls setup xs decls → Entered xs frame →
      Entered (with_each with_decl xs decls)
      (with_declarations setup.known setup.borders frame decls)
  decls_entered [] frame xs fits are = are
  decls_entered (decl ∷ decls) frame xs fits are =
      decls_entered decls (with_declared setup.known setup.borders frame decl) (with_decl xs decl)
      fits.1 (decl_entered decl frame xs fits.0 are)

-- ---- names that are found

found_entry : (numbers : Numbers) (xs : List Entry) (ns : Names) (text : List ℕ) (thing : Thing) →
    AreEntered numbers xs ns → named_thing ns text ≡ Some thing → IsEntry numbers xs text thing
found_entry numbers xs [] text thing are is = let no : ⊥ = cc in absurd no
found_entry numbers xs (n ∷ ns) text thing are is =
    by (bytes_eq n.0 text) (bytes_eq-Decides n.0 text) is (found_entry numbers xs ns text thing are.1)
  where
    some_same : (a b : Thing) → Some a ≡ Some b → a ≡ b
    some_same a b same = cc

    by : (b : Bool) → Decides b (n.0 ≡ text) →
        option_map (λ entry. entry.1)
        (cond b (Some n) (find (λ entry. bytes_eq entry.0 text) ns)) ≡ Some thing →
        (named_thing ns text ≡ Some thing → IsEntry numbers xs text thing) →
        IsEntry numbers xs text thing
    by true same is later = record {
      entry = are.0.entry;
      there = are.0.there;
      named = are.0.named ∙ same.0 refl;
      kept = subst (IsKept numbers are.0.entry.kind) (some_same n.1 thing is) are.0.kept;
    }
    by false same is later = later is

pub globals_fit : (program : Program) →
    repeated [] (map (λ entry. entry.name) (globals_of program)) ≡ [] → (setup : Setup) →
    FitDecls setup [] program.decls →
    (let frame = with_declarations setup.known setup.borders empty_frame program.decls in
    AreGlobals program (global_numbers frame) frame.names)
globals_fit program once setup fits text thing is =
    let frame = with_declarations setup.known setup.borders empty_frame program.decls in
    let found = found_entry (global_numbers frame) (globals_of program) frame.names text thing
    (decls_entered setup program.decls empty_frame [] fits tt) is in (
      found.entry.kind,
      subst (λ t. kind_in (globals_of program) t ≡ Some found.entry.kind) found.named
          (kind_in-distinct (globals_of program) found.entry once
          (Contains-from_among (globals_of program) found.entry found.there)),
      found.kept,
    )
