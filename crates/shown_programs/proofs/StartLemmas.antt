-- The start of a run: global variables, arrays among them, and what is known where the entry procedure
-- begins.
use Rattle.std.proofs.Common.{◌≡◌, ℕ, zero, suc, ◌+◌, ◌≤◌, Bool, true, false, ℤ, pos, List, [], ◌∷◌}
use Rattle.std.proofs.Common.{◌++◌, map, length, Some, refl, sym, ap, ◌∙◌, arith}
use Rattle.std.proofs.Common.{length-append}
use Rattle.std.specs.Prelude.{slice_get}
use Rattle.zpl_nums.specs.Integer.{IsInteger}
use Rattle.zpl_region.specs.declared.regions.Region.{Region}
use Rattle.zpl_arrays.specs.Array.{Array}
use Rattle.zpl_binding.specs.Outcome.{value_or, outcome_of}
use Rattle.zpl_binding.specs.Regions.{Known}
use Rattle.zpl_binding.specs.Storages.{Border}
use Rattle.zpl_tree.specs.Syntax.{Name, Bracket, NoBracket, Bracketed, Define, VarDef, Decl, Vars, Config, Constant, Regions, Directions, Defined}
use Rattle.zpl_meaning.specs.Store.{no_array}
use Rattle.zpl_meaning.specs.Variables.{Frame, empty_frame, zero_array, storage_box, with_name, with_names, with_variables, with_values, with_declarations}
use Rattle.node_form.specs.declared.arrays.ArrayRow.{ArrayRow}
use Rattle.node_form.specs.declared.tables.Tables.{Tables}
use Rattle.node_form.specs.Fits.{storage_of}
use Rattle.flat_form.specs.Whole.{Whole, start_whole, start_places}
use Rattle.grid_meaning.specs.Room.{zeros_at}
use Rattle.zpl_lowering.specs.Where.{Stored}
use Rattle.zpl_lowering.specs.Program as low
use Rattle.zpl_lowering.specs.Tables.{stored_row}
use Rattle.served_places.specs.of_lowering_runs.Seen.{array_in}
use Rattle.served_places.specs.of_lowering_runs.Stands.{Rises, AreKnown, array_numbers, RowsAt, AreStored}
use Rattle.served_places.proofs.of_lowering_runs.EntryLemmas.{AreZero}
use Rattle.served_places.proofs.of_lowering_runs.FrameLemmas.{known_more, known_both}
use Rattle.point_runs.proofs.of_array_runs.StoredLemmas.{index_of_found}
use Rattle.lowered_flat.proofs.of_lowering_fits.ProgramFitLemmas.{AllBoxes}
use Rattle.lowered_flat.proofs.of_lowering_fits.ArrayLemmas.{row_storage, row_three}
use Rattle.shown_programs.proofs.FrameLemmas.{arrays_more}

-- ---- global variables are 0

zero_more : (xs : List ℤ) → AreZero xs → AreZero (xs ++ pos 0 ∷ [])
zero_more [] h = (refl, tt)
zero_more (x ∷ xs) h = (h.0, zero_more xs h.1)

abbrev pub AreBlank : List Array → Type 0
AreBlank [] = Unit {0}
AreBlank (array ∷ arrays) = (array ≡ zero_array array.storage) × AreBlank arrays

blank_more : (xs : List Array) (storage : Region) → AreBlank xs
    → AreBlank (xs ++ zero_array storage ∷ [])
blank_more [] storage h = (refl, tt)
blank_more (x ∷ xs) storage h = (h.0, blank_more xs storage h.1)

pub record IsGlobal (frame : Frame) : Type 0 where
  pub zeros : AreZero frame.store.scalars
  pub blank : AreBlank frame.store.arrays
  pub known : AreKnown (length frame.store.scalars) (length frame.store.arrays) frame.names

module _ (known : Known) (borders : List Border)
    (integers : (text : List ℕ) → IsInteger (value_or (pos 0) (outcome_of (pos 0) known.values text)))
  where
    name_global : (shape : Bracket) (frame : Frame) (name : Name) → IsGlobal frame
        → IsGlobal (with_name known borders shape frame name)
    name_global NoBracket frame name h =
        let longer = length-append frame.store.scalars (pos 0 ∷ []) in
        let arrays = length frame.store.arrays in
        record {
          zeros = zero_more frame.store.scalars h.zeros;
          blank = h.blank;
          known = known_both (length (frame.store.scalars ++ pos 0 ∷ [])) arrays frame.names _
              (known_more (length frame.store.scalars) (length (frame.store.scalars ++ pos 0 ∷ []))
              arrays frame.names (omega (arith, longer)) h.known)
              (omega (arith, longer), tt);
        }
    name_global (Bracketed inner) frame name h =
        let new = zero_array (storage_box known borders inner) in
        let longer = length-append frame.store.arrays (new ∷ []) in
        let scalars = length frame.store.scalars in
        record {
          zeros = h.zeros;
          blank = blank_more frame.store.arrays (storage_box known borders inner) h.blank;
          known = known_both scalars (length (frame.store.arrays ++ new ∷ [])) frame.names _
              (arrays_more scalars (length frame.store.arrays) (length (frame.store.arrays ++ new ∷ []))
              frame.names (omega (arith, longer)) h.known)
              (omega (arith, longer), tt);
        }

    names_global : (shape : Bracket) (names : List Name) (frame : Frame) → IsGlobal frame
        → IsGlobal (with_names known borders shape frame names)
    names_global shape [] frame h = h
    names_global shape (name ∷ names) frame h =
        names_global shape names (with_name known borders shape frame name)
        (name_global shape frame name h)

    variables_global : (vars : List VarDef) (frame : Frame) → IsGlobal frame
        → IsGlobal (with_variables known borders frame vars)
    variables_global [] frame h = h
    variables_global (var ∷ vars) frame h =
        variables_global vars (with_names known borders var.shape frame var.names)
        (names_global var.shape var.names frame h)

    values_global : (defines : List Define) (frame : Frame) → IsGlobal frame
        → IsGlobal (with_values known frame defines)
    values_global [] frame h = h
    values_global (define ∷ defines) frame h =
        values_global defines _
        (record {
          zeros = h.zeros;
          blank = h.blank;
          known = known_both (length frame.store.scalars) (length frame.store.arrays) frame.names _
              h.known
              (integers define.name.text, tt);
        })

    declarations_global : (decls : List Decl) (frame : Frame) → IsGlobal frame
        → IsGlobal (with_declarations known borders frame decls)
    declarations_global [] frame h = h
    declarations_global (Vars vars ∷ decls) frame h =
        declarations_global decls (with_variables known borders frame vars)
        (variables_global vars frame h)
    declarations_global (Config configs ∷ decls) frame h =
        declarations_global decls (with_values known frame configs) (values_global configs frame h)
    declarations_global (Constant constants ∷ decls) frame h =
        declarations_global decls (with_values known frame constants)
        (values_global constants frame h)
    declarations_global (Regions regions ∷ decls) frame h = declarations_global decls frame h
    declarations_global (Directions directions ∷ decls) frame h = declarations_global decls frame h
    declarations_global (Defined procedure ∷ decls) frame h = declarations_global decls frame h

    pub first_global : (decls : List Decl)
        → IsGlobal (with_declarations known borders empty_frame decls)
    first_global decls =
        declarations_global decls empty_frame (record { zeros = tt; blank = tt; known = tt })

-- ---- global arrays have the first numbers

pub arrays_length : (k : ℕ) (arrays : List Array) → length (low.arrays_from k arrays) ≡ length arrays
arrays_length k [] = refl
arrays_length k (array ∷ arrays) = ap suc (arrays_length (suc k) arrays)

pub arrays_rise : (k : ℕ) (arrays : List Array) (to : ℕ) → k + length arrays ≤ to
    → Rises k (array_numbers (low.arrays_from k arrays)) to
arrays_rise k [] to le = omega (arith, le)
arrays_rise k (array ∷ arrays) to le =
    (omega arith, arrays_rise (suc k) arrays to (omega (arith, le)))

pub arrays_stored : (tables : Tables) (k : ℕ) (arrays : List Array) → AllBoxes arrays
    → RowsAt tables.arrays k (map (λ array. array.storage) arrays)
    → AreStored tables (low.arrays_from k arrays)
arrays_stored tables k [] boxes rows = tt
arrays_stored tables k (array ∷ arrays) boxes rows = (
  record {
    row = stored_row k rows.0.0 array.storage;
    found = rows.0.1;
    kept = refl;
    three = row_three k rows.0.0 array.storage boxes.0;
    storage = row_storage k rows.0.0 array.storage boxes.0;
  },
  arrays_stored tables (suc k) arrays boxes.1 rows.1,
)

-- ---- arrays as they are at the start

get_map : {A B : Type 0} (f : A → B) (xs : List A) (k : ℕ) (x : A) → slice_get xs k ≡ Some x
    → slice_get (map f xs) k ≡ Some (f x)
get_map f [] k x e = cc
get_map f (y ∷ xs) zero x e = let same : y ≡ x = cc in ap (λ z. Some (f z)) same
get_map f (y ∷ xs) (suc k) x e = get_map f xs k x e

placed_start : (row : ArrayRow) (b : Bool) → b ≡ true → start_places row b ≡ storage_of row
placed_start row true e = refl
placed_start row false e = cc

pub start_array : (tables : Tables) (k : ℕ) (row : ArrayRow) → slice_get tables.arrays k ≡ Some row
    → row.stored ≡ true
    → slice_get (start_whole tables).stores k ≡ Some (zeros_at (storage_of row))
start_array tables k row e kept =
    get_map (λ (one : ArrayRow). zeros_at (start_places one one.stored)) tables.arrays k row e
    ∙ ap (λ (r : Region). Some (zeros_at r)) (placed_start row row.stored kept)

pub arrays_seen : (tables : Tables) (now : Whole) → now.stores ≡ (start_whole tables).stores
    → (k : ℕ) (arrays : List Array) → AllBoxes arrays → AreBlank arrays
    → RowsAt tables.arrays k (map (λ array. array.storage) arrays)
    → arrays ≡ map (λ (stored : Stored). array_in now stored.array) (low.arrays_from k arrays)
arrays_seen tables now same k [] boxes blank rows = refl
arrays_seen tables now same k (array ∷ arrays) boxes blank rows =
    let row = stored_row k rows.0.0 array.storage in
    let here : array_in now k ≡ zero_array array.storage =
    index_of_found now.stores k (zeros_at (storage_of row)) no_array
    (ap (λ (xs : List Array). slice_get xs k) same ∙ start_array tables k row rows.0.1 refl)
    ∙ ap (λ (r : Region). zeros_at r) (row_storage k rows.0.0 array.storage boxes.0) in
    ap (λ (a : Array). a ∷ arrays) (blank.0 ∙ sym here)
    ∙ ap (λ (xs : List Array). array_in now k ∷ xs)
    (arrays_seen tables now same (suc k) arrays boxes.1 blank.1 rows.1)
