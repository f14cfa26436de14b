-- How many arrays lowered tables store.
use Rattle.std.proofs.Common.{◌≡◌, refl, sym, ap, ◌∙◌, ℕ, suc, ◌+◌, Bool, List, [], ◌∷◌, ◌++◌, map, length, arith, append-nil, length-append}
use Rattle.std.proofs.lemmas.List.{length-map}
use Rattle.std.proofs.lemmas.List.Elements.{filter-append}
use Rattle.zpl_region.specs.declared.regions.Region.{Region}
use Rattle.zpl_tree.specs.Syntax.{Program}
use Rattle.zpl_names.specs.Expansion.{expanded_arrays, expanded_copies}
use Rattle.zpl_binding.specs.Declarations.{known_of}
use Rattle.zpl_binding.specs.Settings.{Setting}
use Rattle.grid_layout.specs.declared.boxes.ArrayBox.{ArrayBox}
use Rattle.grid_meaning.specs.Stored as layout
use Rattle.grid_meaning.specs.Stored.{arrangement_of, stored}
use Rattle.node_form.specs.declared.arrays.ArrayRow.{ArrayRow}
use Rattle.zpl_lowering.specs.Hoist.{Shifted}
use Rattle.zpl_lowering.specs.Lowered.{Lowered}
use Rattle.zpl_lowering.specs.Program.{first_next, lowered_program}
use Rattle.zpl_lowering.specs.Tables.{empty_tables, flat_tables, rows_of, stored_row, stored_rows, temp_row}
use Rattle.lowered_flat.specs.of_lowering_fits.Whole.{IsNumbered}
use Rattle.lowered_flat.proofs.of_lowering_fits.ReadLemmas.{arrays_are}
use Rattle.zpl_claims.specs.Boxes.{box_of, boxes_of, copy_box}

-- rows of storages are stored, and those of temporaries aren't
all_stored : (k : ℕ) (shifts : List Shifted) (storages : List Region) →
    stored (stored_rows k shifts storages) ≡ stored_rows k shifts storages
all_stored k shifts [] = refl
all_stored k shifts (storage ∷ storages) =
    ap (λ rows. stored_row k shifts storage ∷ rows) (all_stored (suc k) shifts storages)

none_stored : (temps : List (List Bool)) → stored (map temp_row temps) ≡ []
none_stored [] = refl
none_stored (flood ∷ temps) = none_stored temps

pub stored_are : (k : ℕ) (shifts : List Shifted) (storages : List Region)
    (temps : List (List Bool)) →
    stored (stored_rows k shifts storages ++ map temp_row temps) ≡ stored_rows k shifts storages
stored_are k shifts storages temps =
    filter-append (λ (row : ArrayRow). row.stored) (stored_rows k shifts storages)
    (map temp_row temps)
    ∙ ap (λ rows. stored (stored_rows k shifts storages) ++ rows) (none_stored temps)
    ∙ append-nil (stored (stored_rows k shifts storages))
    ∙ all_stored k shifts storages

rows_many : (k : ℕ) (shifts : List Shifted) (storages : List Region) →
    length (stored_rows k shifts storages) ≡ length storages
rows_many k shifts [] = refl
rows_many k shifts (storage ∷ storages) = ap suc (rows_many (suc k) shifts storages)

-- the storages that code has
abbrev storages_of : Lowered → List Region
storages_of lowered = lowered.arrays ++ (lowered.copies ++ lowered.later)

module _ (program : Program) (settings : List Setting) where
  abbrev all : Lowered
  all = lowered_program program settings

  pub boxes_are : (arrangement_of (flat_tables program settings)).boxes ≡
      map layout.box_of (stored_rows 0 all.shifts (storages_of all))
  boxes_are =
      ap (λ rows. map layout.box_of (stored rows))
      (arrays_are (empty_tables (1 ∷ 0 ∷ 0 ∷ []) all) (rows_of all))
      ∙ ap (map layout.box_of) (stored_are 0 all.shifts (storages_of all) all.temps)

  pub many : IsNumbered (first_next program) all →
      length (arrangement_of (flat_tables program settings)).boxes ≡
      length (boxes_of program (known_of program settings))
  many is =
      let known = known_of program settings in
      let rows = stored_rows 0 all.shifts (storages_of all) in
      let arrays = expanded_arrays program in
      let copies = expanded_copies program in
      omega (
        arith,
        ap length boxes_are,
        length-map rows layout.box_of,
        rows_many 0 all.shifts (storages_of all),
        length-append all.arrays (all.copies ++ all.later),
        length-append all.copies all.later,
        ap length is.no_copies,
        is.later,
        is.temps,
        length-append (map (box_of program known) arrays) (map (copy_box program known) copies),
        length-map arrays (box_of program known),
        length-map copies (copy_box program known),
      )

  none_long : (boxes : List ArrayBox) → length boxes ≡ 0 → boxes ≡ []
  none_long [] is = refl
  none_long (one ∷ boxes) is = let no : ⊥ = cc in absurd no

  pub none : IsNumbered (first_next program) all →
      boxes_of program (known_of program settings) ≡ [] →
      (arrangement_of (flat_tables program settings)).boxes ≡
      boxes_of program (known_of program settings)
  none is empty = none_long _ (many is ∙ ap length empty) ∙ sym empty
