-- Global arrays have the storages that are declared of those of the expanded program.
use Rattle.std.proofs.Common.{◌≡◌, ℕ, List, [], ◌∷◌, ◌++◌, map, Some, refl, sym, ap, ap₂, ◌∙◌, subst, append-nil, append_assoc}
use Rattle.std.specs.Prelude.{filter_map}
use Rattle.std.proofs.lemmas.List.{map-append}
use Rattle.std.proofs.lemmas.List.Elements.{filter_map-append}
use Rattle.zpl_region.specs.declared.regions.Region.{Region}
use Rattle.zpl_arrays.specs.Array.{Array}
use Rattle.zpl_tree.specs.Syntax.{Name, Bracket, NoBracket, Bracketed, Base, Define, VarDef, Decl, Config, Constant, Regions, Directions, Vars, Defined, Program}
use Rattle.zpl_names.specs.Kinds as kind
use Rattle.zpl_names.specs.Kinds.{Kind}
use Rattle.zpl_names.specs.Scope.{Entry, Scope}
use Rattle.zpl_names.specs.Shapes.{variable_kind}
use Rattle.zpl_names.specs.Declared.{declaring, entry_for, globals_of, region_entry, direction_entry, procedure_entry, with_each, with_decl, with_define, with_region, with_direction, with_variables as with_vars}
use Rattle.zpl_names.specs.Expansion.{ExpandedArray, array_of_entry}
use Rattle.zpl_binding.specs.Regions.{Known}
use Rattle.zpl_binding.specs.Storages.{Border}
use Rattle.zpl_meaning.specs.Variables.{Frame, with_name, with_names, with_variables, with_values, with_declarations, empty_frame}
use Rattle.stored_boxes.specs.of_array_numbers.Numbering.{IsFixedKind, SoundOver, SoundVars, SoundDecls}
use Rattle.stored_boxes.proofs.of_array_numbers.GlobalLemmas.{array_entry}
use Rattle.stored_boxes.specs.Declared.{IsDeclared, declared_storage}
use Rattle.program_boxes.specs.Own.{storages_of}

module _ (program : Program) (known : Known) (number : ExpandedArray → ℕ) where
  abbrev Sound : ℕ → Region → Region → Type 0
  Sound at home storage = IsDeclared program known at home storage

  -- of the names that are arrays
  abbrev pub entry_storages : List Entry → List Region
  entry_storages entries =
      storages_of program known number (map array_of_entry (filter_map array_entry entries))

  entries_both : (xs ys : List Entry) →
      entry_storages (xs ++ ys) ≡ entry_storages xs ++ entry_storages ys
  entries_both xs ys =
      ap (λ entries. storages_of program known number (map array_of_entry entries))
      (filter_map-append array_entry xs ys)
      ∙ ap (storages_of program known number)
      (map-append array_of_entry (filter_map array_entry xs) (filter_map array_entry ys))
      ∙ map-append (λ (array : ExpandedArray). declared_storage program known array.storage)
      (map array_of_entry (filter_map array_entry xs))
      (map array_of_entry (filter_map array_entry ys))

  none_stored : (one : Entry) → IsFixedKind (Some one.kind) → entry_storages (one ∷ []) ≡ []
  none_stored one fixed = none_at one one.kind refl fixed
    where
      none_at : (one : Entry) (k : Kind) → one.kind ≡ k → IsFixedKind (Some k) →
          entry_storages (one ∷ []) ≡ []
      none_at one (kind.Config base) is fixed = ap (λ k. entry_storages (record one { kind = k } ∷
          [])) is
      none_at one (kind.Constant base) is fixed = ap (λ k. entry_storages (record one { kind = k }
          ∷ [])) is
      none_at one (kind.Region shape) is fixed = ap (λ k. entry_storages (record one { kind = k } ∷
          [])) is
      none_at one (kind.Direction rank) is fixed = ap (λ k. entry_storages (record one { kind = k }
          ∷ [])) is
      none_at one (kind.Scalar base) is fixed = absurd fixed
      none_at one (kind.Array base shape) is fixed = absurd fixed
      none_at one (kind.Procedure signature) is fixed = ap (λ k. entry_storages (record one {
        kind
            = k;
      } ∷ [])) is

  abbrev frame_storages : Frame → List Region
  frame_storages frame = map (λ array. array.storage) frame.store.arrays

  abbrev AreStored : List Entry → Frame → Type 0
  AreStored xs frame = frame_storages frame ≡ entry_storages xs

  alone_stored : (xs : List Entry) (one : Entry) (storages : List Region) →
      IsFixedKind (Some one.kind) → storages ≡ entry_storages xs →
      storages ≡ entry_storages (xs ++ one ∷ [])
  alone_stored xs one storages fixed are =
      are
      ∙ sym (entries_both xs (one ∷ [])
      ∙ ap (λ back. entry_storages xs ++ back) (none_stored one fixed)
      ∙ append-nil (entry_storages xs))

  scalar_stored : (xs : List Entry) (name : Name) (base : Base) (storages : List Region) →
      storages ≡ entry_storages xs →
      storages ≡ entry_storages (xs ++ entry_for (kind.Scalar base) name ∷ [])
  scalar_stored xs name base storages are =
      are
      ∙ sym (entries_both xs (entry_for (kind.Scalar base) name ∷ [])
      ∙ append-nil (entry_storages xs))

  array_stored : (xs : List Entry) (one : Entry) (arrays : List Array) (array : Array) →
      entry_storages (one ∷ []) ≡ array.storage ∷ [] →
      map (λ array. array.storage) arrays ≡ entry_storages xs →
      map (λ (array : Array). array.storage) (arrays ++ array ∷ []) ≡
      entry_storages (xs ++ one ∷ [])
  array_stored xs one arrays array is are =
      map-append (λ (array : Array). array.storage) arrays (array ∷ [])
      ∙ ap₂ (λ front back. front ++ back) are (sym is)
      ∙ sym (entries_both xs (one ∷ []))

  module _ (borders : List Border) where
    names_stored : (names : List Name) (shape : Bracket) (base : Base) (scope : Scope)
        (frame : Frame) (xs : List Entry) → SoundOver Sound known borders shape names →
        AreStored xs frame →
        AreStored (xs ++ map (entry_for (variable_kind scope shape base)) names)
        (with_names known borders shape frame names)
    names_stored [] shape base scope frame xs sound are =
        subst (λ ys. AreStored ys frame) (sym (append-nil xs)) are
    names_stored (name ∷ names) NoBracket base scope frame xs sound are =
        let one = entry_for (kind.Scalar base) name ∷ [] in
        let inner = with_name known borders NoBracket frame name in
        subst (λ ys. AreStored ys (with_names known borders NoBracket inner names))
        (append_assoc xs one (map (entry_for (kind.Scalar base)) names))
        (names_stored names NoBracket base scope inner (xs ++ one) tt
        (scalar_stored xs name base (frame_storages frame) are))
    names_stored (name ∷ names) (Bracketed region) base scope frame xs sound are =
        let one = entry_for (variable_kind scope (Bracketed region) base) name in
        let inner = with_name known borders (Bracketed region) frame name in
        subst
        (λ ys. AreStored ys (with_names known borders (Bracketed region) inner names))
        (append_assoc xs (one ∷ [])
        (map (entry_for (variable_kind scope (Bracketed region) base)) names))
        (names_stored names (Bracketed region) base scope inner (xs ++ one ∷ []) sound.1
        (array_stored xs one frame.store.arrays _
        (ap (λ storage. storage ∷ []) (sym sound.0.1)) are))

    vars_stored : (vars : List VarDef) (frame : Frame) (xs : List Entry) →
        SoundVars Sound known borders vars → AreStored xs frame →
        AreStored (with_each with_vars xs vars) (with_variables known borders frame vars)
    vars_stored [] frame xs sound are = are
    vars_stored (var ∷ vars) frame xs sound are =
        vars_stored vars (with_names known borders var.shape frame var.names)
        (with_vars xs var) sound.1
        (names_stored var.names var.shape var.base (declaring [] xs) frame xs sound.0 are)

    values_stored : (of_base : Base → Kind) →
        ((base : Base) → IsFixedKind (Some (of_base base))) → (defines : List Define)
        (frame : Frame) (xs : List Entry) → AreStored xs frame →
        AreStored (with_each (with_define of_base) xs defines) (with_values known frame defines)
    values_stored of_base is [] frame xs are = are
    values_stored of_base is (define ∷ defines) frame xs are =
        values_stored of_base is defines _ (with_define of_base xs define)
        (alone_stored xs (entry_for (of_base define.base) define.name) (frame_storages frame)
        (is define.base) are)

    skipped : {A : Type 0} (adds : List Entry → A → List Entry) (frame : Frame) →
        ((earlier : List Entry) (a : A) → AreStored earlier frame →
        AreStored (adds earlier a) frame) →
        (list : List A) (xs : List Entry) → AreStored xs frame →
        AreStored (with_each adds xs list) frame
    skipped adds frame skips [] xs are = are
    skipped adds frame skips (a ∷ rest) xs are =
        skipped adds frame skips rest (adds xs a) (skips xs a are)

    decls_stored : (decls : List Decl) (frame : Frame) (xs : List Entry) →
        SoundDecls Sound known borders decls → AreStored xs frame →
        AreStored (with_each with_decl xs decls) (with_declarations known borders frame decls)
    decls_stored [] frame xs sound are = are
    decls_stored (Config defines ∷ decls) frame xs sound are =
        decls_stored decls (with_values known frame defines) (with_decl xs (Config defines)) sound
        (values_stored kind.Config (λ base. tt) defines frame xs are)
    decls_stored (Constant defines ∷ decls) frame xs sound are =
        decls_stored decls (with_values known frame defines) (with_decl xs (Constant defines))
        sound (values_stored kind.Constant (λ base. tt) defines frame xs are)
    decls_stored (Regions regions ∷ decls) frame xs sound are =
        decls_stored decls frame (with_decl xs (Regions regions)) sound
        (skipped with_region frame
        (λ earlier region are. alone_stored earlier (region_entry earlier region)
        (frame_storages frame) tt are) regions xs are)
    decls_stored (Directions directions ∷ decls) frame xs sound are =
        decls_stored decls frame (with_decl xs (Directions directions)) sound
        (skipped with_direction frame
        (λ earlier direction are. alone_stored earlier (direction_entry direction)
        (frame_storages frame) tt are) directions xs are)
    decls_stored (Vars vars ∷ decls) frame xs sound are =
        decls_stored decls (with_variables known borders frame vars)
        (with_decl xs (Vars vars)) sound.1 (vars_stored vars frame xs sound.0 are)
    decls_stored (Defined procedure ∷ decls) frame xs sound are =
        decls_stored decls frame (with_decl xs (Defined procedure)) sound
        (alone_stored xs (procedure_entry xs procedure) (frame_storages frame) tt are)

    pub globals_stored : SoundDecls Sound known borders program.decls →
        map (λ array. array.storage)
        (with_declarations known borders empty_frame program.decls).store.arrays ≡
        entry_storages (globals_of program)
    globals_stored sound = decls_stored program.decls empty_frame [] sound refl
