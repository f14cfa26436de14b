-- What a name of an array stands for has the home box and the storage of its declaration.
use Rattle.std.proofs.Common.{◌≡◌, refl, sym, ap, subst, ℕ, inl, inr, List, [], ◌∷◌, ◌++◌, Some}
use Rattle.std.specs.Prelude.{slice_get}
use Rattle.std.specs.List.{flat_map}
use Rattle.zpl_region.specs.declared.regions.Region.{Region}
use Rattle.zpl_tree.specs.Grammar.{IsProgram}
use Rattle.zpl_tree.specs.Syntax.{Name, Inner, Bracket, NoBracket, Bracketed, VarDef, Decl, Config, Constant, Regions, Directions, Vars, Defined, Program}
use Rattle.zpl_names.specs.Accepted.{IsFaultless}
use Rattle.zpl_names.specs.Declared.{Routine, routines_of}
use Rattle.zpl_names.specs.Expansion.{Instance, array_named}
use Rattle.zpl_names.proofs.ListLemmas.{Among}
use Rattle.zpl_names.proofs.FaultlessLemmas.{left-among, right-among}
use Rattle.zpl_binding.specs.Outcome.{value_or}
use Rattle.zpl_binding.specs.Regions.{Known, no_region}
use Rattle.zpl_binding.specs.Storages.{Shaped, arrays_of, borders_of, home_or, shaped_by, shaped_in, shaped_over, storage_or}
use Rattle.zpl_meaning.specs.Program.{first_frame, setup_of}
use Rattle.zpl_meaning.specs.Store.{ArrayAt, thing_of}
use Rattle.zpl_meaning.specs.Variables.{home_box, storage_box}
use Rattle.zpl_lowering.specs.Where.{Stored}
use Rattle.zpl_lowering.specs.Program.{Framed}
use Rattle.lowered_flat.specs.Apart.{NamesStandApart}
use Rattle.lowered_flat.proofs.HomeLemmas.{apart_found}
use Rattle.array_numbers.specs.Calls.{IsCallOf}
use Rattle.array_numbers.specs.Numbering.{SoundNames, SoundOver, SoundVars, SoundDecls}
use Rattle.array_numbers.proofs.NumberLemmas.{sound_named}
use Rattle.stored_boxes.specs.Declared.{IsDeclared, IsStoredAs}

flat_there : {X Y : Type 0} (f : X → List Y) (xs : List X) (x : X) → Among xs x → (y : Y) →
    Among (f x) y → Among (flat_map f xs) y
flat_there f [] x there y m = absurd there
flat_there {X} {Y} f (first ∷ rest) x (inl is) y m =
    left-among (f first) (flat_map f rest) y (by is m)
  where
    by : first ≡ x → Among (f x) y → Among (f first) y
    by is m = subst (λ (one : X). Among (f one) y) (sym is) m
flat_there f (first ∷ rest) x (inr there) y m =
    right-among (f first) (flat_map f rest) y (flat_there f rest x there y m)

module _ (program : Program) (known : Known) (apart : NamesStandApart program) where
  abbrev Sound : ℕ → Region → Region → Type 0
  Sound at home storage = IsDeclared program known at home storage

  told : (array : Shaped) → Among (arrays_of program) array →
      Sound array.name.at (home_box known array.region)
      (storage_box known (borders_of program) array.region)
  told array there =
      let found = sym (apart_found (arrays_of program) apart array there) in (
        ap (λ found. value_or no_region (home_or known found)) found,
        ap (λ found. value_or no_region (storage_or program known found)) found,
      )

  abbrev AreThere : List Shaped → Type 0
  AreThere arrays = (array : Shaped) → Among arrays array → Among (arrays_of program) array

  names_sound : (inner : Inner) (names : List Name) →
      AreThere (shaped_over names (Bracketed inner)) →
      SoundNames Sound known (borders_of program) inner names
  names_sound inner [] there = tt
  names_sound inner (name ∷ names) there = (
    told (record { name = name; region = inner })
        (there (record { name = name; region = inner }) (inl refl)),
    names_sound inner names (λ array m. there array (inr m)),
  )

  over_sound : (shape : Bracket) (names : List Name) → AreThere (shaped_over names shape) →
      SoundOver Sound known (borders_of program) shape names
  over_sound NoBracket names there = tt
  over_sound (Bracketed inner) names there = names_sound inner names there

  vars_sound : (vars : List VarDef) → AreThere (flat_map shaped_by vars) →
      SoundVars Sound known (borders_of program) vars
  vars_sound [] there = tt
  vars_sound (var ∷ vars) there = (
    over_sound var.shape var.names
        (λ array m. there array (left-among (shaped_by var) (flat_map shaped_by vars) array m)),
    vars_sound vars
        (λ array m. there array (right-among (shaped_by var) (flat_map shaped_by vars) array m)),
  )

  decls_sound : (decls : List Decl) → AreThere (flat_map shaped_in decls) →
      SoundDecls Sound known (borders_of program) decls
  decls_sound [] there = tt
  decls_sound (Config defines ∷ decls) there = decls_sound decls there
  decls_sound (Constant defines ∷ decls) there = decls_sound decls there
  decls_sound (Regions regions ∷ decls) there = decls_sound decls there
  decls_sound (Directions directions ∷ decls) there = decls_sound decls there
  decls_sound (Vars vars ∷ decls) there = (
    vars_sound vars
        (λ array m. there array
        (left-among (shaped_in (Vars vars)) (flat_map shaped_in decls) array m)),
    decls_sound decls
        (λ array m. there array
        (right-among (shaped_in (Vars vars)) (flat_map shaped_in decls) array m)),
  )
  decls_sound (Defined procedure ∷ decls) there = decls_sound decls there

  abbrev locals_of : Routine → List Shaped
  locals_of routine = flat_map shaped_by routine.procedure.locals

  pub all_decls : SoundDecls Sound known (borders_of program) program.decls
  all_decls =
      decls_sound program.decls
      (λ array m. left-among (flat_map shaped_in program.decls)
      (flat_map locals_of (routines_of program)) array m)

  pub all_vars : (routine : Routine) → Among (routines_of program) routine →
      SoundVars Sound known (borders_of program) routine.procedure.locals
  all_vars routine member =
      vars_sound routine.procedure.locals
      (λ array m. right-among (flat_map shaped_in program.decls)
      (flat_map locals_of (routines_of program)) array
      (flat_there locals_of (routines_of program) routine member array m))

pub stored_as : (program : Program) (known : Known) → IsProgram program → IsFaultless program →
    NamesStandApart program → (instance : Instance) (framed : Framed) (arrays : ℕ) →
    IsCallOf program known (borders_of program) instance framed arrays →
    (name : Name) (place : ℕ) (home : Region) (stored : Stored) →
    (let globals = (first_frame program known (borders_of program)).names in
    thing_of (record { names = framed.names ++ globals }) name.text ≡ Some (ArrayAt place home)) →
    slice_get framed.numbers.arrays place ≡ Some stored →
    IsStoredAs program known (array_named program instance name) home stored.storage
stored_as program known grammar clean apart instance framed arrays is name place home stored thing
    has =
    sound_named (λ at home storage. IsDeclared program known at home storage)
    (setup_of program known (borders_of program) (first_frame program known (borders_of program)))
    grammar clean refl (all_decls program known apart) (all_vars program known apart) instance framed
    arrays is name place home stored thing has
