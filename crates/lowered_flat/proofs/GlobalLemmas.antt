-- Global arrays and local ones: offsets tell their home boxes.
use Rattle.std.proofs.Common.{◌≡◌, ℕ, Bool, true, false, cond, inl, refl, sym, ap, ◌∙◌, subst, List, [], ◌∷◌, ◌++◌, map, Decides, append-nil}
use Rattle.std.specs.Prelude.{Contains, Some, option_map, find}
use Rattle.std.specs.List.{flat_map}
use Rattle.std.specs.Str.{bytes_eq}
use Rattle.std.proofs.lemmas.Slice.Eq.{bytes_eq-Decides}
use Rattle.zpl_region.specs.declared.regions.Region.{Region}
use Rattle.zpl_tree.specs.Syntax.{Name, Inner, Bracket, NoBracket, Bracketed, Base, Define, VarDef, Decl, Config, Constant, Regions, Directions, Vars, Defined, Program}
use Rattle.zpl_names.specs.Kinds as kind
use Rattle.zpl_names.specs.Scope.{Entry, Scope}
use Rattle.zpl_names.specs.Shapes.{declared_shape, variable_kind}
use Rattle.zpl_names.specs.Declared.{Routine, declaring, entry_for, globals_of, routines_of, with_decl, with_each, with_variables as with_vars}
use Rattle.zpl_names.specs.Accepted.{IsFaultless}
use Rattle.zpl_names.proofs.ListLemmas.{Among, Contains-from_among}
use Rattle.zpl_names.proofs.FaultlessLemmas.{left-among}
use Rattle.zpl_binding.specs.Settings.{Setting}
use Rattle.zpl_binding.specs.Declarations.{known_of}
use Rattle.zpl_binding.specs.Regions.{Known}
use Rattle.zpl_binding.specs.Storages.{Border, Shaped, arrays_of, borders_of, home_of, home_or, shaped_by, shaped_in, shaped_over, storage_of}
use Rattle.lowering_fits.specs.of_zpl_meaning.Context.{Setup}
use Rattle.lowering_fits.specs.of_zpl_meaning.Given.{IsGiven}
use Rattle.lowering_fits.specs.of_zpl_meaning.Program.{first_frame}
use Rattle.lowering_fits.specs.of_zpl_meaning.Store.{Thing, Scalar, ArrayAt, Fixed, Names}
use Rattle.lowering_fits.specs.of_zpl_meaning.Variables.{Frame, empty_frame, home_box, with_declarations, with_declared, with_name, with_names, with_values, with_variables}
use Rattle.lowering_fits.specs.of_zpl_meaning.Visited.{first_setup}
use Rattle.lowering_fits.specs.Slates.{FitsBox}
use Rattle.lowering_fits.specs.Declarations.{FitsDeclared, FitAllDeclared, FitGlobals, FitsDecl, FitDecls}
use Rattle.lowering_fits.specs.Reach.{named_thing}
use Rattle.lowering_fits.proofs.BracketLemmas.{LimitsAreTold}
use Rattle.lowered_flat.specs.Apart.{NamesStandApart}
use Rattle.lowered_flat.proofs.ListLemmas.{flat_there, map_there, right_there}
use Rattle.lowered_flat.proofs.DeclaredLemmas.{home_kept}
use Rattle.lowered_flat.proofs.DeclarationLemmas.{Front, Listed, adds_decl, adds_each, front_of}
use Rattle.lowered_flat.proofs.HomeLemmas.{IsHomeAt, apart_found}
use Rattle.lowered_flat.proofs.CalledLemmas.{AllHomes, HomesAt, IsGlobalHome}

module _ (program : Program) (settings : List Setting) (clean : IsFaultless program)
    (limits : LimitsAreTold)
    (storages : (array : Shaped) → Contains (arrays_of program) array →
    IsGiven Region (storage_of (known_of program settings) (borders_of program) array.region))
    (homes : (array : Shaped) → Contains (arrays_of program) array →
    IsGiven Region (home_of (known_of program settings) array.region))
    (apart : NamesStandApart program) where
  abbrev known : Known
  known = known_of program settings

  abbrev borders : List Border
  borders = borders_of program

  abbrev setup : Setup
  setup = first_setup program settings

  one_home : (name : Name) (inner : Inner) →
      Among (arrays_of program) (record { name = name; region = inner }) →
      FitsBox (home_box known inner) → IsHomeAt program known name.at (home_box known inner)
  one_home name inner there fits =
      let array : Shaped = record { name = name; region = inner } in
      let kept = home_kept program settings clean limits storages homes inner
      (homes array (Contains-from_among (arrays_of program) array there)) fits in
      (ap (home_or known) (apart_found (arrays_of program) apart array there) ∙ kept.0, kept.1)

  -- ---- local arrays

  homes_at : (text : List ℕ) (names : List Name) (shape : Bracket) (scope : Scope) →
      FitsDeclared setup scope shape → Listed program (shaped_over names shape) →
      HomesAt program known text shape names
  homes_at text names NoBracket scope fits listed = tt
  homes_at text [] (Bracketed inner) scope fits listed = tt
  homes_at text (name ∷ names) (Bracketed inner) scope fits listed = (
    one_home name inner (listed (record { name = name; region = inner }) (inl refl)) fits.1,
    homes_at text names (Bracketed inner) scope fits
        (λ array m. listed array
        (right_there (record { name = name; region = inner } ∷ [])
        (shaped_over names (Bracketed inner)) array m)),
  )

  pub all_homes : (text : List ℕ) (vars : List VarDef) (scope : Scope) →
      FitAllDeclared setup scope vars → Listed program (flat_map shaped_by vars) →
      AllHomes program known text vars
  all_homes text [] scope fits listed = tt
  all_homes text (var ∷ vars) scope fits listed = (
    homes_at text var.names var.shape scope fits.0
        (λ array m. listed array (left-among (shaped_by var) (flat_map shaped_by vars) array m)),
    all_homes text vars scope fits.1
        (λ array m. listed array (right_there (shaped_by var) (flat_map shaped_by vars) array m)),
  )

  pub locals_listed : (routine : Routine) → Among (routines_of program) routine →
      Listed program (flat_map shaped_by routine.procedure.locals)
  locals_listed routine m array n =
      right_there (flat_map shaped_in program.decls)
      (flat_map (λ routine. flat_map shaped_by routine.procedure.locals) (routines_of program))
      array
      (flat_there (λ routine. flat_map shaped_by routine.procedure.locals) (routines_of program)
      routine array m n)

  -- ---- global names

  abbrev FromThing : List ℕ → Thing → Type 0
  FromThing name (ArrayAt place home) = IsGlobalHome program known name home
  FromThing name (Scalar place) = Unit {0}
  FromThing name (Fixed value) = Unit {0}

  abbrev AllFrom : Names → Type 0
  AllFrom [] = Unit {0}
  AllFrom (n ∷ ns) = FromThing n.0 n.1 × AllFrom ns

  from_both : (ns ms : Names) → AllFrom ns → AllFrom ms → AllFrom (ns ++ ms)
  from_both [] ms first rest = rest
  from_both (n ∷ ns) ms first rest = (first.0, from_both ns ms first.1 rest)

  names_from : (names : List Name) (shape : Bracket) (base : Base) (scope : Scope)
      (frame : Frame) → FitsDeclared setup scope shape → Listed program (shaped_over names shape) →
      ((name : Name) → Among names name →
      Among (globals_of program) (entry_for (variable_kind scope shape base) name)) →
      AllFrom frame.names → AllFrom (with_names known borders shape frame names).names
  names_from [] shape base scope frame fits listed entries are = are
  names_from (name ∷ names) NoBracket base scope frame fits listed entries are =
      names_from names NoBracket base scope (with_name known borders NoBracket frame name) fits
      (λ array m. listed array m)
      (λ other m. entries other (right_there (name ∷ []) names other m))
      (from_both frame.names _ are (tt, tt))
  names_from (name ∷ names) (Bracketed inner) base scope frame fits listed entries are =
      let one : Shaped = record { name = name; region = inner } in
      names_from names (Bracketed inner) base scope
      (with_name known borders (Bracketed inner) frame name) fits
      (λ array m. listed array
      (right_there (one ∷ []) (shaped_over names (Bracketed inner)) array m))
      (λ other m. entries other (right_there (name ∷ []) names other m))
      (from_both frame.names _ are (
        record {
          entry = entry_for (kind.Array base (declared_shape scope inner)) name;
          there = entries name (inl refl);
          named = refl;
          array_kind = refl;
          is = one_home name inner (listed one (inl refl)) fits.1;
        },
        tt,
      ))

  vars_from : (vars : List VarDef) (xs : List Entry) (frame : Frame) → FitGlobals setup xs vars →
      Listed program (flat_map shaped_by vars) → Front program (with_each with_vars xs vars) →
      AllFrom frame.names → AllFrom (with_variables known borders frame vars).names
  vars_from [] xs frame fits listed front are = are
  vars_from (var ∷ vars) xs frame fits listed front are =
      let scope = declaring [] xs in
      let one = variable_kind scope var.shape var.base in
      let more = with_vars xs var in
      let here : Front program more =
      front_of program more (with_each with_vars more vars)
      (adds_each with_vars (λ ys var. (_, refl)) vars more) front in
      vars_from vars more (with_names known borders var.shape frame var.names) fits.1
      (λ array m. listed array (right_there (shaped_by var) (flat_map shaped_by vars) array m))
      front
      (names_from var.names var.shape var.base scope frame fits.0
      (λ array m. listed array (left-among (shaped_by var) (flat_map shaped_by vars) array m))
      (λ name m. subst (λ all. Among all (entry_for one name)) (sym here.1)
      (left-among more here.0 (entry_for one name)
      (right_there xs (map (entry_for one) var.names) (entry_for one name)
      (map_there (entry_for one) var.names name m)))) are)

  values_from : (defines : List Define) (frame : Frame) → AllFrom frame.names →
      AllFrom (with_values known frame defines).names
  values_from [] frame are = are
  values_from (define ∷ defines) frame are =
      values_from defines _ (from_both frame.names _ are (tt, tt))

  decl_from : (decl : Decl) (xs : List Entry) (frame : Frame) → FitsDecl setup xs decl →
      Listed program (shaped_in decl) → Front program (with_decl xs decl) → AllFrom frame.names →
      AllFrom (with_declared known borders frame decl).names
  decl_from (Config defines) xs frame fits listed front are = values_from defines frame are
  decl_from (Constant defines) xs frame fits listed front are = values_from defines frame are
  decl_from (Regions regions) xs frame fits listed front are = are
  decl_from (Directions directions) xs frame fits listed front are = are
  decl_from (Vars vars) xs frame fits listed front are =
      vars_from vars xs frame fits listed front are
  decl_from (Defined procedure) xs frame fits listed front are = are

  decls_from : (decls : List Decl) (xs : List Entry) (frame : Frame) → FitDecls setup xs decls →
      Listed program (flat_map shaped_in decls) → Front program (with_each with_decl xs decls) →
      AllFrom frame.names → AllFrom (with_declarations known borders frame decls).names
  decls_from [] xs frame fits listed front are = are
  decls_from (decl ∷ decls) xs frame fits listed front are =
      let more = with_decl xs decl in
      let here : Front program more =
      front_of program more (with_each with_decl more decls)
      (adds_each with_decl adds_decl decls more) front in
      decls_from decls more (with_declared known borders frame decl) fits.1
      (λ array m. listed array (right_there (shaped_in decl) (flat_map shaped_in decls) array m))
      front
      (decl_from decl xs frame fits.0
      (λ array m. listed array (left-among (shaped_in decl) (flat_map shaped_in decls) array m))
      here are)

  some_thing : (one other : Thing) → Some one ≡ Some other → one ≡ other
  some_thing one other e = cc

  from_found : (ns : Names) (name : List ℕ) (place : ℕ) (home : Region) → AllFrom ns →
      named_thing ns name ≡ Some (ArrayAt place home) → IsGlobalHome program known name home
  from_found [] name place home are is = let no : ⊥ = cc in absurd no
  from_found (n ∷ ns) name place home are is =
      by (bytes_eq n.0 name) (bytes_eq-Decides n.0 name) is
      (from_found ns name place home are.1)
    where
      by : (b : Bool) → Decides b (n.0 ≡ name) →
          option_map (λ entry. entry.1)
          (cond b (Some n) (find (λ entry. bytes_eq entry.0 name) ns)) ≡
          Some (ArrayAt place home) →
          (named_thing ns name ≡ Some (ArrayAt place home) →
          IsGlobalHome program known name home) → IsGlobalHome program known name home
      by true same is later =
          subst (λ t. IsGlobalHome program known t home) (same.0 refl)
          (subst (FromThing n.0) (some_thing n.1 (ArrayAt place home) is) are.0)
      by false same is later = later is

  pub global_homes : FitDecls setup [] program.decls → (name : List ℕ) (place : ℕ)
      (home : Region) →
      named_thing (first_frame program known borders).names name ≡ Some (ArrayAt place home) →
      IsGlobalHome program known name home
  global_homes fits name place home is =
      from_found (first_frame program known borders).names name place home
      (decls_from program.decls [] empty_frame fits
      (λ array m. left-among (flat_map shaped_in program.decls)
      (flat_map (λ routine. flat_map shaped_by routine.procedure.locals) (routines_of program))
      array m) ([], sym (append-nil (globals_of program))) tt) is
