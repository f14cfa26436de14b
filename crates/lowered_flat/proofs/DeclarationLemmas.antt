-- All that a program declares is as the text says.
use Rattle.std.proofs.Common.{◌≡◌, inl, inr, List, [], ◌∷◌, ◌++◌, map, refl, sym, ap, ◌∙◌, subst, append_assoc, append-nil}
use Rattle.std.specs.Prelude.{Contains, Some, option_to_list}
use Rattle.std.specs.List.{AllByRecursion, flat_map}
use Rattle.std.proofs.lemmas.List.Elements.{recursion_from_All}
use Rattle.zpl_region.specs.declared.regions.Region.{Region}
use Rattle.zpl_tree.specs.Grammar.{HasAny, IsDecl, IsProgram, IsVar}
use Rattle.zpl_tree.specs.Syntax.{Name, Bracket, NoBracket, Bracketed, Base, VarDef, Param, Decl, Config, Constant, Regions, Directions, Vars, Defined, Program}
use Rattle.zpl_names.specs.Kinds as kind
use Rattle.zpl_names.specs.Kinds.{Kind}
use Rattle.zpl_names.specs.Scope.{Entry, Scope}
use Rattle.zpl_names.specs.Ranks.{HasRank, IsKnownKind, array_shape}
use Rattle.zpl_names.specs.Shapes.{declared_shape, unknown_shapes, variable_kind}
use Rattle.zpl_names.specs.Declared.{Routine, declaring, entry_for, globals_of, head_scope, own_entries, own_names, routine_of, routines_behind, routines_of, with_decl, with_define, with_direction, with_each, with_procedure, with_region, with_variables}
use Rattle.zpl_names.specs.Sites.{Site, AtBase, AtProcedure, decl_sites, each_sites, head_sites, in_declaration, param_sites, region_sites, routine_sites, shape_sites, text_sites, variable_sites}
use Rattle.zpl_names.specs.Accepted.{IsFaultless}
use Rattle.zpl_names.proofs.ListLemmas.{Among, among_from_Contains, Contains-from_among}
use Rattle.zpl_names.proofs.FaultlessLemmas.{clean_text, left-among}
use Rattle.zpl_binding.specs.Settings.{Setting}
use Rattle.zpl_binding.specs.Declarations.{known_of}
use Rattle.zpl_binding.specs.Storages.{Shaped, arrays_of, borders_of, home_of, shaped_by, shaped_in, shaped_over, storage_of}
use Rattle.lowering_fits.specs.of_zpl_meaning.Context.{Setup}
use Rattle.lowering_fits.specs.of_zpl_meaning.Given.{IsGiven}
use Rattle.lowering_fits.specs.of_zpl_meaning.Variables.{home_box, storage_box}
use Rattle.lowering_fits.specs.of_zpl_meaning.Visited.{first_setup}
use Rattle.lowering_fits.proofs.of_zpl_meaning.NamesLemmas.{IsGood, IsSound, globals_shaped, routine_sound}
use Rattle.lowering_fits.proofs.of_zpl_meaning.VisitLemmas.{Laws, all_good, find_among}
use Rattle.lowering_fits.specs.Declarations.{FitsDeclared, FitAllDeclared, FitGlobals, FitsDecl, FitDecls, FitsProgram}
use Rattle.lowering_fits.proofs.BracketLemmas.{LimitsAreTold}
use Rattle.lowering_fits.proofs.MadeWholeLemmas.{entry_is_there}
use Rattle.lowered_flat.proofs.CalledLemmas.{param_entries, var_entries}
use Rattle.lowered_flat.proofs.ListLemmas.{all_there, flat_there, right_there}
use Rattle.lowered_flat.proofs.ShapeLemmas.{Clean, Knows, both_know, clean_left, clean_right, front_knows, known_name, own_knows}
use Rattle.lowered_flat.proofs.DeclaredLemmas.{AreParts, declared_fits}

-- ---- entries that are added

abbrev pub AddsTo : List Entry → List Entry → Type 0
AddsTo xs ys = (more : List Entry) × (ys ≡ xs ++ more)

pub adds_each : {A : Type 0} (adds : List Entry → A → List Entry) →
    ((xs : List Entry) (a : A) → AddsTo xs (adds xs a)) → (list : List A) (xs : List Entry) →
    AddsTo xs (with_each adds xs list)
adds_each adds one [] xs = ([], sym (append-nil xs))
adds_each adds one (a ∷ rest) xs =
    let first = one xs a in
    let later = adds_each adds one rest (adds xs a) in (
      first.0 ++ later.0,
      later.1 ∙ (ap (λ zs. zs ++ later.0) first.1 ∙ append_assoc xs first.0 later.0),
    )

pub adds_decl : (xs : List Entry) (decl : Decl) → AddsTo xs (with_decl xs decl)
adds_decl xs (Config defines) =
    adds_each (with_define kind.Config) (λ ys define. (_, refl)) defines xs
adds_decl xs (Constant defines) =
    adds_each (with_define kind.Constant) (λ ys define. (_, refl)) defines xs
adds_decl xs (Regions regions) = adds_each with_region (λ ys region. (_, refl)) regions xs
adds_decl xs (Directions directions) =
    adds_each with_direction (λ ys direction. (_, refl)) directions xs
adds_decl xs (Vars vars) = adds_each with_variables (λ ys var. (_, refl)) vars xs
adds_decl xs (Defined procedure) = (_, refl)

-- they are the first entries
abbrev pub Front : Program → List Entry → Type 0
Front program xs = (more : List Entry) × (globals_of program ≡ xs ++ more)

pub front_of : (program : Program) (xs ys : List Entry) → AddsTo xs ys → Front program ys →
    Front program xs
front_of program xs ys one other = (
  one.0 ++ other.0,
  other.1 ∙ (ap (λ zs. zs ++ other.0) one.1 ∙ append_assoc xs one.0 other.0),
)

-- they are arrays of the program
abbrev pub Listed : Program → List Shaped → Type 0
Listed program arrays =
    (array : Shaped) → Among arrays array → Among (arrays_of program) array

-- ---- entries of one list of variables, in two scopes

head_same : (x y : Entry) (xs ys : List Entry) → x ∷ xs ≡ y ∷ ys → x ≡ y
head_same x y xs ys e = cc

tail_same : (x y : Entry) (xs ys : List Entry) → x ∷ xs ≡ y ∷ ys → xs ≡ ys
tail_same x y xs ys e = cc

names_cancel : (one other : Kind) (names : List Name) (xs ys : List Entry) →
    map (entry_for one) names ++ xs ≡ map (entry_for other) names ++ ys → xs ≡ ys
names_cancel one other [] xs ys e = e
names_cancel one other (name ∷ names) xs ys e =
    names_cancel one other names xs ys
    (tail_same (entry_for one name) (entry_for other name) (map (entry_for one) names ++ xs)
    (map (entry_for other) names ++ ys) e)

params_cancel : (scope other : Scope) (params : List Param) (xs ys : List Entry) →
    flat_map (param_entries scope) params ++ xs ≡ flat_map (param_entries other) params ++ ys →
    xs ≡ ys
params_cancel scope other [] xs ys e = e
params_cancel scope other (param ∷ params) xs ys e =
    let here = flat_map (param_entries scope) params in
    let there = flat_map (param_entries other) params in
    params_cancel scope other params xs ys
    (names_cancel (variable_kind scope param.shape param.base)
    (variable_kind other param.shape param.base) param.names (here ++ xs) (there ++ ys)
    (sym (append_assoc (param_entries scope param) here xs)
    ∙ (e ∙ append_assoc (param_entries other param) there ys)))

var_same : (setup : Setup) (scope other : Scope) (names : List Name) (shape : Bracket)
    (base : Base) (xs ys : List Entry) → HasAny names →
    map (entry_for (variable_kind scope shape base)) names ++ xs ≡
    map (entry_for (variable_kind other shape base)) names ++ ys →
    FitsDeclared setup scope shape → FitsDeclared setup other shape
var_same setup scope other [] shape base xs ys any e fits = absurd any
var_same setup scope other (name ∷ names) NoBracket base xs ys any e fits = tt
var_same setup scope other (name ∷ names) (Bracketed inner) base xs ys any e fits =
    let one = kind.Array base (declared_shape scope inner) in
    let two = kind.Array base (declared_shape other inner) in
    let same : declared_shape scope inner ≡ declared_shape other inner =
    ap (λ (entry : Entry). array_shape (Some entry.kind))
    (head_same (entry_for one name) (entry_for two name) (map (entry_for one) names ++ xs)
    (map (entry_for two) names ++ ys) e) in
    subst (λ s. AreParts s (home_box setup.known inner)
    (storage_box setup.known setup.borders inner)) same fits

vars_same : (setup : Setup) (scope other : Scope) (vars : List VarDef) →
    AllByRecursion IsVar vars →
    flat_map (var_entries scope) vars ≡ flat_map (var_entries other) vars →
    FitAllDeclared setup scope vars → FitAllDeclared setup other vars
vars_same setup scope other [] are e fits = tt
vars_same setup scope other (var ∷ vars) are e fits =
    let here = flat_map (var_entries scope) vars in
    let there = flat_map (var_entries other) vars in (
      var_same setup scope other var.names var.shape var.base here there are.0.0 e fits.0,
      vars_same setup scope other vars are.1
          (names_cancel (variable_kind scope var.shape var.base)
          (variable_kind other var.shape var.base) var.names here there e) fits.1,
    )

-- ---- the program

module _ (program : Program) (settings : List Setting) (laws : Laws program)
    (grammar : IsProgram program) (clean : IsFaultless program) (limits : LimitsAreTold)
    (storages : (array : Shaped) → Contains (arrays_of program) array →
    IsGiven Region (storage_of (known_of program settings) (borders_of program) array.region))
    (homes : (array : Shaped) → Contains (arrays_of program) array →
    IsGiven Region (home_of (known_of program settings) array.region)) where
  abbrev setup : Setup
  setup = first_setup program settings

  abbrev last : Scope
  last = declaring [] (globals_of program)

  abbrev Good : List Entry → Type 0
  Good entries = (entry : Entry) → Among entries entry → IsGood entry.kind

  good_globals : Good (globals_of program)
  good_globals =
      let entry = entry_is_there program clean in
      let member = Contains-from_among (routines_of program) entry.0
      (find_among _ (routines_of program) entry.0 entry.1) in
      all_there (λ entry. IsGood entry.kind) (globals_of program)
      (all_good (globals_of program)
      (recursion_from_All (λ entry. IsKnownKind entry.kind) (globals_of program)
      (laws.names entry.0 member).globals)
      (recursion_from_All (λ entry. HasRank entry.kind) (globals_of program)
      (laws.ranked entry.0 member).globals)
      (globals_shaped program.decls [] tt grammar))

  var_fits : (scope : Scope) (names : List Name) (shape : Bracket) (base : Base) → HasAny names →
      Listed program (shaped_over names shape) →
      Good (map (entry_for (variable_kind scope shape base)) names) → Knows scope last →
      Clean (shape_sites scope shape ++ AtBase base ∷ []) → FitsDeclared setup scope shape
  var_fits scope [] shape base any listed good knows sites = absurd any
  var_fits scope (name ∷ names) NoBracket base any listed good knows sites = tt
  var_fits scope (name ∷ names) (Bracketed inner) base any listed good knows sites =
      declared_fits program settings clean limits storages homes scope inner name
      (Contains-from_among (arrays_of program) (record { name = name; region = inner })
      (listed (record { name = name; region = inner }) (inl refl)))
      (good (entry_for (kind.Array base (declared_shape scope inner)) name) (inl refl))
      (known_name scope last knows inner
      (clean_left (region_sites (in_declaration scope) (Some 0) inner) (AtBase base ∷ []) sites))

  -- ---- global variables

  abbrev vars_sites : List Entry → List VarDef → List Site
  vars_sites xs vars =
      each_sites with_variables (λ earlier var. variable_sites (declaring [] earlier) var) xs vars

  vars_fit : (vars : List VarDef) (xs : List Entry) → AllByRecursion IsVar vars →
      Listed program (flat_map shaped_by vars) → Front program (with_each with_variables xs vars) →
      Clean (vars_sites xs vars) → FitGlobals setup xs vars
  vars_fit [] xs are listed front sites = tt
  vars_fit (var ∷ vars) xs are listed front sites =
      let scope = declaring [] xs in
      let entries = var_entries scope var in
      let more = with_variables xs var in
      let here : Front program more =
      front_of program more (with_each with_variables more vars)
      (adds_each with_variables (λ ys var. (_, refl)) vars more) front in
      let before : Front program xs = front_of program xs more (entries, refl) here in (
        var_fits scope var.names var.shape var.base are.0.0
            (λ array m. listed array
            (left-among (shaped_by var) (flat_map shaped_by vars) array m))
            (λ entry m. good_globals entry
            (subst (λ all. Among all entry) (sym here.1)
            (left-among more here.0 entry (right_there xs entries entry m))))
            (front_knows xs before.0 (globals_of program) before.1)
            (clean_left (variable_sites scope var) (vars_sites more vars) sites),
        vars_fit vars more are.1
            (λ array m. listed array
            (right_there (shaped_by var) (flat_map shaped_by vars) array m)) front
            (clean_right (variable_sites scope var) (vars_sites more vars) sites),
      )

  abbrev decls_sites : List Entry → List Decl → List Site
  decls_sites xs decls = each_sites with_decl (decl_sites program) xs decls

  decl_fits : (decl : Decl) (xs : List Entry) → IsDecl decl → Listed program (shaped_in decl) →
      Front program (with_decl xs decl) → Clean (decl_sites program xs decl) → FitsDecl setup xs decl
  decl_fits (Config defines) xs is listed front sites = tt
  decl_fits (Constant defines) xs is listed front sites = tt
  decl_fits (Regions regions) xs is listed front sites = tt
  decl_fits (Directions directions) xs is listed front sites = tt
  decl_fits (Vars vars) xs is listed front sites = vars_fit vars xs is.1 listed front sites
  decl_fits (Defined procedure) xs is listed front sites = tt

  decls_fit : (decls : List Decl) (xs : List Entry) → AllByRecursion IsDecl decls →
      Listed program (flat_map shaped_in decls) → Front program (with_each with_decl xs decls) →
      Clean (decls_sites xs decls) → FitDecls setup xs decls
  decls_fit [] xs are listed front sites = tt
  decls_fit (decl ∷ decls) xs are listed front sites =
      let more = with_decl xs decl in
      let here : Front program more =
      front_of program more (with_each with_decl more decls) (adds_each with_decl adds_decl decls more)
      front in (
        decl_fits decl xs are.0
            (λ array m. listed array
            (left-among (shaped_in decl) (flat_map shaped_in decls) array m)) here
            (clean_left (decl_sites program xs decl) (decls_sites more decls) sites),
        decls_fit decls more are.1
            (λ array m. listed array
            (right_there (shaped_in decl) (flat_map shaped_in decls) array m)) front
            (clean_right (decl_sites program xs decl) (decls_sites more decls) sites),
      )

  -- ---- local variables

  -- where a procedure stands
  record IsHeaded (routine : Routine) : Type 0 where
    earlier : List Entry
    own : routine.own ≡ own_entries earlier routine.procedure
    front : Front program earlier
    sites : Clean (head_sites earlier routine.procedure)

  headed : (decls : List Decl) (xs : List Entry) (routine : Routine) →
      Among (routines_behind xs decls) routine → Front program (with_each with_decl xs decls) →
      Clean (decls_sites xs decls) → IsHeaded routine
  headed [] xs routine m front sites = absurd m
  headed (Defined procedure ∷ decls) xs routine (inl e) front sites =
      subst IsHeaded e (record {
        earlier = xs;
        own = refl;
        front = front_of program xs (with_each with_decl xs (Defined procedure ∷ decls))
            (adds_each with_decl adds_decl (Defined procedure ∷ decls) xs) front;
        sites = clean_left (head_sites xs procedure)
            (routine_sites program unknown_shapes (routine_of xs procedure))
            (clean_left (decl_sites program xs (Defined procedure))
            (decls_sites (with_procedure xs procedure) decls) sites);
      })
  headed (Defined procedure ∷ decls) xs routine (inr m) front sites =
      headed decls (with_procedure xs procedure) routine m front
      (clean_right (decl_sites program xs (Defined procedure))
      (decls_sites (with_procedure xs procedure) decls) sites)
  headed (Config defines ∷ decls) xs routine m front sites =
      headed decls (with_decl xs (Config defines)) routine m front
      (clean_right (decl_sites program xs (Config defines))
      (decls_sites (with_decl xs (Config defines)) decls) sites)
  headed (Constant defines ∷ decls) xs routine m front sites =
      headed decls (with_decl xs (Constant defines)) routine m front
      (clean_right (decl_sites program xs (Constant defines))
      (decls_sites (with_decl xs (Constant defines)) decls) sites)
  headed (Regions regions ∷ decls) xs routine m front sites =
      headed decls (with_decl xs (Regions regions)) routine m front
      (clean_right (decl_sites program xs (Regions regions))
      (decls_sites (with_decl xs (Regions regions)) decls) sites)
  headed (Directions directions ∷ decls) xs routine m front sites =
      headed decls (with_decl xs (Directions directions)) routine m front
      (clean_right (decl_sites program xs (Directions directions))
      (decls_sites (with_decl xs (Directions directions)) decls) sites)
  headed (Vars vars ∷ decls) xs routine m front sites =
      headed decls (with_decl xs (Vars vars)) routine m front
      (clean_right (decl_sites program xs (Vars vars))
      (decls_sites (with_decl xs (Vars vars)) decls) sites)

  locals_fit : (scope : Scope) (vars : List VarDef) → AllByRecursion IsVar vars →
      Listed program (flat_map shaped_by vars) → Good (flat_map (var_entries scope) vars) →
      Knows scope last → Clean (flat_map (variable_sites scope) vars) →
      FitAllDeclared setup scope vars
  locals_fit scope [] are listed good knows sites = tt
  locals_fit scope (var ∷ vars) are listed good knows sites = (
    var_fits scope var.names var.shape var.base are.0.0
        (λ array m. listed array (left-among (shaped_by var) (flat_map shaped_by vars) array m))
        (λ entry m. good entry
        (left-among (var_entries scope var) (flat_map (var_entries scope) vars) entry m)) knows
        (clean_left (variable_sites scope var) (flat_map (variable_sites scope) vars) sites),
    locals_fit scope vars are.1
        (λ array m. listed array (right_there (shaped_by var) (flat_map shaped_by vars) array m))
        (λ entry m. good entry
        (right_there (var_entries scope var) (flat_map (var_entries scope) vars) entry m)) knows
        (clean_right (variable_sites scope var) (flat_map (variable_sites scope) vars) sites),
  )

  all_clean : Clean (text_sites program)
  all_clean site m = clean_text program clean site (Contains-from_among (text_sites program) site m)

  whole : Front program (globals_of program)
  whole = ([], sym (append-nil (globals_of program)))

  routine_fits : (routine : Routine) → Among (routines_of program) routine →
      (earlier : List Entry) → routine.own ≡ own_entries earlier routine.procedure →
      FitAllDeclared setup (head_scope earlier routine.procedure) routine.procedure.locals
  routine_fits routine m earlier own =
      let procedure = routine.procedure in
      let vars = procedure.locals in
      let sound : IsSound routine = routine_sound program.decls [] routine tt grammar m in
      let member = Contains-from_among (routines_of program) routine m in
      let head = headed program.decls [] routine m whole all_clean in
      let scope = head_scope head.earlier procedure in
      let other = head_scope earlier procedure in
      let params = flat_map (param_entries scope) procedure.params in
      let good : Good routine.own =
      all_there (λ entry. IsGood entry.kind) routine.own
      (all_good routine.own
      (recursion_from_All (λ entry. IsKnownKind entry.kind) routine.own
      (laws.names routine member).own)
      (recursion_from_All (λ entry. HasRank entry.kind) routine.own
      (laws.ranked routine member).own) sound.shaped) in
      let heads = AtProcedure procedure ∷ flat_map (param_sites scope) procedure.params in
      let answer = map AtBase (option_to_list procedure.result) in
      let fits : FitAllDeclared setup scope vars =
      locals_fit scope vars sound.grammar.1
      (λ array n. right_there (flat_map shaped_in program.decls)
      (flat_map (λ routine. flat_map shaped_by routine.procedure.locals) (routines_of program))
      array
      (flat_there (λ routine. flat_map shaped_by routine.procedure.locals) (routines_of program)
      routine array m n))
      (λ entry n. good entry (subst (λ all. Among all entry) (sym head.own)
      (right_there params (flat_map (var_entries scope) vars) entry n)))
      (both_know scope (declaring [] head.earlier) last
      (own_knows (own_names procedure) head.earlier)
      (front_knows head.earlier head.front.0 (globals_of program) head.front.1))
      (clean_right (heads ++ answer) (flat_map (variable_sites scope) vars) head.sites) in
      vars_same setup scope other vars sound.grammar.1
      (params_cancel scope other procedure.params (flat_map (var_entries scope) vars)
      (flat_map (var_entries other) vars) (sym head.own ∙ own)) fits

  pub program_declared : FitsProgram program settings
  program_declared = record {
    globals = decls_fit program.decls [] grammar
        (λ array m. left-among (flat_map shaped_in program.decls)
        (flat_map (λ routine. flat_map shaped_by routine.procedure.locals) (routines_of program))
        array m) whole all_clean;
    locals = λ routine member earlier own. routine_fits routine
        (among_from_Contains (routines_of program) routine member) earlier own;
  }
