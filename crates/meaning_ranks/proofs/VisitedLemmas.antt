-- At each place that a run visits, ranks agree.
use Rattle.std.proofs.Common.{◌≡◌, true, List, [], ◌∷◌, ◌++◌, map, Option, Some, IsSome, subst, sym}
use Rattle.std.proofs.Common.{append_assoc}
use Rattle.std.specs.List.{AllByRecursion, flat_map}
use Rattle.std.proofs.lemmas.List.Elements.{recursion_from_All}
use Rattle.meaning_runs.specs.of_zpl_tree.Syntax.{Name, Prefix, Program, Stmt, Prefixed, Form, Block, Base, Param}
use Rattle.meaning_runs.specs.of_zpl_tree.Syntax.{Bracket, NoBracket, Bracketed}
use Rattle.meaning_runs.specs.of_zpl_tree.Syntax as plain
use Rattle.meaning_runs.specs.of_zpl_tree.Grammar.{IsForm, IsProgram}
use Rattle.meaning_runs.specs.of_zpl_names.Kinds.{Rank, Formal, Signature}
use Rattle.meaning_runs.specs.of_zpl_names.Scope.{Entry, Scope}
use Rattle.meaning_runs.specs.of_zpl_names.Ranks.{IsKnownKind}
use Rattle.meaning_runs.specs.of_zpl_names.Shapes.{Shapes, variable_kind}
use Rattle.meaning_runs.specs.of_zpl_names.Declared.{entry_for, head_scope, own_entries, formal_of, formals_of}
use Rattle.meaning_runs.specs.of_zpl_names.Declared.{signature_of, routine_named, routines_of}
use Rattle.meaning_runs.specs.of_zpl_names.Sites.{form_sites}
use Rattle.meaning_runs.specs.of_zpl_names.Faults.{ends_in_border}
use Rattle.meaning_runs.specs.of_zpl_names.Accepted.{IsFaultless}
use Rattle.meaning_runs.proofs.of_zpl_names.ListLemmas.{Contains-from_among}
use Rattle.meaning_runs.specs.of_zpl_binding.Settings.{Setting}
use Rattle.meaning_runs.specs.of_zpl_meaning.Context.{Place, Setup}
use Rattle.meaning_runs.specs.of_zpl_meaning.Regions.{under_prefix}
use Rattle.meaning_runs.specs.of_zpl_meaning.Proper.{IsArrayRank}
use Rattle.meaning_runs.specs.of_zpl_meaning.Visited.{first_setup, IsUnder, IsVisited}
use Rattle.meaning_runs.proofs.of_zpl_meaning.ProperLemmas.{Fits, reach_at}
use Rattle.meaning_runs.proofs.of_zpl_meaning.VisitLemmas.{Laws, clean_of, Inside, InStmt, InBody}
use Rattle.meaning_ranks.specs.Ranked.{IsRankedForm, IsRankedUnder, IsRankedStmt}
use Rattle.meaning_ranks.proofs.RankLemmas.{KnowsDirections}
use Rattle.meaning_ranks.proofs.FormLemmas.{form_ranked, under_ranked, IsKnownFormal}
use Rattle.meaning_ranks.proofs.FormLemmas.{KnowsFormals}
use Rattle.meaning_ranks.proofs.DirectionLemmas.{directions_known}
use Rattle.meaning_ranks.proofs.PlaceLemmas.{IsAt, behind, inside_at, same_scope, visited_at}
use Rattle.meaning_ranks.proofs.PlaceLemmas.{found_routine}

-- ---- the shapes of parameters

known_append : (xs ys : List Formal) → AllByRecursion IsKnownFormal xs
    → AllByRecursion IsKnownFormal ys → AllByRecursion IsKnownFormal (xs ++ ys)
known_append [] ys h k = k
known_append (x ∷ xs) ys h k = (h.0, known_append xs ys h.1 k)

-- a parameter's entries, and then what stands behind them
names_known : (names : List Name) (scope : Scope) (param : Param) (rest : List Entry)
    → AllByRecursion (λ entry. IsKnownKind entry.kind)
    (map (entry_for (variable_kind scope param.shape param.base)) names ++ rest)
    → AllByRecursion IsKnownFormal (map (λ name. formal_of scope param) names)
    × AllByRecursion (λ entry. IsKnownKind entry.kind) rest
names_known [] scope param rest h = (tt, h)
names_known (name ∷ names) scope param rest h =
    let later = names_known names scope param rest h.1 in
    ((by param.shape h.0, later.0), later.1)
  where
    by : (shape : Bracket) → IsKnownKind (variable_kind scope shape param.base)
        → IsKnownFormal (formal_of scope (record param { shape = shape }))
    by NoBracket h = tt
    by (Bracketed inner) h = h

params_known : (params : List Param) (scope : Scope) (rest : List Entry)
    → AllByRecursion (λ entry. IsKnownKind entry.kind)
    (flat_map (λ param. map (entry_for (variable_kind scope param.shape param.base)) param.names)
    params ++ rest)
    → AllByRecursion IsKnownFormal (formals_of scope params)
params_known [] scope rest h = tt
params_known (param ∷ params) scope rest h =
    let others = flat_map
    (λ (param : Param). map (entry_for (variable_kind scope param.shape param.base)) param.names)
    params in
    let first = map (entry_for (variable_kind scope param.shape param.base)) param.names in
    let parts = names_known param.names scope param (others ++ rest)
    (subst (AllByRecursion (λ entry. IsKnownKind entry.kind)) (append_assoc first others rest) h) in
    known_append (map (λ name. formal_of scope param) param.names) (formals_of scope params) parts.0
    (params_known params scope rest parts.1)

formals_of_known : (earlier : List Entry) (procedure : plain.Procedure)
    → AllByRecursion (λ entry. IsKnownKind entry.kind) (own_entries earlier procedure)
    → AllByRecursion IsKnownFormal (signature_of earlier procedure).formals
formals_of_known earlier procedure h =
    params_known procedure.params (head_scope earlier procedure) _ h

formals_behind : (prefixes : List Prefix) (place inner : Place) → IsUnder prefixes place inner
    → KnowsFormals place → KnowsFormals inner
formals_behind [] place inner IsUnder.Itself h = h
formals_behind (prefix ∷ rest) place inner (IsUnder.Behind over deeper) h =
    formals_behind rest (under_prefix place prefix over) inner deeper h

module _ (program : Program) (settings : List Setting) (laws : Laws program)
    (grammar : IsProgram program) (clean : IsFaultless program) where
  abbrev At : Place → Shapes → Stmt → Type 0
  At place shapes stmt = IsAt program settings laws grammar clean place shapes stmt

  -- the directions in reach
  pub aimed : (place : Place) (shapes : Shapes) (stmt : Stmt) → At place shapes stmt
      → KnowsDirections place.scope
  aimed place shapes stmt h =
      let member = Contains-from_among (routines_of program) h.routine h.member in
      subst KnowsDirections (sym h.scoped)
      (directions_known program grammar h.routine h.member (laws.names h.routine member)
      (laws.ranked h.routine member))

  -- the parameters of what is called there
  formals_known : (place : Place) (shapes : Shapes) (stmt : Stmt) → At place shapes stmt
      → KnowsFormals place
  formals_known place shapes stmt h name signature e =
      let callee = h.fits.callees name signature e in
      let named : routine_named program name.text ≡ Some callee.0 =
      subst (λ (s : Setup). routine_named s.program name.text ≡ Some callee.0) h.owned callee.1 in
      let member = Contains-from_among (routines_of program) callee.0
      (found_routine program settings laws grammar clean name.text callee.0 named) in
      subst (λ (s : Signature). AllByRecursion IsKnownFormal s.formals) (sym callee.2.signed)
      (formals_of_known callee.2.earlier callee.0.procedure
      (subst (AllByRecursion (λ entry. IsKnownKind entry.kind)) callee.2.own
      (recursion_from_All (λ entry. IsKnownKind entry.kind) callee.0.own
      (laws.names callee.0 member).own)))

  at_ranked : (place : Place) (shapes : Shapes) (stmt : Stmt) → At place shapes stmt
      → IsRankedStmt place stmt
  at_ranked place shapes (Prefixed at prefixes form) h =
      under_ranked laws.ranks prefixes form place shapes h.shattered h.result h.fits
      (aimed place shapes (Prefixed at prefixes form) h)
      (clean_of program h.text h.around _ h.sites.0) h.tree.0 (λ inner under ends.
      let deeper = behind program settings laws grammar clean place inner shapes at prefixes form h
      under in
      by form inner deeper.under h.shattered h.result
      (inside_at program settings laws grammar clean place inner shapes at prefixes form h under)
      h.tree.1 ends deeper.fits
      (subst KnowsDirections
      (sym (same_scope program settings laws grammar clean prefixes place inner under))
      (aimed place shapes (Prefixed at prefixes form) h))
      (formals_behind prefixes place inner under
      (formals_known place shapes (Prefixed at prefixes form) h)) h.known)
    where
      by : (form : Form) (inner : Place) (under : Shapes) (shattered : Rank) (result : Option Base)
          → Inside program h.text h.around (reach_at inner under shattered result) at prefixes form
          → IsForm form → (ends_in_border prefixes ≡ true → IsArrayRank inner.prefix)
          → Fits inner under → KnowsDirections inner.scope → KnowsFormals inner → IsSome shattered
          → IsRankedForm inner form
      by form inner under shattered result (InStmt k) g ends fits known formals s =
          form_ranked laws.ranks form at prefixes inner under shattered result fits known formals s
          ends
          k.0.clean (clean_of program h.text h.around
          (form_sites (reach_at inner under shattered result) form) k.1) g
      by (Block body) inner under shattered result (InBody answer k) g ends fits known formals s =
          tt

  pub visited_ranked : (place : Place) (stmt : Stmt)
      → IsVisited (first_setup program settings) place stmt → IsRankedStmt place stmt
  visited_ranked place stmt visited =
      let found = visited_at program settings laws grammar clean place stmt visited in
      at_ranked place found.0 stmt found.1

-- a form behind prefixes, where the statement is ranked
pub ranked_behind : (prefixes : List Prefix) (form : Form) (place inner : Place)
    → IsRankedUnder place prefixes form → IsUnder prefixes place inner → IsRankedForm inner form
ranked_behind [] form place inner h IsUnder.Itself = h
ranked_behind (prefix ∷ rest) form place inner h (IsUnder.Behind over deeper) =
    ranked_behind rest form (under_prefix place prefix over) inner (h.1 over) deeper
